use Rattle.buffer_plan.proofs.Aged.{are_ages, ages_once, last_age, depth_most}
use Rattle.buffer_plan.proofs.laws.ages_of_images_law.Goals as goal

pub returns-clause-ages : goal.returns-clause-ages
returns-clause-ages c = are_ages

pub returns-clause-one : goal.returns-clause-one
returns-clause-one c = ages_once

pub returns-clause-depth : goal.returns-clause-depth
returns-clause-depth c = last_age

pub returns-clause-most : goal.returns-clause-most
returns-clause-most c = λ p g is kept. depth_most p is g kept
