use Rattle.dk_base.proofs.Nearest.{saturated_is, saturated_only, saturate_kept}
use Rattle.dk_base.proofs.number.saturate_law.Goals as goal

pub returns-clause-nearest : goal.returns-clause-nearest
returns-clause-nearest c = λ v. saturated_is c.args.ty v c.requires

pub returns-clause-only : goal.returns-clause-only
returns-clause-only c = λ v w h. saturated_only c.args.ty v w c.requires h

pub returns-clause-kept : goal.returns-clause-kept
returns-clause-kept c = λ v h. saturate_kept c.args.ty v c.requires h
