use Rattle.std.proofs.Common.{ℕ, length, subst, rules}
use Rattle.lane_rows.specs.Values.{numbers_in, values_of}
use Rattle.batch_sim.specs.Arrays.{TriesArray}
use Rattle.batch_sim.proofs.OnePass.{numbers_passed, read_there}
use Rattle.batch_sim.proofs.judge.arrays.pass_rows.Goals as goal

pub returns-then-is_one_slot-clause-passed : goal.returns-then-is_one_slot-clause-passed
returns-then-is_one_slot-clause-passed c =
    let rows = values_of c.args.rows.now in
    let a = c.numbers_of_access-all.result in
    let count : ℕ = length c.args.to.now in
    let there = read_there rows c.args.access.now.read.now c.args.access.now.put.now count a c.numbers_of_access-all.ensures.rows (search rules) in
    numbers_passed rows c.args.access.now.read.now c.args.access.now.put.now count a c.numbers_of_access-all.ensures.rows c.args.words.now c.pass_changed_numbers.new.words c.pass_changed_numbers.new.lost (numbers_in a.index) there c.pass_changed_numbers.result
    (subst (λ (n : ℕ). TriesArray c.pass_changed_numbers.result c.args.words.now c.pass_changed_numbers.new.words c.pass_changed_numbers.new.lost n (numbers_in a.index) (numbers_in a.index) (numbers_in a.value) (numbers_in a.target)) c.requires.lost c.pass_changed_numbers.ensures)

pub returns-clause-passed : goal.returns-clause-passed
returns-clause-passed c =
    let a = c.numbers_of_access-all.result in
    numbers_passed (values_of c.args.rows.now) c.args.access.now.read.now c.args.access.now.put.now (length c.args.to.now) a c.numbers_of_access-all.ensures.rows c.args.words.now c.pass_numbers.new.words c.pass_numbers.new.lost (numbers_in a.read) c.numbers_of_access-all.ensures.rows.read c.pass_numbers.result c.pass_numbers.ensures
