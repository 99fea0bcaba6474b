use Rattle.std.proofs.Common.{rules, ◌≡◌, ◌∙◌, ℕ, suc, ◌<◌, ◌-◌, List, length, map, slice_set, refl, ap, arith}
use Rattle.std.specs.Prelude.{slice_index}
use Rattle.std.proofs.lemmas.List.{length-map}
use Rattle.batch_sim.proofs.OnePass.{single_passed}
use Rattle.batch_sim.proofs.judge.arrays.pass_one.Goals as goal

pub returns-clause-passed : goal.returns-clause-passed
returns-clause-passed g c = λ _ index inside.
    let words : List ℕ = c.args.words.now in
    let value : List ℕ = map g.V.Lane.value c.args.value.now in
    let target : List ℕ = map g.V.Lane.value c.args.target.now in
    let count : ℕ = length c.args.lost.now in
    let some : 0 < count = search rules in
    let first : slice_index target 0 ≡ slice_index words 0 = (c.if-not-follows.ensures refl).first in
    let long : length c.first_of.result.now ≡ count - 1 = c.first_of.ensures.count in
    let later : (t : ℕ) → suc t < count → slice_index target (suc t) ≡ slice_index value t = λ t l. (c.if-not-follows.ensures refl).later t (omega (arith, l, long, length-map c.first_of.result.now g.V.Lane.value)) ∙ c.first_of.ensures.each t (omega (arith, l)) in
    single_passed words value target count c.requires.one first later (slice_set words 0 c.number_at.result) c.keep_first.new.lost (count - 1) (omega (arith, some)) c.keep_first.ensures.first (ap (λ v. slice_set words 0 v) c.number_at.ensures) index inside
