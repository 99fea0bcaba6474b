use Rattle.std.proofs.Common.{ℕ, List, ◌++◌, ◌+◌, ◌<◌, [], append_assoc, append-nil, drop, length, subst, sym, ap, ◌∙◌, arith}
use Rattle.std.specs.Prelude.{slice_index}
use Rattle.circuit.specs.Divided.{AreDivided, ages_after}
use Rattle.circuit.proofs.Dividing.{drop_here, none_left, divided_more, divided_none, next_segment, later_segments}
use Rattle.circuit.proofs.splits.divided.Goals as goal

pub add_arrays-requires-clause-long : goal.add_arrays-requires-clause-long
add_arrays-requires-clause-long c = (
  c.requires.long.0,
  c.requires.long.1,
  c.requires.long.2 _ (c.loop-age.invariant.among _ (next_segment c.loop-age.low c.args.ages.now c.loop-age.age-index c.loop-age-test.true)),
)

pub loop-age-preserved : goal.loop-age-preserved
loop-age-preserved c =
    let ages = c.args.ages.now in
    let low = c.loop-age.low in
    let k = c.loop-age.age-index in
    let there : k < length ages = c.loop-age-test.true in
    let before = c.loop-age.split.items in
    record {
      below = λ more. (let up = c.requires.ascending k more in omega (arith, up));
      among = λ words has. c.loop-age.invariant.among words (later_segments low ages k words there has);
      goes_on = λ all rest are inside d.
          let adds = c.in_ok-add_arrays.ensures all are (inside _ (c.loop-age.invariant.among _ (next_segment low ages k there))) in
          let more : AreDivided c.args.least all low (drop k ages) (ages_after low adds.arrays ++ rest) =
          subst (λ (l : List ℕ). AreDivided c.args.least all low l (ages_after low adds.arrays ++ rest)) (sym (drop_here ages k 0 there))
          (divided_more c.args.least all low (slice_index ages k) (drop (k + 1) ages) adds.arrays rest (c.loop-age.invariant.below there) adds.are d) in
          subst (AreDivided c.args.least all 0 ages) (sym (append_assoc before (ages_after low adds.arrays) rest) ∙ ap (λ (l : List ℕ). l ++ rest) (sym adds.added))
          (c.loop-age.invariant.goes_on all (ages_after low adds.arrays ++ rest) are inside more);
    }

pub returns : goal.returns
returns c = λ all are inside.
    let ages = c.args.ages.now in
    let none : AreDivided c.args.least all c.loop-age.low (drop c.loop-age.age-index ages) [] = subst (λ (l : List ℕ). AreDivided c.args.least all c.loop-age.low l []) (sym (none_left ages c.loop-age.age-index (omega arith))) (divided_none c.args.least all c.loop-age.low) in
    subst (AreDivided c.args.least all 0 ages) (append-nil c.loop-age.split.items) (c.loop-age.invariant.goes_on all [] are inside none)
