use Rattle.std.proofs.Common.{◌≡◌, ℕ, ◌∷◌, ◌++◌, [], List, Some, length, length-append, ap, sym, subst, ◌∙◌, arith}
use Rattle.std.specs.Prelude.{slice_get, slice_index_or}
use Rattle.std.proofs.lemmas.Option.{slice_get-get_or}
use Rattle.wiring.specs.declared.netlist.Net.{Net}
use Rattle.circuit.specs.Splits.{IsTapAmong}
use Rattle.circuit.proofs.Splitting.{age_there, taps_push}
use Rattle.circuit.proofs.finer.taps_among.Goals as goal

pub tap_among-requires-clause-there : goal.tap_among-requires-clause-there
tap_among-requires-clause-there c = λ some. c.requires.finer.among (slice_index_or c.args.ages.now c.loop-age.age-index 0) (c.loop-age.age-index, omega arith, age_there c.args.ages.now c.loop-age.age-index _ (omega arith)) some

pub loop-age-preserved : goal.loop-age-preserved
loop-age-preserved c =
    let taps : List Net = c.loop-age.taps.items in
    let age : ℕ = slice_index_or c.args.ages.now c.loop-age.age-index 0 in
    let here : slice_get c.args.ages.now (length taps) ≡ Some age = ap (slice_get c.args.ages.now) c.loop-age.invariant.long ∙ slice_get-get_or c.args.ages.now c.loop-age.age-index 0 (omega arith) in
    let more = taps_push c.args.ages.now c.args.split.now c.args.nets.now c.args.value taps age c.tap_among.result here c.loop-age.invariant.each c.tap_among.ensures in
    record {
      long = (let longer : length c.push.new.self.items ≡ length (taps ++ c.tap_among.result ∷ []) = ap length c.in_ok-push.ensures.items in omega (arith, longer, length-append taps (c.tap_among.result ∷ []), c.loop-age.invariant.long));
      each = subst (λ (ts : List Net). (k a : ℕ) (t : Net) → slice_get c.args.ages.now k ≡ Some a → slice_get ts k ≡ Some t → IsTapAmong c.args.split.now c.args.nets.now c.args.value a t) (sym c.in_ok-push.ensures.items) more;
    }
