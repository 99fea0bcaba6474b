use Rattle.std.proofs.Common.{◌≡◌, ◌≤◌, ◌+◌, ℕ, List, [], ◌∷◌, ◌++◌, length, replicate, sym, subst, ◌∙◌, ap, arith}
use Rattle.std.specs.Prelude.{slice_index}
use Rattle.std.proofs.lemmas.List.{length-append}
use Rattle.std.proofs.lemmas.Grind.{get_or_default_zero}
use Rattle.lane_rows.specs.declared.row.Row.{Row}
use Rattle.lane_rows.specs.Values.{row_bits, row_values, values_of, InLanes}
use Rattle.batch_guess.proofs.Made.{values_more, more_in_lanes}
use Rattle.batch_guess.proofs.guess.slot_rows.Goals as goal

pub loop-slot-preserved : goal.loop-slot-preserved
loop-slot-preserved c =
    let rows : List Row = c.loop-slot.rows.items in
    let r : Row = c.in_ok-zero_row.field-0 in
    let k : ℕ = c.loop-slot.slot in
    let pushed : c.push.new.self.items ≡ rows ++ r ∷ [] = c.in_ok-push.ensures.items in
    let zeros : row_values r ≡ replicate c.args.long 0 = c.in_ok-zero_row.ensures.zeros in
    let width : c.index-widths-slot.result ≡ slice_index c.args.widths.now k = c.index-widths-slot.is ∙ get_or_default_zero c.args.widths.now k c.index-widths-slot.result c.loop-slot-test.true in
    let bits : slice_index c.args.widths.now k ≤ row_bits r = omega (arith, width, c.bits.ensures.bits, c.in_ok-zero_row.ensures.bits) in
    record {
      count = ap (λ (l : List Row). length l) pushed ∙ length-append rows (r ∷ []) ∙ ap (λ n. n + 1) c.loop-slot.invariant.count;
      values = ap (λ (l : List Row). values_of l) pushed ∙ values_more rows r k c.args.long c.loop-slot.invariant.values zeros;
      lanes = subst (λ (l : List Row). InLanes c.args.widths.now l) (sym pushed) (more_in_lanes c.args.widths.now rows r k c.loop-slot.invariant.count bits c.loop-slot.invariant.lanes);
    }

pub returns-clause-values : goal.returns-clause-values
returns-clause-values c =
    let end : c.loop-slot.slot ≡ length c.args.widths.now = omega (arith, c.loop-slot-test.false, c.loop-slot.auto.slot-end) in
    c.loop-slot.invariant.values ∙ ap (λ n. replicate n (replicate c.args.long 0)) end

pub returns-clause-lanes : goal.returns-clause-lanes
returns-clause-lanes c = c.loop-slot.invariant.lanes
