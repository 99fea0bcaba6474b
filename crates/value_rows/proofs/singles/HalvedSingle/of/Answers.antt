use Rattle.std.proofs.Common.{rules, ◌^◌, pos, ap, ◌∙◌, ℤ}
use Rattle.std.specs.Prelude.{FitsSigned}
use Rattle.std.specs.Int.{int_div_euclid}
use Rattle.std.proofs.lemmas.Int.{to_z-of_z}
use Rattle.std.proofs.lemmas.Nat.{pow_pos}
use mir.Syntax.{w64}
use Rattle.value_rows.proofs.Bits.{halved_by}
use Rattle.value_rows.proofs.singles.HalvedSingle.of.Goals as goal

pub returns : goal.returns
returns g c =
    let e = c.args.self.now.exponent in
    let value : FitsSigned w64 c.widen.result = search rules in
    let mask : FitsSigned w64 c.widen-2.result = search rules in
    let raised : FitsSigned w64 c.raised.result = search rules in
    let low = rw (to_z-of_z w64 c.widen.result value, to_z-of_z w64 c.widen-2.result mask) at c.raised.ensures.below in
    let high = rw (to_z-of_z w64 c.widen.result value) at c.raised.ensures.above in
    c.down.ensures ∙ ap (λ (x : ℤ). int_div_euclid x (pos (2 ^ e))) (rw (to_z-of_z w64 c.raised.result raised) at c.narrow-raised.ensures)
    ∙ halved_by (g.L.Element.worth c.args.operand) c.widen.result c.widen-2.result c.raised.result (2 ^ e) (pow_pos e) c.widen.ensures.value (c.widen-2.ensures.value ∙ c.requires.1) low high
