use Rattle.std.proofs.Common.{◌≡◌, ◌≤◌, pos, ◌^◌, ◌∙◌, ap, arith, ◌≤ℤ◌, ◌<ℤ◌}
use Rattle.std.proofs.Math.Pow.{pow_mono}
use Rattle.std.proofs.lemmas.Int.{ints, to_z-of_z}
use Rattle.std.specs.Int.{int_rem_euclid}
use Rattle.dk_base.specs.Types.{width_of, greatest_of}
use Rattle.dk_base.proofs.Congruence.{code_below}
use Rattle.dk_base.proofs.Wrapping.{bits_are, wrap_low, wrap_high}
use Rattle.dk_base.proofs.number.wrap.Goals as goal

pub returns-then-bits-greatest : goal.returns-then-bits-greatest
returns-then-bits-greatest c =
    let value : c.rem_euclid-bits.result ≡ int_rem_euclid c.args.value c.power-modulus.result = grind (arith, to_z-of_z, c.rem_euclid-bits.ensures.value) in
    let is = bits_are c.args.ty c.args.value _ _ _ c.width.ensures c.power-modulus.ensures value in
    let low : c.rem_euclid-bits.result ≤ℤ greatest_of c.args.ty = omega (arith, ints) in
    let end = wrap_low c.args.ty c.args.value _ is low in
    omega (arith, ints, end)

pub returns-else-bits-greatest : goal.returns-else-bits-greatest
returns-else-bits-greatest c =
    let value : c.rem_euclid-bits.result ≡ int_rem_euclid c.args.value c.power-modulus.result = grind (arith, to_z-of_z, c.rem_euclid-bits.ensures.value) in
    let is = bits_are c.args.ty c.args.value _ _ _ c.width.ensures c.power-modulus.ensures value in
    let high : greatest_of c.args.ty <ℤ c.rem_euclid-bits.result = omega (arith, ints) in
    let end = wrap_high c.args.ty c.args.value _ is high in
    let modulus : c.power-modulus.result ≡ pos (2 ^ width_of c.args.ty) = c.power-modulus.ensures ∙ ap (λ k. pos (2 ^ k)) c.width.ensures in
    let most : 2 ^ width_of c.args.ty ≤ 2 ^ 64 = pow_mono c.requires.most in
    let bits = code_below (width_of c.args.ty) c.args.value in
    omega (arith, ints, end, is, modulus, most, bits)
