-- The types of literals.
use Rattle.std.proofs.Common.{◌≡◌, ℕ, suc, ◌^◌, ◌<◌, ◌≤◌, arith, inl, inr, ap, refl}
use Rattle.std.proofs.Math.Pow.{pow_mono}
use Rattle.std.proofs.lemmas.Bool.{cases_lt}
use Rattle.dk_base.specs.declared.ty.Ty.TheVariants.{Unsigned}
use Rattle.dk_base.specs.Numbers.{IsBitCount, bit_count}
use Rattle.dk_base.specs.Operators.{literal_type}
use Rattle.dk_base.proofs.BitCounts.{bit_count_is, bit_count_only}

-- a number of this many bits
pub literal : (v n : ℕ) → v < 2 ^ 64 → 2 ^ n ≤ v → v < 2 ^ suc n → literal_type v ≡ Unsigned (suc n)
literal v n fits least most =
    let bits : IsBitCount v (suc n) = record {
      some = omega arith;
      holds = most;
      least = λ m some above. elim (cases_lt m (suc n)) [
        | inl low ↦ let k : m ≤ n = omega (arith, low) in let p : 2 ^ m ≤ 2 ^ n = pow_mono k in absurd (omega (arith, p, above, least))
        | inr high ↦ high
      ];
    } in
    ap Unsigned (bit_count_only v (bit_count v) (suc n) (bit_count_is v (bit_count v) fits refl) bits)
