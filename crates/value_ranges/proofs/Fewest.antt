-- The types of fewest bits.
use Rattle.std.proofs.Common.{◌≡◌, ℕ, ◌+◌, ◌-◌, ◌*◌, ◌^◌, ◌<◌, ◌≤◌, ℤ, pos, negsuc, ◌-ℤ◌, ◌≤ℤ◌, ◌<ℤ◌, arith, refl, subst}
use Rattle.std.specs.Int.{int_max}
use Rattle.std.proofs.lemmas.Int.{ints, clamps}
use Rattle.std.proofs.Math.Pow.{pow_mono}
use Rattle.dk_base.specs.declared.ty.Ty.{Ty}
use Rattle.dk_base.specs.declared.ty.Ty.TheVariants.{Unsigned, Signed}
use Rattle.dk_base.specs.Types.{IsType, IsIn, width_of}
use Rattle.dk_base.specs.Numbers.{IsBitCount}
use Rattle.dk_base.proofs.Codes.{half}
use Rattle.value_ranges.specs.declared.interval.Interval.{Interval}
use Rattle.value_ranges.specs.Intervals.{IsHeldBy, IsLeastType, HasNoType}

-- an interval without values
pub none_least : (r : Interval) → r.greatest <ℤ r.least → IsLeastType r (Unsigned 1)
none_least r lt = record {
  typed = record { some = omega arith; most = omega arith };
  holds = λ v is. absurd (let l = is.least in let g = is.greatest in omega (arith, ints, lt, l, g));
  fewest = λ u ok held. ok.some;
  unsigned = λ some. refl;
}

ends : (r : Interval) (u : Ty) → r.least ≤ℤ r.greatest → IsHeldBy r u → IsIn u r.least × IsIn u r.greatest
ends r u some held = (held r.least (record { least = omega (arith, ints); greatest = some }), held r.greatest (record { least = some; greatest = omega (arith, ints) }))

below_power : (u : Ty) (g : ℕ) → IsType u → IsIn u (pos g) → g < 2 ^ width_of u
below_power (Unsigned m) g ok is = let h = is.greatest in omega (arith, ints, h)
below_power (Signed m) g ok is = let h = is.greatest in let p = half m ok.some in omega (arith, ints, h, p)

pub unsigned_least : (r : Interval) (g n : ℕ) → r.least ≤ℤ r.greatest → pos 0 ≤ℤ r.least → r.greatest ≡ pos g → g < 2 ^ 64 → IsBitCount g n → IsLeastType r (Unsigned n)
unsigned_least r g n some low e few is =
    let P : ℤ → Ty → Type 0 = λ v u. IsIn u v in
    record {
      typed = record { some = is.some; most = is.least 64 (omega arith) few };
      holds = λ v h. let l = h.least in let k = h.greatest in let b = is.holds in record { least = omega (arith, ints, l, low); greatest = omega (arith, ints, k, e, b) };
      fewest = λ u ok held. is.least (width_of u) ok.some (below_power u g ok (let Q : ℤ → Type 0 = λ v. IsIn u v in subst Q e (ends r u some held).1));
      unsigned = λ any. refl;
    }

-- the number that is furthest from 0, where one below 0 counts one less
near : (u : Ty) (r : Interval) (reach : ℕ) → r.least <ℤ pos 0 → pos reach ≡ int_max r.greatest (negsuc 0 -ℤ r.least) → IsType u → IsIn u r.least → IsIn u r.greatest → 2 * reach + 1 < 2 ^ width_of u
near (Unsigned m) r reach low e ok least greatest = absurd (let l = least.least in omega (arith, ints, l, low))
near (Signed m) r reach low e ok least greatest =
    let l = least.least in let g = greatest.greatest in let p = half m ok.some in
    let few : reach < 2 ^ (m - 1) = omega (arith, ints, clamps, e, l, g) in
    omega (arith, few, p)

pub signed_least : (r : Interval) (reach n : ℕ) → r.least ≤ℤ r.greatest → r.least <ℤ pos 0 → pos reach ≡ int_max r.greatest (negsuc 0 -ℤ r.least) → reach < 2 ^ 63 → IsBitCount (2 * reach + 1) n → IsLeastType r (Signed n)
signed_least r reach n some low e few is =
    let p = half n is.some in
    let b = is.holds in
    let far : reach < 2 ^ (n - 1) = omega (arith, p, b) in
    record {
      typed = record { some = is.some; most = is.least 64 (omega arith) (let few' : 2 * reach + 1 < 2 ^ 64 = omega (arith, few) in few') };
      holds = λ v h. let l = h.least in let k = h.greatest in record { least = omega (arith, ints, clamps, l, e, far); greatest = omega (arith, ints, clamps, k, e, far) };
      fewest = λ u ok held. let both = ends r u some held in is.least (width_of u) ok.some (near u r reach low e ok both.0 both.1);
      unsigned = λ any. absurd (omega (arith, ints, any, low));
    }
