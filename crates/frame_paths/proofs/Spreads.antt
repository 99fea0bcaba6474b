-- How far a chain of steps leads.
use Rattle.std.proofs.Common.{◌≡◌, ℕ, ◌≤◌, ◌<◌, ℤ, ◌+ℤ◌, ◌-ℤ◌, ◌≤ℤ◌, ◌<ℤ◌, ◌⊎◌, inl, inr, unsigned_abs, ◌^◌, w32, to_z, of_z, arith}
use Rattle.std.proofs.lemmas.Int.{ints, clamps, to_z-of_z, fits_signed_from_abs}
use Rattle.std.specs.Int.{int_max}
use Rattle.frame_paths.specs.declared.moves.Moves.{Moves}
use Rattle.frame_paths.specs.declared.moves.Offsets.{Offsets}
use Rattle.frame_paths.specs.Moves.{brought, Leads, LeadWithin, IsOffset}
use Rattle.frame_paths.proofs.Chains.{brought_is, either}

pub small32 : (z : ℤ) → unsigned_abs z < 2 ^ 31 → to_z w32 (of_z w32 z) ≡ z
small32 z h = to_z-of_z w32 z (fits_signed_from_abs w32 z h)

pub brought_small : (side : ℕ) (m : Moves) (v : ℤ) → LeadWithin side m → side ≤ 4096 → unsigned_abs (brought m.least m.most v) < 4096
brought_small side m v is h =
    let b = brought_is m.least m.most v is.order in
    omega (arith, ints, b, is.least, is.order, is.most, h)

-- the offsets are all between the last and the first
offset_in : (side : ℕ) (m : Moves) → LeadWithin side m → (d x : ℤ) → Leads m x (x +ℤ d)
    → IsOffset (record { least = brought m.least m.most (m.last +ℤ m.shift) -ℤ m.last; greatest = brought m.least m.most (m.first +ℤ m.shift) -ℤ m.first }) d
offset_in side m is d x k =
    let a = brought_is m.least m.most (m.last +ℤ m.shift) is.order in
    let b = brought_is m.least m.most (m.first +ℤ m.shift) is.order in
    let c = brought_is m.least m.most (x +ℤ m.shift) is.order in
    let to = k.to in
    let f = k.first in
    let l = k.last in
    record { least = omega (arith, ints, a, c, to, f, l, is.order); greatest = omega (arith, ints, b, c, to, f, l, is.order) }

-- and each between them is of some coordinate
offset_at : (side : ℕ) (m : Moves) → LeadWithin side m → (d : ℤ)
    → IsOffset (record { least = brought m.least m.most (m.last +ℤ m.shift) -ℤ m.last; greatest = brought m.least m.most (m.first +ℤ m.shift) -ℤ m.first }) d
    → (d ≤ℤ m.shift) ⊎ (m.shift <ℤ d) → (m.shift ≤ℤ d) ⊎ (d <ℤ m.shift) → (x : ℤ) × Leads m x (x +ℤ d)
offset_at side m is d k (inr above) e =
    let x = m.least -ℤ d in
    let a = brought_is m.least m.most (m.last +ℤ m.shift) is.order in
    let b = brought_is m.least m.most (m.first +ℤ m.shift) is.order in
    let c = brought_is m.least m.most (x +ℤ m.shift) is.order in
    let l = k.least in
    let g = k.greatest in (
      x,
      record {
        first = omega (arith, ints, b, g, above, is.order);
        last = omega (arith, ints, a, l, above, is.order);
        to = omega (arith, ints, c, above, is.order);
      },
    )
offset_at side m is d k (inl e) (inr below) =
    let x = m.most -ℤ d in
    let a = brought_is m.least m.most (m.last +ℤ m.shift) is.order in
    let b = brought_is m.least m.most (m.first +ℤ m.shift) is.order in
    let c = brought_is m.least m.most (x +ℤ m.shift) is.order in
    let l = k.least in
    let g = k.greatest in (
      x,
      record {
        first = omega (arith, ints, b, g, below, is.order);
        last = omega (arith, ints, a, l, below, is.order);
        to = omega (arith, ints, c, below, is.order);
      },
    )
offset_at side m is d k (inl e) (inl f) =
    let x = int_max m.first (m.least -ℤ m.shift) in
    let a = brought_is m.least m.most (m.last +ℤ m.shift) is.order in
    let b = brought_is m.least m.most (m.first +ℤ m.shift) is.order in
    let c = brought_is m.least m.most (x +ℤ m.shift) is.order in
    let l = k.least in
    let g = k.greatest in (
      x,
      record {
        first = omega (arith, ints, clamps);
        last = omega (arith, ints, clamps, a, l, e, f, is.order, is.some);
        to = omega (arith, ints, clamps, a, b, c, l, g, e, f, is.order, is.some);
      },
    )

pub offsets_are : (side : ℕ) (m : Moves) (o : Offsets) → LeadWithin side m
    → o.least ≡ brought m.least m.most (m.last +ℤ m.shift) -ℤ m.last → o.greatest ≡ brought m.least m.most (m.first +ℤ m.shift) -ℤ m.first
    → (d : ℤ) → (IsOffset o d → (x : ℤ) × Leads m x (x +ℤ d)) × (((x : ℤ) × Leads m x (x +ℤ d)) → IsOffset o d)
offsets_are side m o is l g d = (
  (λ k. let a = k.least in let b = k.greatest in
      offset_at side m is d (record { least = omega (arith, ints, a, l); greatest = omega (arith, ints, b, g) }) (either d m.shift) (either m.shift d)),
  (λ k. let i = offset_in side m is d k.0 k.1 in let a = i.least in let b = i.greatest in
      record { least = omega (arith, ints, a, l); greatest = omega (arith, ints, b, g) }),
)
