-- Chains of steps in one coordinate.
use Rattle.std.proofs.Common.{◌≡◌, ℕ, ◌≤◌, ◌<◌, ℤ, pos, negsuc, ◌+ℤ◌, ◌-ℤ◌, ◌≤ℤ◌, ◌<ℤ◌, ◌⊎◌, inl, inr, refl, sym, ◌∙◌, ap, neg_ℤ, unsigned_abs, FitsSigned, ◌^◌, w64, to_z, of_z, arith, IsTrue}
use Rattle.std.proofs.lemmas.Int.{ints, clamps, to_z-of_z, fits_signed_from_abs}
use Rattle.std.specs.Int.{int_min, int_max}
use Rattle.std.proofs.lemmas.Bool.{cases_lt, ltb-true, lt-ltb}
use Rattle.dk_base.specs.Frames.{is_below, clamped}
use Rattle.pointwise_ir.specs.declared.expr.Edge.TheVariants.{Zero, Clamp}
use Rattle.frame_paths.specs.declared.moves.Moves.{Moves}
use Rattle.frame_paths.specs.Moves.{brought, Leads, LeadsThen, LeadWithin, IsIn, IsInterval}

pub same64 : (z : ℤ) → FitsSigned w64 z → to_z w64 (of_z w64 z) ≡ z
same64 z h = to_z-of_z w64 z h

pub small64 : (z : ℤ) → unsigned_abs z < 2 ^ 63 → to_z w64 (of_z w64 z) ≡ z
small64 z h = same64 z (fits_signed_from_abs w64 z h)

pub record AreSmall (m : Moves) : Type 0 where
  pub first : unsigned_abs m.first < 2 ^ 63
  pub last : unsigned_abs m.last < 2 ^ 63
  pub least : unsigned_abs m.least < 2 ^ 63
  pub most : unsigned_abs m.most < 2 ^ 63

pub are_small : (side : ℕ) (m : Moves) → LeadWithin side m → side ≤ 4096 → AreSmall m
are_small side m is h = record {
  first = omega (arith, ints, is.first, is.some, is.last, h);
  last = omega (arith, ints, is.first, is.some, is.last, h);
  least = omega (arith, ints, is.least, is.order, is.most, h);
  most = omega (arith, ints, is.least, is.order, is.most, h);
}

either_nat : (m n : ℕ) → (m < n) ⊎ (n ≤ m) → (pos n ≤ℤ pos m) ⊎ (pos m <ℤ pos n)
either_nat m n (inl l) = inr (omega (arith, ints, l))
either_nat m n (inr g) = inl (omega (arith, ints, g))

either_below : (m n : ℕ) → (m < n) ⊎ (n ≤ m) → (negsuc m ≤ℤ negsuc n) ⊎ (negsuc n <ℤ negsuc m)
either_below m n (inl l) = inr (omega (arith, ints, l))
either_below m n (inr g) = inl (omega (arith, ints, g))

pub either : (a b : ℤ) → (a ≤ℤ b) ⊎ (b <ℤ a)
either (pos m) (pos n) = either_nat n m (cases_lt n m)
either (pos m) (negsuc n) = inr (omega (arith, ints))
either (negsuc m) (pos n) = inl (omega (arith, ints))
either (negsuc m) (negsuc n) = either_below m n (cases_lt m n)

-- below the range, above it, or in it
abbrev Brought : (l h v r : ℤ) → Type 0
Brought l h v r = ((v ≤ℤ l) × (r ≡ l)) ⊎ (((h ≤ℤ v) × (r ≡ h)) ⊎ ((l ≤ℤ v) × (v ≤ℤ h) × (r ≡ v)))

brought_by : (l h v : ℤ) → l ≤ℤ h → (v ≤ℤ l) ⊎ (l <ℤ v) → (h ≤ℤ v) ⊎ (v <ℤ h) → Brought l h v (brought l h v)
brought_by l h v o (inl a) b = inl (a, omega (arith, ints, clamps, a, o))
brought_by l h v o (inr a) (inl b) = inr (inl (b, omega (arith, ints, clamps, a, b, o)))
brought_by l h v o (inr a) (inr b) = inr (inr (omega (arith, ints, a), omega (arith, ints, b), omega (arith, ints, clamps, a, b, o)))

pub brought_is : (l h v : ℤ) → l ≤ℤ h → Brought l h v (brought l h v)
brought_is l h v o = brought_by l h v o (either v l) (either h v)

pub clamped_is : (side : ℕ) (v : ℤ) → 1 ≤ side → clamped side v ≡ brought (pos 0) (pos side -ℤ pos 1) v
clamped_is side (pos n) h = omega (arith, ints, clamps)
clamped_is side (negsuc n) h = omega (arith, ints, clamps)

-- the coordinate is in the frame
pub record IsInside (side : ℕ) (x : ℤ) : Type 0 where
  pub low : pos 0 ≤ℤ x
  pub high : x <ℤ pos side

pub inside_is : (side : ℕ) (x : ℤ) → IsTrue (is_below x side) → IsInside side x
inside_is side (pos n) t = let h = ltb-true n side t in record { low = omega (arith, ints); high = omega (arith, ints, h) }
inside_is side (negsuc n) t = absurd (cc (t))

pub is_inside : (side : ℕ) (x : ℤ) → IsInside side x → IsTrue (is_below x side)
is_inside side (pos n) i = let h = i.high in lt-ltb n side (omega (arith, ints, h))
is_inside side (negsuc n) i = let h = i.low in absurd (omega (arith, ints, h))

-- a clamped step
clamped_end : (l h by edge v : ℤ) → l ≤ℤ h → pos 0 ≤ℤ edge → brought (brought (pos 0) edge (l +ℤ by)) (brought (pos 0) edge (h +ℤ by)) (v +ℤ by) ≡ brought (pos 0) edge (brought l h v +ℤ by)
clamped_end l h by edge v o e =
    let w = brought l h v in
    let a = brought_is (pos 0) edge (l +ℤ by) e in
    let b = brought_is (pos 0) edge (h +ℤ by) e in
    let c = brought_is l h v o in
    let d = brought_is (pos 0) edge (w +ℤ by) e in
    let f = brought_is (brought (pos 0) edge (l +ℤ by)) (brought (pos 0) edge (h +ℤ by)) (v +ℤ by) (omega (arith, ints, a, b, o)) in
    omega (arith, ints, a, b, c, d, f, o, e)

pub record Clamps (side : ℕ) (m : Moves) (by : ℤ) (n : Moves) : Type 0 where
  pub first : n.first ≡ m.first
  pub last : n.last ≡ m.last
  pub shift : n.shift ≡ m.shift +ℤ by
  pub least : n.least ≡ brought (pos 0) (pos side -ℤ pos 1) (m.least +ℤ by)
  pub most : n.most ≡ brought (pos 0) (pos side -ℤ pos 1) (m.most +ℤ by)

clamped_same : (side : ℕ) (m : Moves) (by : ℤ) (n : Moves) → LeadWithin side m → Clamps side m by n
    → (x : ℤ) → brought n.least n.most (x +ℤ n.shift) ≡ clamped side (brought m.least m.most (x +ℤ m.shift) +ℤ by)
clamped_same side m by n is k x =
    let lo = is.least in
    let or = is.order in
    let hi = is.most in
    let v : x +ℤ n.shift ≡ (x +ℤ m.shift) +ℤ by = omega (arith, ints, k.shift) in
    rw (v, k.least, k.most) (clamped_end m.least m.most by (pos side -ℤ pos 1) (x +ℤ m.shift) or (omega (arith, ints, lo, or, hi)))
    ∙ sym (clamped_is side (brought m.least m.most (x +ℤ m.shift) +ℤ by) (omega (arith, ints, lo, or, hi)))

pub clamped_leads : (side : ℕ) (m : Moves) (by : ℤ) (n : Moves) → LeadWithin side m → Clamps side m by n
    → (x u : ℤ) → (Leads n x u → LeadsThen side m Clamp by x u) × (LeadsThen side m Clamp by x u → Leads n x u)
clamped_leads side m by n is e x u =
    let same = clamped_same side m by n is e x in (
      (λ k. (brought m.least m.most (x +ℤ m.shift), record { first = omega (arith, ints, k.first, e.first); last = omega (arith, ints, k.last, e.last); to = refl }, k.to ∙ same)),
      (λ k. record { first = omega (arith, ints, k.1.first, e.first); last = omega (arith, ints, k.1.last, e.last); to = k.2 ∙ ap (λ v. clamped side (v +ℤ by)) k.1.to ∙ sym same }),
    )

pub clamped_moves : (side : ℕ) (m : Moves) (by : ℤ) (n : Moves) → LeadWithin side m → Clamps side m by n → LeadWithin side n
clamped_moves side m by n is e =
    let lo = is.least in
    let or = is.order in
    let hi = is.most in
    let edge : pos 0 ≤ℤ (pos side -ℤ pos 1) = omega (arith, ints, lo, or, hi) in
    let a = brought_is (pos 0) (pos side -ℤ pos 1) (m.least +ℤ by) edge in
    let b = brought_is (pos 0) (pos side -ℤ pos 1) (m.most +ℤ by) edge in
    record {
      first = omega (arith, ints, is.first, e.first);
      some = omega (arith, ints, is.some, e.first, e.last);
      last = omega (arith, ints, is.last, e.last);
      least = omega (arith, ints, a, e.least, edge);
      order = omega (arith, ints, a, b, e.least, e.most, or, edge);
      most = omega (arith, ints, b, e.most, edge);
    }

-- a step that is not clamped
pub record Goes (side : ℕ) (m : Moves) (by : ℤ) (n : Moves) : Type 0 where
  pub shift : n.shift ≡ m.shift +ℤ by
  pub first : (((m.least +ℤ by) <ℤ pos 0) × (n.first ≡ int_max m.first (neg_ℤ n.shift))) ⊎ ((pos 0 ≤ℤ (m.least +ℤ by)) × (n.first ≡ m.first))
  pub last : (((pos side -ℤ pos 1) <ℤ (m.most +ℤ by)) × (n.last ≡ int_min m.last ((pos side -ℤ pos 1) -ℤ n.shift))) ⊎ (((m.most +ℤ by) ≤ℤ (pos side -ℤ pos 1)) × (n.last ≡ m.last))
  pub least : n.least ≡ int_max (m.least +ℤ by) (pos 0)
  pub most : n.most ≡ int_min (m.most +ℤ by) (pos side -ℤ pos 1)

-- what is found for the first and the last coordinate, of numbers that are the same
pub first_same : (first low low' shift shift' r r' : ℤ) → low ≡ low' → shift ≡ shift' → r ≡ r'
    → ((low <ℤ pos 0) × (r ≡ int_max first (neg_ℤ shift))) ⊎ ((pos 0 ≤ℤ low) × (r ≡ first))
    → ((low' <ℤ pos 0) × (r' ≡ int_max first (neg_ℤ shift'))) ⊎ ((pos 0 ≤ℤ low') × (r' ≡ first))
first_same first low low' shift shift' r r' a b c h = rw (sym a, sym b, sym c) h

pub last_same : (last high high' edge edge' shift shift' r r' : ℤ) → high ≡ high' → edge ≡ edge' → shift ≡ shift' → r ≡ r'
    → ((edge <ℤ high) × (r ≡ int_min last (edge -ℤ shift))) ⊎ ((high ≤ℤ edge) × (r ≡ last))
    → ((edge' <ℤ high') × (r' ≡ int_min last (edge' -ℤ shift'))) ⊎ ((high' ≤ℤ edge') × (r' ≡ last))
last_same last high high' edge edge' shift shift' r r' a b c d h = rw (sym a, sym b, sym c, sym d) h

went : (side : ℕ) (m : Moves) (by : ℤ) (n : Moves) → LeadWithin side m → Goes side m by n → (m.least +ℤ by) ≤ℤ (pos side -ℤ pos 1) → pos 0 ≤ℤ (m.most +ℤ by)
    → (x u : ℤ) → Leads n x u → LeadsThen side m Zero by x u
went side m by n is g low high x u k =
    let w = brought m.least m.most (x +ℤ m.shift) in
    let c = brought_is m.least m.most (x +ℤ m.shift) is.order in
    let o : n.least ≤ℤ n.most = omega (arith, ints, clamps, g.least, g.most, low, high, is.order, is.least, is.most) in
    let d = brought_is n.least n.most (x +ℤ n.shift) o in
    let to = k.to in
    let u_is : u ≡ w +ℤ by = omega (arith, ints, clamps, c, d, to, g.shift, g.first, g.last, g.least, g.most, k.first, k.last, low, high, is.order) in (
      w,
      record { first = omega (arith, ints, clamps, g.first, k.first); last = omega (arith, ints, clamps, g.last, k.last); to = refl },
      (
        u_is,
        is_inside side (w +ℤ by) (record {
          low = omega (arith, ints, clamps, c, g.shift, g.first, k.first, high, is.order);
          high = omega (arith, ints, clamps, c, g.shift, g.last, k.last, low, is.order);
        }),
      ),
    )

goes : (side : ℕ) (m : Moves) (by : ℤ) (n : Moves) → LeadWithin side m → Goes side m by n → (m.least +ℤ by) ≤ℤ (pos side -ℤ pos 1) → pos 0 ≤ℤ (m.most +ℤ by)
    → (x u : ℤ) → LeadsThen side m Zero by x u → Leads n x u
goes side m by n is g low high x u k =
    let c = brought_is m.least m.most (x +ℤ m.shift) is.order in
    let o : n.least ≤ℤ n.most = omega (arith, ints, clamps, g.least, g.most, low, high, is.order, is.least, is.most) in
    let d = brought_is n.least n.most (x +ℤ n.shift) o in
    let inside = inside_is side (k.0 +ℤ by) k.2.1 in
    let to = k.1.to in
    let end = k.2.0 in
    record {
      first = omega (arith, ints, clamps, c, to, inside.low, g.first, g.shift, k.1.first);
      last = omega (arith, ints, clamps, c, to, inside.high, g.last, g.shift, k.1.last);
      to = omega (arith, ints, clamps, c, d, to, end, inside.low, inside.high, g.shift, g.least, g.most, is.order);
    }

pub unclamped_leads : (side : ℕ) (m : Moves) (by : ℤ) (n : Moves) → LeadWithin side m → Goes side m by n → (m.least +ℤ by) ≤ℤ (pos side -ℤ pos 1) → pos 0 ≤ℤ (m.most +ℤ by)
    → (x u : ℤ) → (Leads n x u → LeadsThen side m Zero by x u) × (LeadsThen side m Zero by x u → Leads n x u)
unclamped_leads side m by n is g low high x u = (went side m by n is g low high x u, goes side m by n is g low high x u)

pub unclamped_moves : (side : ℕ) (m : Moves) (by : ℤ) (n : Moves) → LeadWithin side m → Goes side m by n → (m.least +ℤ by) ≤ℤ (pos side -ℤ pos 1) → pos 0 ≤ℤ (m.most +ℤ by)
    → n.first ≤ℤ n.last → LeadWithin side n
unclamped_moves side m by n is g low high some = record {
  first = omega (arith, ints, clamps, g.first, is.first);
  some = some;
  last = omega (arith, ints, clamps, g.last, is.last);
  least = omega (arith, ints, clamps, g.least);
  order = omega (arith, ints, clamps, g.least, g.most, low, high, is.order, is.least, is.most);
  most = omega (arith, ints, clamps, g.most);
}

-- Where all ends would lie outside, or no coordinate is left, nothing goes on.
pub none_low : (side : ℕ) (m : Moves) (by : ℤ) → LeadWithin side m → (pos side -ℤ pos 1) <ℤ (m.least +ℤ by) → (x u : ℤ) → LeadsThen side m Zero by x u → ⊥
none_low side m by is h x u k =
    let c = brought_is m.least m.most (x +ℤ m.shift) is.order in
    let inside = inside_is side (k.0 +ℤ by) k.2.1 in
    let to = k.1.to in
    omega (arith, ints, c, to, inside.high, is.order, h)

pub none_high : (side : ℕ) (m : Moves) (by : ℤ) → LeadWithin side m → (m.most +ℤ by) <ℤ pos 0 → (x u : ℤ) → LeadsThen side m Zero by x u → ⊥
none_high side m by is h x u k =
    let c = brought_is m.least m.most (x +ℤ m.shift) is.order in
    let inside = inside_is side (k.0 +ℤ by) k.2.1 in
    let to = k.1.to in
    omega (arith, ints, c, to, inside.low, is.order, h)

pub none_left : (side : ℕ) (m : Moves) (by : ℤ) (n : Moves) → LeadWithin side m → Goes side m by n → (m.least +ℤ by) ≤ℤ (pos side -ℤ pos 1) → pos 0 ≤ℤ (m.most +ℤ by)
    → n.last <ℤ n.first → (x u : ℤ) → LeadsThen side m Zero by x u → ⊥
none_left side m by n is g low high h x u k =
    let l = goes side m by n is g low high x u k in
    let a = l.first in
    let b = l.last in
    omega (arith, ints, a, b, h)

-- a shift of more than any frame's side leads as one of that size
near_same : (side : ℕ) (m : Moves) (shift : ℤ) → LeadWithin side m → side ≤ 4096 → shift ≡ brought (negsuc 4095) (pos 4096) m.shift → (x : ℤ) → m.first ≤ℤ x → x ≤ℤ m.last → brought m.least m.most (x +ℤ shift) ≡ brought m.least m.most (x +ℤ m.shift)
near_same side m shift is h e x low high =
    let c = brought_is (negsuc 4095) (pos 4096) m.shift (omega (arith, ints)) in
    let a = brought_is m.least m.most (x +ℤ shift) is.order in
    let b = brought_is m.least m.most (x +ℤ m.shift) is.order in
    omega (arith, ints, a, b, c, e, h, low, high, is.first, is.last, is.least, is.order, is.most)

pub record IsNear (m n : Moves) : Type 0 where
  pub first : n.first ≡ m.first
  pub last : n.last ≡ m.last
  pub shift : n.shift ≡ brought (negsuc 4095) (pos 4096) m.shift
  pub least : n.least ≡ m.least
  pub most : n.most ≡ m.most

pub near_leads : (side : ℕ) (m n : Moves) → LeadWithin side m → side ≤ 4096 → IsNear m n → (x u : ℤ) → (Leads n x u → Leads m x u) × (Leads m x u → Leads n x u)
near_leads side m n is h e x u = (
  (λ k. record { first = omega (arith, ints, k.first, e.first); last = omega (arith, ints, k.last, e.last); to = k.to ∙ same (omega (arith, ints, k.first, e.first)) (omega (arith, ints, k.last, e.last)) }),
  (λ k. record { first = omega (arith, ints, k.first, e.first); last = omega (arith, ints, k.last, e.last); to = k.to ∙ sym (same k.first k.last) }),
)
  where
    same : m.first ≤ℤ x → x ≤ℤ m.last → brought n.least n.most (x +ℤ n.shift) ≡ brought m.least m.most (x +ℤ m.shift)
    same low high =
        ap (λ (l : ℤ). brought l n.most (x +ℤ n.shift)) e.least
        ∙ ap (λ (g : ℤ). brought m.least g (x +ℤ n.shift)) e.most
        ∙ near_same side m n.shift is h e.shift x low high

-- which coordinates are led by exactly d
pub record AreEnds (m : Moves) (d first last : ℤ) : Type 0 where
  pub first_by : ℤ
  pub last_by : ℤ
  pub first_is : first ≡ int_max m.first first_by
  pub last_is : last ≡ int_min m.last last_by
  pub first_cases : ((m.shift ≤ℤ d) × (first_by ≡ m.least -ℤ d)) ⊎ ((d <ℤ m.shift) × (first_by ≡ m.most -ℤ d))
  pub last_cases : ((d ≤ℤ m.shift) × (last_by ≡ m.most -ℤ d)) ⊎ ((m.shift <ℤ d) × (last_by ≡ m.least -ℤ d))

led_to : (side : ℕ) (m : Moves) (d first last x : ℤ) → LeadWithin side m → AreEnds m d first last → Leads m x (x +ℤ d) → (first ≤ℤ x) × (x ≤ℤ last)
led_to side m d first last x is e k =
    let c = brought_is m.least m.most (x +ℤ m.shift) is.order in
    let to = k.to in
    let f = e.first_cases in
    let g = e.last_cases in
    (omega (arith, ints, clamps, e.first_is, f, c, to, k.first, is.order), omega (arith, ints, clamps, e.last_is, g, c, to, k.last, is.order))

led_from : (side : ℕ) (m : Moves) (d first last x : ℤ) → LeadWithin side m → AreEnds m d first last → first ≤ℤ x → x ≤ℤ last → Leads m x (x +ℤ d)
led_from side m d first last x is e low high =
    let c = brought_is m.least m.most (x +ℤ m.shift) is.order in
    let f = e.first_cases in
    let g = e.last_cases in
    record {
      first = omega (arith, ints, clamps, e.first_is, low);
      last = omega (arith, ints, clamps, e.last_is, high);
      to = omega (arith, ints, clamps, e.first_is, e.last_is, f, g, c, low, high, is.order);
    }

pub led_none : (side : ℕ) (m : Moves) (d first last : ℤ) → LeadWithin side m → AreEnds m d first last → last <ℤ first → (x : ℕ) → (⊥ → Leads m (pos x) (pos x +ℤ d)) × (Leads m (pos x) (pos x +ℤ d) → ⊥)
led_none side m d first last is e none x = ((λ k. absurd k), (λ k. let b = led_to side m d first last (pos x) is e k in let lo = b.0 in let hi = b.1 in omega (arith, ints, lo, hi, none)))

pub led_inside : (side : ℕ) (m : Moves) (d first last : ℤ) → LeadWithin side m → AreEnds m d first last → first ≤ℤ last → (pos 0 ≤ℤ first) × (last <ℤ pos side)
led_inside side m d first last is e some = (omega (arith, ints, clamps, e.first_is, is.first), omega (arith, ints, clamps, e.last_is, is.last))

pub led_interval : (side : ℕ) (m : Moves) (d first last : ℤ) → LeadWithin side m → AreEnds m d first last → first ≤ℤ last → IsInterval side (record { first = unsigned_abs first; last = unsigned_abs last })
led_interval side m d first last is e some =
    let b = led_inside side m d first last is e some in
    let lo = b.0 in
    let hi = b.1 in
    record { some = omega (arith, ints, lo, hi, some); last = omega (arith, ints, lo, hi, some) }

pub led_is : (side : ℕ) (m : Moves) (d first last : ℤ) → LeadWithin side m → AreEnds m d first last → first ≤ℤ last → (x : ℕ) →
    (IsIn (record { first = unsigned_abs first; last = unsigned_abs last }) x → Leads m (pos x) (pos x +ℤ d)) × (Leads m (pos x) (pos x +ℤ d) → IsIn (record { first = unsigned_abs first; last = unsigned_abs last }) x)
led_is side m d first last is e some x =
    let b = led_inside side m d first last is e some in
    let lo = b.0 in
    let hi = b.1 in (
      (λ k. let p = k.first in let q = k.last in led_from side m d first last (pos x) is e (omega (arith, ints, lo, p)) (omega (arith, ints, lo, hi, some, q))),
      (λ k. let t = led_to side m d first last (pos x) is e k in let p = t.0 in let q = t.1 in record { first = omega (arith, ints, lo, p); last = omega (arith, ints, lo, some, q) }),
    )
