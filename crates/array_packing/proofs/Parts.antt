-- Bits of numbers, parts of values, and right sides under two valuations.
use Rattle.std.proofs.Common.{◌≡◌, ℕ, zero, suc, ◌+◌, ◌-◌, ◌*◌, ◌/◌, ◌%◌, ◌^◌, ◌<◌, ◌≤◌, List, [], ◌∷◌, ◌++◌, length, get_or, map, refl, ap, subst, sym, ◌∙◌, arith, lit<, None}
use Rattle.std.specs.Prelude.{All, Contains}
use Rattle.std.proofs.Math.Pow.{pow_pos}
use Rattle.std.proofs.Math.Nat.{mod-eq_of_lt, div-one, div-div-eq-div-mul, mul-add-div_right, mul-add-mod_self_right, zero-div, zero-mod}
use Rattle.std.proofs.lemmas.Nat.{pow-add, div-mul-add}
use Rattle.std.proofs.Math.ListN.{get_or-map}
use Rattle.std.proofs.lemmas.List.Elements.{All-nil, All-append, Contains-append_left, Contains-append_right}
use Rattle.wiring.specs.declared.right.Atom.{Atom}
use Rattle.wiring.specs.declared.right.Atom.TheVariants as atom
use Rattle.wiring.specs.declared.right.Right.{Right}
use Rattle.wiring.specs.declared.right.Right.TheVariants.{Copy, Not, Binary, Choose, Join, Repeat, Bit, Slice, Word}
use Rattle.wiring.specs.declared.netlist.Net.{Net}
use Rattle.wiring.specs.Rights.{array_of, nets_of, atom_nets, atom_value, atom_width, right_value}
use Rattle.wiring.specs.Snapshot.{accesses_of}
use Rattle.wiring.proofs.Lists.{All-left, All-right}
use Rattle.array_packing.specs.Packing.{bits_at}

pub bits_whole : (w n : ℕ) → n < 2 ^ w → bits_at 0 w n ≡ n
bits_whole w n l = ap (λ x. x % 2 ^ w) (div-one n) ∙ mod-eq_of_lt l

pub bits_zero : (low w : ℕ) → bits_at low w 0 ≡ 0
bits_zero low w = ap (λ x. x % 2 ^ w) (zero-div (2 ^ low)) ∙ zero-mod (2 ^ w)

-- the bits of the upper part of a join
pub bits_above : (low w a wb b : ℕ) → b < 2 ^ wb → bits_at (low + wb) w (a * 2 ^ wb + b) ≡ bits_at low w a
bits_above low w a wb b l =
    let whole : 2 ^ (low + wb) ≡ 2 ^ wb * 2 ^ low = (let e : low + wb ≡ wb + low = omega arith in ap (λ x. 2 ^ x) e) ∙ pow-add 2 wb low in
    let quotient : (a * 2 ^ wb + b) / 2 ^ (low + wb) ≡ a / 2 ^ low =
    ap (λ x. (a * 2 ^ wb + b) / x) whole ∙ sym (div-div-eq-div-mul (a * 2 ^ wb + b) (2 ^ wb) (2 ^ low)) ∙ ap (λ x. x / 2 ^ low) (div-mul-add a (2 ^ wb) b l) in
    ap (λ x. x % 2 ^ w) quotient

-- and of the lower part
pub bits_below : (low w a wb b : ℕ) → low + w ≤ wb → bits_at low w (a * 2 ^ wb + b) ≡ bits_at low w b
bits_below low w a wb b l =
    let rest = wb - low - w in
    let wide : 2 ^ wb ≡ 2 ^ rest * 2 ^ w * 2 ^ low =
    (let e : wb ≡ rest + w + low = omega (arith, l) in ap (λ x. 2 ^ x) e) ∙ pow-add 2 (rest + w) low ∙ ap (λ x. x * 2 ^ low) (pow-add 2 rest w) in
    let split : a * 2 ^ wb + b ≡ a * (2 ^ rest * 2 ^ w) * 2 ^ low + b = ap (λ x. a * x + b) wide ∙ ap (λ x. x + b) (sym (mul_assoc a (2 ^ rest * 2 ^ w) (2 ^ low))) in
    let quotient : (a * 2 ^ wb + b) / 2 ^ low ≡ a * 2 ^ rest * 2 ^ w + b / 2 ^ low =
    ap (λ x. x / 2 ^ low) split ∙ mul-add-div_right (pow_pos low) (a * (2 ^ rest * 2 ^ w)) b ∙ ap (λ x. x + b / 2 ^ low) (sym (mul_assoc a (2 ^ rest) (2 ^ w))) in
    ap (λ x. x % 2 ^ w) quotient ∙ mul-add-mod_self_right (a * 2 ^ rest) (2 ^ w) (b / 2 ^ low)
  where
    mul_assoc : (a b c : ℕ) → a * b * c ≡ a * (b * c)
    mul_assoc a b c = grind arith

-- a word of a list of which each number was taken some bits of, 0 past its end
pub get_bits : (low w : ℕ) (words : List ℕ) (i : ℕ) → get_or (map (bits_at low w) words) i 0 ≡ bits_at low w (get_or words i 0)
get_bits low w words i = subst (λ (d : ℕ). get_or (map (bits_at low w) words) i d ≡ bits_at low w (get_or words i 0)) (bits_zero low w) (get_or-map (bits_at low w) words i 0)

pub head_in : {X : Type 0} (x : X) (xs : List X) → Contains (x ∷ xs) x
head_in x xs = (0, omega arith, refl)

pub tail_in : {X : Type 0} (x y : X) (xs : List X) → Contains xs y → Contains (x ∷ xs) y
tail_in x y xs c = (suc c.0, omega (arith, c.1), c.2)

-- what holds of each of the accesses of each item
pub all_of : {X : Type 0} (P : ℕ × Atom Net → Type 0) (f : X → List (ℕ × Atom Net)) (xs : List X) → ((x : X) → Contains xs x → All P (f x)) → All P (accesses_of f xs)
all_of P f [] h = All-nil P
all_of P f (x ∷ xs) h = All-append P (f x) (accesses_of f xs) (h x (head_in x xs)) (all_of P f xs (λ y c. h y (tail_in x y xs c)))

of_all_at : {X : Type 0} (P : ℕ × Atom Net → Type 0) (f : X → List (ℕ × Atom Net)) (xs : List X) (k : ℕ) (x : X) → k < length xs → get_or xs k x ≡ x → All P (accesses_of f xs) → All P (f x)
of_all_at P f [] k x l e all = absurd (omega (arith, l))
of_all_at P f (y ∷ xs) zero x l e all = subst (λ z. All P (f z)) e (All-left P (f y) (accesses_of f xs) all)
of_all_at P f (y ∷ xs) (suc k) x l e all = of_all_at P f xs k x (omega (arith, l)) e (All-right P (f y) (accesses_of f xs) all)

pub of_all : {X : Type 0} (P : ℕ × Atom Net → Type 0) (f : X → List (ℕ × Atom Net)) (xs : List X) (x : X) → Contains xs x → All P (accesses_of f xs) → All P (f x)
of_all P f xs x c all = of_all_at P f xs c.0 x c.1 c.2 all

-- a right side that reads no array has one value under valuations that agree on its nets, widths included
module _ (v w v' w' : Net → ℕ) where
  abbrev pub Alike : List Net → Type 0
  Alike ns = (n : Net) → Contains ns n → (v n ≡ v' n) × (w n ≡ w' n)

  left : (ns ms : List Net) → Alike (ns ++ ms) → Alike ns
  left ns ms h n c = h n (Contains-append_left ns ms n c)

  right : (ns ms : List Net) → Alike (ns ++ ms) → Alike ms
  right ns ms h n c = h n (Contains-append_right ns ms n c)

  one : (n : Net) → Alike (n ∷ []) → (v n ≡ v' n) × (w n ≡ w' n)
  one n h = h n (0, lit< tt, refl)

  pub atom_alike : (a : Atom Net) → Alike (atom_nets a) → atom_value v a ≡ atom_value v' a
  atom_alike (atom.Net n) h = (one n h).0
  atom_alike (atom.Constant c) h = refl

  pub width_alike : (a : Atom Net) → Alike (atom_nets a) → atom_width w a ≡ atom_width w' a
  width_alike (atom.Net n) h = (one n h).1
  width_alike (atom.Constant c) h = refl

  pub right_alike : (word word' : ℕ → ℕ → ℕ) (r : Right Net ℕ) → array_of r ≡ None → Alike (nets_of r) → right_value w word v r ≡ right_value w' word' v' r
  right_alike word word' (Copy a) e h = atom_alike a h
  right_alike word word' (Not a) e h = rw (atom_alike a h, width_alike a h)
  right_alike word word' (Binary o a b) e h =
      let ha = left (atom_nets a) (atom_nets b) h in
      let hb = right (atom_nets a) (atom_nets b) h in
      rw (atom_alike a ha, width_alike a ha, atom_alike b hb)
  right_alike word word' (Choose c a b) e h =
      let hc = left (atom_nets c) (atom_nets a) (left (atom_nets c ++ atom_nets a) (atom_nets b) h) in
      let ha = right (atom_nets c) (atom_nets a) (left (atom_nets c ++ atom_nets a) (atom_nets b) h) in
      let hb = right (atom_nets c ++ atom_nets a) (atom_nets b) h in
      rw (atom_alike c hc, atom_alike a ha, atom_alike b hb)
  right_alike word word' (Join a b) e h =
      let ha = left (atom_nets a) (atom_nets b) h in
      let hb = right (atom_nets a) (atom_nets b) h in
      rw (atom_alike a ha, width_alike b hb, atom_alike b hb)
  right_alike word word' (Repeat n a) e h = rw (atom_alike a h, width_alike a h)
  right_alike word word' (Bit n k) e h = ap (λ x. x / 2 ^ k % 2) (one n h).0
  right_alike word word' (Slice n m l) e h = ap (λ x. x / 2 ^ l % 2 ^ (m - l + 1)) (one n h).0
  right_alike word word' (Word m i) e h = cc
