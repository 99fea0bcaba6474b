-- The value of a sound right side fits its width.
use Rattle.std.proofs.Common.{◌≡◌, ℕ, zero, suc, ◌+◌, ◌-◌, ◌*◌, ◌/◌, ◌^◌, ◌<◌, ◌≤◌, List, [], ◌∷◌, ◌++◌, get_or, Bool, true, false, refl, sym, subst, arith, lit<, nat_lt}
use Rattle.std.specs.Prelude.{All, Contains, if◌then◌else◌, ◌==◌}
use Rattle.std.proofs.Math.Pow.{pow_pos}
use Rattle.std.proofs.Math.Nat.{mul-le-mul_right, div-le_self, mod-lt}
use Rattle.std.proofs.lemmas.Nat.{pow-add, and_le_l, or_lt, xor_lt}
use Rattle.std.proofs.lemmas.List.Elements.{Contains-append_left, Contains-append_right, All-contains, Contains-get_or}
use Rattle.wiring.specs.Sizes.{SizedNumber, IsConstant}
use Rattle.wiring.specs.declared.right.Atom.{Atom}
use Rattle.wiring.specs.declared.right.Atom.TheVariants as atom
use Rattle.wiring.specs.declared.right.Operator.{Operator}
use Rattle.wiring.specs.declared.right.Operator.TheVariants.{Add, Subtract, Multiply, Divide, Less, Equal, And, Or, Xor}
use Rattle.wiring.specs.declared.right.Right.{Right}
use Rattle.wiring.specs.declared.right.Right.TheVariants.{Copy, Not, Binary, Choose, Join, Repeat, Bit, Slice, Word}
use Rattle.wiring.specs.Rights.{nets_of, constants_of, atom_nets, atom_constants, atom_value, atom_width, right_value, right_width, operator_value, operator_width, repeated}
use Rattle.wiring.specs.Rules.{WidthsAgree}

joined_lt : (i j a b : ℕ) → a < 2 ^ i → b < 2 ^ j → a * 2 ^ j + b < 2 ^ (i + j)
joined_lt i j a b la lb =
    let up : (a + 1) * 2 ^ j ≤ 2 ^ i * 2 ^ j = mul-le-mul_right (2 ^ j) (omega (arith, la)) in
    let whole : 2 ^ (i + j) ≡ 2 ^ i * 2 ^ j = pow-add 2 i j in
    omega (arith, up, whole, lb)

bit_lt : (b : Bool) → (if b then 1 else 0) < 2 ^ 1
bit_lt true = lit< tt
bit_lt false = lit< tt

operator_lt : (o : Operator) (w a b : ℕ) → a < 2 ^ w → b < 2 ^ w → operator_value o w a b < 2 ^ operator_width o w
operator_lt Add w a b la lb = mod-lt (a + b) (pow_pos w)
operator_lt Subtract w a b la lb = mod-lt (a + 2 ^ w - b) (pow_pos w)
operator_lt Multiply w a b la lb = mod-lt (a * b) (pow_pos w)
operator_lt Divide w a b la lb = omega (arith, div-le_self a b, la)
operator_lt Less w a b la lb = bit_lt (nat_lt a b)
operator_lt Equal w a b la lb = bit_lt (a == b)
operator_lt And w a b la lb = omega (arith, and_le_l a b, la)
operator_lt Or w a b la lb = or_lt w a b la lb
operator_lt Xor w a b la lb = xor_lt w a b la lb

repeated_lt : (n w a : ℕ) → a < 2 ^ w → repeated n w a < 2 ^ (n * w)
repeated_lt zero w a la = subst (λ (x : ℕ). 0 < 2 ^ x) (let e : 0 ≡ 0 * w = omega arith in e) (lit< tt)
repeated_lt (suc n) w a la = subst (λ (x : ℕ). repeated n w a * 2 ^ w + a < 2 ^ x) (let e : n * w + w ≡ suc n * w = omega arith in e) (joined_lt (n * w) w (repeated n w a) a (repeated_lt n w a la) la)

module _ {N A : Type 0} (width : N → ℕ) (word_width : A → ℕ) (word : A → ℕ → ℕ) (value : N → ℕ)
    (words : (m : A) (i : ℕ) → word m i < 2 ^ word_width m) where
  -- each of these nets has a value that fits
  abbrev pub NetsFit : List N → Type 0
  NetsFit ns = (n : N) → Contains ns n → value n < 2 ^ width n

  fit_left : (ns ms : List N) → NetsFit (ns ++ ms) → NetsFit ns
  fit_left ns ms h n c = h n (Contains-append_left ns ms n c)

  fit_right : (ns ms : List N) → NetsFit (ns ++ ms) → NetsFit ms
  fit_right ns ms h n c = h n (Contains-append_right ns ms n c)

  all_left : (xs ys : List SizedNumber) → All IsConstant (xs ++ ys) → All IsConstant xs
  all_left xs ys h = All-from_contains xs (λ c in'. All-contains IsConstant (xs ++ ys) c h (Contains-append_left xs ys c in'))
    where
      All-from_contains : (xs : List SizedNumber) → ((c : SizedNumber) → Contains xs c → IsConstant c) → All IsConstant xs
      All-from_contains xs h k d l = h (get_or xs k d) (Contains-get_or xs k d l)

  all_right : (xs ys : List SizedNumber) → All IsConstant (xs ++ ys) → All IsConstant ys
  all_right xs ys h = All-from_contains ys (λ c in'. All-contains IsConstant (xs ++ ys) c h (Contains-append_right xs ys c in'))
    where
      All-from_contains : (xs : List SizedNumber) → ((c : SizedNumber) → Contains xs c → IsConstant c) → All IsConstant xs
      All-from_contains xs h k d l = h (get_or xs k d) (Contains-get_or xs k d l)

  pub atom_lt : (a : Atom N) → NetsFit (atom_nets a) → All IsConstant (atom_constants a) → atom_value value a < 2 ^ atom_width width a
  atom_lt (atom.Net n) fit cs = fit n (0, lit< tt, refl)
  atom_lt (atom.Constant c) fit cs = (All-contains IsConstant (c ∷ []) c cs (0, lit< tt, refl)).fits

  pub right_lt : (r : Right N A) → NetsFit (nets_of r) → All IsConstant (constants_of r) → WidthsAgree width word_width r → right_value width word value r < 2 ^ right_width width word_width r
  right_lt (Copy a) fit cs agree = atom_lt a fit cs
  right_lt (Not a) fit cs agree = omega (arith, pow_pos (atom_width width a))
  right_lt (Binary o a b) fit cs agree =
      let la = atom_lt a (fit_left (atom_nets a) (atom_nets b) fit) (all_left (atom_constants a) (atom_constants b) cs) in
      let lb = atom_lt b (fit_right (atom_nets a) (atom_nets b) fit) (all_right (atom_constants a) (atom_constants b) cs) in
      operator_lt o (atom_width width a) (atom_value value a) (atom_value value b) la (subst (λ (w : ℕ). atom_value value b < 2 ^ w) (sym agree) lb)
  right_lt (Choose c a b) fit cs agree =
      let la = atom_lt a (fit_right (atom_nets c) (atom_nets a) (fit_left (atom_nets c ++ atom_nets a) (atom_nets b) fit)) (all_right (atom_constants c) (atom_constants a) (all_left (atom_constants c ++ atom_constants a) (atom_constants b) cs)) in
      let lb = atom_lt b (fit_right (atom_nets c ++ atom_nets a) (atom_nets b) fit) (all_right (atom_constants c ++ atom_constants a) (atom_constants b) cs) in
      chosen_lt (atom_value value c == 1) (atom_value value a) (atom_value value b) (2 ^ atom_width width a) la (subst (λ (w : ℕ). atom_value value b < 2 ^ w) (sym agree.1) lb)
    where
      chosen_lt : (t : Bool) (x y z : ℕ) → x < z → y < z → (if t then x else y) < z
      chosen_lt true x y z lx ly = lx
      chosen_lt false x y z lx ly = ly
  right_lt (Join a b) fit cs agree =
      joined_lt (atom_width width a) (atom_width width b) (atom_value value a) (atom_value value b)
      (atom_lt a (fit_left (atom_nets a) (atom_nets b) fit) (all_left (atom_constants a) (atom_constants b) cs))
      (atom_lt b (fit_right (atom_nets a) (atom_nets b) fit) (all_right (atom_constants a) (atom_constants b) cs))
  right_lt (Repeat n a) fit cs agree = repeated_lt n (atom_width width a) (atom_value value a) (atom_lt a fit cs)
  right_lt (Bit v k) fit cs agree = mod-lt (value v / 2 ^ k) (pow_pos 1)
  right_lt (Slice v m l) fit cs agree = mod-lt (value v / 2 ^ l) (pow_pos (m - l + 1))
  right_lt (Word m i) fit cs agree = words m (atom_value value i)
