-- Operators of constants.
use Rattle.std.proofs.Common.{ℕ, ◌≡◌, ◌+◌, ◌*◌, ◌<◌, ◌≤◌, ◌^◌, [], ◌∷◌, Some, nat_eq, if◌then◌else◌, ap, refl, subst, sym, ◌∙◌, arith, lit<}
use Rattle.std.specs.Prelude.{All, Contains}
use Rattle.std.proofs.Math.Pow.{pow_mono}
use Rattle.std.proofs.lemmas.Option.{same_Some}
use Rattle.std.proofs.lemmas.List.Elements.{All-nil, All-cons, All-head}
use Rattle.wiring.specs.declared.netlist.Net.{Net}
use Rattle.wiring.specs.declared.right.Atom.TheVariants as atom
use Rattle.wiring.specs.declared.right.Operator.{Operator}
use Rattle.wiring.specs.declared.right.Right.{Right}
use Rattle.wiring.specs.declared.right.Right.TheVariants.{Binary, Join, Repeat}
use Rattle.wiring.specs.Netlist.{Netlist}
use Rattle.wiring.specs.Rights.{constants_of, nets_of, operator_width, operator_value, right_value, right_width, repeated}
use Rattle.wiring.specs.Rules.{WidthsAgree}
use Rattle.wiring.specs.Sizes.{IsWidth, IsConstant, SizedNumber}
use Rattle.wiring.specs.Snapshot.{Snapshot}
use Rattle.wiring.proofs.Fits.{right_lt}
use Rattle.datapath.specs.declared.operand.Signal.{Signal}
use Rattle.datapath.specs.declared.operand.Signal.TheVariants as signal
use Rattle.datapath.proofs.Resized.{copies_zero, copies_one}
use Rattle.datapath.specs.Nets.{HasWidth, IsWord, bits_of, known_value}

-- what a known signal is
pub bits_known : (x : Signal) (v : ℕ) (s : Snapshot) → known_value x ≡ Some v → bits_of s x ≡ v
bits_known (signal.Net n) v s e = absurd (let f : ⊥ = cc in f)
bits_known (signal.Constant w k) v s e = same_Some k v e

sized : (b : Netlist) (x : Signal) (w v : ℕ) → HasWidth b x w → known_value x ≡ Some v → IsConstant (record { width = w; value = v })
sized b (signal.Net n) w v h e = absurd (let f : ⊥ = cc in f)
sized b (signal.Constant u k) w v h e =
    let own : SizedNumber = record { width = u; value = k } in
    let is : IsConstant own = All-head IsConstant own [] h.operand.constants in
    let wide : IsConstant (record { width = w; value = k }) = subst (λ (n : ℕ). IsConstant (record { width = n; value = k })) h.operand.width_is is in
    subst (λ (n : ℕ). IsConstant (record { width = w; value = n })) (same_Some k v e) wide

pub known_fits : (b : Netlist) (x : Signal) (w v : ℕ) → HasWidth b x w → known_value x ≡ Some v → v < 2 ^ w
known_fits b x w v h e = (sized b x w v h e).fits

pub known_wide : (b : Netlist) (x : Signal) (w v : ℕ) → HasWidth b x w → known_value x ≡ Some v → IsWidth w
known_wide b x w v h e = (sized b x w v h e).width

-- the value of a right side over constants fits
module _ (r : Right Net ℕ) where
  pub right_fits : nets_of r ≡ [] → All IsConstant (constants_of r) → WidthsAgree (λ n. 0) (λ x. 0) r → right_value (λ n. 0) (λ x i. 0) (λ n. 0) r < 2 ^ right_width (λ n. 0) (λ x. 0) r
  right_fits none constants agree =
      right_lt (λ n. 0) (λ x. 0) (λ x i. 0) (λ n. 0) (λ x i. lit< tt) r (λ n c. absurd (none_in n (subst (λ l. Contains l n) none c))) constants agree
    where
      none_in : (n : Net) → Contains [] n → ⊥
      none_in n c = omega (arith, c.1)

two : (a b : SizedNumber) → IsConstant a → IsConstant b → All IsConstant (a ∷ (b ∷ []))
two a b h g = All-cons IsConstant a (b ∷ []) h (All-cons IsConstant b [] g (All-nil IsConstant))

pub operator_fits : (b : Netlist) (o : Operator) (x y : Signal) (w left right : ℕ) → HasWidth b x w → HasWidth b y w → known_value x ≡ Some left → known_value y ≡ Some right → operator_value o w left right < 2 ^ operator_width o w
operator_fits b o x y w left right hx hy ex ey =
    let p : SizedNumber = record { width = w; value = left } in
    let q : SizedNumber = record { width = w; value = right } in
    right_fits (Binary o (atom.Constant p) (atom.Constant q)) refl (two p q (sized b x w left hx ex) (sized b y w right hy ey)) refl

pub join_fits : (b : Netlist) (x y : Signal) (high low left right : ℕ) → HasWidth b x high → HasWidth b y low → known_value x ≡ Some left → known_value y ≡ Some right → left * 2 ^ low + right < 2 ^ (high + low)
join_fits b x y high low left right hx hy ex ey =
    let p : SizedNumber = record { width = high; value = left } in
    let q : SizedNumber = record { width = low; value = right } in
    right_fits (Join (atom.Constant p) (atom.Constant q)) refl (two p q (sized b x high left hx ex) (sized b y low right hy ey)) tt

pub repeat_fits : (b : Netlist) (x : Signal) (count bit : ℕ) → HasWidth b x 1 → known_value x ≡ Some bit → repeated count 1 bit < 2 ^ count
repeat_fits b x count bit h e =
    let p : SizedNumber = record { width = 1; value = bit } in
    let k : count * 1 ≡ count = grind arith in
    subst (λ (n : ℕ). repeated count 1 bit < 2 ^ n) k (right_fits (Repeat count (atom.Constant p)) refl (All-cons IsConstant p [] (sized b x 1 bit h e) (All-nil IsConstant)) tt)

-- a number below 2 to a width is below 2 to 64
pub narrow_fits : (w v : ℕ) → w ≤ 64 → v < 2 ^ w → v < 2 ^ 64
narrow_fits w v h l = omega (arith, l, pow_mono h)

-- a constant as a word
pub constant_word : (b : Netlist) (r : Signal) (u w v : ℕ) (f : Snapshot → ℕ) → r ≡ signal.Constant u v → u ≡ w → HasWidth b r u → ((s : Snapshot) → v ≡ f s) → IsWord b r w f
constant_word b r u w v f e k h same = record { width = subst (λ (n : ℕ). HasWidth b r n) k h; value = λ m s more is. ap (bits_of s) e ∙ same s }

pub two_known : (f : ℕ → ℕ → ℕ) (x y : Signal) (left right : ℕ) (s : Snapshot) → known_value x ≡ Some left → known_value y ≡ Some right → f left right ≡ f (bits_of s x) (bits_of s y)
two_known f x y left right s e g = sym (ap (λ v. f v (bits_of s y)) (bits_known x left s e) ∙ ap (λ v. f left v) (bits_known y right s g))

pub one_known : (f : ℕ → ℕ) (x : Signal) (v : ℕ) (s : Snapshot) → known_value x ≡ Some v → f v ≡ f (bits_of s x)
one_known f x v s e = sym (ap f (bits_known x v s e))

-- this many copies of a bit
pub no_copies : (count bit : ℕ) → bit ≡ 0 → 0 ≡ repeated count 1 bit
no_copies count bit e = sym (ap (repeated count 1) e ∙ copies_zero count)

pub all_copies : (count bit ones : ℕ) → bit ≡ 1 → ones + 1 ≡ 2 ^ count → ones ≡ repeated count 1 bit
all_copies count bit ones e all = let p = copies_one count in (let q : ones ≡ repeated count 1 1 = omega (arith, p, all) in q) ∙ sym (ap (repeated count 1) e)

pub result_fits : (b : Netlist) (o : Operator) (x y : Signal) (w left right u v : ℕ) → HasWidth b x w → HasWidth b y w → known_value x ≡ Some left → known_value y ≡ Some right → u ≡ operator_width o w → v ≡ operator_value o w left right → v < 2 ^ u
result_fits b o x y w left right u v hx hy ex ey e f = subst (λ n. v < 2 ^ n) (sym e) (subst (λ n. n < 2 ^ operator_width o w) (sym f) (operator_fits b o x y w left right hx hy ex ey))

pub first_word : (b : Netlist) (c x y : Signal) (w bit : ℕ) → known_value c ≡ Some bit → bit ≡ 1 → HasWidth b x w → IsWord b x w (λ s. if nat_eq (bits_of s c) 1 then bits_of s x else bits_of s y)
first_word b c x y w bit e on h = record {
  width = h;
  value = λ m s more is. sym (ap (λ v. if nat_eq v 1 then bits_of s x else bits_of s y) (bits_known c bit s e ∙ on));
}

pub other_word : (b : Netlist) (c x y : Signal) (w bit : ℕ) → known_value c ≡ Some bit → bit ≡ 0 → HasWidth b y w → IsWord b y w (λ s. if nat_eq (bits_of s c) 1 then bits_of s x else bits_of s y)
other_word b c x y w bit e off h = record {
  width = h;
  value = λ m s more is. sym (ap (λ v. if nat_eq v 1 then bits_of s x else bits_of s y) (bits_known c bit s e ∙ off));
}

-- the same thing under another name
pub same_word : (b : Netlist) (x y : Signal) (w : ℕ) → x ≡ y → HasWidth b x w → IsWord b y w (λ s. bits_of s x)
same_word b x y w e h = subst (λ z. IsWord b z w (λ s. bits_of s x)) e (record { width = h; value = λ m s more is. refl })
