-- Tests of a pixel, combined.
use Rattle.std.proofs.Common.{◌≡◌, ℕ, zero, suc, ◌+◌, ◌-◌, ◌^◌, ◌<◌, ◌≤◌, ◌==◌, ◌≢◌, nat_lt, nat_le, Bool, true, false, List, [], ◌∷◌, Option, Some, None, refl, sym, ap, subst, ◌∙◌, inl, inr, arith, lit≤}
use Rattle.std.specs.Prelude.{if◌then◌else◌, ◌&&◌, not, IsTrue, bit_and}
use Rattle.std.proofs.lemmas.Bool.{cases_lt, cases_eq, eq-eqb, ne_eqb, eqb-true}
use Rattle.wiring.specs.declared.right.Atom.{Atom}
use Rattle.wiring.specs.declared.right.Atom.TheVariants as atom
use Rattle.wiring.specs.declared.right.Operator.TheVariants.{Less, Equal, And}
use Rattle.wiring.specs.declared.right.Right.TheVariants.{Binary, Choose}
use Rattle.wiring.specs.declared.netlist.Net.{Net}
use Rattle.wiring.specs.declared.netlist.Holder.{Holder}
use Rattle.wiring.specs.declared.netlist.Holder.TheVariants.{OfNet}
use Rattle.wiring.specs.Sizes.{IsWidth}
use Rattle.wiring.specs.Netlist.{Netlist, net_width}
use Rattle.wiring.specs.Snapshot.{Snapshot, net_value}
use Rattle.wiring.specs.Clock.{bit}
use Rattle.net_build.specs.Includes.{Includes, InEach}
use Rattle.net_build.specs.Draft.{IsNet}
use Rattle.net_build.specs.Control.{IsMadeOf}
use Rattle.net_build.proofs.Parts.{Includes-refl, Includes-trans, InEach-more}
use Rattle.net_build.proofs.Grown.{net_more, width_more}
use Rattle.frame_paths.specs.declared.moves.Interval.{Interval}
use Rattle.frame_paths.specs.Moves.{IsIn}
use Rattle.edge_select.specs.declared.paths.Rectangle.{Rectangle}
use Rattle.edge_select.specs.declared.pixel.Pixel.{Pixel}
use Rattle.net_build.specs.Logic.{AreMadeOf, Computes, IsGate}
use Rattle.edge_select.specs.Logic.{Tests, IsBit, IsBoth, IsTestNet, is_up_to, is_from, is_within}
use Rattle.edge_select.specs.Passes.{Passes}
use Rattle.edge_select.specs.Pixels.{IsBitOf, IsTest}
use Rattle.net_build.proofs.Logic.{given_source, number_source, net_source, choose_computes, computes_more, computes_as, computes_from, computes_since, computes_through, binary_computes, AreIn, first_in, second_in, none_in}
use Rattle.net_build.proofs.Counting.{yes_lt, no_lt, one_wide}

yes_le : (a b : ℕ) → a ≤ b → nat_le a b ≡ true
yes_le a b h = grind arith

no_le : (a b : ℕ) → b < a → nat_le a b ≡ false
no_le a b h = grind arith

before_is : (first x : ℕ) → 0 < first → nat_lt (first - 1) x ≡ nat_le first x
before_is first x some =
    elim (cases_lt (first - 1) x) as (λ _. nat_lt (first - 1) x ≡ nat_le first x) [
      | inl lt ↦ yes_lt (first - 1) x lt ∙ sym (yes_le first x (omega (arith, lt, some)))
      | inr ge ↦ no_lt (first - 1) x ge ∙ sym (no_le first x (omega (arith, ge, some)))
    ]

pub at_least_is : (b0 b1 : Netlist) (x n : Net) (bits first : ℕ) (a : Atom Net) → Includes b1 b0 → IsNet b0 x → net_width b0 x ≡ bits → IsWidth bits → first - 1 < 2 ^ bits → 0 < first → a ≡ atom.Constant (record { width = bits; value = first - 1 }) → IsGate b1 b0 (Binary Less a (atom.Net x)) n →
    Computes b1 b0 (x ∷ []) 1 (λ s. bit (nat_le first (net_value s x))) n
at_least_is b0 b1 x n bits first a f is width wide fits some e g =
    let from : List Net = x ∷ [] in
    computes_as b1 b0 from 1 1 (λ s. bit (nat_lt (first - 1) (net_value s x))) (λ s. bit (nat_le first (net_value s x))) n refl
    (binary_computes b1 b0 b0 from f bits Less (λ s. first - 1) (λ s. net_value s x) a (atom.Net x) n (number_source b0 b0 from bits (first - 1) a e (record { width = wide; fits = fits })) (given_source b0 b0 from bits x (Includes-refl b0) is width (first_in x [])) g)
    (λ s. ap bit (before_is first (net_value s x) some))

-- where the side has more coordinates than this
abbrev below_end : (side last x : ℕ) → Bool
below_end side last x = if last + 2 == side then not (x == last + 1) else nat_lt x (last + 1)

up_to_is : (side last end x : ℕ) → end ≡ last + 1 → end + 1 < side → nat_lt x end ≡ is_up_to side last x
up_to_is side last end x e lt =
    ap (nat_lt x) e
    ∙ sym (ap (λ (t : Bool). if t then not (x == last + 1) else nat_lt x (last + 1)) (ne_eqb (last + 2) side (λ i. omega (arith, i, e, lt))))
    ∙ sym (ap (λ (t : Bool). if t then below_end side last x else true) (yes_lt (last + 1) side (omega (arith, e, lt))))

up_to_apart : (side last end x : ℕ) → end ≡ last + 1 → end + 1 ≡ side → not (x == end) ≡ is_up_to side last x
up_to_apart side last end x e whole =
    ap (λ (n : ℕ). not (x == n)) e
    ∙ sym (ap (λ (t : Bool). if t then not (x == last + 1) else nat_lt x (last + 1)) (eq-eqb (last + 2) side (omega (arith, e, whole))))
    ∙ sym (ap (λ (t : Bool). if t then below_end side last x else true) (yes_lt (last + 1) side (omega (arith, e, whole))))

pub up_to_all : (side last end x : ℕ) → end ≡ last + 1 → side ≤ end → is_up_to side last x ≡ true
up_to_all side last end x e ge = ap (λ (t : Bool). if t then below_end side last x else true) (no_lt (last + 1) side (omega (arith, e, ge)))

by_not : (t : Bool) → (if bit t == 1 then 0 else 1) ≡ bit (not t)
by_not true = refl
by_not false = refl

-- the test that a coordinate is not this one
pub apart_is : (b0 b1 b2 : Netlist) (x same n : Net) (bits value : ℕ) (a none one : Atom Net) → Includes b1 b0 → Includes b2 b1 → IsNet b0 x → net_width b0 x ≡ bits → IsWidth bits → value < 2 ^ bits → a ≡ atom.Constant (record { width = bits; value = value }) →
    none ≡ atom.Constant (record { width = 1; value = 0 }) → one ≡ atom.Constant (record { width = 1; value = 1 }) → IsGate b1 b0 (Binary Equal (atom.Net x) a) same → IsGate b2 b1 (Choose (atom.Net same) none one) n →
    Computes b2 b0 (x ∷ []) 1 (λ s. bit (not (net_value s x == value))) n
apart_is b0 b1 b2 x same n bits value a none one f1 f2 is width wide fits e e0 e1 g1 g2 =
    let from : List Net = x ∷ [] in
    let test = binary_computes b1 b0 b0 from f1 bits Equal (λ s. net_value s x) (λ s. value) (atom.Net x) a same (given_source b0 b0 from bits x (Includes-refl b0) is width (first_in x [])) (number_source b0 b0 from bits value a e (record { width = wide; fits = fits })) g1 in
    computes_as b2 b0 from 1 1 (λ s. if bit (net_value s x == value) == 1 then 0 else 1) (λ s. bit (not (net_value s x == value))) n refl
    (choose_computes b2 b1 b0 from f2 1 (λ s. bit (net_value s x == value)) (λ s. 0) (λ s. 1) (atom.Net same) none one n (net_source b1 b0 from 1 (λ s. bit (net_value s x == value)) same test)
    (number_source b1 b0 from 1 0 none e0 (record { width = one_wide; fits = lit≤ tt })) (number_source b1 b0 from 1 1 one e1 (record { width = one_wide; fits = lit≤ tt })) g2)
    (λ s. by_not (net_value s x == value))

some_is : (x : ℕ) → not (x == 0) ≡ nat_le 1 x
some_is x =
    elim (cases_eq x 0) as (λ _. not (x == 0) ≡ nat_le 1 x) [
      | inl e ↦ ap not (eq-eqb x 0 e) ∙ sym (no_le 1 x (omega (arith, e)))
      | inr ne ↦ ap not (ne_eqb x 0 ne) ∙ sym (yes_le 1 x (omega (arith, ne)))
    ]

-- the test that a coordinate is this one
pub equal_is : (b0 b1 : Netlist) (x n : Net) (bits value : ℕ) (a : Atom Net) → Includes b1 b0 → IsNet b0 x → net_width b0 x ≡ bits → IsWidth bits → value < 2 ^ bits → a ≡ atom.Constant (record { width = bits; value = value }) → IsGate b1 b0 (Binary Equal (atom.Net x) a) n →
    Computes b1 b0 (x ∷ []) 1 (λ s. bit (net_value s x == value)) n
equal_is b0 b1 x n bits value a f is width wide fits e g =
    binary_computes b1 b0 b0 (x ∷ []) f bits Equal (λ s. net_value s x) (λ s. value) (atom.Net x) a n (given_source b0 b0 (x ∷ []) bits x (Includes-refl b0) is width (first_in x [])) (number_source b0 b0 (x ∷ []) bits value a e (record { width = wide; fits = fits })) g

-- where the coordinate must be at least one that is not the last
abbrev from_any : (side first x : ℕ) → Bool
from_any side first x = if first + 1 == side then x == first else nat_le first x

pub from_none : (side first x : ℕ) → first ≡ 0 → is_from side first x ≡ true
from_none side first x e = ap (λ (t : Bool). if t then true else from_any side first x) (eq-eqb first 0 e)

from_some : (side first x : ℕ) → 0 < first → is_from side first x ≡ from_any side first x
from_some side first x some = ap (λ (t : Bool). if t then true else from_any side first x) (ne_eqb first 0 (λ i. omega (arith, i, some)))

from_end : (side first x : ℕ) → 0 < first → first + 1 ≡ side → (x == first) ≡ is_from side first x
from_end side first x some whole = sym (from_some side first x some ∙ ap (λ (t : Bool). if t then x == first else nat_le first x) (eq-eqb (first + 1) side whole))

from_other : (side first x : ℕ) → 0 < first → first + 1 ≢ side → nat_le first x ≡ is_from side first x
from_other side first x some other = sym (from_some side first x some ∙ ap (λ (t : Bool). if t then x == first else nat_le first x) (ne_eqb (first + 1) side other))

pub is_from_end : (new old : Netlist) (x n : Net) (side first : ℕ) → 0 < first → first + 1 ≡ side → Computes new old (x ∷ []) 1 (λ s. bit (net_value s x == first)) n → Computes new old (x ∷ []) 1 (λ s. bit (is_from side first (net_value s x))) n
is_from_end new old x n side first some whole is =
    computes_as new old (x ∷ []) 1 1 (λ s. bit (net_value s x == first)) (λ s. bit (is_from side first (net_value s x))) n refl is (λ s. ap bit (from_end side first (net_value s x) some whole))

pub is_from_other : (new old : Netlist) (x n : Net) (side first : ℕ) → 0 < first → first + 1 ≢ side → Computes new old (x ∷ []) 1 (λ s. bit (nat_le first (net_value s x))) n → Computes new old (x ∷ []) 1 (λ s. bit (is_from side first (net_value s x))) n
is_from_other new old x n side first some other is =
    computes_as new old (x ∷ []) 1 1 (λ s. bit (nat_le first (net_value s x))) (λ s. bit (is_from side first (net_value s x))) n refl is (λ s. ap bit (from_other side first (net_value s x) some other))

none_is : (x : ℕ) → (x == 0) ≡ nat_lt x 1
none_is x =
    elim (cases_eq x 0) as (λ _. (x == 0) ≡ nat_lt x 1) [
      | inl e ↦ eq-eqb x 0 e ∙ sym (yes_lt x 1 (omega (arith, e)))
      | inr ne ↦ ne_eqb x 0 ne ∙ sym (no_lt x 1 (omega (arith, ne)))
    ]

-- a coordinate that is 0 is below 1
pub to_first : (new old : Netlist) (x n : Net) (side last : ℕ) → last ≡ 0 → last + 2 < side → Computes new old (x ∷ []) 1 (λ s. bit (net_value s x == 0)) n → Computes new old (x ∷ []) 1 (λ s. bit (is_up_to side last (net_value s x))) n
to_first new old x n side last e lt is =
    computes_as new old (x ∷ []) 1 1 (λ s. bit (net_value s x == 0)) (λ s. bit (is_up_to side last (net_value s x))) n refl is
    (λ s. ap bit (none_is (net_value s x) ∙ up_to_is side last 1 (net_value s x) (let i : 1 ≡ last + 1 = omega (arith, e) in i) (omega (arith, e, lt))))

-- one that is not the last is at most the one before
pub to_last : (new old : Netlist) (x n : Net) (side last end : ℕ) → end ≡ last + 1 → end + 1 ≡ side → Computes new old (x ∷ []) 1 (λ s. bit (not (net_value s x == end))) n → Computes new old (x ∷ []) 1 (λ s. bit (is_up_to side last (net_value s x))) n
to_last new old x n side last end e whole is =
    computes_as new old (x ∷ []) 1 1 (λ s. bit (not (net_value s x == end))) (λ s. bit (is_up_to side last (net_value s x))) n refl is (λ s. ap bit (up_to_apart side last end (net_value s x) e whole))

pub at_most_is : (b0 b1 : Netlist) (x n : Net) (bits side last end : ℕ) (a : Atom Net) → Includes b1 b0 → IsNet b0 x → net_width b0 x ≡ bits → IsWidth bits → end < 2 ^ bits → end ≡ last + 1 → end + 1 < side → a ≡ atom.Constant (record { width = bits; value = end }) → IsGate b1 b0 (Binary Less (atom.Net x) a) n →
    Computes b1 b0 (x ∷ []) 1 (λ s. bit (is_up_to side last (net_value s x))) n
at_most_is b0 b1 x n bits side last end a f is width wide fits end_is lt e g =
    let from : List Net = x ∷ [] in
    computes_as b1 b0 from 1 1 (λ s. bit (nat_lt (net_value s x) end)) (λ s. bit (is_up_to side last (net_value s x))) n refl
    (binary_computes b1 b0 b0 from f bits Less (λ s. net_value s x) (λ s. end) (atom.Net x) a n (given_source b0 b0 from bits x (Includes-refl b0) is width (first_in x [])) (number_source b0 b0 from bits end a e (record { width = wide; fits = fits })) g)
    (λ s. ap bit (up_to_is side last end (net_value s x) end_is lt))

-- both of two tests
pub both_net : (new old : Netlist) (one other : Option Net) (left right n : Net) → one ≡ Some left → other ≡ Some right → IsBit old one → IsBit old other → Includes new old → IsGate new old (Binary And (atom.Net left) (atom.Net right)) n → IsBoth new old one other (Some n)
both_net new old one other left right n e f is is' grows g =
    let from : List Net = left ∷ (right ∷ []) in
    let l : IsNet old left × (net_width old left ≡ 1) = subst (IsBit old) e is in
    let r : IsNet old right × (net_width old right ≡ 1) = subst (IsBit old) f is' in
    let c : Computes new old from 1 (λ s. bit_and (net_value s left) (net_value s right)) n =
    binary_computes new old old from grows 1 And (λ s. net_value s left) (λ s. net_value s right) (atom.Net left) (atom.Net right) n (given_source old old from 1 left (Includes-refl old) l.0 l.1 (first_in left (right ∷ []))) (given_source old old from 1 right (Includes-refl old) r.0 r.1 (second_in left right [])) g in
    subst (λ (o : Option Net). IsBoth new old o other (Some n)) (sym e) (subst (λ (o : Option Net). IsBoth new old (Some left) o (Some n)) (sym f) c)

-- what a test is worth lasts, and may be said of older nets and of more
pub tests_bit : (new old : Netlist) (from : List Net) (t : Snapshot → Bool) (o : Option Net) → Tests new old from t o → IsBit new o
tests_bit new old from t None is = tt
tests_bit new old from t (Some n) is = (is.net, is.width)

pub bit_more : (c b : Netlist) (o : Option Net) → Includes c b → IsBit b o → IsBit c o
bit_more c b None f is = tt
bit_more c b (Some n) f is = (net_more c b f n is.0, width_more c b f n is.0.declared ∙ is.1)

pub tests_more : (c b old : Netlist) (from : List Net) (t : Snapshot → Bool) (o : Option Net) → Includes c b → Tests b old from t o → Tests c old from t o
tests_more c b old from t None f is = InEach-more (λ m s. t s ≡ true) c b f is
tests_more c b old from t (Some n) f is = computes_more c b old from 1 (λ s. bit (t s)) n f is

pub tests_since : (new mid old : Netlist) (from : List Net) (t : Snapshot → Bool) (o : Option Net) → Includes mid old → Tests new mid from t o → Tests new old from t o
tests_since new mid old from t None f is = is
tests_since new mid old from t (Some n) f is = computes_since new mid old from 1 (λ s. bit (t s)) n f is

pub tests_from : (new old : Netlist) (from via : List Net) (t : Snapshot → Bool) (o : Option Net) → AreIn from via → Tests new old via t o → Tests new old from t o
tests_from new old from via t None among is = is
tests_from new old from via t (Some n) among is = computes_from new old from via 1 (λ s. bit (t s)) n among is

and_true : (a b : Bool) → a ≡ true → b ≡ true → (a && b) ≡ true
and_true true b e f = f
and_true false b e f = cc

and_left : (a b : Bool) → a ≡ true → b ≡ (a && b)
and_left true b e = refl
and_left false b e = cc

and_right : (a b : Bool) → b ≡ true → a ≡ (a && b)
and_right true b e = sym e
and_right false b e = refl

and_bits : (a b : Bool) → bit_and (bit a) (bit b) ≡ bit (a && b)
and_bits true true = refl
and_bits true false = refl
and_bits false true = refl
and_bits false false = refl

computes_worth : (new old : Netlist) (from : List Net) (worth other : Snapshot → ℕ) (n : Net) → Computes new old from 1 worth n → InEach new (λ m s. worth s ≡ other s) → Computes new old from 1 other n
computes_worth new old from worth other n is same = record { net = is.net; width = is.width; value = λ m s part settled. is.value m s part settled ∙ same m s part settled; made_of = is.made_of }

two_made : (b : Netlist) (base : Holder → Bool) (y z : Net) → IsMadeOf b base (OfNet y) → IsMadeOf b base (OfNet z) → AreMadeOf b base (y ∷ (z ∷ []))
two_made b base y z p q x (zero, l, e) = subst (λ (w : Net). IsMadeOf b base (OfNet w)) e p
two_made b base y z p q x (suc zero, l, e) = subst (λ (w : Net). IsMadeOf b base (OfNet w)) e q
two_made b base y z p q x (suc (suc k), l, e) = absurd (omega (arith, l))

pub both_tests : (new mid old : Netlist) (from : List Net) (f g : Snapshot → Bool) (one other both : Option Net) → Includes new mid → Tests mid old from f one → Tests mid old from g other → IsBoth new mid one other both → Tests new old from (λ s. f s && g s) both
both_tests new mid old from f g None None both grows p q e =
    subst (Tests new old from (λ s. f s && g s)) (sym e) (λ m s part settled. and_true (f s) (g s) (p m s (Includes-trans m new mid part grows) settled) (q m s (Includes-trans m new mid part grows) settled))
both_tests new mid old from f g None (Some o) both grows p q e =
    subst (Tests new old from (λ s. f s && g s)) (sym e)
    (computes_worth new old from (λ s. bit (g s)) (λ s. bit (f s && g s)) o (computes_more new mid old from 1 (λ s. bit (g s)) o grows q) (λ m s part settled. ap bit (and_left (f s) (g s) (p m s (Includes-trans m new mid part grows) settled))))
both_tests new mid old from f g (Some n) None both grows p q e =
    subst (Tests new old from (λ s. f s && g s)) (sym e)
    (computes_worth new old from (λ s. bit (f s)) (λ s. bit (f s && g s)) n (computes_more new mid old from 1 (λ s. bit (f s)) n grows p) (λ m s part settled. ap bit (and_right (f s) (g s) (q m s (Includes-trans m new mid part grows) settled))))
both_tests new mid old from f g (Some n) (Some o) None grows p q e = absurd e
both_tests new mid old from f g (Some n) (Some o) (Some k) grows p q e =
    computes_through new mid old from (n ∷ (o ∷ [])) 1 (λ s. bit_and (net_value s n) (net_value s o)) (λ s. bit (f s && g s)) k e
    (λ base all. two_made mid base n o (p.made_of base all) (q.made_of base all))
    (λ m s part settled.
    let in_mid : Includes m mid = Includes-trans m new mid part grows in
    ap (λ (v : ℕ). bit_and v (net_value s o)) (p.value m s in_mid settled) ∙ ap (λ (v : ℕ). bit_and (bit (f s)) v) (q.value m s in_mid settled) ∙ and_bits (f s) (g s))

pub test_computes : (new mid old : Netlist) (from : List Net) (t : Snapshot → Bool) (o : Option Net) (n : Net) → Includes new mid → Includes mid old → Tests mid old from t o → IsTestNet new mid o n → Computes new old from 1 (λ s. bit (t s)) n
test_computes new mid old from t None n grows older is net =
    computes_worth new old from (λ s. 1) (λ s. bit (t s)) n (computes_since new mid old from 1 (λ s. 1) n older (computes_from new mid from [] 1 (λ s. 1) n (none_in from) net)) (λ m s part settled. sym (ap bit (is m s (Includes-trans m new mid part grows) settled)))
test_computes new mid old from t (Some k) n grows older is net = subst (Computes new old from 1 (λ s. bit (t s))) (sym net) (computes_more new mid old from 1 (λ s. bit (t s)) k grows is)

-- the bit of a test
-- the bit of what holds for the same reason
pub bit_as : (P Q : Type 0) (v : ℕ) → (P → Q) → (Q → P) → IsBitOf P v → IsBitOf Q v
bit_as P Q v f g (inl h) = inl (f h.0, h.1)
bit_as P Q v f g (inr h) = inr ((λ q. h.0 (g q)), h.1)

pub bit_of : (P : Type 0) (t : Bool) → (IsTrue t → P) → (P → IsTrue t) → IsBitOf P (bit t)
bit_of P true f g = inl (f refl, refl)
bit_of P false f g = inr ((λ p. (let h : IsTrue false = g p in cc)), refl)

true_le : (a b : ℕ) → IsTrue (nat_le a b) → a ≤ b
true_le a b h = grind arith

true_lt : (a b : ℕ) → IsTrue (nat_lt a b) → a < b
true_lt a b h = grind arith

and_parts : (a b : Bool) → IsTrue (a && b) → IsTrue a × IsTrue b
and_parts true b h = (refl, h)
and_parts false b h = cc

not_both : (b : Bool) → b ≡ true → IsTrue (not b) → ⊥
not_both true e h = cc
not_both false e h = cc

up_to_in : (side last x : ℕ) → x < side → IsTrue (is_up_to side last x) → x ≤ last
up_to_in side last x low h =
    elim (cases_lt (last + 1) side) as (λ _. x ≤ last) [
      | inl lt ↦
          let t : IsTrue (below_end side last x) = subst (λ (b : Bool). IsTrue (if b then below_end side last x else true)) (yes_lt (last + 1) side lt) h in
          elim (cases_eq (last + 2) side) as (λ _. x ≤ last) [
            | inl e ↦
                let u : IsTrue (not (x == last + 1)) = subst (λ (b : Bool). IsTrue (if b then not (x == last + 1) else nat_lt x (last + 1))) (eq-eqb (last + 2) side e) t in
                let apart : x ≢ last + 1 = λ i. not_both (x == last + 1) (eq-eqb x (last + 1) i) u in
                omega (arith, e, low, apart)
            | inr ne ↦
                let u : IsTrue (nat_lt x (last + 1)) = subst (λ (b : Bool). IsTrue (if b then not (x == last + 1) else nat_lt x (last + 1))) (ne_eqb (last + 2) side ne) t in
                omega (arith, true_lt x (last + 1) u)
          ]
      | inr ge ↦ omega (arith, ge, low)
    ]

in_up_to : (side last x : ℕ) → x ≤ last → IsTrue (is_up_to side last x)
in_up_to side last x high =
    elim (cases_lt (last + 1) side) as (λ _. IsTrue (is_up_to side last x)) [
      | inl lt ↦
          let t : IsTrue (below_end side last x) =
          elim (cases_eq (last + 2) side) as (λ _. IsTrue (below_end side last x)) [
            | inl e ↦ subst (λ (b : Bool). IsTrue (if b then not (x == last + 1) else nat_lt x (last + 1))) (sym (eq-eqb (last + 2) side e)) (ap not (ne_eqb x (last + 1) (λ i. omega (arith, i, high))))
            | inr ne ↦ subst (λ (b : Bool). IsTrue (if b then not (x == last + 1) else nat_lt x (last + 1))) (sym (ne_eqb (last + 2) side ne)) (yes_lt x (last + 1) (omega (arith, high)))
          ] in
          subst (λ (b : Bool). IsTrue (if b then below_end side last x else true)) (sym (yes_lt (last + 1) side lt)) t
      | inr ge ↦ up_to_all side last (last + 1) x refl ge
    ]

from_in : (side first x : ℕ) → IsTrue (is_from side first x) → first ≤ x
from_in side first x h =
    elim (cases_eq first 0) as (λ _. first ≤ x) [
      | inl e ↦ omega (arith, e)
      | inr ne ↦
          let some : 0 < first = omega (arith, ne) in
          elim (cases_eq (first + 1) side) as (λ _. first ≤ x) [
            | inl whole ↦ let e : x ≡ first = eqb-true x first (from_end side first x some whole ∙ h) in omega (arith, e)
            | inr other ↦ true_le first x (from_other side first x some other ∙ h)
          ]
    ]

in_from : (side first x : ℕ) → x < side → first ≤ x → IsTrue (is_from side first x)
in_from side first x low high =
    elim (cases_eq first 0) as (λ _. IsTrue (is_from side first x)) [
      | inl e ↦ from_none side first x e
      | inr ne ↦
          let some : 0 < first = omega (arith, ne) in
          elim (cases_eq (first + 1) side) as (λ _. IsTrue (is_from side first x)) [
            | inl whole ↦ sym (from_end side first x some whole) ∙ eq-eqb x first (omega (arith, whole, low, high))
            | inr other ↦ sym (from_other side first x some other) ∙ yes_le first x high
          ]
    ]

pub within_in : (side : ℕ) (i : Interval) (x : ℕ) → x < side → IsTrue (is_within side i.first i.last x) → IsIn i x
within_in side i x low h = let p = and_parts (is_from side i.first x) (is_up_to side i.last x) h in record { first = from_in side i.first x p.0; last = up_to_in side i.last x low p.1 }

pub in_within : (side : ℕ) (i : Interval) (x : ℕ) → x < side → IsIn i x → IsTrue (is_within side i.first i.last x)
in_within side i x low is = and_true (is_from side i.first x) (is_up_to side i.last x) (in_from side i.first x low is.first) (in_up_to side i.last x is.last)

-- a pixel is in the rectangle
abbrev pub in_rectangle : (width height : ℕ) → Rectangle → (x y : ℕ) → Bool
in_rectangle width height r x y = is_within width r.across.first r.across.last x && is_within height r.down.first r.down.last y

pub rectangle_bit : (width height : ℕ) (r : Rectangle) (x y : ℕ) (P : Type 0) → x < width → y < height → (Passes r x y → P) → (P → Passes r x y) → IsBitOf P (bit (in_rectangle width height r x y))
rectangle_bit width height r x y P low high f g =
    let across : Bool = is_within width r.across.first r.across.last x in
    let down : Bool = is_within height r.down.first r.down.last y in
    bit_of P (across && down)
    (λ h. let p = and_parts across down h in f (record { across = within_in width r.across x low p.0; down = within_in height r.down y high p.1 }))
    (λ h. let is = g h in and_true across down (in_within width r.across x low is.across) (in_within height r.down y high is.down))

pub test_is : (new old : Netlist) (p : Pixel) (passes : (x y : ℕ) → Type 0) (test : (x y : ℕ) → Bool) (n : Net) → Computes new old (p.column ∷ (p.row ∷ [])) 1 (λ s. bit (test (net_value s p.column) (net_value s p.row))) n →
    ((x y : ℕ) → x < p.size.width → y < p.size.height → IsBitOf (passes x y) (bit (test x y))) → IsTest new old p passes n
test_is new old p passes test n is right = record {
  net = is.net;
  width = is.width;
  value = λ m s part settled frame. subst (IsBitOf (passes (net_value s p.column) (net_value s p.row))) (sym (is.value m s part settled)) (right (net_value s p.column) (net_value s p.row) frame.column frame.row);
  made_of = λ base column row. is.made_of base (two_made old base p.column p.row column row);
}

no_nets : (b : Netlist) (base : Holder → Bool) → AreMadeOf b base []
no_nets b base n (k, l, e) = absurd (omega (arith, l))

pub no_test_is : (new old : Netlist) (p : Pixel) (passes : (x y : ℕ) → Type 0) (n : Net) → Computes new old [] 1 (λ s. 0) n → ((x y : ℕ) → x < p.size.width → y < p.size.height → passes x y → ⊥) → IsTest new old p passes n
no_test_is new old p passes n is none = record {
  net = is.net;
  width = is.width;
  value = λ m s part settled frame. inr (none (net_value s p.column) (net_value s p.row) frame.column frame.row, is.value m s part settled);
  made_of = λ base column row. is.made_of base (no_nets old base);
}

pub test_as : (new old : Netlist) (p : Pixel) (passes other : (x y : ℕ) → Type 0) (n : Net) → IsTest new old p passes n → ((x y : ℕ) → passes x y → other x y) → ((x y : ℕ) → other x y → passes x y) → IsTest new old p other n
test_as new old p passes other n is f g = record {
  net = is.net;
  width = is.width;
  value = λ m s part settled frame. (let x = net_value s p.column in let y = net_value s p.row in bit_as (passes x y) (other x y) (net_value s n) (f x y) (g x y) (is.value m s part settled frame));
  made_of = is.made_of;
}

pub test_within : (new old : Netlist) (p : Pixel) (passes other : (x y : ℕ) → Type 0) (n : Net) → IsTest new old p passes n → ((x y : ℕ) → x < p.size.width → y < p.size.height → (passes x y → other x y) × (other x y → passes x y)) → IsTest new old p other n
test_within new old p passes other n is same = record {
  net = is.net;
  width = is.width;
  value = λ m s part settled frame. (let x = net_value s p.column in let y = net_value s p.row in let e = same x y frame.column frame.row in bit_as (passes x y) (other x y) (net_value s n) e.0 e.1 (is.value m s part settled frame));
  made_of = is.made_of;
}
