-- Logic depth of tests.
use Rattle.std.proofs.Common.{◌≡◌, ℕ, zero, suc, ◌+◌, Bool, true, false, List, [], ◌∷◌, ◌++◌, Option, None, Some, refl, sym, subst, arith}
use Rattle.std.specs.Prelude.{IfSome, IsTrue}
use Rattle.std.specs.Option.{option_to_list}
use Rattle.std.proofs.lemmas.List.Elements.{All-append}
use Rattle.wiring.specs.declared.right.Atom.TheVariants as atom
use Rattle.wiring.specs.declared.right.Operator.TheVariants.{And}
use Rattle.wiring.specs.declared.right.Right.TheVariants.{Not, Binary}
use Rattle.wiring.specs.declared.netlist.Net.{Net}
use Rattle.wiring.specs.declared.netlist.Net.TheVariants.{Reg}
use Rattle.wiring.specs.declared.netlist.Holder.{Holder}
use Rattle.wiring.specs.declared.netlist.Holder.TheVariants.{OfNet}
use Rattle.wiring.specs.BufferBits.{atom_reads}
use Rattle.wiring.specs.Netlist.{Netlist}
use Rattle.net_build.specs.Includes.{Includes}
use Rattle.net_build.specs.Control.{is_control}
use Rattle.net_build.specs.Depth.{IsWithin, AreWithin, IsOver, by_itself}
use Rattle.net_build.specs.Logic.{IsGate}
use Rattle.net_build.proofs.Depth.{within_more, within_net, within_deeper}
use Rattle.net_build.proofs.Logic.{first_in, second_in}

-- over rst, en and registers, as the netlist grows
pub depth_more : (b a : Netlist) (k : ℕ) (n : Net) → Includes b a → IsWithin a (is_control a.enable) k (OfNet n) → IsWithin b (is_control b.enable) k (OfNet n)
depth_more b a k n f is = subst (λ (e : Bool). IsWithin b (is_control e) k (OfNet n)) (sym f.enable) (within_more b a (is_control a.enable) f is)

-- a register
pub register_within : (b : Netlist) (n : Net) (r : ℕ) → n ≡ Reg r → IsWithin b (is_control b.enable) 0 (OfNet n)
register_within b n r e = subst (λ (x : Net). IsWithin b (is_control b.enable) 0 (OfNet x)) (sym e) (by_itself (always b.enable))
  where
    always : (e : Bool) → IsTrue (is_control e (OfNet (Reg r)))
    always true = refl
    always false = refl

-- over nets that have a depth
pub depth_over : (new old : Netlist) (k j : ℕ) (from : List Net) (n : Net) → Includes new old → AreWithin old (is_control old.enable) j from → IsOver new old k from n → IsWithin new (is_control new.enable) (k + j) (OfNet n)
depth_over new old k j from n f all is = subst (λ (e : Bool). IsWithin new (is_control e) (k + j) (OfNet n)) (sym f.enable) (is (is_control old.enable) j all)

pub none_within : (b : Netlist) (base : Holder → Bool) (j : ℕ) → AreWithin b base j []
none_within b base j x (i, l, e) = absurd (omega (arith, l))

pub one_within : (b : Netlist) (base : Holder → Bool) (j : ℕ) (n : Net) → IsWithin b base j (OfNet n) → AreWithin b base j (n ∷ [])
one_within b base j n is x (zero, l, e) = subst (λ (w : Net). IsWithin b base j (OfNet w)) e is
one_within b base j n is x (suc i, l, e) = absurd (omega (arith, l))

pub two_within : (b : Netlist) (base : Holder → Bool) (j : ℕ) (m n : Net) → IsWithin b base j (OfNet m) → IsWithin b base j (OfNet n) → AreWithin b base j (m ∷ (n ∷ []))
two_within b base j m n is other x (zero, l, e) = subst (λ (w : Net). IsWithin b base j (OfNet w)) e is
two_within b base j m n is other x (suc zero, l, e) = subst (λ (w : Net). IsWithin b base j (OfNet w)) e other
two_within b base j m n is other x (suc (suc i), l, e) = absurd (omega (arith, l))

-- a constant
pub constant_depth : (new old : Netlist) (j : ℕ) (n : Net) → Includes new old → IsOver new old 0 [] n → IsWithin new (is_control new.enable) (0 + j) (OfNet n)
constant_depth new old j n f is = depth_over new old 0 j [] n f (none_within old (is_control old.enable) j) is

-- the net of a test
pub none_over : (new old : Netlist) (test : Option Net) (n : Net) → test ≡ None → IsOver new old 0 [] n → IsOver new old 0 (option_to_list test) n
none_over new old test n e is = subst (λ (o : Option Net). IsOver new old 0 (option_to_list o) n) (sym e) is

pub some_over : (b : Netlist) (test : Option Net) (n : Net) → test ≡ Some n → IsOver b b 0 (option_to_list test) n
some_over b test n e = subst (λ (o : Option Net). IsOver b b 0 (option_to_list o) n) (sym e) (λ base j all. within_deeper (omega arith) (all n (first_in n [])))

-- the same test, or not it
pub same_over : (b : Netlist) (n : Net) → IsOver b b 1 (n ∷ []) n
same_over b n base j all = within_deeper (omega arith) (all n (first_in n []))

pub negated_over : (new old : Netlist) (test n : Net) → Includes new old → IsGate new old (Not (atom.Net test)) n → IsOver new old 1 (test ∷ []) n
negated_over new old test n f g base j all = g.within base j (within_net new base j test (within_more new old base f (all test (first_in test []))))

-- both of two tests
abbrev pub IsOverBoth : (new old : Netlist) (one other : Option Net) → Net → Type 0
IsOverBoth new old one other n = IsOver new old 1 (option_to_list one ++ option_to_list other) n

pub other_over : (b : Netlist) (one other : Option Net) → one ≡ None → IfSome other (IsOverBoth b b one other)
other_over b one other e = subst (λ (o : Option Net). IfSome other (IsOverBoth b b o other)) (sym e) (only other)
  where
    only : (o : Option Net) → IfSome o (IsOverBoth b b None o)
    only None = tt
    only (Some n) = same_over b n

pub first_over : (b : Netlist) (one other : Option Net) (n : Net) → one ≡ Some n → other ≡ None → IsOverBoth b b one other n
first_over b one other n e f = subst (λ (o : Option Net). IsOverBoth b b o other n) (sym e) (subst (λ (o : Option Net). IsOverBoth b b (Some n) o n) (sym f) (same_over b n))

pub both_over : (new old : Netlist) (one other : Option Net) (left right n : Net) → one ≡ Some left → other ≡ Some right → Includes new old → IsGate new old (Binary And (atom.Net left) (atom.Net right)) n → IsOverBoth new old one other n
both_over new old one other left right n e f grows g = subst (λ (o : Option Net). IsOverBoth new old o other n) (sym e) (subst (λ (o : Option Net). IsOverBoth new old (Some left) o n) (sym f) over)
  where
    over : IsOver new old 1 (left ∷ (right ∷ [])) n
    over base j all =
        g.within base j (All-append (IsWithin new base j) (atom_reads (atom.Net left)) (atom_reads (atom.Net right)) (within_net new base j left (within_more new old base grows (all left (first_in left (right ∷ [])))))
        (within_net new base j right (within_more new old base grows (all right (second_in left right [])))))

-- A test of columns or rows: its net, where it has one, is made of rst, en and registers with an operator at most.
abbrev pub HasPartDepth : Netlist → Option Net → Type 0
HasPartDepth b o = IfSome o (λ n. IsWithin b (is_control b.enable) 1 (OfNet n))

pub part_depth_more : (b a : Netlist) (o : Option Net) → Includes b a → HasPartDepth a o → HasPartDepth b o
part_depth_more b a None f is = tt
part_depth_more b a (Some n) f is = depth_more b a 1 n f is

-- a test of both
pub rectangle_depth : (new mid old : Netlist) (across down both : Option Net) (n : Net) → Includes mid old → Includes new mid → HasPartDepth old across → HasPartDepth old down → IfSome both (IsOverBoth mid old across down) → IsOver new mid 0 (option_to_list both) n → IsWithin new (is_control new.enable) 2 (OfNet n)
rectangle_depth new mid old across down both n f g one other over is = depth_over new mid 0 2 (option_to_list both) n g (test_within both over) is
  where
    parts : (o p : Option Net) → HasPartDepth old o → HasPartDepth old p → AreWithin old (is_control old.enable) 1 (option_to_list o ++ option_to_list p)
    parts None None a b = none_within old (is_control old.enable) 1
    parts None (Some k) a b = one_within old (is_control old.enable) 1 k b
    parts (Some i) None a b = one_within old (is_control old.enable) 1 i a
    parts (Some i) (Some k) a b = two_within old (is_control old.enable) 1 i k a b

    test_within : (o : Option Net) → IfSome o (IsOverBoth mid old across down) → AreWithin mid (is_control mid.enable) 2 (option_to_list o)
    test_within None h = none_within mid (is_control mid.enable) 2
    test_within (Some k) h = one_within mid (is_control mid.enable) 2 k (depth_over mid old 1 1 (option_to_list across ++ option_to_list down) k f (parts across down one other) h)
