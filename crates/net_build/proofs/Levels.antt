-- Logic depth of what registers take.
use Rattle.std.proofs.Common.{◌≡◌, ℕ, zero, suc, ◌≤◌, ◌+◌, Bool, true, false, List, [], ◌∷◌, ◌++◌, refl, sym, subst, inl, inr, arith}
use Rattle.std.specs.Prelude.{IsTrue, All, Contains, if◌then◌else◌}
use Rattle.std.proofs.lemmas.List.Elements.{All-append, Contains-append_left, Contains-append_right, Contains-append_cases}
use Rattle.wiring.specs.Sizes.{SizedNumber}
use Rattle.wiring.specs.declared.right.Atom.{Atom}
use Rattle.wiring.specs.declared.right.Atom.TheVariants as atom
use Rattle.wiring.specs.declared.right.Operator.{Operator}
use Rattle.wiring.specs.declared.right.Operator.TheVariants.{Equal, Add, Or}
use Rattle.wiring.specs.declared.right.Right.TheVariants.{Binary, Choose}
use Rattle.wiring.specs.declared.netlist.Net.{Net}
use Rattle.wiring.specs.declared.netlist.Net.TheVariants.{Input, Output, Wire, Reg}
use Rattle.wiring.specs.declared.netlist.Holder.{Holder}
use Rattle.wiring.specs.declared.netlist.Holder.TheVariants.{OfNet, OfArray}
use Rattle.wiring.specs.BufferBits.{atom_reads}
use Rattle.wiring.specs.Netlist.{Netlist, reset_net, enable_net}
use Rattle.net_build.specs.Includes.{Includes}
use Rattle.net_build.specs.Control.{is_control}
use Rattle.net_build.specs.Counters.{control_nets}
use Rattle.net_build.specs.Depth.{IsWithin, AreWithin, IsOver, by_itself, is_start, hold_levels}
use Rattle.net_build.specs.Logic.{IsGate}
use Rattle.net_build.proofs.Control.{in_control}
use Rattle.net_build.proofs.Counting.{enable_in, reset_in}
use Rattle.net_build.proofs.Depth.{within_more, within_wider, within_deeper, within_net, within_constant}
use Rattle.net_build.proofs.Logic.{first_in, second_in}
use Rattle.net_build.proofs.Parts.{Includes-trans}

-- What an operand reads is within j.
abbrev pub AtomWithin : Netlist → (Holder → Bool) → (j : ℕ) → Atom Net → Type 0
AtomWithin b base j a = All (IsWithin b base j) (atom_reads a)

pub atom_deeper : (b : Netlist) (base : Holder → Bool) (i j : ℕ) (n : Net) → i ≤ j → IsWithin b base i (OfNet n) → AtomWithin b base j (atom.Net n)
atom_deeper b base i j n le is = within_net b base j n (within_deeper le is)

-- one of the nets that have the depth, in a netlist that grows
pub given_within : (b old : Netlist) (base : Holder → Bool) (j : ℕ) (from : List Net) (n : Net) → Includes b old → Contains from n → AreWithin old base j from → AtomWithin b base j (atom.Net n)
given_within b old base j from n f c all = within_net b base j n (within_more b old base f (all n c))

pub binary_within : (new old : Netlist) (base : Holder → Bool) (j : ℕ) (o : Operator) (a x : Atom Net) (n : Net) → IsGate new old (Binary o a x) n → AtomWithin new base j a → AtomWithin new base j x → IsWithin new base (1 + j) (OfNet n)
binary_within new old base j o a x n g p q = g.within base j (All-append (IsWithin new base j) (atom_reads a) (atom_reads x) p q)

pub choose_within : (new old : Netlist) (base : Holder → Bool) (j : ℕ) (c a x : Atom Net) (n : Net) → IsGate new old (Choose c a x) n → AtomWithin new base j c → AtomWithin new base j a → AtomWithin new base j x → IsWithin new base (1 + j) (OfNet n)
choose_within new old base j c a x n g p q r = g.within base j (All-append (IsWithin new base j) (atom_reads c ++ atom_reads a) (atom_reads x) (All-append (IsWithin new base j) (atom_reads c) (atom_reads a) p q) r)

-- a count: its test and what follows
pub ending_over : (c b1 b0 : Netlist) (at ending : Net) (last : Atom Net) (k : SizedNumber) → Includes b1 b0 → Includes c b1 → last ≡ atom.Constant k → IsGate b1 b0 (Binary Equal (atom.Net at) last) ending → IsOver c b0 1 (at ∷ []) ending
ending_over c b1 b0 at ending last k f more last_is g base j all =
    within_more c b1 base more (binary_within b1 b0 base j Equal (atom.Net at) last ending g (given_within b1 b0 base j (at ∷ []) at f (first_in at []) all) (within_constant b1 base j last k last_is))

pub next_over : (b0 b1 b2 b3 : Netlist) (at ending more next : Net) (bits : ℕ) (wraps : Bool) (last one over : Atom Net) (k l : SizedNumber) → Includes b1 b0 → Includes b2 b1 → Includes b3 b2 → last ≡ atom.Constant k → one ≡ atom.Constant l →
    over ≡ (if wraps then atom.Constant (record { width = bits; value = 0 }) else atom.Net at) → IsGate b1 b0 (Binary Equal (atom.Net at) last) ending → IsGate b2 b1 (Binary Add (atom.Net at) one) more → IsGate b3 b2 (Choose (atom.Net ending) over (atom.Net more)) next → IsOver b3 b0 2 (at ∷ []) next
next_over b0 b1 b2 b3 at ending more next bits wraps last one over k l f1 f2 f3 last_is one_is over_is g1 g2 g3 base j all =
    let f20 : Includes b2 b0 = Includes-trans b2 b1 b0 f2 f1 in
    let f30 : Includes b3 b0 = Includes-trans b3 b2 b0 f3 f20 in
    let test : IsWithin b3 base (1 + j) (OfNet ending) = ending_over b3 b1 b0 at ending last k f1 (Includes-trans b3 b2 b1 f3 f2) last_is g1 base j all in
    let sum : IsWithin b2 base (1 + j) (OfNet more) = binary_within b2 b1 base j Add (atom.Net at) one more g2 (given_within b2 b0 base j (at ∷ []) at f20 (first_in at []) all) (within_constant b2 base j one l one_is) in
    within_deeper (omega arith) (choose_within b3 b2 base (1 + j) (atom.Net ending) over (atom.Net more) next g3 (within_net b3 base (1 + j) ending test) (begins wraps f30 over over_is) (within_net b3 base (1 + j) more (within_more b3 b2 base f3 sum)))
  where
    begins : (w : Bool) → Includes b3 b0 → (a : Atom Net) → a ≡ (if w then atom.Constant (record { width = bits; value = 0 }) else atom.Net at) → AtomWithin b3 base (1 + j) a
    begins true f a e = within_constant b3 base (1 + j) a (record { width = bits; value = 0 }) e
    begins false f a e = subst (AtomWithin b3 base (1 + j)) (sym e) (atom_deeper b3 base j (1 + j) at (omega arith) (within_more b3 b0 base f (all at (first_in at []))))

-- the nets of which one of two is taken
abbrev pub choice_nets : (enable : Bool) → (now next : Net) → List Net
choice_nets enable now next = control_nets enable ++ now ∷ (next ∷ [])

now_in : (e : Bool) (now next : Net) → Contains (choice_nets e now next) now
now_in e now next = Contains-append_right (control_nets e) (now ∷ (next ∷ [])) now (first_in now (next ∷ []))

next_in : (e : Bool) (now next : Net) → Contains (choice_nets e now next) next
next_in e now next = Contains-append_right (control_nets e) (now ∷ (next ∷ [])) next (second_in now next [])

pub held_over : (b1 b0 : Netlist) (now next en n : Net) → b0.enable ≡ true → en ≡ enable_net → Includes b1 b0 → IsGate b1 b0 (Choose (atom.Net en) (atom.Net next) (atom.Net now)) n → IsOver b1 b0 (hold_levels b0.enable) (choice_nets b0.enable now next) n
held_over b1 b0 now next en n on en_is f g base j all =
    let from : List Net = choice_nets b0.enable now next in
    subst (λ (e : Bool). IsWithin b1 base (hold_levels e + j) (OfNet n)) (sym on)
    (choose_within b1 b0 base j (atom.Net en) (atom.Net next) (atom.Net now) n g (given_within b1 b0 base j from en f (subst (Contains from) (sym en_is) (enable_in b0.enable (now ∷ (next ∷ [])) on)) all) (given_within b1 b0 base j from next f (next_in b0.enable now next) all) (given_within b1 b0 base j from now f (now_in b0.enable now next) all))

pub few_held : (e : Bool) → hold_levels e ≤ 1
few_held true = omega arith
few_held false = omega arith

-- without en it is what is next
pub plain_over : (b : Netlist) (k : ℕ) (now next : Net) → IsOver b b k (choice_nets b.enable now next) next
plain_over b k now next base j all = within_deeper (omega arith) (all next (next_in b.enable now next))

pub loaded_over : (b0 b1 b2 : Netlist) (now next reset en going n : Net) → b0.enable ≡ true → reset ≡ reset_net → en ≡ enable_net → Includes b1 b0 → Includes b2 b1 → IsGate b1 b0 (Binary Or (atom.Net reset) (atom.Net en)) going → IsGate b2 b1 (Choose (atom.Net going) (atom.Net next) (atom.Net now)) n → IsOver b2 b0 2 (choice_nets b0.enable now next) n
loaded_over b0 b1 b2 now next reset en going n on reset_is en_is f1 f2 g1 g2 base j all =
    let from : List Net = choice_nets b0.enable now next in
    let rest : List Net = now ∷ (next ∷ []) in
    let f20 : Includes b2 b0 = Includes-trans b2 b1 b0 f2 f1 in
    let test : IsWithin b1 base (1 + j) (OfNet going) = binary_within b1 b0 base j Or (atom.Net reset) (atom.Net en) going g1 (given_within b1 b0 base j from reset f1 (subst (Contains from) (sym reset_is) (reset_in b0.enable rest)) all) (given_within b1 b0 base j from en f1 (subst (Contains from) (sym en_is) (enable_in b0.enable rest on)) all) in
    within_deeper (omega arith) (choose_within b2 b1 base (1 + j) (atom.Net going) (atom.Net next) (atom.Net now) n g2 (within_net b2 base (1 + j) going (within_more b2 b1 base f2 test))
    (atom_deeper b2 base j (1 + j) next (omega arith) (within_more b2 b0 base f20 (all next (next_in b0.enable now next)))) (atom_deeper b2 base j (1 + j) now (omega arith) (within_more b2 b0 base f20 (all now (now_in b0.enable now next)))))

-- a number in a reset clock, and else what is next or held
pub taken_over : (b0 b1 b2 : Netlist) (now next reset going n : Net) (first : Atom Net) (number : SizedNumber) (h : ℕ) → reset ≡ reset_net → first ≡ atom.Constant number → Includes b1 b0 → Includes b2 b1 → IsOver b1 b0 h (choice_nets b0.enable now next) going → IsGate b2 b1 (Choose (atom.Net reset) first (atom.Net going)) n → IsOver b2 b0 (1 + h) (choice_nets b0.enable now next) n
taken_over b0 b1 b2 now next reset going n first number h reset_is first_is f1 f2 over g base j all =
    let from : List Net = choice_nets b0.enable now next in
    let f20 : Includes b2 b0 = Includes-trans b2 b1 b0 f2 f1 in
    within_deeper (omega arith) (choose_within b2 b1 base (h + j) (atom.Net reset) first (atom.Net going) n g (atom_deeper b2 base j (h + j) reset (omega arith) (within_more b2 b0 base f20 (all reset (subst (Contains from) (sym reset_is) (reset_in b0.enable (now ∷ (next ∷ [])))))))
    (within_constant b2 base (h + j) first number first_is) (within_net b2 base (h + j) going (within_more b2 b1 base f2 (over base j all))))

-- Nets of which something is chosen, of which some are deeper than others.
pub choice_within : (b old : Netlist) (base : Holder → Bool) (i j : ℕ) (now next : Net) → i ≤ j → Includes b old → AreWithin old base i (control_nets old.enable) → IsWithin b base j (OfNet now) → IsWithin b base j (OfNet next) → AreWithin b base j (choice_nets b.enable now next)
choice_within b old base i j now next le f control is_now is_next x c =
    elim (Contains-append_cases (control_nets b.enable) (now ∷ (next ∷ [])) x c) as (λ _. IsWithin b base j (OfNet x)) [
      | inl h ↦ within_deeper le (within_more b old base f (control x (subst (λ (e : Bool). Contains (control_nets e) x) f.enable h)))
      | inr h ↦ two x h
    ]
  where
    two : (x : Net) → Contains (now ∷ (next ∷ [])) x → IsWithin b base j (OfNet x)
    two x (zero, l, e) = subst (λ (w : Net). IsWithin b base j (OfNet w)) e is_now
    two x (suc zero, l, e) = subst (λ (w : Net). IsWithin b base j (OfNet w)) e is_next
    two x (suc (suc i), l, e) = absurd (omega (arith, l))

-- one net
pub single_within : (b : Netlist) (base : Holder → Bool) (j : ℕ) (n : Net) → IsWithin b base j (OfNet n) → AreWithin b base j (n ∷ [])
single_within b base j n is x (zero, l, e) = subst (λ (w : Net). IsWithin b base j (OfNet w)) e is
single_within b base j n is x (suc i, l, e) = absurd (omega (arith, l))

abbrev pub register_nets : (enable : Bool) → (register : Net) → List Net
register_nets enable register = control_nets enable ++ register ∷ []

control_part : (b : Netlist) (base : Holder → Bool) (j : ℕ) (register : Net) → AreWithin b base j (register_nets b.enable register) → AreWithin b base j (control_nets b.enable)
control_part b base j register all x c = all x (Contains-append_left (control_nets b.enable) (register ∷ []) x c)

-- the register of a count: what it takes
pub counted_over : (b0 b1 b2 b3 : Netlist) (register index more next : Net) → Includes b1 b0 → Includes b2 b1 → Includes b3 b2 → IsOver b1 b0 1 (register_nets b0.enable register) index → IsOver b2 b1 2 (index ∷ []) more → IsOver b3 b2 (1 + hold_levels b2.enable) (choice_nets b2.enable index more) next → IsOver b3 b0 5 (register_nets b0.enable register) next
counted_over b0 b1 b2 b3 register index more next f1 f2 f3 o1 o2 o3 base j all =
    let f20 : Includes b2 b0 = Includes-trans b2 b1 b0 f2 f1 in
    let at : IsWithin b1 base (1 + j) (OfNet index) = o1 base j all in
    let on : IsWithin b2 base (2 + (1 + j)) (OfNet more) = o2 base (1 + j) (single_within b1 base (1 + j) index at) in
    within_deeper (omega (arith, few_held b2.enable)) (o3 base (3 + j) (choice_within b2 b0 base j (3 + j) index more (omega arith) f20 (control_part b0 base j register all) (within_deeper (omega arith) (within_more b2 b1 base f2 at)) (within_deeper (omega arith) on)))

-- indices: the one that follows, and what the register takes
pub step_over : (c b0 b1 b2 : Netlist) (register now next : Net) → Includes c b2 → IsOver b1 b0 1 (register_nets b0.enable register) now → IsOver b2 b1 2 (now ∷ []) next → IsOver c b0 3 (register_nets b0.enable register) next
step_over c b0 b1 b2 register now next more o1 o2 base j all = within_more c b2 base more (within_deeper (omega arith) (o2 base (1 + j) (single_within b1 base (1 + j) now (o1 base j all))))

pub loads_over : (b0 b2 b3 : Netlist) (register next taken : Net) → Includes b2 b0 → IsOver b2 b0 3 (register_nets b0.enable register) next → IsOver b3 b2 2 (choice_nets b2.enable register next) taken → IsOver b3 b0 5 (register_nets b0.enable register) taken
loads_over b0 b2 b3 register next taken f20 o2 o3 base j all =
    let held : IsWithin b2 base (3 + j) (OfNet register) = within_deeper (omega arith) (within_more b2 b0 base f20 (all register (Contains-append_right (control_nets b0.enable) (register ∷ []) register (first_in register [])))) in
    within_deeper (omega arith) (o3 base (3 + j) (choice_within b2 b0 base j (3 + j) register next (omega arith) f20 (control_part b0 base j register all) held (o2 base j all)))

-- rst, en and registers begin clock paths
pub control_start : (e : Bool) (h : Holder) → IsTrue (is_control e h) → IsTrue (is_start h)
control_start e (OfNet (Input k)) is = refl
control_start e (OfNet (Output k)) is = is
control_start e (OfNet (Wire k)) is = is
control_start e (OfNet (Reg k)) is = refl
control_start e (OfArray x) is = refl

pub control_path : (b : Netlist) (j k : ℕ) (n : Net) → j ≤ k → IsWithin b (is_control b.enable) j (OfNet n) → IsWithin b is_start k (OfNet n)
control_path b j k n le is = within_deeper le (within_wider b (is_control b.enable) is_start (control_start b.enable) is)

-- over a register
pub register_depth : (c b old : Netlist) (register n : Net) (i k : ℕ) → register ≡ Reg i → Includes b old → Includes c b → IsOver b old k (register_nets old.enable register) n → IsWithin c (is_control c.enable) k (OfNet n)
register_depth c b old register n i k at f more is =
    subst (λ (e : Bool). IsWithin c (is_control e) k (OfNet n)) (sym more.enable)
    (within_more c b (is_control b.enable) more (subst (λ (e : Bool). IsWithin b (is_control e) k (OfNet n)) (sym f.enable) (within_deeper (omega arith) (is (is_control old.enable) 0 each))))
  where
    each : AreWithin old (is_control old.enable) 0 (register_nets old.enable register)
    each x there = by_itself (in_control old.enable i x (subst (λ (r : Net). Contains (control_nets old.enable ++ r ∷ []) x) at there))

-- clock paths begin at them
pub starts_at : (b : Netlist) (j : ℕ) → AreWithin b is_start j (control_nets b.enable)
starts_at b j x c = by_itself (port b.enable x c)
  where
    port : (e : Bool) (n : Net) → Contains (control_nets e) n → IsTrue (is_start (OfNet n))
    port true n (zero, l, e) = subst (λ (x : Net). IsTrue (is_start (OfNet x))) e refl
    port false n (zero, l, e) = subst (λ (x : Net). IsTrue (is_start (OfNet x))) e refl
    port true n (suc zero, l, e) = subst (λ (x : Net). IsTrue (is_start (OfNet x))) e refl
    port true n (suc (suc i), l, e) = absurd (omega (arith, l))
    port false n (suc i, l, e) = absurd (omega (arith, l))

pub register_starts : (b : Netlist) (j k : ℕ) (n : Net) → n ≡ Reg k → IsWithin b is_start j (OfNet n)
register_starts b j k n e = subst (λ (x : Net). IsWithin b is_start j (OfNet x)) (sym e) (by_itself refl)
