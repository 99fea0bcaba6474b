-- The derived `==` of right sides is equality.
use Rattle.std.proofs.Common.{rules, ◌≡◌, ℕ, Bool, true, false, ap, refl, ◌&&◌, ◌==◌}
use Rattle.std.proofs.lemmas.Bool.{eqb-true}
use Rattle.wiring.specs.declared.netlist.Net.{Net}
use Rattle.wiring.specs.declared.netlist.Net.TheVariants.{Input, Output, Wire, Reg}
use Rattle.wiring.specs.declared.right.Operator.{Operator}
use Rattle.wiring.specs.declared.right.Atom.{Atom}
use Rattle.wiring.specs.declared.right.Atom.TheVariants as atom
use Rattle.wiring.specs.declared.right.Right.TheVariants.{Copy, Not, Binary, Choose, Join, Repeat, Bit, Slice, Word}
use Rattle.wiring.specs.contracts.netlist.Net as net_contracts
use Rattle.wiring.specs.contracts.netlist.NetPartialEq.TheImpl as net_eq
use Rattle.wiring.specs.contracts.right.AtomPartialEq.TheImpl as atom_eq
use Rattle.wiring.specs.contracts.right.OperatorPartialEq.TheImpl as operator_eq
use Rattle.wiring.specs.contracts.right.RightPartialEq.TheImpl as right_eq
use Rattle.std.specs.contracts.prelude.UsizePartialEq.TheImpl as usize_eq
use denote.Builtin.{usize}
use Rattle.wiring.specs.declared.right.Right.{Right}

abbrev pub EqNet : Net → Net → Bool
EqNet = net_eq.ghosts.eq

abbrev pub EqAtom : Atom Net → Atom Net → Bool
EqAtom = (atom_eq.ghosts net_contracts.the_row net_eq.ghosts net_eq.dict).eq

pub same_net : (a b : Net) → EqNet a b ≡ true → a ≡ b
same_net (Input i) (Input j) h = search rules
same_net (Output i) (Output j) h = search rules
same_net (Wire i) (Wire j) h = search rules
same_net (Reg i) (Reg j) h = search rules
same_net a b h = cc

pub same_atom : (a b : Atom Net) → EqAtom a b ≡ true → a ≡ b
same_atom (atom.Net i) (atom.Net j) h = ap (λ x. atom.Net x) (same_net i j h)
same_atom (atom.Constant i) (atom.Constant j) h = search rules
same_atom a b h = cc

same_operator : (a b : Operator) → operator_eq.ghosts.eq a b ≡ true → a ≡ b
same_operator a b h = search rules

both : (b c : Bool) → (b && c) ≡ true → (b ≡ true) × (c ≡ true)
both true c h = (refl, h)
both false c h = cc

abbrev pub EqRight : Right Net ℕ → Right Net ℕ → Bool
EqRight = (right_eq.ghosts net_contracts.the_row usize net_eq.ghosts net_eq.dict usize_eq.ghosts usize_eq.dict).eq

pub same_right : (a b : Right Net ℕ) → EqRight a b ≡ true → a ≡ b
same_right (Copy a) (Copy x) h = ap (λ x. Copy x) (same_atom a x h)
same_right (Not a) (Not x) h = ap (λ x. Not x) (same_atom a x h)
same_right (Binary o a b) (Binary p x y) h =
    let s = both (operator_eq.ghosts.eq o p) (EqAtom a x && EqAtom b y) h in
    let t = both (EqAtom a x) (EqAtom b y) s.1 in
    rw (same_operator o p s.0, same_atom a x t.0, same_atom b y t.1) refl
same_right (Choose k a b) (Choose l x y) h =
    let s = both (EqAtom k l) (EqAtom a x && EqAtom b y) h in
    let t = both (EqAtom a x) (EqAtom b y) s.1 in
    rw (same_atom k l s.0, same_atom a x t.0, same_atom b y t.1) refl
same_right (Join a b) (Join x y) h =
    let t = both (EqAtom a x) (EqAtom b y) h in
    rw (same_atom a x t.0, same_atom b y t.1) refl
same_right (Repeat n a) (Repeat m x) h =
    let t = both (n == m) (EqAtom a x) h in
    rw (eqb-true n m t.0, same_atom a x t.1) refl
same_right (Bit v k) (Bit w l) h =
    let t = both (EqNet v w) (k == l) h in
    rw (same_net v w t.0, eqb-true k l t.1) refl
same_right (Slice v m l) (Slice w p q) h =
    let s = both (EqNet v w) ((m == p) && (l == q)) h in
    let t = both (m == p) (l == q) s.1 in
    rw (same_net v w s.0, eqb-true m p t.0, eqb-true l q t.1) refl
same_right (Word m i) (Word n j) h =
    let t = both (m == n) (EqAtom i j) h in
    rw (eqb-true m n t.0, same_atom i j t.1) refl
same_right a b h = cc
