-- Logic depth, as a netlist grows, and over other nets.
use Rattle.std.proofs.Common.{◌≡◌, ℕ, zero, suc, ◌≤◌, ◌+◌, Bool, List, [], ◌∷◌, refl, sym, subst, arith}
use Rattle.std.specs.Prelude.{IsTrue, All, Contains}
use Rattle.std.proofs.lemmas.List.Elements.{All-nil, All-cons, All-contains}
use Rattle.wiring.specs.Sizes.{SizedNumber}
use Rattle.wiring.specs.declared.right.Atom.{Atom}
use Rattle.wiring.specs.declared.right.Atom.TheVariants as atom
use Rattle.wiring.specs.declared.right.Right.{Right}
use Rattle.wiring.specs.declared.netlist.Net.{Net}
use Rattle.wiring.specs.declared.netlist.Holder.{Holder}
use Rattle.wiring.specs.declared.netlist.Holder.TheVariants.{OfNet}
use Rattle.wiring.specs.Netlist.{Netlist}
use Rattle.wiring.specs.BufferBits.{atom_reads, right_reads}
use Rattle.net_build.specs.Includes.{Includes}
use Rattle.net_build.specs.Control as C
use Rattle.net_build.specs.Control.{IsMadeOf}
use Rattle.net_build.specs.Depth.{operators, IsWithin, IsOver, by_itself, by_assign}
use Rattle.net_build.proofs.Grown.{contains_begins}

pub within_more : (b a : Netlist) (base : Holder → Bool) {n : ℕ} → Includes b a → {h : Holder} → IsWithin a base n h → IsWithin b base n h
within_more b a base f (by_itself is) = by_itself is
within_more b a base f (by_assign x k at e less reads) = by_assign x k (contains_begins a.assigns b.assigns x f.assigns at) e less (λ g c. within_more b a base f (reads g c))

-- over a base that has more
pub within_wider : (b : Netlist) (base wide : Holder → Bool) {n : ℕ} → ((h : Holder) → IsTrue (base h) → IsTrue (wide h)) → {h : Holder} → IsWithin b base n h → IsWithin b wide n h
within_wider b base wide up {h} (by_itself is) = by_itself (up h is)
within_wider b base wide up (by_assign x k at e less reads) = by_assign x k at e less (λ g c. within_wider b base wide up (reads g c))

-- and within any greater number
pub within_deeper : {b : Netlist} {base : Holder → Bool} {n m : ℕ} {h : Holder} → n ≤ m → IsWithin b base n h → IsWithin b base m h
within_deeper le (by_itself is) = by_itself is
within_deeper {b} {base} {n} {m} le (by_assign x k at e less reads) = by_assign x k at e (let g : operators x.right + k ≤ m = omega (arith, le, less) in g) reads

-- what has a depth is made only of the base
pub within_made : {b : Netlist} {base : Holder → Bool} {n : ℕ} {h : Holder} → IsWithin b base n h → IsMadeOf b base h
within_made (by_itself is) = C.by_itself is
within_made (by_assign x k at e less reads) = C.by_assign x at e (λ g c. within_made (reads g c))

-- A depth of everything in a list, where each has one.
abbrev pub HasDepth : Netlist → (Holder → Bool) → Holder → Type 0
HasDepth b base h = (n : ℕ) × IsWithin b base n h

pub deepest : (b : Netlist) (base : Holder → Bool) (hs : List Holder) → ((h : Holder) → Contains hs h → HasDepth b base h) → (n : ℕ) × ((h : Holder) → Contains hs h → IsWithin b base n h)
deepest b base [] each = (0, λ h (k, lt, e). absurd (omega (arith, lt)))
deepest b base (x ∷ hs) each =
    let (i, first) = each x (zero, omega arith, refl) in
    let (j, rest) = deepest b base hs (λ h (k, lt, e). each h (suc k, omega (arith, lt), e)) in
    (i + j, both i j first rest)
  where
    both : (i j : ℕ) → IsWithin b base i x → ((h : Holder) → Contains hs h → IsWithin b base j h) → (h : Holder) → Contains (x ∷ hs) h → IsWithin b base (i + j) h
    both i j first rest h (zero, lt, e) = within_deeper (omega arith) (subst (IsWithin b base i) e first)
    both i j first rest h (suc k, lt, e) = within_deeper (omega arith) (rest h (k, omega (arith, lt), e))

-- What is made only of the base has a depth.
pub made_within : {b : Netlist} {base : Holder → Bool} {h : Holder} → IsMadeOf b base h → HasDepth b base h
made_within (C.by_itself is) = (0, by_itself is)
made_within {b} {base} (C.by_assign x at e reads) =
    let (k, each) = deepest b base (right_reads x.right) (λ g c. made_within (reads g c)) in
    (operators x.right + k, by_assign x k at e (omega arith) each)

-- a wire over what has a depth
pub within_wire : (b : Netlist) (n : Net) (r : Right Net ℕ) (base : Holder → Bool) (j : ℕ) → Contains b.assigns (record { target = n; right = r }) → All (IsWithin b base j) (right_reads r) → IsWithin b base (operators r + j) (OfNet n)
within_wire b n r base j at all = by_assign (record { target = n; right = r }) j at refl (omega arith) (λ g c. All-contains (IsWithin b base j) (right_reads r) g all c)

-- what an operand reads
pub within_net : (b : Netlist) (base : Holder → Bool) (j : ℕ) (n : Net) → IsWithin b base j (OfNet n) → All (IsWithin b base j) (atom_reads (atom.Net n))
within_net b base j n is = All-cons (IsWithin b base j) (OfNet n) [] is (All-nil (IsWithin b base j))

pub within_constant : (b : Netlist) (base : Holder → Bool) (j : ℕ) (a : Atom Net) (c : SizedNumber) → a ≡ atom.Constant c → All (IsWithin b base j) (atom_reads a)
within_constant b base j a c e = subst (λ (x : Atom Net). All (IsWithin b base j) (atom_reads x)) (sym e) (All-nil (IsWithin b base j))

-- what lies over nets, in a netlist that grows
pub over_more : (c b old : Netlist) (k : ℕ) (from : List Net) (n : Net) → Includes c b → IsOver b old k from n → IsOver c old k from n
over_more c b old k from n f is = λ base j all. within_more c b base f (is base j all)
