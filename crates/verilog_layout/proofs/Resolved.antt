-- Each name of a module denotes what has it, so its named assigns and updates are its assigns and updates.
use Rattle.std.proofs.Common.{◌≡◌, ℕ, zero, suc, ◌+◌, ◌<◌, List, [], ◌∷◌, ◌++◌, length, refl, ap, subst, arith, Some}
use Rattle.std.specs.Prelude.{All, Contains, IsSome}
use Rattle.std.specs.Option.{option_map}
use Rattle.std.proofs.lemmas.List.Elements.{All-nil, All-cons, All-append, Contains-append_left, Contains-append_right}
use Rattle.wiring.specs.declared.right.Atom.{Atom}
use Rattle.wiring.specs.declared.right.Atom.TheVariants as atom
use Rattle.wiring.specs.declared.right.Right.{Right}
use Rattle.wiring.specs.declared.right.Right.TheVariants.{Copy, Not, Binary, Choose, Join, Repeat, Bit, Slice, Word}
use Rattle.wiring.specs.declared.netlist.Net.{Net}
use Rattle.wiring.specs.declared.netlist.Net.TheVariants.{Input, Output, Wire, Reg}
use Rattle.wiring.specs.declared.netlist.Assign.{Assign}
use Rattle.wiring.specs.declared.netlist.Update.{Update}
use Rattle.wiring.specs.declared.netlist.Update.TheVariants.{Set, Put}
use Rattle.wiring.specs.Rights.{nets_of, atom_nets}
use Rattle.wiring.specs.Netlist.{IsDeclared, IsDriven}
use Rattle.wiring.specs.Rules.{ArrayIsDeclared, AssignIsSound, UpdateIsSound}
use Rattle.wiring.proofs.Lists.{All-left, All-right}
use Rattle.netlist.specs.Names.{AreDistinct, NamedNetlist, name_at, all_inputs, all_outputs}
use Rattle.netlist.specs.Scopes.{Meaning, net, array, Entry, stands_for, as_net, as_array, net_named, array_named, atom_named, right_named, assign_named, update_named}
use Rattle.netlist.specs.Faults.{AllKnown, array_names, assign_names, update_names}
use Rattle.verilog_layout.specs.Layout.{net_name, array_name}
use Rattle.verilog_layout.proofs.Named.{named_atom, named_right, named_assign, named_update}
use Rattle.verilog_layout.proofs.Entries.{names_in, named_entries, inputs_of, outputs_of, wires_of, regs_of, arrays_of, clock_entry, port_scope, declared_scope, module_scope, stands_entry}

entry_at : (ℕ → Meaning) → List (List ℕ) → ℕ → Entry
entry_at meaning names j = record { name = name_at names j; meaning = meaning j }

contains_first : {X : Type 0} (x : X) (xs : List X) → Contains (x ∷ xs) x
contains_first x xs = (0, omega arith, refl)

contains_later : {X : Type 0} (x y : X) (xs : List X) → Contains xs y → Contains (x ∷ xs) y
contains_later x y xs c = (suc c.0, (let l = c.1 in omega (arith, l)), c.2)

has_entry : {X : Type 0} (meaning : ℕ → Meaning) (names : List (List ℕ)) (xs : List X) (k i j : ℕ) → i < length xs → j ≡ k + i → Contains (named_entries meaning names k xs) (entry_at meaning names j)
unfolding entry_at
has_entry meaning names [] k i j l e = absurd (omega (arith, l))
has_entry meaning names (x ∷ xs) k zero j l e =
    let same : k ≡ j = omega (arith, e) in
    subst (λ n. Contains (named_entries meaning names k (x ∷ xs)) (entry_at meaning names n)) same (contains_first (entry_at meaning names k) (named_entries meaning names (suc k) xs))
has_entry meaning names (x ∷ xs) k (suc i) j l e =
    contains_later (entry_at meaning names k) (entry_at meaning names j) (named_entries meaning names (suc k) xs) (has_entry meaning names xs (suc k) i j (omega (arith, l)) (omega (arith, e)))

net_entry : (m : NamedNetlist) (n : Net) → IsDeclared m.netlist n → Contains (module_scope m) (record { name = net_name m n; meaning = net n })
unfolding entry_at
net_entry m (Input i) l =
    let e : Entry = record { name = net_name m (Input i); meaning = net (Input i) } in
    Contains-append_left (port_scope m) (declared_scope m) e
    (contains_later clock_entry e (inputs_of m ++ outputs_of m)
    (Contains-append_left (inputs_of m) (outputs_of m) e (has_entry (λ i. net (Input i)) (all_inputs m.netlist.enable) m.netlist.inputs 0 i i l (omega arith))))
net_entry m (Output i) l =
    let e : Entry = record { name = net_name m (Output i); meaning = net (Output i) } in
    Contains-append_left (port_scope m) (declared_scope m) e
    (contains_later clock_entry e (inputs_of m ++ outputs_of m)
    (Contains-append_right (inputs_of m) (outputs_of m) e (has_entry (λ i. net (Output i)) all_outputs m.netlist.outputs 0 i i l (omega arith))))
net_entry m (Wire i) l =
    let e : Entry = record { name = net_name m (Wire i); meaning = net (Wire i) } in
    Contains-append_right (port_scope m) (declared_scope m) e
    (Contains-append_left (wires_of m) (regs_of m ++ arrays_of m) e (has_entry (λ i. net (Wire i)) m.names.wires m.netlist.wires 0 i i l (omega arith)))
net_entry m (Reg i) l =
    let e : Entry = record { name = net_name m (Reg i); meaning = net (Reg i) } in
    Contains-append_right (port_scope m) (declared_scope m) e
    (Contains-append_right (wires_of m) (regs_of m ++ arrays_of m) e
    (Contains-append_left (regs_of m) (arrays_of m) e (has_entry (λ i. net (Reg i)) m.names.regs m.netlist.regs 0 i i l (omega arith))))

array_entry : (m : NamedNetlist) (x : ℕ) → x < length m.netlist.arrays → Contains (module_scope m) (record { name = array_name m x; meaning = array x })
unfolding entry_at
array_entry m x l =
    let e : Entry = record { name = array_name m x; meaning = array x } in
    Contains-append_right (port_scope m) (declared_scope m) e
    (Contains-append_right (wires_of m) (regs_of m ++ arrays_of m) e
    (Contains-append_right (regs_of m) (arrays_of m) e (has_entry array m.names.arrays m.netlist.arrays 0 x x l (omega arith))))

module _ (m : NamedNetlist) (distinct : AreDistinct (names_in (module_scope m))) where
  abbrev scope : List Entry
  scope = module_scope m

  net_stands : (n : Net) → IsDeclared m.netlist n → stands_for scope (net_name m n) ≡ Some (net n)
  net_stands n d = stands_entry scope (record { name = net_name m n; meaning = net n }) (net_entry m n d) distinct

  array_stands : (x : ℕ) → x < length m.netlist.arrays → stands_for scope (array_name m x) ≡ Some (array x)
  array_stands x l = stands_entry scope (record { name = array_name m x; meaning = array x }) (array_entry m x l) distinct

  net_is : (n : Net) → IsDeclared m.netlist n → net_named scope (net_name m n) ≡ Some n
  net_is n d = ap as_net (net_stands n d)

  array_is : (x : ℕ) → x < length m.netlist.arrays → array_named scope (array_name m x) ≡ Some x
  array_is x l = ap as_array (array_stands x l)

  abbrev AllDeclared : List Net → Type 0
  AllDeclared ns = All (IsDeclared m.netlist) ns

  one_of : (n : Net) → AllDeclared (n ∷ []) → IsDeclared m.netlist n
  one_of n a = a 0 n (omega arith)

  atom_is : (a : Atom Net) → AllDeclared (atom_nets a) → atom_named scope (named_atom m a) ≡ Some a
  atom_is (atom.Net n) d = ap (λ o. option_map (λ n. atom.Net n) o) (net_is n (one_of n d))
  atom_is (atom.Constant c) d = refl

  right_is : (r : Right Net ℕ) → AllDeclared (nets_of r) → ArrayIsDeclared m.netlist r → right_named scope (named_right m r) ≡ Some r
  right_is (Copy a) d x = rw (atom_is a d) refl
  right_is (Not a) d x = rw (atom_is a d) refl
  right_is (Binary o a b) d x = rw (atom_is a (All-left (IsDeclared m.netlist) (atom_nets a) (atom_nets b) d), atom_is b (All-right (IsDeclared m.netlist) (atom_nets a) (atom_nets b) d)) refl
  right_is (Choose c a b) d x =
      let first = All-left (IsDeclared m.netlist) (atom_nets c ++ atom_nets a) (atom_nets b) d in
      rw (atom_is c (All-left (IsDeclared m.netlist) (atom_nets c) (atom_nets a) first), atom_is a (All-right (IsDeclared m.netlist) (atom_nets c) (atom_nets a) first), atom_is b (All-right (IsDeclared m.netlist) (atom_nets c ++ atom_nets a) (atom_nets b) d)) refl
  right_is (Join a b) d x = rw (atom_is a (All-left (IsDeclared m.netlist) (atom_nets a) (atom_nets b) d), atom_is b (All-right (IsDeclared m.netlist) (atom_nets a) (atom_nets b) d)) refl
  right_is (Repeat n a) d x = rw (atom_is a d) refl
  right_is (Bit v k) d x = rw (net_is v (one_of v d)) refl
  right_is (Slice v h l) d x = rw (net_is v (one_of v d)) refl
  right_is (Word y i) d x = rw (array_is y x, atom_is i d) refl

  driven_declared : (n : Net) → IsDriven m.netlist n → IsDeclared m.netlist n
  driven_declared (Input i) d = absurd d
  driven_declared (Output i) d = d
  driven_declared (Wire i) d = d
  driven_declared (Reg i) d = absurd d

  pub assign_is : (a : Assign) → AssignIsSound m.netlist a → assign_named scope (named_assign m a) ≡ Some a
  assign_is a s = rw (net_is a.target (driven_declared a.target s.target), right_is a.right s.right.nets s.right.array) refl

  pub update_is : (u : Update) → UpdateIsSound m.netlist u → update_named scope (named_update m u) ≡ Some u
  update_is (Set r a) s = rw (net_is (Reg r) s.0, atom_is a s.1.nets) refl
  update_is (Put x i a) s = rw (array_is x s.0, atom_is i s.1.nets, atom_is a s.2.nets) refl

  -- names that denote something
  abbrev IsKnown : List ℕ → Type 0
  IsKnown n = IsSome (stands_for scope n)

  net_known : (n : Net) → IsDeclared m.netlist n → IsKnown (net_name m n)
  net_known n d = rw (net_stands n d) refl

  array_known : (x : ℕ) → x < length m.netlist.arrays → IsKnown (array_name m x)
  array_known x l = rw (array_stands x l) refl

  one_known : (n : List ℕ) → IsKnown n → AllKnown scope (n ∷ [])
  one_known n k = All-cons IsKnown n [] k (All-nil IsKnown)

  atom_known : (a : Atom Net) → AllDeclared (atom_nets a) → AllKnown scope (atom_nets (named_atom m a))
  atom_known (atom.Net n) d = one_known (net_name m n) (net_known n (one_of n d))
  atom_known (atom.Constant c) d = All-nil IsKnown

  both_known : (a b : Atom Net) → AllDeclared (atom_nets a ++ atom_nets b) → AllKnown scope (atom_nets (named_atom m a) ++ atom_nets (named_atom m b))
  both_known a b d = All-append IsKnown _ _ (atom_known a (All-left (IsDeclared m.netlist) (atom_nets a) (atom_nets b) d)) (atom_known b (All-right (IsDeclared m.netlist) (atom_nets a) (atom_nets b) d))

  nets_known : (r : Right Net ℕ) → AllDeclared (nets_of r) → AllKnown scope (nets_of (named_right m r))
  nets_known (Copy a) d = atom_known a d
  nets_known (Not a) d = atom_known a d
  nets_known (Binary o a b) d = both_known a b d
  nets_known (Choose c a b) d =
      All-append IsKnown _ _ (both_known c a (All-left (IsDeclared m.netlist) (atom_nets c ++ atom_nets a) (atom_nets b) d)) (atom_known b (All-right (IsDeclared m.netlist) (atom_nets c ++ atom_nets a) (atom_nets b) d))
  nets_known (Join a b) d = both_known a b d
  nets_known (Repeat n a) d = atom_known a d
  nets_known (Bit v k) d = one_known (net_name m v) (net_known v (one_of v d))
  nets_known (Slice v h l) d = one_known (net_name m v) (net_known v (one_of v d))
  nets_known (Word x i) d = atom_known i d

  arrays_known : (r : Right Net ℕ) → ArrayIsDeclared m.netlist r → AllKnown scope (array_names (named_right m r))
  arrays_known (Copy a) d = All-nil IsKnown
  arrays_known (Not a) d = All-nil IsKnown
  arrays_known (Binary o a b) d = All-nil IsKnown
  arrays_known (Choose c a b) d = All-nil IsKnown
  arrays_known (Join a b) d = All-nil IsKnown
  arrays_known (Repeat n a) d = All-nil IsKnown
  arrays_known (Bit v k) d = All-nil IsKnown
  arrays_known (Slice v h l) d = All-nil IsKnown
  arrays_known (Word x i) d = one_known (array_name m x) (array_known x d)

  pub assign_known : (a : Assign) → AssignIsSound m.netlist a → AllKnown scope (assign_names (named_assign m a))
  assign_known a s =
      All-cons IsKnown (net_name m a.target) _ (net_known a.target (driven_declared a.target s.target))
      (All-append IsKnown (array_names (named_right m a.right)) (nets_of (named_right m a.right)) (arrays_known a.right s.right.array) (nets_known a.right s.right.nets))

  pub update_known : (u : Update) → UpdateIsSound m.netlist u → AllKnown scope (update_names (named_update m u))
  update_known (Set r a) s = All-cons IsKnown (net_name m (Reg r)) _ (net_known (Reg r) s.0) (atom_known a s.1.nets)
  update_known (Put x i a) s = All-cons IsKnown (array_name m x) _ (array_known x s.0) (All-append IsKnown _ _ (atom_known i s.1.nets) (atom_known a s.2.nets))
