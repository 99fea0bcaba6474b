-- What the names of parts denote is declared.
use Rattle.std.proofs.Common.{◌≡◌, ℕ, suc, ◌+◌, ◌<◌, ◌≤◌, Bool, true, false, List, [], ◌∷◌, ◌++◌, length, refl, ap, subst, arith, Option, Some, None}
use Rattle.std.specs.Prelude.{All, if◌then◌else◌}
use Rattle.std.specs.Option.{option_map, option_to_list}
use Rattle.std.proofs.lemmas.List.Elements.{All-nil, All-cons, All-append}
use Rattle.std.proofs.lemmas.Option.{same_Some}
use Rattle.std.specs.Str.{bytes_eq}
use Rattle.wiring.specs.declared.right.Atom.{Atom}
use Rattle.wiring.specs.declared.right.Atom.TheVariants as atom
use Rattle.wiring.specs.declared.right.Right.{Right}
use Rattle.wiring.specs.declared.right.Right.TheVariants.{Copy, Not, Binary, Choose, Join, Repeat, Bit, Slice, Word}
use Rattle.wiring.specs.declared.netlist.Net.{Net}
use Rattle.wiring.specs.declared.netlist.Net.TheVariants.{Input, Output, Wire, Reg}
use Rattle.wiring.specs.declared.netlist.Shape.{Shape}
use Rattle.wiring.specs.Rights.{nets_of, atom_nets}
use Rattle.wiring.specs.Netlist.{Netlist, IsDeclared}
use Rattle.wiring.specs.Rules.{ArrayIsDeclared}
use Rattle.netlist.specs.declared.parts.Parts.{Parts}
use Rattle.netlist.specs.declared.parts.Port.{Port}
use Rattle.netlist.specs.declared.parts.Declaration.{Declaration}
use Rattle.netlist.specs.declared.parts.Direction.{Direction}
use Rattle.netlist.specs.declared.parts.Direction.TheVariants.{Input as Takes, Output as Gives}
use Rattle.netlist.specs.declared.parts.Sort.{Sort}
use Rattle.netlist.specs.declared.parts.Sort.TheVariants.{Wire as OfWire, Reg as OfReg, Array as OfArray}
use Rattle.netlist.specs.Scopes.{Meaning, clock, net, array, Entry, port_meaning, inputs_after, outputs_after, port_entries, all_ports, sort_meaning, wires_after, regs_after, arrays_after, declared_entries, scope_of, stands_for, as_net, as_array, two, three, net_named, array_named, atom_named, right_named, collected, taken, given, past_clock, wire_width, reg_width, array_shape, netlist_of_parts}

-- the number is below that of its sort
abbrev IsBelow : ℕ → ℕ → ℕ → ℕ → ℕ → Meaning → Type 0
IsBelow i o w r a clock = Unit {0}
IsBelow i o w r a (net (Input k)) = k < i
IsBelow i o w r a (net (Output k)) = k < o
IsBelow i o w r a (net (Wire k)) = k < w
IsBelow i o w r a (net (Reg k)) = k < r
IsBelow i o w r a (array x) = x < a

abbrev pub takings : List Port → List ℕ
takings ports = collected (λ (q : Port). taken q.direction q.width) ports

abbrev pub givings : List Port → List ℕ
givings ports = collected (λ (q : Port). given q.direction q.width) ports

abbrev pub wires_of : List Declaration → List ℕ
wires_of ds = collected (λ (d : Declaration). wire_width d.sort) ds

abbrev pub regs_of : List Declaration → List ℕ
regs_of ds = collected (λ (d : Declaration). reg_width d.sort) ds

abbrev pub arrays_of : List Declaration → List Shape
arrays_of ds = collected (λ (d : Declaration). array_shape d.sort) ds

module _ (I O W R A : ℕ) where
  abbrev EntryBelow : Entry → Type 0
  EntryBelow e = IsBelow I O W R A e.meaning

  port_head : (d : Direction) (v i o : ℕ) (xs ys : List ℕ) → i + length (option_to_list (taken d v) ++ xs) ≤ I → o + length (option_to_list (given d v) ++ ys) ≤ O → IsBelow I O W R A (port_meaning d i o)
  port_head Takes v i o xs ys li lo = omega (arith, li)
  port_head Gives v i o xs ys li lo = omega (arith, lo)

  next_input : (d : Direction) (v i : ℕ) (xs : List ℕ) → i + length (option_to_list (taken d v) ++ xs) ≤ I → inputs_after d i + length xs ≤ I
  next_input Takes v i xs l = omega (arith, l)
  next_input Gives v i xs l = l

  next_output : (d : Direction) (v o : ℕ) (ys : List ℕ) → o + length (option_to_list (given d v) ++ ys) ≤ O → outputs_after d o + length ys ≤ O
  next_output Takes v o ys l = l
  next_output Gives v o ys l = omega (arith, l)

  ports_below : (ports : List Port) (i o : ℕ) → i + length (takings ports) ≤ I → o + length (givings ports) ≤ O → All EntryBelow (port_entries i o ports)
  ports_below [] i o li lo = All-nil EntryBelow
  ports_below (p ∷ ports) i o li lo =
      All-cons EntryBelow (record { name = p.name; meaning = port_meaning p.direction i o }) (port_entries (inputs_after p.direction i) (outputs_after p.direction o) ports)
      (port_head p.direction p.width i o (takings ports) (givings ports) li lo)
      (ports_below ports (inputs_after p.direction i) (outputs_after p.direction o) (next_input p.direction p.width i (takings ports) li) (next_output p.direction p.width o (givings ports) lo))

  all_below : (ports : List Port) → length (takings (past_clock ports)) ≤ I → length (givings (past_clock ports)) ≤ O → All EntryBelow (all_ports ports)
  all_below [] li lo = All-nil EntryBelow
  all_below (p ∷ ports) li lo = All-cons EntryBelow (record { name = p.name; meaning = clock }) (port_entries 0 0 ports) tt (ports_below ports 0 0 (omega (arith, li)) (omega (arith, lo)))

  stands_below : (scope : List Entry) (name : List ℕ) (x : Meaning) → All EntryBelow scope → stands_for scope name ≡ Some x → IsBelow I O W R A x
  stands_below [] name x all e = absurd (let f : None ≡ Some x = e in cc)
  stands_below (b ∷ scope) name x all e =
      either (bytes_eq b.name name) e (λ f. stands_below scope name x (λ k d l. all (suc k) d (omega (arith, l))) f)
    where
      either : (t : Bool) → (if t then Some b.meaning else stands_for scope name) ≡ Some x → (stands_for scope name ≡ Some x → IsBelow I O W R A x) → IsBelow I O W R A x
      either true f later = subst (IsBelow I O W R A) (same_Some b.meaning x f) (all 0 b (omega arith))
      either false f later = later f

  sort_head : (s : Sort) (w r a : ℕ) (xs ys : List ℕ) (zs : List Shape) → w + length (option_to_list (wire_width s) ++ xs) ≤ W → r + length (option_to_list (reg_width s) ++ ys) ≤ R → a + length (option_to_list (array_shape s) ++ zs) ≤ A → IsBelow I O W R A (sort_meaning s w r a)
  sort_head (OfWire v) w r a xs ys zs lw lr la = omega (arith, lw)
  sort_head (OfReg v) w r a xs ys zs lw lr la = omega (arith, lr)
  sort_head (OfArray q) w r a xs ys zs lw lr la = omega (arith, la)

  next_wire : (s : Sort) (w : ℕ) (xs : List ℕ) → w + length (option_to_list (wire_width s) ++ xs) ≤ W → wires_after s w + length xs ≤ W
  next_wire (OfWire v) w xs l = omega (arith, l)
  next_wire (OfReg v) w xs l = l
  next_wire (OfArray q) w xs l = l

  next_reg : (s : Sort) (r : ℕ) (ys : List ℕ) → r + length (option_to_list (reg_width s) ++ ys) ≤ R → regs_after s r + length ys ≤ R
  next_reg (OfWire v) r ys l = l
  next_reg (OfReg v) r ys l = omega (arith, l)
  next_reg (OfArray q) r ys l = l

  next_array : (s : Sort) (a : ℕ) (zs : List Shape) → a + length (option_to_list (array_shape s) ++ zs) ≤ A → arrays_after s a + length zs ≤ A
  next_array (OfWire v) a zs l = l
  next_array (OfReg v) a zs l = l
  next_array (OfArray q) a zs l = omega (arith, l)

  declared_below : (ds : List Declaration) (w r a : ℕ) → w + length (wires_of ds) ≤ W → r + length (regs_of ds) ≤ R → a + length (arrays_of ds) ≤ A → All EntryBelow (declared_entries w r a ds)
  declared_below [] w r a lw lr la = All-nil EntryBelow
  declared_below (d ∷ ds) w r a lw lr la =
      All-cons EntryBelow (record { name = d.name; meaning = sort_meaning d.sort w r a }) (declared_entries (wires_after d.sort w) (regs_after d.sort r) (arrays_after d.sort a) ds)
      (sort_head d.sort w r a (wires_of ds) (regs_of ds) (arrays_of ds) lw lr la)
      (declared_below ds (wires_after d.sort w) (regs_after d.sort r) (arrays_after d.sort a) (next_wire d.sort w (wires_of ds) lw) (next_reg d.sort r (regs_of ds) lr) (next_array d.sort a (arrays_of ds) la))

-- an option that is made of two or three that are there
pub two_parts : {A B C : Type 0} (f : A → B → C) (a : Option A) (b : Option B) (c : C) → two f a b ≡ Some c → (x : A) × (y : B) × (a ≡ Some x) × (b ≡ Some y) × (f x y ≡ c)
two_parts f None b c e = absurd (let g : None ≡ Some c = e in cc)
two_parts f (Some x) None c e = absurd (let g : None ≡ Some c = e in cc)
two_parts f (Some x) (Some y) c e = (x, y, refl, refl, same_Some (f x y) c e)

pub three_parts : {A B C D : Type 0} (f : A → B → C → D) (a : Option A) (b : Option B) (c : Option C) (d : D) → three f a b c ≡ Some d → (x : A) × (y : B) × (z : C) × (a ≡ Some x) × (b ≡ Some y) × (c ≡ Some z) × (f x y z ≡ d)
three_parts f None b c d e = absurd (let g : None ≡ Some d = e in cc)
three_parts f (Some x) b c d e = let r = two_parts (f x) b c d e in (x, r.0, r.1, refl, r.2, r.3, r.4)

pub one_part : {A B : Type 0} (f : A → B) (a : Option A) (b : B) → option_map f a ≡ Some b → (x : A) × (a ≡ Some x) × (f x ≡ b)
one_part f None b e = absurd (let g : None ≡ Some b = e in cc)
one_part f (Some x) b e = (x, refl, same_Some (f x) b e)

module _ (p : Parts) where
  abbrev m : Netlist
  m = netlist_of_parts p

  scope_below : All (EntryBelow (length m.inputs) (length m.outputs) (length m.wires) (length m.regs) (length m.arrays)) (scope_of p)
  scope_below =
      All-append (EntryBelow (length m.inputs) (length m.outputs) (length m.wires) (length m.regs) (length m.arrays)) (all_ports p.ports.items) (declared_entries 0 0 0 p.declarations.items)
      (all_below (length m.inputs) (length m.outputs) (length m.wires) (length m.regs) (length m.arrays) p.ports.items (omega arith) (omega arith))
      (declared_below (length m.inputs) (length m.outputs) (length m.wires) (length m.regs) (length m.arrays) p.declarations.items 0 0 0 (omega arith) (omega arith) (omega arith))

  below_declared : (n : Net) → IsBelow (length m.inputs) (length m.outputs) (length m.wires) (length m.regs) (length m.arrays) (net n) → IsDeclared m n
  below_declared (Input i) l = l
  below_declared (Output i) l = l
  below_declared (Wire i) l = l
  below_declared (Reg i) l = l

  net_is : (o : Option Meaning) (n : Net) → as_net o ≡ Some n → o ≡ Some (net n)
  net_is None n e = absurd (let g : None ≡ Some n = e in cc)
  net_is (Some clock) n e = absurd (let g : None ≡ Some n = e in cc)
  net_is (Some (net k)) n e = ap (λ (z : Net). Some (net z)) (same_Some k n e)
  net_is (Some (array x)) n e = absurd (let g : None ≡ Some n = e in cc)

  array_is : (o : Option Meaning) (x : ℕ) → as_array o ≡ Some x → o ≡ Some (array x)
  array_is None x e = absurd (let g : None ≡ Some x = e in cc)
  array_is (Some clock) x e = absurd (let g : None ≡ Some x = e in cc)
  array_is (Some (net k)) x e = absurd (let g : None ≡ Some x = e in cc)
  array_is (Some (array y)) x e = ap (λ (z : ℕ). Some (array z)) (same_Some y x e)

  pub net_declared : (name : List ℕ) (n : Net) → net_named (scope_of p) name ≡ Some n → IsDeclared m n
  net_declared name n e =
      below_declared n (stands_below (length m.inputs) (length m.outputs) (length m.wires) (length m.regs) (length m.arrays) (scope_of p) name (net n) scope_below (net_is (stands_for (scope_of p) name) n e))

  pub array_declared : (name : List ℕ) (x : ℕ) → array_named (scope_of p) name ≡ Some x → x < length m.arrays
  array_declared name x e = stands_below (length m.inputs) (length m.outputs) (length m.wires) (length m.regs) (length m.arrays) (scope_of p) name (array x) scope_below (array_is (stands_for (scope_of p) name) x e)

  abbrev AllDeclared : List Net → Type 0
  AllDeclared ns = All (IsDeclared m) ns

  one_declared : (n : Net) → IsDeclared m n → AllDeclared (n ∷ [])
  one_declared n d = All-cons (IsDeclared m) n [] d (All-nil (IsDeclared m))

  pub atom_declared : (a : Atom (List ℕ)) (b : Atom Net) → atom_named (scope_of p) a ≡ Some b → AllDeclared (atom_nets b)
  atom_declared (atom.Net name) b e =
      let r = one_part (λ (n : Net). atom.Net n) (net_named (scope_of p) name) b e in
      subst (λ (x : Atom Net). AllDeclared (atom_nets x)) r.2 (one_declared r.0 (net_declared name r.0 r.1))
  atom_declared (atom.Constant c) b e = subst (λ (x : Atom Net). AllDeclared (atom_nets x)) (same_Some (atom.Constant c) b e) (All-nil (IsDeclared m))

  both : (xs ys : List Net) → AllDeclared xs → AllDeclared ys → AllDeclared (xs ++ ys)
  both xs ys a b = All-append (IsDeclared m) xs ys a b

  abbrev RightDeclared : Right Net ℕ → Type 0
  RightDeclared r = AllDeclared (nets_of r) × ArrayIsDeclared m r

  pub right_declared : (r : Right (List ℕ) (List ℕ)) (q : Right Net ℕ) → right_named (scope_of p) r ≡ Some q → RightDeclared q
  right_declared (Copy a) q e = let s = one_part (λ (x : Atom Net). Copy x) (atom_named (scope_of p) a) q e in subst RightDeclared s.2 (atom_declared a s.0 s.1, tt)
  right_declared (Not a) q e = let s = one_part (λ (x : Atom Net). Not x) (atom_named (scope_of p) a) q e in subst RightDeclared s.2 (atom_declared a s.0 s.1, tt)
  right_declared (Binary o a b) q e =
      let s = two_parts (λ (x y : Atom Net). Binary o x y) (atom_named (scope_of p) a) (atom_named (scope_of p) b) q e in
      subst RightDeclared s.4 (both (atom_nets s.0) (atom_nets s.1) (atom_declared a s.0 s.2) (atom_declared b s.1 s.3), tt)
  right_declared (Choose c a b) q e =
      let s = three_parts (λ (x y z : Atom Net). Choose x y z) (atom_named (scope_of p) c) (atom_named (scope_of p) a) (atom_named (scope_of p) b) q e in
      subst RightDeclared s.6 (both (atom_nets s.0 ++ atom_nets s.1) (atom_nets s.2) (both (atom_nets s.0) (atom_nets s.1) (atom_declared c s.0 s.3) (atom_declared a s.1 s.4)) (atom_declared b s.2 s.5), tt)
  right_declared (Join a b) q e =
      let s = two_parts (λ (x y : Atom Net). Join x y) (atom_named (scope_of p) a) (atom_named (scope_of p) b) q e in
      subst RightDeclared s.4 (both (atom_nets s.0) (atom_nets s.1) (atom_declared a s.0 s.2) (atom_declared b s.1 s.3), tt)
  right_declared (Repeat n a) q e = let s = one_part (λ (x : Atom Net). Repeat n x) (atom_named (scope_of p) a) q e in subst RightDeclared s.2 (atom_declared a s.0 s.1, tt)
  right_declared (Bit v k) q e = let s = one_part (λ (n : Net). Bit n k) (net_named (scope_of p) v) q e in subst RightDeclared s.2 (one_declared s.0 (net_declared v s.0 s.1), tt)
  right_declared (Slice v h l) q e = let s = one_part (λ (n : Net). Slice n h l) (net_named (scope_of p) v) q e in subst RightDeclared s.2 (one_declared s.0 (net_declared v s.0 s.1), tt)
  right_declared (Word x i) q e =
      let s = two_parts (λ (y : ℕ) (z : Atom Net). Word y z) (array_named (scope_of p) x) (atom_named (scope_of p) i) q e in
      subst RightDeclared s.4 (atom_declared i s.1 s.3, array_declared x s.0 s.2)
