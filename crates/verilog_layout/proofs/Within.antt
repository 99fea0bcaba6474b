-- The names and numbers of a netlist that keeps the rules are those that texts may have.
use Rattle.std.proofs.Common.{◌≡◌, ℕ, zero, suc, ◌+◌, ◌*◌, ◌<◌, ◌≤◌, List, [], ◌∷◌, ◌++◌, map, length, Bool, true, false, refl, sym, ap, ◌∙◌, subst, arith, lit≤}
use Rattle.std.specs.Prelude.{All, if◌then◌else◌}
use Rattle.std.specs.List.{AllByRecursion}
use Rattle.std.proofs.Math.Nat.{le-mul_of_pos_right}
use Rattle.std.proofs.lemmas.Option.{unwrap_or-slice_get}
use Rattle.std.proofs.lemmas.List.Elements.{All-from_recursion, recursion_from_All}
use Rattle.wiring.specs.Sizes.{IsWidth, IsConstant}
use Rattle.wiring.specs.Netlist.{net_width, word_width, IsDeclared}
use Rattle.wiring.specs.Rights.{atom_nets, atom_constants, atom_width, right_width}
use Rattle.wiring.specs.Rules.{KeepsRules, RightIsSound, AssignIsSound, UpdateIsSound, IsShape, with_valids}
use Rattle.wiring.specs.BufferBits.{array_bits}
use Rattle.wiring.specs.declared.right.Atom.{Atom}
use Rattle.wiring.specs.declared.right.Atom.TheVariants as atom
use Rattle.wiring.specs.declared.right.Right.{Right}
use Rattle.wiring.specs.declared.right.Right.TheVariants.{Copy, Not, Binary, Choose, Join, Repeat, Bit, Slice, Word}
use Rattle.wiring.specs.declared.netlist.Net.{Net}
use Rattle.wiring.specs.declared.netlist.Net.TheVariants.{Input, Output, Wire, Reg}
use Rattle.wiring.specs.declared.netlist.Shape.{Shape}
use Rattle.wiring.specs.declared.netlist.Assign.{Assign}
use Rattle.wiring.specs.declared.netlist.Update.{Update}
use Rattle.wiring.specs.declared.netlist.Update.TheVariants.{Set, Put}
use Rattle.wiring.proofs.Lists.{All-left, All-right}
use Rattle.wiring.proofs.Nets.{width_within, driven_declared, input_widths, output_widths}
use Rattle.netlist.specs.declared.parts.Direction.{Direction}
use Rattle.netlist.specs.declared.parts.Direction.TheVariants.{Input as Takes, Output as Gives}
use Rattle.netlist.specs.declared.parts.Declaration.{Declaration}
use Rattle.netlist.specs.declared.parts.Sort.{Sort}
use Rattle.netlist.specs.declared.parts.Sort.TheVariants.{Wire as OfWire, Reg as OfReg, Array as OfArray}
use Rattle.netlist.specs.Names.{NamedNetlist, HasNames, name_at, all_inputs, all_outputs}
use Rattle.verilog_layout.specs.Layout.{net_name, array_name}
use Rattle.verilog_layout.proofs.Named.{named_atom, named_right, named_assign, named_update, named_ports, clock_port, named_sorts, wire_declarations, reg_declarations, array_declarations, declarations_of}
use Rattle.verilog_layout.proofs.Clear.{IsNamed, AtomIsFine, RightIsFine, AssignIsFine, UpdateIsFine, SortIsFine, DeclarationIsFine, PortIsFine}
use Rattle.verilog_layout.proofs.Derived.{sort_bits}
use Rattle.verilog_layout.proofs.Modules.{total_bits}

name_there : (names : List (List ℕ)) (i : ℕ) → All IsNamed names → i < length names → IsNamed (name_at names i)
name_there names i all h = subst IsNamed (sym (unwrap_or-slice_get names i [])) (all i [] h)

-- the names of the ports
input_named : (b : Bool) (dins : List ℕ) (i : ℕ) → length dins ≤ 8 → i < length (1 ∷ (if b then 1 ∷ dins else dins)) → IsNamed (name_at (all_inputs b) i)
input_named true dins i most h = name_there (all_inputs true) i (All-from_recursion IsNamed (all_inputs true) (refl, (refl, (refl, (refl, (refl, (refl, (refl, (refl, (refl, (refl, tt))))))))))) (omega (arith, h, most))
input_named false dins i most h = name_there (all_inputs false) i (All-from_recursion IsNamed (all_inputs false) (refl, (refl, (refl, (refl, (refl, (refl, (refl, (refl, (refl, tt)))))))))) (omega (arith, h, most))

twice : (ws : List ℕ) → length (with_valids ws) ≡ 2 * length ws
twice [] = refl
twice (w ∷ ws) = omega (arith, twice ws)

output_named : (i : ℕ) → i < 16 → IsNamed (name_at all_outputs i)
output_named i h =
    name_there all_outputs i (All-from_recursion IsNamed all_outputs (refl, (refl, (refl, (refl, (refl, (refl, (refl, (refl, (refl, (refl, (refl, (refl, (refl, (refl, (refl, (refl, tt)))))))))))))))))
    h

-- n copies of a number of bits are 1 to 64 bits
copies_within : (n w : ℕ) → 1 ≤ n * w → n * w ≤ 64 → IsWidth n
copies_within n zero low high = absurd (omega (arith, low))
copies_within zero (suc w) low high = absurd (omega (arith, low))
copies_within (suc n) (suc w) low high =
    let more : suc n ≤ suc n * suc w = le-mul_of_pos_right (suc n) (omega arith) in
    (omega arith, omega (arith, more, high))

all_append : {X : Type 0} (P : X → Type 0) (xs ys : List X) → AllByRecursion P xs → AllByRecursion P ys → AllByRecursion P (xs ++ ys)
all_append P [] ys a b = b
all_append P (x ∷ xs) ys a b = (a.0, all_append P xs ys a.1 b)

all_map : {X Y : Type 0} (f : X → Y) (P : X → Type 0) (Q : Y → Type 0) → ((x : X) → P x → Q (f x)) → (xs : List X) → AllByRecursion P xs → AllByRecursion Q (map f xs)
all_map f P Q one [] a = tt
all_map f P Q one (x ∷ xs) a = (one x a.0, all_map f P Q one xs a.1)

sorts_fine : {X : Type 0} (sort : X → Sort) (Fine : X → Type 0) (names : List (List ℕ)) → ((x : X) → Fine x → SortIsFine (sort x)) → (k : ℕ) (xs : List X) → ((j : ℕ) → j < k + length xs → IsNamed (name_at names j))
    → AllByRecursion Fine xs → AllByRecursion DeclarationIsFine (named_sorts sort names k xs)
sorts_fine sort Fine names one k [] named a = tt
sorts_fine sort Fine names one k (x ∷ xs) named a = ((named k (omega arith), one x a.0), sorts_fine sort Fine names one (suc k) xs (λ j h. named j (omega (arith, h))) a.1)

ports_fine : (d : Direction) (names : List (List ℕ)) (k : ℕ) (ws : List ℕ) → ((j : ℕ) → j < k + length ws → IsNamed (name_at names j)) → AllByRecursion IsWidth ws → AllByRecursion PortIsFine (named_ports d names k ws)
ports_fine d names k [] named a = tt
ports_fine d names k (w ∷ ws) named a = ((named k (omega arith), a.0), ports_fine d names (suc k) ws (λ j h. named j (omega (arith, h))) a.1)

-- wires and registers have no bits in arrays
no_bits : (sort : ℕ → Sort) (names : List (List ℕ)) → ((w : ℕ) → sort_bits (sort w) ≡ 0) → (k : ℕ) (ws : List ℕ) → total_bits (named_sorts sort names k ws) ≡ 0
no_bits sort names zero' k [] = refl
no_bits sort names zero' k (w ∷ ws) =
    let h = zero' w in
    let t = no_bits sort names zero' (suc k) ws in
    omega (arith, h, t)

arrays_bits : (names : List (List ℕ)) (k : ℕ) (ss : List Shape) → total_bits (named_sorts (λ (s : Shape). OfArray s) names k ss) ≡ array_bits ss
arrays_bits names k [] = refl
arrays_bits names k (s ∷ ss) = ap (λ n. s.width * s.depth + n) (arrays_bits names (suc k) ss)

total-append : (xs ys : List Declaration) → total_bits (xs ++ ys) ≡ total_bits xs + total_bits ys
total-append [] ys = omega arith
total-append (x ∷ xs) ys = let h = total-append xs ys in omega (arith, h)

pub total_is : (m : NamedNetlist) → total_bits (declarations_of m) ≡ array_bits m.netlist.arrays
total_is m =
    let all = total-append (wire_declarations m) (reg_declarations m ++ array_declarations m) in
    let last = total-append (reg_declarations m) (array_declarations m) in
    let w = no_bits (λ w. OfWire w) m.names.wires (λ w. refl) 0 m.netlist.wires in
    let r = no_bits (λ w. OfReg w) m.names.regs (λ w. refl) 0 m.netlist.regs in
    let a = arrays_bits m.names.arrays 0 m.netlist.arrays in
    omega (arith, all, last, w, r, a)

pub clock_fine : PortIsFine clock_port
clock_fine = (refl, (lit≤ tt, lit≤ tt))

module _ (m : NamedNetlist) (rules : KeepsRules m.netlist) (names : HasNames m.netlist m.names) where
  wires_named : All IsNamed m.names.wires
  wires_named = All-left IsNamed m.names.wires m.names.regs (All-left IsNamed (m.names.wires ++ m.names.regs) m.names.arrays names.are_names)

  regs_named : All IsNamed m.names.regs
  regs_named = All-right IsNamed m.names.wires m.names.regs (All-left IsNamed (m.names.wires ++ m.names.regs) m.names.arrays names.are_names)

  arrays_named : All IsNamed m.names.arrays
  arrays_named = All-right IsNamed (m.names.wires ++ m.names.regs) m.names.arrays names.are_names

  net_is_name : (n : Net) → IsDeclared m.netlist n → IsNamed (net_name m n)
  net_is_name (Input i) d = input_named m.netlist.enable rules.ports.dins i rules.ports.din_count.1 (subst (λ x. i < length x) rules.ports.inputs_are d)
  net_is_name (Output i) d =
      let e : length m.netlist.outputs ≡ 2 * length rules.ports.douts = ap (λ x. length x) rules.ports.outputs_are ∙ twice rules.ports.douts in
      let h = rules.ports.dout_count.1 in
      output_named i (omega (arith, e, h, d))
  net_is_name (Wire i) d = name_there m.names.wires i wires_named (let e = names.wires in omega (arith, e, d))
  net_is_name (Reg i) d = name_there m.names.regs i regs_named (let e = names.regs in omega (arith, e, d))

  array_is_name : (x : ℕ) → x < length m.netlist.arrays → IsNamed (array_name m x)
  array_is_name x d = name_there m.names.arrays x arrays_named (let e = names.arrays in omega (arith, e, d))

  atom_fine : (a : Atom Net) → All (IsDeclared m.netlist) (atom_nets a) → All IsConstant (atom_constants a) → AtomIsFine (named_atom m a)
  atom_fine (atom.Net n) d c = net_is_name n (d 0 n (omega arith))
  atom_fine (atom.Constant k) d c = c 0 k (omega arith)

  right_fine : (r : Right Net ℕ) → RightIsSound m.netlist r → IsWidth (right_width (net_width m.netlist) (word_width m.netlist) r) → RightIsFine (named_right m r)
  right_fine (Copy a) s w = atom_fine a s.nets s.constants
  right_fine (Not a) s w = atom_fine a s.nets s.constants
  right_fine (Binary o a b) s w = (
    atom_fine a (All-left (IsDeclared m.netlist) (atom_nets a) (atom_nets b) s.nets) (All-left IsConstant (atom_constants a) (atom_constants b) s.constants),
    atom_fine b (All-right (IsDeclared m.netlist) (atom_nets a) (atom_nets b) s.nets) (All-right IsConstant (atom_constants a) (atom_constants b) s.constants),
  )
  right_fine (Choose c a b) s w =
      let nets = All-left (IsDeclared m.netlist) (atom_nets c ++ atom_nets a) (atom_nets b) s.nets in
      let constants = All-left IsConstant (atom_constants c ++ atom_constants a) (atom_constants b) s.constants in (
        atom_fine c (All-left (IsDeclared m.netlist) (atom_nets c) (atom_nets a) nets) (All-left IsConstant (atom_constants c) (atom_constants a) constants),
        atom_fine a (All-right (IsDeclared m.netlist) (atom_nets c) (atom_nets a) nets) (All-right IsConstant (atom_constants c) (atom_constants a) constants),
        atom_fine b (All-right (IsDeclared m.netlist) (atom_nets c ++ atom_nets a) (atom_nets b) s.nets) (All-right IsConstant (atom_constants c ++ atom_constants a) (atom_constants b) s.constants),
      )
  right_fine (Join a b) s w = (
    atom_fine a (All-left (IsDeclared m.netlist) (atom_nets a) (atom_nets b) s.nets) (All-left IsConstant (atom_constants a) (atom_constants b) s.constants),
    atom_fine b (All-right (IsDeclared m.netlist) (atom_nets a) (atom_nets b) s.nets) (All-right IsConstant (atom_constants a) (atom_constants b) s.constants),
  )
  right_fine (Repeat n a) s w = (copies_within n (atom_width (net_width m.netlist) a) w.0 w.1, atom_fine a s.nets s.constants)
  right_fine (Bit v k) s w =
      let d : IsDeclared m.netlist v = s.nets 0 v (omega arith) in
      let most = (width_within m.netlist v rules d).1 in
      let h = s.widths.1 in
      (net_is_name v d, omega (arith, most, h))
  right_fine (Slice v k l) s w =
      let d : IsDeclared m.netlist v = s.nets 0 v (omega arith) in
      let most = (width_within m.netlist v rules d).1 in
      let h = s.widths.1 in
      let g = s.widths.2 in
      (net_is_name v d, omega (arith, most, g), omega (arith, most, g, h))
  right_fine (Word x i) s w = (array_is_name x s.array, atom_fine i s.nets s.constants)

  assign_fine : (a : Assign) → AssignIsSound m.netlist a → AssignIsFine (named_assign m a)
  assign_fine a s =
      let d = driven_declared m.netlist a.target s.target in
      (net_is_name a.target d, right_fine a.right s.right (subst IsWidth (sym s.width) (width_within m.netlist a.target rules d)))

  update_fine : (u : Update) → UpdateIsSound m.netlist u → UpdateIsFine (named_update m u)
  update_fine (Set r a) s = (net_is_name (Reg r) s.0, atom_fine a s.1.nets s.1.constants)
  update_fine (Put x i a) s = (array_is_name x s.0, atom_fine i s.1.nets s.1.constants, atom_fine a s.2.nets s.2.constants)

  pub assigns_fine : AllByRecursion AssignIsFine (map (named_assign m) m.netlist.assigns)
  assigns_fine = all_map (named_assign m) (AssignIsSound m.netlist) AssignIsFine assign_fine m.netlist.assigns (recursion_from_All (AssignIsSound m.netlist) m.netlist.assigns rules.assigns)

  pub updates_fine : AllByRecursion UpdateIsFine (map (named_update m) m.netlist.updates)
  updates_fine = all_map (named_update m) (UpdateIsSound m.netlist) UpdateIsFine update_fine m.netlist.updates (recursion_from_All (UpdateIsSound m.netlist) m.netlist.updates rules.updates)

  pub declarations_fine : AllByRecursion DeclarationIsFine (declarations_of m)
  declarations_fine =
      all_append DeclarationIsFine (wire_declarations m) (reg_declarations m ++ array_declarations m)
      (sorts_fine (λ w. OfWire w) IsWidth m.names.wires (λ w h. h) 0 m.netlist.wires (λ j h. net_is_name (Wire j) (omega (arith, h))) (recursion_from_All IsWidth m.netlist.wires rules.wires))
      (all_append DeclarationIsFine (reg_declarations m) (array_declarations m)
      (sorts_fine (λ w. OfReg w) IsWidth m.names.regs (λ w h. h) 0 m.netlist.regs (λ j h. net_is_name (Reg j) (omega (arith, h))) (recursion_from_All IsWidth m.netlist.regs rules.regs))
      (sorts_fine (λ (s : Shape). OfArray s) IsShape m.names.arrays (λ s h. h) 0 m.netlist.arrays (λ j h. array_is_name j (omega (arith, h))) (recursion_from_All IsShape m.netlist.arrays rules.arrays)))

  pub all_ports_fine : AllByRecursion PortIsFine (named_ports Takes (all_inputs m.netlist.enable) 0 m.netlist.inputs ++ named_ports Gives all_outputs 0 m.netlist.outputs)
  all_ports_fine =
      all_append PortIsFine (named_ports Takes (all_inputs m.netlist.enable) 0 m.netlist.inputs) (named_ports Gives all_outputs 0 m.netlist.outputs)
      (ports_fine Takes (all_inputs m.netlist.enable) 0 m.netlist.inputs (λ j h. net_is_name (Input j) (omega (arith, h)))
      (recursion_from_All IsWidth m.netlist.inputs (input_widths m.netlist.enable m.netlist.inputs m.netlist.outputs rules.ports)))
      (ports_fine Gives all_outputs 0 m.netlist.outputs (λ j h. net_is_name (Output j) (omega (arith, h)))
      (recursion_from_All IsWidth m.netlist.outputs (output_widths m.netlist.enable m.netlist.inputs m.netlist.outputs rules.ports)))
