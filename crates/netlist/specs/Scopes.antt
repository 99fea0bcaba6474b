-- What the names of a text denote, and the module that the parts of a text make.
use Rattle.std.specs.Prelude.{ℕ, suc, Bool, false, if◌then◌else◌, List, [], ◌∷◌, ◌++◌, Option, Some, None, All, ◌≡◌, true}
use Rattle.std.specs.Option.{option_map, option_to_list}
use Rattle.std.specs.Str.{bytes_eq}
use Rattle.net_names.specs.Words.{is_name}
use Rattle.wiring.specs.declared.right.Atom.{Atom}
use Rattle.wiring.specs.declared.right.Atom.TheVariants as atom
use Rattle.wiring.specs.declared.right.Right.{Right}
use Rattle.wiring.specs.declared.right.Right.TheVariants.{Copy, Not, Binary, Choose, Join, Repeat, Bit, Slice, Word}
use Rattle.wiring.specs.declared.netlist.Net.{Net}
use Rattle.wiring.specs.declared.netlist.Net.TheVariants.{Input, Output, Wire, Reg}
use Rattle.wiring.specs.declared.netlist.Shape.{Shape}
use Rattle.wiring.specs.declared.netlist.Assign.{Assign}
use Rattle.wiring.specs.declared.netlist.Update.{Update}
use Rattle.wiring.specs.declared.netlist.Update.TheVariants.{Set, Put}
use Rattle.wiring.specs.Sizes.{IsWidth, IsConstant, SizedNumber}
use Rattle.wiring.specs.Rights.{atom_constants, constants_of}
use Rattle.wiring.specs.Rules.{IsShape}
use Rattle.wiring.specs.Netlist.{Netlist}
use Rattle.netlist.specs.declared.parts.Parts.{Parts}
use Rattle.netlist.specs.declared.parts.Port.{Port}
use Rattle.netlist.specs.declared.parts.Declaration.{Declaration}
use Rattle.netlist.specs.declared.parts.Direction.{Direction}
use Rattle.netlist.specs.declared.parts.Direction.TheVariants.{Input as Takes, Output as Gives}
use Rattle.netlist.specs.declared.parts.Sort.{Sort}
use Rattle.netlist.specs.declared.parts.Sort.TheVariants.{Wire as OfWire, Reg as OfReg, Array as OfArray}
use Rattle.netlist.specs.declared.parts.NamedAssign.{NamedAssign}
use Rattle.netlist.specs.declared.parts.NamedUpdate.{NamedUpdate}
use Rattle.netlist.specs.declared.parts.NamedUpdate.TheVariants.{Set as NamedSet, Put as NamedPut}
use Rattle.netlist.specs.Names.{ModuleNames, NamedNetlist, enable_name}

-- what a name denotes
pub data Meaning : Type 0 where
  clock : Meaning
  net : Net → Meaning
  array : ℕ → Meaning

-- a declared name with what it denotes
pub record Entry : Type 0 where
  pub name : List ℕ
  pub meaning : Meaning

abbrev pub port_meaning : Direction → ℕ → ℕ → Meaning
port_meaning Takes i o = net (Input i)
port_meaning Gives i o = net (Output o)

abbrev pub inputs_after : Direction → ℕ → ℕ
inputs_after Takes i = suc i
inputs_after Gives i = i

abbrev pub outputs_after : Direction → ℕ → ℕ
outputs_after Takes o = o
outputs_after Gives o = suc o

-- ports after i inputs and o outputs
abbrev pub port_entries : ℕ → ℕ → List Port → List Entry
port_entries i o [] = []
port_entries i o (p ∷ ports) = record { name = p.name; meaning = port_meaning p.direction i o } ∷ port_entries (inputs_after p.direction i) (outputs_after p.direction o) ports

-- the first port is the clock
abbrev pub all_ports : List Port → List Entry
all_ports [] = []
all_ports (p ∷ ports) = record { name = p.name; meaning = clock } ∷ port_entries 0 0 ports

-- declarations after w wires, r registers and a arrays
abbrev pub sort_meaning : Sort → ℕ → ℕ → ℕ → Meaning
sort_meaning (OfWire v) w r a = net (Wire w)
sort_meaning (OfReg v) w r a = net (Reg r)
sort_meaning (OfArray s) w r a = array a

abbrev pub wires_after : Sort → ℕ → ℕ
wires_after (OfWire v) w = suc w
wires_after (OfReg v) w = w
wires_after (OfArray s) w = w

abbrev pub regs_after : Sort → ℕ → ℕ
regs_after (OfWire v) r = r
regs_after (OfReg v) r = suc r
regs_after (OfArray s) r = r

abbrev pub arrays_after : Sort → ℕ → ℕ
arrays_after (OfWire v) a = a
arrays_after (OfReg v) a = a
arrays_after (OfArray s) a = suc a

abbrev pub declared_entries : ℕ → ℕ → ℕ → List Declaration → List Entry
declared_entries w r a [] = []
declared_entries w r a (d ∷ declarations) = record { name = d.name; meaning = sort_meaning d.sort w r a } ∷ declared_entries (wires_after d.sort w) (regs_after d.sort r) (arrays_after d.sort a) declarations

-- ports first, then declarations
abbrev pub scope_of : Parts → List Entry
scope_of p = all_ports p.ports.items ++ declared_entries 0 0 0 p.declarations.items

-- the first entry of a name
abbrev pub stands_for : List Entry → List ℕ → Option Meaning
stands_for [] name = None
stands_for (e ∷ scope) name = if bytes_eq e.name name then Some e.meaning else stands_for scope name

abbrev pub as_net : Option Meaning → Option Net
as_net None = None
as_net (Some clock) = None
as_net (Some (net n)) = Some n
as_net (Some (array x)) = None

abbrev pub as_array : Option Meaning → Option ℕ
as_array None = None
as_array (Some clock) = None
as_array (Some (net n)) = None
as_array (Some (array x)) = Some x

abbrev pub reg_of_net : Option Net → Option ℕ
reg_of_net None = None
reg_of_net (Some (Input i)) = None
reg_of_net (Some (Output i)) = None
reg_of_net (Some (Wire i)) = None
reg_of_net (Some (Reg i)) = Some i

abbrev pub two : {A B C : Type 0} → (A → B → C) → Option A → Option B → Option C
two f None b = None
two f (Some a) None = None
two f (Some a) (Some b) = Some (f a b)

abbrev pub three : {A B C D : Type 0} → (A → B → C → D) → Option A → Option B → Option C → Option D
three f None b c = None
three f (Some a) b c = two (f a) b c

-- right sides and updates with nets and arrays in place of their names, where each name denotes one of the sort that is meant
module _ (scope : List Entry) where
  abbrev pub net_named : List ℕ → Option Net
  net_named name = as_net (stands_for scope name)

  abbrev pub array_named : List ℕ → Option ℕ
  array_named name = as_array (stands_for scope name)

  abbrev pub atom_named : Atom (List ℕ) → Option (Atom Net)
  atom_named (atom.Net name) = option_map (λ n. atom.Net n) (net_named name)
  atom_named (atom.Constant c) = Some (atom.Constant c)

  abbrev pub right_named : Right (List ℕ) (List ℕ) → Option (Right Net ℕ)
  right_named (Copy a) = option_map (λ x. Copy x) (atom_named a)
  right_named (Not a) = option_map (λ x. Not x) (atom_named a)
  right_named (Binary o a b) = two (λ x y. Binary o x y) (atom_named a) (atom_named b)
  right_named (Choose c a b) = three (λ x y z. Choose x y z) (atom_named c) (atom_named a) (atom_named b)
  right_named (Join a b) = two (λ x y. Join x y) (atom_named a) (atom_named b)
  right_named (Repeat n a) = option_map (λ x. Repeat n x) (atom_named a)
  right_named (Bit v k) = option_map (λ n. Bit n k) (net_named v)
  right_named (Slice v m l) = option_map (λ n. Slice n m l) (net_named v)
  right_named (Word m i) = two (λ x y. Word x y) (array_named m) (atom_named i)

  abbrev pub assign_named : NamedAssign → Option Assign
  assign_named a = two (λ t r. record { target = t; right = r }) (net_named a.target) (right_named a.right)

  abbrev pub update_named : NamedUpdate → Option Update
  update_named (NamedSet r a) = two (λ x y. Set x y) (reg_of_net (net_named r)) (atom_named a)
  update_named (NamedPut m i a) = three (λ x y z. Put x y z) (array_named m) (atom_named i) (atom_named a)

-- those that are
abbrev pub collected : {X Y : Type 0} → (X → Option Y) → List X → List Y
collected f [] = []
collected f (x ∷ xs) = option_to_list (f x) ++ collected f xs

abbrev pub taken : Direction → ℕ → Option ℕ
taken Takes w = Some w
taken Gives w = None

abbrev pub given : Direction → ℕ → Option ℕ
given Takes w = None
given Gives w = Some w

-- all ports but the first, which is the clock
abbrev pub past_clock : List Port → List Port
past_clock [] = []
past_clock (p ∷ ports) = ports

-- the third port has the name en
abbrev pub has_enable : List Port → Bool
has_enable [] = false
has_enable (c ∷ []) = false
has_enable (c ∷ r ∷ []) = false
has_enable (c ∷ r ∷ e ∷ ports) = bytes_eq e.name enable_name

abbrev pub wire_width : Sort → Option ℕ
wire_width (OfWire w) = Some w
wire_width (OfReg w) = None
wire_width (OfArray s) = None

abbrev pub reg_width : Sort → Option ℕ
reg_width (OfWire w) = None
reg_width (OfReg w) = Some w
reg_width (OfArray s) = None

abbrev pub array_shape : Sort → Option Shape
array_shape (OfWire w) = None
array_shape (OfReg w) = None
array_shape (OfArray s) = Some s

-- the netlist that the parts make, its assigns and updates where each name denotes one of the sort that is meant
abbrev pub netlist_of_parts : Parts → Netlist
netlist_of_parts p = record {
  enable = has_enable p.ports.items;
  inputs = collected (λ (q : Port). taken q.direction q.width) (past_clock p.ports.items);
  outputs = collected (λ (q : Port). given q.direction q.width) (past_clock p.ports.items);
  wires = collected (λ (d : Declaration). wire_width d.sort) p.declarations.items;
  regs = collected (λ (d : Declaration). reg_width d.sort) p.declarations.items;
  arrays = collected (λ (d : Declaration). array_shape d.sort) p.declarations.items;
  assigns = collected (assign_named (scope_of p)) p.assigns.items;
  updates = collected (update_named (scope_of p)) p.updates.items;
}

-- the name of a declaration, where it is a wire, a register or an array
abbrev pub wire_name : Declaration → Option (List ℕ)
wire_name d = option_map (λ (w : ℕ). d.name) (wire_width d.sort)

abbrev pub reg_name : Declaration → Option (List ℕ)
reg_name d = option_map (λ (w : ℕ). d.name) (reg_width d.sort)

abbrev pub array_name : Declaration → Option (List ℕ)
array_name d = option_map (λ (s : Shape). d.name) (array_shape d.sort)

abbrev pub names_of_parts : Parts → ModuleNames
names_of_parts p = record {
  «module» = p.name;
  wires = collected wire_name p.declarations.items;
  regs = collected reg_name p.declarations.items;
  arrays = collected array_name p.declarations.items;
}

abbrev pub module_of : Parts → NamedNetlist
module_of p = record { netlist = netlist_of_parts p; names = names_of_parts p }

-- widths, shapes and constants in their ranges, as the types of the parts keep them
abbrev pub SortFits : Sort → Type 0
SortFits (OfWire w) = IsWidth w
SortFits (OfReg w) = IsWidth w
SortFits (OfArray s) = IsShape s

-- each declaration is of a size in its range
abbrev pub AreSized : List Declaration → Type 0
AreSized ds = All (λ (d : Declaration). SortFits d.sort) ds

abbrev pub update_constants : NamedUpdate → List SizedNumber
update_constants (NamedSet r a) = atom_constants a
update_constants (NamedPut m i a) = atom_constants i ++ atom_constants a

pub record SizesFit (p : Parts) : Type 0 where
  pub declarations : All (λ (d : Declaration). SortFits d.sort) p.declarations.items
  pub assigns : All (λ (a : NamedAssign). All IsConstant (constants_of a.right)) p.assigns.items
  pub updates : All (λ (u : NamedUpdate). All IsConstant (update_constants u)) p.updates.items

-- each declaration has a name
abbrev pub AreNamed : List Declaration → Type 0
AreNamed ds = All (λ (d : Declaration). is_name d.name ≡ true) ds

-- the names are names, as the types of the parts keep them
pub record NamesAre (p : Parts) : Type 0 where
  pub «module» : is_name p.name ≡ true
  pub declarations : All (λ (d : Declaration). is_name d.name ≡ true) p.declarations.items
