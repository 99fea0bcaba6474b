-- A module's ports, declarations, assigns and updates with names in place of nets, and the source that its layout is.
use Rattle.std.proofs.Common.{◌≡◌, ℕ, suc, List, [], ◌∷◌, ◌++◌, map, codes, None}
use Rattle.wiring.specs.declared.right.Atom.{Atom}
use Rattle.wiring.specs.declared.right.Atom.TheVariants as atom
use Rattle.wiring.specs.declared.right.Right.{Right}
use Rattle.wiring.specs.declared.right.Right.TheVariants.{Copy, Not, Binary, Choose, Join, Repeat, Bit, Slice, Word}
use Rattle.wiring.specs.declared.netlist.Net.{Net}
use Rattle.wiring.specs.declared.netlist.Net.TheVariants.{Reg}
use Rattle.wiring.specs.declared.netlist.Shape.{Shape}
use Rattle.wiring.specs.declared.netlist.Assign.{Assign}
use Rattle.wiring.specs.declared.netlist.Update.{Update}
use Rattle.wiring.specs.declared.netlist.Update.TheVariants.{Set, Put}
use Rattle.netlist.specs.declared.parts.Port.{Port}
use Rattle.netlist.specs.declared.parts.Direction.{Direction}
use Rattle.netlist.specs.declared.parts.Direction.TheVariants.{Input as Takes, Output as Gives}
use Rattle.netlist.specs.declared.parts.Declaration.{Declaration}
use Rattle.netlist.specs.declared.parts.Sort.{Sort}
use Rattle.netlist.specs.declared.parts.Sort.TheVariants.{Wire as OfWire, Reg as OfReg, Array as OfArray}
use Rattle.netlist.specs.declared.parts.NamedAssign.{NamedAssign}
use Rattle.netlist.specs.declared.parts.NamedUpdate.{NamedUpdate}
use Rattle.netlist.specs.declared.parts.NamedUpdate.TheVariants.{Set as NamedSet, Put as NamedPut}
use Rattle.netlist.specs.Names.{NamedNetlist, name_at, all_inputs, all_outputs}
use Rattle.verilog_text.specs.Grammar.{Source}
use Rattle.verilog_text.specs.Limits.{limit_fault}
use Rattle.verilog_text.specs.Stands.{bytes_at, port_of, declaration_of, assign_of, update_of, IsWritten}
use Rattle.verilog_layout.specs.Layout.{net_name, array_name, layout}

module _ (m : NamedNetlist) where
  abbrev pub named_atom : Atom Net → Atom (List ℕ)
  named_atom (atom.Net n) = atom.Net (net_name m n)
  named_atom (atom.Constant c) = atom.Constant c

  abbrev pub named_right : Right Net ℕ → Right (List ℕ) (List ℕ)
  named_right (Copy a) = Copy (named_atom a)
  named_right (Not a) = Not (named_atom a)
  named_right (Binary o a b) = Binary o (named_atom a) (named_atom b)
  named_right (Choose c a b) = Choose (named_atom c) (named_atom a) (named_atom b)
  named_right (Join a b) = Join (named_atom a) (named_atom b)
  named_right (Repeat n a) = Repeat n (named_atom a)
  named_right (Bit v k) = Bit (net_name m v) k
  named_right (Slice v h l) = Slice (net_name m v) h l
  named_right (Word x i) = Word (array_name m x) (named_atom i)

  abbrev pub named_assign : Assign → NamedAssign
  named_assign a = record { target = net_name m a.target; right = named_right a.right }

  abbrev pub named_update : Update → NamedUpdate
  named_update (Set r a) = NamedSet (net_name m (Reg r)) (named_atom a)
  named_update (Put x i a) = NamedPut (array_name m x) (named_atom i) (named_atom a)

-- ports after the clock, from the k-th name on
abbrev pub named_ports : Direction → List (List ℕ) → ℕ → List ℕ → List Port
named_ports d names k [] = []
named_ports d names k (w ∷ ws) = record { direction = d; width = w; name = name_at names k } ∷ named_ports d names (suc k) ws

abbrev pub clock_port : Port
clock_port = record { direction = Takes; width = 1; name = codes "clk" }

abbrev pub ports_of : NamedNetlist → List Port
ports_of m = clock_port ∷ (named_ports Takes (all_inputs m.netlist.enable) 0 m.netlist.inputs ++ named_ports Gives all_outputs 0 m.netlist.outputs)

-- declarations of one sort, from the k-th name on
abbrev pub named_sorts : {X : Type 0} → (X → Sort) → List (List ℕ) → ℕ → List X → List Declaration
named_sorts sort names k [] = []
named_sorts sort names k (x ∷ xs) = record { name = name_at names k; sort = sort x } ∷ named_sorts sort names (suc k) xs

abbrev pub wire_declarations : NamedNetlist → List Declaration
wire_declarations m = named_sorts (λ w. OfWire w) m.names.wires 0 m.netlist.wires

abbrev pub reg_declarations : NamedNetlist → List Declaration
reg_declarations m = named_sorts (λ w. OfReg w) m.names.regs 0 m.netlist.regs

abbrev pub array_declarations : NamedNetlist → List Declaration
array_declarations m = named_sorts (λ (s : Shape). OfArray s) m.names.arrays 0 m.netlist.arrays

abbrev pub declarations_of : NamedNetlist → List Declaration
declarations_of m = wire_declarations m ++ (reg_declarations m ++ array_declarations m)

-- the layout of the module is written so, within the limits
pub record IsSourceOf (m : NamedNetlist) (s : Source) : Type 0 where
  pub written : IsWritten (layout m) s
  pub limits : limit_fault s ≡ None
  pub name : bytes_at (layout m) s.name ≡ m.names.«module»
  pub ports : map (port_of (layout m)) s.ports ≡ ports_of m
  pub declarations : map (declaration_of (layout m)) s.declarations ≡ declarations_of m
  pub assigns : map (assign_of (layout m)) s.assigns ≡ map (named_assign m) m.netlist.assigns
  pub updates : map (update_of (layout m)) s.updates ≡ map (named_update m) m.netlist.updates
