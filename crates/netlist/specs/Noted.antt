-- Used by private functions only.
-- What is noted of ports and declarations, one after another.
use Rattle.std.specs.Prelude.{◌≡◌, ℕ, List, ◌++◌, All, reverse}
use Rattle.std.specs.Option.{option_to_list}
use Rattle.netlist.specs.declared.names.Names.{Names}
use Rattle.netlist.specs.declared.parts.Port.{Port}
use Rattle.netlist.specs.declared.parts.Sort.{Sort}
use Rattle.netlist.specs.declared.parts.Declaration.{Declaration}
use Rattle.netlist.specs.declared.declare.PortWidths.{PortWidths}
use Rattle.netlist.specs.declared.declare.Sorts.{Sorts}
use Rattle.netlist.specs.Scopes.{collected, taken, given, wire_width, reg_width, array_shape, wire_name, reg_name, array_name, SortFits}

-- the name of a declaration is added to those of its sort
pub record NotesName (new old : Names) (d : Declaration) : Type 0 where
  -- the module keeps its name
  pub top : new.module ≡ old.module
  -- a wire's name goes to those of wires
  pub wires : new.wires.items ≡ old.wires.items ++ option_to_list (wire_name d)
  -- a register's to those of registers
  pub regs : new.regs.items ≡ old.regs.items ++ option_to_list (reg_name d)
  -- an array's to those of arrays
  pub arrays : new.arrays.items ≡ old.arrays.items ++ option_to_list (array_name d)

-- the names of declarations, the last first
pub record AreNamesBackwards (n : Names) (name : List ℕ) (declarations : List Declaration) : Type 0 where
  -- the module has this name
  pub top : n.module ≡ name
  -- those of wires
  pub wires : reverse n.wires.items ≡ collected wire_name declarations
  -- those of registers
  pub regs : reverse n.regs.items ≡ collected reg_name declarations
  -- those of arrays
  pub arrays : reverse n.arrays.items ≡ collected array_name declarations

-- the width of a port is added to those of its direction
pub record NotesPort (new old : PortWidths) (p : Port) : Type 0 where
  -- an input's width goes to those of inputs
  pub inputs : new.inputs.items ≡ old.inputs.items ++ option_to_list (taken p.direction p.width)
  -- an output's to those of outputs
  pub outputs : new.outputs.items ≡ old.outputs.items ++ option_to_list (given p.direction p.width)

-- the widths of ports, by their directions
pub record ArePortWidths (ports : List Port) (w : PortWidths) : Type 0 where
  -- those of inputs
  pub inputs : w.inputs.items ≡ collected (λ (q : Port). taken q.direction q.width) ports
  -- those of outputs
  pub outputs : w.outputs.items ≡ collected (λ (q : Port). given q.direction q.width) ports

-- the size of what is declared is added to those of its sort
pub record NotesSort (new old : Sorts) (s : Sort) : Type 0 where
  -- a wire's width goes to those of wires
  pub wires : new.wires.items ≡ old.wires.items ++ option_to_list (wire_width s)
  -- a register's to those of registers
  pub regs : new.regs.items ≡ old.regs.items ++ option_to_list (reg_width s)
  -- an array's shape to those of arrays
  pub arrays : new.arrays.items ≡ old.arrays.items ++ option_to_list (array_shape s)

-- the sizes of what is declared, by their sorts
pub record AreSorts (declarations : List Declaration) (s : Sorts) : Type 0 where
  -- the widths of wires
  pub wires : s.wires.items ≡ collected (λ (d : Declaration). wire_width d.sort) declarations
  -- those of registers
  pub regs : s.regs.items ≡ collected (λ (d : Declaration). reg_width d.sort) declarations
  -- the shapes of arrays
  pub arrays : s.arrays.items ≡ collected (λ (d : Declaration). array_shape d.sort) declarations
  -- each is in its range
  pub fit : All (λ (d : Declaration). SortFits d.sort) declarations
