-- The layout of a printed text.
use Rattle.std.specs.Prelude.{ℕ, suc, ◌-◌, Bool, if◌then◌else◌, nat_eq, List, [], ◌∷◌, ◌++◌, codes, decimal}
use Rattle.wiring.specs.Sizes.{SizedNumber}
use Rattle.wiring.specs.declared.right.Atom.{Atom}
use Rattle.wiring.specs.declared.right.Atom.TheVariants as atom
use Rattle.wiring.specs.declared.right.Operator.{Operator}
use Rattle.wiring.specs.declared.right.Operator.TheVariants.{Add, Subtract, Multiply, Divide, Less, Equal, And, Or, Xor}
use Rattle.wiring.specs.declared.right.Right.{Right}
use Rattle.wiring.specs.declared.right.Right.TheVariants.{Copy, Not, Binary, Choose, Join, Repeat, Bit, Slice, Word}
use Rattle.wiring.specs.declared.netlist.Net.{Net}
use Rattle.wiring.specs.declared.netlist.Net.TheVariants.{Input, Output, Wire, Reg}
use Rattle.wiring.specs.declared.netlist.Shape.{Shape}
use Rattle.wiring.specs.declared.netlist.Assign.{Assign}
use Rattle.wiring.specs.declared.netlist.Update.{Update}
use Rattle.wiring.specs.declared.netlist.Update.TheVariants.{Set, Put}
use Rattle.netlist.specs.Names.{NamedNetlist, name_at, all_inputs, all_outputs}

-- the names of nets and arrays, by their places
abbrev pub net_name : NamedNetlist → Net → List ℕ
net_name m (Input k) = name_at (all_inputs m.netlist.enable) k
net_name m (Output k) = name_at all_outputs k
net_name m (Wire k) = name_at m.names.wires k
net_name m (Reg k) = name_at m.names.regs k

abbrev pub array_name : NamedNetlist → ℕ → List ℕ
array_name m k = name_at m.names.arrays k

-- size, `'d`, value
abbrev pub constant_layout : SizedNumber → List ℕ
constant_layout c = decimal c.width ++ (codes "'d" ++ decimal c.value)

abbrev pub operator_layout : Operator → List ℕ
operator_layout Add = codes " + "
operator_layout Subtract = codes " - "
operator_layout Multiply = codes " * "
operator_layout Divide = codes " / "
operator_layout Less = codes " < "
operator_layout Equal = codes " == "
operator_layout And = codes " & "
operator_layout Or = codes " | "
operator_layout Xor = codes " ^ "

abbrev pub atom_layout : NamedNetlist → Atom Net → List ℕ
atom_layout m (atom.Net n) = net_name m n
atom_layout m (atom.Constant c) = constant_layout c

abbrev pub right_layout : NamedNetlist → Right Net ℕ → List ℕ
right_layout m (Copy a) = atom_layout m a
right_layout m (Not a) = codes "~" ++ atom_layout m a
right_layout m (Binary o a b) = atom_layout m a ++ (operator_layout o ++ atom_layout m b)
right_layout m (Choose c a b) = atom_layout m c ++ (codes " ? " ++ (atom_layout m a ++ (codes " : " ++ atom_layout m b)))
right_layout m (Join a b) = codes "{" ++ (atom_layout m a ++ (codes ", " ++ (atom_layout m b ++ codes "}")))
right_layout m (Repeat n a) = codes "{" ++ (decimal n ++ (codes "{" ++ (atom_layout m a ++ codes "}}")))
right_layout m (Bit v k) = net_name m v ++ (codes "[" ++ (decimal k ++ codes "]"))
right_layout m (Slice v h l) = net_name m v ++ (codes "[" ++ (decimal h ++ (codes ":" ++ (decimal l ++ codes "]"))))
right_layout m (Word a i) = array_name m a ++ (codes "[" ++ (atom_layout m i ++ codes "]"))

abbrev pub assign_layout : NamedNetlist → Assign → List ℕ
assign_layout m a = codes "  assign " ++ (net_name m a.target ++ (codes " = " ++ (right_layout m a.right ++ codes ";\n")))

abbrev pub update_layout : NamedNetlist → Update → List ℕ
update_layout m (Set r a) = codes "    " ++ (net_name m (Reg r) ++ (codes " <= " ++ (atom_layout m a ++ codes ";\n")))
update_layout m (Put x i a) = codes "    " ++ (array_name m x ++ (codes "[" ++ (atom_layout m i ++ (codes "] <= " ++ (atom_layout m a ++ codes ";\n")))))

-- one bit is written without a range
abbrev pub range_layout : ℕ → List ℕ
range_layout w = if nat_eq w 1 then [] else codes "[" ++ (decimal (w - 1) ++ codes ":0] ")

-- a word, the bits and a name
abbrev pub named_layout : List ℕ → ℕ → List ℕ → List ℕ
named_layout word w name = word ++ (range_layout w ++ name)

abbrev pub net_line : List ℕ → List (List ℕ) → ℕ → ℕ → List ℕ
net_line word names k w = named_layout word w (name_at names k) ++ codes ";\n"

abbrev pub array_line : List (List ℕ) → ℕ → Shape → List ℕ
array_line names k s = named_layout (codes "  reg ") s.width (name_at names k) ++ (codes " [0:" ++ (decimal (s.depth - 1) ++ codes "];\n"))

-- one after another, each with its place
abbrev pub each_at : {X : Type 0} → (ℕ → X → List ℕ) → ℕ → List X → List ℕ
each_at layout k [] = []
each_at layout k (x ∷ xs) = layout k x ++ each_at layout (suc k) xs

-- one after another
abbrev pub each : {X : Type 0} → (X → List ℕ) → List X → List ℕ
each layout [] = []
each layout (x ∷ xs) = layout x ++ each layout xs

-- a port after the clock
abbrev pub input_layout : Bool → ℕ → ℕ → List ℕ
input_layout enable k w = named_layout (codes ", input ") w (name_at (all_inputs enable) k)

abbrev pub output_layout : ℕ → ℕ → List ℕ
output_layout k w = named_layout (codes ", output ") w (name_at all_outputs k)

-- the first line
abbrev pub head_layout : NamedNetlist → List ℕ
head_layout m =
    codes "module " ++ (m.names.«module» ++ (codes "(input clk"
    ++ (each_at (input_layout m.netlist.enable) 0 m.netlist.inputs
    ++ (each_at output_layout 0 m.netlist.outputs
    ++ codes ");\n"))))

abbrev pub declarations_layout : NamedNetlist → List ℕ
declarations_layout m =
    each_at (net_line (codes "  wire ") m.names.wires) 0 m.netlist.wires
    ++ (each_at (net_line (codes "  reg ") m.names.regs) 0 m.netlist.regs
    ++ each_at (array_line m.names.arrays) 0 m.netlist.arrays)

unfoldable pub block_head : List ℕ
block_head = codes "  always @(posedge clk) begin\n"

abbrev pub whole_block : NamedNetlist → List Update → List ℕ
whole_block m us = block_head ++ (each (update_layout m) us ++ codes "  end\n")

-- left out where nothing is updated
abbrev pub block_layout : NamedNetlist → List Update → List ℕ
block_layout m [] = []
block_layout m (u ∷ us) = whole_block m (u ∷ us)

-- the whole text
abbrev pub layout : NamedNetlist → List ℕ
layout m = head_layout m ++ (declarations_layout m ++ (each (assign_layout m) m.netlist.assigns ++ (block_layout m m.netlist.updates ++ codes "endmodule\n")))
