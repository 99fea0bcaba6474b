-- The lines before the first time: the module's name, and the variables with their widths and names.
use Rattle.std.specs.Prelude.{ℕ, suc, ◌+◌, Bool, List, [], ◌∷◌, ◌++◌, length, codes}
use Rattle.std.specs.Fmt.{decimal}
use Rattle.wiring.specs.Netlist.{Netlist}
use Rattle.netlist.specs.Names.{NamedNetlist, name_at, all_inputs, all_outputs}
use Rattle.vcd_trace.specs.Layout.{id_of, text_of, clock_lines}
use Rattle.cycle_sim.specs.Slots.{all_widths}

-- one after another, each with its place
abbrev pub each_at : (ℕ → ℕ → List ℕ) → ℕ → List ℕ → List ℕ
each_at text k [] = []
each_at text k (w ∷ widths) = text k w ++ each_at text (suc k) widths

-- a kind, a width and the identifier of variable i
abbrev pub kind_text : (kind : List ℕ) (width i : ℕ) → List ℕ
kind_text kind width i = codes "$var " ++ (kind ++ (codes " " ++ (decimal width ++ (codes " " ++ id_of i))))

-- the line of a variable, with its LF
abbrev pub variable_text : (kind : List ℕ) (width i : ℕ) (name : List ℕ) → List ℕ
variable_text kind width i name = kind_text kind width i ++ (codes " " ++ (name ++ codes " $end\n"))

-- the line of a net at this place of its sort, after this many variables of other sorts
abbrev pub input_text : Bool → (place width : ℕ) → List ℕ
input_text enable place width = variable_text (codes "wire") width place (name_at (all_inputs enable) place)

abbrev pub output_text : (before place width : ℕ) → List ℕ
output_text before place width = variable_text (codes "wire") width (before + place) (name_at all_outputs place)

abbrev pub named_text : (kind : List ℕ) (names : List (List ℕ)) (before place width : ℕ) → List ℕ
named_text kind names before place width = variable_text kind width (before + place) (name_at names place)

abbrev pub ports_text : Netlist → List ℕ
ports_text n = each_at (input_text n.enable) 0 n.inputs ++ each_at (output_text (length n.inputs)) 0 n.outputs

-- the ports but the clock, the wires and the registers, in the module's order
abbrev pub variables_text : NamedNetlist → List ℕ
variables_text m =
    let ports = length m.netlist.inputs + length m.netlist.outputs in
    ports_text m.netlist
    ++ (each_at (named_text (codes "wire") m.names.wires ports) 0 m.netlist.wires
    ++ each_at (named_text (codes "reg") m.names.regs (ports + length m.netlist.wires)) 0 m.netlist.regs)

unfoldable pub scope_head : List ℕ
scope_head = codes "$scope module "

abbrev pub scope_text : List ℕ → List ℕ
scope_text name = scope_head ++ (name ++ codes " $end\n")

unfoldable pub timescale_text : List ℕ
timescale_text = codes "$timescale 1 ns $end\n"

unfoldable pub end_text : List ℕ
end_text = codes "$upscope $end\n$enddefinitions $end\n"

-- a clock is a nanosecond
abbrev pub header_text : NamedNetlist → List ℕ
header_text m = timescale_text ++ (scope_text m.names.«module» ++ (variables_text m ++ end_text))

-- the whole trace of a module's run, given each clock's values of the variables
abbrev pub trace_text : NamedNetlist → List (List ℕ) → List ℕ
trace_text m clocks = header_text m ++ text_of (clock_lines (all_widths m.netlist) clocks)
