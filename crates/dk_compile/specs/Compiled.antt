-- What a text is compiled to: the plan of least bits of its program, the module of this plan, and a Verilog text of the module.
use Rattle.std.specs.Prelude.{◌≡◌, ℕ, Bool, List, Option}
use Rattle.dk_types.specs.Typed.{Typing}
use Rattle.wiring.specs.declared.netlist.Net.{Net}
use Rattle.netlist.specs.Names.{NamedNetlist}
use Rattle.net_build.specs.Naming.{names_for}
use Rattle.pointwise_ir.specs.Programs.{Program}
use Rattle.raster_delay.specs.Systems.{System}
use Rattle.flow_dual.specs.declared.solution.Solution.{Solution}
use Rattle.flow_dual.specs.Solutions.{IsSolution}
use Rattle.buffer_plan.specs.Plans.{Plan, IsPlan, bits_of}
use Rattle.verilog_text.specs.Stands.{StandsFor}
use Rattle.verilog_layout.specs.Layout.{layout}
use Rattle.dk_compile.specs.Limits.{HasSystem}
use Rattle.dk_compile.specs.Packed.{IsPackedCircuitOf}

-- The program of a text, the system of its live reads at an age, a solution of it, and the plan that has the solution's delays, which are the least vector. All are within the limits.
pub record IsPlanned (text : List ℕ) (age : ℕ) (p : Typing) (ir : Program) (system : System) (solution : Solution) (plan : Plan) : Type 0 where
  pub has : HasSystem text age p ir system
  pub solved : IsSolution system solution
  pub plan_is : plan ≡ record { system = system; delays = solution.delays }
  pub within : IsPlan plan

-- the least buffer bits of the text's program at age 0
pub record HasLeastBits (text : List ℕ) (bits : ℕ) : Type 0 where
  pub program : Typing
  pub ir : Program
  pub system : System
  pub solution : Solution
  pub plan : Plan
  pub planned : IsPlanned text 0 program ir system solution plan
  pub bits_are : bits ≡ bits_of plan

-- The names of the module are fixed by its netlist: `dk`, and n0, r0 and m0 on for wires, registers and arrays in order. The text is the layout of the module, and denotes it and no other.
pub record IsTextOf (m : NamedNetlist) (text : List ℕ) : Type 0 where
  pub named : m.names ≡ names_for m.netlist
  pub laid_out : text ≡ layout m
  pub stands : StandsFor text m
  pub only : (other : NamedNetlist) → StandsFor text other → other ≡ m

-- The text is that of the program p, whose form, system, solution, plan, module and nets of kept images and live reads these are, and the Verilog text is one of the module.
pub record IsCompiled (text : List ℕ) (age : ℕ) (enable : Bool) (block : Option ℕ) (p : Typing) (ir : Program) (system : System) (solution : Solution) (plan : Plan) (m : NamedNetlist) (nets reads : List Net) (verilog : List ℕ) : Type 0 where
  pub planned : IsPlanned text age p ir system solution plan
  pub circuit : IsPackedCircuitOf ir plan enable block m.netlist nets reads
  pub printed : IsTextOf m verilog
