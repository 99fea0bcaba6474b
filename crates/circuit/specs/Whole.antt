-- What is built of a plan's images, and the module in the end.
use Rattle.std.specs.Prelude.{◌≡◌, ℕ, Bool, []}
use Rattle.wiring.specs.Netlist.{Netlist}
use Rattle.net_build.specs.Control.{IsControlled}
use Rattle.net_build.specs.Draft.{AllUpdated}
use Rattle.net_build.specs.Naming.{names_for}
use Rattle.net_build.specs.Runs.{IsWhole, NeverStops, RunsOn, StillBut}
use Rattle.pointwise_ir.specs.Programs.{Program}
use Rattle.line_buffer.specs.SharedCounters.{AreTurns}
use Rattle.buffer_plan.specs.Plans.{Plan}
use Rattle.circuit.specs.declared.finishing.Built.{Built}
use Rattle.circuit.specs.declared.finishing.BuiltImages.{BuiltImages}
use Rattle.circuit.specs.Behaviour.{AreReadNets, HasPorts}
use Rattle.circuit.specs.Forms.{Form, HasProperty, shapes_of}
use Rattle.circuit.specs.Images.{AreBuiltWith, ports_of}
use Rattle.circuit.specs.Modules.{IsModuleOf}
use Rattle.circuit.specs.Nets.{AreComputed, IsApart}
use Rattle.circuit.specs.Paths.{HasClockPaths}
use Rattle.circuit.specs.Registers.{CountsRegisters, HasRegisters}

-- A module with the ports of a program, and nothing else.
pub record HasOnlyPorts (p : Program) (enable : Bool) (b : Netlist) : Type 0 where
  -- these ports
  pub ports : b ≡ ports_of p enable
  -- all registers and arrays are updated: there are none
  pub updated : AllUpdated b
  -- what is there is still in held clocks
  pub still : StillBut b [] []
  -- it never stops
  pub stops : NeverStops b
  -- registers are controlled
  pub control : IsControlled b []

-- The first n of the kept images are built: they have their nets, their buffers, the turns of their arrays, and their frame tests.
pub record HasImages (b : Netlist) (p : Program) (plan : Plan) (form : Form) (n : ℕ) (images : BuiltImages) : Type 0 where
  -- the turns are those of the module's arrays
  pub turns : AreTurns b images.turns
  -- each of these images has its net and its buffer, and nothing else is there
  pub built : AreBuiltWith b p plan form n images.nets.items images.taps.items images.tests
  -- the registers are counters, copies and frame tests that are asked for
  pub registers : CountsRegisters b p plan form.long images.turns images.tests

-- The module of a program under a plan, with its buffers in a form, and the nets of its kept images and of its live reads.
pub record IsBuiltBy (p : Program) (plan : Plan) (form : Form) (enable : Bool) (r : Built) : Type 0 where
  -- its ports are those of the program
  pub ports : HasPorts r.module.netlist p enable
  -- its names are those that a netlist gets
  pub named : r.module.names ≡ names_for r.module.netlist
  -- it is a whole module
  pub whole : IsWhole r.module.netlist r.module.netlist
  -- no run that begins with a reset clock stops
  pub runs : RunsOn r.module.netlist
  -- it is the circuit of the program
  pub circuit : IsModuleOf r.module.netlist p plan form r.nets.items
  -- each live read has its net
  pub reads : AreReadNets r.module.netlist p plan r.reads.items
  -- each body is computed over the nets of its live reads
  pub computed : AreComputed r.module.netlist p plan form r.nets.items r.reads.items
  -- its arrays are those of the form, in order
  pub arrays : r.module.netlist.arrays ≡ shapes_of form.shapes plan plan.system.stencils.images
  -- each array keeps what the form promises
  pub property : HasProperty r.module.netlist form.property
  -- bodies with an age begin at arrays and registers
  pub apart : IsApart r.module.netlist p plan form r.nets.items
  -- one number bounds all its clock paths
  pub paths : HasClockPaths r.module.netlist p plan form
  -- its registers are counted, and no other is there
  pub registers : HasRegisters r.module.netlist p plan form.long
