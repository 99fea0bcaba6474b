-- One number that bounds the clock paths of a program's module.
use Rattle.std.specs.Prelude.{ℕ, ◌+◌, ◌<◌, ◌≤◌, Bool, length, All, Contains}
use Rattle.wiring.specs.declared.right.Atom.{Atom}
use Rattle.wiring.specs.declared.netlist.Net.{Net}
use Rattle.wiring.specs.declared.netlist.Holder.TheVariants.{OfNet}
use Rattle.wiring.specs.declared.netlist.Update.{Update}
use Rattle.wiring.specs.declared.netlist.Update.TheVariants.{Put}
use Rattle.wiring.specs.BufferBits.{atom_reads}
use Rattle.wiring.specs.Netlist.{Netlist, valid_net}
use Rattle.net_build.specs.Depth.{IsWithin, is_start, SetsWithin, AreClockPathsWithin, hold_levels, control_levels}
use Rattle.pointwise_ir.specs.Programs.{Program, IsBody}
use Rattle.pointwise_ir.specs.Trees.{Tree}
use Rattle.buffer_plan.specs.Plans.{Plan}
use Rattle.circuit.specs.Taps.{Keeps}
use Rattle.circuit.specs.Depths.{ChoosesAmong}
use Rattle.circuit.specs.Forms.{Form}
use Rattle.line_buffer.specs.Depths.{line_operators}
use Rattle.circuit.specs.Images.{image_levels}
use Rattle.circuit.specs.Ends.{valid_levels}

-- The levels of image f, by its body and the taps among which its reads choose, and with `en` the choice by en, are at most n.
pub record HasLevelsWithin (p : Program) (plan : Plan) (form : Form) (enable : Bool) (f n : ℕ) : Type 0 where
  pub body : Tree
  pub choices : ℕ
  pub is_body : IsBody p f body
  pub among : ChoosesAmong plan f body choices
  pub within : image_levels form body choices + hold_levels enable ≤ n

-- n is at least the levels of each kept image that is not an input, and those of the registers.
pub record BoundsLevels (p : Program) (plan : Plan) (form : Form) (enable : Bool) (n : ℕ) : Type 0 where
  pub control : control_levels enable ≤ n
  pub image : (f : ℕ) → Keeps plan f → length p.inputs ≤ f → HasLevelsWithin p plan form enable f n

-- At each age the clock paths to registers, to the indices of puts and to valids are short. At an age of at least 1 each number that bounds the levels bounds the operators on all clock paths of the module: also to the value of a put and to a dout.
pub record HasClockPaths (m : Netlist) (p : Program) (plan : Plan) (form : Form) : Type 0 where
  pub registers : (u : Update) → Contains m.updates u → SetsWithin m u
  pub indices : (x : ℕ) (i a : Atom Net) → Contains m.updates (Put x i a) → All (IsWithin m is_start line_operators) (atom_reads i)
  pub valids : (k : ℕ) → k < length p.outputs → IsWithin m is_start valid_levels (OfNet (valid_net k))
  pub all : 1 ≤ plan.system.age → (n : ℕ) → BoundsLevels p plan form m.enable n → AreClockPathsWithin m n
