-- What a module and its frame tests gain as the nets of images are made.
use Rattle.std.specs.Prelude.{◌≡◌, ℕ, ◌+◌, ◌<◌, List, length, Option, IfSome}
use Rattle.wiring.specs.declared.netlist.Net.{Net}
use Rattle.wiring.specs.Netlist.{Netlist, net_width}
use Rattle.wiring.specs.Sizes.{IsWidth}
use Rattle.net_build.specs.Draft.{IsNet}
use Rattle.net_build.specs.Includes.{Includes}
use Rattle.net_build.specs.Registers.{register_bits}
use Rattle.pointwise_ir.specs.Programs.{Program}
use Rattle.edge_select.specs.declared.frame_tests.FrameTests.{FrameTests}
use Rattle.edge_select.specs.FrameTests.{AddsTests, AreFrameTests, start_bits}
use Rattle.dk_base.specs.declared.ty.Ty.{Ty}
use Rattle.dk_base.specs.Types.{width_of}
use Rattle.dk_base.specs.FrameSizes.{size_of}
use Rattle.buffer_plan.specs.Plans.{Plan}
use Rattle.circuit.specs.Rounds.{type_at}
use Rattle.circuit.specs.Leaves.{LeafRead}
use Rattle.circuit.specs.Taps.{IsReading, size_in}
use Rattle.circuit.specs.Reads.{IsPixelTest, IsReadNet}
use Rattle.circuit.specs.Ends.{AreOuts, AreShared, IsSharedBy, IsStarted}
use Rattle.circuit.specs.Registers.{AddsLatency, AddsNeeded, Condition, latencies, latency_bits}

-- An image that reads others, in a module with these frame tests.
pub record CanRead (b : Netlist) (p : Program) (plan : Plan) (taps : List (List Net)) (f : ℕ) (t : FrameTests) : Type 0 where
  -- it is kept, and the images before it have their taps
  pub reading : IsReading b p plan taps f
  -- they are frame tests of the module, for the plan's frames
  pub tests : AreFrameTests b (size_in plan) t

-- The frame tests of a module, grown with it as these conditions are asked for.
pub record GrowFor (new old : Netlist) (now before : FrameTests) (plan : Plan) (asked : Condition → Type 0) : Type 0 where
  -- only registers beside the counters are added, and wires
  pub adds : AddsTests new old now before
  -- they are frame tests of the new module
  pub tests : AreFrameTests new (size_in plan) now
  -- each added register is of a test that is asked for
  pub needed : AddsNeeded new old now before plan asked

-- A test of the pixels of image f that is asked for, and the frame tests that it takes.
pub record MakesTest (new old : Netlist) (now before : FrameTests) (plan : Plan) (f : ℕ) (asked : Condition → Type 0) (passes : (x y : ℕ) → Type 0) (net : Net) : Type 0 where
  -- only registers beside the counters are added, and wires
  pub adds : AddsTests new old now before
  -- they are frame tests of the new module
  pub tests : AreFrameTests new (size_in plan) now
  -- each added register is of a test that is asked for
  pub needed : AddsNeeded new old now before plan asked
  -- the net is 1 in the pixels that pass
  pub test : IsPixelTest new plan f passes net

-- The net of a choice, if there is one, has this many bits.
pub record IsOfWidth (b : Netlist) (bits : ℕ) (choice : Option Net) : Type 0 where
  -- the module has it
  pub there : IfSome choice (IsNet b)
  -- it has these bits
  pub width : IfSome choice (λ n. net_width b n ≡ bits)

-- A test, and nets of this many bits between which it chooses.
pub record AreChosen (b : Netlist) (w : ℕ) (test tap : Net) (choice : Option Net) : Type 0 where
  -- it is 1 to 64
  pub bits : IsWidth w
  -- the module has the test
  pub there : IsNet b test
  -- of one bit
  pub one_bit : net_width b test ≡ 1
  -- the tap, if the test passes
  pub tapped : IsNet b tap
  -- it has these bits
  pub tap_width : net_width b tap ≡ w
  -- what was chosen before, if not
  pub before : IsOfWidth b w choice

-- The net of a leaf of image f, of the type of the image that is read.
pub record IsTypedRead (new old : Netlist) (p : Program) (plan : Plan) (taps : List (List Net)) (f : ℕ) (leaf : LeafRead) (n : Ty × Net) : Type 0 where
  -- that image's type
  pub ty : n.0 ≡ type_at p leaf.image
  -- the tap of the live read that is meant, whatever was there first
  pub net : (first : Netlist) → Includes old first → IsReadNet new first plan taps f leaf (width_of n.0) n.1

-- A net that is 1 from a latency on, and the registers that it takes.
pub record MakesValid (new old : Netlist) (tests : FrameTests) (latency : ℕ) (n : Net) : Type 0 where
  -- only registers beside the counters are added, and wires
  pub adds : AddsTests new old tests tests
  -- the bits of the register that shows when clocks are counted, and no other
  pub bits : register_bits new ≡ register_bits old + start_bits tests.counters (size_of tests.size) latency
  -- the module has the net
  pub net : IsNet new n
  -- of one bit
  pub width : net_width new n ≡ 1
  -- it is 1 in each counted clock from that latency on
  pub valid : IsStarted new latency n

-- A module whose next output is the one after these.
pub record HasOuts (b : Netlist) (plan : Plan) (t : FrameTests) (outs : List (Net × Net)) : Type 0 where
  -- it has these frame tests
  pub tests : AreFrameTests b (size_of t.size) t
  -- there is a next output
  pub within : length outs < length plan.system.stencils.outputs
  -- outputs of one latency have one valid
  pub share : AreShared plan outs

-- The valid of the output after these, with what it is part of.
pub record AddsValid (new old : Netlist) (plan : Plan) (tests : FrameTests) (outs : List (Net × Net)) (is : Type 0) (net : Net) : Type 0 where
  -- only registers beside the counters are added, and wires
  pub adds : AddsTests new old tests tests
  -- a register for its latency, unless an earlier output has it
  pub bits : AddsLatency new old plan tests (length outs)
  -- the valid, or the output, is right
  pub right : is
  -- earlier outputs of its latency have the same net
  pub shared : IsSharedBy plan outs (length outs) net

-- All outputs of a module, and the registers that they take.
pub record AddsOuts (new old : Netlist) (plan : Plan) (nets : List Net) (tests : FrameTests) (all : List (Net × Net)) : Type 0 where
  -- only registers beside the counters are added, and wires
  pub adds : AddsTests new old tests tests
  -- a register for each latency of an output, and no other
  pub bits : register_bits new ≡ register_bits old + latency_bits tests (latencies plan)
  -- for each output its valid and its dout
  pub outs : AreOuts new plan nets (length plan.system.stencils.outputs) all
  -- outputs of one latency have one valid
  pub share : AreShared plan all
