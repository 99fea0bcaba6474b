-- A reader of images, and what is made for it.
use Rattle.std.specs.Prelude.{List, Option}
use Rattle.dk_base.specs.declared.stencils.LiveRead.{LiveRead}
use Rattle.dk_base.specs.declared.ty.Ty.{Ty}
use Rattle.wiring.specs.declared.netlist.Net.{Net}
use Rattle.wiring.specs.Netlist.{Netlist}
use Rattle.edge_select.specs.declared.frame_tests.FrameTests.{FrameTests}
use Rattle.edge_select.specs.declared.step.Step.{Step}
use Rattle.circuit.specs.declared.known.BodyLeaves.{BodyLeaves}
use Rattle.circuit.specs.declared.reader.Leaf.{Leaf}
use Rattle.circuit.specs.declared.reader.Reader.{Reader}
use Rattle.circuit.specs.Growing.{CanRead, GrowFor, IsTypedRead}
use Rattle.circuit.specs.Images.{IsImageNet}
use Rattle.circuit.specs.Leaves.{LeafRead, leaf_at}
use Rattle.circuit.specs.Reads.{AddsLeaves, Chooses, ChoosesAlso}
use Rattle.circuit.specs.Registers.{AsksLeaf, Condition}

-- the leaf as a read
abbrev pub read_of : Leaf → LeafRead
read_of l = leaf_at l.image l.steps.now

-- the reader's image can read, in a module with these frame tests
abbrev pub Reads : Netlist → Reader → FrameTests → Type 0
Reads b r t = CanRead b r.ir.now r.plan.now r.taps.now r.image t

-- a condition that a leaf of its body asks for
abbrev pub AsksFor : Reader → LeafRead → Condition → Type 0
AsksFor r leaf c = AsksLeaf r.plan.now r.image leaf c

-- the frame tests have grown for its plan
abbrev pub GrowWith : (new old : Netlist) (now before : FrameTests) → Reader → (asked : Condition → Type 0) → Type 0
GrowWith new old now before r asked = GrowFor new old now before r.plan.now asked

-- the choice among some live reads becomes that among one more
abbrev pub ChoosesMore : (new old : Netlist) → Reader → LeafRead → LiveRead → (before choice : Option Net) → Type 0
ChoosesMore new old r leaf read before choice = ChoosesAlso new old r.ir.now r.plan.now r.taps.now r.image leaf read before choice

-- the choice among all live reads by its image
abbrev pub ChoosesFor : (new old : Netlist) → Reader → LeafRead → (choice : Option Net) → Type 0
ChoosesFor new old r leaf choice = Chooses new old r.ir.now r.plan.now r.taps.now r.image leaf choice

-- the net of a leaf, with its type
abbrev pub IsReadFor : (new old : Netlist) → Reader → LeafRead → Ty × Net → Type 0
IsReadFor new old r leaf n = IsTypedRead new old r.ir.now r.plan.now r.taps.now r.image leaf n

-- these leaves are added to those of its body
abbrev pub AddsFor : (new old : Netlist) → Reader → List LeafRead → List (List Step) → (now before : BodyLeaves) → Type 0
AddsFor new old r leaves parts now before = AddsLeaves new old r.ir.now r.plan.now r.taps.now r.image leaves parts now before

-- the net of its image
abbrev pub IsNetFor : (new old : Netlist) → Reader → Net → Type 0
IsNetFor new old r net = IsImageNet new old r.ir.now r.plan.now r.taps.now r.image net
