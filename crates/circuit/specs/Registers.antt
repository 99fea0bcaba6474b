-- The registers of a module: what they are for, and how many bits they have.
use Rattle.std.specs.Prelude.{◌≡◌, ◌⊎◌, ℕ, ℤ, suc, ◌+◌, Bool, List, [], map, take, sum_by, Contains, Option, None, Some}
use Rattle.dk_base.specs.declared.stencils.LiveRead.{LiveRead}
use Rattle.dk_base.specs.Frames.{Size}
use Rattle.dk_base.specs.FrameSizes.{size_of}
use Rattle.wiring.specs.Netlist.{Netlist}
use Rattle.net_build.specs.Registers.{register_bits, distinct}
use Rattle.pointwise_ir.specs.Programs.{Program, IsBody}
use Rattle.pointwise_ir.specs.Trees.{Tree}
use Rattle.edge_select.specs.declared.step.Step.{Step}
use Rattle.edge_select.specs.declared.frame_tests.Test.{Test}
use Rattle.edge_select.specs.declared.frame_tests.FrameTests.{FrameTests}
use Rattle.edge_select.specs.Steps.{LeadBy, LeadOn}
use Rattle.edge_select.specs.Pixels.{AllPass, NonePass}
use Rattle.edge_select.specs.FrameTests.{AreFrameTests, test_bits, start_bits, CountsTests}
use Rattle.edge_select.specs.Asked.{InColumn, InRow, SeparatesColumns, SeparatesRows, AddsOnly}
use Rattle.line_buffer.specs.declared.sharing.Turns.{Turns}
use Rattle.line_buffer.specs.SharedCounters.{line_words, block_words, index_bits, turn_bits, long_words, short_words, copy_bits}
use Rattle.buffer_plan.specs.Plans.{Plan, delay_of}
use Rattle.circuit.specs.Leaves.{LeafRead, reads_of, bits_of}
use Rattle.circuit.specs.Taps.{Keeps, size_in}
use Rattle.circuit.specs.Reads.{reads_in}

-- all pixels of the frame pass, or none does
abbrev pub AllOrNone : Size → (passes : (x y : ℕ) → Type 0) → Type 0
AllOrNone size passes = AllPass size.width size.height passes ⊎ NonePass size.width size.height passes

-- A condition on the pixels of an image: that the steps lead from them by the offset or, without one, that they lead somewhere.
pub record Condition : Type 0 where
  pub image : ℕ
  pub steps : List Step
  pub offset : Option (ℤ × ℤ)

abbrev pub LeadsBy : Size → List Step → Option (ℤ × ℤ) → (x y : ℕ) → Type 0
LeadsBy size steps None = LeadOn size steps
LeadsBy size steps (Some d) = LeadBy size steps d.0 d.1

-- the pixel at column x and row y meets the condition
abbrev pub Meets : Size → Condition → (x y : ℕ) → Type 0
Meets size c = LeadsBy size c.steps c.offset

-- it is the condition that the leaf means this live read of its image
abbrev pub AsksRead : (f : ℕ) → LeafRead → LiveRead → Condition → Type 0
AsksRead f leaf r c = (r.g ≡ leaf.image) × (c ≡ record { image = f; steps = leaf.steps; offset = Some (r.dx, r.dy) })

-- or that it means one of the live reads by image f
abbrev pub AsksLeaf : Plan → (f : ℕ) → LeafRead → Condition → Type 0
AsksLeaf plan f leaf c = (r : LiveRead) × Contains (reads_in plan f) r × AsksRead f leaf r c

abbrev pub AsksLeaves : Plan → (f : ℕ) → List LeafRead → Condition → Type 0
AsksLeaves plan f leaves c = (leaf : LeafRead) × Contains leaves leaf × AsksLeaf plan f leaf c

-- it is the condition that the steps lead to the shifted part at their end
abbrev pub AsksPart : (f : ℕ) → List Step → Condition → Type 0
AsksPart f steps c = c ≡ record { image = f; steps = steps; offset = None }

abbrev pub AsksParts : (f : ℕ) → List (List Step) → Condition → Type 0
AsksParts f parts c = (steps : List Step) × Contains parts steps × AsksPart f steps c

-- these leaves and parts of image f ask for the condition
abbrev pub Asks : Plan → (f : ℕ) → List LeafRead → List (List Step) → Condition → Type 0
Asks plan f leaves parts c = AsksLeaves plan f leaves c ⊎ AsksParts f parts c

-- the body of a kept image asks for it
pub record IsAsked (p : Program) (plan : Plan) (c : Condition) : Type 0 where
  pub image : ℕ
  pub kept : Keeps plan image
  pub body : Tree
  pub is_body : IsBody p image body
  pub asks : Asks plan image (reads_of body []) (bits_of body []) c

-- each condition that the program asks for has one result over the frame
abbrev pub NeedsNoTest : Program → Plan → Type 0
NeedsNoTest p plan = (c : Condition) → IsAsked p plan c → AllOrNone (size_in plan) (Meets (size_in plan) c)

-- the test separates the columns where one of these conditions is met from the others
abbrev pub ColumnsFor : Plan → (asked : Condition → Type 0) → Test → Type 0
ColumnsFor plan asked t = (c : Condition) × asked c × SeparatesColumns (size_in plan) (delay_of plan c.image) (InColumn (size_in plan) (Meets (size_in plan) c)) t

-- or the rows
abbrev pub RowsFor : Plan → (asked : Condition → Type 0) → Test → Type 0
RowsFor plan asked t = (c : Condition) × asked c × SeparatesRows (size_in plan) (delay_of plan c.image) (InRow (size_in plan) (Meets (size_in plan) c)) t

-- each frame test is for one of these conditions
pub record AreAsked (tests : FrameTests) (plan : Plan) (asked : Condition → Type 0) : Type 0 where
  pub columns : (t : Test) → Contains tests.columns.items t → ColumnsFor plan asked t
  pub rows : (t : Test) → Contains tests.rows.items t → RowsFor plan asked t

-- registers are added for the added frame tests, and no other, and each added frame test is for one of these conditions
pub record AddsNeeded (new old : Netlist) (now before : FrameTests) (plan : Plan) (asked : Condition → Type 0) : Type 0 where
  pub counts : CountsTests new old now before
  pub only : AddsOnly now before (ColumnsFor plan asked) (RowsFor plan asked)

-- the latency of each output
abbrev pub latencies : Plan → List ℕ
latencies plan = map (delay_of plan) plan.system.stencils.outputs

-- the bits of the registers that show when outputs of these latencies begin, one for each
abbrev pub latency_bits : FrameTests → List ℕ → ℕ
latency_bits tests ls = sum_by (start_bits tests.counters (size_of tests.size)) (distinct ls)

-- the register that shows when output k begins is added, unless an earlier output has its latency
abbrev pub AddsLatency : (new old : Netlist) → Plan → FrameTests → (k : ℕ) → Type 0
AddsLatency new old plan tests k = register_bits new + latency_bits tests (take k (latencies plan)) ≡ register_bits old + latency_bits tests (take (suc k) (latencies plan))

-- Of what is built of the images, the registers are the counters of arrays, one for each number of words, a copy for each long array, and those of frame tests, each for a condition that the program asks for.
pub record CountsRegisters (b : Netlist) (p : Program) (plan : Plan) (long : (words : ℕ) → Bool) (turns : Turns) (tests : FrameTests) : Type 0 where
  pub lines : line_words turns ≡ distinct (short_words long b.arrays)
  pub blocks : block_words turns ≡ distinct (long_words long b.arrays)
  pub bits : register_bits b ≡ turn_bits turns + (copy_bits long b.arrays + test_bits tests)
  pub asked : AreAsked tests plan (IsAsked p plan)

-- The registers of a module have the bits of these and of no other: a counter for each number of words of arrays, once for the arrays that are long and once for those that are not; a copy for each long array; a register for each latency of an output; and frame tests, with one pair of counters of column and row and one bit for each distinct test. Each frame test separates the columns, or the rows, where some pixel meets a condition that the program asks for, from the others. If each such condition is met by all pixels or by none, there is no register for any.
pub record HasRegisters (m : Netlist) (p : Program) (plan : Plan) (long : (words : ℕ) → Bool) : Type 0 where
  pub tests : FrameTests
  pub tests_are : AreFrameTests m (size_in plan) tests
  pub asked : AreAsked tests plan (IsAsked p plan)
  pub none : NeedsNoTest p plan → test_bits tests ≡ 0
  pub bits : register_bits m ≡ index_bits (distinct (short_words long m.arrays)) + index_bits (distinct (long_words long m.arrays)) + copy_bits long m.arrays + latency_bits tests (latencies plan) + test_bits tests
