-- The nets of an expression's leaves: of its reads, and of the tests of its shifted parts.
use Rattle.std.specs.Prelude.{◌≡◌, ◌⊎◌, ℕ, ◌==◌, if◌then◌else◌, Bool, List, ◌∷◌, length, slice_get, Option, Some, None, IfSome, IfNone, [], ◌++◌, Contains}
use Rattle.dk_base.specs.declared.stencils.LiveRead.{LiveRead}
use Rattle.dk_base.specs.declared.ty.Ty.{Ty}
use Rattle.dk_base.specs.Types.{width_of as bits_of_type}
use Rattle.dk_base.specs.Frames.{Size}
use Rattle.wiring.specs.declared.right.Atom.{Atom}
use Rattle.wiring.specs.declared.right.Atom.TheVariants as atom
use Rattle.wiring.specs.declared.netlist.Net.{Net}
use Rattle.wiring.specs.declared.netlist.Holder.{Holder}
use Rattle.wiring.specs.declared.netlist.Holder.TheVariants.{OfNet}
use Rattle.wiring.specs.Netlist.{Netlist, net_width}
use Rattle.wiring.specs.Snapshot.{Snapshot, net_value}
use Rattle.net_build.specs.Includes.{Includes}
use Rattle.circuit.specs.declared.known.BodyLeaves.{BodyLeaves}
use Rattle.net_build.specs.Draft.{IsNet}
use Rattle.net_build.specs.Control.{IsMadeOf}
use Rattle.net_build.specs.Depth.{IsWithin, IsOver}
use Rattle.net_build.specs.Logic.{Computes}
use Rattle.pointwise_ir.specs.Programs.{Program}
use Rattle.edge_select.specs.declared.step.Step.{Step}
use Rattle.edge_select.specs.Steps.{LeadBy, LeadOn}
use Rattle.edge_select.specs.Pixels.{IsBitOf}
use Rattle.buffer_plan.specs.Plans.{Plan, delay_of, reads_by}
use Rattle.circuit.specs.Runs.{AtEachPixel}
use Rattle.circuit.specs.Rounds.{type_at}
use Rattle.circuit.specs.Leaves.{LeafRead}
use Rattle.circuit.specs.Known.{ArePlaced}
use Rattle.circuit.specs.Taps.{size_in, IsTapOf, HasControl}
use Rattle.circuit.specs.Depths.{MeansAtMost, IsOverTaps, test_levels}

-- the live reads by image f
abbrev pub reads_in : Plan → (f : ℕ) → List LiveRead
reads_in plan f = reads_by f plan.system.stencils.reads

-- one of these reads of the leaf's image leads from the pixel by its offset, and the number is its tap's
pub record IsLedTo (size : Size) (plan : Plan) (taps : List (List Net)) (reads : List LiveRead) (leaf : LeafRead) (x y : ℕ) (s : Snapshot) (value : ℕ) : Type 0 where
  pub read : LiveRead
  pub among : Contains reads read
  pub of_image : read.g ≡ leaf.image
  pub leads : LeadBy size leaf.steps read.dx read.dy x y
  pub tap : Net
  pub is_tap : IsTapOf plan taps read tap
  pub value_is : value ≡ net_value s tap

-- none of them does, and the number is 0
pub record IsLedNowhere (size : Size) (reads : List LiveRead) (leaf : LeafRead) (x y : ℕ) (value : ℕ) : Type 0 where
  pub none : (r : LiveRead) → Contains reads r → r.g ≡ leaf.image → LeadBy size leaf.steps r.dx r.dy x y → ⊥
  pub value_is : value ≡ 0

abbrev pub IsChosen : Size → Plan → List (List Net) → List LiveRead → LeafRead → (x y : ℕ) → Snapshot → (value : ℕ) → Type 0
IsChosen size plan taps reads leaf x y s value = IsLedTo size plan taps reads leaf x y s value ⊎ IsLedNowhere size reads leaf x y value

-- where the taps of these reads are made of the base in the first netlist, and the base has rst, en and registers, the net is made of the base
abbrev pub IsMadeOfTaps : (b first : Netlist) → Plan → List (List Net) → List LiveRead → Net → Type 0
IsMadeOfTaps b first plan taps reads net =
    (base : Holder → Bool) → HasControl first.enable base → ((r : LiveRead) (tap : Net) → Contains reads r → IsTapOf plan taps r tap → IsMadeOf first base (OfNet tap)) → IsMadeOf b base (OfNet net)

-- what a net has, where none means 0
abbrev pub worth_of : Snapshot → Option Net → ℕ
worth_of s None = 0
worth_of s (Some n) = net_value s n

-- Of these reads by image f, the net of the one that is meant. On a path from a tap it has one choice for each read that may be meant, and a test before them.
pub record IsChoice (b first : Netlist) (plan : Plan) (taps : List (List Net)) (f : ℕ) (reads : List LiveRead) (leaf : LeafRead) (bits : ℕ) (choice : Option Net) : Type 0 where
  pub there : IfSome choice (IsNet b)
  pub width : IfSome choice (λ n. net_width b n ≡ bits)
  pub value : AtEachPixel b (size_in plan) (delay_of plan f) (λ x y s. IsChosen (size_in plan) plan taps reads leaf x y s (worth_of s choice))
  pub made : IfSome choice (IsMadeOfTaps b first plan taps reads)
  pub levels : (n : ℕ) → MeansAtMost (size_in plan) leaf reads n → IfSome choice (IsOverTaps b first plan taps reads n)

-- The net of a read by image f: of all live reads by f of the image that is read, it is the tap of one by whose offset the steps lead, and 0 where they lead by none. On a path it has one choice for each live read that may be meant, and a test before them.
pub record IsReadNet (b first : Netlist) (plan : Plan) (taps : List (List Net)) (f : ℕ) (leaf : LeafRead) (bits : ℕ) (net : Net) : Type 0 where
  pub there : IsNet b net
  pub width : net_width b net ≡ bits
  pub value : AtEachPixel b (size_in plan) (delay_of plan f) (λ x y s. IsChosen (size_in plan) plan taps (reads_in plan f) leaf x y s (net_value s net))
  pub made : IsMadeOfTaps b first plan taps (reads_in plan f) net
  pub levels : (n : ℕ) → MeansAtMost (size_in plan) leaf (reads_in plan f) n → IsOverTaps b first plan taps (reads_in plan f) n net

-- A bit of image f that is 1 in the pixels that pass, and made only of rst, en and registers, with at most `test_levels` operators.
pub record IsPixelTest (b : Netlist) (plan : Plan) (f : ℕ) (passes : (x y : ℕ) → Type 0) (net : Net) : Type 0 where
  pub there : IsNet b net
  pub width : net_width b net ≡ 1
  pub value : AtEachPixel b (size_in plan) (delay_of plan f) (λ x y s. IsBitOf (passes x y) (net_value s net))
  pub within : (base : Holder → Bool) → HasControl b.enable base → IsWithin b base test_levels (OfNet net)

-- Nets for these leaves of image f: each read has its image's type, and each bit says whether the steps lead somewhere.
pub record AreLeafNets (b first : Netlist) (p : Program) (plan : Plan) (taps : List (List Net)) (f : ℕ) (leaves : List LeafRead) (parts : List (List Step)) (reads : List (Ty × Net)) (bits : List Net) : Type 0 where
  pub reads_are : length reads ≡ length leaves
  pub bits_are : length bits ≡ length parts
  pub ty : (i : ℕ) (leaf : LeafRead) (n : Ty × Net) → slice_get leaves i ≡ Some leaf → slice_get reads i ≡ Some n → n.0 ≡ type_at p leaf.image
  pub read : (i : ℕ) (leaf : LeafRead) (n : Ty × Net) → slice_get leaves i ≡ Some leaf → slice_get reads i ≡ Some n → IsReadNet b first plan taps f leaf (bits_of_type n.0) n.1
  pub bit : (i : ℕ) (steps : List Step) (n : Net) → slice_get parts i ≡ Some steps → slice_get bits i ≡ Some n → IsPixelTest b plan f (LeadOn (size_in plan) steps) n

-- whatever was chosen among some reads, `choice` is what is chosen among one more
abbrev pub ChoosesAlso : (b old : Netlist) → Program → Plan → List (List Net) → (f : ℕ) → LeafRead → LiveRead → (before choice : Option Net) → Type 0
ChoosesAlso b old p plan taps f leaf read before choice =
    (first : Netlist) (reads : List LiveRead) → Includes old first → IsChoice old first plan taps f reads leaf (bits_of_type (type_at p leaf.image)) before → IsChoice b first plan taps f (reads ++ read ∷ []) leaf (bits_of_type (type_at p leaf.image)) choice

-- `choice` is what is chosen among all live reads by image f
abbrev pub Chooses : (b old : Netlist) → Program → Plan → List (List Net) → (f : ℕ) → LeafRead → (choice : Option Net) → Type 0
Chooses b old p plan taps f leaf choice = (first : Netlist) → Includes old first → IsChoice b first plan taps f (reads_in plan f) leaf (bits_of_type (type_at p leaf.image)) choice

-- the net that is meant, if there is one
abbrev pub choice_nets : Option Net → List Net
choice_nets None = []
choice_nets (Some n) = n ∷ []

-- the same in a right side of this many bits
abbrev pub atom_of_choice : (bits : ℕ) → Option Net → Atom Net
atom_of_choice bits None = atom.Constant (record { width = bits; value = 0 })
atom_of_choice bits (Some n) = atom.Net n

-- the tap's number where the test passes, and else that of the choice, or 0
abbrev pub chosen_by : (test tap : Net) → Option Net → Snapshot → ℕ
chosen_by test tap choice s = if net_value s test == 1 then net_value s tap else worth_of s choice

-- the net of a choice, or one that is 0
pub record IsNetOf (b old : Netlist) (bits : ℕ) (choice : Option Net) (net : Net) : Type 0 where
  pub there : IfSome choice (λ n. n ≡ net)
  pub zero : IfNone choice (Computes b old [] bits (λ s. 0) net)
  pub levels : IfNone choice (IsOver b old 0 [] net)

-- the leaves have these nets, and what is known of the reads is so
pub record HaveNets (b first : Netlist) (p : Program) (plan : Plan) (taps : List (List Net)) (f : ℕ) (leaves : List LeafRead) (parts : List (List Step)) (all : BodyLeaves) : Type 0 where
  pub nets : AreLeafNets b first p plan taps f leaves parts all.nets.reads.items all.nets.bits.items
  pub placed : ArePlaced leaves all.known

-- No leaves.
pub record AreNoLeaves (all : BodyLeaves) : Type 0 where
  -- no reads with nets
  pub reads : all.nets.reads.items ≡ []
  -- no bits
  pub bits : all.nets.bits.items ≡ []
  -- and no read is known
  pub known : all.known ≡ []

-- after the leaves that are there these are added, with their nets
pub record AddsLeaves (b old : Netlist) (p : Program) (plan : Plan) (taps : List (List Net)) (f : ℕ) (leaves : List LeafRead) (parts : List (List Step)) (now before : BodyLeaves) : Type 0 where
  pub added : (first : Netlist) (ls : List LeafRead) (ps : List (List Step)) → Includes old first → HaveNets old first p plan taps f ls ps before → HaveNets b first p plan taps f (ls ++ leaves) (ps ++ parts) now
