-- The logic depth of what an image is made of: of the taps of its reads, the frame tests that choose among them, and its body.
use Rattle.std.specs.Prelude.{◌≡◌, ◌⊎◌, ℕ, ◌+◌, ◌<◌, ◌≤◌, Bool, List, [], ◌∷◌, slice_get, Some, Contains}
use Rattle.dk_base.specs.declared.stencils.LiveRead.{LiveRead}
use Rattle.dk_base.specs.Frames.{Size}
use Rattle.wiring.specs.declared.netlist.Net.{Net}
use Rattle.wiring.specs.declared.netlist.Holder.{Holder}
use Rattle.wiring.specs.declared.netlist.Holder.TheVariants.{OfNet}
use Rattle.wiring.specs.Netlist.{Netlist}
use Rattle.net_build.specs.Depth.{IsWithin}
use Rattle.pointwise_ir.specs.Trees.{Tree}
use Rattle.edge_select.specs.Steps.{LeadBy}
use Rattle.buffer_plan.specs.Plans.{Plan, reads_by}
use Rattle.circuit.specs.Leaves.{LeafRead, reads_of}
use Rattle.circuit.specs.Taps.{size_in, IsTapOf, HasControl}

-- the most operators on a path to a frame test, from rst, en and registers
abbrev pub test_levels : ℕ
test_levels = 2

-- The leaf may mean this live read: it is of the leaf's image, and from some pixel of the frame the steps lead by its offset.
abbrev pub MayMean : Size → LeafRead → LiveRead → Type 0
MayMean size leaf r = (r.g ≡ leaf.image) × ((x : ℕ) × (y : ℕ) × (x < size.width) × (y < size.height) × LeadBy size leaf.steps r.dx r.dy x y)

-- The leaf may mean at most n of these: each of them either not, or as one of the n.
abbrev pub MeansAtMost : Size → LeafRead → List LiveRead → (n : ℕ) → Type 0
MeansAtMost size leaf [] n = Unit {0}
MeansAtMost size leaf (r ∷ reads) n = ((MayMean size leaf r → ⊥) × MeansAtMost size leaf reads n) ⊎ ((k : ℕ) × (k < n) × MeansAtMost size leaf reads k)

-- each read in the body of image f may mean at most n live reads by f: it chooses among this number of taps
abbrev pub ChoosesAmong : Plan → (f : ℕ) → Tree → (n : ℕ) → Type 0
ChoosesAmong plan f e n = (i : ℕ) (leaf : LeafRead) → slice_get (reads_of e []) i ≡ Some leaf → MeansAtMost (size_in plan) leaf (reads_by f plan.system.stencils.reads) n

-- Made of the taps of these reads, and of rst, en and registers, with at most k operators on a path over a tap or a frame test: where the taps are within j of a base that has rst, en and registers, and j is no less than a frame test takes, the net is within k + j.
abbrev pub IsOverTaps : (b first : Netlist) → Plan → List (List Net) → List LiveRead → (k : ℕ) → Net → Type 0
IsOverTaps b first plan taps reads k net =
    (base : Holder → Bool) (j : ℕ) → HasControl first.enable base → test_levels ≤ j → ((r : LiveRead) (tap : Net) → Contains reads r → IsTapOf plan taps r tap → IsWithin first base j (OfNet tap)) → IsWithin b base (k + j) (OfNet net)
