-- The nets of the kept images in the module: which nets they are, which output shows each, and which array stores it.
use Rattle.std.specs.Prelude.{◌≡◌, ℕ, ◌-◌, ◌<◌, ◌≤◌, pos, Bool, ◌&&◌, ◌||◌, IsTrue, List, length, slice_get, Some, All, Contains}
use Rattle.dk_base.specs.Types.{width_of as bits_of_type}
use Rattle.wiring.specs.declared.right.Atom.TheVariants as atom
use Rattle.wiring.specs.declared.right.Right.TheVariants.{Copy}
use Rattle.wiring.specs.declared.netlist.Net.{Net}
use Rattle.wiring.specs.declared.netlist.Holder.{Holder}
use Rattle.wiring.specs.declared.netlist.Holder.TheVariants.{OfNet, OfArray}
use Rattle.wiring.specs.declared.netlist.Assign.{Assign}
use Rattle.wiring.specs.declared.netlist.Update.{Update}
use Rattle.wiring.specs.declared.netlist.Update.TheVariants.{Put}
use Rattle.std.specs.List.{list_any}
use Rattle.dk_base.specs.declared.stencils.LiveRead.{LiveRead}
use Rattle.wiring.specs.BufferBits.{update_reads}
use Rattle.wiring.specs.Netlist.{Netlist, net_width, din_net, dout_net, update_target}
use Rattle.net_build.specs.Draft.{IsNet}
use Rattle.net_build.specs.Control.{IsMadeOf, is_control}
use Rattle.net_build.specs.Depth.{IsWithin}
use Rattle.pointwise_ir.specs.Programs.{Program, IsBody}
use Rattle.pointwise_ir.specs.Trees.{Tree}
use Rattle.buffer_plan.specs.Plans.{Plan, depth_of, read_age}
use Rattle.line_buffer.specs.Fills.{HasRight, IsWordOf, Takes}
use Rattle.circuit.specs.Rounds.{type_at}
use Rattle.circuit.specs.Taps.{Keeps, HasControl}
use Rattle.circuit.specs.Depths.{ChoosesAmong}
use Rattle.circuit.specs.Reads.{reads_in}
use Rattle.circuit.specs.Forms.{Form, first_array, end_array}
use Rattle.circuit.specs.Images.{is_array_of, reads_directly, tap_source_of, source_of, body_levels, image_levels}
use Rattle.circuit.specs.Behaviour.{net_of, read_net}

-- the one assign of an output copies the net
pub record Shows (m : Netlist) (output net : Net) : Type 0 where
  pub assign : HasRight m output (Copy (atom.Net net))
  pub only : (a : Assign) → Contains m.assigns a → a.target ≡ output → a.right ≡ Copy (atom.Net net)

-- the one put of array x takes the net
pub record Stores (m : Netlist) (direct : ℕ → Bool) (copies : List ℕ) (x : ℕ) (net : Net) : Type 0 where
  pub takes : Takes m direct copies x net
  pub only : (u : Update) → Contains m.updates u → update_target u ≡ OfArray x → u ≡ Put x (atom.Net takes.index) (atom.Net takes.stored)

-- the one put of array x takes a word of the array before it
pub record PassesOn (m : Netlist) (direct : ℕ → Bool) (copies : List ℕ) (x : ℕ) : Type 0 where
  pub from : Net
  pub word : IsWordOf m direct copies (x - 1) from
  pub stores : Stores m direct copies x from

-- The list has the net of each kept image of the module, in order; the copies are registers that copy words of long arrays.
pub record AreNetsOf (m : Netlist) (p : Program) (plan : Plan) (form : Form) (copies : List ℕ) (nets : List Net) : Type 0 where
  -- each is declared in the module, is not an output, and has the width of its image's type
  pub there : (g : ℕ) → Keeps plan g → IsNet m (net_of plan nets g)
  pub width : (g : ℕ) → Keeps plan g → net_width m (net_of plan nets g) ≡ bits_of_type (type_at p g)
  -- that of an input is its din
  pub input : (g : ℕ) → Keeps plan g → g < length p.inputs → net_of plan nets g ≡ din_net m g
  -- each output's dout shows the net of its image
  pub driven : (k g : ℕ) → slice_get p.outputs k ≡ Some g → Shows m (dout_net k) (net_of plan nets g)
  -- the first array of each image of depth above 0 stores the image's net, and each later one takes a word of the array before it
  pub stored : (g : ℕ) → Keeps plan g → 0 < depth_of plan g → Stores m (reads_directly form plan) copies (first_array form.shapes plan g) (net_of plan nets g)
  pub passed_on : (g x : ℕ) → Keeps plan g → first_array form.shapes plan g < x → x < end_array form.shapes plan g → PassesOn m (reads_directly form plan) copies x

-- rst, en, the registers, and the arrays that are not long: of the images of which f has a live read, and its own
abbrev pub kept_source_of : Form → Plan → (f : ℕ) → (enable : Bool) → Holder → Bool
kept_source_of form plan f enable (OfNet n) = is_control enable (OfNet n)
kept_source_of form plan f enable (OfArray x) = reads_directly form plan x && (is_array_of form.shapes plan f x || list_any (λ (r : LiveRead). is_array_of form.shapes plan r.g x) (reads_in plan f))

-- What image f is made of. Its net and each dout that shows it are made of rst, en, registers and the arrays of the images of which f has a live read, with at most `image_levels` operators on a path. What the puts of its arrays read is made of these and of its own arrays. Of all these arrays only those that are not long are read.
pub record IsImageApart (m : Netlist) (p : Program) (plan : Plan) (form : Form) (nets : List Net) (f : ℕ) : Type 0 where
  pub net : IsMadeOf m (source_of form plan f m.enable) (OfNet (net_of plan nets f))
  pub levels : (e : Tree) (n : ℕ) → IsBody p f e → ChoosesAmong plan f e n → IsWithin m (source_of form plan f m.enable) (image_levels form e n) (OfNet (net_of plan nets f))
  pub dout : (k : ℕ) → slice_get p.outputs k ≡ Some f → IsMadeOf m (source_of form plan f m.enable) (OfNet (dout_net k))
  pub dout_levels : (k : ℕ) (e : Tree) (n : ℕ) → slice_get p.outputs k ≡ Some f → IsBody p f e → ChoosesAmong plan f e n → IsWithin m (source_of form plan f m.enable) (image_levels form e n) (OfNet (dout_net k))
  pub put : (x : ℕ) (u : Update) → first_array form.shapes plan f ≤ x → x < end_array form.shapes plan f → Contains m.updates u → update_target u ≡ OfArray x → All (IsMadeOf m (kept_source_of form plan f m.enable)) (update_reads u)

-- At an age of at least 1 this holds of each kept image that is not an input. So no path of assigns passes through two images. No path leads from a din to a dout, unless the dout shows an input.
abbrev pub IsApart : Netlist → Program → Plan → Form → List Net → Type 0
IsApart m p plan form nets = 1 ≤ plan.system.age → (f : ℕ) → Keeps plan f → length p.inputs ≤ f → IsImageApart m p plan form nets f

-- the base has the nets of the live reads by image f
abbrev pub HasReadNets : Plan → (reads : List Net) → (f : ℕ) → (Holder → Bool) → Type 0
HasReadNets plan reads f base = (k : ℕ) (r : LiveRead) → slice_get plan.system.stencils.reads k ≡ Some r → r.f ≡ f → IsTrue (base (OfNet (read_net reads k)))

-- Image f is computed from what it reads: its net is made of rst, en, registers and the nets of its live reads, with at most `body_levels` operators on a path. It is made so of each base that has these.
pub record IsComputed (m : Netlist) (p : Program) (plan : Plan) (reads : List Net) (f : ℕ) (net : Net) : Type 0 where
  pub made : (base : Holder → Bool) → HasControl m.enable base → HasReadNets plan reads f base → IsMadeOf m base (OfNet net)
  pub levels : (e : Tree) (n : ℕ) → IsBody p f e → ChoosesAmong plan f e n → (base : Holder → Bool) → HasControl m.enable base → HasReadNets plan reads f base → IsWithin m base (body_levels e n) (OfNet net)

-- At each age the images that are no inputs are computed from what they read. The net of a live read of age 0 is that of the image that is read. One of a greater age is made of rst, en, registers and the arrays of this image that are not long.
pub record AreComputed (m : Netlist) (p : Program) (plan : Plan) (form : Form) (nets reads : List Net) : Type 0 where
  pub image : (f : ℕ) → Keeps plan f → length p.inputs ≤ f → IsComputed m p plan reads f (net_of plan nets f)
  pub now : (k : ℕ) (r : LiveRead) → slice_get plan.system.stencils.reads k ≡ Some r → read_age plan r ≡ pos 0 → read_net reads k ≡ net_of plan nets r.g
  pub later : (k age : ℕ) (r : LiveRead) → slice_get plan.system.stencils.reads k ≡ Some r → read_age plan r ≡ pos age → 0 < age → IsWithin m (tap_source_of form plan r.g m.enable) form.tap_levels (OfNet (read_net reads k))
