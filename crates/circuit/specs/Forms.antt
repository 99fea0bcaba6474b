-- The law of a form of buffers, over a plan.
use Rattle.std.specs.Prelude.{◌≡◌, ℕ, ◌+◌, ◌*◌, ◌<◌, ◌≤◌, Bool, false, not, List, [], ◌∷◌, ◌++◌, length, take, Some, ⊤}
use Rattle.dk_base.specs.declared.stencils.Image.{Image}
use Rattle.dk_base.specs.Stencils.{place}
use Rattle.wiring.specs.declared.right.Atom.{Atom}
use Rattle.wiring.specs.declared.netlist.Net.{Net}
use Rattle.wiring.specs.declared.netlist.Shape.{Shape}
use Rattle.wiring.specs.Netlist.{Netlist, depth, net_width}
use Rattle.wiring.specs.BufferBits.{array_bits}
use Rattle.net_build.specs.Indices.{read_indices, put_indices}
use Rattle.buffer_plan.specs.Plans.{Plan, ages_of, width_of, depth_of}
use Rattle.line_buffer.specs.Places.{Place, chain_shapes, chain_place, ring_shapes, ring_place}
use Rattle.line_buffer.specs.Depths.{line_operators, ring_operators}
use Rattle.line_buffer.specs.Fills.{AreFilled}
use Rattle.line_buffer.specs.Indices.{IsReadOnce, IsReadAndPut, is_long, is_direct}
use Rattle.line_buffer.specs.Buffers.{IsBuffer, AddsBuffer}
use Rattle.line_buffer.specs.Chains.{AreCopies, AreMadeOfShort}
use Rattle.circuit.specs.Splits.{split_ages}
use Rattle.circuit.specs.declared.slots.Slot.{Slot}
use Rattle.circuit.specs.declared.forms.ImageNet.{ImageNet}
use Rattle.line_buffer.specs.declared.sharing.Turns.{Turns}
use Rattle.line_buffer.specs.SharedCounters.{AreTurns, CountsTurns}
use Rattle.net_build.specs.Draft.{IsNet}
use Rattle.circuit.specs.Taps.{Keeps}
use Rattle.dk_base.specs.declared.TheConstants.{MAX_BUFFER_BITS}

-- the arrays of a form, by a plan and an image; and where it holds an age of an image at a clock
abbrev pub Shapes : Type 0
Shapes = Plan → (g : ℕ) → List Shape

abbrev pub Places : Type 0
Places = Plan → (g age t : ℕ) → Place

-- what each array of a form keeps, by its number of words, the indices at which it is read and those at which it is put
abbrev pub Property : Type 1
Property = (words : ℕ) → (reads puts : List (Atom Net)) → Type 0

-- A form of buffers: the arrays, where each age is, which arrays are long, by their number of words, the most operators on a path to a tap, which are those of its index, and what each array keeps. A long array has a register that copies its word, and nothing else reads it.
pub record Form : Type 1 where
  pub shapes : Shapes
  pub places : Places
  pub long : (words : ℕ) → Bool
  pub tap_levels : ℕ
  pub property : Property

-- the arrays of these images, one after another
abbrev pub shapes_of : Shapes → Plan → List Image → List Shape
shapes_of shapes plan [] = []
shapes_of shapes plan (i ∷ images) = shapes plan i.number ++ shapes_of shapes plan images

-- those of all kept images before this one
abbrev pub shapes_before : Shapes → Plan → (g : ℕ) → List Shape
shapes_before shapes plan g = shapes_of shapes plan (take (place plan.system.stencils.images g) plan.system.stencils.images)

-- the numbers of an image's arrays: from the first to before the end
abbrev pub first_array : Shapes → Plan → (g : ℕ) → ℕ
first_array shapes plan g = length (shapes_before shapes plan g)

abbrev pub end_array : Shapes → Plan → (g : ℕ) → ℕ
end_array shapes plan g = first_array shapes plan g + length (shapes plan g)

-- What a form has done for image g: its taps, each for an age; arrays of width times depth bits, a copy for each long array, and nothing else that takes in what came in. The taps are made of the arrays that are not long, and of the copies. The first array takes the image's net, each later one a word of the one before it. Each array has the form's property.
pub record IsBuffered (b old : Netlist) (plan : Plan) (g : ℕ) (form : Form) (value : Net) (taps : List Net) : Type 0 where
  pub copies : List ℕ
  pub buffer : IsBuffer b copies (form.places plan g) (ages_of plan g) taps value
  pub adds : AddsBuffer b old (form.shapes plan g) copies
  pub copied : AreCopies form.long b copies (form.shapes plan g)
  pub bits : array_bits (form.shapes plan g) ≡ width_of plan g * depth_of plan g
  pub made : AreMadeOfShort form.long b form.tap_levels (length old.arrays) (length old.arrays + length (form.shapes plan g)) (ages_of plan g) taps
  pub fills : AreFilled b (is_direct form.long b) copies (length old.arrays) (length old.arrays + length (form.shapes plan g)) value
  pub each : (x : ℕ) → length old.arrays ≤ x → x < length b.arrays → form.property (depth b x) (read_indices b x) (put_indices b x)

-- each array of the module has the property
abbrev pub HasProperty : Netlist → Property → Type 0
HasProperty m property = (x : ℕ) → x < length m.arrays → property (depth m x) (read_indices m x) (put_indices m x)

-- a chain for each image, its segments ascending
abbrev pub chain_shapes_of : Shapes
chain_shapes_of plan g = chain_shapes (width_of plan g) (ages_of plan g)

abbrev pub chain_places : Places
chain_places plan g age t = chain_place (first_array chain_shapes_of plan g) (ages_of plan g) age t

-- each array is read once and put once, at one index
abbrev pub chain_form : Form
chain_form = record { shapes = chain_shapes_of; places = chain_places; long = λ words. false; tap_levels = line_operators; property = λ words. IsReadOnce }

-- a chain for each image over the ages of its split, which may be more than are read
abbrev pub block_shapes_of : (proposed : List (List ℕ)) → Shapes
block_shapes_of proposed plan g = chain_shapes (width_of plan g) (split_ages proposed plan g)

abbrev pub block_places : (proposed : List (List ℕ)) → Places
block_places proposed plan g age t = chain_place (first_array (block_shapes_of proposed) plan g) (split_ages proposed plan g) age t

-- The arrays of such chains. Those of at least this number of words are long: each is read once, one clock ahead, and put once.
abbrev pub block_form : (least : ℕ) → (proposed : List (List ℕ)) → Form
block_form least proposed = record { shapes = block_shapes_of proposed; places = block_places proposed; long = is_long (Some least); tap_levels = line_operators; property = λ words. IsReadAndPut (not (is_long (Some least) words)) }

-- a ring for each image of depth above 0
abbrev pub ring_shapes_of : Shapes
ring_shapes_of plan g = ring_shapes (width_of plan g) (ages_of plan g)

abbrev pub ring_places : Places
ring_places plan g age t = ring_place (first_array ring_shapes_of plan g) (ages_of plan g) age t

abbrev pub ring_form : Form
ring_form = record { shapes = ring_shapes_of; places = ring_places; long = λ words. false; tap_levels = ring_operators; property = λ words reads puts. ⊤ }

-- The slot is this place.
pub record IsSlotOf (p : Place) (s : Slot) : Type 0 where
  -- the array by its number
  pub array : s.array ≡ p.array
  -- the word by its number
  pub word : s.word ≡ p.word

-- n is the number of the first array of image g, and at most `MAX_BUFFER_BITS`.
pub record IsFirstArray (shapes : Shapes) (plan : Plan) (g n : ℕ) : Type 0 where
  -- as many arrays as the kept images before it have
  pub first : n ≡ first_array shapes plan g
  -- at most as many as bits may be buffered
  pub few : n ≤ MAX_BUFFER_BITS

-- A kept image with its net, whose buffer a form can add: those of the kept images before it are there.
pub record CanBuffer (b : Netlist) (plan : Plan) (form : Form) (own : ImageNet) (t : Turns) : Type 0 where
  -- the image is kept
  pub kept : Keeps plan own.image
  -- the netlist has its net
  pub net : IsNet b own.net
  -- of the image's width
  pub width : net_width b own.net ≡ width_of plan own.image
  -- the arrays are those of the images before it
  pub arrays : b.arrays ≡ shapes_before form.shapes plan own.image
  -- their turns are these
  pub turns : AreTurns b t

-- The buffer of a kept image by its taps, and the turns of its arrays.
pub record AddsImage (new old : Netlist) (plan : Plan) (form : Form) (own : ImageNet) (now before : Turns) (taps : List Net) : Type 0 where
  -- the turns are those of the arrays
  pub turns : AreTurns new now
  -- a counter for each new number of words, and a copy for each long array
  pub counts : CountsTurns new old now before form.long (form.shapes plan own.image)
  -- what the form has done for the image
  pub buffered : IsBuffered new old plan own.image form own.net taps
