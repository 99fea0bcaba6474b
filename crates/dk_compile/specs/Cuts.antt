-- Programs whose bodies are cut: what must stay, and what is measured.
use Rattle.std.specs.Prelude.{◌≡◌, ◌⊎◌, ℕ, ◌<◌, ◌≤◌, max, ℤ, List, length, map, slice_get, slice_index}
use Rattle.dk_base.specs.Frames.{Picture}
use Rattle.dk_types.specs.Typed.{Typing, types_of}
pub use Rattle.same_phases.specs.Phases.{IsRound, output_picture}
use Rattle.pointwise_ir.specs.Programs.{Program, bodies_of}
use Rattle.dk_inline.specs.Answers.{image_names, IsInlining}
use Rattle.dk_compile.specs.Sources.{IsText, IsAccepted}
use Rattle.body_levels.specs.Levels.{greatest_level}
use Rattle.body_levels.specs.Deep.{IsShallower}
use Rattle.body_levels.specs.Reasons.{deep_bodies}
use Rattle.dk_compile.specs.declared.measures.Measures.{Measures}

-- The new program has the old one's size, its inputs and outputs with their names and types, and on each round the same picture of each output.
pub record ShowSamePictures (old new : Typing) : Type 0 where
  pub size : new.size ≡ old.size
  pub input_types : map (λ i. i.ty) new.inputs ≡ map (λ i. i.ty) old.inputs
  pub input_names : map (λ i. i.name.text) new.inputs ≡ map (λ i. i.name.text) old.inputs
  pub count : length new.outputs ≡ length old.outputs
  pub names : (k : ℕ) → k < length old.outputs → slice_get (image_names new) (slice_index new.outputs k) ≡ slice_get (image_names old) (slice_index old.outputs k)
  pub types : (k : ℕ) → k < length old.outputs → slice_get (types_of new) (slice_index new.outputs k) ≡ slice_get (types_of old) (slice_index old.outputs k)
  pub pictures : (round : List Picture) → IsRound old round → (k : ℕ) → k < length old.outputs → (x y : ℤ) → output_picture new round k x y ≡ output_picture old round k x y

-- The text is that of a program within its limits, bits and latency aside, which shows the pictures of the source's program.
pub record KeepsPictures (source text : List ℕ) : Type 0 where
  pub old : Typing
  pub new : Typing
  pub from : IsText source old
  pub accepted : IsAccepted text new
  pub same : ShowSamePictures old new

-- the text's program with its inline images substituted, as its levels are counted
pub record IsInlinedText (text : List ℕ) (form : Program) : Type 0 where
  pub program : Typing
  pub is_text : IsText text program
  pub inlined : IsInlining program form

-- What is counted of a text: its definitions, the most levels of operators of a body, and by name, in order, the definitions of more than `most` levels, each with the reason.
pub record HasMeasures (text : List ℕ) (most : ℕ) (m : Measures) : Type 0 where
  pub form : Program
  pub is_form : IsInlinedText text form
  pub definitions : m.definitions ≡ length form.images
  pub levels : m.levels ≡ greatest_level (bodies_of form)
  pub deep : m.deep.items ≡ deep_bodies most form

-- The text is what a source is cut to, where its bodies are to have at most `most` levels. It shows the same pictures, and has no more levels than these or than the source has. It is the source where that has no more levels than these, and where no body would have fewer.
pub record IsCutOf (source : List ℕ) (most : ℕ) (text : List ℕ) : Type 0 where
  pub keeps : KeepsPictures source text
  pub before : Program
  pub after : Program
  pub was : IsInlinedText source before
  pub is : IsInlinedText text after
  pub no_deeper : greatest_level (bodies_of after) ≤ max most (greatest_level (bodies_of before))
  pub stays : greatest_level (bodies_of before) ≤ most → text ≡ source
  pub shallower : (text ≡ source) ⊎ IsShallower most before after
