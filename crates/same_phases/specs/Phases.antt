-- Pictures whose columns are divided among phases, and programs that take and show such phases.
use Rattle.std.specs.Prelude.{◌≡◌, ℕ, ◌<◌, ◌+◌, ◌*◌, ℤ, pos, ◌+ℤ◌, ◌*ℤ◌, List, length, map, slice_get, slice_index, Some}
use Rattle.std.specs.List.{flat_map, range_with_len}
use Rattle.dk_base.specs.Frames.{Picture, picture_at}
use Rattle.dk_types.specs.declared.typed.TypedInput.{TypedInput}
use Rattle.dk_types.specs.Typed.{Typing, input_types, types_of}
use Rattle.dk_types.specs.Meaning.{meaning}
use Rattle.pointwise_ir.specs.Meaning.{IsPicture}

-- phase p of a picture: of each `phases` columns, column p
abbrev pub phase_of : (phases p : ℕ) → Picture → Picture
phase_of phases p picture x y = picture ((pos phases *ℤ x) +ℤ pos p) y

-- the phases of each picture of a round, in order
abbrev pub phases_of : (phases : ℕ) → List Picture → List Picture
phases_of phases round = flat_map (λ picture. map (λ p. phase_of phases p picture) (range_with_len 0 phases)) round

-- one picture for each input in order, of its type
pub record IsRound (p : Typing) (round : List Picture) : Type 0 where
  pub one_each : length round ≡ length p.inputs
  pub pictures : (k : ℕ) (input : TypedInput) → slice_get p.inputs k ≡ Some input → IsPicture p.size input.ty (picture_at round k)

-- the picture of an output, counted from 0, on a round
abbrev pub output_picture : Typing → List Picture → (k : ℕ) → Picture
output_picture p round k = picture_at (meaning p round) (slice_index p.outputs k)

-- The new program has a frame of the old one's rows, and one phase of its columns. It has an input and an output, of the same type, for each phase of an
-- input and of an output of the old program, in order. On the phases of a round its outputs show the phases of what the old program shows on the round.
pub record SplitPictures (phases : ℕ) (old new : Typing) : Type 0 where
  pub width : old.size.width ≡ phases * new.size.width
  pub height : new.size.height ≡ old.size.height
  pub input_count : length new.inputs ≡ phases * length old.inputs
  pub input_types : (k p : ℕ) → k < length old.inputs → p < phases →
      slice_get (input_types new.inputs) (k * phases + p) ≡ slice_get (input_types old.inputs) k
  pub output_count : length new.outputs ≡ phases * length old.outputs
  pub output_types : (k p : ℕ) → k < length old.outputs → p < phases →
      slice_get (types_of new) (slice_index new.outputs (k * phases + p)) ≡ slice_get (types_of old) (slice_index old.outputs k)
  pub pictures : (round : List Picture) → IsRound old round → (k p : ℕ) → k < length old.outputs → p < phases → (x y : ℤ) →
      output_picture new (phases_of phases round) (k * phases + p) x y ≡ phase_of phases p (output_picture old round k) x y
