-- Programs that show the phases, by the roles of their images.
use Rattle.std.proofs.Common.{◌≡◌, ℕ, ◌+◌, ◌*◌, ◌/◌, ◌%◌, ◌<◌, List, length, slice_get, slice_index, ap, ◌∙◌, subst, arith, mul_comm}
use Rattle.std.proofs.lemmas.Nat.{mul-add-lt, div-mul-add, mod-mul-add}
use Rattle.dk_types.specs.Typed.{Typing, input_types, types_of}
use Rattle.same_phases.specs.declared.role.Role.{Role}
use Rattle.same_phases.specs.declared.role.Role.TheVariants.{Phase}
use Rattle.same_phases.specs.Phases.{SplitPictures}
use Rattle.same_phases.specs.Roles.{IsSplit, IsPhase, ArePlayed, IsOutputPhase}

-- place k * n + p is among n of each
phase_below : (n count all k p : ℕ) → all ≡ n * count → k < count → p < n → k * n + p < all
phase_below n count all k p is there below = let lt = mul-add-lt k n p count there below in let turned = mul_comm n count in omega (arith, is, lt, turned)

pub split_pictures : (n : ℕ) (old new : Typing) (roles : List Role) → IsSplit n old new → ArePlayed n old new roles →
    ((j : ℕ) → j < length new.inputs → slice_get (input_types new.inputs) j ≡ slice_get (input_types old.inputs) (j / n)) →
    length new.outputs ≡ n * length old.outputs → ((j : ℕ) → j < length new.outputs → IsOutputPhase n old new roles j) → SplitPictures n old new
split_pictures n old new roles split played types count outputs = record {
  width = split.width;
  height = split.height;
  input_count = split.input_count;
  input_types = λ k p there below.
      types (k * n + p) (phase_below n (length old.inputs) (length new.inputs) k p split.input_count there below) ∙ ap (slice_get (input_types old.inputs)) (div-mul-add k n p below);
  output_count = count;
  output_types = λ k p there below. (output k p there below).type ∙ ap (λ j. slice_get (types_of old) (slice_index old.outputs j)) (div-mul-add k n p below);
  pictures = λ round is k p there below x y. (phase k p there below).shows round is.one_each x y;
}
  where
    output : (k p : ℕ) → k < length old.outputs → p < n → IsOutputPhase n old new roles (k * n + p)
    output k p there below = outputs (k * n + p) (phase_below n (length old.outputs) (length new.outputs) k p count there below)

    phase : (k p : ℕ) → k < length old.outputs → p < n → IsPhase n old new (slice_index old.outputs k) p (slice_index new.outputs (k * n + p))
    phase k p there below =
        let h = slice_index new.outputs (k * n + p) in
        subst (λ (j : ℕ). IsPhase n old new (slice_index old.outputs j) p h) (div-mul-add k n p below)
        (subst (λ (r : ℕ). IsPhase n old new (slice_index old.outputs ((k * n + p) / n)) r h) (mod-mul-add k n p below)
        (played h (Phase (slice_index old.outputs ((k * n + p) / n)) ((k * n + p) % n)) (output k p there below).role))
