-- An inlining keeps what the program means and reads.
use Rattle.std.proofs.Common.{◌≡◌, ℕ, List, ◌++◌, map, ap, ◌∙◌}
use Rattle.dk_base.specs.FrameSizes.{size_of}
use Rattle.dk_types.specs.declared.typed.TypedInput.{TypedInput}
use Rattle.dk_types.specs.Typed.{Typing, image_type}
use Rattle.dk_types.specs.Typed as T
use Rattle.dk_types.specs.Kept.{IsTyped}
use Rattle.pointwise_ir.specs.declared.program.Parts.{Parts}
use Rattle.pointwise_ir.specs.Trees.{tree_of}
use Rattle.pointwise_ir.specs.Programs.{Program, program_of, IsProgram}
use Rattle.dk_inline.specs.Inlined.{bodies}
use Rattle.dk_inline.specs.Answers.{IsInlining, KeepsProgram}
use Rattle.dk_inline.proofs.Pictures.{meaning_kept}
use Rattle.dk_inline.proofs.Kept.{kept_stay, live_same, kept_same}

-- the parts of an inlining, one by one
pub inlining_of : (p : Typing) (parts : Parts) (inputs : List TypedInput) (outputs : List ℕ) → size_of parts.size ≡ p.size
    → map (λ i. i.name) parts.inputs.items ≡ map (λ i. i.name.text) inputs → map (λ i. i.ty) parts.inputs.items ≡ map (λ i. i.ty) inputs → inputs ≡ p.inputs
    → map (λ d. d.name) parts.images.items ≡ map (λ (d : T.Definition). d.name.text) p.definitions → map (λ d. d.ty) parts.images.items ≡ map image_type p.definitions → map (λ d. tree_of d.body) parts.images.items ≡ bodies p
    → parts.outputs.items ≡ outputs → outputs ≡ p.outputs → IsInlining p (program_of parts)
inlining_of p parts inputs outputs size names types inputs_are image_names image_types bodies_are outputs_are outputs_same = record {
  size = size;
  inputs = types ∙ ap (map (λ i. i.ty)) inputs_are;
  names =
      ap (λ ns. ns ++ map (λ d. d.name) parts.images.items) (names ∙ ap (map (λ i. i.name.text)) inputs_are)
      ∙ ap (λ ns. map (λ i. i.name.text) p.inputs ++ ns) image_names;
  types =
      ap (λ ts. ts ++ map (λ d. d.ty) parts.images.items) (types ∙ ap (map (λ i. i.ty)) inputs_are)
      ∙ ap (λ ts. map (λ i. i.ty) p.inputs ++ ts) image_types;
  outputs = outputs_are ∙ outputs_same;
  bodies = bodies_are;
}

pub keeps_program : (p : Typing) (ir : Program) → IsTyped p → IsInlining p ir → IsProgram ir → KeepsProgram p ir
keeps_program p ir typed is program = record {
  meaning = λ round ok g stays x y. meaning_kept p ir typed is program round ok g stays x y;
  kept = λ g. kept_same p ir typed is g;
  stay = λ g kept. kept_stay p typed g kept;
  live = λ f g dx dy stays. live_same p ir typed is f g dx dy stays;
}
