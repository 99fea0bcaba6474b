-- An inlining with folded constants is a form of the program.
use Rattle.std.proofs.Common.{List, length, map, slice_get, ap, ◌∙◌, subst}
use Rattle.dk_base.specs.Frames.{Size, Picture, picture_at}
use Rattle.dk_types.specs.Typed.{Typing}
use Rattle.pointwise_ir.specs.declared.program.Input.{Input}
use Rattle.pointwise_ir.specs.Programs.{Program}
use Rattle.pointwise_ir.specs.Meaning.{IsPicture, IsRound}
use Rattle.pointwise_ir.specs.Passes.{KeepsMeaning}
use Rattle.dk_inline.specs.Answers.{IsInlining, KeepsProgram}
use Rattle.dk_compile.specs.Fronts.{IsForm}

round_before : (old new : Program) → KeepsMeaning old new → (round : List Picture) → IsRound new round → IsRound old round
round_before old new keeps round is = record {
  one_each = is.one_each ∙ ap length keeps.inputs;
  pictures = λ k input there.
      let P : Size → Type 0 = λ s. IsPicture s input.ty (picture_at round k) in
      subst P keeps.size (is.pictures k input (ap (λ (xs : List Input). slice_get xs k) keeps.inputs ∙ there));
}

pub form_of : (p : Typing) (old new : Program) → IsInlining p old → KeepsProgram p old → KeepsMeaning old new → IsForm p new
form_of p old new is keeps after = record {
  size = after.size ∙ is.size;
  inputs = ap (λ (xs : List Input). map (λ i. i.ty) xs) after.inputs ∙ is.inputs;
  names = after.names ∙ is.names;
  types = after.types ∙ is.types;
  outputs = after.outputs ∙ is.outputs;
  meaning = λ round ok g stays x y. let before = round_before old new after round ok in after.meaning round before g x y ∙ keeps.meaning round before g stays x y;
  stay = keeps.stay;
  kept = λ g. (λ k. (keeps.kept g).0 ((after.kept g).0 k), λ k. (after.kept g).1 ((keeps.kept g).1 k));
  live = λ f g dx dy kept.
      let old_kept = (keeps.kept f).1 kept in
      let stays = keeps.stay f kept in (
        λ l. (keeps.live f g dx dy stays).0 ((after.live f g dx dy old_kept).0 l),
        λ l. (after.live f g dx dy old_kept).1 ((keeps.live f g dx dy stays).1 l),
      );
}
