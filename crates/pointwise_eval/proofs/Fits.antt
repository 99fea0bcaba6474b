-- Frames that fit, one after another.
use Rattle.std.proofs.Common.{◌≡◌, ℕ, ◌+◌, ◌<◌, List, get_or, Some, slice_get, ap, ◌∙◌, subst, arith, inl, inr}
use Rattle.std.proofs.lemmas.Bool.{cases_lt}
use Rattle.std.proofs.lemmas.Option.{get_or_from_slice_get}
use Rattle.dk_base.specs.Frames.{Size}
use Rattle.pointwise_ir.specs.declared.program.Input.{Input}
use Rattle.dk_frames.specs.declared.frame.Frame.{Frame}
use Rattle.pointwise_eval.specs.Rounds.{IsInputFrame}

-- each of the first k frames fits
abbrev pub FitBelow : ℕ → Size → List Input → List Frame → Type 0
FitBelow k size inputs frames = (j : ℕ) (f : Frame) (input : Input) → j < k → slice_get frames j ≡ Some f → slice_get inputs j ≡ Some input → IsInputFrame size input.ty f

pub fits_more : (size : Size) (inputs : List Input) (frames : List Frame) (k : ℕ) (a : Input) (b : Frame) → IsInputFrame size (get_or inputs k a).ty (get_or frames k b) → FitBelow k size inputs frames → FitBelow (k + 1) size inputs frames
fits_more size inputs frames k a b fits below j f input lt there given = elim (cases_lt j k) [
  | inl low ↦ below j f input low there given
  | inr high ↦
      let here : k ≡ j = omega (arith, lt, high) in
      let one : get_or frames k b ≡ f = ap (λ i. get_or frames i b) here ∙ get_or_from_slice_get frames j f b there in
      let other : get_or inputs k a ≡ input = ap (λ i. get_or inputs i a) here ∙ get_or_from_slice_get inputs j input a given in
      let P : Frame → Type 0 = λ g. IsInputFrame size input.ty g in
      let Q : Input → Type 0 = λ i. IsInputFrame size i.ty (get_or frames k b) in
      subst P one (subst Q other fits)
]
