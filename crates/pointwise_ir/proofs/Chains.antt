-- Passes one after another.
use Rattle.std.proofs.Common.{◌≡◌, ℕ, ◌<◌, List, length, get_or, Some, slice_get, refl, ap, sym, ◌∙◌, subst}
use Rattle.std.proofs.lemmas.Option.{slice_get_read}
use Rattle.dk_base.specs.Frames.{Size, Picture}
use Rattle.pointwise_ir.specs.Programs.{Program}
use Rattle.dk_base.specs.Frames.{picture_at}
use Rattle.pointwise_ir.specs.Meaning.{IsPicture, IsRound}
use Rattle.pointwise_ir.specs.Passes.{KeepsMeaning}

pub keeps_all : (p : Program) → KeepsMeaning p p
keeps_all p = record {
  size = refl;
  inputs = refl;
  outputs = refl;
  names = refl;
  types = refl;
  meaning = λ round is g x y. refl;
  kept = λ g. (λ h. h, λ h. h);
  live = λ f g dx dy kept. (λ h. h, λ h. h);
}

same_round : (p q : Program) (round : List Picture) → q.size ≡ p.size → q.inputs ≡ p.inputs → IsRound p round → IsRound q round
same_round p q round size inputs is = record {
  one_each = is.one_each ∙ sym (ap length inputs);
  pictures = λ k input there.
      let P : Size → Type 0 = λ s. IsPicture s input.ty (picture_at round k) in
      subst P (sym size) (is.pictures k input (ap (λ xs. slice_get xs k) (sym inputs) ∙ there));
}

pub keeps_on : (a b c : Program) → KeepsMeaning a b → KeepsMeaning b c → KeepsMeaning a c
keeps_on a b c one two = record {
  size = two.size ∙ one.size;
  inputs = two.inputs ∙ one.inputs;
  outputs = two.outputs ∙ one.outputs;
  names = two.names ∙ one.names;
  types = two.types ∙ one.types;
  meaning = λ round is g x y. two.meaning round (same_round a b round one.size one.inputs is) g x y ∙ one.meaning round is g x y;
  kept = λ g. (λ h. (one.kept g).0 ((two.kept g).0 h), λ h. (two.kept g).1 ((one.kept g).1 h));
  live = λ f g dx dy kept.
      let first = one.live f g dx dy kept in
      let second = two.live f g dx dy ((one.kept f).1 kept) in
      (λ h. first.0 (second.0 h), λ h. second.1 (first.1 h));
}

-- the entry that a loop is at
pub same_entry : {A : Type 0} (xs : List A) (i k : ℕ) (x y : A) → k ≡ i → i < length xs → x ≡ get_or xs i x → slice_get xs k ≡ Some y → x ≡ y
same_entry xs i k x y here lt is at =
    let there : slice_get xs i ≡ Some x = slice_get_read xs (length xs) i x refl lt is in
    let same : Some x ≡ Some y = sym there ∙ ap (slice_get xs) (sym here) ∙ at in
    cc
