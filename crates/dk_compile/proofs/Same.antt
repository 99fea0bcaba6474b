-- Programs whose forms show the same pictures show the same pictures.
use Rattle.std.proofs.Common.{◌≡◌, refl, inl, inr, arith, ℕ, ℤ, ◌<◌, ◌≤◌, max, List, length, map, take, slice_get, sym, ap, subst, ◌∙◌, Some}
use Rattle.std.specs.Prelude.{slice_index, option_map}
use Rattle.std.proofs.lemmas.List.{length-map}
use Rattle.std.proofs.Math.Seq.{take-append_seam}
use Rattle.std.proofs.lemmas.List.Elements.{Contains-get_or}
use Rattle.std.proofs.lemmas.Option.{slice_get-map}
use Rattle.dk_base.specs.declared.ty.Ty.{Ty}
use Rattle.dk_base.specs.Frames.{Size, Picture, picture_at}
use Rattle.dk_types.specs.declared.typed.TypedInput.{TypedInput}
use Rattle.dk_types.specs.Typed.{Typing, Definition, typing_of}
use Rattle.dk_types.specs.Reads.{output}
use Rattle.pointwise_ir.specs.declared.program.Input.{Input}
use Rattle.pointwise_ir.specs.Programs.{Program, names_of, bodies_of}
use Rattle.pointwise_ir.specs.Programs as P
use Rattle.pointwise_ir.specs.Meaning.{IsPicture, pictures}
use Rattle.pointwise_ir.specs.Meaning as R
use Rattle.dk_inline.specs.Inlined.{Stays}
use Rattle.dk_inline.specs.Answers.{IsInlining}
use Rattle.pointwise_ir.proofs.Pictured.{mapped_entry}
use Rattle.dk_compile.specs.Fronts.{IsForm}
use Rattle.same_pictures.specs.Same.{HaveSamePictures}
use Rattle.body_levels.specs.Levels.{greatest_level}
use Rattle.body_levels.specs.Deep.{IsShallower}
use Rattle.dk_compile.specs.Cuts.{IsRound, output_picture, ShowSamePictures, KeepsPictures, IsInlinedText, IsCutOf}
use Rattle.dk_compile.specs.declared.compiling.PlannedProgram.{PlannedProgram}
use Rattle.dk_compile.specs.Sources.{IsAccepted}
use Rattle.dk_compile.specs.Judged.{HasForm, ShowsFormOf, IsDeepSource}

pub long_inputs : (p : Typing) (ir : Program) → IsForm p ir → length ir.inputs ≡ length p.inputs
long_inputs p ir form = sym (length-map ir.inputs (λ i. i.ty)) ∙ ap length form.inputs ∙ length-map p.inputs (λ i. i.ty)

-- a round of the program is one of its form
pub round_of_form : (p : Typing) (ir : Program) → IsForm p ir → (round : List Picture) → IsRound p round → R.IsRound ir round
round_of_form p ir form round is = record {
  one_each = is.one_each ∙ sym (long_inputs p ir form);
  pictures = λ k input there.
      let at : slice_get (map (λ (i : TypedInput). i.ty) p.inputs) k ≡ Some input.ty =
      ap (λ (ts : List Ty). slice_get ts k) (sym form.inputs)
      ∙ slice_get-map (λ (i : Input). i.ty) ir.inputs k
      ∙ ap (option_map (λ (i : Input). i.ty)) there in
      let (i, found, same) = mapped_entry (λ (i : TypedInput). i.ty) p.inputs k input.ty at in
      subst (λ (s : Size). IsPicture s input.ty (picture_at round k)) (sym form.size)
      (subst (λ (t : Ty). IsPicture p.size t (picture_at round k)) same (is.pictures k i found));
}

round_of_same : (a b : Program) → HaveSamePictures a b → (round : List Picture) → R.IsRound a round → R.IsRound b round
round_of_same a b same round is = record {
  one_each = is.one_each ∙ ap length (sym same.inputs);
  pictures = λ k input there.
      subst (λ (s : Size). IsPicture s input.ty (picture_at round k)) (sym same.size)
      (is.pictures k input (ap (λ (is : List Input). slice_get is k) (sym same.inputs) ∙ there));
}

input_names_of : (p : Typing) (ir : Program) → IsForm p ir → map (λ (i : TypedInput). i.name.text) p.inputs ≡ map (λ (i : Input). i.name) ir.inputs
input_names_of p ir form =
    let typed = map (λ (i : TypedInput). i.name.text) p.inputs in
    let given = map (λ (i : Input). i.name) ir.inputs in
    let long : length typed ≡ length given = length-map p.inputs (λ (i : TypedInput). i.name.text) ∙ sym (long_inputs p ir form) ∙ sym (length-map ir.inputs (λ (i : Input). i.name)) in
    sym (take-append_seam typed (map (λ (d : Definition). d.name.text) p.definitions))
    ∙ ap (take (length typed)) (sym form.names)
    ∙ ap (λ (n : ℕ). take n (names_of ir)) long
    ∙ take-append_seam given (map (λ d. d.name) ir.images)

stays_output : (p : Typing) (ir : Program) → IsForm p ir → (k : ℕ) → k < length p.outputs → Stays p (slice_index p.outputs k)
stays_output p ir form k lt = form.stay (slice_index p.outputs k) (output (Contains-get_or p.outputs k 0 lt))

-- the pictures of an output, by the form
pub by_form : (p : Typing) (ir : Program) → IsForm p ir → (round : List Picture) → R.IsRound ir round → (k : ℕ) → k < length p.outputs → (x y : ℤ) →
    picture_at (pictures ir round) (slice_index ir.outputs k) x y ≡ output_picture p round k x y
by_form p ir form round is k lt x y =
    ap (λ (os : List ℕ). picture_at (pictures ir round) (slice_index os k) x y) form.outputs
    ∙ form.meaning round is (slice_index p.outputs k) (stays_output p ir form k lt) x y

pub same_of_forms : (old new : Typing) (a b : Program) → IsForm old a → IsForm new b → HaveSamePictures a b → ShowSamePictures old new
same_of_forms old new a b of_old of_new same =
    let here : (k : ℕ) → k < length old.outputs → k < length a.outputs = λ k lt. subst (λ (os : List ℕ). k < length os) (sym of_old.outputs) lt in
    let count : length new.outputs ≡ length old.outputs = ap length (sym of_new.outputs) ∙ same.count ∙ ap length of_old.outputs in
    record {
      size = sym of_new.size ∙ same.size ∙ of_old.size;
      input_types = sym of_new.inputs ∙ ap (map (λ (i : Input). i.ty)) same.inputs ∙ of_old.inputs;
      input_names = input_names_of new b of_new ∙ ap (map (λ (i : Input). i.name)) same.inputs ∙ sym (input_names_of old a of_old);
      count = count;
      names = λ k lt.
          ap (λ (ns : List (List ℕ)). slice_get ns (slice_index new.outputs k)) (sym of_new.names)
          ∙ ap (λ (os : List ℕ). slice_get (names_of b) (slice_index os k)) (sym of_new.outputs)
          ∙ same.names k (here k lt)
          ∙ ap (λ (os : List ℕ). slice_get (names_of a) (slice_index os k)) of_old.outputs
          ∙ ap (λ (ns : List (List ℕ)). slice_get ns (slice_index old.outputs k)) of_old.names;
      types = λ k lt.
          ap (λ (ts : List Ty). slice_get ts (slice_index new.outputs k)) (sym of_new.types)
          ∙ ap (λ (os : List ℕ). slice_get (P.types_of b) (slice_index os k)) (sym of_new.outputs)
          ∙ same.types k (here k lt)
          ∙ ap (λ (os : List ℕ). slice_get (P.types_of a) (slice_index os k)) of_old.outputs
          ∙ ap (λ (ts : List Ty). slice_get ts (slice_index old.outputs k)) of_old.types;
      pictures = λ round is k lt x y.
          let of_a = round_of_form old a of_old round is in
          sym (by_form new b of_new round (round_of_same a b same round of_a) k (subst (λ (n : ℕ). k < n) (sym count) lt) x y)
          ∙ sym (same.pictures k (here k lt) round of_a x y)
          ∙ by_form old a of_old round of_a k lt x y;
    }

-- a text whose program has a form that shows the pictures of the source's form
keeps_of : (source text : List ℕ) (p q : Typing) (old : Program) → HasForm source p old → ShowsFormOf old text q → KeepsPictures source text
keeps_of source text p q old has shows = record {
  old = p;
  new = q;
  from = has.accepted.program;
  accepted = shows.has.accepted;
  same = same_of_forms p q old shows.new has.form shows.has.form shows.same;
}

-- the same of a text that is what was judged
pub kept_by : (source text shown : List ℕ) (p q : Typing) (old : Program) → HasForm source p old → ShowsFormOf old shown q → shown ≡ text → KeepsPictures source text
kept_by source text shown p q old has shows same = subst (λ (t : List ℕ). KeepsPictures source t) same (keeps_of source shown p q old has shows)

pub accepted_by : (text shown : List ℕ) (q : Typing) (old : Program) → ShowsFormOf old shown q → shown ≡ text → IsAccepted text q
accepted_by text shown q old shows same = subst (λ (t : List ℕ). IsAccepted t q) same shows.has.accepted

-- a text that is accepted keeps its own pictures
keeps_itself : (source : List ℕ) (p : Typing) → IsAccepted source p → KeepsPictures source source
keeps_itself source p accepted = record {
  old = p;
  new = p;
  from = accepted.program;
  accepted = accepted;
  same = record {
    size = refl;
    input_types = refl;
    input_names = refl;
    count = refl;
    names = λ k lt. refl;
    types = λ k lt. refl;
    pictures = λ round is k lt x y. refl;
  };
}

-- a source that is returned
pub cut_itself : (source text : List ℕ) (p : Typing) (most : ℕ) (form : Program) → IsAccepted source p → text ≡ source → IsInlinedText source form → IsCutOf source most text
cut_itself source text p most form accepted same is = record {
  keeps = subst (λ (t : List ℕ). KeepsPictures source t) (sym same) (keeps_itself source p accepted);
  before = form;
  after = form;
  was = is;
  is = subst (λ (t : List ℕ). IsInlinedText t form) (sym same) is;
  no_deeper = omega (arith);
  stays = λ within. same;
  shallower = inl same;
}

-- a text that is returned in place of a source which has more levels than asked
cut_below : (source text : List ℕ) (most : ℕ) (before after : Program) → KeepsPictures source text → IsInlinedText source before → IsInlinedText text after → most < greatest_level (bodies_of before)
    → greatest_level (bodies_of after) ≤ max most (greatest_level (bodies_of before)) → IsShallower most before after → IsCutOf source most text
cut_below source text most before after keeps was is deep below fewer = record {
  keeps = keeps;
  before = before;
  after = after;
  was = was;
  is = is;
  no_deeper = below;
  stays = λ within. absurd (let no : ⊥ = omega (arith, deep, within) in no);
  shallower = inr fewer;
}

-- a text that improves a source
pub improved_of : (source text : List ℕ) (old : PlannedProgram) (p : Typing) (most : ℕ) (before after : Program) → IsDeepSource source old before most → KeepsPictures source text → IsAccepted text p → IsInlining p after
    → greatest_level (bodies_of after) ≤ max most (greatest_level (bodies_of before)) → IsShallower most before after → IsCutOf source most text × IsInlinedText text after
improved_of source text old p most before after from keeps accepted inlining below fewer =
    let was : IsInlinedText source before = record { program = typing_of old.program; is_text = from.has.accepted.program; inlined = from.inlining } in
    let is : IsInlinedText text after = record { program = p; is_text = accepted.program; inlined = inlining } in
    (cut_below source text most before after keeps was is from.deep below fewer, is)
