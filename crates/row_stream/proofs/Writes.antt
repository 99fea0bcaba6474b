-- Writes to File, and what they add to a stream.
use Rattle.std.proofs.Common.{◌≡◌, ℕ, ◌+◌, List, ◌++◌, length, take, ap, sym, subst, ◌∙◌, arith, length-append, Bool}
use Rattle.std.proofs.lemmas.List.{take-append-le}
use Rattle.std.proofs.Math.Seq.{take-append-add}
use Rattle.dk_desk.specs.declared.OutSlot.TheVariants.{File}
use Rattle.dk_desk.specs.Outside.{Outside}
use Rattle.dk_desk.specs.Calls.{AddsToFile, WritesFront}
use Rattle.dk_desk.proofs.DeskLemmas.{Adds-more, told-grown, told-grow_created}
use Rattle.row_stream.specs.Moving.{Gains, GainsBut}

pub front_first : (a c : Outside) (x y : List ℕ) → WritesFront File a x c → WritesFront File a (x ++ y) c
front_first a c x y h = record {
  count = h.count;
  within = omega (arith, h.within, length-append x y);
  adds = subst (λ z. AddsToFile a z (record c { output_failures = a.output_failures })) (sym (take-append-le h.count x y (omega (arith, h.within)))) h.adds;
}

pub front_second : (a b c : Outside) (x y : List ℕ) → AddsToFile a x b → WritesFront File b y c → WritesFront File a (x ++ y) c
front_second a b c x y first h = record {
  count = length x + h.count;
  within = omega (arith, h.within, length-append x y);
  adds =
      let same : b.output_failures ≡ a.output_failures = ap (λ (o : Outside). o.output_failures) first.only in
      subst (λ z. AddsToFile a z (record c { output_failures = a.output_failures })) (sym (take-append-add x y h.count))
      (subst (λ n. AddsToFile a (x ++ take h.count y) (record c { output_failures = n })) same
      (Adds-more File a b (record c { output_failures = b.output_failures }) x (take h.count y) first h.adds));
}

-- bytes that are added to File
pub gains_add : (start now next : Outside) (w x : List ℕ) (notes : List (Bool × ℕ)) → Gains start w notes now → AddsToFile now x next → Gains start (w ++ x) notes next
gains_add start now next w x notes h a = record {
  only = a.only ∙ ap (λ (o : Outside). record o { file = record o.file { bytes = next.file.bytes }; files = next.files }) h.only
      ∙ ap (λ (o : Outside). record start { image = record start.image { rest = o.image.rest }; file = record start.file { bytes = next.file.bytes }; files = next.files; notes = o.notes }) (sym a.only);
  grows = told-grown start.file.bytes now.file.bytes next.file.bytes w x h.grows a.grows;
  files = told-grow_created start.files now.files next.files start.file.name w x h.files
      (let same : now.file.name ≡ start.file.name = ap (λ (o : Outside). o.file.name) h.only in subst (λ z. Rattle.dk_desk.specs.Calls.IsIfTold next.files (Rattle.dk_desk.specs.Calls.grow_created now.files z x)) same a.files);
  told = subst (λ z. Rattle.dk_desk.specs.Calls.IsIfTold z (Rattle.std.specs.Option.option_map (λ before. before ++ notes) start.notes)) (sym (ap (λ (o : Outside). o.notes) a.only)) h.told;
}

-- the same where a write failed after some of them
pub gains_front : (start now next : Outside) (w x : List ℕ) (notes : List (Bool × ℕ)) → Gains start w notes now → (h : WritesFront File now x next) → GainsBut start (w ++ take h.count x) notes next
gains_front start now next w x notes g h =
    let output : now.output_failures ≡ start.output_failures = ap (λ (o : Outside). o.output_failures) g.only in
    let input : next.input_failures ≡ start.input_failures = ap (λ (o : Outside). o.input_failures) h.adds.only ∙ ap (λ (o : Outside). o.input_failures) g.only in
    subst (λ i. Gains start (w ++ take h.count x) notes (record next { input_failures = i; output_failures = start.output_failures })) input
    (subst (λ n. Gains start (w ++ take h.count x) notes (record next { output_failures = n })) output
    (gains_add start now (record next { output_failures = now.output_failures }) w (take h.count x) notes g h.adds))
