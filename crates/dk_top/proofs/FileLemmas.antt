-- The created file has the bytes of File.
use Rattle.std.proofs.Common.{◌≡◌, ℕ, Bool, true, false, List, take, Option, None, Some, IfSome, refl, sym, ap, ◌∙◌, subst, cond}
use Rattle.std.specs.Str.{bytes_eq}
use Rattle.std.specs.Bool.{Decides}
use Rattle.std.proofs.lemmas.Slice.Eq.{bytes_eq-Decides}
use Rattle.dk_desk.specs.declared.Stage.TheVariants.{Unasked, Open}
use Rattle.dk_desk.specs.declared.OutSlot.TheVariants.{File}
use Rattle.dk_desk.specs.Outside.{Outside, Created}
use Rattle.dk_desk.specs.Calls.{IsIfTold, AddsToFile, WritesFront, grown, put_file, with_created, with_file, grow_created, grow_file}
use Rattle.dk_top.specs.State.{HoldsFile, HasOwnFile}
use Rattle.dk_top.specs.Meaning.{Files}

-- the file of this name has these bytes, as far as all three are specified
abbrev Holds : Option Files → (name bytes : Option (List ℕ)) → Type 0
Holds files name bytes = IfSome files (λ f. IfSome name (λ n. IfSome bytes (λ b. f n ≡ Some b)))

same_name : (n : List ℕ) → bytes_eq n n ≡ true
same_name n = by (bytes_eq n n) (bytes_eq-Decides n n)
  where
    by : (b : Bool) → Decides b (n ≡ n) → b ≡ true
    by true d = refl
    by false d = absurd (let e : ⊥ = cc (d.1 refl) in e)

holds_created : (before : Option Files) (name bytes : Option (List ℕ)) (mid : Option Files) → IsIfTold mid (put_file before name bytes) → Holds mid name bytes
holds_created before name bytes None made = tt
holds_created before None bytes (Some m) made = tt
holds_created before (Some n) None (Some m) made = tt
holds_created None (Some n) (Some b) (Some m) made = absurd (let e : ⊥ = cc in e)
holds_created (Some f) (Some n) (Some b) (Some m) made =
    let is : with_file f n b ≡ m = cc in
    sym (ap (λ (g : Files). g n) is) ∙ ap (λ t. cond t (Some b) (f n)) (same_name n)

holds_grown : (mid : Option Files) (name bytes : Option (List ℕ)) (w : List ℕ) (after : Option Files) (now : Option (List ℕ)) → Holds mid name bytes → IsIfTold now (grown bytes w) → IsIfTold after (grow_created mid name w) → Holds after name now
holds_grown mid name bytes w None now holds grows files = tt
holds_grown mid None bytes w (Some a) now holds grows files = tt
holds_grown mid (Some n) bytes w (Some a) None holds grows files = tt
holds_grown None (Some n) bytes w (Some a) (Some x) holds grows files = absurd (let e : ⊥ = cc in e)
holds_grown (Some f) (Some n) None w (Some a) (Some x) holds grows files = absurd (let e : ⊥ = cc in e)
holds_grown (Some f) (Some n) (Some b) w (Some a) (Some x) holds grows files =
    let is : grow_file f n w ≡ a = cc in
    sym (ap (λ (g : Files). g n) is) ∙ (ap (λ t. cond t (grown (f n) w) (f n)) (same_name n) ∙ (ap (λ o. grown o w) holds ∙ grows))

-- a file that was created is empty, as File is
pub own_created : (old mid : Outside) → IsIfTold mid.files (with_created old.files mid.file) → HoldsFile mid
own_created old mid made = holds_created old.files mid.file.name mid.file.bytes mid.files made

-- it gains what File gains
pub own_grown : (mid new : Outside) (w : List ℕ) → HoldsFile mid → new.file.name ≡ mid.file.name → IsIfTold new.file.bytes (grown mid.file.bytes w) → IsIfTold new.files (grow_created mid.files mid.file.name w) → HoldsFile new
own_grown mid new w holds named grows files =
    subst (λ n. Holds new.files n new.file.bytes) (sym named) (holds_grown mid.files mid.file.name mid.file.bytes w new.files new.file.bytes holds grows files)

pub own_added : (mid new : Outside) (w : List ℕ) → HoldsFile mid → AddsToFile mid w new → HoldsFile new
own_added mid new w holds adds = own_grown mid new w holds (ap (λ (o : Outside). o.file.name) adds.only) adds.grows adds.files

-- and the first of it where a write failed
pub own_front : (mid new : Outside) (bytes : List ℕ) → HoldsFile mid → WritesFront File mid bytes new → HoldsFile new
own_front mid new bytes holds front =
    let adds : AddsToFile mid (take front.count bytes) (record new { output_failures = mid.output_failures }) = front.adds in
    own_grown mid new (take front.count bytes) holds (ap (λ (o : Outside). o.file.name) adds.only) adds.grows adds.files

-- nothing is stated of a file that was not created
pub own_unasked : (new : Outside) → new.file.stage ≡ Unasked → HasOwnFile new
own_unasked new unasked = λ opened. absurd (let e : Unasked ≡ Open = sym unasked ∙ opened in let f : ⊥ = cc in f)

-- File and the files stay
pub own_stays : (mid new : Outside) → new.files ≡ mid.files → new.file ≡ mid.file → HasOwnFile mid → HasOwnFile new
own_stays mid new files file own = λ opened.
    subst (λ (c : Created). Holds new.files c.name c.bytes) (sym file)
    (subst (λ fs. Holds fs mid.file.name mid.file.bytes) (sym files) (own (sym (ap (λ (c : Created). c.stage) file) ∙ opened)))
