-- Names at the front of bytes, and their places among image lines.
use Rattle.std.proofs.Common.{◌≡◌, ◌<◌, ◌∙◌, ℕ, List, [], ◌∷◌, ◌++◌, length, take, get_or, codes, refl, ap, sym, subst, arith, Bool, true, false}
use Rattle.std.specs.Prelude.{Some, nat_lt, ◌&&◌}
use Rattle.std.specs.List.{prefix_len}
use Rattle.std.proofs.lemmas.Bool.{eqb-true, ltb-true, lt-ltb, and_parts, false_from_ne_true}
use Rattle.std.proofs.lemmas.List.{take-append-drop, take_at, drop_at, take_all, get_or-map, length-map}
use Rattle.std.proofs.lemmas.List.Sums.{passes_at_first, position_or_len_is}
use Rattle.report_text.specs.declared.report.ImageLine.{ImageLine}
use Rattle.dk_base.specs.Ascii.{is_letter, is_word_byte}
use Rattle.source_words.specs.Words.{is_word, is_name}
use Rattle.std.specs.Str.{bytes_eq}
use Rattle.std.proofs.lemmas.Slice.Eq.{bytes_eq-Decides}
use Rattle.report_text.specs.Layout.{name_at}
use Rattle.report_text.specs.Reports.{AreDistinct, names_of}
use Rattle.report_text.specs.Reading.{word_at, place_of, find}
use Rattle.report_text.proofs.Options.{if_some}
use Rattle.report_text.proofs.Fields.{Passes, Stops, span_again, passes_front}

-- the image line that a report without one is given
abbrev pub some_image : ImageLine
some_image = record { name = codes "a"; width = 1; delay = 0; depth = 0 }

-- the same bytes
pub same_is : (a b : List ℕ) → bytes_eq a b ≡ true → a ≡ b
same_is a b e = (bytes_eq-Decides a b).0 e

pub same_self : (a : List ℕ) → bytes_eq a a ≡ true
same_self a = (bytes_eq-Decides a a).1 refl

pub same_not : (a b : List ℕ) → (a ≡ b → ⊥) → bytes_eq a b ≡ false
same_not a b h = false_from_ne_true (bytes_eq a b) (λ e. h (same_is a b e))

-- a word is of letters, digits and `_`
pub all_pass : (p : ℕ → Bool) (xs : List ℕ) → prefix_len p xs ≡ length xs → Passes p xs
all_pass p xs e = subst (λ x. Passes p x) (ap (λ n. take n xs) e ∙ take_all (length xs) xs (omega arith)) (passes_front p xs)

letter_byte : (b : ℕ) → is_letter b ≡ true → is_word_byte b ≡ true
letter_byte b e = rw e refl

word_passes : (bytes : List ℕ) → is_word bytes ≡ true → Passes is_word_byte bytes
word_passes [] e = tt
word_passes (b ∷ bytes) e = let p = and_parts _ _ e in (letter_byte b p.0, all_pass is_word_byte bytes (eqb-true _ _ p.1))

first_part : (a b c d : Bool) → (a && b && c && d) ≡ true → a ≡ true
first_part true b c d h = refl
first_part false b c d h = absurd (cc (ands b c d, h))
  where
    ands : (b c d : Bool) → (false && b && c && d) ≡ false
    ands b c d = refl

pub name_passes : (bytes : List ℕ) → is_name bytes ≡ true → Passes is_word_byte bytes
name_passes bytes e =
    word_passes bytes (first_part _ _ _ _ e)

pub word_first : (name rest : List ℕ) → Passes is_word_byte name → Stops is_word_byte rest → (word_at (name ++ rest)).0 ≡ name
word_first name rest a s = rw (span_again is_word_byte name rest a s, take_at name rest (length name) refl) refl

pub word_second : (name rest : List ℕ) → Passes is_word_byte name → Stops is_word_byte rest → (word_at (name ++ rest)).1 ≡ rest
word_second name rest a s = rw (span_again is_word_byte name rest a s, drop_at name rest (length name) refl) refl

pub word_takes : (bytes : List ℕ) → bytes ≡ (word_at bytes).0 ++ (word_at bytes).1
word_takes bytes = sym (take-append-drop (prefix_len is_word_byte bytes) bytes)

-- the image line of a name
pub name_at_is : (images : List ImageLine) (k : ℕ) → k < length images → name_at images k ≡ (get_or images k some_image).name
name_at_is images k h = get_or-map (λ i. i.name) images k some_image [] h

pub find_takes : (images : List ImageLine) (name : List ℕ) (g : ℕ) → find images name ≡ Some g → (g < length images) × (name ≡ name_at images g)
find_takes images name g e =
    let i = if_some (nat_lt (place_of images name) (length images)) (place_of images name) g e in
    let h = ltb-true _ _ i.0 in
    let s = same_is _ _ (passes_at_first (λ i. bytes_eq i.name name) images some_image h) in
    (subst (λ x. x < length images) i.1 h, sym (ap (λ x. name_at images x) (sym i.1) ∙ name_at_is images (place_of images name) h ∙ s))

pub find_again : (images : List ImageLine) (g : ℕ) → g < length images → AreDistinct (names_of images) → find images (name_at images g) ≡ Some g
find_again images g h d =
    let many : length (names_of images) ≡ length images = length-map images (λ i. i.name) in
    let before : (k : ℕ) → k < g → bytes_eq (get_or images k some_image).name (name_at images g) ≡ false = λ k less. same_not _ _ (λ e. d k g less (omega arith) (name_at_is images k (omega arith) ∙ e)) in
    let there : g < length images → bytes_eq (get_or images g some_image).name (name_at images g) ≡ true = λ less. subst (λ x. bytes_eq (get_or images g some_image).name x ≡ true) (sym (name_at_is images g h)) (same_self (get_or images g some_image).name) in
    let p : place_of images (name_at images g) ≡ g = position_or_len_is (λ i. bytes_eq i.name (name_at images g)) images g some_image (omega arith) before there in
    rw (p, lt-ltb g (length images) h) refl
