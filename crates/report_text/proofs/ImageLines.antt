-- Image lines: what is read is written so, and what is written so is read.
use Rattle.std.proofs.Common.{◌≡◌, ◌<◌, ◌≤◌, ◌^◌, ◌∙◌, ℕ, suc, List, ◌++◌, codes, refl, ap, subst, arith, true, decimal}
use Rattle.std.specs.Prelude.{Option, Some, None, nat_lt, ◌&&◌, if◌then◌else◌}
use Rattle.std.proofs.lemmas.Bool.{ltb-true, lt-ltb, and_parts, and_from}
use Rattle.report_text.specs.declared.report.ImageLine.{ImageLine}
use Rattle.source_words.specs.Words.{is_name}
use Rattle.report_text.specs.Layout.{image_line}
use Rattle.report_text.specs.Reports.{IsImageLine}
use Rattle.report_text.specs.Reading.{◌>>=◌, strip, number_at, pair_line_at, word_at, within, image_at}
use Rattle.report_text.proofs.Options.{bind_some, if_some}
use Rattle.report_text.proofs.Fields.{strip_takes, number_again, number_takes, pair_again, pair_takes}
use Rattle.report_text.proofs.Words.{name_passes, word_first, word_second, word_takes}

-- a number of the range 1 to most
pub within_is : (most n : ℕ) → within most n ≡ true → (1 ≤ n) × (n ≤ most)
within_is most n e =
    let p = and_parts (nat_lt 0 n) (nat_lt n (suc most)) e in
    let low = ltb-true 0 n p.0 in
    let high = ltb-true n (suc most) p.1 in
    (omega arith, omega arith)

pub is_within : (most n : ℕ) → 1 ≤ n → n ≤ most → within most n ≡ true
is_within most n low high = and_from (nat_lt 0 n) (nat_lt n (suc most)) (lt-ltb 0 n (omega arith)) (lt-ltb n (suc most) (omega arith))

-- the parts of an image line, one after another
abbrev image_of : List ℕ → ℕ → ℕ × ℕ → ImageLine
image_of name width rows = record { name = name; width = width; delay = rows.0; depth = rows.1 }

abbrev judged : List ℕ → ℕ → ℕ × ℕ → Option ImageLine
judged name width rows = if is_name name && within 64 width then Some (image_of name width rows) else None

abbrev behind_width : List ℕ → ℕ × List ℕ → Option ImageLine
behind_width name bits = pair_line_at (codes " ") bits.1 >>= λ rows. judged name bits.0 rows

abbrev behind_name : List ℕ → List ℕ → Option ImageLine
behind_name name after = number_at after >>= λ bits. behind_width name bits

abbrev behind_word : List ℕ → Option ImageLine
behind_word rest = strip (codes " ") (word_at rest).1 >>= λ after. behind_name (word_at rest).0 after

judged_is : (name : List ℕ) (width : ℕ) (rows : ℕ × ℕ) → (is_name name && within 64 width) ≡ true → rows.0 < 2 ^ 64 → rows.1 < 2 ^ 64 → IsImageLine (image_of name width rows)
judged_is name width rows e delay depth =
    let p = and_parts (is_name name) (within 64 width) e in
    let w = within_is 64 width p.1 in
    record { name = p.0; some_bits = w.0; most_bits = w.1; delay = delay; depth = depth }

pub image_takes : (line : List ℕ) (i : ImageLine) → image_at line ≡ Some i → (line ≡ image_line i) × IsImageLine i
unfolding image_at
image_takes line i e =
    let a = bind_some (strip (codes "image ") line) (λ rest. behind_word rest) i e in
    let b = bind_some (strip (codes " ") (word_at a.0).1) (λ after. behind_name (word_at a.0).0 after) i a.2 in
    let c = bind_some (number_at b.0) (λ bits. behind_width (word_at a.0).0 bits) i b.2 in
    let d = bind_some (pair_line_at (codes " ") c.0.1) (λ rows. judged (word_at a.0).0 c.0.0 rows) i c.2 in
    let j = if_some (is_name (word_at a.0).0 && within 64 c.0.0) (image_of (word_at a.0).0 c.0.0 d.0) i d.2 in
    let n = number_takes b.0 c.0.1 c.0.0 c.1 in
    let r = pair_takes (codes " ") c.0.1 d.0.0 d.0.1 d.1 in
    let whole : line ≡ image_line (image_of (word_at a.0).0 c.0.0 d.0) =
    strip_takes (codes "image ") line a.0 a.1 ∙ ap (λ x. codes "image " ++ x) (word_takes a.0 ∙ ap (λ x. (word_at a.0).0 ++ x) (strip_takes (codes " ") (word_at a.0).1 b.0 b.1 ∙ ap (λ x. codes " " ++ x) (n.0 ∙ ap (λ x. decimal c.0.0 ++ x) r.0))) in
    subst (λ x. (line ≡ image_line x) × IsImageLine x) j.1 (whole, judged_is (word_at a.0).0 c.0.0 d.0 j.0 r.1 r.2)

pub image_again : (i : ImageLine) → IsImageLine i → image_at (image_line i) ≡ Some i
unfolding image_at
image_again i h =
    let rows = codes " " ++ (decimal i.delay ++ (codes " " ++ (decimal i.depth ++ codes "\n"))) in
    let rest = codes " " ++ (decimal i.width ++ rows) in
    let small : i.width < 2 ^ 64 = let m = h.most_bits in omega arith in
    rw (word_first i.name rest (name_passes i.name h.name) refl, word_second i.name rest (name_passes i.name h.name) refl, number_again i.width rows small refl, pair_again (codes " ") i.delay i.depth h.delay h.depth, h.name, is_within 64 i.width h.some_bits h.most_bits) refl
