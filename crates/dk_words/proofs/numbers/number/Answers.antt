use Rattle.std.proofs.Common.{◌≡◌, ℕ, Option, IfSome, Some, true, sym, ap, subst, ◌∙◌}
use Rattle.std.specs.List.{list_all}
use Rattle.dk_words.specs.Numbers as numbers
use Rattle.dk_words.proofs.NumberLemmas.{reads_some, reads_none}
use Rattle.dk_words.proofs.numbers.number.Goals as goal

pub returns-clause-some : goal.returns-clause-some
returns-clause-some c =
    let bytes = c.as_bytes-bytes.ensures.value in
    let d : list_all numbers.is_digit c.args.word.now ≡ true = ap (list_all numbers.is_digit) (sym bytes) ∙ sym c.if-not-are_digits.ensures in
    let P : Option ℕ → Type 0 = λ o. IfSome o (λ n. numbers.number_of c.args.word.now ≡ Some n) in
    subst P (sym c.ok.ensures.value) (reads_some c.args.word.now c.parse.result d c.parse.ensures.value.0)

pub returns-clause-none : goal.returns-clause-none
returns-clause-none c =
    let bytes = c.as_bytes-bytes.ensures.value in
    let d : list_all numbers.is_digit c.args.word.now ≡ true = ap (list_all numbers.is_digit) (sym bytes) ∙ sym c.if-not-are_digits.ensures in
    λ none. reads_none c.args.word.now c.parse.result d c.parse.ensures.value.0 (sym c.ok.ensures.value ∙ none)
