use Rattle.std.proofs.Common.{◌≡◌, ◌∙◌, ap, List, ℕ, Bor, false, get_or, arith}
use Rattle.std.proofs.lemmas.Bool.Decides.{nat_tests}
use Rattle.source_places.specs.Places.{is_line_end}
use Rattle.source_places.proofs.Lines.{at_line_end, within_line}
use Rattle.source_places.proofs.position.last_line.Goals.{then-byte-eq10, else-byte-eq10}
use Rattle.source_places.proofs.position.last_line.Goals as goal

pub loop-k-preserved : goal.loop-k-preserved
loop-k-preserved c = elim c.if-byte-eq10.branch [
  | then-byte-eq10 w ↦
      ap (λ (l : Bor (List ℕ)). l.now) w.line-is ∙ (w.split_at.ensures.back ∙ at_line_end c.args.text.now c.loop-k.k c.loop-k-test.true w.if-byte-eq10.true)
  | else-byte-eq10 w ↦
      let other : is_line_end (get_or c.args.text.now c.loop-k.k 0) ≡ false = grind (arith, nat_tests, w.if-byte-eq10.false) in
      ap (λ (l : Bor (List ℕ)). l.now) w.line-is ∙ within_line c.args.text.now c.loop-k.line.now c.loop-k.k c.loop-k-test.true other c.loop-k.invariant
]
