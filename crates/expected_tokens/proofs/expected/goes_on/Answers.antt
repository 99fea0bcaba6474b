use Rattle.std.proofs.Common.{rules}
use Rattle.expected_tokens.proofs.Tried.{accepted, deep, faulty_behind, faulty_before, nested}
use Rattle.expected_tokens.proofs.expected.goes_on.Goals.{in-Ok, in-Err-Depth, in-Err-Nest, in-Err-Syntax+else-eq, in-Err-OutOfMemory}
use Rattle.expected_tokens.proofs.expected.goes_on.Goals as goal

pub returns-then-eq : goal.returns-then-eq
returns-then-eq c = faulty_behind c.args.tokens.now _ c.in-Err-Syntax.span c.in-Err-Syntax.field-0-is (search rules) c.in-Err-Syntax.ensures.judged

pub returns : goal.returns
returns c = elim c.match-parse.branch [
  | in-Ok w ↦ rw w.result-is (accepted c.args.tokens.now _ w.in-Ok.ensures.judged)
  | in-Err-Depth w ↦ rw w.result-is (deep c.args.tokens.now _ _ w.in-Err-Depth.field-0-is w.in-Err-Depth.ensures.judged)
  | in-Err-Nest w ↦ rw w.result-is (nested c.args.tokens.now _ _ w.in-Err-Nest.field-0-is w.in-Err-Nest.ensures.judged)
  | in-Err-Syntax+else-eq w ↦ rw w.result-is (faulty_before c.args.tokens.now _ w.in-Err-Syntax.span w.in-Err-Syntax.field-0-is (search rules) w.in-Err-Syntax.ensures.judged)
  | in-Err-OutOfMemory w ↦ rw w.result-is tt
]
