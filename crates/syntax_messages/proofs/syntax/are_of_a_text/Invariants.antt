use Rattle.std.proofs.Common.{take}
use Rattle.expected_tokens.specs.Expected.{AreOfAText}
use Rattle.syntax_messages.proofs.syntax.are_of_a_text.Given as goal

abbrev pub invariant-loop-token : goal.invariant-loop-token
invariant-loop-token l = AreOfAText (take l.token-index l.tokens)
