use Rattle.std.proofs.Common.{◌≡◌, take}
use Rattle.expected_tokens.specs.Expected.{AreThose, CanFollow}
use Rattle.expected_tokens.proofs.expected.those_of.Given as goal

abbrev pub invariant-loop-class : goal.invariant-loop-class
invariant-loop-class l = record {
  same : l.tokens.items ≡ l.fn.tokens.items;
  those : AreThose (CanFollow l.fn.tokens.items) (take l.class-index l.classes) l.found.items;
}
