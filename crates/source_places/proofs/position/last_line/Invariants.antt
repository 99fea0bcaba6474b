use Rattle.std.proofs.Common.{◌≡◌, ◌++◌, take, drop}
use Rattle.source_places.specs.Places.{last_line as the_last_line}
use Rattle.source_places.proofs.position.last_line.Given as goal

abbrev pub invariant-loop-k : goal.invariant-loop-k
invariant-loop-k l = l.line ≡ the_last_line (take l.k l.text) ++ drop l.k l.text
