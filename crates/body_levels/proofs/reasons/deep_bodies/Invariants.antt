use Rattle.std.proofs.Common.{◌≡◌, map, take}
use Rattle.std.specs.Prelude.{filter}
use Rattle.body_levels.specs.Deep.{is_deep}
use Rattle.body_levels.specs.Reasons.{deep_body}
use Rattle.body_levels.proofs.reasons.deep_bodies.Given as goal

-- those among the images before
abbrev pub invariant-loop-k : goal.invariant-loop-k
invariant-loop-k l = record {
  before : l.deep.items ≡ map (deep_body l.most l.program) (filter (is_deep l.most) (take l.k l.program.images));
}
