use Rattle.std.proofs.Common.{sym, ◌∙◌}
use Rattle.wiring.proofs.Same.{same_right}
use Rattle.array_packing.proofs.check.same_right.Goals as goal

pub returns : goal.returns
returns c h = same_right c.args.a.now c.args.b.now (sym c.eq.ensures ∙ h)
