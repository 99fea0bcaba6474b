use Rattle.std.proofs.Common.{arith}
use Rattle.edge_select.proofs.Earlier.{before_inner, before_whole, before_around}
use Rattle.edge_select.proofs.bands.before.Goals as goal

pub returns-then-band-gt0-clause-before : goal.returns-then-band-gt0-clause-before
returns-then-band-gt0-clause-before c x low = before_inner c.args.side c.args.band x c.requires.band low (omega (arith, c.if-band-gt0.true))

pub returns-then-band-side-clause-before : goal.returns-then-band-side-clause-before
returns-then-band-side-clause-before c x low = before_whole c.args.side c.args.band x c.requires.band low (omega (arith, c.if-band-gt0.false)) (omega (arith, c.if-band-side.true))

pub returns-clause-before : goal.returns-clause-before
returns-clause-before c x low = before_around c.args.side c.args.band x c.requires.band low (omega (arith, c.if-band-gt0.false)) (omega (arith, c.if-band-side.false, c.requires.band.last))
