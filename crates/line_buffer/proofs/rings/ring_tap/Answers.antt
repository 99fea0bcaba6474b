use Rattle.line_buffer.proofs.Tapping.{taps_none}
use Rattle.line_buffer.proofs.rings.ring_tap.Goals as goal

pub returns-then-age-eq0-clause-taps : goal.returns-then-age-eq0-clause-taps
returns-then-age-eq0-clause-taps c = taps_none c.args.b.now c.args.ring.line.array

pub returns-then-age-ring-clause-taps : goal.returns-then-age-ring-clause-taps
returns-then-age-ring-clause-taps c = taps_none c.args.b.now c.args.ring.line.array
