use Rattle.std.proofs.Common.{refl, ap, arith}
use Rattle.datapath.specs.Levels.{edge_levels}
use Rattle.datapath.proofs.Leafless.{unclamped}
use Rattle.datapath.proofs.Growth.{grows_itself}
use Rattle.datapath.proofs.Walked.{gate_carries, clamped_carries}
use Rattle.datapath.proofs.ExpressionParts.{leaves_gate, leaves_clamp}
use Rattle.datapath.proofs.lowering.shifted.Goals as goal

pub returns-in_ok-gate-in-Zero-clause-value : goal.returns-in_ok-gate-in-Zero-clause-value
returns-in_ok-gate-in-Zero-clause-value c = gate_carries c.args.b.now _ c.args.x _ _ c.args.edge c.args.bits.now c.args.k c.in-Zero.is c.bit_at.ensures c.in_ok-gate-in-Zero.ensures.value

pub returns-in_ok-gate-in-Zero-clause-made : goal.returns-in_ok-gate-in-Zero-clause-made
returns-in_ok-gate-in-Zero-clause-made c reads levels h = leaves_gate _ levels c.args.k _ (ap edge_levels c.in-Zero.is) c.bit_at.ensures c.in_ok-gate-in-Zero.ensures.grows.includes c.in_ok-gate-in-Zero.ensures.made h

pub returns-in-Clamp-clause-value : goal.returns-in-Clamp-clause-value
returns-in-Clamp-clause-value c = clamped_carries _ c.args.x c.args.edge c.args.bits.now c.args.k c.in-Clamp.is c.requires.x

pub returns-in-Clamp-clause-grows : goal.returns-in-Clamp-clause-grows
returns-in-Clamp-clause-grows c = grows_itself _

pub returns-in-Clamp-clause-made : goal.returns-in-Clamp-clause-made
returns-in-Clamp-clause-made c reads levels h = leaves_clamp (omega arith) h

pub gated-requires-clause-bit : goal.gated-requires-clause-bit
gated-requires-clause-bit c = c.requires.one_bit c.args.k _ c.bit_at.ensures

pub returns-in_ok-gate-in-Zero-clause-folds : goal.returns-in_ok-gate-in-Zero-clause-folds
returns-in_ok-gate-in-Zero-clause-folds c none = absurd (unclamped c.in-Zero.is none)

pub returns-in-Clamp-clause-folds : goal.returns-in-Clamp-clause-folds
returns-in-Clamp-clause-folds c none h = (h.0, refl)

pub returns-in_ok-gate-in-Zero-clause-grows : goal.returns-in_ok-gate-in-Zero-clause-grows
returns-in_ok-gate-in-Zero-clause-grows c = c.in_ok-gate-in-Zero.ensures.grows

pub returns-in_err-gate-in-Zero-clause-grows : goal.returns-in_err-gate-in-Zero-clause-grows
returns-in_err-gate-in-Zero-clause-grows c = c.in_err-gate-in-Zero.ensures
