use Rattle.std.proofs.Common.{ap}
use Rattle.datapath.specs.Nets.{bits_of}
use Rattle.datapath.proofs.Gates.{gated_carries}
use Rattle.datapath.proofs.Over.{then_three, nothing_over, first_over, second_over}
use Rattle.datapath.proofs.Composed.{type_is}
use Rattle.datapath.proofs.Growth.{has_width_of}
use Rattle.datapath.proofs.apply.gated.Goals as goal

pub returns : goal.returns
returns c = record {
  grows = c.in_ok-bits.ensures.grows;
  value = gated_carries _ _ c.args.x c.args.bit c.constant-nothing.result _ _ c.width-width.ensures c.requires.x c.in_ok-bits.ensures.grows.includes (λ s. ap (bits_of s) c.constant-nothing.ensures.is) c.in_ok-bits.ensures.word;
  made = then_three 0 c.in_ok-bits.ensures.made first_over second_over (nothing_over (c.constant-nothing.ensures.made _));
  folds = λ h. absurd h.0;
}

pub constant-nothing-requires-clause-width : goal.constant-nothing-requires-clause-width
constant-nothing-requires-clause-width c = type_is _ _ c.width-width.ensures c.requires.x.ty

pub choose-requires : goal.choose-requires
choose-requires c = record { width = type_is _ _ c.width-width.ensures c.requires.x.ty; c = c.requires.bit; x = has_width_of c.width-width.ensures c.requires.x.width; y = c.constant-nothing.ensures.width _ }
