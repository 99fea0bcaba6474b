use Rattle.std.proofs.Common.{◌∙◌}
use Rattle.wiring.specs.Rights.{operator_value}
use Rattle.datapath.specs.Nets.{bits_of}
use Rattle.datapath.proofs.Known.{known_wide, result_fits, constant_word, two_known}
use Rattle.datapath.proofs.constants.folded.Goals as goal

pub operator_value-value-requires-clause-narrow : goal.operator_value-value-requires-clause-narrow
operator_value-value-requires-clause-narrow c = (known_wide _ c.args.x _ _ c.requires.x c.in_ok-left.ensures).1

pub constant-requires-clause-fits : goal.constant-requires-clause-fits
constant-requires-clause-fits c = result_fits _ c.args.operator c.args.x c.args.y _ _ _ _ _ c.requires.x c.requires.y c.in_ok-left.ensures c.in_ok-right.ensures c.evaluated_width.ensures c.operator_value-value.ensures

pub returns : goal.returns
returns c =
    let o = c.args.operator in
    let w = c.args.width in
    record { word = constant_word _ _ _ _ _ (λ s. operator_value o w (bits_of s c.args.x) (bits_of s c.args.y)) c.constant.ensures.is c.evaluated_width.ensures (c.constant.ensures.width _) (λ s. c.operator_value-value.ensures ∙ two_known (λ p q. operator_value o w p q) c.args.x c.args.y _ _ s c.in_ok-left.ensures c.in_ok-right.ensures); made = c.constant.ensures.made _; known = c.constant.ensures.known }
