use Rattle.std.proofs.Common.{◌+◌, ◌*◌, ◌<◌, ◌^◌, ℕ, ◌∙◌, sym, subst, refl}
use Rattle.datapath.specs.Nets.{bits_of}
use Rattle.datapath.proofs.Known.{narrow_fits, join_fits, constant_word, two_known}
use Rattle.datapath.proofs.constants.folded_join.Goals as goal

pub join_value-value-requires-clause-fits : goal.join_value-value-requires-clause-fits
join_value-value-requires-clause-fits c = narrow_fits _ _ c.requires.most (join_fits _ c.args.x c.args.y c.args.high c.args.low _ _ c.requires.x c.requires.y c.in_ok-left.ensures c.in_ok-right.ensures)

pub constant-requires-clause-fits : goal.constant-requires-clause-fits
constant-requires-clause-fits c = subst (λ (n : ℕ). n < 2 ^ (c.args.high + c.args.low)) (sym c.join_value-value.ensures) (join_fits _ c.args.x c.args.y c.args.high c.args.low _ _ c.requires.x c.requires.y c.in_ok-left.ensures c.in_ok-right.ensures)

pub returns : goal.returns
returns c = record { word = constant_word _ _ _ _ _ (λ s. bits_of s c.args.x * 2 ^ c.args.low + bits_of s c.args.y) c.constant.ensures.is refl (c.constant.ensures.width _) (λ s. c.join_value-value.ensures ∙ two_known (λ p q. p * 2 ^ c.args.low + q) c.args.x c.args.y _ _ s c.in_ok-left.ensures c.in_ok-right.ensures); made = c.constant.ensures.made _; known = c.constant.ensures.known }
