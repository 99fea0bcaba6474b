use Rattle.std.proofs.Common.{◌<◌, ◌^◌, ℕ, ◌∙◌, sym, subst, refl}
use Rattle.wiring.specs.Rights.{repeated}
use Rattle.datapath.specs.Nets.{bits_of}
use Rattle.datapath.proofs.Known.{known_fits, repeat_fits, constant_word, one_known}
use Rattle.datapath.proofs.constants.folded_repeat.Goals as goal

pub copies-value-requires-clause-bit : goal.copies-value-requires-clause-bit
copies-value-requires-clause-bit c = known_fits _ c.args.x 1 _ c.requires.x c.in_ok-bit.ensures

pub constant-requires-clause-fits : goal.constant-requires-clause-fits
constant-requires-clause-fits c = subst (λ (n : ℕ). n < 2 ^ c.args.count) (sym c.copies-value.ensures) (repeat_fits _ c.args.x c.args.count _ c.requires.x c.in_ok-bit.ensures)

pub returns : goal.returns
returns c = record { word = constant_word _ _ _ _ _ (λ s. repeated c.args.count 1 (bits_of s c.args.x)) c.constant.ensures.is refl (c.constant.ensures.width _) (λ s. c.copies-value.ensures ∙ one_known (λ p. repeated c.args.count 1 p) c.args.x _ s c.in_ok-bit.ensures); made = c.constant.ensures.made _; known = c.constant.ensures.known }
