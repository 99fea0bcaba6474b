use Rattle.std.proofs.Common.{◌≡◌, ◌-◌, ◌^◌, ◌∙◌, arith, refl}
use Rattle.datapath.specs.Nets.{bits_of}
use Rattle.datapath.proofs.Known.{known_fits, constant_word, one_known}
use Rattle.datapath.proofs.constants.folded_not.Goals as goal

pub overflow_sub-value : goal.overflow_sub-value
overflow_sub-value c = omega (arith, known_fits _ c.args.x _ _ c.requires.x c.in_ok-bits.ensures, c.all_ones.ensures)

pub returns : goal.returns
returns c =
    let is : c.all_ones.result - c.in_ok-bits.bits ≡ 2 ^ c.args.width - 1 - c.in_ok-bits.bits = omega (arith, c.all_ones.ensures) in
    record {
      word = constant_word _ _ _ _ _ (λ s. 2 ^ c.args.width - 1 - bits_of s c.args.x) c.constant.ensures.is refl (c.constant.ensures.width _) (λ s. is ∙ one_known (λ p. 2 ^ c.args.width - 1 - p) c.args.x _ s c.in_ok-bits.ensures);
      made = c.constant.ensures.made _;
      known = c.constant.ensures.known;
    }
