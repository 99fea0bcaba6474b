use Rattle.std.proofs.Common.{refl}
use Rattle.dk_parser.proofs.Keeping as Q
use Rattle.dk_parser.proofs.items.with_input.Goals as goal

pub returns : goal.returns
returns c =
    λ vs h. Q.more_input c.args.parts _ vs c.args.input h c.in_ok-push.ensures.items refl refl refl
