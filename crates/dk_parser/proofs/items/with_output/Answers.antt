use Rattle.std.proofs.Common.{refl}
use Rattle.dk_parser.proofs.Keeping as Q
use Rattle.dk_parser.proofs.items.with_output.Goals as goal

pub returns : goal.returns
returns c =
    λ vs h. Q.more_output c.args.parts _ vs c.args.output h refl refl c.in_ok-push.ensures.items refl
