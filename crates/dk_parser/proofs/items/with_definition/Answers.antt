use Rattle.std.proofs.Common.{refl}
use Rattle.dk_parser.proofs.Keeping as Q
use Rattle.dk_parser.proofs.items.with_definition.Goals as goal

pub returns-in-Some : goal.returns-in-Some
returns-in-Some c =
    λ vs d h i. Q.still_deep c.args.parts vs d _ h c.in-Some.is

pub returns-in_ok-push-in-Ok : goal.returns-in_ok-push-in-Ok
returns-in_ok-push-in-Ok c =
    λ vs d h i. let e = c.in-Ok.ensures d.body i.body in Q.more_definition c.args.parts _ vs c.args.draft d _ h c.in-None.is i refl refl refl e.0 e.1 refl c.in_ok-push-in-Ok.ensures.items refl refl

pub returns-in-Err : goal.returns-in-Err
returns-in-Err c =
    λ vs d h i. Q.now_deep c.args.parts _ vs d _ h c.in-None.is (c.in-Err.ensures d.body i.body) refl refl refl
