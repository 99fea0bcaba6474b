use Rattle.dk_types.specs.Typed.{typing_of, typed_of}
use Rattle.same_phases.proofs.Played.{frame_plays}
use Rattle.same_phases.proofs.images.is_frame_test.Goals as goal

pub returns-in-Some : goal.returns-in-Some
returns-in-Some c = λ yes.
    frame_plays c.args.phases (typing_of c.args.old.now) (typing_of c.args.new.now) c.requires.split c.law.ensures c.args.h
    (typed_of c.in-Some.body.now) c.in-Some.ensures c.in-Some.body.now.ty (c.is_number.ensures yes)
