use Rattle.dk_types.specs.Typed.{typing_of, typed_of}
use Rattle.same_phases.proofs.Played.{column_of_plays}
use Rattle.same_phases.proofs.images.column_of.Goals as goal

pub returns : goal.returns
returns c =
    column_of_plays c.args.phases (typing_of c.args.old.now) (typing_of c.args.new.now) c.requires.split c.law.ensures c.in_ok-role.role c.args.h
    (typed_of c.in_ok-body.body.now) c.in_ok-body.ensures c.in_ok-role.ensures
