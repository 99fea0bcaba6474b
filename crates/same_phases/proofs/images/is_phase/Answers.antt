use Rattle.dk_types.specs.Typed.{typing_of, typed_of}
use Rattle.same_phases.proofs.Played.{phase_plays}
use Rattle.same_phases.proofs.images.is_phase.Goals as goal

pub returns-in-Some-body_of : goal.returns-in-Some-body_of
returns-in-Some-body_of c = λ yes.
    phase_plays c.args.at.phases (typing_of c.args.old.now) (typing_of c.args.new.now) c.requires.split c.law.ensures c.law-2.ensures c.args.at.phase c.requires.below c.args.g c.args.h
    (typed_of c.in-Some.a.now) (typed_of c.in-Some-body_of.b.now) c.in-Some.ensures c.in-Some-body_of.ensures (c.has_phase.ensures yes)
