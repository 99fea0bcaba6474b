use Rattle.dk_types.specs.Typed.{typing_of}
use Rattle.dk_compile.proofs.widening.sized.Goals as goal

pub returns-clause-program : goal.returns-clause-program
returns-clause-program c =
    let known = c.in_ok-known.known in
    c.one_at_age_law.ensures.accepted c.args.text.now 0 (typing_of known.program) known.ir known.system known.solution known.plan c.in_ok-known.ensures.planned

pub returns-clause-bits : goal.returns-clause-bits
returns-clause-bits c =
    let known = c.in_ok-known.known in
    record { program = typing_of known.program; ir = known.ir; system = known.system; solution = known.solution; plan = known.plan; planned = c.in_ok-known.ensures.planned; bits_are = c.bits-bits.ensures }
