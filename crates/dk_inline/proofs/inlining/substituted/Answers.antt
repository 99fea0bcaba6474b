use Rattle.dk_types.specs.Typed.{typing_of}
use Rattle.pointwise_ir.specs.Programs.{program_of}
use Rattle.dk_inline.proofs.Programs.{is_program}
use Rattle.dk_inline.proofs.inlining.substituted.Goals as goal

pub new-requires : goal.new-requires
new-requires c = is_program (typing_of c.args.program.now) (program_of c.in_ok-parts.parts) c.law.ensures c.requires.within c.requires.ports.some_inputs c.requires.ports.some_outputs c.in_ok-parts.ensures
