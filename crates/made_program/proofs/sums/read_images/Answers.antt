use Rattle.dk_base.specs.FrameSizes.{size_of}
use Rattle.made_program.proofs.Rounds.{has_no_fault, samples_read, few_read}
use Rattle.made_program.proofs.sums.read_images.Goals as goal

pub unreachable-requires : goal.unreachable-requires
unreachable-requires c = has_no_fault c.read_again_law.ensures c.one_file_law.ensures.apart (size_of c.args.size) c.args.file.now c.in-Err-Fault.field-0-0 c.requires.images (rw c.in-Err-Fault.field-0-is at c.in-Err-Fault.ensures.fault)

pub returns-in-Ok-clause-few : goal.returns-in-Ok-clause-few
returns-in-Ok-clause-few c =
    let given = c.requires.images in
    few_read c.read_again_law.ensures c.one_file_law.ensures.rounds (size_of c.args.size) c.args.file.now c.in-Ok.rounds.items c.in-Ok.ensures.fits given.0 given.1 given.2

pub returns-in-Ok-clause-samples : goal.returns-in-Ok-clause-samples
returns-in-Ok-clause-samples c = λ images s e. samples_read c.read_again_law.ensures c.one_file_law.ensures.rounds (size_of c.args.size) c.args.file.now c.in-Ok.rounds.items c.in-Ok.ensures.fits images s e
