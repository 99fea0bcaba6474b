use Rattle.dk_top.proofs.ReadLemmas.{input_read}
use Rattle.dk_top.proofs.reading.read_frames.Goals as goal

pub returns-in-Ok-clause-input : goal.returns-in-Ok-clause-input
returns-in-Ok-clause-input c = input_read c.one_file_law.ensures.rounds c.args.ir.now c.args.file.now c.in-Ok.rounds.items c.law.ensures c.in-Ok.ensures.fits
