use Rattle.line_buffer.proofs.Lasting.{buffer_more, buffer_made_more}
use Rattle.line_buffer.proofs.Filling.{fills_more}
use Rattle.line_buffer.proofs.laws.buffers_last_law.Goals as goal

pub returns-clause-buffer : goal.returns-clause-buffer
returns-clause-buffer c = buffer_more

pub returns-clause-made : goal.returns-clause-made
returns-clause-made c = buffer_made_more

pub returns-clause-fills : goal.returns-clause-fills
returns-clause-fills c = fills_more
