use Rattle.report_text.proofs.Lines.{no_reader, no_blank, no_source, two_names}
use Rattle.report_text.proofs.flow.places.Goals as goal

pub returns-in_err-reader : goal.returns-in_err-reader
returns-in_err-reader c = rw c.from_residual.ensures (no_reader c.args.images.now c.args.bytes.now c.word_at.result.0.now c.word_at.ensures.word c.in_err-reader.ensures)

pub returns-in_err-after : goal.returns-in_err-after
returns-in_err-after c = rw c.from_residual-in_err-after.ensures (no_blank c.args.images.now c.args.bytes.now c.word_at.result.0.now c.word_at.result.1.now c.in_ok-reader.reader c.word_at.ensures.word c.word_at.ensures.rest c.in_ok-reader.ensures c.in_err-after.ensures)

pub returns-in_err-source : goal.returns-in_err-source
returns-in_err-source c = rw c.from_residual-in_err-source.ensures (no_source c.args.images.now c.args.bytes.now c.word_at.result.0.now c.word_at.result.1.now c.in_ok-after.after.now c.word_at-2.result.0.now c.in_ok-reader.reader c.word_at.ensures.word c.word_at.ensures.rest c.in_ok-reader.ensures c.in_ok-after.ensures c.word_at-2.ensures.word c.in_err-source.ensures)

pub returns : goal.returns
returns c = two_names c.args.images.now c.args.bytes.now c.word_at.result.0.now c.word_at.result.1.now c.in_ok-after.after.now c.word_at-2.result.0.now c.word_at-2.result.1.now c.in_ok-reader.reader c.in_ok-source.source c.word_at.ensures.word c.word_at.ensures.rest c.in_ok-reader.ensures c.in_ok-after.ensures c.word_at-2.ensures.word c.word_at-2.ensures.rest c.in_ok-source.ensures
