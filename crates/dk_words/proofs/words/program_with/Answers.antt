use Rattle.clap.specs.Words.{app_of}
use Rattle.dk_words.proofs.TableLemmas.{one_more_row}
use Rattle.dk_words.proofs.words.program_with.Goals as goal

pub loop-row-preserved : goal.loop-row-preserved
loop-row-preserved c = one_more_row c.args.rows.now c.loop-row.row-index _ c.in_ok-shaped.field-0 (app_of c.loop-row.command) (app_of c.in_ok-command.command) c.loop-row-test.true c.in_ok-command.ensures.shape c.in_ok-shaped.ensures c.loop-row.invariant
