use Rattle.clap.specs.Words.{app_of, shape_of, rule_of}
use Rattle.dk_words.specs.Shapes.{rule_of_kind}
use Rattle.dk_words.proofs.TableLemmas.{one_more_name}
use Rattle.dk_words.proofs.words.with_arguments.Goals as goal

pub loop-name-preserved : goal.loop-name-preserved
loop-name-preserved c = one_more_name (rule_of_kind c.args.kind) c.args.names.now c.loop-name.name-index _ (rule_of c.argument.result) (shape_of c.args.command) (app_of c.loop-name.command) (app_of c.in_ok-command.command) c.loop-name-test.true (c.in_ok-command.ensures.shape c.argument.ensures.local) c.argument.ensures.rule c.loop-name.invariant
