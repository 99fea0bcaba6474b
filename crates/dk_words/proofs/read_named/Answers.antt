use Rattle.std.proofs.Common.{◌≡◌, IfOk, Some, rules}
use Rattle.dk_words.specs.declared.NoCommand.TheVariants as reason
use Rattle.dk_words.specs.Command.{command_of, command_asked}
use Rattle.dk_words.specs.Words.{texts}
use Rattle.dk_words.proofs.ReadLemmas.{names_none}
use Rattle.dk_words.proofs.RangeLemmas.{read_in}
use Rattle.dk_words.proofs.read_named.Goals as goal

pub returns-in-Err-clause-none : goal.returns-in-Err-clause-none
returns-in-Err-clause-none c = λ is. let usage : c.why.result ≡ reason.Usage = cc in names_none (texts c.args.words.now) (λ taken. c.why.ensures.usage usage (c.in-Err.ensures.refused taken))

pub returns-clause-ranges : goal.returns-clause-ranges
returns-clause-ranges c = let ok : IfOk c.ok_or.result (λ asked. command_of (texts c.args.words.now) ≡ Some (command_asked asked)) = search rules in read_in (texts c.args.words.now) c.ok_or.result ok
