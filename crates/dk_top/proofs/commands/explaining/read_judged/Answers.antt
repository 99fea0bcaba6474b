use Rattle.std.proofs.Common.{rules}
use Rattle.dk_top.proofs.ExplainLemmas.{long_judged}
use Rattle.dk_top.proofs.commands.explaining.read_judged.Goals as goal

pub returns-in-Err-Source-clause-judged : goal.returns-in-Err-Source-clause-judged
returns-in-Err-Source-clause-judged g c = long_judged _ c.args.name.now c.explained.result (search rules) (search rules)
