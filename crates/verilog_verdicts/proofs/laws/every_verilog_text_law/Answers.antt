use Rattle.verilog_verdicts.proofs.Lexed.{some_tokens}
use Rattle.verilog_verdicts.proofs.Total.{some_source}
use Rattle.verilog_verdicts.proofs.Whole.{some_module}
use Rattle.verilog_verdicts.proofs.laws.every_verilog_text_law.Goals as goal

pub returns-clause-tokens : goal.returns-clause-tokens
returns-clause-tokens c text = some_tokens text

pub returns-clause-source : goal.returns-clause-source
returns-clause-source c before last is = some_source before last is

pub returns-clause-some : goal.returns-clause-some
returns-clause-some c text = some_module text
