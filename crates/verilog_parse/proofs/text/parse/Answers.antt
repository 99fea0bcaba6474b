use Rattle.verilog_parse.proofs.OneAnswer as O
use Rattle.verilog_parse.proofs.text.parse.Goals as goal

pub returns-clause-accepts : goal.returns-clause-accepts
returns-clause-accepts c = O.accepts (record { tokens = c.one_reading_law.ensures.tokens; fault = c.one_reading_law.ensures.fault; apart = c.one_reading_law.ensures.apart; source = c.one_reading_law.ensures.source }) _ _ c.read.ensures

pub returns-clause-refuses : goal.returns-clause-refuses
returns-clause-refuses c = O.refuses (record { tokens = c.one_reading_law.ensures.tokens; fault = c.one_reading_law.ensures.fault; apart = c.one_reading_law.ensures.apart; source = c.one_reading_law.ensures.source }) _ _ c.read.ensures

pub returns-clause-named : goal.returns-clause-named
returns-clause-named c = O.named _ _ c.read.ensures
