use Rattle.verilog_read.proofs.Judged as J
use Rattle.verilog_read.proofs.text.read.Goals as goal

pub returns-clause-accepts : goal.returns-clause-accepts
returns-clause-accepts c = J.accepts (record { one = c.one_module_law.ensures.one; agree = c.one_module_law.ensures.agree; apart = c.one_module_law.ensures.apart }) _ _ c.judged.ensures

pub returns-clause-refuses : goal.returns-clause-refuses
returns-clause-refuses c = J.refuses (record { one = c.one_module_law.ensures.one; agree = c.one_module_law.ensures.agree; apart = c.one_module_law.ensures.apart }) _ _ c.judged.ensures
