use Rattle.verilog_text.proofs.Exclusion.{one_module, one_fault, no_fault}
use Rattle.verilog_text.proofs.laws.one_module_law.Goals as goal

pub returns : goal.returns
returns c = record {
  one = λ text m n a b. one_module text m n a b;
  agree = λ text f g h k. one_fault c.one_fault_law.ensures.agree text f g h k;
  apart = λ text m f s k. no_fault c.one_fault_law.ensures.apart text m f s k;
}
