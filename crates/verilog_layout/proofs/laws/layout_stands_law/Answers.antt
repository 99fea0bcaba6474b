use Rattle.verilog_layout.proofs.Standing.{layout_is_module}
use Rattle.verilog_layout.proofs.laws.layout_stands_law.Goals as goal

pub returns : goal.returns
returns c = record {
  stands = layout_is_module;
  only = λ m n text printable is other. c.one_module_law.ensures.one text.items n m other (layout_is_module m text printable is);
}
