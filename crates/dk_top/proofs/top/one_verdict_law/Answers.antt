use Rattle.dk_top.proofs.OneVerdict.{one_verdict}
use Rattle.dk_top.proofs.top.one_verdict_law.Goals as goal

pub returns : goal.returns
returns c = one_verdict (record {
  one_program = c.one_source_law.ensures.program;
  front_accepted = c.one_source_law.ensures.accepted;
  text_apart = c.one_source_law.ensures.apart;
  one_text = c.one_source_law.ensures.fault;
  file_apart = c.one_file_law.ensures.apart;
  one_file = c.one_file_law.ensures.fault;
  one_module = c.one_module_law.ensures.one;
  agree = c.one_module_law.ensures.agree;
  module_apart = c.one_module_law.ensures.apart;
  tokens = c.one_reading_law.ensures.tokens;
  tree = c.one_reading_law.ensures.source;
  rounds = c.one_input_law.ensures.rounds;
  rounds_apart = c.one_input_law.ensures.apart;
  bench_fault = c.one_input_law.ensures.fault;
  one_stop = c.one_bench_law.ensures.stop;
  shown_apart = c.one_bench_law.ensures.apart;
  run_apart = c.one_end_law.ensures.apart;
  apart_at = c.one_plan_law.ensures.apart;
  fault_at = c.one_plan_law.ensures.fault;
  wrong_apart = c.one_plan_law.ensures.wrong;
  one_line = c.one_plan_law.ensures.line;
})
