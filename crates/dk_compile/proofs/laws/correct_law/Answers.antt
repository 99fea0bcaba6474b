use Rattle.dk_compile.proofs.Correct.{RunsOrStops, compiled_correct}
use Rattle.dk_compile.proofs.laws.correct_law.Goals as goal

pub returns : goal.returns
returns c source age enable block p ir system solution plan m nets reads verilog is =
    let go : RunsOrStops = λ n whole from clocks places.
    c.one_run_law.ensures.some n (c.one_valuation_law.ensures n whole.order whole.rules whole.ordered) (c.one_next_law.ensures n whole.rules) from clocks places in
    compiled_correct go c.one_at_age_law.ensures.accepted source age enable block p ir system solution plan m nets reads verilog is
