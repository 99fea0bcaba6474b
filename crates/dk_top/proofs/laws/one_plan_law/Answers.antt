use Rattle.dk_top.proofs.FrontOnce.{front_once}
use Rattle.dk_top.proofs.PlanFaults.{claim_once, wrong_apart, line_once}
use Rattle.dk_top.proofs.laws.one_plan_law.Goals as goal

pub returns : goal.returns
returns c =
    let stencils = front_once c.one_source_law.ensures.program c.one_answer_law.ensures.images c.one_answer_law.ensures.reads in
    record {
      stencils = stencils;
      apart = λ text age f has is. c.one_at_age_law.ensures.apart text age has.0 f has.1 is;
      fault = c.one_at_age_law.ensures.fault;
      claim = λ text bytes. claim_once stencils text bytes c.one_plan_law.ensures.claim;
      wrong = λ text bytes. wrong_apart stencils text bytes c.one_plan_law.ensures.wrong;
      line = λ text bytes. line_once stencils text bytes c.one_plan_law.ensures.line;
    }
