use Rattle.flow_dual.specs.declared.solution.Solution.{Solution}
use Rattle.flow_dual.proofs.Optimal.{solution_of}
use Rattle.flow_dual.proofs.solving.answer.Goals as goal

pub returns : goal.returns
returns c =
    let x : Solution = record { delays = c.in_ok-delays.delays; ends = c.in_ok-ends.ends; flow = c.new-flow.result } in
    solution_of c.args.system.now c.law.ensures c.args.numbers.now c.args.flow.items c.requires x c.new-flow.ensures
    c.in_ok-delays.ensures.length c.in_ok-delays.ensures.numbers c.in_ok-ends.ensures.length c.in_ok-ends.ensures.numbers
