use Rattle.std.proofs.Common.{ℕ, subst, arith}
use Rattle.circuit.specs.Divided.{IsShortest}
use Rattle.circuit.proofs.Dividing.{shortest_is, never_none}
use Rattle.circuit.proofs.splits.array_words.Goals as goal

pub returns-in-None : goal.returns-in-None
returns-in-None c = λ least all are has over. absurd (never_none least all c.args.lengths.now c.args.words c.saturating_sub.result c.saturating_sub.ensures are has over c.in-None.ensures)

pub returns-in-Some : goal.returns-in-Some
returns-in-Some c = λ least all are has over.
    let here = shortest_is least all c.args.lengths.now c.args.words c.saturating_sub.result c.in-Some.shortest c.saturating_sub.ensures are has over c.in-Some.ensures in
    subst (λ (n : ℕ). IsShortest least all c.args.words n) (omega (arith, here.long)) here
