use Rattle.std.proofs.Common.{ℕ, ◌+◌, ◌-◌, ◌∷◌, ◌++◌, [], List, ap, sym, ◌∙◌, append_assoc, replicate}
use Rattle.circuit.specs.Divided.{ages_after}
use Rattle.circuit.proofs.Dividing.{singles_more}
use Rattle.circuit.proofs.splits.add_segment.Goals as goal

pub loop-age-preserved : goal.loop-age-preserved
loop-age-preserved c =
    let rest : List ℕ = ages_after (c.loop-age.age + 1) (replicate (c.args.high - (c.loop-age.age + 1)) 1) in
    ap (λ (l : List ℕ). l ++ rest) c.in_ok-push-2.ensures.items
    ∙ append_assoc c.loop-age.split.items ((c.loop-age.age + 1) ∷ []) rest
    ∙ ap (λ (l : List ℕ). c.loop-age.split.items ++ l) (sym (singles_more c.loop-age.age c.args.high c.loop-age-test.true))
    ∙ c.loop-age.invariant
