use Rattle.std.proofs.Common.{ℕ, [], sym, ap, ◌∙◌}
use Rattle.std.specs.Prelude.{slice_index_or}
use Rattle.circuit.specs.Splits.{lists_of}
use Rattle.circuit.proofs.Splitting.{split_yes, split_no, finer_of}
use Rattle.circuit.proofs.finer.split_of.Goals as goal

pub returns-then-is_finer-clause-ages : goal.returns-then-is_finer-clause-ages
returns-then-is_finer-clause-ages c = split_yes (lists_of c.args.proposed.now) c.args.plan.now c.args.image c.ages-ages.result.now c.proposed_at-split.result.now c.ages-ages.ensures.ages (c.proposed_at-split.ensures ∙ ap (λ (k : ℕ). slice_index_or (lists_of c.args.proposed.now) k []) c.place.ensures) (sym c.if-is_finer.ensures)

pub returns-then-is_finer-clause-finer : goal.returns-then-is_finer-clause-finer
returns-then-is_finer-clause-finer c = finer_of (lists_of c.args.proposed.now) c.args.plan.now c.args.image c.proposed_at-split.result.now (returns-then-is_finer-clause-ages c)

pub returns-clause-ages : goal.returns-clause-ages
returns-clause-ages c = split_no (lists_of c.args.proposed.now) c.args.plan.now c.args.image c.ages-ages.result.now c.proposed_at-split.result.now c.ages-ages.ensures.ages (c.proposed_at-split.ensures ∙ ap (λ (k : ℕ). slice_index_or (lists_of c.args.proposed.now) k []) c.place.ensures) (sym c.if-is_finer.ensures)

pub returns-clause-finer : goal.returns-clause-finer
returns-clause-finer c = finer_of (lists_of c.args.proposed.now) c.args.plan.now c.args.image c.ages-ages.result.now (returns-clause-ages c)
