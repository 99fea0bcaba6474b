use Rattle.std.proofs.Common.{◌≡◌, ◌+◌, ◌*◌, ◌^◌, ◌≤◌, ℕ, drop, slice_index}
use Rattle.plan_check.specs.Sums.{inflow_of, outflow_of}
use Rattle.plan_check.proofs.flow.tally.Given as goal

abbrev pub invariant-loop-line : goal.invariant-loop-line
invariant-loop-line l = record {
  brought : (v : ℕ) → slice_index l.brought v + inflow_of l.system (drop l.line-index l.flow) v ≡ inflow_of l.system l.flow v;
  taken : (v : ℕ) → slice_index l.taken v + outflow_of l.system (drop l.line-index l.flow) v ≡ outflow_of l.system l.flow v;
  few_brought : (v : ℕ) → slice_index l.brought v ≤ l.line-index * 2 ^ 64;
  few_taken : (v : ℕ) → slice_index l.taken v ≤ l.line-index * 2 ^ 64;
}
