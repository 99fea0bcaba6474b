use Rattle.std.proofs.Common.{◌≡◌, ◌==◌, ℕ, false, take}
use Rattle.std.specs.List.{list_any}
use Rattle.net_build.specs.declared.counters.Indices.{Indices}
use Rattle.line_buffer.proofs.sharing.block_turn.Given as goal

abbrev pub invariant-loop-k : goal.invariant-loop-k
invariant-loop-k l = record { none : list_any (λ (t : ℕ × Indices). t.0 == l.fn.words) (take l.k l.fn.turns.blocks.items) ≡ false }
