use Rattle.std.proofs.Common.{◌≡◌, ◌==◌, ℕ, false, take}
use Rattle.std.specs.List.{list_any}
use Rattle.wiring.specs.declared.netlist.Net.{Net}
use Rattle.line_buffer.proofs.sharing.line_turn.Given as goal

abbrev pub invariant-loop-k : goal.invariant-loop-k
invariant-loop-k l = record { none : list_any (λ (t : ℕ × Net). t.0 == l.fn.words) (take l.k l.fn.turns.lines.items) ≡ false }
