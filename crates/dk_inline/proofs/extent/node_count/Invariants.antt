use Rattle.std.proofs.Common.{◌≡◌, ◌+◌, ◌≤◌, drop}
use Rattle.dk_types.specs.Typed.{typing_of}
use Rattle.dk_inline.specs.Nodes.{nodes_from, node_count}
use Rattle.dk_inline.specs.Extents.{saturated}
use Rattle.dk_inline.proofs.extent.node_count.Given as goal

abbrev pub invariant-loop-k : goal.invariant-loop-k
invariant-loop-k l = record {
  few : l.count ≤ 18446744073709551615;
  sum : saturated (l.count + nodes_from (typing_of l.program) l.k (drop l.k (typing_of l.program).definitions)) ≡ saturated (node_count (typing_of l.program));
}
