use Rattle.std.proofs.Common.{◌≡◌, ◌++◌, drop}
use Rattle.net_build.specs.Draft.{output_assigns}
use Rattle.net_build.proofs.finish.push_outputs.Given as goal

-- the assigns so far with those to come
abbrev pub invariant-loop-k : goal.invariant-loop-k
invariant-loop-k l = l.assigns.items ++ output_assigns l.k (drop l.k l.nets) ≡ l.fn.assigns.items ++ output_assigns 0 l.nets
