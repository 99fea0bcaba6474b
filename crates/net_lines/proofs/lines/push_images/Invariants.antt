use Rattle.std.proofs.Common.{◌≡◌, ◌++◌}
use Rattle.net_lines.specs.Lines.{lines_to, image_line}
use Rattle.net_lines.proofs.lines.push_images.Given as goal

abbrev pub invariant-loop-k : goal.invariant-loop-k
invariant-loop-k l = l.out.items ≡ l.fn.out.items ++ lines_to (image_line l.nets.ir.now l.nets.plan.now l.nets.module.now l.nets.images.now) l.k
