use Rattle.net_lines.specs.Lines.{read_line}
use Rattle.net_lines.proofs.Loops.{next}
use Rattle.net_lines.proofs.lines.push_reads.Goals as goal

pub loop-k-preserved : goal.loop-k-preserved
loop-k-preserved c =
    let nets = c.args.nets.now in
    next (read_line nets.ir.now nets.plan.now nets.module.now nets.reads.now) c.loop-k.k c.args.out.now.items c.loop-k.out.items c.push_read.new.out.items c.in_ok-push_read.ensures c.loop-k.invariant
