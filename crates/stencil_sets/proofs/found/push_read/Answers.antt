use Rattle.std.proofs.Common.{rules, sym, subst}
use Rattle.dk_base.specs.Stencils.{AreInOrder}
use Rattle.stencil_sets.proofs.Ordered.{in_order_more}
use Rattle.stencil_sets.proofs.found.push_read.Goals as goal

pub returns-in-Ok : goal.returns-in-Ok
returns-in-Ok c = record {
  order = subst AreInOrder (sym c.in-Ok.ensures.items) (in_order_more c.args.all.now.items c.args.read c.requires.order c.requires.before);
  items = search rules;
  stopped = search rules;
  same = search rules;
}

pub returns-in-Err : goal.returns-in-Err
returns-in-Err c = record {
  order = subst AreInOrder (sym c.in-Err.ensures.items) c.requires.order;
  items = search rules;
  stopped = search rules;
  same = search rules;
}
