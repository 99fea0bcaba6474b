use Rattle.std.proofs.Common.{rules, refl}
use Rattle.stencil_sets.proofs.Sources.{sources_more, sources_within, sources_done}
use Rattle.stencil_sets.proofs.reader.push_reader.Goals as goal

pub loop-g-preserved : goal.loop-g-preserved
loop-g-preserved c =
    sources_more c.args.all.now.items c.loop-g.all.items c.push_source.new.all.items c.args.rects.now c.args.f c.loop-g.g _ c.loop-g-test.true refl c.loop-g.invariant
    c.in_ok-push_source.ensures.order c.in_ok-push_source.ensures.found c.in_ok-push_source.ensures.before

pub returns : goal.returns
returns c = record {
  order = search rules;
  found = sources_done c.args.all.now.items c.loop-g.all.items c.args.rects.now c.args.f c.loop-g.g c.loop-g-test.false c.loop-g.invariant;
  sound = λ f g dx dy h. (sources_done c.args.all.now.items c.loop-g.all.items c.args.rects.now c.args.f c.loop-g.g c.loop-g-test.false c.loop-g.invariant f g dx dy).0 h;
  before = search rules;
  stopped = search rules;
}

pub returns-in_err-push_source : goal.returns-in_err-push_source
returns-in_err-push_source c = record {
  order = search rules;
  found = search rules;
  sound = sources_within c.args.all.now.items c.loop-g.all.items c.push_source.new.all.items c.args.rects.now c.args.f c.loop-g.g c.loop-g-test.true c.loop-g.invariant c.in_err-push_source.ensures.sound;
  before = search rules;
  stopped = search rules;
}
