use Rattle.std.proofs.Common.{List, length, subst, sym, rules}
use Rattle.wiring.specs.declared.netlist.Net.{Net}
use Rattle.circuit.specs.Ends.{CanEnd, IsClosed}
use Rattle.circuit.specs.Taps.{size_in, HaveTaps, AreTapsOf}
use Rattle.circuit.proofs.Placing.{own_tests}
use Rattle.circuit.proofs.Behaving.{can_end, have_taps, module_is, whole, arrays, properties, read_nets, computed, apart, clock_paths, registers}
use Rattle.circuit.proofs.finishing.finished.Goals as goal

pub closed-requires : goal.closed-requires
closed-requires g c = record {
  ends = subst (CanEnd c.args.b c.args.plan.now) (sym c.deref-2.ensures.value)
      (can_end c.args.b c.args.ir.now c.args.plan.now (g.F.BufferForm.form c.args.form.now) c.args.images.nets.items c.args.images.taps.items c.law.ensures c.requires.stencils c.requires.images.built.built);
  tests = own_tests c.args.b (size_in c.args.plan.now) c.args.images.tests c.requires.images.built.tests_are;
}

pub read_nets-requires : goal.read_nets-requires
read_nets-requires g c = record {
  taps = subst (HaveTaps c.args.plan.now) (sym c.deref.ensures.value)
      (have_taps c.args.b c.args.ir.now c.args.plan.now (g.F.BufferForm.form c.args.form.now) c.args.images.nets.items c.args.images.taps.items c.requires.images.built.built);
}

pub returns : goal.returns
returns g c = record {
  ports = search rules;
  named = c.in_ok-module.ensures.named;
  whole = whole c.in_ok-module.module.netlist c.args.b c.args.ir.now c.args.plan.now (g.F.BufferForm.form c.args.form.now) c.args.images.nets.items c.args.images.taps.items c.args.images.tests c.law.ensures c.requires.stencils c.requires.images.built
      (subst (λ (ns : List Net). IsClosed c.in_ok-module.module.netlist c.args.b c.args.plan.now ns c.args.images.tests) c.deref-2.ensures.value c.in_ok-module.ensures.closed);
  runs = search rules;
  circuit = module_is c.in_ok-module.module.netlist c.args.b c.args.ir.now c.args.plan.now (g.F.BufferForm.form c.args.form.now) c.args.images.nets.items c.args.images.taps.items c.args.images.tests c.law.ensures c.requires.stencils c.requires.images.built
      (subst (λ (ns : List Net). IsClosed c.in_ok-module.module.netlist c.args.b c.args.plan.now ns c.args.images.tests) c.deref-2.ensures.value c.in_ok-module.ensures.closed);
  reads = read_nets c.in_ok-module.module.netlist c.args.b c.args.ir.now c.args.plan.now (g.F.BufferForm.form c.args.form.now) c.args.images.nets.items c.args.images.taps.items c.args.images.tests c.law.ensures c.requires.stencils c.requires.images.built
      (subst (λ (ns : List Net). IsClosed c.in_ok-module.module.netlist c.args.b c.args.plan.now ns c.args.images.tests) c.deref-2.ensures.value c.in_ok-module.ensures.closed)
      c.in_ok-reads.reads.items
      (subst (λ (ts : List (List Net)). AreTapsOf c.args.plan.now ts (length c.args.plan.now.system.stencils.reads) c.in_ok-reads.reads.items) c.deref.ensures.value c.in_ok-reads.ensures);
  computed = computed c.in_ok-module.module.netlist c.args.b c.args.ir.now c.args.plan.now (g.F.BufferForm.form c.args.form.now) c.args.images.nets.items c.args.images.taps.items c.args.images.tests c.law.ensures c.requires.stencils c.requires.images.built
      (subst (λ (ns : List Net). IsClosed c.in_ok-module.module.netlist c.args.b c.args.plan.now ns c.args.images.tests) c.deref-2.ensures.value c.in_ok-module.ensures.closed)
      c.in_ok-reads.reads.items
      (subst (λ (ts : List (List Net)). AreTapsOf c.args.plan.now ts (length c.args.plan.now.system.stencils.reads) c.in_ok-reads.reads.items) c.deref.ensures.value c.in_ok-reads.ensures);
  arrays = arrays c.in_ok-module.module.netlist c.args.b c.args.ir.now c.args.plan.now (g.F.BufferForm.form c.args.form.now) c.args.images.nets.items c.args.images.taps.items c.args.images.tests c.law.ensures c.requires.stencils c.requires.images.built
      (subst (λ (ns : List Net). IsClosed c.in_ok-module.module.netlist c.args.b c.args.plan.now ns c.args.images.tests) c.deref-2.ensures.value c.in_ok-module.ensures.closed);
  property = properties c.in_ok-module.module.netlist c.args.b c.args.ir.now c.args.plan.now (g.F.BufferForm.form c.args.form.now) c.args.images.nets.items c.args.images.taps.items c.args.images.tests c.law.ensures c.requires.stencils c.requires.images.built
      (subst (λ (ns : List Net). IsClosed c.in_ok-module.module.netlist c.args.b c.args.plan.now ns c.args.images.tests) c.deref-2.ensures.value c.in_ok-module.ensures.closed);
  apart = apart c.in_ok-module.module.netlist c.args.b c.args.ir.now c.args.plan.now (g.F.BufferForm.form c.args.form.now) c.args.images.nets.items c.args.images.taps.items c.args.images.tests c.law.ensures c.requires.stencils c.requires.images.built
      (subst (λ (ns : List Net). IsClosed c.in_ok-module.module.netlist c.args.b c.args.plan.now ns c.args.images.tests) c.deref-2.ensures.value c.in_ok-module.ensures.closed);
  paths = clock_paths c.in_ok-module.module.netlist c.args.b c.args.ir.now c.args.plan.now (g.F.BufferForm.form c.args.form.now) c.args.images.nets.items c.args.images.taps.items c.args.images.tests c.law.ensures c.requires.stencils c.requires.images.built
      (subst (λ (ns : List Net). IsClosed c.in_ok-module.module.netlist c.args.b c.args.plan.now ns c.args.images.tests) c.deref-2.ensures.value c.in_ok-module.ensures.closed);
  registers = registers c.in_ok-module.module.netlist c.args.b c.args.ir.now c.args.plan.now (g.F.BufferForm.form c.args.form.now) c.args.images.nets.items c.args.images.taps.items c.args.images.tests c.law.ensures c.requires.stencils c.requires.images.built
      (subst (λ (ns : List Net). IsClosed c.in_ok-module.module.netlist c.args.b c.args.plan.now ns c.args.images.tests) c.deref-2.ensures.value c.in_ok-module.ensures.closed) c.args.images.turns c.requires.images.registers;
}
