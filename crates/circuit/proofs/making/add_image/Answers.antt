use Rattle.std.proofs.Common.{[], ◌∷◌, ◌++◌, List, suc, sym, subst, rules}
use Rattle.std.specs.Prelude.{slice_index_or}
use Rattle.dk_base.specs.declared.stencils.Image.{Image}
use Rattle.wiring.specs.declared.netlist.Net.{Net}
use Rattle.line_buffer.proofs.Shared.{turns_more}
use Rattle.circuit.specs.Taps.{IsReading}
use Rattle.circuit.specs.Images.{AreBuiltWith, IsImageNet}
use Rattle.circuit.proofs.Adding.{image_at, next_reading, next_kept, next_arrays, next_built}
use Rattle.circuit.proofs.Registered.{registers_more}
use Rattle.circuit.proofs.making.add_image.Goals as goal

abbrev none : Image
none = record { number = 0; width = 0 }

pub image_net-requires-clause-reader : goal.image_net-requires-clause-reader
image_net-requires-clause-reader g c = record {
  reading = let plan = c.args.plan.now in
      let i = slice_index_or c.images.result.now c.args.k none in
      let form = c.args.form.now in
      subst (λ (ts : List (List Net)). IsReading c.args.b.now c.args.ir.now plan ts i.number) (sym c.deref.ensures.value)
      (next_reading c.args.b.now c.args.ir.now plan (g.F.BufferForm.form form) c.args.k c.args.images.now.nets.items c.args.images.now.taps.items i c.law.ensures c.requires.stencils (image_at plan.system.stencils.images c.images.result.now c.args.k none c.images.ensures c.requires.within) c.requires.images.built.built);
  tests = c.requires.images.built.tests_are;
}

pub returns-clause-images : goal.returns-clause-images
returns-clause-images g c = record {
  turns = c.in_ok-own.ensures.image.turns;
  built = let plan = c.args.plan.now in
      let i = slice_index_or c.images.result.now c.args.k none in
      let form = c.args.form.now in
      let built = next_built c.args.b.now c.args.ir.now plan (g.F.BufferForm.form form) c.args.k c.args.images.now.nets.items c.args.images.now.taps.items i c.law.ensures c.requires.stencils (image_at plan.system.stencils.images c.images.result.now c.args.k none c.images.ensures c.requires.within) c.requires.images.built.built
      c.add.new.b c.image_net.new.b c.in_ok-net.net c.in_ok-own.own c.image_net.new.tests c.args.images.now.tests c.in_ok-net.ensures.grows.adds c.requires.images.built.apart c.in_ok-net.ensures.grows.tests
      (subst (λ (ts : List (List Net)). IsImageNet c.image_net.new.b c.args.b.now c.args.ir.now plan ts i.number c.in_ok-net.net) c.deref.ensures.value c.in_ok-net.ensures.net)
      c.in_ok-own.ensures.image.buffered c.law-2.ensures.draft c.law-3.ensures.draft
      in
      subst (λ (ns : List Net). AreBuiltWith c.add.new.b c.args.ir.now plan (g.F.BufferForm.form form) (suc c.args.k) ns c.push-2.new.self.items c.image_net.new.tests) (sym c.in_ok-push.ensures.items)
      (subst (λ (ts : List (List Net)). AreBuiltWith c.add.new.b c.args.ir.now plan (g.F.BufferForm.form form) (suc c.args.k) (c.args.images.now.nets.items ++ c.in_ok-net.net ∷ []) ts c.image_net.new.tests) (sym c.in_ok-push-2.ensures.items) built);
  registers = let plan = c.args.plan.now in
      let i = slice_index_or c.images.result.now c.args.k none in
      let form = g.F.BufferForm.form c.args.form.now in
      registers_more c.add.new.b c.image_net.new.b c.args.b.now c.args.ir.now plan form.long (form.shapes plan i.number) c.add.new.turns c.args.images.now.turns c.image_net.new.tests c.args.images.now.tests
      c.in_ok-net.ensures.grows.adds.arrays c.in_ok-own.ensures.image.buffered.adds.arrays c.in_ok-net.ensures.grows.needed c.in_ok-own.ensures.image.counts c.requires.images.registers;
}

pub add-requires : goal.add-requires
add-requires g c = record {
  kept = let plan = c.args.plan.now in
      let i = slice_index_or c.images.result.now c.args.k none in
      let form = c.args.form.now in
      next_kept c.args.b.now c.args.ir.now plan (g.F.BufferForm.form form) c.args.k c.args.images.now.nets.items c.args.images.now.taps.items i c.law.ensures c.requires.stencils (image_at plan.system.stencils.images c.images.result.now c.args.k none c.images.ensures c.requires.within) c.requires.images.built.built;
  net = search rules;
  width = search rules;
  arrays = let plan = c.args.plan.now in
      let i = slice_index_or c.images.result.now c.args.k none in
      let form = c.args.form.now in
      next_arrays c.args.b.now c.args.ir.now plan (g.F.BufferForm.form form) c.args.k c.args.images.now.nets.items c.args.images.now.taps.items i c.law.ensures c.requires.stencils (image_at plan.system.stencils.images c.images.result.now c.args.k none c.images.ensures c.requires.within) c.requires.images.built.built
      c.image_net.new.b c.in_ok-net.ensures.grows.adds.arrays;
  turns = turns_more c.image_net.new.b c.args.b.now c.args.images.now.turns c.in_ok-net.ensures.grows.adds.includes c.requires.images.turns;
}
