use Rattle.std.proofs.Common.{◌≡◌, ◌∙◌, length, length-append, arith, ◌++◌, ◌∷◌, [], ap, refl, subst, sym, rules}
use Rattle.wiring.specs.declared.right.Atom.TheVariants as atom
use Rattle.wiring.specs.declared.netlist.Shape.{Shape}
use Rattle.wiring.specs.Netlist.{Netlist, net_width}
use Rattle.net_build.specs.Includes.{Includes}
use Rattle.net_build.proofs.Parts.{Includes-refl, includes_on, at_Begins}
use Rattle.net_build.proofs.Grown.{net_more, width_more}
use Rattle.net_build.proofs.Operands.{net_operand, operand_more, word_operation}
use Rattle.net_build.proofs.Failing.{at_err}
use Rattle.line_buffer.proofs.BlockMade.{still_free, copy_reg, block_line_is, block_adds, made_once}
use Rattle.line_buffer.proofs.blocks.block_line.Goals as goal

pub op-requires : goal.op-requires
op-requires c =
    let shape : Shape = record { width = c.args.width; depth = c.args.words } in
    let f : Includes c.reg.new.self c.args.b.now = includes_on _ _ _ c.in_ok-array.ensures.includes c.reg.ensures.includes in
    word_operation c.reg.new.self c.in_ok-array.array (atom.Net c.args.at.next) (net_width c.args.b.now c.args.at.next) shape (at_Begins c.array.new.self.arrays c.reg.new.self.arrays c.in_ok-array.array shape c.reg.ensures.includes.arrays c.in_ok-array.ensures.shape) c.requires.feed.bits
    (operand_more c.reg.new.self c.args.b.now (atom.Net c.args.at.next) (net_width c.args.b.now c.args.at.next) f (net_operand c.args.b.now c.args.at.next (net_width c.args.b.now c.args.at.next) c.requires.indices.next_net refl))

pub stored_net-requires : goal.stored_net-requires
stored_net-requires c = record {
  now = net_more c.loaded.new.b c.reg.new.self (includes_on _ _ _ c.op.ensures.includes c.loaded.ensures.logic.includes) c.in_ok-copy.copy c.in_ok-copy.ensures.net;
  next = net_more c.loaded.new.b c.args.b.now (includes_on _ _ _ c.in_ok-array.ensures.includes (includes_on _ _ _ c.reg.ensures.includes (includes_on _ _ _ c.op.ensures.includes c.loaded.ensures.logic.includes))) c.args.value c.requires.feed.there;
  now_width = width_more c.loaded.new.b c.reg.new.self (includes_on _ _ _ c.op.ensures.includes c.loaded.ensures.logic.includes) c.in_ok-copy.copy c.in_ok-copy.ensures.net.declared ∙ c.in_ok-copy.ensures.width;
  next_width = width_more c.loaded.new.b c.args.b.now (includes_on _ _ _ c.in_ok-array.ensures.includes (includes_on _ _ _ c.reg.ensures.includes (includes_on _ _ _ c.op.ensures.includes c.loaded.ensures.logic.includes))) c.args.value c.requires.feed.there.declared
      ∙ c.requires.feed.wide;
  wide = c.requires.feed.bits;
}

pub set-requires-clause-nets : goal.set-requires-clause-nets
set-requires-clause-nets c = record {
  reg = search rules;
  value = net_more c.stored_net.new.b c.loaded.new.b c.stored_net.ensures.logic.includes c.in_ok-taken.taken c.in_ok-taken.ensures.net.net;
  width = let f : Includes c.stored_net.new.b c.reg.new.self = includes_on _ _ _ c.op.ensures.includes (includes_on _ _ _ c.loaded.ensures.logic.includes c.stored_net.ensures.logic.includes) in
      width_more c.stored_net.new.b c.loaded.new.b c.stored_net.ensures.logic.includes c.in_ok-taken.taken c.in_ok-taken.ensures.net.net.declared
      ∙ c.in_ok-taken.ensures.net.width
      ∙ sym (width_more c.stored_net.new.b c.reg.new.self f c.in_ok-copy.copy c.in_ok-copy.ensures.net.declared ∙ c.in_ok-copy.ensures.width);
}

pub put-requires : goal.put-requires
put-requires c = record {
  array =
      let shape : Shape = record { width = c.args.width; depth = c.args.words } in
      let same : c.set.new.self.arrays ≡ c.array.new.self.arrays =
      ap (λ (n : Netlist). n.arrays) c.set.ensures.update
      ∙ c.stored_net.ensures.logic.wires.arrays
      ∙ c.loaded.ensures.logic.wires.arrays
      ∙ c.op.ensures.wires.arrays
      ∙ ap (λ (n : Netlist). n.arrays) c.in_ok-copy.ensures.ok
      in
      omega (arith, ap length same, c.in_ok-array.ensures.number, ap (λ (n : Netlist). length n.arrays) c.in_ok-array.ensures.made, length-append c.args.b.now.arrays (shape ∷ []));
  index = net_more c.set.new.self c.args.b.now
      (includes_on _ _ _ c.in_ok-array.ensures.includes (includes_on _ _ _ c.reg.ensures.includes (includes_on _ _ _ c.op.ensures.includes (includes_on _ _ _ c.loaded.ensures.logic.includes (includes_on _ _ _ c.stored_net.ensures.logic.includes c.set.ensures.includes)))))
      c.args.at.now c.requires.indices.now_net;
  value = search rules;
  width = search rules;
  free = still_free c.array.new.self c.reg.new.self c.op.new.self c.loaded.new.b c.stored_net.new.b c.set.new.self c.in_ok-array.array c.args.width c.in_ok-copy.copy c.in_ok-taken.taken c.in_ok-array.ensures.free c.in_ok-copy.ensures.ok c.op.ensures.wires c.loaded.ensures.logic c.stored_net.ensures.logic c.set.ensures.update;
}

pub returns-in_err-array : goal.returns-in_err-array
returns-in_err-array c = at_err _ _ _ c.from_residual.result c.from_residual.ensures.1 (subst (λ (n : Netlist). Includes n c.args.b.now) (sym c.in_err-array.ensures) (Includes-refl c.args.b.now))

pub returns-in_err-copy : goal.returns-in_err-copy
returns-in_err-copy c = at_err _ _ _ c.from_residual-in_err-copy.result c.from_residual-in_err-copy.ensures.1 (includes_on _ _ _ c.in_ok-array.ensures.includes c.reg.ensures.includes)

pub returns-in_err-ahead : goal.returns-in_err-ahead
returns-in_err-ahead c = at_err _ _ _ c.from_residual-in_err-ahead.result c.from_residual-in_err-ahead.ensures.1 (includes_on _ _ _ c.in_ok-array.ensures.includes (includes_on _ _ _ c.reg.ensures.includes c.op.ensures.includes))

pub returns-in_err-taken : goal.returns-in_err-taken
returns-in_err-taken c = at_err _ _ _ c.from_residual-in_err-taken.result c.from_residual-in_err-taken.ensures.1 (includes_on _ _ _ c.in_ok-array.ensures.includes (includes_on _ _ _ c.reg.ensures.includes (includes_on _ _ _ c.op.ensures.includes c.loaded.ensures.logic.includes)))

pub returns-in_err-stored : goal.returns-in_err-stored
returns-in_err-stored c = at_err _ _ _ c.from_residual-in_err-stored.result c.from_residual-in_err-stored.ensures.1 (includes_on _ _ _ c.in_ok-array.ensures.includes (includes_on _ _ _ c.reg.ensures.includes (includes_on _ _ _ c.op.ensures.includes (includes_on _ _ _ c.loaded.ensures.logic.includes c.stored_net.ensures.logic.includes))))

pub returns : goal.returns
returns c = record {
  adds = block_adds c.args.b.now c.array.new.self c.reg.new.self c.op.new.self c.loaded.new.b c.stored_net.new.b c.set.new.self c.put.new.self c.args.width c.args.words c.in_ok-array.array c.args.value c.in_ok-copy.copy c.in_ok-ahead.ahead c.in_ok-taken.taken c.in_ok-stored.stored c.args.at c.requires.indices c.requires.some
      c.in_ok-array.ensures.made c.in_ok-array.ensures.number c.in_ok-array.ensures.shape c.in_ok-array.ensures.includes c.in_ok-copy.ensures.ok c.in_ok-copy.ensures.number c.reg.ensures.includes c.op.ensures.includes c.in_ok-ahead.ensures.ok c.op.ensures.wires c.in_ok-ahead.ensures.value c.in_ok-ahead.ensures.made
      c.loaded.ensures.logic c.in_ok-taken.ensures.net c.in_ok-taken.ensures.right c.stored_net.ensures.logic c.in_ok-stored.ensures.net c.in_ok-stored.ensures.right c.set.ensures.includes c.set.ensures.update c.set.ensures.edge c.put.ensures.includes c.put.ensures.update c.put.ensures.edge c.in_ok-taken.ensures.depth;
  line = block_line_is c.args.b.now c.array.new.self c.reg.new.self c.op.new.self c.loaded.new.b c.stored_net.new.b c.set.new.self c.put.new.self c.args.width c.args.words c.in_ok-array.array c.args.value c.in_ok-copy.copy c.in_ok-ahead.ahead c.in_ok-taken.taken c.in_ok-stored.stored c.args.at c.requires.indices c.requires.some
      c.in_ok-array.ensures.made c.in_ok-array.ensures.number c.in_ok-array.ensures.shape c.in_ok-array.ensures.includes c.in_ok-copy.ensures.ok c.in_ok-copy.ensures.number c.reg.ensures.includes c.op.ensures.includes c.in_ok-ahead.ensures.ok c.op.ensures.wires c.in_ok-ahead.ensures.value c.in_ok-ahead.ensures.made
      c.loaded.ensures.logic c.in_ok-taken.ensures.net c.in_ok-taken.ensures.right c.stored_net.ensures.logic c.in_ok-stored.ensures.net c.in_ok-stored.ensures.right c.set.ensures.includes c.set.ensures.update c.set.ensures.edge c.put.ensures.includes c.put.ensures.update c.put.ensures.edge;
  once = λ long at_least. made_once c.args.b.now c.array.new.self c.reg.new.self c.op.new.self c.loaded.new.b c.stored_net.new.b c.set.new.self c.put.new.self c.args.width c.args.words c.in_ok-array.array c.args.value c.in_ok-copy.copy c.in_ok-ahead.ahead c.in_ok-taken.taken c.in_ok-stored.stored c.args.at c.requires.indices c.requires.some
      c.in_ok-array.ensures.made c.in_ok-array.ensures.number c.in_ok-array.ensures.shape c.in_ok-array.ensures.includes c.in_ok-copy.ensures.ok c.in_ok-copy.ensures.number c.reg.ensures.includes c.op.ensures.includes c.in_ok-ahead.ensures.ok c.op.ensures.wires c.in_ok-ahead.ensures.value c.in_ok-ahead.ensures.made
      c.loaded.ensures.logic c.in_ok-taken.ensures.net c.in_ok-taken.ensures.right c.stored_net.ensures.logic c.in_ok-stored.ensures.net c.in_ok-stored.ensures.right c.set.ensures.includes c.set.ensures.update c.set.ensures.edge c.put.ensures.includes c.put.ensures.update c.put.ensures.edge c.law.ensures.draft c.in_ok-array.ensures.free long at_least;
  copy = copy_reg c.args.b.now c.array.new.self c.reg.new.self c.op.new.self c.loaded.new.b c.stored_net.new.b c.set.new.self c.put.new.self c.args.width c.args.words c.in_ok-array.array c.args.value c.in_ok-copy.copy c.in_ok-ahead.ahead c.in_ok-taken.taken c.in_ok-stored.stored c.args.at c.requires.indices c.requires.some
      c.in_ok-array.ensures.made c.in_ok-array.ensures.number c.in_ok-array.ensures.shape c.in_ok-array.ensures.includes c.in_ok-copy.ensures.ok c.in_ok-copy.ensures.number c.reg.ensures.includes c.op.ensures.includes c.in_ok-ahead.ensures.ok c.op.ensures.wires c.in_ok-ahead.ensures.value c.in_ok-ahead.ensures.made
      c.loaded.ensures.logic c.in_ok-taken.ensures.net c.in_ok-taken.ensures.right c.stored_net.ensures.logic c.in_ok-stored.ensures.net c.in_ok-stored.ensures.right c.set.ensures.includes c.set.ensures.update c.set.ensures.edge c.put.ensures.includes c.put.ensures.update c.put.ensures.edge;
  regs = ap (λ (n : Netlist). n.regs) c.put.ensures.update
      ∙ ap (λ (n : Netlist). n.regs) c.set.ensures.update
      ∙ c.stored_net.ensures.logic.wires.regs
      ∙ c.loaded.ensures.logic.wires.regs
      ∙ c.op.ensures.wires.regs
      ∙ ap (λ (n : Netlist). n.regs) c.in_ok-copy.ensures.ok
      ∙ ap (λ (n : Netlist). n.regs ++ c.args.width ∷ []) c.in_ok-array.ensures.made;
  there = net_more c.put.new.self c.reg.new.self (includes_on _ _ _ c.op.ensures.includes (includes_on _ _ _ c.loaded.ensures.logic.includes (includes_on _ _ _ c.stored_net.ensures.logic.includes (includes_on _ _ _ c.set.ensures.includes c.put.ensures.includes)))) c.in_ok-copy.copy c.in_ok-copy.ensures.net;
  wide = width_more c.put.new.self c.reg.new.self (includes_on _ _ _ c.op.ensures.includes (includes_on _ _ _ c.loaded.ensures.logic.includes (includes_on _ _ _ c.stored_net.ensures.logic.includes (includes_on _ _ _ c.set.ensures.includes c.put.ensures.includes)))) c.in_ok-copy.copy c.in_ok-copy.ensures.net.declared ∙ c.in_ok-copy.ensures.width;
}
