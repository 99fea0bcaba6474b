use Rattle.std.proofs.Common.{◌≡◌, ◌∙◌, [], ◌∷◌, length, length-append, arith, false, refl, ap, subst, sym, rules}
use Rattle.wiring.specs.Netlist.{Netlist}
use Rattle.std.specs.Prelude.{unwrap_or}
use Rattle.std.specs.Option.{option_map}
use Rattle.wiring.specs.declared.right.Atom.TheVariants as atom
use Rattle.wiring.specs.declared.netlist.Shape.{Shape}
use Rattle.net_build.specs.Includes.{Includes}
use Rattle.net_build.proofs.Parts.{includes_on}
use Rattle.net_build.proofs.Grown.{net_more, width_more}
use Rattle.net_build.proofs.Operands.{net_operand, operand_more, word_operation}
use Rattle.net_build.proofs.Failing.{at_err}
use Rattle.line_buffer.proofs.Counted.{counts_wires, counts_short}
use Rattle.line_buffer.proofs.Shared.{turn_more, turns_more}
use Rattle.line_buffer.proofs.Indexed.{line_once}
use Rattle.line_buffer.proofs.LineMade.{line_is, first_is, line_adds, word_made}
use Rattle.line_buffer.proofs.lines.delay_line.Goals as goal

pub op-requires : goal.op-requires
op-requires c =
    word_operation c.array.new.self c.in_ok-array.array (atom.Net c.in_ok-index.index) _ (record { width = c.args.width; depth = c.args.words }) c.in_ok-array.ensures.shape c.requires.feed.bits
    (operand_more c.array.new.self c.turning_index.new.b (atom.Net c.in_ok-index.index) _ c.in_ok-array.ensures.includes (net_operand c.turning_index.new.b c.in_ok-index.index _ c.in_ok-index.ensures.turn.there c.in_ok-index.ensures.turn.width))

pub stored_net-requires : goal.stored_net-requires
stored_net-requires c = record {
  now = c.in_ok-word.ensures.net;
  next = net_more c.op.new.self c.args.b.now (includes_on _ _ _ c.in_ok-index.ensures.adds.includes (includes_on _ _ _ c.in_ok-array.ensures.includes c.op.ensures.includes)) c.args.value c.requires.feed.there;
  now_width = c.in_ok-word.ensures.width ∙ ap (λ o. unwrap_or (option_map (λ (s : Shape). s.width) o) 0) c.in_ok-array.ensures.shape;
  next_width = width_more c.op.new.self c.args.b.now (includes_on _ _ _ c.in_ok-index.ensures.adds.includes (includes_on _ _ _ c.in_ok-array.ensures.includes c.op.ensures.includes)) c.args.value c.requires.feed.there.declared ∙ c.requires.feed.wide;
  wide = c.requires.feed.bits;
}

pub put-requires : goal.put-requires
put-requires c = record {
  array =
      let shape : Shape = record { width = c.args.width; depth = c.args.words } in
      omega (arith, ap length (c.stored_net.ensures.logic.wires.arrays ∙ c.op.ensures.wires.arrays), c.in_ok-array.ensures.number, ap (λ (n : Netlist). length n.arrays) c.in_ok-array.ensures.made, length-append c.turning_index.new.b.arrays (shape ∷ []));
  index = net_more c.stored_net.new.b c.turning_index.new.b (includes_on _ _ _ c.in_ok-array.ensures.includes (includes_on _ _ _ c.op.ensures.includes c.stored_net.ensures.logic.includes)) c.in_ok-index.index c.in_ok-index.ensures.turn.there;
  value = c.in_ok-stored.ensures.net.net;
  width = search rules;
  free = search rules;
}

pub returns-in_err-index : goal.returns-in_err-index
returns-in_err-index c = at_err _ _ _ c.from_residual.result c.from_residual.ensures.1 c.in_err-index.ensures

pub returns-in_err-array : goal.returns-in_err-array
returns-in_err-array c = at_err _ _ _ c.from_residual-in_err-array.result c.from_residual-in_err-array.ensures.1 (subst (λ (n : Netlist). Includes n c.args.b.now) (sym c.in_err-array.ensures) c.in_ok-index.ensures.adds.includes)

pub returns-in_err-word : goal.returns-in_err-word
returns-in_err-word c = at_err _ _ _ c.from_residual-in_err-word.result c.from_residual-in_err-word.ensures.1 (includes_on _ _ _ c.in_ok-index.ensures.adds.includes (includes_on _ _ _ c.in_ok-array.ensures.includes c.op.ensures.includes))

pub returns-in_err-stored : goal.returns-in_err-stored
returns-in_err-stored c = at_err _ _ _ c.from_residual-in_err-stored.result c.from_residual-in_err-stored.ensures.1 (includes_on _ _ _ c.in_ok-index.ensures.adds.includes (includes_on _ _ _ c.in_ok-array.ensures.includes (includes_on _ _ _ c.op.ensures.includes c.stored_net.ensures.logic.includes)))

pub returns : goal.returns
returns c = record {
  turns = turns_more c.put.new.self c.turning_index.new.b c.turning_index.new.turns (includes_on _ _ _ c.in_ok-array.ensures.includes (includes_on _ _ _ c.op.ensures.includes (includes_on _ _ _ c.stored_net.ensures.logic.includes c.put.ensures.includes))) c.in_ok-index.ensures.turns;
  line = let grown : Includes c.put.new.self c.turning_index.new.b = includes_on _ _ _ c.in_ok-array.ensures.includes (includes_on _ _ _ c.op.ensures.includes (includes_on _ _ _ c.stored_net.ensures.logic.includes c.put.ensures.includes)) in
      record {
        adds = line_adds c.args.b.now c.turning_index.new.b c.array.new.self c.op.new.self c.stored_net.new.b c.put.new.self c.args.width c.args.words c.in_ok-array.array c.in_ok-index.index c.args.value c.in_ok-word.word c.in_ok-stored.stored c.in_ok-index.ensures.adds c.in_ok-index.ensures.turn.counter c.in_ok-index.ensures.turn.control c.requires.feed.deep.0
            c.in_ok-array.ensures.made c.in_ok-array.ensures.number c.in_ok-array.ensures.shape c.in_ok-array.ensures.includes c.op.ensures.includes c.in_ok-word.ensures.ok c.op.ensures.wires c.in_ok-word.ensures.value c.stored_net.ensures.logic c.in_ok-stored.ensures.net c.put.ensures.includes c.put.ensures.update c.put.ensures.edge c.in_ok-word.ensures.made c.in_ok-stored.ensures.right;
        array = first_is c.args.b.now c.turning_index.new.b c.array.new.self c.op.new.self c.stored_net.new.b c.put.new.self c.args.width c.args.words c.in_ok-array.array c.in_ok-index.index c.args.value c.in_ok-word.word c.in_ok-stored.stored c.in_ok-index.ensures.adds c.in_ok-index.ensures.turn.counter c.in_ok-index.ensures.turn.control c.requires.feed.deep.0
            c.in_ok-array.ensures.made c.in_ok-array.ensures.number c.in_ok-array.ensures.shape c.in_ok-array.ensures.includes c.op.ensures.includes c.in_ok-word.ensures.ok c.op.ensures.wires c.in_ok-word.ensures.value c.stored_net.ensures.logic c.in_ok-stored.ensures.net c.put.ensures.includes c.put.ensures.update c.put.ensures.edge c.in_ok-word.ensures.made c.in_ok-stored.ensures.right;
        delays = line_is c.args.b.now c.turning_index.new.b c.array.new.self c.op.new.self c.stored_net.new.b c.put.new.self c.args.width c.args.words c.in_ok-array.array c.in_ok-index.index c.args.value c.in_ok-word.word c.in_ok-stored.stored c.in_ok-index.ensures.adds c.in_ok-index.ensures.turn.counter c.in_ok-index.ensures.turn.control c.requires.feed.deep.0
            c.in_ok-array.ensures.made c.in_ok-array.ensures.number c.in_ok-array.ensures.shape c.in_ok-array.ensures.includes c.op.ensures.includes c.in_ok-word.ensures.ok c.op.ensures.wires c.in_ok-word.ensures.value c.stored_net.ensures.logic c.in_ok-stored.ensures.net c.put.ensures.includes c.put.ensures.update c.put.ensures.edge c.in_ok-word.ensures.made c.in_ok-stored.ensures.right;
        once = line_once c.args.b.now c.turning_index.new.b c.array.new.self c.op.new.self c.stored_net.new.b c.put.new.self (record { width = c.args.width; depth = c.args.words }) c.in_ok-array.array c.in_ok-index.index c.in_ok-stored.stored c.in_ok-word.word c.in_ok-index.ensures.adds c.law.ensures.draft
            c.in_ok-array.ensures.number c.in_ok-array.ensures.made c.in_ok-array.ensures.free c.in_ok-word.ensures.made c.in_ok-word.ensures.ok c.op.ensures.wires c.stored_net.ensures.logic c.put.ensures.update;
        word = net_more c.put.new.self c.op.new.self (includes_on _ _ _ c.stored_net.ensures.logic.includes c.put.ensures.includes) c.in_ok-word.word c.in_ok-word.ensures.net;
        word_width = width_more c.put.new.self c.op.new.self (includes_on _ _ _ c.stored_net.ensures.logic.includes c.put.ensures.includes) c.in_ok-word.word c.in_ok-word.ensures.net.declared
            ∙ c.in_ok-word.ensures.width
            ∙ ap (λ o. unwrap_or (option_map (λ (s : Shape). s.width) o) 0) c.in_ok-array.ensures.shape;
        index = turn_more c.put.new.self c.turning_index.new.b c.args.words c.in_ok-index.index grown c.in_ok-index.ensures.turn;
        made = word_made c.args.b.now c.turning_index.new.b c.array.new.self c.op.new.self c.stored_net.new.b c.put.new.self c.args.width c.args.words c.in_ok-array.array c.in_ok-index.index c.args.value c.in_ok-word.word c.in_ok-stored.stored c.in_ok-index.ensures.adds c.in_ok-index.ensures.turn.counter c.in_ok-index.ensures.turn.control c.requires.feed.deep.0
            c.in_ok-array.ensures.made c.in_ok-array.ensures.number c.in_ok-array.ensures.shape c.in_ok-array.ensures.includes c.op.ensures.includes c.in_ok-word.ensures.ok c.op.ensures.wires c.in_ok-word.ensures.value c.stored_net.ensures.logic c.in_ok-stored.ensures.net c.put.ensures.includes c.put.ensures.update c.put.ensures.edge c.in_ok-word.ensures.made c.in_ok-stored.ensures.right;
      };
  counts = let same : c.put.new.self.regs ≡ c.turning_index.new.b.regs =
      ap (λ (b : Netlist). b.regs) c.put.ensures.update
      ∙ c.stored_net.ensures.logic.wires.regs
      ∙ c.op.ensures.wires.regs
      ∙ ap (λ (b : Netlist). b.regs) c.in_ok-array.ensures.made in
      counts_wires c.put.new.self c.turning_index.new.b c.args.b.now c.turning_index.new.turns c.args.turns.now (λ words. false) ((record { width = c.args.width; depth = c.args.words }) ∷ []) same
      (counts_short c.turning_index.new.b c.args.b.now c.turning_index.new.turns c.args.turns.now (λ words. false) c.args.width c.args.words refl c.in_ok-index.ensures.lines c.in_ok-index.ensures.blocks c.in_ok-index.ensures.bits);
}
