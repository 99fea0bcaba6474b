use Rattle.std.proofs.Common.{◌≡◌, ◌∙◌, true, false, sym, subst, refl}
use Rattle.wiring.specs.declared.right.Atom.TheVariants as atom
use Rattle.wiring.specs.declared.right.Right.TheVariants.{Choose}
use Rattle.wiring.specs.declared.netlist.Net.{Net}
use Rattle.net_build.proofs.Logic.{logic_none, logic_op}
use Rattle.net_build.proofs.Counting.{held_is}
use Rattle.net_build.proofs.Depth.{within_wire}
use Rattle.net_build.proofs.Operands.{net_operand, choose_operation}
use Rattle.line_buffer.specs.Fills.{HasRight}
use Rattle.line_buffer.proofs.lines.stored_net.Goals as goal

pub op-requires : goal.op-requires
op-requires c =
    choose_operation c.args.b.now (atom.Net c.en-en.result) (atom.Net c.args.next) (atom.Net c.args.now) c.args.bits c.requires.wide (net_operand c.args.b.now c.en-en.result 1 c.en-en.ensures.net c.en-en.ensures.width)
    (net_operand c.args.b.now c.args.next c.args.bits c.requires.next c.requires.next_width) (net_operand c.args.b.now c.args.now c.args.bits c.requires.now c.requires.now_width)

pub returns-then-has_en-clause-logic : goal.returns-then-has_en-clause-logic
returns-then-has_en-clause-logic c = logic_op c.args.b.now c.op.new.self (Choose (atom.Net c.en-en.result) (atom.Net c.args.next) (atom.Net c.args.now)) refl c.op.ensures.includes c.in_ok-net.ensures.ok c.op.ensures.wires c.op.ensures.stops c.op.ensures.control

pub returns-then-has_en-clause-net : goal.returns-then-has_en-clause-net
returns-then-has_en-clause-net c =
    held_is c.args.b.now c.op.new.self c.args.b.now.enable c.args.now c.args.next c.en-en.result c.in_ok-net.net c.args.bits (sym c.has_en.ensures ∙ c.if-has_en.true) c.en-en.ensures.enable c.op.ensures.includes c.en-en.ensures.net c.en-en.ensures.width
    c.requires.now c.requires.now_width c.requires.next c.requires.next_width (record { net = c.in_ok-net.ensures.net; width = c.in_ok-net.ensures.width; value = c.in_ok-net.ensures.value; made_of = c.in_ok-net.ensures.made_of; within = λ base j all. within_wire c.op.new.self c.in_ok-net.net (Choose (atom.Net c.en-en.result) (atom.Net c.args.next) (atom.Net c.args.now)) base j c.in_ok-net.ensures.made all })

pub returns-then-has_en-clause-right : goal.returns-then-has_en-clause-right
returns-then-has_en-clause-right c = record {
  plain = λ off. (let on : c.op.new.self.enable ≡ true = c.op.ensures.includes.enable ∙ sym c.has_en.ensures ∙ c.if-has_en.true in cc);
  held = λ on. subst (λ (n : Net). HasRight c.op.new.self c.in_ok-net.net (Choose (atom.Net n) (atom.Net c.args.next) (atom.Net c.args.now))) c.en-en.ensures.enable c.in_ok-net.ensures.made;
}

pub returns-clause-logic : goal.returns-clause-logic
returns-clause-logic c = logic_none c.args.b.now

pub returns-clause-right : goal.returns-clause-right
returns-clause-right c = record { plain = λ off. refl; held = λ on. (let off : c.args.b.now.enable ≡ false = sym c.has_en.ensures ∙ c.if-has_en.false in cc) }
