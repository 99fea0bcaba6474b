use Rattle.std.proofs.Common.{◌≡◌, ◌+◌, ◌-◌, ◌∙◌, ℕ, ap, sym, subst, arith}
use Rattle.dk_base.specs.Numbers.{bit_count}
use Rattle.net_build.specs.Registers.{register_bits, count_bits}
use Rattle.net_build.proofs.Bits.{bits_same, no_count, some_count}
use Rattle.net_build.proofs.Failing.{at_err}
use Rattle.line_buffer.specs.SharedCounters.{IsTurn}
use Rattle.line_buffer.proofs.Adding.{adds_logic}
use Rattle.line_buffer.proofs.Counted.{register_push}
use Rattle.line_buffer.proofs.States.{adds_register}
use Rattle.line_buffer.proofs.Turning.{index_counts}
use Rattle.line_buffer.proofs.sharing.new_turn.Goals as goal

pub returns-then-words-eq1 : goal.returns-then-words-eq1
returns-then-words-eq1 c = record {
  adds = adds_logic c.no_turn.new.b c.args.b.now c.no_turn.ensures.logic;
  turn = subst (λ (w : ℕ). IsTurn c.no_turn.new.b w c.in_ok-net.net) (sym c.if-words-eq1.true) c.in_ok-net.ensures.turn;
  bits = let same : register_bits c.no_turn.new.b ≡ register_bits c.args.b.now = bits_same c.no_turn.new.b c.args.b.now c.no_turn.ensures.logic.wires.regs in
      let none : count_bits (c.args.words - 1) ≡ 0 = no_count (c.args.words - 1) (ap (λ (w : ℕ). w - 1) c.if-words-eq1.true) in
      omega (arith, same, none);
}

pub returns : goal.returns
returns c = record {
  adds = adds_register c.counter.new.b c.args.b.now _ c.in_ok-index.ensures.adds;
  turn = record {
    there = c.in_ok-index.ensures.net.there;
    width = c.in_ok-index.ensures.width ∙ ap (λ (w : ℕ). bit_count (w - 1)) c.from-last.ensures;
    counter = index_counts c.counter.new.b _ c.args.words c.in_ok-index.index c.requires.0 (ap (λ (w : ℕ). w - 1) c.from-last.ensures) c.in_ok-index.ensures.counts;
    control = c.in_ok-index.ensures.depth;
  };
  bits = let more : register_bits c.counter.new.b ≡ register_bits c.args.b.now + bit_count (c.from-last.result - 1) = register_push c.counter.new.b c.args.b.now _ c.in_ok-index.ensures.adds.regs in
      let last : (c.from-last.result - 1) ≡ c.args.words - 1 = ap (λ (w : ℕ). w - 1) c.from-last.ensures in
      let some : count_bits (c.args.words - 1) ≡ bit_count (c.args.words - 1) = some_count (c.args.words - 1) (omega (arith, c.requires.0, c.if-words-eq1.false)) in
      omega (arith, more, some, ap bit_count last);
}

pub returns-in_err-net : goal.returns-in_err-net
returns-in_err-net c = at_err _ _ _ c.from_residual.result c.from_residual.ensures.1 c.no_turn.ensures.logic.includes

pub returns-in_err-index : goal.returns-in_err-index
returns-in_err-index c = at_err _ _ _ c.from_residual-in_err-index.result c.from_residual-in_err-index.ensures.1 c.in_err-index.ensures
