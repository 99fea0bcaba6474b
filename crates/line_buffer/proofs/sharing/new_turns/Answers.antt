use Rattle.std.proofs.Common.{◌≡◌, ◌+◌, ◌-◌, ℕ, ap, arith}
use Rattle.dk_base.specs.Numbers.{bit_count}
use Rattle.net_build.specs.Registers.{register_bits, count_bits}
use Rattle.net_build.proofs.Bits.{some_count}
use Rattle.net_build.proofs.Failing.{at_err}
use Rattle.line_buffer.proofs.Counted.{register_push}
use Rattle.line_buffer.proofs.States.{adds_register}
use Rattle.line_buffer.proofs.BlockMade.{made_indices}
use Rattle.line_buffer.proofs.sharing.new_turns.Goals as goal

pub returns : goal.returns
returns c = record {
  adds = adds_register c.cycle.new.b c.args.b.now _ c.in_ok-indices.ensures.adds;
  indices = made_indices c.cycle.new.b _ _ _ c.args.words c.in_ok-indices.indices c.requires.0 (ap (λ (w : ℕ). w - 1) c.from-last.ensures) c.in_ok-indices.ensures.now c.in_ok-indices.ensures.next c.in_ok-indices.ensures.cycles c.in_ok-indices.ensures.now_depth c.in_ok-indices.ensures.next_depth;
  bits = λ two.
      let more : register_bits c.cycle.new.b ≡ register_bits c.args.b.now + bit_count (c.from-last.result - 1) = register_push c.cycle.new.b c.args.b.now _ c.in_ok-indices.ensures.adds.regs in
      let last : c.from-last.result - 1 ≡ c.args.words - 1 = ap (λ (w : ℕ). w - 1) c.from-last.ensures in
      let some : count_bits (c.args.words - 1) ≡ bit_count (c.args.words - 1) = some_count (c.args.words - 1) (omega (arith, two)) in
      omega (arith, more, some, ap bit_count last);
}

pub returns-in_err-indices : goal.returns-in_err-indices
returns-in_err-indices c = at_err _ _ _ c.from_residual.result c.from_residual.ensures.1 c.in_err-indices.ensures
