use Rattle.std.proofs.Common.{sym, subst, ◌∙◌}
use Rattle.wiring.specs.BufferBits.{IsBufferBits}
use Rattle.wiring.proofs.BitCounts.{same_count}
use Rattle.module_pass.proofs.bits.same_buffer_bits.Goals as goal

pub returns : goal.returns
returns c equal k =
    let old = c.args.old.now.netlist in
    let new = c.args.new.now.netlist in (
      λ is. subst (IsBufferBits new) (sym (same_count old k c.in_ok-before.before is c.in_ok-before.ensures ∙ c.same_number-same.ensures equal)) c.in_ok-after.ensures,
      λ is. subst (IsBufferBits old) (sym (same_count new k c.in_ok-after.after is c.in_ok-after.ensures ∙ sym (c.same_number-same.ensures equal))) c.in_ok-before.ensures,
    )
