use Rattle.std.proofs.Common.{◌<◌, List, length, subst, sym}
use Rattle.batch_rows.specs.Rights.{AreOperands, HaveRoom}
use Rattle.lane_rows.specs.Values.{values_of}
use Rattle.batch_rows.proofs.Running.{have_operands, value_narrow}
use Rattle.batch_rows.proofs.code.make_row.Goals as goal

pub right_row-requires : goal.right_row-requires
right_row-requires g c =
    let widths = c.args.widths.now in
    let rows = values_of c.args.rows.now in
    let scratch = c.args.scratch.now in
    let i = c.args.instruction.now in
    let one = c.requires.one in
    record {
      operands = subst (λ (r : List g.row.L.Denot). AreOperands g.L.Lane.bits widths rows (length r) i.right) (sym c.deref_mut.ensures.value) (have_operands widths (length scratch.to.items) rows one.rows g.L.Lane.bits i one.sound one.sized);
      agree = one.sound.agree;
      plain = one.sound.plain;
      fits = λ t l. value_narrow widths (length scratch.to.items) rows one.rows g.L.Lane.bits i one.sound one.sized.target t (subst (λ (r : List g.row.L.Denot). t < length r) c.deref_mut.ensures.value l);
      room = subst (λ (r : List g.row.L.Denot). HaveRoom scratch.spares (length r)) (sym c.deref_mut.ensures.value) c.requires.scratch.1;
    }
