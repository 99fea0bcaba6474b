use Rattle.std.proofs.Common.{◌≡◌, length, refl, Some, arith}
use Rattle.std.specs.Prelude.{slice_get}
use Rattle.std.proofs.lemmas.Option.{slice_get_read}
use Rattle.batch_rows.proofs.FirstUses.{uses_none, uses_on, uses_all}
use Rattle.batch_rows.proofs.uses.note_code.Goals as goal

pub loop-number-init : goal.loop-number-init
loop-number-init c = uses_none c.args.code.now c.args.uses.now

pub loop-number-preserved : goal.loop-number-preserved
loop-number-preserved c =
    let code = c.args.code.now in
    let k = c.loop-number.number in
    let i = c.index-code-number.result in
    let at : slice_get code k ≡ Some i = slice_get_read code (length code) k i refl c.loop-number-test.true c.index-code-number.is in
    uses_on c.loop-number.uses c.note_instruction.new.uses k code c.loop-number.invariant i at c.note_instruction.ensures.right.last c.note_instruction.ensures.right.used c.note_instruction.ensures.target

pub returns : goal.returns
returns c = uses_all c.args.code.now c.loop-number.uses c.loop-number.number (omega (arith, c.loop-number-test.false)) c.loop-number.invariant
