use Rattle.std.proofs.Common.{◌≡◌, [], ◌<◌, length, refl, sym, ◌∙◌, arith, Some}
use Rattle.std.specs.Prelude.{slice_get, slice_index_or}
use Rattle.std.proofs.lemmas.List.{length-map}
use Rattle.std.proofs.lemmas.Option.{slice_get_read, slice_get-get_or}
use Rattle.wiring.proofs.Lists.{All-at}
use Rattle.lane_rows.specs.Values.{row_values, values_of}
use Rattle.lane_rows.specs.declared.row.Size.TheVariants.{Narrow}
use Rattle.batch_rows.specs.Code.{IsSound}
use Rattle.batch_rows.proofs.Running.{rows_on, hold_on, lanes_on}
use Rattle.batch_rows.proofs.code.run_code.Goals as goal

pub run_instruction-requires-clause-one : goal.run_instruction-requires-clause-one
run_instruction-requires-clause-one c =
    let code = c.args.code.now.instructions.now in
    let sizes = c.args.code.now.sizes.now in
    let k = c.loop-k.k in
    let i = c.index-instructions-k.result in
    let inside : k < length code = omega (arith, c.loop-k-test.true, c.requires.places.within) in
    let at : slice_get code k ≡ Some i = slice_get_read code (length code) k i refl inside c.index-instructions-k.is in
    record {
      sound = All-at (IsSound c.args.code.now.widths.now) code k i c.requires.code.sound at;
      sized = c.requires.code.sized.each k i (slice_index_or sizes k Narrow) at (slice_get-get_or sizes k Narrow (omega (arith, inside, c.requires.code.sized.count)));
      rows = c.loop-k.invariant.run.ran.rows;
    }

pub loop-k-preserved : goal.loop-k-preserved
loop-k-preserved c =
    let widths = c.args.code.now.widths.now in
    let code = c.args.code.now.instructions.now in
    let k = c.loop-k.k in
    let i = c.index-instructions-k.result in
    let at : slice_get code k ≡ Some i = slice_get_read code (length code) k i refl (omega (arith, c.loop-k-test.true, c.requires.places.within)) c.index-instructions-k.is in
    let sound : IsSound widths i = All-at (IsSound widths) code k i c.requires.code.sound at in
    let count = c.args.count in
    let before = c.loop-k.rows in
    let after = c.run_instruction.new.rows in
    let old = values_of before in
    let new = values_of after in
    let row = slice_index_or new i.target [] in
    let ran = c.loop-k.invariant.run.ran in
    let put = c.run_instruction.ensures.put in
    let size : length new ≡ length old = length-map after row_values ∙ put.count ∙ sym (length-map before row_values) in
    record {
      rooms = c.run_instruction.ensures.rooms;
      run = record {
        bits = put.bits ∙ c.loop-k.invariant.run.bits;
        count = put.count ∙ c.loop-k.invariant.run.count;
        ran = record {
          rows = rows_on widths count old ran.rows new i sound size row put.long refl put.others put.row;
          lanes = lanes_on widths before after put.count put.bits ran.lanes;
          hold = hold_on widths count old ran.rows new i sound size row put.long refl put.others put.row code k c.requires.code.ordered at ran.hold;
        };
        others = λ n none. put.others n (none k i at) ∙ c.loop-k.invariant.run.others n none;
      };
    }
