use Rattle.std.proofs.Common.{◌+◌, ◌++◌, ◌∷◌, [], ◌∙◌, slice_index_or, arith}
use Rattle.vcd_trace.specs.Layout.{value_line}
use Rattle.vcd_trace.proofs.Clocks.{joined, room_first, room_rest, length_line, ended, all_from, all_step, all_end}
use Rattle.vcd_trace.proofs.clock.push_all.Goals as goal

pub push_value-requires-clause-room : goal.push_value-requires-clause-room
push_value-requires-clause-room c =
    let ws = c.args.widths.now in
    let vs = c.args.values.now in
    let k = c.loop-place.place in
    let line = value_line c.index-widths-place.result k (slice_index_or vs k 0) in
    let step = all_step ws vs k c.index-widths-place.result c.requires.values c.loop-place-test.true c.index-widths-place.is in
    omega (arith, room_first c.loop-place.to.len c.args.to.now.cap (line ++ 10 ∷ []) (all_from (k + 1) ws vs) (all_from k ws vs) step c.loop-place.invariant.room, length_line line, c.loop-place.invariant.capacity)

pub loop-place-preserved : goal.loop-place-preserved
loop-place-preserved c =
    let ws = c.args.widths.now in
    let vs = c.args.values.now in
    let k = c.loop-place.place in
    let line = value_line c.index-widths-place.result k (slice_index_or vs k 0) in
    let step = all_step ws vs k c.index-widths-place.result c.requires.values c.loop-place-test.true c.index-widths-place.is in
    record {
      items = joined c.loop-place.to.items c.push_value.new.to.items (line ++ 10 ∷ []) (all_from (k + 1) ws vs) (all_from k ws vs) _ step c.loop-place.invariant.items c.push_value.ensures.items;
      room = room_rest c.loop-place.to.len c.push_value.new.to.len c.args.to.now.cap (line ++ 10 ∷ []) (all_from (k + 1) ws vs) (all_from k ws vs) step c.loop-place.invariant.room (omega (arith, c.push_value.ensures.len, length_line line));
      capacity = c.push_value.ensures.capacity ∙ c.loop-place.invariant.capacity;
    }

pub returns-clause-items : goal.returns-clause-items
returns-clause-items c =
    ended c.loop-place.to.items (all_from c.loop-place.place c.args.widths.now c.args.values.now) _ (all_end c.args.widths.now c.args.values.now c.loop-place.place (omega (arith, c.loop-place-test.false))) c.loop-place.invariant.items
