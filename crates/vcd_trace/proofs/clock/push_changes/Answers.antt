use Rattle.std.proofs.Common.{◌+◌, ◌∙◌, slice_index_or, arith}
use Rattle.vcd_trace.specs.Layout.{change_lines, text_of}
use Rattle.vcd_trace.proofs.Clocks.{joined, room_first, room_rest, ended, changed_from, changed_step, changed_end}
use Rattle.vcd_trace.proofs.clock.push_changes.Goals as goal

pub push_change-requires-clause-room : goal.push_change-requires-clause-room
push_change-requires-clause-room c =
    let ws = c.args.widths.now in
    let old = c.args.before.now in
    let vs = c.args.values.now in
    let k = c.loop-place.place in
    let own = text_of (change_lines c.index-widths-place.result k (slice_index_or old k 0) (slice_index_or vs k 0)) in
    let step = changed_step ws old vs k c.index-widths-place.result c.requires.before c.requires.values c.loop-place-test.true c.index-widths-place.is in
    omega (arith, room_first c.loop-place.to.len c.args.to.now.cap own (changed_from (k + 1) ws old vs) (changed_from k ws old vs) step c.loop-place.invariant.room, c.loop-place.invariant.capacity)

pub loop-place-preserved : goal.loop-place-preserved
loop-place-preserved c =
    let ws = c.args.widths.now in
    let old = c.args.before.now in
    let vs = c.args.values.now in
    let k = c.loop-place.place in
    let own = text_of (change_lines c.index-widths-place.result k (slice_index_or old k 0) (slice_index_or vs k 0)) in
    let step = changed_step ws old vs k c.index-widths-place.result c.requires.before c.requires.values c.loop-place-test.true c.index-widths-place.is in
    record {
      items = joined c.loop-place.to.items c.push_change.new.to.items own (changed_from (k + 1) ws old vs) (changed_from k ws old vs) _ step c.loop-place.invariant.items c.push_change.ensures.items;
      room = room_rest c.loop-place.to.len c.push_change.new.to.len c.args.to.now.cap own (changed_from (k + 1) ws old vs) (changed_from k ws old vs) step c.loop-place.invariant.room c.push_change.ensures.len;
      capacity = c.push_change.ensures.capacity ∙ c.loop-place.invariant.capacity;
    }

pub returns-clause-items : goal.returns-clause-items
returns-clause-items c =
    ended c.loop-place.to.items (changed_from c.loop-place.place c.args.widths.now c.args.before.now c.args.values.now) _ (changed_end c.args.widths.now c.args.before.now c.args.values.now c.loop-place.place (omega (arith, c.loop-place-test.false))) c.loop-place.invariant.items
