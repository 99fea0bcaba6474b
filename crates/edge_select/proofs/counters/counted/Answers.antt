use Rattle.std.proofs.Common.{◌-◌, rules}
use Rattle.dk_base.specs.Numbers.{bit_count}
use Rattle.wiring.specs.declared.netlist.Holder.TheVariants.{OfNet}
use Rattle.net_build.proofs.Parts.{includes_on}
use Rattle.net_build.proofs.Updating.{free_wires}
use Rattle.edge_select.proofs.Registering.{still_free, column_takes, row_takes, counters_added, both_updated, both_still, pixel_follows, next_taken}
use Rattle.edge_select.proofs.Failing.{at_err}
use Rattle.edge_select.proofs.Levels.{pixel_starts}
use Rattle.edge_select.proofs.counters.counted.Goals as goal

pub set-requires-2-clause-free : goal.set-requires-2-clause-free
set-requires-2-clause-free c =
    still_free c.pixel_values.new.b c.set.new.self _ c.in_ok-pixel.pixel.column c.in_ok-pixel.pixel.row c.in_ok-next.next.column c.in_ok-pixel.ensures.registers.column c.in_ok-pixel.ensures.registers.row c.set.ensures.update
    (free_wires c.pixel_values.new.b c.registers.new.b (OfNet c.in_ok-pixel.pixel.row) c.in_ok-next.ensures.logic.wires c.in_ok-pixel.ensures.registers.row_free)

pub returns-clause-counters : goal.returns-clause-counters
returns-clause-counters c = record {
  includes = includes_on _ _ _ c.registers.ensures.on.includes (includes_on _ _ _ c.in_ok-next.ensures.logic.includes (includes_on _ _ _ c.set.ensures.includes c.set-2.ensures.includes));
  size_is = search rules;
  pixel = search rules;
  column = search rules;
  row = search rules;
  follows = pixel_follows c.args.b.now c.registers.new.b c.pixel_values.new.b c.set.new.self c.set-2.new.self c.in_ok-pixel.pixel c.args.delay (bit_count (c.args.width - 1)) (bit_count (c.args.height - 1))
      c.in_ok-next.next.column c.in_ok-next.next.row c.in_ok-pixel.ensures.registers.ok c.in_ok-pixel.ensures.registers.column c.in_ok-pixel.ensures.registers.row c.in_ok-next.ensures.logic c.set.ensures.update c.set-2.ensures.update c.in_ok-next.ensures.test c.set.ensures.edge c.set-2.ensures.edge;
  counters = counters_added c.args.b.now c.registers.new.b c.pixel_values.new.b c.set.new.self c.set-2.new.self c.in_ok-pixel.pixel c.args.delay (bit_count (c.args.width - 1)) (bit_count (c.args.height - 1))
      c.in_ok-next.next.column c.in_ok-next.next.row c.in_ok-pixel.ensures.registers.ok c.in_ok-pixel.ensures.registers.column c.in_ok-pixel.ensures.registers.row c.in_ok-next.ensures.logic c.set.ensures.update c.set-2.ensures.update c.in_ok-next.ensures.test;
  updated = both_updated c.args.b.now c.registers.new.b c.pixel_values.new.b c.set.new.self c.set-2.new.self c.in_ok-pixel.pixel c.args.delay (bit_count (c.args.width - 1)) (bit_count (c.args.height - 1))
      c.in_ok-next.next.column c.in_ok-next.next.row c.in_ok-pixel.ensures.registers.ok c.in_ok-pixel.ensures.registers.column c.in_ok-pixel.ensures.registers.row c.in_ok-next.ensures.logic c.set.ensures.update c.set-2.ensures.update c.in_ok-next.ensures.test;
  still = λ copies free but. let follows = pixel_follows c.args.b.now c.registers.new.b c.pixel_values.new.b c.set.new.self c.set-2.new.self c.in_ok-pixel.pixel c.args.delay (bit_count (c.args.width - 1)) (bit_count (c.args.height - 1))
      c.in_ok-next.next.column c.in_ok-next.next.row c.in_ok-pixel.ensures.registers.ok c.in_ok-pixel.ensures.registers.column c.in_ok-pixel.ensures.registers.row c.in_ok-next.ensures.logic c.set.ensures.update c.set-2.ensures.update c.in_ok-next.ensures.test c.set.ensures.edge c.set-2.ensures.edge in
      both_still c.args.b.now c.registers.new.b c.pixel_values.new.b c.set.new.self c.set-2.new.self c.in_ok-pixel.pixel c.args.delay (bit_count (c.args.width - 1)) (bit_count (c.args.height - 1))
      c.in_ok-next.next.column c.in_ok-next.next.row c.in_ok-pixel.ensures.registers.ok c.in_ok-pixel.ensures.registers.column c.in_ok-pixel.ensures.registers.row c.in_ok-next.ensures.logic c.set.ensures.update c.set-2.ensures.update c.in_ok-next.ensures.test follows copies free but;
  stops = search rules;
  control = λ copies is. let column = column_takes c.args.b.now c.registers.new.b c.pixel_values.new.b c.set.new.self c.set-2.new.self c.in_ok-pixel.pixel c.args.delay (bit_count (c.args.width - 1)) (bit_count (c.args.height - 1))
      c.in_ok-next.next.column c.in_ok-next.next.row c.in_ok-pixel.ensures.registers.ok c.in_ok-pixel.ensures.registers.column c.in_ok-pixel.ensures.registers.row c.in_ok-next.ensures.logic c.set.ensures.update c.set-2.ensures.update c.in_ok-next.ensures.test in
      let row = row_takes c.args.b.now c.registers.new.b c.pixel_values.new.b c.set.new.self c.set-2.new.self c.in_ok-pixel.pixel c.args.delay (bit_count (c.args.width - 1)) (bit_count (c.args.height - 1))
      c.in_ok-next.next.column c.in_ok-next.next.row c.in_ok-pixel.ensures.registers.ok c.in_ok-pixel.ensures.registers.column c.in_ok-pixel.ensures.registers.row c.in_ok-next.ensures.logic c.set.ensures.update c.set-2.ensures.update c.in_ok-next.ensures.test in
      c.set-2.ensures.control copies (c.set.ensures.control copies (c.in_ok-next.ensures.logic.control copies (c.registers.ensures.on.control copies is)) (column copies is)
      (pixel_starts c.set.new.self c.pixel_values.new.b c.registers.new.b c.in_ok-pixel.pixel c.in_ok-next.next.column _ _ c.in_ok-pixel.ensures.registers.column c.in_ok-pixel.ensures.registers.row c.set.ensures.includes c.in_ok-next.ensures.test.across_depth)) (row copies is)
      (pixel_starts c.set-2.new.self c.pixel_values.new.b c.registers.new.b c.in_ok-pixel.pixel c.in_ok-next.next.row _ _ c.in_ok-pixel.ensures.registers.column c.in_ok-pixel.ensures.registers.row (includes_on _ _ _ c.set.ensures.includes c.set-2.ensures.includes) c.in_ok-next.ensures.test.down_depth);
}

pub returns-clause-next : goal.returns-clause-next
returns-clause-next c =
    next_taken c.args.b.now c.registers.new.b c.pixel_values.new.b c.set.new.self c.set-2.new.self c.in_ok-pixel.pixel c.args.delay (bit_count (c.args.width - 1)) (bit_count (c.args.height - 1))
    c.in_ok-next.next.column c.in_ok-next.next.row c.in_ok-pixel.ensures.registers.ok c.in_ok-pixel.ensures.registers.column c.in_ok-pixel.ensures.registers.row c.in_ok-next.ensures.logic c.set.ensures.update c.set-2.ensures.update c.in_ok-next.ensures.test c.set.ensures.edge c.set-2.ensures.edge

pub returns-in_err-pixel-clause-counters : goal.returns-in_err-pixel-clause-counters
returns-in_err-pixel-clause-counters c = at_err _ _ c.from_residual.result c.from_residual.ensures.1 (c.registers.ensures.on.includes)

pub returns-in_err-next-clause-counters : goal.returns-in_err-next-clause-counters
returns-in_err-next-clause-counters c = at_err _ _ c.from_residual-in_err-next.result c.from_residual-in_err-next.ensures.1 (includes_on _ _ _ c.registers.ensures.on.includes c.in_err-next.ensures.includes)
