use Rattle.std.proofs.Common.{◌≡◌, ℕ, ◌≤◌, ◌+◌, List, length}
use Rattle.netlist.specs.Names.{NamedNetlist}
use Rattle.cycle_sim.specs.Slots.{all_widths, words_of}
use Rattle.vcd_trace.specs.Layout.{AreValues}
use Rattle.vcd_trace.specs.Header.{header_text}
use Rattle.dk_grammar.specs.Lines.{IsAtLine}
use Rattle.vcd_trace.specs.Steps.{AtTime}
use Rattle.vcd_trace.proofs.again.read_clocks.Given as goal

abbrev pub invariant-clocks : goal.invariant-clocks
invariant-clocks l = record {
  reads : (m : NamedNetlist) (text : List ℕ) → all_widths m.netlist ≡ l.widths → IsAtLine text (header_text m) l.bytes l.number
      → AtTime m text l.rest l.line_number l.first l.time l.before.items (words_of l.rows.items);
  fits : AreValues l.widths l.before.items;
  count : l.line_number + length l.rest ≤ l.number + length l.bytes;
  time : l.time + length l.rest ≤ length l.bytes;
}

abbrev pub decreases-clocks : goal.decreases-clocks
decreases-clocks l = length l.rest
