-- What a tracer keeps.
use Rattle.std.specs.Prelude.{◌≡◌, ℕ, ◌≤◌, List, length, replicate, vec_capacity}
use Rattle.wiring.specs.Rules.{KeepsRules}
use Rattle.wiring.specs.Order.{IsEvaluationOrder}
use Rattle.netlist.specs.Names.{NamedNetlist}
use Rattle.cycle_sim.specs.declared.fill.Fill.{Fill}
use Rattle.cycle_sim.specs.Slots.{all_widths}
use Rattle.cycle_sim.specs.Ports.{din_widths}
use Rattle.cycle_sim.specs.Filled.{filled_contents}
use Rattle.vcd_trace.specs.Header.{header_text}
use Rattle.vcd_trace.specs.Told.{room_of}
use Rattle.trace_bench.specs.declared.tracer.Tracer.{Tracer}

-- a place for each value, and room for the text of a clock
pub record IsTracing (t : Tracer) : Type 0 where
  pub rules : KeepsRules t.sim.netlist
  pub order : List ℕ
  pub ordered : IsEvaluationOrder t.sim.netlist.assigns order
  pub widths : t.trace.widths ≡ all_widths t.sim.netlist
  pub made : t.trace.time ≡ t.made
  pub values : length t.values.items ≡ length (all_widths t.sim.netlist)
  pub room : room_of (all_widths t.sim.netlist) ≤ vec_capacity t.text
  pub dins : length t.dins.items ≡ length (din_widths t.sim.netlist)

-- a tracer of a module with these contents at power-up, before the reset clock
pub record IsTracer (m : NamedNetlist) (fill : Fill) (t : Tracer) : Type 0 where
  pub tracing : IsTracing t
  pub netlist : t.sim.netlist ≡ m.netlist
  pub contents : t.sim.contents ≡ filled_contents fill m.netlist
  pub header : t.header.items ≡ header_text m
  pub start : t.made ≡ 0
  pub zeros : t.dins.items ≡ replicate (length (din_widths m.netlist)) 0
