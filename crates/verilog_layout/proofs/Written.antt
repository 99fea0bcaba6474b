-- The layout of a module is written by the grammar, within the limits.
use Rattle.std.proofs.Common.{◌≤◌, [], ◌++◌, map, refl, sym, subst}
use Rattle.wiring.specs.Rules.{KeepsRules}
use Rattle.wiring.specs.BufferBits.{array_bits}
use Rattle.netlist.specs.declared.parts.Direction.TheVariants.{Input as Takes, Output as Gives}
use Rattle.netlist.specs.Names.{NamedNetlist, HasNames, all_inputs, all_outputs}
use Rattle.verilog_text.specs.Lexis.{none, white, HasTokens}
use Rattle.verilog_text.specs.Grammar.{Source}
use Rattle.verilog_layout.specs.Layout.{layout}
use Rattle.verilog_layout.proofs.Named.{named_assign, named_update, named_ports, clock_port, declarations_of, IsSourceOf}
use Rattle.verilog_layout.proofs.Pieces.{Spells, lexes_pieces}
use Rattle.verilog_layout.proofs.Clear.{module_clear, last_line}
use Rattle.verilog_layout.proofs.Text.{pieces_of, layout_is}
use Rattle.verilog_layout.proofs.Modules.{module_parsed}
use Rattle.verilog_layout.proofs.Within.{assigns_fine, updates_fine, declarations_fine, all_ports_fine, clock_fine, total_is}

pub has_source : (m : NamedNetlist) → KeepsRules m.netlist → HasNames m.netlist m.names → array_bits m.netlist.arrays ≤ 67108864 → (s : Source) × IsSourceOf m s
has_source m rules names most =
    let ports = named_ports Takes (all_inputs m.netlist.enable) 0 m.netlist.inputs ++ named_ports Gives all_outputs 0 m.netlist.outputs in
    let assigns = map (named_assign m) m.netlist.assigns in
    let updates = map (named_update m) m.netlist.updates in
    let clear = module_clear m.names.«module» clock_port ports (declarations_of m) assigns updates names.module_name clock_fine (all_ports_fine m rules names) (declarations_fine m rules names) (assigns_fine m rules names) (updates_fine m rules names) in
    let read = lexes_pieces [] (pieces_of m) last_line clear (white refl none) in
    let spells : Spells (layout m) read.0 (pieces_of m) = subst (λ x. Spells x read.0 (pieces_of m)) (sym (layout_is m)) read.2 in
    let tokens : HasTokens (layout m) read.0 = subst (λ x. HasTokens x read.0) (sym (layout_is m)) read.1 in
    let p = module_parsed (layout m) m.names.«module» clock_port ports (declarations_of m) assigns updates read.0 names.module_name clock_fine (all_ports_fine m rules names) (declarations_fine m rules names)
    (assigns_fine m rules names) (updates_fine m rules names) spells in (
      p.source,
      record {
        written = record { tokens = read.0; has_tokens = tokens; is_module = p.phrase };
        limits = p.limits (subst (λ n. n ≤ 67108864) (sym (total_is m)) most);
        name = p.is_name;
        ports = p.are_ports;
        declarations = p.are_declarations;
        assigns = p.are_assigns;
        updates = p.are_updates;
      },
    )
