use Rattle.std.proofs.Common.{rules, ◌<◌, ◌^◌, length, refl, sym, subst}
use Rattle.std.specs.Prelude.{IfSome}
use Rattle.wiring.specs.Netlist.{Netlist, netlist_of}
use Rattle.wiring.specs.Rules.{KeepsRules}
use Rattle.cycle_sim.specs.Slots.{all_widths}
use Rattle.batch_rows.specs.Code.{IsOrdered}
use Rattle.batch_rows.specs.declared.module_code.BatchCode.{BatchCode}
use Rattle.batch_code.specs.Code.{IsBatchCode}
use Rattle.batch_code.specs.Parts.{HasInstructions, HasReads}
use Rattle.batch_code.proofs.Coded.{batch_code_is}
use Rattle.batch_code.proofs.code.batch_code_of.Goals as goal

pub returns : goal.returns
returns c =
    let m : Netlist = netlist_of c.wiring-wiring.result.now in
    let rules_kept = subst (λ (n : Netlist). KeepsRules n) (sym c.wiring-wiring.ensures.netlist) c.wiring-wiring.ensures.rules in
    let code : BatchCode = record {
      widths = c.in_ok-widths.widths;
      first_output = c.layout_of-layout.result.first_output;
      first_reg = c.layout_of-layout.result.first_reg;
      instructions = c.in-Some.instructions;
      reads = c.in-Some-2.reads;
      puts = c.in_ok-puts.puts;
      nexts = c.in_ok-nexts.nexts;
    } in
    let bound : length (all_widths m) < 2 ^ 64 = search rules in
    let instructions : HasInstructions m c.in-Some.instructions.items = subst (λ o. IfSome o (λ v. HasInstructions m v.items)) c.in-Some.is c.in_ok-instructions.ensures.all in
    let ordered : IsOrdered c.in-Some.instructions.items = subst (λ o. IfSome o (λ v. IsOrdered v.items)) c.in-Some.is c.in_ok-instructions.ensures.ordered in
    let reads : HasReads m c.in-Some-2.reads.items = subst (λ o. IfSome o (λ v. HasReads m v.items)) c.in-Some-2.is c.in_ok-reads.ensures in
    subst (λ (n : Netlist). IsBatchCode n code) c.wiring-wiring.ensures.netlist
    (batch_code_is m rules_kept code c.layout_of-layout.result (c.layout_of-layout.ensures bound) c.in_ok-widths.ensures refl refl instructions ordered reads c.in_ok-puts.ensures c.in_ok-nexts.ensures)
