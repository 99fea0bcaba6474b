use Rattle.std.proofs.Common.{sym, ◌∙◌, refl, ap, length, ◌++◌, arith}
use Rattle.std.specs.Option.{option_to_list}
use Rattle.std.proofs.lemmas.Option.{slice_get_read}
use Rattle.wiring.specs.Netlist.{netlist_of}
use Rattle.netlist.specs.Scopes.{assign_named}
use Rattle.netlist.specs.Statements.{IsGoodAssign}
use Rattle.netlist.proofs.Resolving.{collected_step, before_step, before_end}
use Rattle.netlist.proofs.statement.checked_assigns.Goals as goal

pub loop-k-preserved : goal.loop-k-preserved
loop-k-preserved c =
    let at = slice_get_read c.args.named.now (length c.args.named.now) c.loop-k.k c.index-named-k.result refl c.loop-k-test.true c.index-named-k.is in
    record {
      made = collected_step (assign_named c.args.scope.now) c.args.named.now c.loop-k.k c.index-named-k.result c.loop-k.assigns.items c.keep_assign.new.assigns.items at c.loop-k.invariant.made
          (c.in_ok-keep_assign-in-Ok.ensures ∙ ap (λ o. c.loop-k.assigns.items ++ option_to_list o) (sym c.in-Ok.ensures.ok.named));
      good = before_step (IsGoodAssign c.args.scope.now (netlist_of c.args.wiring.now)) c.args.named.now c.loop-k.k c.index-named-k.result at (c.in-Ok.assign, c.in-Ok.ensures.ok) c.loop-k.invariant.good;
    }

pub returns-clause-good : goal.returns-clause-good
returns-clause-good c = before_end (IsGoodAssign c.args.scope.now (netlist_of c.args.wiring.now)) c.args.named.now c.loop-k.k (omega arith) c.loop-k.invariant.good
