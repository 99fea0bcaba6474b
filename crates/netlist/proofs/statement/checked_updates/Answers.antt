use Rattle.std.proofs.Common.{sym, ◌∙◌, refl, ap, length, ◌++◌, arith}
use Rattle.std.specs.Option.{option_to_list}
use Rattle.std.proofs.lemmas.Option.{slice_get_read}
use Rattle.wiring.specs.Netlist.{netlist_of}
use Rattle.netlist.specs.Scopes.{update_named}
use Rattle.netlist.specs.Statements.{IsGoodUpdate}
use Rattle.netlist.proofs.Resolving.{collected_step, before_step, before_end}
use Rattle.netlist.proofs.statement.checked_updates.Goals as goal

pub loop-k-preserved : goal.loop-k-preserved
loop-k-preserved c =
    let at = slice_get_read c.args.named.now (length c.args.named.now) c.loop-k.k c.index-named-k.result refl c.loop-k-test.true c.index-named-k.is in
    record {
      made = collected_step (update_named c.args.scope.now) c.args.named.now c.loop-k.k c.index-named-k.result c.loop-k.updates.items c.keep_update.new.updates.items at c.loop-k.invariant.made
          (c.in_ok-keep_update-in-Ok.ensures ∙ ap (λ o. c.loop-k.updates.items ++ option_to_list o) (sym c.in-Ok.ensures.ok.named));
      good = before_step (IsGoodUpdate c.args.scope.now (netlist_of c.args.wiring.now)) c.args.named.now c.loop-k.k c.index-named-k.result at (c.in-Ok.update, c.in-Ok.ensures.ok) c.loop-k.invariant.good;
    }

pub returns-clause-good : goal.returns-clause-good
returns-clause-good c = before_end (IsGoodUpdate c.args.scope.now (netlist_of c.args.wiring.now)) c.args.named.now c.loop-k.k (omega arith) c.loop-k.invariant.good
