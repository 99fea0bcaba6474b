use Rattle.std.proofs.Common.{sym, ap, ◌∙◌, subst, [], ◌∷◌, List, take, arith, append-nil, length, length-append}
use Rattle.std.proofs.lemmas.Result.{err_from_is_err_and}
use Rattle.dk_parser.specs.Programs.{definition_of as source_of, definitions_as as sources_as}
use Rattle.dk_types.specs.declared.typed.TypedDefinition.{TypedDefinition}
use Rattle.dk_types.specs.Sequences.{none}
use Rattle.dk_types.specs.Typed.{definition_of, definitions_as}
use Rattle.dk_types.specs.Scopes.{inputs_scope, scope_of}
use Rattle.dk_types.specs.Types.{IsDefinition, AreDefinitions}
use Rattle.dk_types.specs.Faults.{DefinitionFault}
use Rattle.dk_types.proofs.Places.{sources_behind, definitions_behind, definitions_long}
use Rattle.dk_types.proofs.Sequences.{around, more_at, fails_at}
use Rattle.dk_types.proofs.items.definitions.Goals as goal

pub loop-item-init : goal.loop-item-init
loop-item-init c = record {
  kept = λ is e. let P : List TypedDefinition → Type 0 = λ l. AreDefinitions is [] (definitions_as l) in subst P (sym c.new-done.ensures.items) none;
  names = λ is e. e ∙ (sym (append-nil (inputs_scope is)) ∙ ap (λ l. scope_of is (definitions_as l)) (sym c.new-done.ensures.items));
  long = omega (arith, c.requires.few);
}

pub returns-in_err-typed : goal.returns-in_err-typed
returns-in_err-typed c = λ is e.
    let p = err_from_is_err_and c.from_residual.result c.from_residual.ensures.1 in
    let a = around c.args.items.now c.loop-item.item-index c.item-item.result c.loop-item-test.true c.item-item.is in
    let before = take c.loop-item.item-index c.args.items.now in
    let long = definitions_long c.loop-item.done.items ∙ sym (c.len.ensures ∙ c.loop-item.done.ok.0) in
    rw (p.1, p.2) (fails_at (IsDefinition is) (DefinitionFault is) (sources_as before) _ (sources_as c.args.items.now) (source_of c.item-item.result) (definitions_as c.loop-item.done.items) c.in_err-typed.field-0.0
    (ap sources_as a.whole ∙ sources_behind before _)
    (c.loop-item.invariant.kept is e) (c.in_err-typed.ensures.judged is (sources_as before) (definitions_as c.loop-item.done.items) long (c.loop-item.invariant.names is e)))

pub loop-item-preserved : goal.loop-item-preserved
loop-item-preserved c =
    let a = around c.args.items.now c.loop-item.item-index c.item-item.result c.loop-item-test.true c.item-item.is in
    let before = take c.loop-item.item-index c.args.items.now in
    let long = definitions_long c.loop-item.done.items ∙ sym (c.len.ensures ∙ c.loop-item.done.ok.0) in
    let made = definitions_behind c.loop-item.done.items _ c.in_ok-typed.typed c.in_ok-push.ensures.items in
    record {
      kept = λ is e.
          let r = c.in_ok-typed.ensures.judged is (sources_as before) (definitions_as c.loop-item.done.items) long (c.loop-item.invariant.names is e) in
          more_at (IsDefinition is) (sources_as before) _ (source_of c.item-item.result) (definitions_as c.loop-item.done.items) _ (definition_of c.in_ok-typed.typed)
          (ap sources_as a.upto ∙ sources_behind before (c.item-item.result ∷ [])) (c.loop-item.invariant.kept is e) r.0 made;
      names = λ is e.
          let r = c.in_ok-typed.ensures.judged is (sources_as before) (definitions_as c.loop-item.done.items) long (c.loop-item.invariant.names is e) in
          r.1 ∙ ap (scope_of is) (sym made);
      long = let l = ap length c.in_ok-push.ensures.items ∙ length-append c.loop-item.done.items (c.in_ok-typed.typed ∷ []) in omega (arith, c.in_ok-typed.ensures.one_more, c.loop-item.invariant.long, l);
    }
