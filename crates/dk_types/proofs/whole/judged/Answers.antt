use Rattle.std.proofs.Common.{refl, sym, ap, subst, List}
use Rattle.std.specs.List.{All}
use Rattle.dk_parser.specs.Tree.{tree_of, ConvertsToTypes}
use Rattle.std.proofs.lemmas.Result.{err_from_is_err_and}
use Rattle.dk_parser.specs.declared.tree.Input.{Input}
use Rattle.dk_parser.specs.declared.tree.Name.{Name}
use Rattle.dk_parser.specs.declared.tree.Def.{Def}
use Rattle.dk_parser.specs.Programs.{source_of, definitions_as as sources_as}
use Rattle.dk_types.specs.Typed.{TypedProgram, typing_of, parts_of, definitions_as}
use Rattle.dk_types.specs.Scopes.{Scope}
use Rattle.dk_types.specs.Types.{IsTyping, AreInputs, AreDefinitions, AreOutputs}
use Rattle.dk_types.specs.Faults.{IsFirstFault}
use Rattle.dk_types.specs.Faults as F
use Rattle.dk_types.proofs.Rules.{told}
use Rattle.dk_types.proofs.Finds.{bodies_convert, stops_inputs, stops_definitions, stops_outputs, scope_few, same_size}
use Rattle.dk_types.proofs.Kept.{typed_is_kept}
use Rattle.dk_types.proofs.whole.judged.Goals as goal

pub returns-in_err-width : goal.returns-in_err-width
returns-in_err-width c =
    let q = err_from_is_err_and c.from_residual.result c.from_residual.ensures.1 in
    rw (q.1, q.2) (told (IsFirstFault (source_of c.args.program.now)) c.in_err-width.field-0.0 _ _ c.in_err-width.ensures.1 refl (F.width c.in_err-width.ensures.0))

pub returns-in_err-height : goal.returns-in_err-height
returns-in_err-height c =
    let q = err_from_is_err_and c.from_residual-in_err-height.result c.from_residual-in_err-height.ensures.1 in
    rw (q.1, q.2) (told (IsFirstFault (source_of c.args.program.now)) c.in_err-height.field-0.0 _ _ c.in_err-height.ensures.1 refl (F.height c.in_ok-width.ensures.0 c.in_err-height.ensures.0))

pub returns-in_err-inputs : goal.returns-in_err-inputs
returns-in_err-inputs c =
    let q = err_from_is_err_and c.from_residual-in_err-inputs.result c.from_residual-in_err-inputs.ensures.1 in
    rw (q.1, q.2) (stops_inputs (source_of c.args.program.now) c.in_err-inputs.field-0.0 c.in_ok-width.ensures.0 c.in_ok-height.ensures.0 c.deref.result.now c.deref.ensures.value c.in_err-inputs.ensures)

pub definitions-requires-clause-few : goal.definitions-requires-clause-few
definitions-requires-clause-few c = scope_few c.inputs.new.scope c.deref.result.now c.in_ok-inputs.inputs.items c.in_ok-inputs.ensures.0 c.in_ok-inputs.ensures.1

pub returns-in_err-definitions : goal.returns-in_err-definitions
returns-in_err-definitions c =
    let q = err_from_is_err_and c.from_residual-in_err-definitions.result c.from_residual-in_err-definitions.ensures.1 in
    rw (q.1, q.2) (let I : List Input → Type 0 = λ l. AreInputs l c.in_ok-inputs.inputs.items in let is = subst I c.deref.ensures.value c.in_ok-inputs.ensures.0 in stops_definitions (source_of c.args.program.now) c.in_err-definitions.field-0.0 c.in_ok-width.ensures.0 c.in_ok-height.ensures.0 c.in_ok-inputs.inputs.items (sources_as c.deref-2.result.now) is (ap sources_as c.deref-2.ensures.value) (c.in_err-definitions.ensures c.in_ok-inputs.inputs.items c.in_ok-inputs.ensures.1))

pub returns-in_err-outputs : goal.returns-in_err-outputs
returns-in_err-outputs c =
    let q = err_from_is_err_and c.from_residual-in_err-outputs.result c.from_residual-in_err-outputs.ensures.1 in
    rw (q.1, q.2) (let I : List Input → Type 0 = λ l. AreInputs l c.in_ok-inputs.inputs.items in let is = subst I c.deref.ensures.value c.in_ok-inputs.ensures.0 in let D : List Def → Type 0 = λ l. AreDefinitions c.in_ok-inputs.inputs.items (sources_as l) (definitions_as c.in_ok-definitions.definitions.items) in let r = c.in_ok-definitions.ensures c.in_ok-inputs.inputs.items c.in_ok-inputs.ensures.1 in let ds = subst D c.deref-2.ensures.value r.0 in stops_outputs (source_of c.args.program.now) c.in_err-outputs.field-0.0 c.in_ok-width.ensures.0 c.in_ok-height.ensures.0 c.in_ok-inputs.inputs.items (definitions_as c.in_ok-definitions.definitions.items) c.definitions.new.scope c.deref-3.result.now is ds r.1 c.deref-3.ensures.value c.in_err-outputs.ensures)

pub new-requires : goal.new-requires
new-requires c =
    let I : List Input → Type 0 = λ l. AreInputs l c.in_ok-inputs.inputs.items in let is = subst I c.deref.ensures.value c.in_ok-inputs.ensures.0 in let D : List Def → Type 0 = λ l. AreDefinitions c.in_ok-inputs.inputs.items (sources_as l) (definitions_as c.in_ok-definitions.definitions.items) in let r = c.in_ok-definitions.ensures c.in_ok-inputs.inputs.items c.in_ok-inputs.ensures.1 in let ds = subst D c.deref-2.ensures.value r.0 in
    let O : List Name → Type 0 = λ l. AreOutputs c.definitions.new.scope l c.in_ok-outputs.outputs.items in
    let S : Scope → Type 0 = λ z. AreOutputs z c.args.program.now.outputs.items c.in_ok-outputs.outputs.items in
    let os = subst S r.1 (subst O c.deref-3.ensures.value c.in_ok-outputs.ensures) in
    let whole : IsTyping (source_of c.args.program.now) (typing_of (parts_of c.in-Some.size c.in_ok-inputs.inputs.items c.in_ok-definitions.definitions.items c.in_ok-outputs.outputs.items)) = record {
      width = c.in_ok-width.ensures.0;
      height = c.in_ok-height.ensures.0;
      size = same_size _ _ _ _ _ c.in-Some.ensures.size c.in_ok-width.ensures.1 c.in_ok-height.ensures.1;
      inputs = is;
      definitions = ds;
      outputs = os;
    } in
    typed_is_kept (source_of c.args.program.now) _ whole

pub returns : goal.returns
returns c =
    let I : List Input → Type 0 = λ l. AreInputs l c.in_ok-inputs.inputs.items in let is = subst I c.deref.ensures.value c.in_ok-inputs.ensures.0 in let D : List Def → Type 0 = λ l. AreDefinitions c.in_ok-inputs.inputs.items (sources_as l) (definitions_as c.in_ok-definitions.definitions.items) in let r = c.in_ok-definitions.ensures c.in_ok-inputs.inputs.items c.in_ok-inputs.ensures.1 in let ds = subst D c.deref-2.ensures.value r.0 in
    let O : List Name → Type 0 = λ l. AreOutputs c.definitions.new.scope l c.in_ok-outputs.outputs.items in
    let S : Scope → Type 0 = λ z. AreOutputs z c.args.program.now.outputs.items c.in_ok-outputs.outputs.items in
    let os = subst S r.1 (subst O c.deref-3.ensures.value c.in_ok-outputs.ensures) in
    let whole : IsTyping (source_of c.args.program.now) (typing_of (parts_of c.in-Some.size c.in_ok-inputs.inputs.items c.in_ok-definitions.definitions.items c.in_ok-outputs.outputs.items)) = record {
      width = c.in_ok-width.ensures.0;
      height = c.in_ok-height.ensures.0;
      size = same_size _ _ _ _ _ c.in-Some.ensures.size c.in_ok-width.ensures.1 c.in_ok-height.ensures.1;
      inputs = is;
      definitions = ds;
      outputs = os;
    } in
    let V : TypedProgram → Type 0 = λ v. IsTyping (source_of c.args.program.now) (typing_of v) in
    subst V (sym c.new.ensures) whole

pub definitions-requires-clause-converts : goal.definitions-requires-clause-converts
definitions-requires-clause-converts c = let P : List Def → Type 0 = λ l. All (λ (d : Def). ConvertsToTypes (tree_of d.body)) l in subst P (sym c.deref-2.ensures.value) (bodies_convert c.args.program.now.definitions.items c.requires)
