-- From the parts of a program to the whole.
use Rattle.std.proofs.Common.{◌≡◌, ℕ, ◌≤◌, ◌⊎◌, inl, inr, List, [], ◌∷◌, length, Result, Ok, Err, MatchResult, refl, ap, ◌∙◌, subst, arith}
use Rattle.std.specs.Result.{IsErrAnd}
use Rattle.std.specs.List.{All, AllByRecursion}
use Rattle.std.proofs.lemmas.List.Elements.{All-from_recursion, recursion_from_All}
use Rattle.dk_base.specs.Frames.{Size}
use Rattle.dk_parser.specs.declared.tree.Input.{Input}
use Rattle.dk_parser.specs.declared.tree.Name.{Name}
use Rattle.dk_parser.specs.declared.tree.Def.{Def}
use Rattle.dk_parser.specs.Tree.{tree_of, ConvertsToTypes}
use Rattle.dk_parser.specs.Programs.{Source, definitions_as as sources_as}
use Rattle.dk_parser.specs.Programs as P
use Rattle.dk_types.specs.declared.fault.TypeFault.{TypeFault}
use Rattle.dk_types.specs.declared.fault.TypeError.{TypeError}
use Rattle.dk_types.specs.declared.fault.TypeError.TheVariants.{Fault, OutOfMemory}
use Rattle.dk_types.specs.declared.typed.TypedInput.{TypedInput}
use Rattle.dk_types.specs.Typed.{Definition, Typing}
use Rattle.dk_types.specs.Scopes.{Scope, inputs_scope, scope_of}
use Rattle.dk_types.specs.Types.{IsSide, AreInputs, AreDefinitions, IsTyping}
use Rattle.dk_types.specs.Faults.{Stops, FaultyInputs, FaultyDefinitions, FaultyOutputs, IsFirstFault}
use Rattle.dk_types.specs.Faults as F
use Rattle.dk_types.proofs.Kept.{inputs_few}
use Rattle.dk_types.proofs.Places.{inputs_long}
use Rattle.dk_types.proofs.Programs.{one_type, one_fault, never_both}

module _ (p : Source) (x : TypeError) (w : IsSide p.width.value) (h : IsSide p.height.value) where
  pub stops_inputs : (is : List Input) → is ≡ p.inputs → Stops (FaultyInputs is) x → Stops (IsFirstFault p) x
  stops_inputs is e s = let R : List Input → Type 0 = λ l. Stops (FaultyInputs l) x in by x (subst R e s)
    where
      by : (y : TypeError) → Stops (FaultyInputs p.inputs) y → Stops (IsFirstFault p) y
      by (Fault f) g = F.input w h g
      by OutOfMemory g = tt

  pub stops_definitions : (is : List TypedInput) (ds : List P.Definition) → AreInputs p.inputs is → ds ≡ p.definitions → Stops (FaultyDefinitions is ds) x → Stops (IsFirstFault p) x
  stops_definitions is ds i e s = let R : List P.Definition → Type 0 = λ l. Stops (FaultyDefinitions is l) x in by x (subst R e s)
    where
      by : (y : TypeError) → Stops (FaultyDefinitions is p.definitions) y → Stops (IsFirstFault p) y
      by (Fault f) g = F.definition w h i g
      by OutOfMemory g = tt

  pub stops_outputs : (is : List TypedInput) (ds : List Definition) (scope : Scope) (ns : List Name) → AreInputs p.inputs is → AreDefinitions is p.definitions ds
      → scope ≡ scope_of is ds → ns ≡ p.outputs → Stops (FaultyOutputs scope ns) x → Stops (IsFirstFault p) x
  stops_outputs is ds scope ns i d v e s =
      let R : List Name → Type 0 = λ l. Stops (FaultyOutputs scope l) x in
      let S : Scope → Type 0 = λ z. Stops (FaultyOutputs z p.outputs) x in
      by x (subst S v (subst R e s))
    where
      by : (y : TypeError) → Stops (FaultyOutputs (scope_of is ds) p.outputs) y → Stops (IsFirstFault p) y
      by (Fault f) g = F.output w h i d g
      by OutOfMemory g = tt

pub scope_few : (scope : Scope) (xs : List Input) (ts : List TypedInput) → AreInputs xs ts → scope ≡ inputs_scope ts → length scope ≤ 8
scope_few scope xs ts h e =
    let k = inputs_few h (omega arith) in
    let l = ap length e ∙ inputs_long ts in
    omega arith

pub same_size : (s : Size) (a b w h : ℕ) → s ≡ record { width = a; height = b } → a ≡ w → b ≡ h → s ≡ record { width = w; height = h }
same_size s a b w h e f g = e ∙ (ap (λ n. record { width = n; height = b }) f ∙ ap (λ n. record { width = w; height = n }) g)

-- what is so is answered
pub accepted : {T : Type 0} (view : T → Typing) (p : Source) (r : Result T TypeError) → MatchResult r (λ t. IsTyping p (view t)) (λ stop. Stops (IsFirstFault p) stop)
    → (t : Typing) → IsTyping p t → MatchResult r (λ found. view found ≡ t) (λ stop. stop ≡ OutOfMemory)
accepted view p (Ok found) h t k = one_type p (view found) t h k
accepted view p (Err (Fault f)) h t k = absurd (never_both p t f k h)
accepted view p (Err OutOfMemory) h t k = refl

pub refuses : {T : Type 0} (view : T → Typing) (p : Source) (r : Result T TypeError) → MatchResult r (λ t. IsTyping p (view t)) (λ stop. Stops (IsFirstFault p) stop)
    → (f : TypeFault) → IsFirstFault p f → IsErrAnd r (λ stop. (stop ≡ Fault f) ⊎ (stop ≡ OutOfMemory))
refuses view p (Ok found) h f k = absurd (never_both p (view found) f h k)
refuses view p (Err (Fault g)) h f k = inl (ap Fault (one_fault p g f h k))
refuses view p (Err OutOfMemory) h f k = inr refl

pub typed_so : {T : Type 0} (view : T → Typing) (p : Source) (r : Result T TypeError) → MatchResult r (λ t. IsTyping p (view t)) (λ stop. Stops (IsFirstFault p) stop)
    → MatchResult r (λ t. IsTyping p (view t)) (λ _. Unit {0})
typed_so view p (Ok t) h = h
typed_so view p (Err e) h = tt

pub faulty_so : {T : Type 0} (view : T → Typing) (p : Source) (r : Result T TypeError) → MatchResult r (λ t. IsTyping p (view t)) (λ stop. Stops (IsFirstFault p) stop)
    → MatchResult r (λ _. Unit {0}) (λ stop. Stops (IsFirstFault p) stop)
faulty_so view p (Ok t) h = tt
faulty_so view p (Err e) h = h

-- bodies as trees, and as the code has them
each_converts : (xs : List Def) → AllByRecursion (λ (d : P.Definition). ConvertsToTypes d.body) (sources_as xs) → AllByRecursion (λ (d : Def). ConvertsToTypes (tree_of d.body)) xs
each_converts [] all = tt
each_converts (x ∷ xs) all = (all.0, each_converts xs all.1)

pub bodies_convert : (xs : List Def) → All (λ (d : P.Definition). ConvertsToTypes d.body) (sources_as xs) → All (λ (d : Def). ConvertsToTypes (tree_of d.body)) xs
bodies_convert xs all = All-from_recursion (λ (d : Def). ConvertsToTypes (tree_of d.body)) xs (each_converts xs (recursion_from_All (λ (d : P.Definition). ConvertsToTypes d.body) (sources_as xs) all))
