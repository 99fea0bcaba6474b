-- Items in the order of the text, judged one after another.
use Rattle.std.specs.Prelude.{List, [], ◌∷◌, ◌++◌}
use Rattle.dk_types.specs.declared.fault.TypeFault.{TypeFault}

-- Each item keeps the rule, which speaks of the items before it and of what they became.
pub data Each {I O : Type 0} (Rule : List I → List O → I → O → Type 0) : List I → List O → List I → List O → Type 0 where
  none : {is : List I} {os : List O} → Each Rule is os [] []
  next : {is more : List I} {os made : List O} {i : I} {o : O}
      → Rule is os i o → Each Rule (is ++ i ∷ []) (os ++ o ∷ []) more made → Each Rule is os (i ∷ more) (o ∷ made)

-- An item has the fault, and those before it keep the rule.
pub data First {I O : Type 0} (Rule : List I → List O → I → O → Type 0) (Fault : List I → List O → I → TypeFault → Type 0) : List I → List O → List I → TypeFault → Type 0 where
  here : {is more : List I} {os : List O} {i : I} {f : TypeFault} → Fault is os i f → First Rule Fault is os (i ∷ more) f
  later : {is more : List I} {os : List O} {i : I} {o : O} {f : TypeFault}
      → Rule is os i o → First Rule Fault (is ++ i ∷ []) (os ++ o ∷ []) more f → First Rule Fault is os (i ∷ more) f
