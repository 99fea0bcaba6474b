-- From what the code finds to the rules on inputs, definitions and outputs.
use Rattle.std.proofs.Common.{◌≡◌, ℕ, suc, ◌<◌, ◌≤◌, Bool, true, false, IsTrue, ◌↔◌, List, [], ◌∷◌, ◌++◌, length, Option, Some, None, refl, sym, ap, ◌∙◌, subst, arith}
use Rattle.std.proofs.lemmas.List.{map-append}
use Rattle.dk_base.specs.declared.span.Span.{Span}
use Rattle.dk_base.specs.declared.ty.Ty.{Ty}
use Rattle.dk_parser.specs.declared.tree.Name.{Name}
use Rattle.dk_parser.specs.declared.tree.Input.{Input}
use Rattle.dk_parser.specs.Tree.{span_of}
use Rattle.dk_parser.specs.declared.tree.Def.{Def}
use Rattle.dk_parser.specs.Programs.{definition_of as source_of, definitions_as as sources_as}
use Rattle.dk_parser.specs.Programs as P
use Rattle.dk_types.specs.declared.fault.TypeFault.{TypeFault}
use Rattle.dk_types.specs.declared.fault.TypeError.{TypeError}
use Rattle.dk_types.specs.declared.fault.TypeError.TheVariants.{Fault, OutOfMemory}
use Rattle.dk_types.specs.declared.fault.TypeFaultKind.TheVariants.{InputType, TooManyInputs, TooManyOutputs, TooManyImages, DuplicateName, UnknownImage, NotConvertible, OutputType}
use Rattle.dk_types.specs.declared.typed.TypedInput.{TypedInput}
use Rattle.dk_types.specs.declared.typed.TypedDefinition.{TypedDefinition}
use Rattle.dk_types.specs.Typed.{Typed, type_of, Definition, definition_of, definitions_as}
use Rattle.dk_types.specs.Scopes.{Scope, IsImage, IsUnknown, inputs_scope, scope_of, name_among}
use Rattle.dk_base.specs.Types.{IsPort}
use Rattle.dk_types.specs.Types.{HasType, Takes, declared_type}
use Rattle.dk_types.specs.Faults.{Faulty, Stops, at, InputFault, DefinitionFault, OutputFault}
use Rattle.dk_types.proofs.Rules.{told}

pub refused : (b : Bool) (A : Type 0) → (IsTrue b ↔ A) → b ≡ false → A → ⊥
refused true A f e h = absurd (let g : ⊥ = cc in g)
refused false A f e h = absurd (let q : false ≡ true = f.1 h in let g : ⊥ = cc in g)

pub told_memory : (P : TypeFault → Type 0) (x : TypeError) → x ≡ OutOfMemory → Stops P x
told_memory P x e = let R : TypeError → Type 0 = λ y. Stops P y in subst R (sym e) tt

-- inputs
pub inputs_long : (done : List TypedInput) → length (inputs_scope done) ≡ length done
inputs_long [] = refl
inputs_long (i ∷ is) = ap suc (inputs_long is)

input_count : (scope : Scope) (done : List TypedInput) (n : ℕ) → length scope ≡ n → scope ≡ inputs_scope done → length done ≡ n
input_count scope done n h e = sym (inputs_long done) ∙ (ap length (sym e) ∙ h)

module _ (scope : Scope) (is : List Input) (done : List TypedInput) (i : Input) (n : ℕ) (x : TypeError) (long : length scope ≡ n) (e : scope ≡ inputs_scope done) where
  pub told_ninth_input : x ≡ Fault (at i.name.span TooManyInputs) → 8 ≤ n → Stops (InputFault is done i) x
  told_ninth_input xe m =
      let l = input_count scope done n long e in
      told (InputFault is done i) x (at i.name.span TooManyInputs) (at i.name.span TooManyInputs) xe refl (InputFault.ninth (omega (arith, l)))

  pub told_again_input : x ≡ Fault (at i.name.span DuplicateName) → n < 8 → (name : List ℕ) (g : ℕ) (t : Ty) → name ≡ i.name.text → IsImage scope name g t → Stops (InputFault is done i) x
  told_again_input xe m name g t ne im =
      let l = input_count scope done n long e in
      let R : Scope → Type 0 = λ s. IsImage s i.name.text g t in
      let S : List ℕ → Type 0 = λ k. IsImage scope k g t in
      told (InputFault is done i) x (at i.name.span DuplicateName) (at i.name.span DuplicateName) xe refl (InputFault.again (omega (arith, l)) (subst R e (subst S ne im)).number)

  pub told_input_type : x ≡ Fault (at i.ty.span InputType) → n < 8 → (name : List ℕ) → name ≡ i.name.text → IsUnknown scope name → ¬ IsPort i.ty.ty → Stops (InputFault is done i) x
  told_input_type xe m name ne u p =
      let l = input_count scope done n long e in
      let R : Scope → Type 0 = λ s. IsUnknown s i.name.text in
      let S : List ℕ → Type 0 = λ k. IsUnknown scope k in
      told (InputFault is done i) x (at i.ty.span InputType) (at i.ty.span InputType) xe refl (InputFault.no_port (omega (arith, l)) (subst R e (subst S ne u)) p)

-- definitions
module _ (scope : Scope) (inputs : List TypedInput) (ds : List P.Definition) (done : List Definition) (d : P.Definition) (n : ℕ) (x : TypeError)
    (long : length done ≡ n) (e : scope ≡ scope_of inputs done) where
  pub told_too_many : x ≡ Fault (at d.name.span TooManyImages) → 256 ≤ n → Stops (DefinitionFault inputs ds done d) x
  told_too_many xe m =
      told (DefinitionFault inputs ds done d) x (at d.name.span TooManyImages) (at d.name.span TooManyImages) xe refl (DefinitionFault.too_many (omega arith))

  pub told_again : x ≡ Fault (at d.name.span DuplicateName) → n < 256 → (name : List ℕ) (g : ℕ) (t : Ty) → name ≡ d.name.text → IsImage scope name g t → Stops (DefinitionFault inputs ds done d) x
  told_again xe m name g t ne im =
      let R : Scope → Type 0 = λ s. IsImage s d.name.text g t in
      let S : List ℕ → Type 0 = λ k. IsImage scope k g t in
      told (DefinitionFault inputs ds done d) x (at d.name.span DuplicateName) (at d.name.span DuplicateName) xe refl (DefinitionFault.again (omega arith) (subst R e (subst S ne im)).number)

  is_new : (name : List ℕ) → name ≡ d.name.text → IsUnknown scope name → IsUnknown (scope_of inputs done) d.name.text
  is_new name ne u =
      let R : Scope → Type 0 = λ s. IsUnknown s d.name.text in
      let S : List ℕ → Type 0 = λ k. IsUnknown scope k in
      subst R e (subst S ne u)

  pub told_body : n < 256 → (name : List ℕ) → name ≡ d.name.text → IsUnknown scope name → Stops (Faulty scope d.body) x → Stops (DefinitionFault inputs ds done d) x
  told_body m name ne u h =
      let R : Scope → Type 0 = λ s. Stops (Faulty s d.body) x in
      by x (subst R e h)
    where
      by : (y : TypeError) → Stops (Faulty (scope_of inputs done) d.body) y → Stops (DefinitionFault inputs ds done d) y
      by (Fault f) g = DefinitionFault.in_body (omega arith) (is_new name ne u) g
      by OutOfMemory g = tt

  pub told_not_taken : (s : Span) → x ≡ Fault (at s NotConvertible) → s ≡ span_of d.body → n < 256 → (name : List ℕ) → name ≡ d.name.text → IsUnknown scope name
      → (b : Typed) (t : Ty) → HasType scope d.body b → type_of b ≡ t → (u : Option Ty) → u ≡ declared_type d.declared → ¬ Takes u t → Stops (DefinitionFault inputs ds done d) x
  told_not_taken s xe se m name ne u b t h te v ve no_fit =
      let R : Scope → Type 0 = λ z. HasType z d.body b in
      let S : Ty → Type 0 = λ z. ¬ Takes v z in
      let V : Option Ty → Type 0 = λ z. ¬ Takes z (type_of b) in
      told (DefinitionFault inputs ds done d) x (at s NotConvertible) (at (span_of d.body) NotConvertible) xe (ap (λ z. at z NotConvertible) (sym se))
      (DefinitionFault.not_taken (omega arith) (is_new name ne u) (subst R e h) (subst V ve (subst S (sym te) no_fit)))

-- outputs
module _ (scope : Scope) (before : List Name) (done : List ℕ) (n : Name) (x : TypeError) where
  pub told_ninth_output : x ≡ Fault (at n.span TooManyOutputs) → 8 ≤ length before → Stops (OutputFault scope before done n) x
  told_ninth_output xe m = told (OutputFault scope before done n) x (at n.span TooManyOutputs) (at n.span TooManyOutputs) xe refl (OutputFault.ninth m)

  pub told_again_output : x ≡ Fault (at n.span DuplicateName) → length before < 8 → (name : List ℕ) (k : ℕ) → name ≡ n.text → Some k ≡ name_among before name → Stops (OutputFault scope before done n) x
  told_again_output xe m name k ne p =
      let S : List ℕ → Type 0 = λ z. name_among before z ≡ Some k in
      told (OutputFault scope before done n) x (at n.span DuplicateName) (at n.span DuplicateName) xe refl (OutputFault.again m (subst S ne (sym p)))

  pub told_unknown_output : x ≡ Fault (at n.span UnknownImage) → length before < 8 → (first second : List ℕ) → first ≡ n.text → None ≡ name_among before first
      → second ≡ n.text → IsUnknown scope second → Stops (OutputFault scope before done n) x
  told_unknown_output xe m first second fe p se u =
      let S : List ℕ → Type 0 = λ z. name_among before z ≡ None in
      told (OutputFault scope before done n) x (at n.span UnknownImage) (at n.span UnknownImage) xe refl (OutputFault.unknown m (subst S fe (sym p)) (subst (IsUnknown scope) se u))

  pub told_output_type : x ≡ Fault (at n.span OutputType) → length before < 8 → (first second : List ℕ) → first ≡ n.text → None ≡ name_among before first
      → second ≡ n.text → (g : ℕ) (t : Ty) → IsImage scope second g t → ¬ IsPort t → Stops (OutputFault scope before done n) x
  told_output_type xe m first second fe p se g t im np =
      let S : List ℕ → Type 0 = λ z. name_among before z ≡ None in
      let R : List ℕ → Type 0 = λ z. IsImage scope z g t in
      told (OutputFault scope before done n) x (at n.span OutputType) (at n.span OutputType) xe refl (OutputFault.no_port m (subst S fe (sym p)) (subst R se im) np)

-- inputs and definitions as they are read
pub sources_behind : (xs ys : List Def) → sources_as (xs ++ ys) ≡ sources_as xs ++ sources_as ys
sources_behind [] ys = refl
sources_behind (x ∷ xs) ys = ap (λ l. source_of x ∷ l) (sources_behind xs ys)

pub definitions_behind : (ds es : List TypedDefinition) (t : TypedDefinition) → es ≡ ds ++ t ∷ [] → definitions_as es ≡ definitions_as ds ++ definition_of t ∷ []
definitions_behind ds es t e = ap definitions_as e ∙ map-append definition_of ds (t ∷ [])

pub definitions_long : (ds : List TypedDefinition) → length (definitions_as ds) ≡ length ds
definitions_long [] = refl
definitions_long (d ∷ ds) = ap suc (definitions_long ds)
