-- Two faults of the same parts agree, and parts that make a module have none.
use Rattle.std.proofs.Common.{◌≡◌, ℕ, zero, suc, ◌<◌, ◌≤◌, List, refl, ap, subst, sym, ◌∙◌, inl, inr, arith, Some}
use Rattle.std.specs.Prelude.{slice_get, All}
use Rattle.std.proofs.lemmas.Bool.{cases_lt}
use Rattle.std.proofs.lemmas.Option.{same_Some}
use Rattle.wiring.specs.declared.netlist.Assign.{Assign}
use Rattle.wiring.specs.Netlist.{update_target}
use Rattle.wiring.specs.Tables.{IsSecond, assign_target}
use Rattle.wiring.specs.Rules.{DivisorIsConstant}
use Rattle.wiring.proofs.Lists.{All-at, at_one}
use Rattle.netlist.specs.declared.parts.Parts.{Parts}
use Rattle.netlist.specs.declared.parts.NamedAssign.{NamedAssign}
use Rattle.netlist.specs.declared.parts.NamedUpdate.{NamedUpdate}
use Rattle.netlist.specs.declared.fault.Declared.{Declared}
use Rattle.netlist.specs.declared.fault.Declared.TheVariants.{Port as PortAt, Declaration as DeclarationAt}
use Rattle.netlist.specs.declared.fault.Statement.{Statement}
use Rattle.netlist.specs.declared.fault.Statement.TheVariants.{Assign as AssignAt, Update as UpdateAt}
use Rattle.netlist.specs.declared.fault.NetFault.{NetFault}
use Rattle.netlist.specs.declared.fault.NetFault.TheVariants.{Duplicate, Ports, Unknown, WrongSort, Divisor, Width, DrivenTwice, Undriven, Cycle}
use Rattle.wiring.specs.Order.{IsAcyclic}
use Rattle.netlist.specs.Scopes.{Entry, scope_of, netlist_of_parts}
use Rattle.netlist.specs.Faults.{AssignFits, UpdateFits, TargetsDiffer, HasDriver, Agrees}
use Rattle.netlist.specs.Passes.{entry_names, NamesDiffer, IsPlace, FineAssign, FineUpdate, UnknownAssign, UnknownUpdate, WrongSortAssign, WrongSortUpdate, DivisorAssign, DivisorUpdate, WidthAssign, WidthUpdate, FirstWrong, FirstStatement, PassesPorts, PassesStatements, PassesTargets, PassesDrivers, IsPassFault}

-- the first wrong item is one
first_one : {X : Type 0} (Fine Wrong Other : X → Type 0) → ((x : X) → Fine x → Wrong x → ⊥) → ((x : X) → Fine x → Other x → ⊥) → (items : List X) (j k : ℕ) → FirstWrong Fine Wrong items j → FirstWrong Fine Other items k → j ≡ k
first_one Fine Wrong Other not_wrong not_other items j k a b =
    elim (cases_lt j k) as (λ _. j ≡ k) [
      | inl l ↦ absurd (not_wrong a.item (b.before j a.item l a.at) a.wrong)
      | inr g ↦ elim (cases_lt k j) as (λ _. j ≡ k) [
        | inl l ↦ absurd (not_other b.item (a.before k b.item l b.at) b.wrong)
        | inr h ↦ omega (arith, g, h)
      ]
    ]

-- and so is the first second item of a target
second_one : {X T : Type 0} (target : X → T) (items : List X) (j k : ℕ) → IsSecond target items j → IsSecond target items k → j ≡ k
second_one target items j k a b =
    elim (cases_lt j k) as (λ _. j ≡ k) [
      | inl l ↦ let e : a.earlier ≡ j = b.before a.earlier j a.first a.second (omega (arith, a.order, l)) l a.first_at a.second_at a.same in absurd (omega (arith, a.order, e))
      | inr g ↦ elim (cases_lt k j) as (λ _. j ≡ k) [
        | inl l ↦ let e : b.earlier ≡ k = a.before b.earlier k b.first b.second (omega (arith, b.order, l)) l b.first_at b.second_at b.same in absurd (omega (arith, b.order, e))
        | inr h ↦ omega (arith, g, h)
      ]
    ]

second_differs : {X T : Type 0} (target : X → T) (items : List X) (k : ℕ) → IsSecond target items k → TargetsDiffer target items → ⊥
second_differs target items k a differ =
    let e : a.earlier ≡ k = differ a.earlier k a.first a.second a.first_at a.second_at a.same in
    omega (arith, a.order, e)

-- what is wrong with a statement
data Kind : Type 0 where
  of_unknown : Kind
  of_sort : Kind
  of_divisor : Kind
  of_width : Kind

module _ (p : Parts) where
  abbrev WrongAssign : Kind → NamedAssign → Type 0
  WrongAssign of_unknown = UnknownAssign p
  WrongAssign of_sort = WrongSortAssign p
  WrongAssign of_divisor = DivisorAssign p
  WrongAssign of_width = WidthAssign p

  abbrev WrongUpdate : Kind → NamedUpdate → Type 0
  WrongUpdate of_unknown = UnknownUpdate p
  WrongUpdate of_sort = WrongSortUpdate p
  WrongUpdate of_divisor = DivisorUpdate p
  WrongUpdate of_width = WidthUpdate p

  fine_assign : (k : Kind) (a : NamedAssign) → FineAssign p a → WrongAssign k a → ⊥
  fine_assign of_unknown a fine w = w fine.known
  fine_assign of_sort a fine w = w.wrong fine.stands fine.sorted
  fine_assign of_divisor a fine w = w.wrong (subst (λ (b : Assign). DivisorIsConstant b.right) (same_Some fine.stands w.stands (sym fine.sorted.0 ∙ w.sorted.0)) fine.divisor)
  fine_assign of_width a fine w = w.wrong (subst (AssignFits (netlist_of_parts p)) (same_Some fine.stands w.stands (sym fine.sorted.0 ∙ w.sorted.0)) fine.widths)

  fine_update : (k : Kind) (u : NamedUpdate) → FineUpdate p u → WrongUpdate k u → ⊥
  fine_update of_unknown u fine w = w fine.known
  fine_update of_sort u fine w = w.wrong fine.stands fine.sorted
  fine_update of_divisor u fine w = w
  fine_update of_width u fine w = w.wrong (subst (UpdateFits (netlist_of_parts p)) (same_Some fine.stands w.stands (sym fine.sorted ∙ w.sorted)) fine.widths)

  assign_kind : (k l : Kind) (a : NamedAssign) → WrongAssign k a → WrongAssign l a → k ≡ l
  assign_kind of_unknown of_unknown a v w = refl
  assign_kind of_unknown of_sort a v w = absurd (v w.known)
  assign_kind of_unknown of_divisor a v w = absurd (v w.known)
  assign_kind of_unknown of_width a v w = absurd (v w.known)
  assign_kind of_sort of_unknown a v w = absurd (w v.known)
  assign_kind of_sort of_sort a v w = refl
  assign_kind of_sort of_divisor a v w = absurd (v.wrong w.stands w.sorted)
  assign_kind of_sort of_width a v w = absurd (v.wrong w.stands w.sorted)
  assign_kind of_divisor of_unknown a v w = absurd (w v.known)
  assign_kind of_divisor of_sort a v w = absurd (w.wrong v.stands v.sorted)
  assign_kind of_divisor of_divisor a v w = refl
  assign_kind of_divisor of_width a v w = absurd (v.wrong (subst (λ (b : Assign). DivisorIsConstant b.right) (same_Some w.stands v.stands (sym w.sorted.0 ∙ v.sorted.0)) w.divisor))
  assign_kind of_width of_unknown a v w = absurd (w v.known)
  assign_kind of_width of_sort a v w = absurd (w.wrong v.stands v.sorted)
  assign_kind of_width of_divisor a v w = absurd (w.wrong (subst (λ (b : Assign). DivisorIsConstant b.right) (same_Some v.stands w.stands (sym v.sorted.0 ∙ w.sorted.0)) v.divisor))
  assign_kind of_width of_width a v w = refl

  update_kind : (k l : Kind) (u : NamedUpdate) → WrongUpdate k u → WrongUpdate l u → k ≡ l
  update_kind of_unknown of_unknown u v w = refl
  update_kind of_unknown of_sort u v w = absurd (v w.known)
  update_kind of_unknown of_divisor u v w = absurd w
  update_kind of_unknown of_width u v w = absurd (v w.known)
  update_kind of_sort of_unknown u v w = absurd (w v.known)
  update_kind of_sort of_sort u v w = refl
  update_kind of_sort of_divisor u v w = absurd w
  update_kind of_sort of_width u v w = absurd (v.wrong w.stands w.sorted)
  update_kind of_divisor l u v w = absurd v
  update_kind of_width of_unknown u v w = absurd (w v.known)
  update_kind of_width of_sort u v w = absurd (w.wrong v.stands v.sorted)
  update_kind of_width of_divisor u v w = absurd w
  update_kind of_width of_width u v w = refl

  abbrev First : Kind → Statement → Type 0
  First k s = FirstStatement p (WrongAssign k) (WrongUpdate k) s

  first_fine : (k : Kind) (s : Statement) → First k s → All (FineAssign p) p.assigns.items → All (FineUpdate p) p.updates.items → ⊥
  first_fine k (AssignAt i) a assigns updates = fine_assign k a.item (All-at (FineAssign p) p.assigns.items i a.item assigns a.at) a.wrong
  first_fine k (UpdateAt i) a assigns updates = fine_update k a.1.item (All-at (FineUpdate p) p.updates.items i a.1.item updates a.1.at) a.1.wrong

  -- the first wrong statement and what is wrong with it
  statement_one : (k l : Kind) (s t : Statement) → First k s → First l t → (k ≡ l) × (s ≡ t)
  statement_one k l (AssignAt i) (AssignAt j) a b =
      let e : i ≡ j = first_one (FineAssign p) (WrongAssign k) (WrongAssign l) (fine_assign k) (fine_assign l) p.assigns.items i j a b in
      let same : a.item ≡ b.item = at_one p.assigns.items j a.item b.item (subst (λ (z : ℕ). slice_get p.assigns.items z ≡ Some a.item) e a.at) b.at in
      (assign_kind k l b.item (subst (WrongAssign k) same a.wrong) b.wrong, ap (λ (z : ℕ). AssignAt z) e)
  statement_one k l (AssignAt i) (UpdateAt j) a b = absurd (fine_assign k a.item (All-at (FineAssign p) p.assigns.items i a.item b.0 a.at) a.wrong)
  statement_one k l (UpdateAt i) (AssignAt j) a b = absurd (fine_assign l b.item (All-at (FineAssign p) p.assigns.items j b.item a.0 b.at) b.wrong)
  statement_one k l (UpdateAt i) (UpdateAt j) a b =
      let e : i ≡ j = first_one (FineUpdate p) (WrongUpdate k) (WrongUpdate l) (fine_update k) (fine_update l) p.updates.items i j a.1 b.1 in
      let same : a.1.item ≡ b.1.item = at_one p.updates.items j a.1.item b.1.item (subst (λ (z : ℕ). slice_get p.updates.items z ≡ Some a.1.item) e a.1.at) b.1.at in
      (update_kind k l b.1.item (subst (WrongUpdate k) same a.1.wrong) b.1.wrong, ap (λ (z : ℕ). UpdateAt z) e)

  abbrev fault_of : Kind → Statement → NetFault
  fault_of of_unknown s = Unknown s
  fault_of of_sort s = WrongSort s
  fault_of of_divisor s = Divisor s
  fault_of of_width s = Width s

  same_statement : (k l : Kind) (s t : Statement) → First k s → First l t → fault_of k s ≡ fault_of l t
  same_statement k l s t a b =
      let e = statement_one k l s t a b in
      ap (λ (z : Kind). fault_of z s) e.0 ∙ ap (λ (z : Statement). fault_of l z) e.1

  place_one : (d e : Declared) (i j : ℕ) → IsPlace p d i → IsPlace p e j → i ≡ j → d ≡ e
  place_one (PortAt k) (PortAt l) i j a b e = ap (λ (z : ℕ). PortAt z) (a.1 ∙ e ∙ sym b.1)
  place_one (PortAt k) (DeclarationAt l) i j a b e = absurd (omega (arith, a.0, a.1, b, e))
  place_one (DeclarationAt k) (PortAt l) i j a b e = absurd (omega (arith, b.0, b.1, a, e))
  place_one (DeclarationAt k) (DeclarationAt l) i j a b e = ap (λ (z : ℕ). DeclarationAt z) (let f : k ≡ l = omega (arith, a, b, e) in f)

  twice_one : (s t : Statement) → IsPassFault p (DrivenTwice s) → IsPassFault p (DrivenTwice t) → s ≡ t
  twice_one (AssignAt i) (AssignAt j) a b = ap (λ (z : ℕ). AssignAt z) (second_one assign_target (netlist_of_parts p).assigns i j a.1 b.1)
  twice_one (AssignAt i) (UpdateAt j) a b = absurd (second_differs assign_target (netlist_of_parts p).assigns i a.1 b.1)
  twice_one (UpdateAt i) (AssignAt j) a b = absurd (second_differs assign_target (netlist_of_parts p).assigns j b.1 a.1)
  twice_one (UpdateAt i) (UpdateAt j) a b = ap (λ (z : ℕ). UpdateAt z) (second_one update_target (netlist_of_parts p).updates i j a.2 b.2)

  twice_refuted : (s : Statement) → IsPassFault p (DrivenTwice s) → PassesTargets p → ⊥
  twice_refuted (AssignAt i) a passes = second_differs assign_target (netlist_of_parts p).assigns i a.1 passes.assigns
  twice_refuted (UpdateAt i) a passes = second_differs update_target (netlist_of_parts p).updates i a.2 passes.updates

  twice_passed : (s : Statement) → IsPassFault p (DrivenTwice s) → PassesStatements p
  twice_passed (AssignAt i) a = a.0
  twice_passed (UpdateAt i) a = a.0

  abbrev Driven : Entry → Type 0
  Driven e = HasDriver (netlist_of_parts p) e.meaning

  -- the passes before the one that finds a fault
  abbrev Passed : ℕ → Type 0
  Passed zero = Unit {0}
  Passed (suc zero) = NamesDiffer p
  Passed (suc (suc zero)) = PassesPorts p
  Passed (suc (suc (suc zero))) = PassesStatements p
  Passed (suc (suc (suc (suc zero)))) = PassesTargets p
  Passed (suc (suc (suc (suc (suc n))))) = PassesDrivers p

  weaker : (n : ℕ) → Passed (suc n) → Passed n
  weaker zero h = tt
  weaker (suc zero) h = h.names
  weaker (suc (suc zero)) h = h.before
  weaker (suc (suc (suc zero))) h = h.before
  weaker (suc (suc (suc (suc zero)))) h = h.before
  weaker (suc (suc (suc (suc (suc n))))) h = h

  lower : (n m : ℕ) → m ≤ n → Passed n → Passed m
  lower zero m l h = subst Passed (let e : 0 ≡ m = omega (arith, l) in e) h
  lower (suc n) m l h =
      elim (cases_lt n m) as (λ _. Passed m) [
        | inl up ↦ subst Passed (let e : suc n ≡ m = omega (arith, l, up) in e) h
        | inr down ↦ lower n m down (weaker n h)
      ]

  abbrev stage : NetFault → ℕ
  stage (Duplicate d) = zero
  stage Ports = suc zero
  stage (Unknown s) = suc (suc zero)
  stage (WrongSort s) = suc (suc zero)
  stage (Divisor s) = suc (suc zero)
  stage (Width s) = suc (suc zero)
  stage (DrivenTwice s) = suc (suc (suc zero))
  stage (Undriven d) = suc (suc (suc (suc zero)))
  stage (Cycle k) = suc (suc (suc (suc (suc zero))))

  stage_few : (f : NetFault) → stage f < 6
  stage_few (Duplicate d) = omega arith
  stage_few Ports = omega arith
  stage_few (Unknown s) = omega arith
  stage_few (WrongSort s) = omega arith
  stage_few (Divisor s) = omega arith
  stage_few (Width s) = omega arith
  stage_few (DrivenTwice s) = omega arith
  stage_few (Undriven d) = omega arith
  stage_few (Cycle k) = omega arith

  passed : (f : NetFault) → IsPassFault p f → Passed (stage f)
  passed (Duplicate d) a = tt
  passed Ports a = a.0
  passed (Unknown s) a = a.0
  passed (WrongSort s) a = a.0
  passed (Divisor s) a = a.0
  passed (Width s) a = a.0
  passed (DrivenTwice s) a = twice_passed s a
  passed (Undriven d) a = a.0
  passed (Cycle k) a = a.0

  refuted : (f : NetFault) → stage f < 5 → IsPassFault p f → Passed (suc (stage f)) → ⊥
  refuted (Duplicate d) l a names =
      let second = a.2 in
      let e : second.earlier ≡ a.0 = names second.earlier a.0 second.second (subst (λ (n : List ℕ). slice_get (entry_names p) second.earlier ≡ Some n) second.same second.first_at) second.second_at in
      omega (arith, second.order, e)
  refuted Ports l a passes = a.1 passes.ports
  refuted (Unknown s) l a passes = first_fine of_unknown s a.1 passes.assigns passes.updates
  refuted (WrongSort s) l a passes = first_fine of_sort s a.1 passes.assigns passes.updates
  refuted (Divisor s) l a passes = first_fine of_divisor s a.1 passes.assigns passes.updates
  refuted (Width s) l a passes = first_fine of_width s a.1 passes.assigns passes.updates
  refuted (DrivenTwice s) l a passes = twice_refuted s a passes
  refuted (Undriven d) l a passes = a.3.wrong (passes.driven a.1 a.3.item a.3.at)
  refuted (Cycle k) l a passes = omega (arith, l)

  same_stage : (f g : NetFault) → IsPassFault p f → IsPassFault p g → stage f ≡ stage g → Agrees f g
  same_stage (Duplicate d) (Duplicate e) a b s = ap (λ (z : Declared). Duplicate z) (place_one d e a.0 b.0 a.1 b.1 (second_one (λ (n : List ℕ). n) (entry_names p) a.0 b.0 a.2 b.2))
  same_stage Ports Ports a b s = refl
  same_stage (Unknown x) (Unknown y) a b s = same_statement of_unknown of_unknown x y a.1 b.1
  same_stage (Unknown x) (WrongSort y) a b s = same_statement of_unknown of_sort x y a.1 b.1
  same_stage (Unknown x) (Divisor y) a b s = same_statement of_unknown of_divisor x y a.1 b.1
  same_stage (Unknown x) (Width y) a b s = same_statement of_unknown of_width x y a.1 b.1
  same_stage (WrongSort x) (Unknown y) a b s = same_statement of_sort of_unknown x y a.1 b.1
  same_stage (WrongSort x) (WrongSort y) a b s = same_statement of_sort of_sort x y a.1 b.1
  same_stage (WrongSort x) (Divisor y) a b s = same_statement of_sort of_divisor x y a.1 b.1
  same_stage (WrongSort x) (Width y) a b s = same_statement of_sort of_width x y a.1 b.1
  same_stage (Divisor x) (Unknown y) a b s = same_statement of_divisor of_unknown x y a.1 b.1
  same_stage (Divisor x) (WrongSort y) a b s = same_statement of_divisor of_sort x y a.1 b.1
  same_stage (Divisor x) (Divisor y) a b s = same_statement of_divisor of_divisor x y a.1 b.1
  same_stage (Divisor x) (Width y) a b s = same_statement of_divisor of_width x y a.1 b.1
  same_stage (Width x) (Unknown y) a b s = same_statement of_width of_unknown x y a.1 b.1
  same_stage (Width x) (WrongSort y) a b s = same_statement of_width of_sort x y a.1 b.1
  same_stage (Width x) (Divisor y) a b s = same_statement of_width of_divisor x y a.1 b.1
  same_stage (Width x) (Width y) a b s = same_statement of_width of_width x y a.1 b.1
  same_stage (DrivenTwice x) (DrivenTwice y) a b s = ap (λ (z : Statement). DrivenTwice z) (twice_one x y a b)
  same_stage (Undriven d) (Undriven e) a b s =
      ap (λ (z : Declared). Undriven z) (place_one d e a.1 b.1 a.2 b.2 (first_one Driven (λ x. Driven x → ⊥) (λ x. Driven x → ⊥) (λ x fine wrong. wrong fine) (λ x fine wrong. wrong fine) (scope_of p) a.1 b.1 a.3 b.3))
  same_stage (Cycle j) (Cycle k) a b s = tt
  same_stage f g a b s = absurd (omega (arith, s))

  past : (f g : NetFault) → stage f < stage g → IsPassFault p f → IsPassFault p g → ⊥
  past f g l a b = refuted f (let few = stage_few g in omega (arith, l, few)) a (lower (stage g) (suc (stage f)) (omega (arith, l)) (passed g b))

  apart : (f g : NetFault) → IsPassFault p f → IsPassFault p g → stage f ≡ stage g
  apart f g a b =
      elim (cases_lt (stage f) (stage g)) as (λ _. stage f ≡ stage g) [
        | inl l ↦ absurd (past f g l a b)
        | inr up ↦ elim (cases_lt (stage g) (stage f)) as (λ _. stage f ≡ stage g) [
          | inl l ↦ absurd (past g f l b a)
          | inr down ↦ omega (arith, up, down)
        ]
      ]

  pub faults_agree : (f g : NetFault) → IsPassFault p f → IsPassFault p g → Agrees f g
  faults_agree f g a b = same_stage f g a b (apart f g a b)

  pub no_fault : (f : NetFault) → PassesDrivers p → IsAcyclic (netlist_of_parts p).assigns → IsPassFault p f → ⊥
  no_fault (Cycle k) passes acyclic a = acyclic k a.1
  no_fault f passes acyclic a = refuted f (omega arith) a (lower 5 (suc (stage f)) (omega arith) passes)
