-- All parts make a module or have a fault.
use Rattle.std.proofs.Common.{◌≡◌, ◌⊎◌, inl, inr, ℕ, suc, ◌<◌, List, [], ◌∷◌, length, Some, Bool, true, false, refl, sym, arith}
use Rattle.std.specs.Prelude.{slice_get, IsSome, map}
use Rattle.std.specs.List.{AllZip}
use Rattle.std.proofs.lemmas.Bool.{cases_eq, cases_order}
use Rattle.wiring.specs.declared.TheConstants.{MOST_PORTS, MOST_PORT_BITS}
use Rattle.wiring.specs.declared.right.Atom.{Atom}
use Rattle.wiring.specs.declared.right.Atom.TheVariants as atom
use Rattle.wiring.specs.declared.right.Operator.{Operator}
use Rattle.wiring.specs.declared.right.Operator.TheVariants.{Add, Subtract, Multiply, Divide, Less, Equal, And, Or, Xor}
use Rattle.wiring.specs.declared.right.Right.{Right}
use Rattle.wiring.specs.declared.right.Right.TheVariants.{Copy, Not, Binary, Choose, Join, Repeat, Bit, Slice, Word}
use Rattle.wiring.specs.declared.netlist.Net.{Net}
use Rattle.wiring.specs.declared.netlist.Net.TheVariants.{Input, Output, Wire, Reg}
use Rattle.wiring.specs.declared.netlist.Holder.{Holder}
use Rattle.wiring.specs.declared.netlist.Holder.TheVariants.{OfNet, OfArray}
use Rattle.wiring.specs.declared.netlist.Assign.{Assign}
use Rattle.wiring.specs.declared.netlist.Update.{Update}
use Rattle.wiring.specs.declared.netlist.Update.TheVariants.{Set, Put}
use Rattle.wiring.specs.Rights.{atom_width, right_width}
use Rattle.wiring.specs.Rules.{IsDivisor, DividesByDivisor, WidthsAgree, DivisorIsConstant, IsPortCount}
use Rattle.wiring.specs.Netlist.{Netlist, net_width, word_width, IsDriven, update_target}
use Rattle.wiring.specs.Tables.{assign_target}
use Rattle.wiring.proofs.Nets.{net_cases, holder_cases}
use Rattle.netlist.specs.declared.parts.Parts.{Parts}
use Rattle.netlist.specs.declared.parts.Port.{Port}
use Rattle.netlist.specs.declared.parts.Direction.{Direction}
use Rattle.netlist.specs.declared.parts.Direction.TheVariants.{Input as Takes, Output as Gives}
use Rattle.netlist.specs.declared.parts.NamedAssign.{NamedAssign}
use Rattle.netlist.specs.declared.parts.NamedUpdate.{NamedUpdate}
use Rattle.netlist.specs.declared.fault.Statement.TheVariants.{Assign as AssignAt, Update as UpdateAt}
use Rattle.netlist.specs.declared.fault.NetFault.{NetFault}
use Rattle.netlist.specs.declared.fault.NetFault.TheVariants.{Duplicate, Ports, Unknown, WrongSort, Divisor, Width, DrivenTwice, Undriven, Cycle}
use Rattle.netlist.specs.Names.{NamedNetlist}
use Rattle.netlist.specs.Scopes.{Entry, Meaning, clock, net, array, scope_of, stands_for, assign_named, update_named, netlist_of_parts, module_of}
use Rattle.netlist.specs.Faults.{PortRule, HasRuleWidth, FitsRule, profile, PortsFit, AllKnown, assign_names, update_names, AssignFits, UpdateFits, HasAssign, HasUpdate, HasDriver, Rule, Keeps, Breaks, condition, each, unique, declared_at, IsSorted, assign_rules, update_rules, driver_rules, acyclic, rules_of, net_rules, IsFault, IsModuleOf}
use Rattle.verilog_verdicts.proofs.Decided.{Decided, both, like, less, at_most, all_of, all_zip, is_some, some_value, some_item, some_below, first_bad, same_list}
use Rattle.verilog_verdicts.proofs.Cycles.{acyclic_or}

-- ---- rules

-- the rule is kept, or a fault breaks it
data Judged (rule : Rule) : Type 0 where
  kept : rule.0 → Judged rule
  broken : (f : NetFault) → rule.1 f → Judged rule

data AllJudged (rules : List Rule) : Type 0 where
  keeps : Keeps rules → AllJudged rules
  breaks : (f : NetFault) → Breaks rules f → AllJudged rules

none : AllJudged []
none = keeps tt

also : {rule : Rule} {rules : List Rule} → Judged rule → AllJudged rules → AllJudged (rule ∷ rules)
also (kept k) (keeps rest) = keeps (k, rest)
also (kept k) (breaks f bad) = breaks f (inr (k, bad))
also (broken f bad) rest = breaks f (inl bad)

judged_condition : (fault : NetFault) (Holds : Type 0) → Decided Holds → Judged (condition fault Holds)
judged_condition fault Holds (inl h) = kept h
judged_condition fault Holds (inr n) = broken fault (refl, n)

keeps_or_breaks : (rules : List Rule) → AllJudged rules → Keeps rules ⊎ ((f : NetFault) × Breaks rules f)
keeps_or_breaks rules (keeps k) = inl k
keeps_or_breaks rules (breaks f b) = inr (f, b)

judged_each : {X : Type 0} (rules_at : ℕ → X → List Rule) → ((k : ℕ) (x : X) → AllJudged (rules_at k x)) → (items : List X) → Judged (each rules_at items)
judged_each rules_at d items = elim (first_bad (λ k x. Keeps (rules_at k x)) (λ k x. (f : NetFault) × Breaks (rules_at k x) f) (λ k x. keeps_or_breaks (rules_at k x) (d k x)) items) [
  | inl all ↦ kept all
  | inr h ↦ broken h.3.0 (record { place = h.0; item = h.1; at = h.2; breaks = h.3.1; before = h.4 })
]

-- two items before this one whose targets are one are one
module _ {X T : Type 0} (target : X → T) (same : (a b : T) → Decided (a ≡ b)) (items : List X) where
  abbrev IsNew : ℕ → X → Type 0
  IsNew k x = ((j : ℕ) × (j < k) × ((y : X) × (slice_get items j ≡ Some y) × (target y ≡ target x))) → ⊥

  abbrev IsOld : ℕ → X → Type 0
  IsOld k x = (j : ℕ) × (j < k) × ((y : X) × (slice_get items j ≡ Some y) × (target y ≡ target x))

  new_or_old : (k : ℕ) (x : X) → IsNew k x ⊎ IsOld k x
  new_or_old k x = elim (some_below (λ j. (y : X) × (slice_get items j ≡ Some y) × (target y ≡ target x)) (λ j. some_value (λ (y : X). target y ≡ target x) (λ y. same (target y) (target x)) (slice_get items j)) k) [
    | inl old ↦ inr old
    | inr new ↦ inl new
  ]

  differ : (i j : ℕ) (x y : X) → slice_get items i ≡ Some x → slice_get items j ≡ Some y → target x ≡ target y → IsNew i x → IsNew j y → i ≡ j
  differ i j x y a b e m n = elim (cases_order i j) [
    | inl is ↦ is
    | inr rest ↦ elim rest [ inl low ↦ absurd (n (i, low, (x, a, e))) | inr high ↦ absurd (m (j, high, (y, b, sym e))) ]
  ]

  judged_unique : (fault : ℕ → NetFault) → Judged (unique fault target items)
  judged_unique fault = elim (first_bad IsNew IsOld new_or_old items) [
    | inl all ↦ kept (λ i j x y a b e. differ i j x y a b e (all i x a) (all j y b))
    | inr h ↦
        broken (fault h.0) (
          h.0,
          refl,
          record {
            before = λ i j x y l m a b e. differ i j x y a b e (h.4 i x l a) (h.4 j y m b);
            earlier = h.3.0;
            first = h.3.2.0;
            second = h.1;
            order = h.3.1;
            first_at = h.3.2.1;
            second_at = h.2;
            same = h.3.2.2;
          },
        )
  ]

-- ---- ports

same_direction : (a b : Direction) → Decided (a ≡ b)
same_direction Takes Takes = inl refl
same_direction Takes Gives = inr (λ e. cc)
same_direction Gives Takes = inr (λ e. cc)
same_direction Gives Gives = inl refl

rule_width : (wide : Bool) (w : ℕ) → Decided (HasRuleWidth wide w)
rule_width true w = both (at_most 1 w) (at_most w MOST_PORT_BITS)
rule_width false w = cases_eq w 1

fits_rule : (p : Port) (r : PortRule) → Decided (FitsRule p r)
fits_rule p r =
    like (λ h. record { direction = h.0; name = h.1.0; width = h.1.1 }) (λ f. (f.direction, (f.name, f.width)))
    (both (same_direction p.direction r.direction) (both (same_list cases_eq p.name r.name) (rule_width r.wide p.width)))

-- this many ports of each kind
abbrev Counted : List Port → Bool → ℕ → ℕ → Type 0
Counted ports enable dins douts = IsPortCount dins × (IsPortCount douts × AllZip FitsRule ports (profile enable dins douts))

counted : (ports : List Port) (enable : Bool) (dins douts : ℕ) → Decided (Counted ports enable dins douts)
counted ports enable dins douts =
    both (both (at_most 1 dins) (at_most dins MOST_PORTS)) (both (both (at_most 1 douts) (at_most douts MOST_PORTS)) (all_zip FitsRule fits_rule ports (profile enable dins douts)))

abbrev Profiled : List Port → Bool → Type 0
Profiled ports enable = (dins : ℕ) × (dins < suc MOST_PORTS) × ((douts : ℕ) × (douts < suc MOST_PORTS) × Counted ports enable dins douts)

profiled : (ports : List Port) (enable : Bool) → Decided (Profiled ports enable)
profiled ports enable =
    some_below (λ dins. (douts : ℕ) × (douts < suc MOST_PORTS) × Counted ports enable dins douts)
    (λ dins. some_below (λ douts. Counted ports enable dins douts) (λ douts. counted ports enable dins douts) (suc MOST_PORTS)) (suc MOST_PORTS)

from_profile : (ports : List Port) (enable : Bool) → Profiled ports enable → PortsFit ports
from_profile ports enable h = record { enable = enable; dins = h.0; douts = h.2.0; din_count = h.2.2.0; dout_count = h.2.2.1.0; fit = h.2.2.1.1 }

to_profile : (ports : List Port) (f : PortsFit ports) → Profiled ports f.enable
to_profile ports f = (f.dins, (let l = f.din_count.1 in omega (arith, l)), (f.douts, (let l = f.dout_count.1 in omega (arith, l)), (f.din_count, (f.dout_count, f.fit))))

ports_fit : (ports : List Port) → Decided (PortsFit ports)
ports_fit ports = by (profiled ports true) (profiled ports false)
  where
    neither : (Profiled ports true → ⊥) → (Profiled ports false → ⊥) → (enable : Bool) → Profiled ports enable → ⊥
    neither n m true h = n h
    neither n m false h = m h

    by : Decided (Profiled ports true) → Decided (Profiled ports false) → Decided (PortsFit ports)
    by (inl h) other = inl (from_profile ports true h)
    by (inr n) (inl h) = inl (from_profile ports false h)
    by (inr n) (inr m) = inr (λ f. neither n m f.enable (to_profile ports f))

-- ---- statements

all_known : (scope : List Entry) (names : List (List ℕ)) → Decided (AllKnown scope names)
all_known scope names = all_of (λ (n : List ℕ). IsSome (stands_for scope n)) (λ n. is_some (stands_for scope n)) names

is_driven : (m : Netlist) (n : Net) → Decided (IsDriven m n)
is_driven m (Input i) = inr (λ h. h)
is_driven m (Output i) = less i (length m.outputs)
is_driven m (Wire i) = less i (length m.wires)
is_driven m (Reg i) = inr (λ h. h)

is_divisor : (a : Atom Net) → Decided (IsDivisor a)
is_divisor (atom.Net n) = inr (λ h. h)
is_divisor (atom.Constant c) = less 0 c.value

divides_by_divisor : (o : Operator) (b : Atom Net) → Decided (DividesByDivisor o b)
divides_by_divisor Divide b = is_divisor b
divides_by_divisor Add b = inl tt
divides_by_divisor Subtract b = inl tt
divides_by_divisor Multiply b = inl tt
divides_by_divisor Less b = inl tt
divides_by_divisor Equal b = inl tt
divides_by_divisor And b = inl tt
divides_by_divisor Or b = inl tt
divides_by_divisor Xor b = inl tt

divisor_is_constant : (r : Right Net ℕ) → Decided (DivisorIsConstant r)
divisor_is_constant (Copy a) = inl tt
divisor_is_constant (Not a) = inl tt
divisor_is_constant (Binary o a b) = divides_by_divisor o b
divisor_is_constant (Choose c a b) = inl tt
divisor_is_constant (Join a b) = inl tt
divisor_is_constant (Repeat n a) = inl tt
divisor_is_constant (Bit v k) = inl tt
divisor_is_constant (Slice v m l) = inl tt
divisor_is_constant (Word m i) = inl tt

widths_agree : (width : Net → ℕ) (words : ℕ → ℕ) (r : Right Net ℕ) → Decided (WidthsAgree width words r)
widths_agree width words (Copy a) = inl tt
widths_agree width words (Not a) = inl tt
widths_agree width words (Binary o a b) = cases_eq (atom_width width a) (atom_width width b)
widths_agree width words (Choose c a b) = both (cases_eq (atom_width width c) 1) (cases_eq (atom_width width a) (atom_width width b))
widths_agree width words (Join a b) = inl tt
widths_agree width words (Repeat n a) = inl tt
widths_agree width words (Bit v k) = both (at_most 2 (width v)) (less k (width v))
widths_agree width words (Slice v m l) = like (λ h. (h.0, h.1.0, h.1.1)) (λ h. (h.0, (h.1, h.2))) (both (at_most 2 (width v)) (both (at_most l m) (less m (width v))))
widths_agree width words (Word m i) = inl tt

assign_fits : (m : Netlist) (b : Assign) → Decided (AssignFits m b)
assign_fits m b = both (widths_agree (net_width m) (word_width m) b.right) (cases_eq (right_width (net_width m) (word_width m) b.right) (net_width m b.target))

update_fits : (m : Netlist) (u : Update) → Decided (UpdateFits m u)
update_fits m (Set r a) = cases_eq (atom_width (net_width m) a) (net_width m (Reg r))
update_fits m (Put x i a) = cases_eq (atom_width (net_width m) a) (word_width m x)

module _ (scope : List Entry) (m : Netlist) where
  -- the assign that a named one denotes, of which this holds
  sorted_with : (P : Assign → Type 0) → ((b : Assign) → Decided (P b)) → (a : NamedAssign) → Decided ((b : Assign) × IsSorted scope m a b × P b)
  sorted_with P d a =
      like (λ h. (h.0, (h.1, h.2.0), h.2.1)) (λ h. (h.0, h.1.0, (h.1.1, h.2)))
      (some_value (λ (b : Assign). IsDriven m b.target × P b) (λ b. both (is_driven m b.target) (d b)) (assign_named scope a))

  judged_assign : (k : ℕ) (a : NamedAssign) → AllJudged (assign_rules scope m k a)
  judged_assign k a =
      also (judged_condition (Unknown (AssignAt k)) (AllKnown scope (assign_names a)) (all_known scope (assign_names a)))
      (also (judged_condition (WrongSort (AssignAt k)) ((b : Assign) × IsSorted scope m a b)
      (like (λ h. (h.0, (h.1, h.2))) (λ h. (h.0, h.1.0, h.1.1)) (some_value (λ (b : Assign). IsDriven m b.target) (λ b. is_driven m b.target) (assign_named scope a))))
      (also (judged_condition (Divisor (AssignAt k)) ((b : Assign) × IsSorted scope m a b × DivisorIsConstant b.right) (sorted_with (λ b. DivisorIsConstant b.right) (λ b. divisor_is_constant b.right) a))
      (also (judged_condition (Width (AssignAt k)) ((b : Assign) × IsSorted scope m a b × AssignFits m b) (sorted_with (AssignFits m) (assign_fits m) a))
      none)))

  judged_update : (k : ℕ) (u : NamedUpdate) → AllJudged (update_rules scope m k u)
  judged_update k u =
      also (judged_condition (Unknown (UpdateAt k)) (AllKnown scope (update_names u)) (all_known scope (update_names u)))
      (also (judged_condition (WrongSort (UpdateAt k)) ((v : Update) × (update_named scope u ≡ Some v))
      (like (λ h. (h.0, h.1)) (λ h. (h.0, h.1, tt)) (some_value (λ (v : Update). Unit {0}) (λ v. inl tt) (update_named scope u))))
      (also (judged_condition (Width (UpdateAt k)) ((v : Update) × (update_named scope u ≡ Some v) × UpdateFits m v) (some_value (UpdateFits m) (update_fits m) (update_named scope u)))
      none))

-- ---- drivers

module _ (m : Netlist) where
  has_assign : (n : Net) → Decided (HasAssign m n)
  has_assign n = some_item (λ (a : Assign). a.target ≡ n) (λ a. net_cases a.target n) m.assigns

  has_update : (h : Holder) → Decided (HasUpdate m h)
  has_update h = some_item (λ (u : Update). update_target u ≡ h) (λ u. holder_cases (update_target u) h) m.updates

  has_driver : (x : Meaning) → Decided (HasDriver m x)
  has_driver clock = inl tt
  has_driver (net (Input i)) = inl tt
  has_driver (net (Output i)) = has_assign (Output i)
  has_driver (net (Wire i)) = has_assign (Wire i)
  has_driver (net (Reg i)) = has_update (OfNet (Reg i))
  has_driver (array x) = has_update (OfArray x)

  judged_driver : (ports k : ℕ) (e : Entry) → AllJudged (driver_rules ports m k e)
  judged_driver ports k e = also (judged_condition (Undriven (declared_at ports k)) (HasDriver m e.meaning) (has_driver e.meaning)) none

  judged_acyclic : Judged (acyclic m)
  judged_acyclic = elim (acyclic_or m.assigns) [ inl all ↦ kept all | inr h ↦ broken (Cycle h.0) (h.0, refl, h.1) ]

judged : (ports : List Port) (scope : List Entry) (m : Netlist) (assigns : List NamedAssign) (updates : List NamedUpdate) → AllJudged (rules_of ports scope m assigns updates)
judged ports scope m assigns updates =
    also (judged_unique (λ (n : List ℕ). n) (same_list cases_eq) (map (λ (e : Entry). e.name) scope) (λ k. Duplicate (declared_at (length ports) k)))
    (also (judged_condition Ports (PortsFit ports) (ports_fit ports))
    (also (judged_each (assign_rules scope m) (judged_assign scope m) assigns)
    (also (judged_each (update_rules scope m) (judged_update scope m) updates)
    (also (judged_unique assign_target net_cases m.assigns (λ k. DrivenTwice (AssignAt k)))
    (also (judged_unique update_target holder_cases m.updates (λ k. DrivenTwice (UpdateAt k)))
    (also (judged_each (driver_rules (length ports) m) (judged_driver m (length ports)) scope)
    (also (judged_acyclic m)
    none)))))))

-- some module, or some fault
pub some : (p : Parts) → ((m : NamedNetlist) × IsModuleOf p m) ⊎ ((f : NetFault) × IsFault p f)
some p = elim (keeps_or_breaks (net_rules p) (judged p.ports.items (scope_of p) (netlist_of_parts p) p.assigns.items p.updates.items)) [
  | inl all ↦ inl (module_of p, record { keeps = all; is = refl })
  | inr bad ↦ inr bad
]
