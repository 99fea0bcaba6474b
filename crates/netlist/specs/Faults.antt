-- The rules of nets in order, and the fault of parts: one that breaks the first rule that they do not keep.
use Rattle.std.specs.Prelude.{◌≡◌, ⊤, ◌⊎◌, ℕ, zero, suc, ◌+◌, ◌-◌, ◌<◌, Bool, true, false, if◌then◌else◌, nat_lt, List, [], ◌∷◌, ◌++◌, length, map, slice_get, Some, All, IsSome}
use Rattle.std.specs.List.{AllZip}
use Rattle.std.specs.Option.{option_to_list}
use Rattle.wiring.specs.declared.right.Right.{Right}
use Rattle.wiring.specs.declared.netlist.Net.{Net}
use Rattle.wiring.specs.declared.netlist.Net.TheVariants.{Input, Output, Wire, Reg}
use Rattle.wiring.specs.declared.netlist.Assign.{Assign}
use Rattle.wiring.specs.declared.netlist.Update.{Update}
use Rattle.wiring.specs.declared.netlist.Update.TheVariants.{Set, Put}
use Rattle.wiring.specs.declared.netlist.Holder.{Holder}
use Rattle.wiring.specs.declared.netlist.Holder.TheVariants.{OfNet, OfArray}
use Rattle.wiring.specs.Rights.{array_of, nets_of, atom_nets, atom_width, right_width}
use Rattle.wiring.specs.Netlist.{Netlist, net_width, word_width, IsDriven, update_target}
use Rattle.wiring.specs.Tables.{IsSecond, assign_target}
use Rattle.wiring.specs.Order.{DependsOn, IsAcyclic}
use Rattle.wiring.specs.Rules.{IsPortCount, IsPortWidth, WidthsAgree, DivisorIsConstant}
use Rattle.netlist.specs.declared.parts.Parts.{Parts}
use Rattle.netlist.specs.declared.parts.Port.{Port}
use Rattle.netlist.specs.declared.parts.Direction.{Direction}
use Rattle.netlist.specs.declared.parts.Direction.TheVariants.{Input as Takes, Output as Gives}
use Rattle.netlist.specs.declared.parts.NamedAssign.{NamedAssign}
use Rattle.netlist.specs.declared.parts.NamedUpdate.{NamedUpdate}
use Rattle.netlist.specs.declared.parts.NamedUpdate.TheVariants.{Set as NamedSet, Put as NamedPut}
use Rattle.netlist.specs.declared.fault.Declared.{Declared}
use Rattle.netlist.specs.declared.fault.Declared.TheVariants.{Port as PortAt, Declaration as DeclarationAt}
use Rattle.netlist.specs.declared.fault.Statement.TheVariants.{Assign as AssignAt, Update as UpdateAt}
use Rattle.netlist.specs.declared.fault.NetFault.{NetFault}
use Rattle.netlist.specs.declared.fault.NetFault.TheVariants.{Duplicate, Ports, Unknown, WrongSort, Divisor, Width, DrivenTwice, Undriven, Cycle}
use Rattle.netlist.specs.declared.fault.NetError.{NetError}
use Rattle.netlist.specs.declared.fault.NetError.TheVariants.{Fault, OutOfMemory}
use Rattle.netlist.specs.Names.{clock_name, reset_name, enable_name, din_name, valid_name, dout_name, NamedNetlist}
use Rattle.netlist.specs.Scopes.{Entry, Meaning, clock, net, array, scope_of, stands_for, assign_named, update_named, netlist_of_parts, module_of}

-- ---- the ports of the profile

pub record PortRule : Type 0 where
  pub direction : Direction
  pub name : List ℕ
  pub wide : Bool

abbrev pub din_rules : ℕ → ℕ → List PortRule
din_rules k zero = []
din_rules k (suc n) = record { direction = Takes; name = din_name k; wide = true } ∷ din_rules (suc k) n

abbrev pub output_rules : ℕ → ℕ → List PortRule
output_rules k zero = []
output_rules k (suc n) = record { direction = Gives; name = valid_name k; wide = false } ∷ (record { direction = Gives; name = dout_name k; wide = true } ∷ output_rules (suc k) n)

abbrev pub bit_input : List ℕ → PortRule
bit_input name = record { direction = Takes; name = name; wide = false }

abbrev pub profile : Bool → ℕ → ℕ → List PortRule
profile enable dins douts =
    bit_input clock_name ∷ (bit_input reset_name ∷ ((if enable then bit_input enable_name ∷ [] else []) ++ (din_rules 0 dins ++ output_rules 0 douts)))

-- 1 to 16 bits where it is wide, else 1
abbrev pub HasRuleWidth : Bool → ℕ → Type 0
HasRuleWidth true w = IsPortWidth w
HasRuleWidth false w = w ≡ 1

pub record FitsRule (p : Port) (r : PortRule) : Type 0 where
  pub direction : p.direction ≡ r.direction
  pub name : p.name ≡ r.name
  pub width : HasRuleWidth r.wide p.width

pub record PortsFit (ports : List Port) : Type 0 where
  pub enable : Bool
  pub dins : ℕ
  pub douts : ℕ
  pub din_count : IsPortCount dins
  pub dout_count : IsPortCount douts
  pub fit : AllZip FitsRule ports (profile enable dins douts)

-- ---- what a statement names

abbrev pub AllKnown : List Entry → List (List ℕ) → Type 0
AllKnown scope names = All (λ n. IsSome (stands_for scope n)) names

abbrev pub array_names : Right (List ℕ) (List ℕ) → List (List ℕ)
array_names r = option_to_list (array_of r)

abbrev pub assign_names : NamedAssign → List (List ℕ)
assign_names a = a.target ∷ (array_names a.right ++ nets_of a.right)

abbrev pub update_names : NamedUpdate → List (List ℕ)
update_names (NamedSet r a) = r ∷ atom_nets a
update_names (NamedPut m i a) = m ∷ (atom_nets i ++ atom_nets a)

abbrev pub AssignFits : Netlist → Assign → Type 0
AssignFits m b = WidthsAgree (net_width m) (word_width m) b.right × (right_width (net_width m) (word_width m) b.right ≡ net_width m b.target)

abbrev pub UpdateFits : Netlist → Update → Type 0
UpdateFits m (Set r a) = atom_width (net_width m) a ≡ net_width m (Reg r)
UpdateFits m (Put x i a) = atom_width (net_width m) a ≡ word_width m x

-- ---- what drives

abbrev pub TargetsDiffer : {X T : Type 0} → (X → T) → List X → Type 0
TargetsDiffer {X} target items = (i j : ℕ) (x y : X) → slice_get items i ≡ Some x → slice_get items j ≡ Some y → target x ≡ target y → i ≡ j

abbrev pub HasAssign : Netlist → Net → Type 0
HasAssign m n = (k : ℕ) × (a : Assign) × (slice_get m.assigns k ≡ Some a) × (a.target ≡ n)

abbrev pub HasUpdate : Netlist → Holder → Type 0
HasUpdate m h = (k : ℕ) × (u : Update) × (slice_get m.updates k ≡ Some u) × (update_target u ≡ h)

abbrev pub HasDriver : Netlist → Meaning → Type 0
HasDriver m clock = Unit {0}
HasDriver m (net (Input i)) = Unit {0}
HasDriver m (net (Output i)) = HasAssign m (Output i)
HasDriver m (net (Wire i)) = HasAssign m (Wire i)
HasDriver m (net (Reg i)) = HasUpdate m (OfNet (Reg i))
HasDriver m (array x) = HasUpdate m (OfArray x)

-- ---- rules

-- what holds of parts that keep a rule, and the faults that break it
abbrev pub Rule : Type 1
Rule = Type 0 × (NetFault → Type 0)

abbrev pub Keeps : List Rule → Type 0
Keeps [] = ⊤
Keeps (rule ∷ rules) = rule.0 × Keeps rules

-- the fault breaks the first rule that is not kept
abbrev pub Breaks : List Rule → NetFault → Type 0
Breaks [] f = ⊥
Breaks (rule ∷ rules) f = rule.1 f ⊎ (rule.0 × Breaks rules f)

-- this fault breaks it where it does not hold
abbrev pub condition : NetFault → Type 0 → Rule
condition fault Holds = (Holds, λ f. (f ≡ fault) × (Holds → ⊥))

-- the first of the items that does not keep its rules breaks them by this fault
pub record FirstBreaks {X : Type 0} (rules_at : ℕ → X → List Rule) (items : List X) (f : NetFault) : Type 0 where
  pub place : ℕ
  pub item : X
  pub at : slice_get items place ≡ Some item
  pub breaks : Breaks (rules_at place item) f
  pub before : (j : ℕ) (x : X) → j < place → slice_get items j ≡ Some x → Keeps (rules_at j x)

-- each item keeps its rules
abbrev pub each : {X : Type 0} → (ℕ → X → List Rule) → List X → Rule
each {X} rules_at items = ((k : ℕ) (x : X) → slice_get items k ≡ Some x → Keeps (rules_at k x), λ f. FirstBreaks rules_at items f)

-- no two items have the same target; the first with the target of an earlier one breaks it
abbrev pub unique : {X T : Type 0} → (ℕ → NetFault) → (X → T) → List X → Rule
unique fault target items = (TargetsDiffer target items, λ f. (k : ℕ) × (f ≡ fault k) × IsSecond target items k)

-- the port or declaration of a name's place, after this many ports
abbrev pub declared_at : ℕ → ℕ → Declared
declared_at ports place = if nat_lt place ports then PortAt place else DeclarationAt (place - ports)

module _ (scope : List Entry) (m : Netlist) where
  -- the assign with nets in place of names; it drives a wire or an output
  abbrev pub IsSorted : NamedAssign → Assign → Type 0
  IsSorted a b = (assign_named scope a ≡ Some b) × IsDriven m b.target

  abbrev pub assign_rules : ℕ → NamedAssign → List Rule
  assign_rules k a =
      condition (Unknown (AssignAt k)) (AllKnown scope (assign_names a))
      ∷ condition (WrongSort (AssignAt k)) ((b : Assign) × IsSorted a b)
      ∷ condition (Divisor (AssignAt k)) ((b : Assign) × IsSorted a b × DivisorIsConstant b.right)
      ∷ condition (Width (AssignAt k)) ((b : Assign) × IsSorted a b × AssignFits m b)
      ∷ []

  abbrev pub update_rules : ℕ → NamedUpdate → List Rule
  update_rules k u =
      condition (Unknown (UpdateAt k)) (AllKnown scope (update_names u))
      ∷ condition (WrongSort (UpdateAt k)) ((v : Update) × (update_named scope u ≡ Some v))
      ∷ condition (Width (UpdateAt k)) ((v : Update) × (update_named scope u ≡ Some v) × UpdateFits m v)
      ∷ []

abbrev pub driver_rules : ℕ → Netlist → ℕ → Entry → List Rule
driver_rules ports m k e = condition (Undriven (declared_at ports k)) (HasDriver m e.meaning) ∷ []

-- no assign depends on itself; of those that do, the fault names any
abbrev pub acyclic : Netlist → Rule
acyclic m = (IsAcyclic m.assigns, λ f. (k : ℕ) × (f ≡ Cycle k) × DependsOn m.assigns k k)

-- Names, ports, assigns and updates one by one, second drivers, what nothing drives, and cycles.
abbrev pub rules_of : List Port → List Entry → Netlist → List NamedAssign → List NamedUpdate → List Rule
rules_of ports scope m assigns updates =
    unique (λ k. Duplicate (declared_at (length ports) k)) (λ (n : List ℕ). n) (map (λ (e : Entry). e.name) scope)
    ∷ condition Ports (PortsFit ports)
    ∷ each (assign_rules scope m) assigns
    ∷ each (update_rules scope m) updates
    ∷ unique (λ k. DrivenTwice (AssignAt k)) assign_target m.assigns
    ∷ unique (λ k. DrivenTwice (UpdateAt k)) update_target m.updates
    ∷ each (driver_rules (length ports) m) scope
    ∷ acyclic m
    ∷ []

abbrev pub net_rules : Parts → List Rule
net_rules p = rules_of p.ports.items (scope_of p) (netlist_of_parts p) p.assigns.items p.updates.items

abbrev pub IsFault : Parts → NetFault → Type 0
IsFault p f = Breaks (net_rules p) f

-- an error is such a fault, or out of memory, of which the parts say nothing
abbrev pub IsErrorBy : (NetFault → Type 0) → NetError → Type 0
IsErrorBy is (Fault fault) = is fault
IsErrorBy is OutOfMemory = ⊤

-- the parts keep all net rules, and make this module
pub record IsModuleOf (p : Parts) (m : NamedNetlist) : Type 0 where
  pub keeps : Keeps (net_rules p)
  pub is : m ≡ module_of p

-- the same fault; of a cycle any target on it may be named
abbrev pub Agrees : NetFault → NetFault → Type 0
Agrees (Cycle j) (Cycle k) = Unit {0}
Agrees f g = f ≡ g
