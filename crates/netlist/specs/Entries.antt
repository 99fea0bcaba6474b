-- For the private functions: the scope that a map of names keeps, and names that come a second time.
use Rattle.std.specs.Prelude.{◌≡◌, ℕ, ◌+◌, ◌<◌, List, [], ◌∷◌, ◌++◌, length, map}
use Rattle.std.specs.Borrow.{Bor}
use Rattle.wiring.specs.declared.netlist.Net.TheVariants.{Input, Output, Wire, Reg}
use Rattle.wiring.specs.Tables.{IsSecond}
use Rattle.netlist.specs.declared.scope.Stands.{Stands}
use Rattle.netlist.specs.declared.scope.Stands.TheVariants as stands
use Rattle.netlist.specs.declared.fault.Declared.{Declared}
use Rattle.netlist.specs.declared.fault.Declared.TheVariants.{Port, Declaration}
use Rattle.netlist.specs.declared.fault.NetFault.{NetFault}
use Rattle.netlist.specs.declared.fault.NetFault.TheVariants.{Duplicate}
use Rattle.netlist.specs.Scopes.{Meaning, clock, net, array, Entry}

abbrev pub meaning_of : Stands → Meaning
meaning_of stands.Clock = clock
meaning_of (stands.Input i) = net (Input i)
meaning_of (stands.Output i) = net (Output i)
meaning_of (stands.Wire i) = net (Wire i)
meaning_of (stands.Reg i) = net (Reg i)
meaning_of (stands.Array x) = array x

-- the entries of a map, each a slice and what it denotes
abbrev pub entries_in : List (Bor (List ℕ) × Stands) → List Entry
entries_in es = map (λ e. record { name = e.0.now; meaning = meaning_of e.1 }) es

abbrev pub names_in : List Entry → List (List ℕ)
names_in scope = map (λ (e : Entry). e.name) scope

-- the name at this place is at an earlier one, and no name before it does
abbrev pub IsRepeat : List (List ℕ) → ℕ → Type 0
IsRepeat names place = IsSecond (λ (n : List ℕ). n) names place

-- the fault of a port or declaration whose name the scope has already
abbrev pub IsTaken : List Entry → List ℕ → Declared → NetFault → Type 0
IsTaken scope name declared f = (f ≡ Duplicate declared) × IsRepeat (names_in scope ++ name ∷ []) (length scope)

-- the fault of the first port, or declaration, whose name came before
pub record IsSecondPort (names : List (List ℕ)) (ports : ℕ) (f : NetFault) : Type 0 where
  pub place : ℕ
  pub within : place < ports
  pub fault : f ≡ Duplicate (Port place)
  pub is_repeat : IsRepeat names place

pub record IsSecondDeclaration (names : List (List ℕ)) (ports : ℕ) (f : NetFault) : Type 0 where
  pub place : ℕ
  pub fault : f ≡ Duplicate (Declaration place)
  pub is_repeat : IsRepeat names (ports + place)
