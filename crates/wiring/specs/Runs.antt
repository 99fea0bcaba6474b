-- Runs over lists of clocks, and what each output shows.
use Rattle.std.specs.Prelude.{◌≡◌, ℕ, ◌==◌, List, [], ◌∷◌}
use Rattle.std.specs.Prelude.{map, filter}
use Rattle.wiring.specs.Netlist.{Netlist, valid_net, dout_net}
use Rattle.wiring.specs.Snapshot.{Contents, Snapshot, net_value}
use Rattle.wiring.specs.Clock.{Clock, given, Steps, Stops}

-- the run over these clocks, in order: a snapshot of each, and the contents at the end
abbrev pub Runs : Netlist → Contents → List Clock → List Snapshot → Contents → Type 0
Runs m from [] [] to = from ≡ to
Runs m from [] (s ∷ shots) to = ⊥
Runs m from (c ∷ clocks) [] to = ⊥
Runs m from (c ∷ clocks) (s ∷ shots) to = (next : Contents) × Steps m from (given m c) s next × Runs m next clocks shots to

-- The run over these clocks stops: it has a snapshot of each clock before one in which an index is past the end of its array.
abbrev pub RunStops : Netlist → Contents → List Clock → List Snapshot → ℕ → ℕ → Type 0
RunStops m from [] shots array index = ⊥
RunStops m from (c ∷ clocks) [] array index = Stops m from (given m c) array index
RunStops m from (c ∷ clocks) (s ∷ shots) array index = (next : Contents) × Steps m from (given m c) s next × RunStops m next clocks shots array index

-- what an output shows: its dout at the clocks with its valid 1
abbrev pub picture : ℕ → List Snapshot → List ℕ
picture k shots = map (λ s. net_value s (dout_net k)) (filter (λ s. net_value s (valid_net k) == 1) shots)
