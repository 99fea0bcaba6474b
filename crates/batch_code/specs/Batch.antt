-- Streams over a batch of clocks.
use Rattle.std.specs.Prelude.{◌≡◌, ℕ, zero, suc, List, [], ◌∷◌, slice_get, Some}
use Rattle.wiring.specs.Netlist.{Netlist}
use Rattle.wiring.specs.Snapshot.{Contents, Snapshot}
use Rattle.wiring.specs.Clock.{Clock, given, Steps}

-- each clock of the batch goes from the contents before it to those after it
abbrev pub IsBatch : Netlist → List Clock → (ℕ → Snapshot) → (ℕ → Contents) → Type 0
IsBatch m clocks shot stored = (t : ℕ) (c : Clock) → slice_get clocks t ≡ Some c → Steps m (stored t) (given m c) (shot t) (stored (suc t))

-- the first n of a sequence
abbrev pub firsts : {X : Type 0} → (ℕ → X) → ℕ → List X
firsts f zero = []
firsts f (suc n) = f 0 ∷ firsts (λ k. f (suc k)) n
