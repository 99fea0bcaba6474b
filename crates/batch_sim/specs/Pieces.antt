-- Clocks of a batch, by what the ports are given.
use Rattle.std.specs.Prelude.{◌≡◌, ℕ, ◌+◌, ◌*◌, ◌≤◌, List, length, Result, OnOk, IfErr}
use Rattle.wiring.specs.Netlist.{Netlist}
use Rattle.wiring.specs.Snapshot.{Contents}
use Rattle.wiring.specs.Clock.{Clock}
use Rattle.cycle_sim.specs.declared.ports.Out.{Out}
use Rattle.cycle_sim.specs.Simulated.{Machine}
use Rattle.batch_sim.specs.declared.batches.Stop.{Stop}
use Rattle.batch_guess.specs.declared.inputs.Inputs.{Inputs}
use Rattle.batch_guess.specs.declared.inputs.Piece.{Piece}
use Rattle.batch_sim.specs.Called.{din_count, output_count, batch_clocks, piece_of, FitPorts, Came, BatchStops}

-- the clocks of a batch
abbrev pub clocks_of : Netlist → Inputs → List Clock
clocks_of m i = batch_clocks m i.enables.now i.dins.now

-- the clocks of a piece
abbrev pub clocks_in : Netlist → Piece → List Clock
clocks_in m p = piece_of m p.inputs.enables.now p.inputs.dins.now p.first p.count

-- each clock has all dins, and they fit their ports
pub record AreInputsOf (m : Netlist) (i : Inputs) : Type 0 where
  pub fit : FitPorts m (clocks_of m i)
  pub all : length i.dins.now ≡ length i.enables.now * din_count m

-- these are clocks of a batch for a netlist
pub record IsPieceOf (m : Netlist) (p : Piece) : Type 0 where
  pub inputs : AreInputsOf m p.inputs
  pub within : p.first + p.count ≤ length p.inputs.enables.now

-- these are clocks of a batch with this many dins in each
pub record HasDins (ports : ℕ) (p : Piece) : Type 0 where
  pub all : length p.inputs.dins.now ≡ length p.inputs.enables.now * ports
  pub within : p.first + p.count ≤ length p.inputs.enables.now

-- each clock has places for its outputs
abbrev pub HavePlaces : Netlist → Inputs → List Out → Type 0
HavePlaces m i outs = length outs ≡ length i.enables.now * output_count m

-- the clocks of a piece take place after any run over the clocks before them
abbrev pub PieceRan : Netlist → Piece → (mid to : Contents) → (old new : List Out) → Type 0
PieceRan m p mid to old new = (from : Contents) (before : List Out) →
    Came m (clocks_of m p.inputs) from mid before old p.first → Came m (clocks_of m p.inputs) from to before new (p.first + p.count)

-- a clock of a piece stops after any run over the clocks before the piece
abbrev pub PieceStops : Netlist → Piece → (mid to : Contents) → (old new : List Out) → Stop → Type 0
PieceStops m p mid to old new stop = (from : Contents) (before : List Out) →
    Came m (clocks_of m p.inputs) from mid before old p.first → BatchStops m (clocks_of m p.inputs) from to before new stop

-- The clocks of a piece can be made, with places for their outputs.
pub record CanStep (m : Netlist) (p : Piece) (places : List Out) : Type 0 where
  -- it is of a batch for the netlist
  pub piece : IsPieceOf m p
  -- each clock of the batch has places for its outputs
  pub outs : HavePlaces m p.inputs places

-- The clocks of a piece: they took place, or one of them stops.
pub record IsStepped (m now : Netlist) (p : Piece) (mid to : Contents) (old new : List Out) (result : Result (Unit {0}) Stop) : Type 0 where
  -- its netlist is the same
  pub netlist : now ≡ m
  -- Ok: they took place
  pub ok : OnOk result (PieceRan m p mid to old new)
  -- Stop: one of them stops
  pub stops : IfErr result (PieceStops m p mid to old new)

-- a machine over the clocks of a piece
abbrev pub StepsPiece : (before after : Machine) → Piece → (old new : List Out) → Result (Unit {0}) Stop → Type 0
StepsPiece before after p old new result = IsStepped before.netlist after.netlist p before.contents after.contents old new result
