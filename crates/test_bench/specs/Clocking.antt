-- How far a bench has come: its clocks, its pictures and its notes.
use Rattle.std.specs.Prelude.{◌≡◌, ℕ, ◌+◌, ◌-◌, ◌*◌, ◌^◌, ◌<◌, ◌≤◌, min, ℤ, pos, ◌-ℤ◌, Bool, List, ◌++◌, length, take, Option, slice_get, Some, vec_capacity, IfSome, [], ◌∷◌, Result, MatchResult}
use Rattle.std.specs.List.{All, flat_map, range_with_len}
use Rattle.std.specs.Option.{option_map}
use Rattle.dk_base.specs.Frames.{Size, area}
use Rattle.dk_desk.specs.Calls.{IsIfTold}
use Rattle.dk_desk.specs.Outside.{Outside}
use Rattle.wiring.specs.Netlist.{Netlist, net_width, dout_net}
use Rattle.wiring.specs.Rules.{KeepsRules}
use Rattle.wiring.specs.Order.{IsEvaluationOrder}
use Rattle.wiring.specs.Snapshot.{Contents, Snapshot, net_value}
use Rattle.wiring.specs.Clock.{Clock}
use Rattle.wiring.specs.Runs.{Runs, RunStops, picture}
use Rattle.cycle_sim.specs.declared.fill.Fill.{Fill}
use Rattle.cycle_sim.specs.Filled.{filled_contents}
use Rattle.cycle_sim.specs.Ports.{din_widths}
use Rattle.pgm_rounds.specs.declared.round.Round.{Round}
use Rattle.test_bench.specs.declared.picture.Shown.{Shown}
use Rattle.test_bench.specs.declared.clocking.Bench.{Bench}
use Rattle.test_bench.specs.declared.clocking.Feed.{Feed}
use Rattle.stimulus.specs.declared.stop.Stop.{Stop}
use Rattle.stimulus.specs.declared.stop.Stop.TheVariants.{Index, Count}
use Rattle.stimulus.specs.Stimulus.{greatest_dins, clocks_at, reset_clock}
use Rattle.stimulus.specs.Given.{rounds_of, AreBenchFrames}
use Rattle.stimulus.specs.Showing.{output_count, notes_of}
use Rattle.test_bench.specs.Batches.{HasBatch}

-- of this picture the first `most` samples are kept, and their number
pub record IsKept (most : ℕ) (whole : List ℕ) (kept : Shown) : Type 0 where
  pub samples : kept.samples.items ≡ take most whole
  pub count : kept.count ≡ min (length whole) (2 ^ 64 - 1)

-- that of each output
abbrev pub AreKept : ℕ → List Snapshot → List Shown → Type 0
AreKept most shots pictures = (k : ℕ) (kept : Shown) → slice_get pictures k ≡ Some kept → IsKept most (picture k shots) kept

-- the notes go on with these
abbrev pub GoOn : (before : Option (List (Bool × ℕ))) → List (Bool × ℕ) → (now : Option (List (Bool × ℕ))) → Type 0
GoOn before more now = IsIfTold now (option_map (λ notes. notes ++ more) before)

-- each dout fits its port
abbrev pub DoutsFit : Netlist → Snapshot → Type 0
DoutsFit m s = (k : ℕ) → k < output_count m → net_value s (dout_net k) < 2 ^ net_width m (dout_net k)

-- a picture and a place for each output, and room for the samples and for a batch of clocks
pub record IsBench (b : Bench) : Type 0 where
  pub rules : KeepsRules b.sim.netlist
  pub order : List ℕ
  pub ordered : IsEvaluationOrder b.sim.netlist.assigns order
  pub outs : length b.sim.netlist.outputs ≡ 2 * length b.outs.items
  pub pictures : length b.pictures.items ≡ length b.outs.items
  pub room : All (λ shown. b.most ≤ vec_capacity shown.samples) b.pictures.items
  pub batch : HasBatch (length (din_widths b.sim.netlist)) (length b.outs.items) b.batch

-- the bench goes through these clocks
pub record Clocked (m : Netlist) (clocks : List Clock) (old new : Bench) (before now : Option (List (Bool × ℕ))) : Type 0 where
  pub bench : IsBench new
  pub netlist : new.sim.netlist ≡ m
  pub most : new.most ≡ old.most
  pub made : new.made ≡ old.made + length clocks
  pub shots : List Snapshot
  pub runs : Runs m old.sim.contents clocks shots new.sim.contents
  pub kept : (all : List Snapshot) → AreKept old.most all old.pictures.items → AreKept old.most (all ++ shots) new.pictures.items
  pub fit : All (DoutsFit m) shots
  pub told : GoOn before (notes_of m shots) now

-- a run over these clocks, the first of which has this number, stops at this clock
pub record StopsAtIndex (m : Netlist) (from : Contents) (first : ℕ) (clocks : List Clock) (clock : ℤ) (array index : ℕ) : Type 0 where
  pub shots : List Snapshot
  pub stops : RunStops m from clocks shots array index
  pub clock_is : clock ≡ pos (first + length shots) -ℤ pos 1

abbrev pub StopsIn : Netlist → Contents → (first : ℕ) → List Clock → Stop → Type 0
StopsIn m from first clocks (Index clock array index) = StopsAtIndex m from first clocks clock array index
StopsIn m from first clocks (Count shown wanted) = ⊥

-- the bench is given these rounds
pub record IsFed (m : Netlist) (size : Size) (feed : Feed) (rounds : List Round) : Type 0 where
  pub some : 0 < area size
  pub area_is : feed.area ≡ area size
  pub hold : IfSome feed.hold (λ count. 0 < count)
  pub held : feed.held.items ≡ greatest_dins (din_widths m)
  pub frames : AreBenchFrames (din_widths m) size rounds

-- the clocks of `count` pixels, from pixel `start` on, with the held clocks between them
abbrev pub pixel_clocks : Netlist → Feed → List Round → (start count : ℕ) → List Clock
pixel_clocks m feed rounds start count = flat_map (clocks_at feed.hold (din_widths m) (rounds_of rounds)) (range_with_len start count)

-- the reset clock, and then the clocks of this many pixels
abbrev pub whole_drive : Netlist → Feed → List Round → ℕ → List Clock
whole_drive m feed rounds count = reset_clock (length (din_widths m)) ∷ pixel_clocks m feed rounds 0 count

-- of the outside only the notes change
abbrev pub OnlyNotes : (before now : Outside) → Type 0
OnlyNotes before now = now ≡ record before { notes = now.notes }

-- A bench that goes through clocks, with its notes.
pub record HasDriven (clocks : List Clock) (old new : Bench) (before now : Outside) : Type 0 where
  -- of the outside only the notes change
  pub only : OnlyNotes before now
  -- the pictures and the notes have these clocks
  pub ok : Clocked old.sim.netlist clocks old new before.notes now.notes

-- A bench that stops in clocks.
pub record HasStopped (clocks : List Clock) (old : Bench) (before now : Outside) (answer : Stop) : Type 0 where
  -- of the outside only the notes change
  pub only : OnlyNotes before now
  -- the run over these clocks stops so
  pub stop : StopsIn old.sim.netlist old.sim.contents old.made clocks answer

-- clocks of a bench: it goes through them, or stops in them
abbrev pub Drives : List Clock → (old new : Bench) → (before now : Outside) → Result (Unit {0}) Stop → Type 0
Drives clocks old new before now result = MatchResult result (λ _. HasDriven clocks old new before now) (HasStopped clocks old before now)

-- A bench that goes through the clocks of `count` pixels, from pixel `start` on, with its notes.
pub record HasDrivenPixels (feed : Feed) (rounds : List Round) (start count : ℕ) (old new : Bench) (before now : Outside) : Type 0 where
  -- there are at most two clocks for each pixel
  pub few : new.made ≤ old.made + 2 * count
  -- of the outside only the notes change
  pub only : OnlyNotes before now
  -- the pictures and the notes have these clocks
  pub ok : Clocked old.sim.netlist (pixel_clocks old.sim.netlist feed rounds start count) old new before.notes now.notes

-- the clocks of pixels: the bench goes through them, or stops in them
abbrev pub DrivesPixels : Feed → List Round → (start count : ℕ) → (old new : Bench) → (before now : Outside) → Result (Unit {0}) Stop → Type 0
DrivesPixels feed rounds start count old new before now result =
    MatchResult result (λ _. HasDrivenPixels feed rounds start count old new before now) (HasStopped (pixel_clocks old.sim.netlist feed rounds start count) old before now)

-- the bench is given these rounds, which are of one size
abbrev pub IsFedTo : Netlist → Feed → List Round → Type 0
IsFedTo m feed rounds = (size : Size) × IsFed m size feed rounds

-- A bench can be driven with these rounds.
pub record CanDrive (b : Bench) (feed : Feed) (rounds : List Round) : Type 0 where
  -- it keeps its invariant
  pub bench : IsBench b
  -- the feed is that of the rounds
  pub fed : IsFedTo b.sim.netlist feed rounds

-- all pictures have room for this many samples
abbrev pub HaveRoomFor : ℕ → List Shown → Type 0
HaveRoomFor most pictures = All (λ shown. most ≤ vec_capacity shown.samples) pictures

-- Pictures without samples, with room for this many each.
pub record ArePlain (samples number : ℕ) (pictures : List Shown) : Type 0 where
  -- there are this many
  pub count : length pictures ≡ number
  -- they have no samples
  pub kept : AreKept samples [] pictures
  -- and room for them
  pub room : HaveRoomFor samples pictures

-- A bench with this module before its first clock, with this filling.
pub record IsSetUp (m : Netlist) (fill : Fill) (samples : ℕ) (b : Bench) : Type 0 where
  -- it keeps its invariant
  pub bench : IsBench b
  -- its netlist is the module's
  pub netlist : b.sim.netlist ≡ m
  -- registers and arrays are filled
  pub contents : b.sim.contents ≡ filled_contents fill m
  -- it keeps the first of this many samples of each picture
  pub most : b.most ≡ samples
  -- it has made no clock
  pub made : b.made ≡ 0
  -- and its pictures have no samples
  pub kept : AreKept samples [] b.pictures.items
