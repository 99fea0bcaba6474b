-- What the images' nets and buffers are at a clock.
use Rattle.std.specs.Prelude.{◌≡◌, ℕ, ◌+◌, ◌<◌, ◌≤◌, false, List, ◌∷◌, length, slice_get, Some}
use Rattle.wiring.specs.declared.netlist.Net.{Net}
use Rattle.wiring.specs.Netlist.{Netlist}
use Rattle.wiring.specs.Snapshot.{Contents, Snapshot, net_value}
use Rattle.wiring.specs.Clock.{Clock}
use Rattle.wiring.specs.History.{counted}
use Rattle.circuit.specs.Runs.{IsRunning}
use Rattle.line_buffer.specs.Streams.{IsPixel, BufferIsRight}
use Rattle.line_buffer.specs.Places.{Place, word_at, depth_of}
use Rattle.line_buffer.specs.Buffers.{IsBuffer}

-- what was built for an image: its net, its distinct ages, ascending, with a net for each, and where each is at a clock
pub record Line : Type 0 where
  pub net : Net
  pub ages : List ℕ
  pub taps : List Net
  pub place : (age t : ℕ) → Place

-- the pixels of the images as streams: pixel q of image g, of which there are this many, and when its pixel 0 comes
pub record Streams : Type 0 where
  pub pixel : (g q : ℕ) → ℕ
  pub count : ℕ
  pub delay : ℕ → ℕ

-- the image's net is the pixel scheduled for counted clock t, if there is one
abbrev pub NetIsRight : Streams → (lines : ℕ → Line) → (t : ℕ) → Snapshot → ℕ → Type 0
NetIsRight p lines t s g = IsPixel (p.pixel g) p.count (p.delay g) t (net_value s (lines g).net)

-- the horizon of an image: its words hold the pixels that came this many clocks before
abbrev pub HorizonOf : Streams → (lines : ℕ → Line) → (t : ℕ) → Contents → ℕ → Type 0
HorizonOf p lines t c g = BufferIsRight (λ age t. word_at c ((lines g).place age t)) (p.pixel g) p.count (p.delay g) (depth_of (lines g).ages) t

-- the tap of each age is the pixel that came this many clocks before
abbrev pub TapsAreRight : Streams → (lines : ℕ → Line) → (t : ℕ) → Snapshot → ℕ → Type 0
TapsAreRight p lines t s g = (k age q : ℕ) (tap : Net) → slice_get (lines g).ages k ≡ Some age → slice_get (lines g).taps k ≡ Some tap → q + age + p.delay g ≡ t → q < p.count → net_value s tap ≡ p.pixel g q

-- What the parts of a circuit must ensure, where `Fed history` states that the streams agree with what came in at these clocks.
pub record AreImages (b m : Netlist) (copies : List ℕ) (from : Contents) (p : Streams) (lines : ℕ → Line) (IsKept IsInput : ℕ → Type 0) (Fed : List Clock → Type 0) : Type 0 where
  pub buffer : (g : ℕ) → IsKept g → IsBuffer b copies (lines g).place (lines g).ages (lines g).taps (lines g).net
  pub within : (g k age : ℕ) → IsKept g → slice_get (lines g).ages k ≡ Some age → age ≤ depth_of (lines g).ages
  pub earlier : (before : List Clock) (c : Clock) → c.reset ≡ false → Fed (c ∷ before) → Fed before
  pub input : (before : List Clock) (c : Clock) (s : Snapshot) → IsRunning b m from before c s → Fed (c ∷ before) → (g : ℕ) → IsInput g → NetIsRight p lines (length (counted m before)) s g
  pub body : (before : List Clock) (c : Clock) (s : Snapshot) → IsRunning b m from before c s → (f : ℕ) → IsKept f → (IsInput f → ⊥) →
      ((g : ℕ) → g < f → IsKept g → TapsAreRight p lines (length (counted m before)) s g) → NetIsRight p lines (length (counted m before)) s f
