-- What the buffer of one image must ensure, in each form.
use Rattle.std.specs.Prelude.{◌≡◌, ◌==◌, ◌⊎◌, ℕ, suc, ◌+◌, ◌<◌, ◌≤◌, Bool, false, not, ◌&&◌, nat_le, nat_lt, IsTrue, if◌then◌else◌, List, [], ◌∷◌, ◌++◌, length, slice_get, Some, All, Contains}
use Rattle.std.specs.List.{list_any}
use Rattle.std.specs.List.Sorted.{IsStrictlyIncreasing}
use Rattle.dk_base.specs.declared.TheConstants.{MAX_BUFFER_BITS}
use Rattle.wiring.specs.declared.netlist.Net.{Net}
use Rattle.wiring.specs.declared.netlist.Net.TheVariants.{Input, Output, Wire, Reg}
use Rattle.wiring.specs.declared.netlist.Holder.{Holder}
use Rattle.wiring.specs.declared.netlist.Holder.TheVariants.{OfNet, OfArray}
use Rattle.wiring.specs.declared.netlist.Shape.{Shape}
use Rattle.wiring.specs.declared.netlist.Assign.{Assign}
use Rattle.wiring.specs.declared.netlist.Update.{Update}
use Rattle.wiring.specs.declared.netlist.Update.TheVariants.{Set, Put}
use Rattle.wiring.specs.Netlist.{Netlist, net_width, IsState, update_target}
use Rattle.wiring.specs.BufferBits.{atom_reads}
use Rattle.wiring.specs.Sizes.{IsWidth}
use Rattle.wiring.specs.Snapshot.{Contents, Snapshot, IsNext, net_value, right_accesses, update_accesses}
use Rattle.wiring.specs.Clock.{Clock}
use Rattle.wiring.specs.History.{was_reset, is_held, counted}
use Rattle.net_build.specs.Includes.{Includes}
use Rattle.net_build.specs.Draft.{IsNet, UpdatedBut}
use Rattle.net_build.specs.Runs.{IsClockOf, InEachRun, StaysInside, IsReady, StillBut}
use Rattle.net_build.specs.Control.{IsMadeOf, is_control, AddsReads}
use Rattle.net_build.specs.Depth.{IsWithin, SetsWithin}
use Rattle.line_buffer.specs.Added.{EachAdded}
use Rattle.line_buffer.specs.Streams.{IsPixel, BufferIsRight}
use Rattle.line_buffer.specs.Places.{Place, word_at, depth_of}

-- An image can have a buffer: its net is there and has this width, and the ages at which it is read ascend, up to the limit.
pub record CanBeBuffered (b : Netlist) (net : Net) (width : ℕ) (ages : List ℕ) : Type 0 where
  pub ascending : IsStrictlyIncreasing ages
  pub most : All (λ age. age ≤ MAX_BUFFER_BITS) ages
  pub bits : IsWidth width
  pub there : IsNet b net
  pub wide : net_width b net ≡ width

-- an array that the old netlist does not have
abbrev pub is_new : Netlist → ℕ → Bool
is_new old x = nat_le (length old.arrays) x

-- each access of an assign, or of an update, is inside its array in each clock since a reset
abbrev pub ReadsInside : Netlist → Assign → Type 0
ReadsInside b a = All (StaysInside b) (right_accesses a.right)

abbrev pub PutsInside : Netlist → Update → Type 0
PutsInside b u = All (StaysInside b) (update_accesses u)

-- rst, en, and the registers from `first` to before `end` that are not among the copies
abbrev pub is_added : (enable : Bool) (first end : ℕ) (copies : List ℕ) → Holder → Bool
is_added enable first end copies (OfNet (Input k)) = nat_lt k (if enable then 2 else 1)
is_added enable first end copies (OfNet (Output k)) = false
is_added enable first end copies (OfNet (Wire k)) = false
is_added enable first end copies (OfNet (Reg k)) = (nat_le first k && nat_lt k end) && not (list_any (λ (r : ℕ). r == k) copies)
is_added enable first end copies (OfArray x) = false

-- a register is one of these, or takes what is made only of the base
abbrev pub TakesMade : Netlist → (base : Holder → Bool) → (copies : List ℕ) → Update → Type 0
TakesMade b base copies (Set r a) = Contains copies r ⊎ All (IsMadeOf b base) (atom_reads a)
TakesMade b base copies (Put x i a) = Unit {0}

-- a register is one of the copies, or takes what is made of rst, en and added registers that are none
abbrev pub TakesAdded : (new old : Netlist) → (copies : List ℕ) → Update → Type 0
TakesAdded new old copies u = TakesMade new (is_added new.enable (length old.regs) (length new.regs) copies) copies u

-- a register that the old netlist does not have
pub record IsAdded (new old : Netlist) (r : ℕ) : Type 0 where
  pub beyond : length old.regs ≤ r
  pub there : r < length new.regs

-- Arrays of these shapes are added, and wires and registers. The wires read only these arrays. Each added register takes what is made of rst, en and added registers, except the copies: so neither the image's net nor a din goes into another one. Each clock path to an added register is short. Each added access is inside its array. Each added register and array is updated, and keeps its contents in held clocks, after a reset if there are copies. No other register or array gets an update.
pub record AddsBuffer (new old : Netlist) (shapes : List Shape) (copies : List ℕ) : Type 0 where
  pub includes : Includes new old
  pub arrays : new.arrays ≡ old.arrays ++ shapes
  pub added : All (IsAdded new old) copies
  pub updated : (free : List Holder) → UpdatedBut old free → UpdatedBut new free
  pub only : (k : ℕ) (u : Update) → length old.updates ≤ k → slice_get new.updates k ≡ Some u → IsState old (update_target u) → ⊥
  pub still : (others : List ℕ) (free : List Holder) → StillBut old others free → StillBut new (others ++ copies) free
  pub control : EachAdded (TakesAdded new old copies) new.updates old.updates
  pub levels : EachAdded (SetsWithin new) new.updates old.updates
  pub reads_inside : EachAdded (ReadsInside new) new.assigns old.assigns
  pub puts_inside : EachAdded (PutsInside new) new.updates old.updates
  pub reads : AddsReads new old (is_new old)

-- Of an image whose net is `value`, in each run of every module that includes the netlist: in each clock after a reset clock, t being its number, the tap of each age above 0 is the word at its place, once t is at least the age. In a counted clock the words go on being right, of any stream whose pixel the net is. In a held clock they stay, after a reset if some registers are copies of words.
pub record IsBuffer (b : Netlist) (copies : List ℕ) (place : (age t : ℕ) → Place) (ages : List ℕ) (taps : List Net) (value : Net) : Type 0 where
  pub one_each : length taps ≡ length ages
  pub net : (k : ℕ) (tap : Net) → slice_get taps k ≡ Some tap → IsNet b tap
  pub width : (k : ℕ) (tap : Net) → slice_get taps k ≡ Some tap → net_width b tap ≡ net_width b value
  pub now : (k : ℕ) (tap : Net) → slice_get ages k ≡ Some 0 → slice_get taps k ≡ Some tap → tap ≡ value
  pub word : (k age : ℕ) (tap : Net) → slice_get ages k ≡ Some age → 0 < age → slice_get taps k ≡ Some tap →
      InEachRun b (λ m before c s. IsTrue (was_reset before) → c.reset ≡ false → age ≤ length (counted m before) → net_value s tap ≡ word_at s.contents (place age (length (counted m before))))
  pub goes_on : (pixel : ℕ → ℕ) (count delay : ℕ) →
      InEachRun b (λ m before c s. IsTrue (was_reset before) → c.reset ≡ false → is_held m c ≡ false → (next : Contents) → IsNext m s next →
      BufferIsRight (λ age t. word_at s.contents (place age t)) pixel count delay (depth_of ages) (length (counted m before)) → IsPixel pixel count delay (length (counted m before)) (net_value s value) →
      BufferIsRight (λ age t. word_at next (place age t)) pixel count delay (depth_of ages) (suc (length (counted m before))))
  pub waits : InEachRun b (λ m before c s. IsReady copies before → IsTrue (is_held m c) → (next : Contents) → IsNext m s next → (age t : ℕ) → 0 < age → age ≤ depth_of ages → word_at next (place age t) ≡ word_at s.contents (place age t))

-- rst, en, the registers, and the arrays from `first` to before `end`
abbrev pub is_buffer : (enable : Bool) (first end : ℕ) → Holder → Bool
is_buffer enable first end (OfNet n) = is_control enable (OfNet n)
is_buffer enable first end (OfArray x) = nat_le first x && nat_lt x end

-- the taps of ages above 0 are made only of the buffer's own arrays, and of rst, en and registers, with at most this number of operators on each path of assigns
abbrev pub AreMadeOfBuffer : Netlist → (most first end : ℕ) → (ages : List ℕ) → (taps : List Net) → Type 0
AreMadeOfBuffer b most first end ages taps = (k age : ℕ) (tap : Net) → slice_get ages k ≡ Some age → 0 < age → slice_get taps k ≡ Some tap → IsWithin b (is_buffer b.enable first end) most (OfNet tap)

-- In this run the net had these values in the counted clocks since the last reset: `v j` in that of number j.
abbrev pub HadValues : (part m : Netlist) → Contents → Net → (v : ℕ → ℕ) → List Clock → Type 0
HadValues part m from net v [] = Unit {0}
HadValues part m from net v (d ∷ rest) =
    d.reset ≡ false → HadValues part m from net v rest × ((s : Snapshot) → IsClockOf part m from rest d s → is_held m d ≡ false → net_value s net ≡ v (length (counted m rest)))

-- What comes out of a buffer is what went in, from any contents at power-up: in each clock after a reset clock, t being its number, each word from which a pixel may still be read holds the net's value of this many counted clocks before, and each tap is that value.
pub record IsDelay (b : Netlist) (place : (age t : ℕ) → Place) (ages : List ℕ) (taps : List Net) (value : Net) : Type 0 where
  pub word : (v : ℕ → ℕ) (m : Netlist) (from : Contents) (before : List Clock) (c : Clock) (s : Snapshot) → IsClockOf b m from before c s → IsTrue (was_reset before) → HadValues b m from value v before →
      (age q : ℕ) → 0 < age → age ≤ depth_of ages → q + age ≡ length (counted m before) → word_at s.contents (place age (length (counted m before))) ≡ v q
  pub tap : (v : ℕ → ℕ) (m : Netlist) (from : Contents) (before : List Clock) (c : Clock) (s : Snapshot) → IsClockOf b m from before c s → IsTrue (was_reset before) → c.reset ≡ false → HadValues b m from value v before →
      (k age q : ℕ) (tap : Net) → slice_get ages k ≡ Some age → 0 < age → slice_get taps k ≡ Some tap → q + age ≡ length (counted m before) → net_value s tap ≡ v q
