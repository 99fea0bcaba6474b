-- What came in, clock after clock.
use Rattle.std.proofs.Common.{◌≡◌, ◌⊎◌, ℕ, suc, ◌<◌, Bool, true, false, List, [], ◌∷◌, length, sym, ap, ◌∙◌, inl, inr, arith}
use Rattle.std.specs.Prelude.{slice_index, if◌then◌else◌, map}
use Rattle.wiring.specs.Netlist.{Netlist, din_net}
use Rattle.wiring.specs.Snapshot.{Contents, Snapshot, net_value}
use Rattle.wiring.specs.Clock.{Clock}
use Rattle.wiring.specs.History.{is_held, counted, fed}
use Rattle.net_build.specs.Includes.{Includes}
use Rattle.net_build.proofs.Runs.{clock_more, din_shown}
use Rattle.pointwise_ir.specs.Programs.{Program}
use Rattle.net_build.proofs.Clocks.{bool_cases}
use Rattle.circuit.specs.Rounds.{Rounds, Feeds, pixel_count, pixel_bits}
use Rattle.circuit.specs.Runs.{IsRunning}
use Rattle.circuit.proofs.Streamed.{Line, Streams, NetIsRight, TapsAreRight, AreImages}
use Rattle.circuit.proofs.Horizons.{nets, taps}

counted_going : (m : Netlist) (c : Clock) (before : List Clock) → c.reset ≡ false → is_held m c ≡ false → counted m (c ∷ before) ≡ c ∷ counted m before
counted_going m c before off going =
    ap (λ (r : Bool). if r then [] else if is_held m c then counted m before else c ∷ counted m before) off ∙ ap (λ (h : Bool). if h then counted m before else c ∷ counted m before) going

counted_held : (m : Netlist) (c : Clock) (before : List Clock) → c.reset ≡ false → is_held m c ≡ true → counted m (c ∷ before) ≡ counted m before
counted_held m c before off held =
    ap (λ (r : Bool). if r then [] else if is_held m c then counted m before else c ∷ counted m before) off ∙ ap (λ (h : Bool). if h then counted m before else c ∷ counted m before) held

-- rounds that agree with what came in agree with what came in before
pub feeds_earlier : (m : Netlist) (p : Program) (rounds : Rounds) (before : List Clock) (c : Clock) → c.reset ≡ false → Feeds m p rounds (c ∷ before) → Feeds m p rounds before
feeds_earlier m p rounds before c off feeds k q j input at low =
    elim (bool_cases (is_held m c)) as (λ _. slice_index (fed m k before) j ≡ pixel_bits p rounds k q) [
      | inl held ↦
          let same = counted_held m c before off held in
          sym (ap (λ (cs : List Clock). slice_index (map (λ (d : Clock). slice_index d.dins k) cs) j) same) ∙ feeds k q j input (at ∙ sym (ap length same)) low
      | inr going ↦
          let more = counted_going m c before off going in
          sym (ap (λ (cs : List Clock). slice_index (map (λ (d : Clock). slice_index d.dins k) cs) (suc j)) more) ∙ feeds k q (suc j) input (omega (arith, at, ap length more)) low
    ]

-- an input's net is the pixel that comes in
pub input_right : (b m : Netlist) (from : Contents) (p : Program) (rounds : Rounds) (streams : Streams) (lines : ℕ → Line) (before : List Clock) (c : Clock) (s : Snapshot) → IsRunning b m from before c s → Feeds m p rounds (c ∷ before) → (g : ℕ) → g < length p.inputs → (lines g).net ≡ din_net m g →
    streams.delay g ≡ 0 → ((q : ℕ) → streams.pixel g q ≡ pixel_bits p rounds g q) → streams.count ≡ pixel_count p rounds → NetIsRight streams lines (length (counted m before)) s g
input_right b m from p rounds streams lines before c s is feeds g input net at_once bits counts q at low =
    let more = counted_going m c before is.off is.going in
    ap (net_value s) net
    ∙ din_shown m from before c s g is.clock.at
    ∙ sym (ap (λ (cs : List Clock). slice_index (map (λ (d : Clock). slice_index d.dins g) cs) 0) more)
    ∙ feeds g q 0 input (omega (arith, at, at_once, ap length more)) (omega (arith, low, counts))
    ∙ sym (bits q)

-- In each run of a module that includes the builder's netlist the net of each kept image is right, and so is its horizon.
module _ (whole b m : Netlist) (grows : Includes whole b) (copies : List ℕ) (from : Contents) (streams : Streams) (lines : ℕ → Line) (IsKept IsInput : ℕ → Type 0) (Fed : List Clock → Type 0) (cases : (g : ℕ) → IsInput g ⊎ (IsInput g → ⊥)) (parts : AreImages b m copies from streams lines IsKept IsInput Fed) where
  running_part : (before : List Clock) (c : Clock) (s : Snapshot) → IsRunning whole m from before c s → IsRunning b m from before c s
  running_part before c s is = record { clock = clock_more whole b m from before c s grows is.clock; since = is.since; off = is.off; going = is.going }

  pub whole_nets : (before : List Clock) (c : Clock) (s : Snapshot) → IsRunning whole m from before c s → Fed (c ∷ before) → (g : ℕ) → IsKept g → NetIsRight streams lines (length (counted m before)) s g
  whole_nets before c s is feeds g kept = nets b m copies from streams lines IsKept IsInput Fed cases parts before c s (running_part before c s is) feeds g kept

  pub whole_taps : (before : List Clock) (c : Clock) (s : Snapshot) → IsRunning whole m from before c s → Fed (c ∷ before) → (g : ℕ) → IsKept g → TapsAreRight streams lines (length (counted m before)) s g
  whole_taps before c s is feeds g kept = taps b m copies from streams lines IsKept IsInput Fed cases parts before c s (running_part before c s is) feeds g kept
