-- What a module gives on a bench is one.
use Rattle.std.proofs.Common.{◌≡◌, ℕ, ◌<◌, List, length, ap, sym, subst, ◌∙◌, arith, Bool, inl, inr, ℤ, pos, ◌-ℤ◌}
use Rattle.std.specs.Prelude.{◌⊎◌}
use Rattle.std.proofs.lemmas.List.{length-map}
use Rattle.dk_base.specs.Frames.{Size}
use Rattle.wiring.specs.Netlist.{Netlist}
use Rattle.wiring.specs.Snapshot.{Contents, Snapshot, HasPlaces, HasOneSnapshot, HasOneNext}
use Rattle.wiring.specs.Clock.{Clock}
use Rattle.wiring.specs.Runs.{Runs, RunStops, picture}
use Rattle.cycle_sim.specs.declared.fill.Fill.{Fill}
use Rattle.cycle_sim.specs.Ports.{din_widths}
use Rattle.cycle_sim.specs.Filled.{fill_value, filled_words, filled_contents}
use Rattle.pgm_codec.specs.Images.{file_of}
use Rattle.stimulus.specs.declared.drive.Drive.{Drive}
use Rattle.stimulus.specs.declared.stop.Stop.{Stop}
use Rattle.stimulus.specs.declared.stop.Stop.TheVariants.{Index, Count}
use Rattle.stimulus.specs.Stimulus.{Rounds, stimulus}
use Rattle.stimulus.specs.Showing.{IsRun, HasShown, IsShown, IsNoted, images_shown, notes_of}
use Rattle.stimulus.specs.Stops.{StopsAtClock, ShowsOthers, IsStop}

abbrev pub OneRun : Type 0
OneRun = (m : Netlist) → HasOneSnapshot m → HasOneNext m → (from : Contents) (clocks : List Clock) (shots other : List Snapshot) (to end : Contents) → HasPlaces m from → Runs m from clocks shots to → Runs m from clocks other end → (shots ≡ other) × (to ≡ end)

abbrev pub OneStop : Type 0
OneStop = (m : Netlist) → HasOneSnapshot m → HasOneNext m → (from : Contents) (clocks : List Clock) (shots other : List Snapshot) (x i y j : ℕ) → HasPlaces m from → RunStops m from clocks shots x i → RunStops m from clocks other y j → (shots ≡ other) × (x ≡ y) × (i ≡ j)

abbrev pub Apart : Type 0
Apart = (m : Netlist) → HasOneSnapshot m → HasOneNext m → (from : Contents) (clocks : List Clock) (shots other : List Snapshot) (to : Contents) (x i : ℕ) → HasPlaces m from → Runs m from clocks shots to → RunStops m from clocks other x i → ⊥

pub places : (fill : Fill) (m : Netlist) → HasPlaces m (filled_contents fill m)
places fill m = record { regs = length-map m.regs (fill_value fill); arrays = length-map m.arrays (filled_words fill) }

either : (k l : ℕ) → (k ≡ l) ⊎ ((k < l) ⊎ (l < k))
either k l = grind arith

module _ (m : Netlist) (one_shot : HasOneSnapshot m) (one_next : HasOneNext m) (drive : Drive) (rounds : Rounds) where
  pub same_shots : OneRun → (shots other : List Snapshot) → IsRun m drive rounds shots → IsRun m drive rounds other → shots ≡ other
  same_shots one shots other a b = (one m one_shot one_next (filled_contents drive.fill m) (stimulus drive (din_widths m) rounds) shots other a.to b.to (places drive.fill m) a.runs b.runs).0

  pub one_file : OneRun → (size : Size) (a b : List ℕ) → IsShown m drive size rounds a → IsShown m drive size rounds b → a ≡ b
  one_file one size a b x y = x.file_is ∙ ap (λ z. file_of (images_shown m size (length rounds) z)) (same_shots one x.shots y.shots x.run y.run) ∙ sym y.file_is

  pub one_notes : OneRun → (a b : List (Bool × ℕ)) → IsNoted m drive rounds a → IsNoted m drive rounds b → a ≡ b
  one_notes one a b x y = x.notes_are ∙ ap (λ z. notes_of m z) (same_shots one x.shots y.shots x.run y.run) ∙ sym y.notes_are

  pub not_both : Apart → (shots : List Snapshot) → IsRun m drive rounds shots → (clock : ℤ) (array index : ℕ) → StopsAtClock m drive rounds clock array index → ⊥
  not_both apart shots x clock array index y = apart m one_shot one_next (filled_contents drive.fill m) (stimulus drive (din_widths m) rounds) shots y.shots x.to array index (places drive.fill m) x.runs y.stops

  same_index : OneStop → (c d : ℤ) (a i b j : ℕ) → StopsAtClock m drive rounds c a i → StopsAtClock m drive rounds d b j → Index c a i ≡ Index d b j
  same_index one c d a i b j x y =
      let same = one m one_shot one_next (filled_contents drive.fill m) (stimulus drive (din_widths m) rounds) x.shots y.shots a i b j (places drive.fill m) x.stops y.stops in
      let clock : c ≡ d = x.clock_is ∙ ap (λ z. pos (length z) -ℤ pos 1) same.0 ∙ sym y.clock_is in
      ap (λ z. Index z a i) clock ∙ ap (λ z. Index d z i) same.1 ∙ ap (λ z. Index d b z) same.2

  same_output : (size : Size) (shots : List Snapshot) (k l : ℕ) → ¬ HasShown m size rounds shots k → ¬ HasShown m size rounds shots l → ((i : ℕ) → i < k → HasShown m size rounds shots i) → ((i : ℕ) → i < l → HasShown m size rounds shots i) → k ≡ l
  same_output size shots k l nk nl bk bl =
      elim (either k l) as (λ _. k ≡ l) [
        | inl e ↦ e
        | inr o ↦ elim o as (λ _. k ≡ l) [
          | inl less ↦ absurd (nk (bl k less))
          | inr more ↦ absurd (nl (bk l more))
        ]
      ]

  same_count : OneRun → (size : Size) (n w o v : ℕ) → ShowsOthers m drive size rounds n w → ShowsOthers m drive size rounds o v → Count n w ≡ Count o v
  same_count one size n w o v x y =
      let shots = same_shots one x.shots y.shots x.run y.run in
      let output = same_output size y.shots x.output y.output (subst (λ z. ¬ HasShown m size rounds z x.output) shots x.wrong) y.wrong (λ i l. subst (λ z. HasShown m size rounds z i) shots (x.before i l)) y.before in
      let shown : n ≡ o = x.shown_is ∙ ap (λ z. length (picture x.output z)) shots ∙ ap (λ z. length (picture z y.shots)) output ∙ sym y.shown_is in
      ap (λ z. Count z w) shown ∙ ap (λ z. Count o z) (x.wanted_is ∙ sym y.wanted_is)

  pub one_stop : OneRun → OneStop → Apart → (size : Size) (s t : Stop) → IsStop m drive size rounds s → IsStop m drive size rounds t → s ≡ t
  one_stop one stop apart size (Index c a i) (Index d b j) x y = same_index stop c d a i b j x y
  one_stop one stop apart size (Index c a i) (Count o v) x y = absurd (not_both apart y.shots y.run c a i x)
  one_stop one stop apart size (Count n w) (Index d b j) x y = absurd (not_both apart x.shots x.run d b j y)
  one_stop one stop apart size (Count n w) (Count o v) x y = same_count one size n w o v x y

  pub file_or_stop : OneRun → Apart → (size : Size) (file : List ℕ) (s : Stop) → IsShown m drive size rounds file → IsStop m drive size rounds s → ⊥
  file_or_stop one apart size file (Index c a i) x y = not_both apart x.shots x.run c a i y
  file_or_stop one apart size file (Count n w) x y =
      let shots = same_shots one x.shots y.shots x.run y.run in
      y.wrong (subst (λ z. HasShown m size rounds z y.output) shots (x.enough y.output y.there))
