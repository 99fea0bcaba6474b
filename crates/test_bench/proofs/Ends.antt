-- What a run that goes to its end gives.
use Rattle.std.proofs.Common.{◌≡◌, ◌∙◌, sym, ap, refl, subst, zero, suc, [], ◌∷◌, List, ℕ, ◌+◌, ◌-◌, ◌*◌, ◌^◌, ◌<◌, ◌≤◌, Bool, true, false, arith, length, map, take, drop, Some, min, pos, ◌-ℤ◌, Option}
use Rattle.std.specs.Prelude.{◌==◌, filter, slice_get, if◌then◌else◌}
use Rattle.std.specs.List.{All, flat_map, range_with_len}
use Rattle.std.proofs.lemmas.List.{length-map, length-take, drop-take}
use Rattle.std.proofs.lemmas.List.Elements.{All-take}
use Rattle.std.proofs.lemmas.Option.{slice_get_within}
use Rattle.dk_base.specs.Frames.{Size, area}
use Rattle.wiring.specs.Netlist.{Netlist, net_width, valid_net, dout_net}
use Rattle.wiring.specs.Rules.{KeepsRules}
use Rattle.wiring.specs.Snapshot.{Snapshot, net_value}
use Rattle.wiring.specs.Runs.{Runs, picture}
use Rattle.wiring.proofs.Lists.{All-at, All-from_at, All-right}
use Rattle.cycle_sim.specs.Ports.{din_widths}
use Rattle.cycle_sim.specs.Filled.{filled_contents}
use Rattle.pgm_codec.specs.Images.{file_of}
use Rattle.stimulus.specs.declared.drive.Drive.{Drive}
use Rattle.test_bench.specs.declared.picture.Shown.{Shown}
use Rattle.stimulus.specs.declared.stop.Stop.{Stop}
use Rattle.stimulus.specs.declared.stop.Stop.TheVariants.{Index, Count}
use Rattle.stimulus.specs.declared.stop.BenchFault.{BenchFault}
use Rattle.stimulus.specs.declared.stop.BenchFault.TheVariants.{Stopped, OutOfMemory}
use Rattle.stimulus.specs.Stimulus.{Rounds, stimulus}
use Rattle.stimulus.specs.Showing.{output_count, IsRun, IsEnough, asked, HasShown, image_shown, images_shown, IsShown, notes_of}
use Rattle.stimulus.specs.Stops.{IsStop, IsBenchEnd}
use Rattle.test_bench.specs.Clocking.{AreKept, DoutsFit, StopsIn, GoOn, Clocked}
use Rattle.test_bench.specs.declared.clocking.Bench.{Bench}
use Rattle.stimulus.specs.Given.{rounds_of}
use Rattle.dk_frames.specs.declared.frame.Frame.{Frame}
use Rattle.pgm_rounds.specs.declared.round.Round.{Round}
use Rattle.pgm_rounds.specs.Files.{frames_of}
use Rattle.stimulus.proofs.Runs.{runs_length}
use Rattle.test_bench.specs.Writing.{HasEnough, image_kept, round_kept}
use Rattle.test_bench.specs.Filling.{AreFilled, IsShort}
use Rattle.test_bench.proofs.Clocks.{there, port_width, counted}
use Rattle.stimulus.proofs.Ranges.{same_map, same_flat}
use Rattle.test_bench.proofs.Written.{kept_at, round_there}

-- a picture has no more samples than the run has clocks
keep_less : {X : Type 0} (x : X) (xs ys : List X) (b : Bool) → length ys ≤ length xs → length (if b then x ∷ ys else ys) ≤ suc (length xs)
keep_less x xs ys true l = omega (arith, l)
keep_less x xs ys false l = omega (arith, l)

filtered : {X : Type 0} (p : X → Bool) (xs : List X) → length (filter p xs) ≤ length xs
filtered p [] = omega arith
filtered p (x ∷ xs) = keep_less x xs (filter p xs) (p x) (filtered p xs)

few_samples : (k : ℕ) (shots : List Snapshot) → length (picture k shots) ≤ length shots
few_samples k shots = let l = filtered (λ (s : Snapshot). net_value s (valid_net k) == 1) shots in omega (arith, l, length-map (filter (λ (s : Snapshot). net_value s (valid_net k) == 1) shots) (λ s. net_value s (dout_net k)))

less : (x w : ℕ) → x < 2 ^ w → x ≤ 2 ^ w - 1
less x w l = omega (arith, l)

-- each sample fits its dout
one_more : (f : Snapshot → ℕ) (top v : ℕ) (s : Snapshot) (rest : List Snapshot) (b : Bool) → f s ≤ top → ((i : ℕ) → slice_get (map f rest) i ≡ Some v → v ≤ top) → (i : ℕ) → slice_get (map f (if b then s ∷ rest else rest)) i ≡ Some v → v ≤ top
one_more f top v s rest true here h zero e = let z : f s ≡ v = cc in subst (λ x. x ≤ top) z here
one_more f top v s rest true here h (suc i) e = h i e
one_more f top v s rest false here h i e = h i e

found : (m : Netlist) (k : ℕ) → k < output_count m → (shots : List Snapshot) → All (DoutsFit m) shots → (i v : ℕ) → slice_get (picture k shots) i ≡ Some v → v ≤ 2 ^ net_width m (dout_net k) - 1
found m k l [] fit i v e = absurd (let z : ⊥ = cc in z)
found m k l (s ∷ shots) fit i v e =
    one_more (λ t. net_value t (dout_net k)) (2 ^ net_width m (dout_net k) - 1) v s (filter (λ t. net_value t (valid_net k) == 1) shots) (net_value s (valid_net k) == 1)
    (less (net_value s (dout_net k)) (net_width m (dout_net k)) (All-at (DoutsFit m) (s ∷ shots) 0 s fit refl k l))
    (λ j at. found m k l shots (All-right (DoutsFit m) (s ∷ []) shots fit) j v at) i e

samples_fit : (m : Netlist) (k : ℕ) → k < output_count m → (shots : List Snapshot) → All (DoutsFit m) shots → All (λ v. v ≤ 2 ^ net_width m (dout_net k) - 1) (picture k shots)
samples_fit m k l shots fit = All-from_at (λ v. v ≤ 2 ^ net_width m (dout_net k) - 1) (picture k shots) (found m k l shots fit)

exact : (n c : ℕ) → n < 2 ^ 62 → c ≡ min n (2 ^ 64 - 1) → c ≡ n
exact n c l e = omega (arith, l, e)

taken : (n a : ℕ) → a ≤ n → min a n ≡ a
taken n a l = omega (arith, l)

-- the first samples of those that were kept
part_of : (round pixels most : ℕ) (whole : List ℕ) → round * pixels + pixels ≤ most → take pixels (drop (round * pixels) (take most whole)) ≡ take pixels (drop (round * pixels) whole)
part_of round pixels most whole l =
    let from = round * pixels in
    let more = most - from in
    ap (λ n. take pixels (drop from (take n whole))) (let e : most ≡ from + (most - from) = omega (arith, l) in e)
    ∙ ap (λ z. take pixels z) (drop-take from more whole) ∙ take_less pixels more (drop from whole) (omega (arith, l))
  where
    take_less : (a b : ℕ) (xs : List ℕ) → a ≤ b → take a (take b xs) ≡ take a xs
    take_less zero b xs l = refl
    take_less (suc a) zero xs l = absurd (omega (arith, l))
    take_less (suc a) (suc b) [] l = refl
    take_less (suc a) (suc b) (x ∷ xs) l = ap (λ z. x ∷ z) (take_less a b xs (omega (arith, l)))

module _ (m : Netlist) (size : Size) (rounds : Rounds) (shots : List Snapshot) (pictures : List Shown) (kept : AreKept (asked size rounds) shots pictures) (count : length m.outputs ≡ 2 * length pictures) (few : length shots < 2 ^ 62) where
  outputs_are : output_count m ≡ length pictures
  outputs_are = counted (length m.outputs) (length pictures) count

  count_is : (k : ℕ) (shown : Shown) → slice_get pictures k ≡ Some shown → shown.count ≡ length (picture k shots)
  count_is k shown at = exact (length (picture k shots)) shown.count (let l = few_samples k shots in omega (arith, l, few)) (kept k shown at).count

  -- the pictures are whole where they have shown enough
  pub filled : KeepsRules m → All (DoutsFit m) shots → AreFilled size m.outputs (length rounds) pictures
  filled rules fit = record {
    count = count;
    each = λ k shown at enough.
        let within : k < length pictures = slice_get_within pictures k shown at in
        let inside : k < output_count m = subst (λ z. k < z) (sym outputs_are) within in
        let long : asked size rounds ≤ length (picture k shots) = subst (λ z. asked size rounds ≤ z) (count_is k shown at) enough in
        let n : length shown.samples.items ≡ asked size rounds = ap length (kept k shown at).samples ∙ length-take (asked size rounds) (picture k shots) ∙ taken (length (picture k shots)) (asked size rounds) long in
        record {
          samples = omega (arith, n);
          width = port_width m rules k (length pictures) count within;
          values = subst (λ z. All (λ v. v ≤ 2 ^ net_width m (dout_net k) - 1) z) (sym (kept k shown at).samples)
              (All-take (λ v. v ≤ 2 ^ net_width m (dout_net k) - 1) (asked size rounds) (picture k shots) (samples_fit m k inside shots fit));
        };
  }

  shown_at : (k : ℕ) → k < output_count m → (shown : Shown) × (slice_get pictures k ≡ Some shown)
  shown_at k l = there pictures k (subst (λ z. k < z) outputs_are l)

  has_shown : (k : ℕ) → k < output_count m → HasEnough pictures (asked size rounds) k → HasShown m size rounds shots k
  has_shown k l h =
      let x = shown_at k l in
      subst (λ z. IsEnough (output_count m) (asked size rounds) z) (count_is k x.0 x.1) (subst (λ z. IsEnough z (asked size rounds) x.0.count) (sym outputs_are) (h x.0 x.1))

  image_is : (round k : ℕ) → round < length rounds → k < length pictures → image_kept size m.outputs pictures round k ≡ image_shown m size shots round k
  image_is round k l within =
      let x = there pictures k within in
      let room : round * area size + area size ≤ asked size rounds = round_there (length rounds) round (area size) (asked size rounds) l (omega arith) in
      ap (λ z. record { width = size.width; height = size.height; maxval = 2 ^ net_width m (dout_net k) - 1; samples = take (area size) (drop (round * area size) z) }) (kept_at pictures k x.0 x.1 ∙ (kept k x.0 x.1).samples)
      ∙ ap (λ z. record { width = size.width; height = size.height; maxval = 2 ^ net_width m (dout_net k) - 1; samples = z }) (part_of round (area size) (asked size rounds) (picture k shots) room)

  plus : (k : ℕ) → 0 + k ≡ k
  plus k = omega arith

  images_are : flat_map (round_kept size m.outputs pictures) (range_with_len 0 (length rounds)) ≡ images_shown m size (length rounds) shots
  images_are = same_flat (round_kept size m.outputs pictures) (λ round. map (image_shown m size shots round) (range_with_len 0 (output_count m))) 0 (length rounds)
      (λ round l. ap (λ z. round_kept size m.outputs pictures z) (plus round)
      ∙ same_map (image_kept size m.outputs pictures round) (image_shown m size shots round) 0 (length pictures) (λ k within. ap (λ z. image_kept size m.outputs pictures round z) (plus k) ∙ image_is round k l within ∙ ap (λ z. image_shown m size shots round z) (sym (plus k)))
      ∙ ap (λ n. map (image_shown m size shots round) (range_with_len 0 n)) (sym outputs_are)
      ∙ ap (λ z. map (image_shown m size shots z) (range_with_len 0 (output_count m))) (sym (plus round)))

  pub is_shown : (drive : Drive) → IsRun m drive rounds shots → (file : List ℕ) → ((k : ℕ) → HasEnough pictures (asked size rounds) k) → file ≡ file_of (flat_map (round_kept size m.outputs pictures) (range_with_len 0 (length rounds))) → IsShown m drive size rounds file
  is_shown drive run file enough e = record {
    shots = shots;
    run = run;
    enough = λ k l. has_shown k l (enough k);
    file_is = e ∙ ap (λ z. file_of z) images_are;
  }

  not_shown : (k : ℕ) (shown : Shown) → slice_get pictures k ≡ Some shown → ¬ IsEnough (length pictures) (asked size rounds) shown.count → ¬ HasShown m size rounds shots k
  not_shown k shown at n h =
      n (subst (λ z. IsEnough (length pictures) (asked size rounds) z) (sym (count_is k shown at)) (subst (λ z. IsEnough z (asked size rounds) (length (picture k shots))) outputs_are h))

  pub is_short : (drive : Drive) → IsRun m drive rounds shots → (f : BenchFault) → IsShort pictures (asked size rounds) f → IsBenchEnd m drive size rounds f
  is_short drive run (Stopped (Index clock array index)) h = absurd h
  is_short drive run (Stopped (Count shown wanted)) h =
      let first = h.0 in
      let within : first.output < length pictures = slice_get_within pictures first.output first.kept first.at in
      let inside : first.output < output_count m = subst (λ z. first.output < z) (sym outputs_are) within in
      record {
        shots = shots;
        run = run;
        output = first.output;
        there = inside;
        wrong = not_shown first.output first.kept first.at first.wrong;
        before = λ k l. has_shown k (omega (arith, l, inside)) (first.before k l);
        shown_is = first.shown_is ∙ count_is first.output first.kept first.at;
        wanted_is = h.1;
      }
  is_short drive run OutOfMemory h = tt

-- a stop of the whole stimulus
pub is_stop : (m : Netlist) (drive : Drive) (size : Size) (rounds : Rounds) (first : ℕ) (stop : Stop) → first ≡ 0 → StopsIn m (filled_contents drive.fill m) first (stimulus drive (din_widths m) rounds) stop → IsStop m drive size rounds stop
is_stop m drive size rounds first (Index clock array index) e s = record {
  shots = s.shots;
  stops = s.stops;
  clock_is = s.clock_is ∙ ap (λ n. pos n -ℤ pos 1) (let d : first + length s.shots ≡ length s.shots = omega (arith, e) in d);
}
is_stop m drive size rounds first (Count shown wanted) e s = absurd s

-- the bench after the whole stimulus
pub record Ended (m : Netlist) (drive : Drive) (size : Size) (rounds : Rounds) (pictures : List Shown) (before now : Option (List (Bool × ℕ))) : Type 0 where
  pub shots : List Snapshot
  pub run : IsRun m drive rounds shots
  pub kept : AreKept (asked size rounds) shots pictures
  pub count : length m.outputs ≡ 2 * length pictures
  pub few : length shots < 2 ^ 62
  pub rules : KeepsRules m
  pub fit : All (DoutsFit m) shots
  pub told : GoOn before (notes_of m shots) now

few_shots : (made old clocks shots : ℕ) → made ≡ old + clocks → clocks ≡ shots → made < 2 ^ 62 → shots < 2 ^ 62
few_shots made old clocks shots e n l = omega (arith, e, n, l)

pub ended : (m : Netlist) (drive : Drive) (size : Size) (rounds : Rounds) (old new : Bench) (before now : Option (List (Bool × ℕ))) → old.sim.netlist ≡ m → old.sim.contents ≡ filled_contents drive.fill m → old.most ≡ asked size rounds → AreKept old.most [] old.pictures.items →
    Clocked old.sim.netlist (stimulus drive (din_widths old.sim.netlist) rounds) old new before now → new.made < 2 ^ 62 → Ended m drive size rounds new.pictures.items before now
ended m drive size rounds old new before now netlist contents most none clocked made =
    let h : Clocked m (stimulus drive (din_widths m) rounds) old new before now = subst (λ z. Clocked z (stimulus drive (din_widths z) rounds) old new before now) netlist clocked in
    let clocks = stimulus drive (din_widths m) rounds in
    record {
      shots = h.shots;
      run = record { to = new.sim.contents; runs = subst (λ z. Runs m z clocks h.shots new.sim.contents) contents h.runs };
      kept = subst (λ n. AreKept n h.shots new.pictures.items) most (h.kept [] none);
      count = ap (λ z. length z.outputs) (sym h.netlist) ∙ h.bench.outs ∙ ap (λ n. 2 * n) (sym h.bench.pictures);
      few = few_shots new.made old.made (length clocks) (length h.shots) h.made (runs_length m clocks old.sim.contents new.sim.contents h.shots h.runs) made;
      rules = subst (λ z. KeepsRules z) h.netlist h.bench.rules;
      fit = h.fit;
      told = h.told;
    }

pub rounds_length : (rounds : List Round) → length (rounds_of rounds) ≡ length rounds
rounds_length rounds = length-map (frames_of rounds) (λ (fs : List Frame). map (λ (f : Frame). f.samples) fs) ∙ length-map rounds (λ (r : Round). r.frames.items)

module _ (m : Netlist) (drive : Drive) (size : Size) (rounds : List Round) (pictures ps : List Shown) (ports : List ℕ) (before now : Option (List (Bool × ℕ))) (end : Ended m drive size (rounds_of rounds) pictures before now) (same : ps ≡ pictures) (outputs : ports ≡ m.outputs) where
  pub filled_end : AreFilled size ports (length rounds) ps
  filled_end =
      subst (λ p. AreFilled size p (length rounds) ps) (sym outputs) (subst (λ q. AreFilled size m.outputs (length rounds) q) (sym same) (subst (λ n. AreFilled size m.outputs n pictures) (rounds_length rounds)
      (filled m size (rounds_of rounds) end.shots pictures end.kept end.count end.few end.rules end.fit)))

  pub file_end : (file : List ℕ) → ((k : ℕ) → HasEnough ps (length rounds * area size) k) × (file ≡ file_of (flat_map (round_kept size ports ps) (range_with_len 0 (length rounds)))) → IsShown m drive size (rounds_of rounds) file
  file_end file h =
      let enough = subst (λ n. (k : ℕ) → HasEnough pictures (n * area size) k) (sym (rounds_length rounds)) (subst (λ q. (k : ℕ) → HasEnough q (length rounds * area size) k) same h.0) in
      let bytes = h.1 ∙ ap (λ p. file_of (flat_map (round_kept size p ps) (range_with_len 0 (length rounds)))) outputs ∙ ap (λ q. file_of (flat_map (round_kept size m.outputs q) (range_with_len 0 (length rounds)))) same
      ∙ ap (λ n. file_of (flat_map (round_kept size m.outputs pictures) (range_with_len 0 n))) (sym (rounds_length rounds)) in
      is_shown m size (rounds_of rounds) end.shots pictures end.kept end.count end.few drive end.run file enough bytes

  pub short_end : (f : BenchFault) → IsShort ps (length rounds * area size) f → IsBenchEnd m drive size (rounds_of rounds) f
  short_end f h =
      is_short m size (rounds_of rounds) end.shots pictures end.kept end.count end.few drive end.run f
      (subst (λ n. IsShort pictures (n * area size) f) (sym (rounds_length rounds)) (subst (λ q. IsShort q (length rounds * area size) f) same h))
