-- What the clocks of a batch show.
use Rattle.std.proofs.Common.{◌≡◌, ℕ, zero, suc, ◌+◌, ◌*◌, ◌^◌, ◌<◌, ◌≤◌, Bool, List, [], ◌∷◌, ◌++◌, length, take, drop, refl, ap, sym, subst, ◌∙◌, arith, append_assoc, Some, Option, pos, ◌-ℤ◌}
use Rattle.std.specs.Prelude.{slice_get, vec_capacity}
use Rattle.std.specs.List.{All}
use Rattle.std.proofs.Math.Nat.{suc-mul}
use Rattle.std.proofs.Math.Seq.{drop-nil, take-append_seam}
use Rattle.std.proofs.lemmas.List.{map-append, take-append-drop, length-drop, length-take-le}
use Rattle.std.proofs.lemmas.List.Elements.{All-append, All-nil}
use Rattle.std.proofs.lemmas.Option.{slice_get_within, same_Some}
use Rattle.wiring.specs.declared.netlist.Net.{Net}
use Rattle.wiring.specs.Netlist.{Netlist, net_width, IsDeclared}
use Rattle.wiring.specs.Order.{IsEvaluationOrder}
use Rattle.wiring.specs.Rules.{KeepsRules}
use Rattle.wiring.specs.Snapshot.{Contents, Snapshot, net_value, FitsContents, Fit, IsSettled, IsNext}
use Rattle.wiring.specs.Clock.{Clock}
use Rattle.wiring.specs.Runs.{Runs, RunStops}
use Rattle.wiring.proofs.Lists.{All-at, All-from_at}
use Rattle.cycle_sim.specs.declared.ports.Out.{Out}
use Rattle.cycle_sim.specs.Ports.{din_widths, AreShown}
use Rattle.cycle_sim.proofs.Given.{given_fit}
use Rattle.batch_sim.specs.declared.batches.Stop.{Stop as BatchStop}
use Rattle.batch_sim.specs.Called.{of_clock, batch_clocks, BatchRan}
use Rattle.batch_sim.proofs.Clockwise.{clocks_count, half_is}
use Rattle.test_bench.specs.declared.picture.Shown.{Shown}
use Rattle.test_bench.specs.declared.clocking.Bench.{Bench}
use Rattle.stimulus.specs.declared.stop.Stop.TheVariants.{Index}
use Rattle.stimulus.specs.Showing.{notes_of}
use Rattle.test_bench.specs.Batches.{HasBatch}
use Rattle.test_bench.specs.BatchClocks.{AreShownIn, ShowsBatch, StopsBatch, Extends, sample_of, pairs_of}
use Rattle.test_bench.specs.Clocking.{AreKept, GoOn, DoutsFit, IsBench, Clocked, StopsIn}
use Rattle.test_bench.proofs.Clocks.{douts_fit, outs_small, pairs_are, there, kept_one, one}
use Rattle.stimulus.proofs.Runs.{notes_join, runs_length}

took_one : {X : Type 0} (xs : List X) (k : ℕ) (x : X) → slice_get xs k ≡ Some x → take (k + 1) xs ≡ take k xs ++ x ∷ []
took_one xs k x at = ap (λ n. take n xs) (let e : k + 1 ≡ suc k = omega arith in e) ∙ took xs k x at
  where
    took : {X : Type 0} (xs : List X) (k : ℕ) (x : X) → slice_get xs k ≡ Some x → take (suc k) xs ≡ take k xs ++ x ∷ []
    took [] k x at = absurd (omega (arith, slice_get_within [] k x at))
    took (y ∷ xs) zero x at = ap (λ z. z ∷ []) (same_Some y x at)
    took (y ∷ xs) (suc k) x at = ap (λ l. y ∷ l) (took xs k x at)

-- the pictures after one clock more
pub shown_more : (most ports k : ℕ) (outs part : List Out) (shots all : List Snapshot) (old new : List Shown) → part ≡ of_clock ports k outs → k < length shots → AreShownIn ports shots outs → length old ≡ length part → length new ≡ length part →
    ((j : ℕ) (a b : Shown) (out : Out) → slice_get old j ≡ Some a → slice_get new j ≡ Some b → slice_get part j ≡ Some out → Extends most a b (sample_of out)) →
    AreKept most (all ++ take k shots) old → AreKept most (all ++ take (k + 1) shots) new
shown_more most ports k outs part shots all old new is l shown a b each h =
    let s = there shots k l in
    let here : AreShown s.0 part = subst (λ z. AreShown s.0 z) (sym is) (shown k s.0 s.1) in
    subst (λ z. AreKept most z new) (append_assoc all (take k shots) (s.0 ∷ []) ∙ ap (λ z. all ++ z) (sym (took_one shots k s.0 s.1)))
    (kept_one most s.0 part old new here a b each (all ++ take k shots) h)

-- ---- the outputs, clock by clock

abbrev ShownBy : ℕ → List Snapshot → List Out → Type 0
ShownBy w [] outs = outs ≡ []
ShownBy w (s ∷ shots) outs = (length (take w outs) ≡ w) × AreShown s (take w outs) × ShownBy w shots (drop w outs)

drop_more : {X : Type 0} (j k : ℕ) (xs : List X) → drop (j + k) xs ≡ drop k (drop j xs)
drop_more zero k xs = let z : 0 + k ≡ k = omega arith in ap (λ n. drop n xs) z
drop_more (suc j) k [] = drop-nil (suc j + k) ∙ sym (drop-nil k)
drop_more (suc j) k (x ∷ xs) = let z : suc j + k ≡ suc (j + k) = omega arith in ap (λ n. drop n (x ∷ xs)) z ∙ drop_more j k xs

none_left : {X : Type 0} (xs : List X) → length xs ≡ 0 → xs ≡ []
none_left [] e = refl
none_left (x ∷ xs) e = absurd (omega (arith, e))

by_clock : (w : ℕ) (shots : List Snapshot) (outs : List Out) → AreShownIn w shots outs → length outs ≡ length shots * w → ShownBy w shots outs
by_clock w [] outs h n = none_left outs (n ∙ (let e : 0 * w ≡ 0 = omega arith in e))
by_clock w (s ∷ shots) outs h n =
    let next : suc (length shots) * w ≡ length shots * w + w = suc-mul (length shots) w in (
      length-take-le w outs (omega (arith, n, next)),
      subst (λ k. AreShown s (take w (drop k outs))) (let e : 0 * w ≡ 0 = omega arith in e) (h 0 s refl),
      by_clock w shots (drop w outs) (λ k t at.
          let turn : suc k * w ≡ w + k * w = suc-mul k w ∙ (let e : k * w + w ≡ w + k * w = omega arith in e) in
          subst (λ z. AreShown t (take w z)) (ap (λ i. drop i outs) turn ∙ drop_more w (k * w) outs) (h (suc k) t at)) (omega (arith, n, next, length-drop w outs)),
    )

batch_notes : (m : Netlist) (w : ℕ) (shots : List Snapshot) (outs : List Out) → length m.outputs ≡ 2 * w → ShownBy w shots outs → pairs_of outs ≡ notes_of m shots
batch_notes m w [] outs two h = ap (λ z. pairs_of z) h
batch_notes m w (s ∷ shots) outs two h =
    ap (λ z. pairs_of z) (sym (take-append-drop w outs)) ∙ map-append (λ (out : Out). (out.valid, out.dout)) (take w outs) (drop w outs)
    ∙ ap (λ z. z ++ pairs_of (drop w outs)) (pairs_are m s (take w outs) h.1 (two ∙ ap (λ n. 2 * n) (sym h.0)))
    ∙ ap (λ z. notes_of m (s ∷ []) ++ z) (batch_notes m w shots (drop w outs) two h.2) ∙ sym (notes_join m (s ∷ []) shots)

both_all : {X : Type 0} (P : X → Type 0) (x : X) (xs : List X) → P x → All P xs → All P (x ∷ xs)
both_all P x xs p h = All-append P (x ∷ []) xs (one P x p) h

first_all : {X : Type 0} (P : X → Type 0) (x : X) (xs : List X) → All P (x ∷ xs) → P x
first_all P x xs h = All-at P (x ∷ xs) 0 x h refl

rest_all : {X : Type 0} (P : X → Type 0) (x : X) (xs : List X) → All P (x ∷ xs) → All P xs
rest_all P x xs h = All-from_at P xs (λ k y at. All-at P (x ∷ xs) (suc k) y h at)

batch_small : (m : Netlist) → KeepsRules m → (w : ℕ) (shots : List Snapshot) (outs : List Out) → length m.outputs ≡ 2 * w → All (DoutsFit m) shots → ShownBy w shots outs → All (λ out. out.dout < 2 ^ 16) outs
batch_small m rules w [] outs two fit h = subst (λ z. All (λ (out : Out). out.dout < 2 ^ 16) z) (sym h) (All-nil (λ (out : Out). out.dout < 2 ^ 16))
batch_small m rules w (s ∷ shots) outs two fit h =
    subst (λ z. All (λ (out : Out). out.dout < 2 ^ 16) z) (take-append-drop w outs)
    (All-append (λ (out : Out). out.dout < 2 ^ 16) (take w outs) (drop w outs) (outs_small m rules s (take w outs) (first_all (DoutsFit m) s shots fit) h.1 (two ∙ ap (λ n. 2 * n) (sym h.0)))
    (batch_small m rules w shots (drop w outs) two (rest_all (DoutsFit m) s shots fit) h.2))

-- ---- what is shown fits

abbrev NetsFit : Type 0
NetsFit = (m : Netlist) (order : List ℕ) → KeepsRules m → IsEvaluationOrder m.assigns order → (s : Snapshot) → IsSettled m s → FitsContents m s.contents → Fit m.inputs s.inputs → (n : Net) → IsDeclared m n → net_value s n < 2 ^ net_width m n

abbrev NextFits : Type 0
NextFits = (m : Netlist) (order : List ℕ) → KeepsRules m → IsEvaluationOrder m.assigns order → (s : Snapshot) → IsSettled m s → FitsContents m s.contents → Fit m.inputs s.inputs → (new : Contents) → IsNext m s new → FitsContents m new

module _ (nets : NetsFit) (next : NextFits) (m : Netlist) (order : List ℕ) (rules : KeepsRules m) (ordered : IsEvaluationOrder m.assigns order) where
  all_fit : (cs : List Clock) (from to : Contents) (shots : List Snapshot) → FitsContents m from → All (λ (c : Clock). Fit (din_widths m) c.dins) cs → Runs m from cs shots to → All (DoutsFit m) shots
  all_fit [] from to [] fits dins h = All-nil (DoutsFit m)
  all_fit [] from to (s ∷ shots) fits dins h = absurd h
  all_fit (c ∷ cs) from to [] fits dins h = absurd h
  all_fit (c ∷ cs) from to (s ∷ shots) fits dins h =
      let step = h.1 in
      let here : Fit (din_widths m) c.dins = first_all (λ (c : Clock). Fit (din_widths m) c.dins) c cs dins in
      let contents : FitsContents m s.contents = subst (λ z. FitsContents m z) (sym step.snapshot.contents) fits in
      let inputs : Fit m.inputs s.inputs = subst (λ z. Fit m.inputs z) (sym step.snapshot.inputs) (given_fit m rules c here) in
      both_all (DoutsFit m) s shots (douts_fit nets m order rules ordered c from h.0 s fits here step)
      (all_fit cs h.0 to shots (next m order rules ordered s step.snapshot.settled contents inputs h.0 step.next) (rest_all (λ (c : Clock). Fit (din_widths m) c.dins) c cs dins) h.2)

  module _ (enables : List Bool) (dins : List ℕ) (from to : Contents) (outs : List Out) (w : ℕ) (two : length m.outputs ≡ 2 * w) (count : length outs ≡ length enables * w) (fits : FitsContents m from)
      (fit : All (λ (c : Clock). Fit (din_widths m) c.dins) (batch_clocks m enables dins)) (r : BatchRan m (batch_clocks m enables dins) from to outs) where
    pub shots_count : length r.shots ≡ length enables
    shots_count = sym (runs_length m (batch_clocks m enables dins) from to r.shots r.run) ∙ clocks_count (length (din_widths m)) enables dins

    pub shown_in : AreShownIn w r.shots outs
    shown_in k s at = subst (λ z. AreShown s (of_clock z k outs)) (sym (half_is (length m.outputs) w two)) (r.shown k s at)

    by : ShownBy w r.shots outs
    by = by_clock w r.shots outs shown_in (count ∙ ap (λ n. n * w) (sym shots_count))

    pub fit_all : All (DoutsFit m) r.shots
    fit_all = all_fit (batch_clocks m enables dins) from to r.shots fits fit r.run

    pub small_all : All (λ out. out.dout < 2 ^ 16) outs
    small_all = batch_small m rules w r.shots outs two fit_all by

    pub shows_batch : (most : ℕ) (old new : List Shown) (before now : Option (List (Bool × ℕ))) → ((all : List Snapshot) → AreKept most all old → AreKept most (all ++ r.shots) new) → GoOn before (pairs_of outs) now → ShowsBatch m (batch_clocks m enables dins) from to most old new before now
    shows_batch most old new before now kept told = record {
      shots = r.shots;
      runs = r.run;
      kept = kept;
      fit = fit_all;
      told = subst (λ z. GoOn before z now) (batch_notes m w r.shots outs two by) told;
    }

-- ---- a stop

stop_within : (m : Netlist) (cs : List Clock) (from : Contents) (shots : List Snapshot) (x i : ℕ) → RunStops m from cs shots x i → length shots < length cs
stop_within m [] from shots x i h = absurd h
stop_within m (c ∷ cs) from [] x i h = omega arith
stop_within m (c ∷ cs) from (s ∷ shots) x i h = let l : length shots < length cs = stop_within m cs h.0 shots x i h.2 in omega (arith, l)

pub done_within : (m : Netlist) (enables : List Bool) (dins : List ℕ) (from : Contents) (stop : BatchStop) → StopsBatch m (batch_clocks m enables dins) from stop → stop.done < length enables
done_within m enables dins from stop h =
    subst (λ k. k < length enables) h.done (subst (λ k. length h.shots < k) (clocks_count (length (din_widths m)) enables dins) (stop_within m (batch_clocks m enables dins) from h.shots stop.range.array stop.range.index h.stops))

pub stops_in : (m : Netlist) (clocks : List Clock) (from : Contents) (first : ℕ) (stop : BatchStop) → StopsBatch m clocks from stop → StopsIn m from first clocks (Index (pos (first + stop.done) -ℤ pos 1) stop.range.array stop.range.index)
stops_in m clocks from first stop h = record { shots = h.shots; stops = h.stops; clock_is = ap (λ n. pos (first + n) -ℤ pos 1) (sym h.done) }

-- ---- the bench after a batch

pub clocked_batch : (enables : List Bool) (dins : List ℕ) (old new : Bench) (before now : Option (List (Bool × ℕ))) → IsBench old → new.sim.netlist ≡ old.sim.netlist → new.most ≡ old.most → new.made ≡ old.made + length enables → new.outs.items ≡ old.outs.items →
    length new.pictures.items ≡ length old.pictures.items → All (λ shown. old.most ≤ vec_capacity shown.samples) new.pictures.items → HasBatch (length (din_widths old.sim.netlist)) (length old.outs.items) new.batch →
    ShowsBatch old.sim.netlist (batch_clocks old.sim.netlist enables dins) old.sim.contents new.sim.contents old.most old.pictures.items new.pictures.items before now →
    Clocked old.sim.netlist (batch_clocks old.sim.netlist enables dins) old new before now
clocked_batch enables dins old new before now bench netlist most made outs pictures room batch shows = record {
  bench = record {
    rules = subst (λ z. KeepsRules z) (sym netlist) bench.rules;
    order = bench.order;
    ordered = subst (λ (z : Netlist). IsEvaluationOrder z.assigns bench.order) (sym netlist) bench.ordered;
    outs = ap (λ (z : Netlist). length z.outputs) netlist ∙ bench.outs ∙ ap (λ (z : List Out). 2 * length z) (sym outs);
    pictures = pictures ∙ bench.pictures ∙ ap (λ (z : List Out). length z) (sym outs);
    room = subst (λ n. All (λ shown. n ≤ vec_capacity shown.samples) new.pictures.items) (sym most) room;
    batch = subst (λ (z : Netlist). HasBatch (length (din_widths z)) (length new.outs.items) new.batch) (sym netlist) (subst (λ (z : List Out). HasBatch (length (din_widths old.sim.netlist)) (length z) new.batch) (sym outs) batch);
  };
  netlist = netlist;
  most = most;
  made = made ∙ ap (λ n. old.made + n) (sym (clocks_count (length (din_widths old.sim.netlist)) enables dins));
  shots = shows.shots;
  runs = shows.runs;
  kept = shows.kept;
  fit = shows.fit;
  told = shows.told;
}

-- ---- the places of a batch

pub places_within : (a b w : ℕ) → a ≤ b → a * w ≤ b * w
places_within zero b w l = omega arith
places_within (suc a) zero w l = absurd (omega (arith, l))
places_within (suc a) (suc b) w l = let h : a * w ≤ b * w = places_within a b w (omega (arith, l)) in omega (arith, h)

-- what was written into the first places of a list
pub in_front : {X : Type 0} (n : ℕ) (ws more : List X) → length ws ≡ n → take n (ws ++ more) ≡ ws
in_front n ws more is = ap (λ m. take m (ws ++ more)) (sym is) ∙ take-append_seam ws more

-- what was written into all places of a vector
pub in_place : {X : Type 0} (n : ℕ) (xs ws : List X) → n ≡ length xs → length ws ≡ length xs → take n (ws ++ drop (length ws) xs) ≡ ws
in_place n xs ws is same = in_front n ws (drop (length ws) xs) (same ∙ sym is)
