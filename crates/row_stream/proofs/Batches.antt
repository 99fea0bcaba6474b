-- The clocks of a line in one call.
use Rattle.std.proofs.Common.{◌≡◌, ℕ, zero, suc, ◌+◌, ◌*◌, ◌^◌, ◌<◌, ◌≤◌, Bool, true, List, [], ◌∷◌, ◌++◌, length, take, drop, map, replicate, refl, ap, sym, subst, ◌∙◌, arith, Some}
use Rattle.std.specs.Prelude.{All, ◌/◌, slice_get, slice_index}
use Rattle.std.proofs.lemmas.List.{length-map, length-replicate, length-take-le}
use Rattle.std.proofs.Math.Seq.{take-append_seam}
use Rattle.std.specs.List.{AllByRecursion, range_with_len}
use Rattle.wiring.specs.declared.netlist.Net.{Net}
use Rattle.wiring.specs.Netlist.{Netlist, net_width, dout_net, IsDeclared}
use Rattle.wiring.specs.Order.{IsEvaluationOrder}
use Rattle.wiring.specs.Rules.{KeepsRules}
use Rattle.wiring.specs.Snapshot.{Contents, Snapshot, net_value, FitsContents, Fit, IsSettled, IsNext}
use Rattle.wiring.specs.Clock.{Clock, given, Steps}
use Rattle.wiring.specs.Runs.{Runs, RunStops}
use Rattle.wiring.proofs.Lists.{All-at, All-from_at}
use Rattle.cycle_sim.specs.declared.ports.Out.{Out}
use Rattle.cycle_sim.specs.Ports.{din_widths}
use Rattle.cycle_sim.proofs.Given.{given_fit}
use Rattle.batch_sim.specs.Called.{din_count, output_count, clocks_with, batch_clocks, BatchRan, BatchStops}
use Rattle.batch_sim.specs.declared.batches.Stop.{Stop}
use Rattle.row_stream.specs.Lines.{Kind}
use Rattle.row_stream.specs.Standing.{IsOneToOne, IsPixelClock, pixel_clock, Lasts}
use Rattle.row_stream.proofs.Clocks.{below_top}
use Rattle.row_stream.proofs.Rasters.{times}
use Rattle.row_stream.proofs.Telling.{Shown, batch_shown, runs_length}

-- ---- the clocks

clocks_one : (dins : List ℕ) → clocks_with 1 (replicate (length dins) true) dins ≡ map pixel_clock dins
clocks_one [] = refl
clocks_one (d ∷ dins) = ap (λ z. pixel_clock d ∷ z) (clocks_one dins)

pub clocks_are : (m : Netlist) (enables : List Bool) (dins : List ℕ) → length (din_widths m) ≡ 1 → enables ≡ replicate (length dins) true → batch_clocks m enables dins ≡ map pixel_clock dins
clocks_are m enables dins one e = ap (λ n. clocks_with n enables dins) one ∙ ap (λ z. clocks_with 1 z dins) e ∙ clocks_one dins

pub all_fit : (m : Netlist) (dins : List ℕ) → All (λ d. Fit (din_widths m) (d ∷ [])) dins → All (λ (c : Clock). Fit (din_widths m) c.dins) (map pixel_clock dins)
all_fit m dins h = All-from_at (λ (c : Clock). Fit (din_widths m) c.dins) (map pixel_clock dins) (at dins (λ k d here. All-at (λ x. Fit (din_widths m) (x ∷ [])) dins k d h here))
  where
    at : (ds : List ℕ) → ((k d : ℕ) → slice_get ds k ≡ Some d → Fit (din_widths m) (d ∷ [])) → (k : ℕ) (c : Clock) → slice_get (map pixel_clock ds) k ≡ Some c → Fit (din_widths m) c.dins
    at [] h k c e = absurd (let f : ⊥ = cc in f)
    at (d ∷ ds) h zero c e = let f : pixel_clock d ≡ c = cc in subst (λ (z : Clock). Fit (din_widths m) z.dins) f (h 0 d refl)
    at (d ∷ ds) h (suc k) c e = at ds (λ j x g. h (suc j) x g) k c e

pub are_pixels : (m : Netlist) (dins : List ℕ) → ((k d : ℕ) → slice_get dins k ≡ Some d → Fit (din_widths m) (d ∷ [])) → AllByRecursion (IsPixelClock m) (map pixel_clock dins)
are_pixels m [] h = tt
are_pixels m (d ∷ dins) h = ((refl, h 0 d refl), are_pixels m dins (λ k x e. h (suc k) x e))

pub each_fits : (m : Netlist) (dins : List ℕ) → All (λ d. Fit (din_widths m) (d ∷ [])) dins → AllByRecursion (IsPixelClock m) (map pixel_clock dins)
each_fits m dins h = are_pixels m dins (λ k d here. All-at (λ x. Fit (din_widths m) (x ∷ [])) dins k d h here)

pub one_din : (widths : List ℕ) (d : ℕ) → Fit widths (d ∷ []) → length widths ≡ 1
one_din [] d h = absurd h
one_din (w ∷ []) d h = refl
one_din (w ∷ v ∷ widths) d h = absurd h.1

enables_length : (n : ℕ) → length (replicate n true) ≡ n
enables_length n = length-replicate n true

module _ (m : Netlist) (enables : List Bool) (dins : List ℕ) (one : length (din_widths m) ≡ 1) (e : enables ≡ replicate (length dins) true) where
  counted : length enables ≡ length dins
  counted = ap (λ (z : List Bool). length z) e ∙ enables_length (length dins)

  pub batch_fits : All (λ d. Fit (din_widths m) (d ∷ [])) dins → All (λ (c : Clock). Fit (din_widths m) c.dins) (batch_clocks m enables dins)
  batch_fits h = subst (λ z. All (λ (c : Clock). Fit (din_widths m) c.dins) z) (sym (clocks_are m enables dins one e)) (all_fit m dins h)

  pub dins_total : length dins ≡ length enables * din_count m
  dins_total = (let f : length dins ≡ length enables * 1 = omega (arith, counted) in f) ∙ ap (λ n. length enables * n) (sym one)

  pub outs_total : (count : ℕ) → length m.outputs ≡ 2 → count ≡ length dins → count ≡ length enables * output_count m
  outs_total count two n = (let f : count ≡ length enables * 1 = omega (arith, counted, n) in f) ∙ ap (λ z. length enables * z) (sym (ap (λ z. z / 2) two))

  module _ (from to : Contents) (outs : List Out) (r : BatchRan m (batch_clocks m enables dins) from to outs) where
    pub ran_runs : Runs m from (map pixel_clock dins) r.shots to
    ran_runs = subst (λ z. Runs m from z r.shots to) (clocks_are m enables dins one e) r.run

    pub ran_shown : length m.outputs ≡ 2 → length outs ≡ length dins → Shown r.shots outs
    ran_shown two n = batch_shown m r.shots outs two (n ∙ sym (length-map dins pixel_clock) ∙ runs_length m (map pixel_clock dins) from to r.shots ran_runs) r.shown

-- ---- no clock stops

lasts_on : (m : Netlist) (from next : Contents) (c : Clock) (s : Snapshot) → IsPixelClock m c → Steps m from (given m c) s next → Lasts m from → Lasts m next
lasts_on m from next c s pixel step lasts = record { on = λ clocks shots to all runs. lasts.on (c ∷ clocks) (s ∷ shots) to (pixel, all) (next, step, runs) }

pub never_stops : (m : Netlist) (cs : List Clock) (from : Contents) (shots : List Snapshot) (x i : ℕ) → Lasts m from → AllByRecursion (IsPixelClock m) cs → RunStops m from cs shots x i → ⊥
never_stops m [] from shots x i lasts all h = absurd h
never_stops m (c ∷ cs) from [] x i lasts all h = lasts.on [] [] from tt refl c all.0 x i h
never_stops m (c ∷ cs) from (s ∷ shots) x i lasts all h = never_stops m cs h.0 shots x i (lasts_on m from h.0 c s all.0 h.1 lasts) all.1 h.2

pub no_stop : (m : Netlist) (enables : List Bool) (dins : List ℕ) → length (din_widths m) ≡ 1 → enables ≡ replicate (length dins) true → (from to : Contents) (old outs : List Out) (stop : Stop) → Lasts m from → All (λ d. Fit (din_widths m) (d ∷ [])) dins → BatchStops m (batch_clocks m enables dins) from to old outs stop → ⊥
no_stop m enables dins one e from to old outs stop lasts fit h =
    never_stops m (map pixel_clock dins) from h.shots stop.range.array stop.range.index lasts (each_fits m dins fit) (subst (λ z. RunStops m from z h.shots stop.range.array stop.range.index) (clocks_are m enables dins one e) h.stops)

-- ---- what is shown fits

abbrev pub NetsFit : Type 0
NetsFit = (m : Netlist) (order : List ℕ) → KeepsRules m → IsEvaluationOrder m.assigns order → (s : Snapshot) → IsSettled m s → FitsContents m s.contents → Fit m.inputs s.inputs → (n : Net) → IsDeclared m n → net_value s n < 2 ^ net_width m n

abbrev pub NextFits : Type 0
NextFits = (m : Netlist) (order : List ℕ) → KeepsRules m → IsEvaluationOrder m.assigns order → (s : Snapshot) → IsSettled m s → FitsContents m s.contents → Fit m.inputs s.inputs → (new : Contents) → IsNext m s new → FitsContents m new

module _ (nets : NetsFit) (next : NextFits) (kind : Kind) (m : Netlist) (one : IsOneToOne kind m) where
  pub douts_fit : (cs : List Clock) (from to : Contents) (shots : List Snapshot) (outs : List Out) → FitsContents m from → AllByRecursion (IsPixelClock m) cs → Runs m from cs shots to → Shown shots outs → AllByRecursion (λ (out : Out). out.dout ≤ kind.maxval) outs
  douts_fit cs from to [] [] fits all runs shown = tt
  douts_fit cs from to [] (o ∷ outs) fits all runs shown = absurd shown
  douts_fit cs from to (s ∷ shots) [] fits all runs shown = absurd shown
  douts_fit [] from to (s ∷ shots) (o ∷ outs) fits all runs shown = absurd runs
  douts_fit (c ∷ cs) from to (s ∷ shots) (o ∷ outs) fits all runs shown =
      let step = runs.1 in
      let contents : FitsContents m s.contents = subst (λ z. FitsContents m z) (sym step.snapshot.contents) fits in
      let inputs : Fit m.inputs s.inputs = subst (λ z. Fit m.inputs z) (sym step.snapshot.inputs) (given_fit m one.rules c all.0.1) in
      let bound : net_value s (dout_net 0) < 2 ^ net_width m (dout_net 0) = nets m one.order one.rules one.ordered s step.snapshot.settled contents inputs (dout_net 0) (let l : 1 < length m.outputs = omega (arith, one.one) in l) in (
        below_top o.dout (net_width m (dout_net 0)) kind.maxval one.maxval (subst (λ z. z < 2 ^ net_width m (dout_net 0)) (sym shown.0.dout) bound),
        douts_fit cs runs.0 to shots outs (next m one.order one.rules one.ordered s step.snapshot.settled contents inputs runs.0 step.next) all.1 runs.2 shown.1,
      )

pub all_small : (top : ℕ) (outs : List Out) → AllByRecursion (λ (out : Out). out.dout ≤ top) outs → All (λ out. out.dout ≤ top) outs
all_small top outs h = All-from_at (λ (out : Out). out.dout ≤ top) outs (at top outs h)
  where
    at : (top : ℕ) (xs : List Out) → AllByRecursion (λ (out : Out). out.dout ≤ top) xs → (k : ℕ) (out : Out) → slice_get xs k ≡ Some out → out.dout ≤ top
    at top [] h k out e = absurd (let f : ⊥ = cc in f)
    at top (x ∷ xs) h zero out e = let f : x ≡ out = cc in subst (λ (z : Out). z.dout ≤ top) f h.0
    at top (x ∷ xs) h (suc k) out e = at top xs h.1 k out e

-- ---- the numbers of a batch

-- a list is made place by place
pub made_of : (f : ℕ → ℕ) (xs : List ℕ) → ((k : ℕ) → k < length xs → slice_index xs k ≡ f k) → xs ≡ map f (range_with_len 0 (length xs))
made_of f xs h = made f xs 0 (λ k l. h k l ∙ ap f (let e : k ≡ 0 + k = omega arith in e))
  where
    made : (f : ℕ → ℕ) (xs : List ℕ) (a : ℕ) → ((k : ℕ) → k < length xs → slice_index xs k ≡ f (a + k)) → xs ≡ map f (range_with_len a (length xs))
    made f [] a h = refl
    made f (x ∷ xs) a h =
        ap (λ z. z ∷ xs) (h 0 (omega arith) ∙ ap f (let e : a + 0 ≡ a = omega arith in e))
        ∙ ap (λ z. f a ∷ z) (made f xs (a + 1) (λ k l. h (suc k) (omega (arith, l)) ∙ ap f (let e : a + suc k ≡ a + 1 + k = omega arith in e)))

-- the bytes of a sample are in its line
pub room_at : (k n size total end : ℕ) → k < end → end ≡ n → total ≡ n * size → (k + 1) * size ≤ total
room_at k n size total end l e t = let h : (k + 1) * size ≤ n * size = times k n size (subst (λ z. k < z) e l) in omega (arith, h, t)

ones_first : (n count : ℕ) → n ≤ count → take n (replicate count true) ≡ replicate n true
ones_first zero count l = refl
ones_first (suc n) zero l = absurd (omega (arith, l))
ones_first (suc n) (suc count) l = ap (λ z. true ∷ z) (ones_first n count (omega (arith, l)))

pub enables_first : (front all : List Bool) (width n count : ℕ) → front ≡ take n all → all ≡ replicate width true → n ≤ width → count ≡ n → front ≡ replicate count true
enables_first front all width n count f e l c = f ∙ ap (λ z. take n z) e ∙ ones_first n width l ∙ ap (λ k. replicate k true) (sym c)

-- the first of these are as many
pub took_count : {X : Type 0} (n : ℕ) (xs ys : List X) → ys ≡ take n xs → n ≤ length xs → length ys ≡ n
took_count {X = X} n xs ys is l = ap (λ (z : List X). length z) is ∙ length-take-le n xs l

-- what was written into the first places of a list
pub in_front : {X : Type 0} (n : ℕ) (ws more : List X) → length ws ≡ n → take n (ws ++ more) ≡ ws
in_front n ws more is = ap (λ m. take m (ws ++ more)) (sym is) ∙ take-append_seam ws more

-- what was written into all places of a vector
pub in_place : {X : Type 0} (n : ℕ) (xs ws : List X) → n ≡ length xs → length ws ≡ length xs → take n (ws ++ drop (length ws) xs) ≡ ws
in_place n xs ws is same = in_front n ws (drop (length ws) xs) (same ∙ sym is)
