-- The clocks of a batch, one after another.
use Rattle.std.proofs.Common.{◌≡◌, ℕ, zero, suc, ◌+◌, ◌-◌, ◌*◌, ◌/◌, ◌<◌, ◌≤◌, ◌⊎◌, inl, inr, Bool, false, List, [], ◌∷◌, ◌++◌, length, take, drop, refl, sym, subst, ap, ◌∙◌, arith, add-one, Some}
use Rattle.std.specs.Prelude.{All, slice_get, slice_index_or, Result, Ok, Err, OnOk, IfErr}
use Rattle.std.proofs.Math.Nat.{suc-mul}
use Rattle.std.proofs.lemmas.Bool.{cases_lt}
use Rattle.std.proofs.Math.Seq.{drop-nil, drop-append_seam}
use Rattle.std.proofs.lemmas.List.{drop-take, take-append-drop, length-drop, length-take-le}
use Rattle.std.proofs.lemmas.Option.{slice_get_within, same_Some, slice_get-get_or}
use Rattle.std.proofs.lemmas.Slice.{take-put_mid, take-put_mid_below, drop-put_mid}
use borrow.Rule.Slice.PartMut.{put_mid}
use Rattle.wiring.specs.Netlist.{Netlist}
use Rattle.wiring.specs.Snapshot.{Contents, Snapshot, Fit, HasOneSnapshot, HasOneNext, HasPlaces}
use Rattle.wiring.specs.Clock.{Clock, given, Steps, Stops}
use Rattle.wiring.specs.Runs.{Runs, RunStops}
use Rattle.wiring.proofs.Lists.{All-at}
use Rattle.cycle_sim.specs.declared.ports.Out.{Out}
use Rattle.cycle_sim.specs.declared.edge.IndexRange.{IndexRange}
use Rattle.cycle_sim.specs.Ports.{din_widths, AreShown}
use Rattle.batch_sim.specs.declared.batches.Stop.{Stop}
use Rattle.batch_sim.specs.Called.{din_count, output_count, of_clock, clocks_with, batch_clocks, Came, BatchRan, BatchStops}

-- ---- places

next_place : (k size : ℕ) → (k + 1) * size ≡ k * size + size
next_place k size = ap (λ n. n * size) (add-one k) ∙ suc-mul k size

-- the place of a clock ends where another begins, or before it
pub place_within : (j k size : ℕ) → j < k → j * size + size ≤ k * size
place_within j zero size l = absurd (omega (arith, l))
place_within j (suc k) size l =
    let next : suc k * size ≡ k * size + size = suc-mul k size in
    within (cases_lt j k) next (λ h. place_within j k size h)
  where
    within : (j < k) ⊎ (k ≤ j) → suc k * size ≡ k * size + size → (j < k → j * size + size ≤ k * size) → j * size + size ≤ suc k * size
    within (inl h) next before = let room : j * size + size ≤ k * size = before h in omega (arith, room, next)
    within (inr h) next before = let same : j * size ≡ k * size = ap (λ n. n * size) (let e : j ≡ k = omega (arith, h, l) in e) in omega (arith, same, next)

pub place_inside : (k n size total : ℕ) → k < n → total ≡ n * size → k * size + size ≤ total
place_inside k n size total l e = let h : k * size + size ≤ n * size = place_within k n size l in omega (arith, h, e)

pub place_size : (k size : ℕ) → (k + 1) * size - k * size ≡ size
place_size k size = let next : (k + 1) * size ≡ k * size + size = next_place k size in omega (arith, next)

pub half_is : (n half : ℕ) → n ≡ 2 * half → half ≡ n / 2
half_is n half e = omega (arith, e)

pub drop_more : {X : Type 0} (j k : ℕ) (xs : List X) → drop (j + k) xs ≡ drop k (drop j xs)
drop_more zero k xs = let z : 0 + k ≡ k = omega arith in ap (λ n. drop n xs) z
drop_more (suc j) k [] = drop-nil (suc j + k) ∙ sym (drop-nil k)
drop_more (suc j) k (x ∷ xs) = let z : suc j + k ≡ suc (j + k) = omega arith in ap (λ n. drop n (x ∷ xs)) z ∙ drop_more j k xs

take_less : {X : Type 0} (j k : ℕ) (xs : List X) → j ≤ k → take j (take k xs) ≡ take j xs
take_less zero k xs l = refl
take_less (suc j) zero xs l = absurd (omega (arith, l))
take_less (suc j) (suc k) [] l = refl
take_less (suc j) (suc k) (x ∷ xs) l = ap (λ t. x ∷ t) (take_less j k xs (omega (arith, l)))

-- lists that are the same at first have the same in the places there
pub same_place : {X : Type 0} (size j k : ℕ) (xs ys : List X) → j < k → take (k * size) xs ≡ take (k * size) ys → of_clock size j xs ≡ of_clock size j ys
same_place size j k xs ys l e =
    let h : j * size + size ≤ k * size = place_within j k size l in
    sym (drop-take (j * size) size xs) ∙ ap (λ t. drop (j * size) t) (sym (take_less (j * size + size) (k * size) xs h) ∙ ap (λ t. take (j * size + size) t) e ∙ take_less (j * size + size) (k * size) ys h) ∙ drop-take (j * size) size ys

-- what was put into a place is there
pub put_here : {X : Type 0} (a size : ℕ) (xs ys : List X) → a + size ≤ length xs → length ys ≡ size → take size (drop a (put_mid a size xs ys)) ≡ ys
put_here a size xs ys room is =
    let front : length (take a xs) ≡ a = length-take-le a xs (omega (arith, room)) in
    sym (drop-take a size (put_mid a size xs ys)) ∙ ap (λ l. drop a l) (take-put_mid a size xs ys (a + size) (omega (arith, is)) (omega (arith, room)))
    ∙ ap (λ n. drop n (take a xs ++ ys)) (sym front) ∙ drop-append_seam (take a xs) ys

-- ---- clocks

pub clock_at : (ports : ℕ) (enables : List Bool) (dins : List ℕ) (k : ℕ) (e : Bool) → slice_get enables k ≡ Some e → slice_get (clocks_with ports enables dins) k ≡ Some (record { reset = false; enable = e; dins = of_clock ports k dins })
clock_at ports [] dins k e at = absurd (omega (arith, slice_get_within [] k e at))
clock_at ports (x ∷ enables) dins zero e at =
    let none : 0 ≡ 0 * ports = omega arith in
    ap (λ (b : Bool). Some (record { reset = false; enable = b; dins = take ports dins })) (same_Some x e at) ∙ ap (λ n. Some (record { reset = false; enable = e; dins = take ports (drop n dins) })) none
clock_at ports (x ∷ enables) dins (suc k) e at =
    let next : suc k * ports ≡ k * ports + ports = suc-mul k ports in
    let turn : k * ports + ports ≡ ports + k * ports = omega arith in
    let place : drop (k * ports) (drop ports dins) ≡ drop (suc k * ports) dins = sym (ap (λ n. drop n dins) (next ∙ turn) ∙ drop_more ports (k * ports) dins) in
    clock_at ports enables (drop ports dins) k e at ∙ ap (λ (d : List ℕ). Some (record { reset = false; enable = e; dins = take ports d })) place

pub clocks_count : (ports : ℕ) (enables : List Bool) (dins : List ℕ) → length (clocks_with ports enables dins) ≡ length enables
clocks_count ports [] dins = refl
clocks_count ports (e ∷ enables) dins = ap (λ n. suc n) (clocks_count ports enables (drop ports dins))

-- ---- runs

took_one : {X : Type 0} (xs : List X) (k : ℕ) (x : X) → slice_get xs k ≡ Some x → take (suc k) xs ≡ take k xs ++ x ∷ []
took_one [] k x at = absurd (omega (arith, slice_get_within [] k x at))
took_one (y ∷ xs) zero x at = ap (λ z. z ∷ []) (same_Some y x at)
took_one (y ∷ xs) (suc k) x at = ap (λ l. y ∷ l) (took_one xs k x at)

around : {X : Type 0} (xs : List X) (k : ℕ) (x : X) → slice_get xs k ≡ Some x → xs ≡ take k xs ++ x ∷ drop (suc k) xs
around [] k x at = absurd (omega (arith, slice_get_within [] k x at))
around (y ∷ xs) zero x at = ap (λ z. z ∷ xs) (same_Some y x at)
around (y ∷ xs) (suc k) x at = ap (λ l. y ∷ l) (around xs k x at)

got_last : {X : Type 0} (xs : List X) (y : X) (j : ℕ) (x : X) → slice_get (xs ++ y ∷ []) j ≡ Some x → ((j < length xs) × (slice_get xs j ≡ Some x)) ⊎ ((j ≡ length xs) × (y ≡ x))
got_last [] y zero x at = inr (refl, same_Some y x at)
got_last [] y (suc j) x at = absurd (omega (arith, slice_get_within (y ∷ []) (suc j) x at))
got_last (z ∷ xs) y zero x at = inl (omega arith, at)
got_last (z ∷ xs) y (suc j) x at = later (got_last xs y j x at)
  where
    later : ((j < length xs) × (slice_get xs j ≡ Some x)) ⊎ ((j ≡ length xs) × (y ≡ x)) → ((suc j < length (z ∷ xs)) × (slice_get (z ∷ xs) (suc j) ≡ Some x)) ⊎ ((suc j ≡ length (z ∷ xs)) × (y ≡ x))
    later (inl h) = inl (omega (arith, h.0), h.1)
    later (inr h) = inr (ap (λ n. suc n) h.0, h.1)

last_length : {X : Type 0} (xs : List X) (y : X) → length (xs ++ y ∷ []) ≡ length xs + 1
last_length [] y = refl
last_length (x ∷ xs) y = let e : length (xs ++ y ∷ []) ≡ length xs + 1 = last_length xs y in omega (arith, e)

module _ (m : Netlist) where
  run_on : (cs : List Clock) (c : Clock) (from mid to : Contents) (shots : List Snapshot) (s : Snapshot) → Runs m from cs shots mid → Steps m mid (given m c) s to → Runs m from (cs ++ c ∷ []) (shots ++ s ∷ []) to
  run_on [] c from mid to [] s h g = (to, subst (λ (x : Contents). Steps m x (given m c) s to) (sym h) g, refl)
  run_on [] c from mid to (t ∷ shots) s h g = absurd h
  run_on (d ∷ cs) c from mid to [] s h g = absurd h
  run_on (d ∷ cs) c from mid to (t ∷ shots) s h g = (h.0, h.1, run_on cs c h.0 mid to shots s h.2 g)

  stop_on : (cs : List Clock) (c : Clock) (rest : List Clock) (from mid : Contents) (shots : List Snapshot) (x i : ℕ) → Runs m from cs shots mid → Stops m mid (given m c) x i → RunStops m from (cs ++ c ∷ rest) shots x i
  stop_on [] c rest from mid [] x i h g = subst (λ (y : Contents). Stops m y (given m c) x i) (sym h) g
  stop_on [] c rest from mid (t ∷ shots) x i h g = absurd h
  stop_on (d ∷ cs) c rest from mid [] x i h g = absurd h
  stop_on (d ∷ cs) c rest from mid (t ∷ shots) x i h g = (h.0, h.1, stop_on cs c rest h.0 mid shots x i h.2 g)

-- ---- a batch so far

module _ (m : Netlist) (clocks : List Clock) (from mid : Contents) (old outs : List Out) (k : ℕ) (came : Came m clocks from mid old outs k) (c : Clock) (at : slice_get clocks k ≡ Some c) where
  came_clock : (to : Contents) (new : List Out) (s : Snapshot) → Steps m mid (given m c) s to → AreShown s (of_clock (output_count m) k new) → take (k * output_count m) new ≡ take (k * output_count m) outs → drop ((k + 1) * output_count m) new ≡ drop ((k + 1) * output_count m) outs → Came m clocks from to old new (k + 1)
  came_clock to new s step shown front back =
      let place : (k + 1) * output_count m ≡ k * output_count m + output_count m = next_place k (output_count m) in
      record {
        shots = came.shots ++ s ∷ [];
        count = last_length came.shots s ∙ ap (λ n. n + 1) came.count;
        run = subst (λ (cs : List Clock). Runs m from cs (came.shots ++ s ∷ []) to) (sym (ap (λ n. take n clocks) (add-one k) ∙ took_one clocks k c at)) (run_on m (take k clocks) c from mid to came.shots s came.run step);
        shown = λ j x here. each j x (got_last came.shots s j x here);
        later = back ∙ ap (λ n. drop n outs) place ∙ drop_more (k * output_count m) (output_count m) outs ∙ ap (λ l. drop (output_count m) l) came.later ∙ sym (drop_more (k * output_count m) (output_count m) old) ∙ sym (ap (λ n. drop n old) place);
      }
    where
      each : (j : ℕ) (x : Snapshot) → ((j < length came.shots) × (slice_get came.shots j ≡ Some x)) ⊎ ((j ≡ length came.shots) × (s ≡ x)) → AreShown x (of_clock (output_count m) j new)
      each j x (inl h) = subst (AreShown x) (sym (same_place (output_count m) j k new outs (let l : j < k = omega (arith, h.0, came.count) in l) front)) (came.shown j x h.1)
      each j x (inr h) = subst (λ (n : ℕ). AreShown x (of_clock (output_count m) n new)) (sym (h.0 ∙ came.count)) (subst (λ (y : Snapshot). AreShown y (of_clock (output_count m) k new)) h.1 shown)

  -- the outputs of the clock are put in its place
  pub came_on : (to : Contents) (count : ℕ) (out : List Out) (s : Snapshot) → count ≡ output_count m → k * count + count ≤ length outs → length out ≡ count → Steps m mid (given m c) s to → AreShown s out → Came m clocks from to old (put_mid (k * count) ((k + 1) * count - k * count) outs out) (k + 1)
  came_on to count out s is room size step shown =
      subst (λ (n : ℕ). Came m clocks from to old (put_mid (k * count) n outs out) (k + 1)) (sym (place_size k count))
      (came_clock to (put_mid (k * count) count outs out) s step
      (subst (λ (n : ℕ). AreShown s (of_clock n k (put_mid (k * count) count outs out))) is (subst (AreShown s) (sym (put_here (k * count) count outs out room size)) shown))
      (ap (λ n. take (k * n) (put_mid (k * count) count outs out)) (sym is) ∙ take-put_mid_below (k * count) count outs out (k * count) (omega arith) (omega (arith, room)) ∙ ap (λ n. take (k * n) outs) is)
      (ap (λ n. drop ((k + 1) * n) (put_mid (k * count) count outs out)) (sym is) ∙ drop-put_mid (k * count) count outs out ((k + 1) * count) (let e : (k + 1) * count ≡ k * count + count = next_place k count in omega (arith, e)) (omega (arith, room)) size ∙ ap (λ n. drop ((k + 1) * n) outs) is))

  pub stops_here : (count : ℕ) (part : List Out) (range : IndexRange) → part ≡ take ((k + 1) * count - k * count) (drop (k * count) outs) → Stops m mid (given m c) range.array range.index → BatchStops m clocks from mid old (put_mid (k * count) ((k + 1) * count - k * count) outs part) (record { done = k; range = range })
  stops_here count part range same stops =
      let n : ℕ = (k + 1) * count - k * count in
      let as_before : put_mid (k * count) n outs part ≡ outs = ap (λ p. put_mid (k * count) n outs p) same ∙ ap (λ l. take (k * count) outs ++ l) (take-append-drop n (drop (k * count) outs)) ∙ take-append-drop (k * count) outs in
      subst (λ (os : List Out). BatchStops m clocks from mid old os (record { done = k; range = range })) (sym as_before)
      (record {
        shots = came.shots;
        done = came.count;
        stops = subst (λ (cs : List Clock). RunStops m from cs came.shots range.array range.index) (sym (around clocks k c at)) (stop_on m (take k clocks) c (drop (suc k) clocks) from mid came.shots range.array range.index came.run stops);
        run = came.run;
        shown = came.shown;
        later = came.later;
      })

pub take_whole : {X : Type 0} (xs : List X) (n : ℕ) → length xs ≤ n → take n xs ≡ xs
take_whole [] zero l = refl
take_whole [] (suc n) l = refl
take_whole (x ∷ xs) zero l = absurd (omega (arith, l))
take_whole (x ∷ xs) (suc n) l = ap (λ t. x ∷ t) (take_whole xs n (omega (arith, l)))

pub came_all : (m : Netlist) (clocks : List Clock) (from to : Contents) (old outs : List Out) (k : ℕ) → length clocks ≤ k → Came m clocks from to old outs k → BatchRan m clocks from to outs
came_all m clocks from to old outs k l came = record { shots = came.shots; run = subst (λ (cs : List Clock). Runs m from cs came.shots to) (take_whole clocks k l) came.run; shown = came.shown }

-- ---- the code's own clock

abbrev pub code_ports : ℕ → List Bool → List ℕ → ℕ → Clock
code_ports ports enables dins k = record { reset = false; enable = slice_index_or enables k false; dins = take ((k + 1) * ports - k * ports) (drop (k * ports) dins) }

pub code_clock : (m : Netlist) (ports : ℕ) (enables : List Bool) (dins : List ℕ) (k : ℕ) → ports ≡ din_count m → k < length enables → slice_get (batch_clocks m enables dins) k ≡ Some (code_ports ports enables dins k)
code_clock m ports enables dins k is l =
    clock_at (din_count m) enables dins k (slice_index_or enables k false) (slice_get-get_or enables k false l)
    ∙ ap (λ n. Some (record { reset = false; enable = slice_index_or enables k false; dins = of_clock n k dins })) (sym is)
    ∙ ap (λ n. Some (record { reset = false; enable = slice_index_or enables k false; dins = take n (drop (k * ports) dins) })) (sym (place_size k ports))

pub code_fits : (m now : Netlist) (ports : ℕ) (enables : List Bool) (dins : List ℕ) (k : ℕ) → now ≡ m → ports ≡ din_count m → k < length enables → All (λ (c : Clock). Fit (din_widths m) c.dins) (batch_clocks m enables dins) → Fit (din_widths now) (take ((k + 1) * ports - k * ports) (drop (k * ports) dins))
code_fits m now ports enables dins k same is l all =
    subst (λ (n : Netlist). Fit (din_widths n) (take ((k + 1) * ports - k * ports) (drop (k * ports) dins))) (sym same) (All-at (λ (c : Clock). Fit (din_widths m) c.dins) (batch_clocks m enables dins) k (code_ports ports enables dins k) all (code_clock m ports enables dins k is l))

pub code_room : (m : Netlist) (count k n : ℕ) (old outs : List Out) → length m.outputs ≡ 2 * count → k < n → length outs ≡ length old → length old ≡ n * output_count m → k * count + count ≤ length outs
code_room m count k n old outs e l same total = place_inside k n count (length outs) l (same ∙ total ∙ ap (λ h. n * h) (sym (half_is (length m.outputs) count e)))

pub code_size : (count k : ℕ) (outs : List Out) → k * count + count ≤ length outs → length (take ((k + 1) * count - k * count) (drop (k * count) outs)) ≡ count
code_size count k outs room =
    let size : (k + 1) * count - k * count ≡ count = place_size k count in
    let behind : length (drop (k * count) outs) ≡ length outs - k * count = length-drop (k * count) outs in
    length-take-le ((k + 1) * count - k * count) (drop (k * count) outs) (omega (arith, size, behind, room)) ∙ size

pub code_outs : (m now : Netlist) (count k : ℕ) (outs : List Out) → now ≡ m → length m.outputs ≡ 2 * count → k * count + count ≤ length outs → length now.outputs ≡ 2 * length (take ((k + 1) * count - k * count) (drop (k * count) outs))
code_outs m now count k outs same e room = ap (λ (n : Netlist). length n.outputs) same ∙ e ∙ ap (λ n. 2 * n) (sym (code_size count k outs room))

-- ---- this stop and no other

abbrev NotBoth : Type 0
NotBoth = (m : Netlist) → HasOneSnapshot m → HasOneNext m → (from : Contents) (clocks : List Clock) (shots other : List Snapshot) (to : Contents) (x i : ℕ) → HasPlaces m from → Runs m from clocks shots to → RunStops m from clocks other x i → ⊥

abbrev OneStop : Type 0
OneStop = (m : Netlist) → HasOneSnapshot m → HasOneNext m → (from : Contents) (clocks : List Clock) (shots other : List Snapshot) (x i y j : ℕ) → HasPlaces m from → RunStops m from clocks shots x i → RunStops m from clocks other y j → (shots ≡ other) × (x ≡ y) × (i ≡ j)

pub stop_only : NotBoth → OneStop → (m : Netlist) (clocks : List Clock) (from to : Contents) (old outs : List Out) → HasOneSnapshot m → HasOneNext m → HasPlaces m from → (r : Result (Unit {0}) Stop) → OnOk r (BatchRan m clocks from to outs) → IfErr r (BatchStops m clocks from to old outs) → (shots : List Snapshot) (x i : ℕ) → RunStops m from clocks shots x i → r ≡ Err (record { done = length shots; range = record { array = x; index = i } })
stop_only apart one m clocks from to old outs v n places (Ok u) ok err shots x i stops = absurd (apart m v n from clocks ok.shots shots to x i places ok.run stops)
stop_only apart one m clocks from to old outs v n places (Err e) ok err shots x i stops =
    let same : (err.shots ≡ shots) × (e.range.array ≡ x) × (e.range.index ≡ i) = one m v n from clocks err.shots shots e.range.array e.range.index x i places err.stops stops in
    let done : e.done ≡ length shots = sym err.done ∙ ap (λ (l : List Snapshot). length l) same.0 in
    ap (λ (k : ℕ). let r : Result (Unit {0}) Stop = Err (record { done = k; range = e.range }) in r) done
    ∙ ap (λ (k : ℕ). let r : Result (Unit {0}) Stop = Err (record { done = length shots; range = record { array = k; index = e.range.index } }) in r) same.1
    ∙ ap (λ (k : ℕ). let r : Result (Unit {0}) Stop = Err (record { done = length shots; range = record { array = x; index = k } }) in r) same.2

-- the last clocks of a batch, after those that came before
pub came_ok : (m n : Netlist) → n ≡ m → (enables : List Bool) (dins : List ℕ) (from mid to : Contents) (old outs new : List Out) (k : ℕ) → (r : Result (Unit {0}) Stop) →
    OnOk r ((f : Contents) (o : List Out) → Came n (batch_clocks n enables dins) f mid o outs k → Came n (batch_clocks n enables dins) f to o new (length enables)) →
    Came m (batch_clocks m enables dins) from mid old outs k → OnOk r (BatchRan m (batch_clocks m enables dins) from to new)
came_ok m n same enables dins from mid to old outs new k (Ok u) on came =
    subst (λ (x : Netlist). BatchRan x (batch_clocks x enables dins) from to new) same
    (came_all n (batch_clocks n enables dins) from to old new (length enables) (omega (arith, clocks_count (din_count n) enables dins))
    (on from old (subst (λ (x : Netlist). Came x (batch_clocks x enables dins) from mid old outs k) (sym same) came)))
came_ok m n same enables dins from mid to old outs new k (Err e) on came = tt

pub came_rest : (m n : Netlist) → n ≡ m → (enables : List Bool) (dins : List ℕ) (from mid to : Contents) (old outs new : List Out) (k : ℕ) → k ≤ length enables → (r : Result (Unit {0}) Stop) →
    OnOk r ((f : Contents) (o : List Out) → Came n (batch_clocks n enables dins) f mid o outs k → Came n (batch_clocks n enables dins) f to o new (k + (length enables - k))) →
    Came m (batch_clocks m enables dins) from mid old outs k → OnOk r (BatchRan m (batch_clocks m enables dins) from to new)
came_rest m n same enables dins from mid to old outs new k l (Ok u) on came =
    let e : k + (length enables - k) ≡ length enables = omega (arith, l) in
    came_ok m n same enables dins from mid to old outs new k (Ok u) (λ f o h. subst (λ (j : ℕ). Came n (batch_clocks n enables dins) f to o new j) e (on f o h)) came
came_rest m n same enables dins from mid to old outs new k l (Err e) on came = tt
