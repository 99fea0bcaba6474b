-- Batches of a stimulus, one after another.
use Rattle.std.proofs.Common.{◌≡◌, ℕ, zero, suc, ◌+◌, ◌-◌, ◌*◌, ◌/◌, ◌%◌, ◌<◌, ◌≤◌, Bool, true, false, List, [], ◌∷◌, ◌++◌, length, ap, sym, subst, ◌∙◌, arith, append_assoc, Option}
use Rattle.std.specs.Prelude.{if◌then◌else◌}
use Rattle.std.specs.List.{All, flat_map, range_with_len}
use Rattle.std.proofs.lemmas.List.Elements.{All-append, All-nil}
use Rattle.dk_base.specs.Frames.{Size}
use Rattle.pgm_rounds.specs.declared.round.Round.{Round}
use Rattle.wiring.specs.Netlist.{Netlist}
use Rattle.wiring.specs.Snapshot.{Contents, Fit}
use Rattle.wiring.specs.Clock.{Clock}
use Rattle.cycle_sim.specs.Ports.{din_widths}
use Rattle.batch_sim.specs.Called.{clocks_with, batch_clocks}
use Rattle.test_bench.specs.declared.batch.Batch.{Batch}
use Rattle.test_bench.specs.declared.clocking.Bench.{Bench}
use Rattle.test_bench.specs.declared.clocking.Feed.{Feed}
use Rattle.stimulus.specs.declared.stop.Stop.{Stop}
use Rattle.stimulus.specs.Stimulus.{held_clock, pixel_clock, is_held_after, clocks_at}
use Rattle.stimulus.specs.Given.{rounds_of}
use Rattle.test_bench.specs.Batches.{HasBatch}
use Rattle.test_bench.specs.Clocking.{IsBench, IsFed, Clocked, StopsIn}
use Rattle.test_bench.proofs.Clocks.{one}
use Rattle.stimulus.proofs.Stimuli.{fit_dins, fit_greatest}
use Rattle.test_bench.proofs.Filled.{inputs_are}
use Rattle.test_bench.proofs.Runs.{clocked_join, stops_later, stops_more}

module _ (m : Netlist) (size : Size) (feed : Feed) (rounds : List Round) (fed : IsFed m size feed rounds) where
  held_fits : (b : Bool) → All (λ (c : Clock). Fit (din_widths m) c.dins) (if b then held_clock (din_widths m) ∷ [] else [])
  held_fits true = one (λ (c : Clock). Fit (din_widths m) c.dins) (held_clock (din_widths m)) (fit_greatest (din_widths m))
  held_fits false = All-nil (λ (c : Clock). Fit (din_widths m) c.dins)

  clocks_fit_at : (k : ℕ) → All (λ (c : Clock). Fit (din_widths m) c.dins) (clocks_at feed.hold (din_widths m) (rounds_of rounds) k)
  clocks_fit_at k =
      All-append (λ (c : Clock). Fit (din_widths m) c.dins) (pixel_clock (length (din_widths m)) (rounds_of rounds) k ∷ []) (if is_held_after feed.hold k then held_clock (din_widths m) ∷ [] else [])
      (one (λ (c : Clock). Fit (din_widths m) c.dins) (pixel_clock (length (din_widths m)) (rounds_of rounds) k) (fit_dins (din_widths m) size rounds fed.frames fed.some k)) (held_fits (is_held_after feed.hold k))

  clocks_fit : (a n : ℕ) → All (λ (c : Clock). Fit (din_widths m) c.dins) (flat_map (clocks_at feed.hold (din_widths m) (rounds_of rounds)) (range_with_len a n))
  clocks_fit a zero = All-nil (λ (c : Clock). Fit (din_widths m) c.dins)
  clocks_fit a (suc n) = All-append (λ (c : Clock). Fit (din_widths m) c.dins) (clocks_at feed.hold (din_widths m) (rounds_of rounds) a) (flat_map (clocks_at feed.hold (din_widths m) (rounds_of rounds)) (range_with_len (a + 1) n)) (clocks_fit_at a) (clocks_fit (a + 1) n)

  pub batch_is : (enables : List Bool) (dins : List ℕ) (a n : ℕ) → clocks_with (length feed.held.items) enables dins ≡ flat_map (clocks_at feed.hold (din_widths m) (rounds_of rounds)) (range_with_len a n) → batch_clocks m enables dins ≡ flat_map (clocks_at feed.hold (din_widths m) (rounds_of rounds)) (range_with_len a n)
  batch_is enables dins a n h = ap (λ k. clocks_with k enables dins) (sym (inputs_are m size feed rounds fed)) ∙ h

  pub batch_fit : (enables : List Bool) (dins : List ℕ) (a n : ℕ) → clocks_with (length feed.held.items) enables dins ≡ flat_map (clocks_at feed.hold (din_widths m) (rounds_of rounds)) (range_with_len a n) → All (λ (c : Clock). Fit (din_widths m) c.dins) (batch_clocks m enables dins)
  batch_fit enables dins a n h = subst (λ z. All (λ (c : Clock). Fit (din_widths m) c.dins) z) (sym (batch_is enables dins a n h)) (clocks_fit a n)

pub unbatched : (m : Netlist) (clocks : List Clock) (old new : Bench) (batch : Batch) (before now : Option (List (Bool × ℕ))) → Clocked m clocks (record old { batch = batch }) new before now → Clocked m clocks old new before now
unbatched m clocks old new batch before now h = record { bench = h.bench; netlist = h.netlist; most = h.most; made = h.made; shots = h.shots; runs = h.runs; kept = h.kept; fit = h.fit; told = h.told }

pub with_batch : (old : Bench) (batch : Batch) → IsBench old → HasBatch (length (din_widths old.sim.netlist)) (length old.outs.items) batch → IsBench (record old { batch = batch })
with_batch old batch h b = record { rules = h.rules; order = h.order; ordered = h.ordered; outs = h.outs; pictures = h.pictures; room = h.room; batch = b }

flat_join : {X : Type 0} (f : ℕ → List X) (a x y : ℕ) → flat_map f (range_with_len a (x + y)) ≡ flat_map f (range_with_len a x) ++ flat_map f (range_with_len (a + x) y)
flat_join f a zero y = ap (λ n. flat_map f (range_with_len a n)) (let e : 0 + y ≡ y = omega arith in e) ∙ ap (λ n. flat_map f (range_with_len n y)) (let e : a ≡ a + 0 = omega arith in e)
flat_join f a (suc x) y =
    ap (λ n. flat_map f (range_with_len a n)) (let e : suc x + y ≡ suc (x + y) = omega arith in e)
    ∙ ap (λ z. f a ++ z) (flat_join f (a + 1) x y ∙ ap (λ n. flat_map f (range_with_len (a + 1) x) ++ flat_map f (range_with_len n y)) (let e : a + 1 + x ≡ a + suc x = omega arith in e))
    ∙ sym (append_assoc (f a) (flat_map f (range_with_len (a + 1) x)) (flat_map f (range_with_len (a + suc x) y)))

module _ (m : Netlist) (f : ℕ → List Clock) where
  joined : (x y : ℕ) → flat_map f (range_with_len 0 (x + y)) ≡ flat_map f (range_with_len 0 x) ++ flat_map f (range_with_len x y)
  joined x y = flat_join f 0 x y ∙ ap (λ n. flat_map f (range_with_len 0 x) ++ flat_map f (range_with_len n y)) (let e : 0 + x ≡ x = omega arith in e)

  pub clocked_on : (x y n : ℕ) (old mid new : Bench) (before between now : Option (List (Bool × ℕ))) → n ≡ x + y → Clocked m (flat_map f (range_with_len 0 x)) old mid before between → Clocked m (flat_map f (range_with_len x y)) mid new between now → Clocked m (flat_map f (range_with_len 0 n)) old new before now
  clocked_on x y n old mid new before between now e h g =
      subst (λ z. Clocked m z old new before now) (sym (ap (λ k. flat_map f (range_with_len 0 k)) e ∙ joined x y))
      (clocked_join m (flat_map f (range_with_len 0 x)) (flat_map f (range_with_len x y)) old mid new before between now h g)

  pub stops_all : (x n : ℕ) (from : Contents) (first : ℕ) (stop : Stop) → x ≤ n → StopsIn m from first (flat_map f (range_with_len 0 x)) stop → StopsIn m from first (flat_map f (range_with_len 0 n)) stop
  stops_all x n from first stop l h =
      subst (λ z. StopsIn m from first z stop) (sym (ap (λ k. flat_map f (range_with_len 0 k)) (let e : n ≡ x + (n - x) = omega (arith, l) in e) ∙ joined x (n - x)))
      (stops_more m (flat_map f (range_with_len 0 x)) (flat_map f (range_with_len x (n - x))) from first stop h)

  pub stops_on : (x y n : ℕ) (old mid : Bench) (before between : Option (List (Bool × ℕ))) (stop : Stop) → x + y ≤ n → Clocked m (flat_map f (range_with_len 0 x)) old mid before between → StopsIn m mid.sim.contents mid.made (flat_map f (range_with_len x y)) stop → StopsIn m old.sim.contents old.made (flat_map f (range_with_len 0 n)) stop
  stops_on x y n old mid before between stop l h s =
      stops_all (x + y) n old.sim.contents old.made stop l
      (subst (λ z. StopsIn m old.sim.contents old.made z stop) (sym (joined x y)) (stops_later m (flat_map f (range_with_len 0 x)) (flat_map f (range_with_len x y)) old mid before between stop h s))

pub next_batch : (k size : ℕ) → (k + 1) * size ≡ k * size + size
next_batch k size = grind arith

pub batch_within : (k n size : ℕ) → k < n → k * size + size ≤ n * size
batch_within k n size l = Rattle.batch_sim.proofs.Clockwise.place_within k n size l

pub parts_of : (n size : ℕ) → n ≡ n / size * size + n % size
parts_of n size = sym (Rattle.std.proofs.Math.Nat.div-add-mod n size) ∙ ap (λ z. z + n % size) (turned size (n / size))
  where
    turned : (a b : ℕ) → a * b ≡ b * a
    turned a b = grind arith
