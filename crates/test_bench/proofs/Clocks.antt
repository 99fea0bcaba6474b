-- One clock of a bench.
use Rattle.std.proofs.Common.{◌≡◌, ℕ, suc, ◌+◌, ◌*◌, ◌^◌, ◌<◌, ◌≤◌, Bool, List, [], ◌∷◌, ◌++◌, length, map, refl, ap, sym, subst, ◌∙◌, arith, append-nil, Some, Option, zero, get_or, rules, take}
use Rattle.std.specs.Prelude.{◌==◌, ◌/◌, slice_get, slice_index, vec_capacity}
use Rattle.std.specs.List.{All, range_with_len}
use Rattle.std.proofs.lemmas.Option.{slice_get_within, slice_get-get_or}
use Rattle.std.proofs.Math.Pow.{pow_mono}
use Rattle.wiring.specs.declared.netlist.Net.TheVariants.{Output}
use Rattle.wiring.specs.Netlist.{Netlist, net_width, valid_net, dout_net}
use Rattle.wiring.specs.Order.{IsEvaluationOrder}
use Rattle.wiring.specs.Rules.{KeepsRules, IsPortWidth, with_valids}
use Rattle.wiring.specs.Snapshot.{Contents, Snapshot, net_value, FitsContents, Fit, IsSettled}
use Rattle.wiring.specs.Clock.{Clock, given, Steps}
use Rattle.wiring.specs.Runs.{picture}
use Rattle.wiring.proofs.Lists.{All-at, All-from_at}
use Rattle.cycle_sim.specs.declared.ports.Out.{Out}
use Rattle.cycle_sim.specs.Ports.{din_widths, IsShown, AreShown}
use Rattle.cycle_sim.proofs.Given.{given_fit, valids_even}
use Rattle.cycle_sim.proofs.RunsJoin.{picture_one}
use Rattle.test_bench.specs.declared.picture.Shown.{Shown}
use Rattle.test_bench.specs.declared.clocking.Bench.{Bench}
use Rattle.stimulus.specs.Showing.{output_count, notes_at, notes_of}
use Rattle.test_bench.specs.Clocking.{IsKept, AreKept, GoOn, DoutsFit, IsBench, Clocked}
use Rattle.test_bench.specs.BatchClocks.{Extends, sample_of, pairs_of}
use Rattle.test_bench.specs.Batches.{HasBatch}
use Rattle.stimulus.proofs.Runs.{picture_join}
use Rattle.test_bench.proofs.Runs.{go_on}
use Rattle.stimulus.proofs.Ranges.{map_more}

-- each dout has 1 to 16 bits
dout_at : (douts : List ℕ) (k : ℕ) → slice_index (with_valids douts) (2 * k + 1) ≡ slice_index douts k
dout_at [] k = refl
dout_at (w ∷ douts) zero = refl
dout_at (w ∷ douts) (suc k) = ap (λ n. slice_index (1 ∷ w ∷ with_valids douts) n) (let e : 2 * suc k + 1 ≡ suc (suc (2 * k + 1)) = omega arith in e) ∙ dout_at douts k

pub port_width : (m : Netlist) → KeepsRules m → (k count : ℕ) → length m.outputs ≡ 2 * count → k < count → IsPortWidth (net_width m (dout_net k))
port_width m rules k count n l =
    let ports = rules.ports in
    let douts = ports.douts in
    let e : slice_index m.outputs (2 * k + 1) ≡ slice_index douts k = ap (λ z. slice_index z (2 * k + 1)) ports.outputs_are ∙ dout_at douts k in
    let within : k < length douts = omega (arith, l, n, ap length ports.outputs_are, valids_even douts) in
    subst (λ w. IsPortWidth w) (sym e) (All-at IsPortWidth douts k (get_or douts k 0) ports.dout_widths (slice_get-get_or douts k 0 within))

half : (n k : ℕ) → k < n / 2 → 2 * k + 1 < n
half n k l = omega (arith, l)

pub counted : (n count : ℕ) → n ≡ 2 * count → n / 2 ≡ count
counted n count e = omega (arith, e)

abbrev NetsFit : Type 0
NetsFit = (m : Netlist) (order : List ℕ) → KeepsRules m → IsEvaluationOrder m.assigns order → (s : Snapshot) → IsSettled m s → FitsContents m s.contents → Fit m.inputs s.inputs → (n : Rattle.wiring.specs.declared.netlist.Net.Net) → Rattle.wiring.specs.Netlist.IsDeclared m n → net_value s n < 2 ^ net_width m n

pub douts_fit : NetsFit → (m : Netlist) (order : List ℕ) → KeepsRules m → IsEvaluationOrder m.assigns order → (c : Clock) (from to : Contents) (s : Snapshot) → FitsContents m from → Fit (din_widths m) c.dins → Steps m from (given m c) s to → DoutsFit m s
douts_fit fit m order rules ordered c from to s contents dins step k l =
    fit m order rules ordered s step.snapshot.settled (subst (λ z. FitsContents m z) (sym step.snapshot.contents) contents)
    (subst (λ z. Fit m.inputs z) (sym step.snapshot.inputs) (given_fit m rules c dins)) (Output (2 * k + 1)) (half (length m.outputs) k l)

small : (x w : ℕ) → x < 2 ^ w → w ≤ 16 → x < 2 ^ 16
small x w l h = let top : 2 ^ w ≤ 2 ^ 16 = pow_mono h in omega (arith, l, top)

-- what is shown has 16 bits at most
pub outs_small : (m : Netlist) → KeepsRules m → (s : Snapshot) (outs : List Out) → DoutsFit m s → AreShown s outs → length m.outputs ≡ 2 * length outs → All (λ out. out.dout < 2 ^ 16) outs
outs_small m rules s outs fit shown n = All-from_at (λ (out : Out). out.dout < 2 ^ 16) outs (λ k out at.
    let l = slice_get_within outs k out at in
    let within : k < output_count m = subst (λ z. k < z) (sym (counted (length m.outputs) (length outs) n)) l in
    subst (λ z. z < 2 ^ 16) (sym (shown.each k out at).dout) (small (net_value s (dout_net k)) (net_width m (dout_net k)) (fit k within) (port_width m rules k (length outs) n l).1))

mapped : {X Y : Type 0} (g : X → Y) (f : ℕ → Y) (xs : List X) (a : ℕ) → ((k : ℕ) (x : X) → slice_get xs k ≡ Some x → g x ≡ f (a + k)) → map g xs ≡ map f (range_with_len a (length xs))
mapped g f [] a h = refl
mapped g f (x ∷ xs) a h =
    let first : g x ≡ f a = h 0 x refl ∙ ap f (let e : a + 0 ≡ a = omega arith in e) in
    ap (λ y. y ∷ map g xs) first ∙ ap (λ ys. f a ∷ ys) (mapped g f xs (a + 1) (λ k y at. h (suc k) y at ∙ ap f (let e : a + suc k ≡ a + 1 + k = omega arith in e)))

pair_is : (s : Snapshot) (k : ℕ) (out : Out) → IsShown s k out → ◌≡◌ {A = Bool × ℕ} (out.valid, out.dout) (net_value s (valid_net k) == 1, net_value s (dout_net k))
pair_is s k out h = ap (λ v. (v, out.dout)) h.valid ∙ ap (λ d. (net_value s (valid_net k) == 1, d)) h.dout

pub pairs_are : (m : Netlist) (s : Snapshot) (outs : List Out) → AreShown s outs → length m.outputs ≡ 2 * length outs → pairs_of outs ≡ notes_of m (s ∷ [])
pairs_are m s outs shown n =
    mapped (λ (out : Out). (out.valid, out.dout)) (λ k. (net_value s (valid_net k) == 1, net_value s (dout_net k))) outs 0 (λ k out at. pair_is s k out (shown.each k out at) ∙ ap (λ z. (net_value s (valid_net z) == 1, net_value s (dout_net z))) (let e : k ≡ 0 + k = omega arith in e))
    ∙ ap (λ z. map (λ k. (net_value s (valid_net k) == 1, net_value s (dout_net k))) (range_with_len 0 z)) (sym (counted (length m.outputs) (length outs) n))
    ∙ sym (append-nil (notes_at m s))

pub there : {X : Type 0} (xs : List X) (k : ℕ) → k < length xs → (x : X) × (slice_get xs k ≡ Some x)
there [] k l = absurd (omega (arith, l))
there (x ∷ xs) zero l = (x, refl)
there (x ∷ xs) (suc k) l = there xs k (omega (arith, l))

pub kept_one : (most : ℕ) (s : Snapshot) (outs : List Out) (old new : List Shown) → AreShown s outs → length old ≡ length outs → length new ≡ length outs →
    ((k : ℕ) (a b : Shown) (out : Out) → slice_get old k ≡ Some a → slice_get new k ≡ Some b → slice_get outs k ≡ Some out → Extends most a b (sample_of out)) →
    (all : List Snapshot) → AreKept most all old → AreKept most (all ++ s ∷ []) new
kept_one most s outs old new shown n l each all h k b at =
    let in_outs : k < length outs = subst (λ z. k < z) l (slice_get_within new k b at) in
    let a = there old k (subst (λ z. k < z) (sym n) in_outs) in
    let out = there outs k in_outs in
    subst (λ z. IsKept most z b) (ap (λ z. picture k all ++ z) (picture_one s k out.0 (shown.each k out.0 out.1)) ∙ sym (picture_join k all (s ∷ [])))
    (each k a.0 b out.0 a.1 at out.1 (picture k all) (h k a.0 a.1))

pub one : {X : Type 0} (P : X → Type 0) (x : X) → P x → All P (x ∷ [])
one P x p = All-from_at P (x ∷ []) (placed P x p)
  where
    placed : {X : Type 0} (P : X → Type 0) (x : X) → P x → (k : ℕ) (y : X) → slice_get (x ∷ []) k ≡ Some y → P y
    placed P x p zero y e = let f : x ≡ y = cc in subst (λ z. P z) f p
    placed P x p (suc k) y e = absurd (let f : ⊥ = cc in f)

-- the bench after a clock
pub clocked_one : (c : Clock) (old new : Bench) (before now : Option (List (Bool × ℕ))) (s : Snapshot) → IsBench old → new.sim.netlist ≡ old.sim.netlist → new.most ≡ old.most → new.made ≡ old.made + 1 →
    length new.outs.items ≡ length old.outs.items → new.batch ≡ old.batch → length new.pictures.items ≡ length new.outs.items → All (λ shown. old.most ≤ vec_capacity shown.samples) new.pictures.items →
    Steps old.sim.netlist old.sim.contents (given old.sim.netlist c) s new.sim.contents → AreShown s new.outs.items → DoutsFit old.sim.netlist s → GoOn before (pairs_of new.outs.items) now →
    ((k : ℕ) (a b : Shown) (out : Out) → slice_get old.pictures.items k ≡ Some a → slice_get new.pictures.items k ≡ Some b → slice_get new.outs.items k ≡ Some out → Extends old.most a b (sample_of out)) →
    Clocked old.sim.netlist (c ∷ []) old new before now
clocked_one c old new before now s bench netlist most made outs batch pictures room step shown fit told kept =
    let count : length old.sim.netlist.outputs ≡ 2 * length new.outs.items = bench.outs ∙ ap (λ n. 2 * n) (sym outs) in
    record {
      bench = record {
        rules = subst (λ z. KeepsRules z) (sym netlist) bench.rules;
        order = bench.order;
        ordered = subst (λ z. IsEvaluationOrder z.assigns bench.order) (sym netlist) bench.ordered;
        outs = ap (λ z. length z.outputs) netlist ∙ count;
        pictures = pictures;
        room = subst (λ n. All (λ shown. n ≤ vec_capacity shown.samples) new.pictures.items) (sym most) room;
        batch = subst (λ (z : Netlist). HasBatch (length (din_widths z)) (length new.outs.items) new.batch) (sym netlist) (subst (λ n. HasBatch (length (din_widths old.sim.netlist)) n new.batch) (sym outs) (subst (λ z. HasBatch (length (din_widths old.sim.netlist)) (length old.outs.items) z) (sym batch) bench.batch));
      };
      netlist = netlist;
      most = most;
      made = made;
      shots = s ∷ [];
      runs = (new.sim.contents, step, refl);
      kept = kept_one old.most s new.outs.items old.pictures.items new.pictures.items shown (bench.pictures ∙ sym outs) pictures kept;
      fit = one (DoutsFit old.sim.netlist) s fit;
      told = subst (λ z. GoOn before z now) (pairs_are old.sim.netlist s new.outs.items shown count) told;
    }

-- one output more is specified
pub told_more : (outs : List Out) (i : ℕ) (o : Out) (before between now : Option (List (Bool × ℕ))) → slice_get outs i ≡ Some o → GoOn before (pairs_of (take i outs)) between → GoOn between ((o.valid, o.dout) ∷ []) now → GoOn before (pairs_of (take (i + 1) outs)) now
told_more outs i o before between now at h g =
    subst (λ z. GoOn before z now) (sym (map_more (λ (out : Out). (out.valid, out.dout)) outs i o at)) (go_on (pairs_of (take i outs)) ((o.valid, o.dout) ∷ []) before between now h g)

-- there are few outputs
pub few_outputs : (m now : Netlist) → KeepsRules m → now ≡ m → (count : ℕ) → length now.outputs ≡ 2 * count → count < 2 ^ 32
few_outputs m now rules same count n =
    let ports = rules.ports in
    let all : length m.outputs ≡ 2 * length ports.douts = ap length ports.outputs_are ∙ valids_even ports.douts in
    let here : length m.outputs ≡ 2 * count = ap (λ (z : Netlist). length z.outputs) (sym same) ∙ n in
    omega (arith, all, here, ports.dout_count.1)
