-- The picture of a drive.
use Rattle.std.proofs.Common.{◌≡◌, ℕ, zero, suc, ◌+◌, ◌-◌, ◌*◌, ◌<◌, ◌≤◌, min, unsigned_abs, List, [], ◌∷◌, length, map, take, Some, refl, ap, sym, subst, ◌∙◌, inl, inr, arith, All}
use Rattle.std.specs.Prelude.{slice_get, slice_index_or, nat_lt, ◌==◌}
use Rattle.std.specs.List.{flat_map, range_with_len}
use Rattle.std.proofs.lemmas.Bool.{cases_lt}
use Rattle.std.proofs.lemmas.List.{length-map, take_all}
use Rattle.std.proofs.lemmas.List.FromFn.{take-map-range_with_len, length-map-range_with_len}
use Rattle.std.proofs.lemmas.Option.{slice_get_within, slice_get-get_or, get_or_from_slice_get}
use Rattle.dk_base.specs.Frames.{area, raster, picture_at}
use Rattle.pointwise_ir.specs.Programs.{Program}
use Rattle.buffer_plan.specs.Plans.{Plan, latency_of}
use Rattle.wiring.specs.Netlist.{Netlist, valid_net, dout_net}
use Rattle.wiring.specs.Snapshot.{Contents, Snapshot, FitsContents, Fit, net_value}
use Rattle.wiring.specs.Clock.{Clock}
use Rattle.wiring.specs.Runs.{Runs, picture}
use Rattle.circuit.specs.Rounds.{Rounds, AreRounds, pixel, pixel_count, pictures_in}
use Rattle.circuit.specs.Driven.{Drives, Agree, driven, fed_clock, input_widths, output_at}
use Rattle.dk_compile.proofs.Rounds.{all_rasters}
use Rattle.dk_compile.proofs.LatePictures.{shown}

runs_length : (m : Netlist) (cs : List Clock) (from to : Contents) (shots : List Snapshot) → Runs m from cs shots to → length cs ≡ length shots
runs_length m [] from to [] h = refl
runs_length m [] from to (t ∷ shots) h = absurd h
runs_length m (c ∷ cs) from to [] h = absurd h
runs_length m (c ∷ cs) from to (t ∷ shots) h = ap suc (runs_length m cs h.0 to shots h.2)

pub shows : (m : Netlist) (p : Program) (plan : Plan) → Drives m p plan → (from to : Contents) (dins : List (List ℕ)) (shots : List Snapshot) → FitsContents m from → All (Fit (input_widths p)) dins
    → Runs m from (driven (length p.inputs) dins) shots to → (rounds : Rounds) → AreRounds p rounds → Agree p rounds dins → (k : ℕ) → k < length p.outputs → length dins ≤ pixel_count p rounds + latency_of plan k
    → picture k shots ≡ map (λ q. unsigned_abs (pixel p rounds (output_at p k) q)) (range_with_len 0 (length dins - latency_of plan k))
shows m p plan d from to dins shots fc fn runs rounds ok agree k l n =
    let late = latency_of plan k in
    let count : suc (length dins) ≡ length shots = ap suc (sym (length-map dins fed_clock)) ∙ runs_length m (driven (length p.inputs) dins) from to shots runs in
    shown (λ (s : Snapshot). net_value s (valid_net k) == 1) (λ (s : Snapshot). net_value s (dout_net k)) (λ q. unsigned_abs (pixel p rounds (output_at p k) q)) late (late + 1) 0 shots (omega arith) (record {
      valids = λ c s at. d.valid from to dins shots fc fn runs k c s l at ∙ ap (λ z. nat_lt late z) (let e : c ≡ 0 + c = omega arith in e);
      douts = λ c q s at e.
          let place : c ≡ q + late + 1 = omega (arith, e) in
          let inside : q < pixel_count p rounds = omega (arith, slice_get_within shots c s at, count, place, n) in
          ap unsigned_abs (d.dout from to dins shots fc fn runs rounds ok agree k q s l (subst (λ z. slice_get shots z ≡ Some s) place at) inside);
    })
    ∙ ap (λ z. map (λ q. unsigned_abs (pixel p rounds (output_at p k) q)) (range_with_len 0 z)) (let e : length shots - (late + 1) ≡ length dins - late = omega (arith, count) in e)

-- a list by its numbers, from one function or another
map_range : {B : Type 0} (f g : ℕ → B) (a n : ℕ) → ((q : ℕ) → q < n → f (a + q) ≡ g (a + q)) → map f (range_with_len a n) ≡ map g (range_with_len a n)
map_range f g a zero same = refl
map_range f g a (suc n) same =
    let first : f a ≡ g a = ap f (let e : a ≡ a + 0 = omega arith in e) ∙ same 0 (omega arith) ∙ ap g (let e : a + 0 ≡ a = omega arith in e) in
    ap (λ z. z ∷ map f (range_with_len (a + 1) n)) first
    ∙ ap (λ zs. g a ∷ zs) (map_range f g (a + 1) n (λ q low. ap f (let e : a + 1 + q ≡ a + suc q = omega arith in e) ∙ same (suc q) (omega (arith, low)) ∙ ap g (let e : a + suc q ≡ a + 1 + q = omega arith in e)))

-- the first of a list by its numbers
take_range : (f : ℕ → ℕ) (n most : ℕ) → take most (map f (range_with_len 0 n)) ≡ map f (range_with_len 0 (min most n))
take_range f n most = elim (cases_lt n most) as (λ _. take most (map f (range_with_len 0 n)) ≡ map f (range_with_len 0 (min most n))) [
  | inl few ↦
      take_all most (map f (range_with_len 0 n)) (let long : length (map f (range_with_len 0 n)) ≡ n = length-map-range_with_len f 0 n in omega (arith, few, long))
      ∙ ap (λ z. map f (range_with_len 0 z)) (let e : n ≡ min most n = omega (arith, few) in e)
  | inr many ↦ take-map-range_with_len f 0 n most many ∙ ap (λ z. map f (range_with_len 0 z)) (let e : most ≡ min most n = omega (arith, many) in e)
]

-- no values
none : Snapshot
none = record { inputs = []; outputs = []; wires = []; contents = record { regs = []; arrays = [] } }

-- the first samples of an output, however long the drive goes on after them
module _ (m : Netlist) (p : Program) (plan : Plan) (d : Drives m p plan) (from to : Contents) (dins : List (List ℕ)) (shots : List Snapshot) (fc : FitsContents m from) (fn : All (Fit (input_widths p)) dins) (runs : Runs m from (driven (length p.inputs) dins) shots to)
    (rounds : Rounds) (ok : AreRounds p rounds) (agree : Agree p rounds dins) (k : ℕ) (l : k < length p.outputs) where
  abbrev late : ℕ
  late = latency_of plan k

  abbrev out : ℕ → ℕ
  out q = unsigned_abs (pixel p rounds (output_at p k) q)

  abbrev shown_at : ℕ → ℕ
  shown_at q = net_value (slice_index_or shots (q + late + 1) none) (dout_net k)

  count : suc (length dins) ≡ length shots
  count = ap suc (sym (length-map dins fed_clock)) ∙ runs_length m (driven (length p.inputs) dins) from to shots runs

  all_shown : picture k shots ≡ map shown_at (range_with_len 0 (length dins - late))
  all_shown =
      shown (λ (s : Snapshot). net_value s (valid_net k) == 1) (λ (s : Snapshot). net_value s (dout_net k)) shown_at late (late + 1) 0 shots (omega arith) (record {
        valids = λ c s at. d.valid from to dins shots fc fn runs k c s l at ∙ ap (λ z. nat_lt late z) (let e : c ≡ 0 + c = omega arith in e);
        douts = λ c q s at e.
            let place : c ≡ q + late + 1 = omega (arith, e) in
            ap (λ (t : Snapshot). net_value t (dout_net k)) (sym (get_or_from_slice_get shots c s none at) ∙ ap (λ z. slice_index_or shots z none) place);
      })
      ∙ ap (λ z. map shown_at (range_with_len 0 z)) (let e : length shots - (late + 1) ≡ length dins - late = omega (arith, count) in e)

  same_at : (q : ℕ) → q < pixel_count p rounds → q < length dins - late → shown_at q ≡ out q
  same_at q low within =
      ap unsigned_abs (d.dout from to dins shots fc fn runs rounds ok agree k q (slice_index_or shots (q + late + 1) none) l (slice_get-get_or shots (q + late + 1) none (omega (arith, within, count))) low)

  pub first_shown : take (pixel_count p rounds) (picture k shots) ≡ map out (range_with_len 0 (min (pixel_count p rounds) (length dins - late)))
  first_shown =
      ap (take (pixel_count p rounds)) all_shown ∙ take_range shown_at (length dins - late) (pixel_count p rounds)
      ∙ map_range shown_at out 0 (min (pixel_count p rounds) (length dins - late)) (λ q low. ap shown_at (let e : 0 + q ≡ q = omega arith in e) ∙ same_at q (omega (arith, low)) (omega (arith, low)) ∙ ap out (let e : q ≡ 0 + q = omega arith in e))

  pub whole_shown : pixel_count p rounds + late ≤ length dins → take (pixel_count p rounds) (picture k shots) ≡ flat_map (λ r. raster p.size (picture_at (pictures_in p rounds r) (output_at p k))) (range_with_len 0 (length rounds))
  whole_shown past =
      first_shown ∙ ap (λ z. map out (range_with_len 0 z)) (let e : min (pixel_count p rounds) (length dins - late) ≡ length rounds * area p.size = omega (arith, past) in e)
      ∙ ap (λ z. map out (range_with_len z (length rounds * area p.size))) (let e : 0 ≡ 0 * area p.size = omega arith in e) ∙ all_rasters p.size (λ r. picture_at (pictures_in p rounds r) (output_at p k)) 0 (length rounds)
