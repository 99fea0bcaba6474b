-- From the behaviour of a module to what it shows while it is driven with frames.
use Rattle.std.proofs.Common.{◌≡◌, ℕ, zero, suc, ◌+◌, ◌^◌, ◌<◌, ◌≤◌, ◌==◌, ℤ, pos, negsuc, Bool, true, false, List, [], ◌∷◌, ◌++◌, length, map, take, Some, refl, sym, ap, subst, ◌∙◌, inl, inr, arith, append_assoc}
use Rattle.std.specs.Prelude.{IsTrue, nat_lt, nat_le, not, ◌&&◌, reverse, replicate, slice_get, slice_index, slice_index_or, All, if◌then◌else◌}
use Rattle.std.proofs.Math.Pow.{pow_pos}
use Rattle.std.proofs.lemmas.Bool.{cases_lt}
use Rattle.std.proofs.lemmas.Int.{ints}
use Rattle.std.proofs.lemmas.List.{reverse-append}
use Rattle.std.proofs.lemmas.List.Elements.{All-nil, All-cons, All-head, All-tail}
use Rattle.std.proofs.lemmas.Option.{slice_get_within, slice_get-get_or}
use Rattle.std.proofs.lemmas.Nat.{div_below}
use Rattle.dk_base.specs.declared.ty.Ty.{Ty}
use Rattle.dk_base.specs.declared.ty.Ty.TheVariants.{Unsigned, Signed}
use Rattle.dk_base.specs.Types.{width_of, IsPort, IsIn}
use Rattle.dk_base.specs.Numbers.{code}
use Rattle.dk_base.specs.Frames.{area, frame_of, column, row}
use Rattle.dk_base.proofs.Codes.{code_pos}
use Rattle.wiring.specs.declared.netlist.Net.{Net}
use Rattle.wiring.specs.Netlist.{Netlist, valid_net, dout_net}
use Rattle.wiring.specs.Snapshot.{Contents, Snapshot, Fit, FitsContents, net_value}
use Rattle.wiring.specs.Clock.{Clock, bit, given}
use Rattle.wiring.specs.History.{was_reset, is_held, counted, fed}
use Rattle.wiring.specs.Runs.{Runs, RunStops}
use Rattle.wiring.proofs.Lists.{All-at}
use Rattle.net_build.specs.Runs.{IsWhole, FitsPorts, IsClockOf, RunsOn}
use Rattle.net_build.proofs.Runs.{run_clock}
use Rattle.pointwise_ir.specs.declared.program.Input.{Input}
use Rattle.pointwise_ir.specs.declared.program.Definition.{Definition}
use Rattle.pointwise_ir.specs.Programs.{Program, IsProgram, IsOutput, types_of}
use Rattle.pointwise_ir.specs.Meaning.{IsRound}
use Rattle.pointwise_ir.proofs.Pictured.{values_in, mapped_entry}
use Rattle.edge_select.proofs.Raster.{some_area}
use Rattle.buffer_plan.specs.Plans.{Plan, latency_of}
use Rattle.circuit.specs.Runs.{IsRunning}
use Rattle.circuit.specs.Rounds.{Rounds, AreRounds, Feeds, pixel, pixel_bits, pixel_count, type_at}
use Rattle.circuit.specs.Forms.{Places}
use Rattle.circuit.specs.Behaviour.{HasPorts, Behaves, is_valid}
use Rattle.circuit.specs.Driven.{input_widths, output_at, fed_clock, driven, Agree, Drives}
use Rattle.circuit.proofs.BodyNets.{entry_of}
use Rattle.circuit.proofs.Typing.{entry_or}

-- a run has a snapshot for each clock
runs_length : (m : Netlist) (clocks : List Clock) (from to : Contents) (shots : List Snapshot) → Runs m from clocks shots to → length shots ≡ length clocks
runs_length m [] from to [] h = refl
runs_length m [] from to (t ∷ shots) h = absurd h
runs_length m (c ∷ clocks) from to [] h = absurd h
runs_length m (c ∷ clocks) from to (t ∷ shots) h = ap suc (runs_length m clocks h.0 to shots h.2)

-- what the ports are given fits them
bit_fits : (b : Bool) → bit b < 2 ^ 1
bit_fits true = omega arith
bit_fits false = omega arith

pub zeros_fit : (inputs : List Input) → All (λ (i : Input). IsPort i.ty) inputs → Fit (map (λ (i : Input). width_of i.ty) inputs) (replicate (length inputs) 0)
zeros_fit [] ok = tt
zeros_fit (i ∷ inputs) ok = (pow_pos (width_of i.ty), zeros_fit inputs (All-tail (λ (j : Input). IsPort j.ty) i inputs ok))

pub given_fits : (m : Netlist) (p : Program) (enable : Bool) → HasPorts m p enable → (c : Clock) → Fit (input_widths p) c.dins → FitsPorts m c
given_fits m p enable ports c fit =
    subst (λ (widths : List ℕ). Fit widths (given m c)) (sym ports.inputs)
    (subst (λ (e : Bool). Fit (1 ∷ (if enable then 1 ∷ input_widths p else input_widths p)) (bit c.reset ∷ (if e then bit c.enable ∷ c.dins else c.dins))) (sym ports.enable_is) (by enable))
  where
    by : (e : Bool) → Fit (1 ∷ (if e then 1 ∷ input_widths p else input_widths p)) (bit c.reset ∷ (if e then bit c.enable ∷ c.dins else c.dins))
    by true = (bit_fits c.reset, (bit_fits c.enable, fit))
    by false = (bit_fits c.reset, fit)

pub fed_fit : (m : Netlist) (p : Program) (enable : Bool) → HasPorts m p enable → (dins : List (List ℕ)) → All (Fit (input_widths p)) dins → All (FitsPorts m) (map fed_clock dins)
fed_fit m p enable ports [] fit = All-nil (FitsPorts m)
fed_fit m p enable ports (x ∷ dins) fit =
    All-cons (FitsPorts m) (fed_clock x) (map fed_clock dins) (given_fits m p enable ports (fed_clock x) (All-head (Fit (input_widths p)) x dins fit)) (fed_fit m p enable ports dins (All-tail (Fit (input_widths p)) x dins fit))

abbrev reset_first : Program → Clock
reset_first p = record { reset = true; enable = true; dins = replicate (length p.inputs) 0 }

-- the bits of a pixel of an unsigned type are the pixel
unsigned_code : (t : Ty) (v : ℤ) → IsPort t → IsIn t v → pos (code (width_of t) v) ≡ v
unsigned_code (Unsigned n) (pos k) port is = ap pos (code_pos n k (let g = is.greatest in omega (arith, ints, g)))
unsigned_code (Unsigned n) (negsuc k) port is = absurd (let l = is.least in omega (arith, ints, l))
unsigned_code (Signed n) v port is = absurd port

-- in each clock the number of those before it, and that the rounds agree with what came in
pub record Knows (m : Netlist) (p : Program) (rounds : Rounds) (before : List Clock) (t : ℕ) : Type 0 where
  pub since : IsTrue (was_reset before)
  pub count : length (counted m before) ≡ t
  pub feeds : Feeds m p rounds before

free_clock : (m : Netlist) (x : List ℕ) → is_held m (fed_clock x) ≡ false
free_clock m x = by m.enable
  where
    by : (e : Bool) → ((e && true) && false) ≡ false
    by true = refl
    by false = refl

one_more : (m : Netlist) (x : List ℕ) (before : List Clock) → counted m (fed_clock x ∷ before) ≡ fed_clock x ∷ counted m before
one_more m x before = ap (λ (h : Bool). if h then counted m before else fed_clock x ∷ counted m before) (free_clock m x)

module _ (m : Netlist) (p : Program) (rounds : Rounds) where
  -- these numbers are the pixels number t of the inputs
  abbrev Come : List ℕ → ℕ → Type 0
  Come x t = (k : ℕ) → k < length p.inputs → t < pixel_count p rounds → slice_index x k ≡ pixel_bits p rounds k t

  first : (c : Clock) → c.reset ≡ true → Knows m p rounds (c ∷ []) 0
  first c resets = record {
    since = subst (λ (r : Bool). IsTrue (if r then true else false)) (sym resets) refl;
    count = ap length none;
    feeds = λ k q j input at low. absurd (let e = ap length none in let f : ⊥ = omega (arith, at, e) in f);
  }
    where
      none : counted m (c ∷ []) ≡ []
      none = ap (λ (r : Bool). if r then [] else if is_held m c then [] else c ∷ []) resets

  next : (before : List Clock) (t : ℕ) (x : List ℕ) → Knows m p rounds before t → Come x t → Knows m p rounds (fed_clock x ∷ before) (suc t)
  next before t x knows come = record {
    since = knows.since;
    count = ap length (one_more m x before) ∙ ap suc knows.count;
    feeds = λ k q j input at low.
        ap (λ (cs : List Clock). slice_index (map (λ (d : Clock). slice_index d.dins k) cs) j) (one_more m x before)
        ∙ by k q j input (at ∙ ap length (one_more m x before)) low;
  }
    where
      by : (k q j : ℕ) → k < length p.inputs → q + suc j ≡ suc (length (counted m before)) → q < pixel_count p rounds → slice_index (slice_index x k ∷ fed m k before) j ≡ pixel_bits p rounds k q
      by k q zero input at low =
          let here : t ≡ q = omega (arith, at, knows.count) in
          come k input (subst (λ (n : ℕ). n < pixel_count p rounds) (sym here) low) ∙ ap (pixel_bits p rounds k) here
      by k q (suc j) input at low = knows.feeds k q j input (omega (arith, at)) low

  -- after some more clocks
  walk : (dins : List (List ℕ)) (before : List Clock) (t : ℕ) → Knows m p rounds before t → ((q : ℕ) → q < length dins → Come (slice_index_or dins q []) (t + q)) → (i : ℕ) → i ≤ length dins → Knows m p rounds (reverse (take i (map fed_clock dins)) ++ before) (t + i)
  walk [] before t knows come zero le = subst (Knows m p rounds before) (let e : t ≡ t + 0 = omega arith in e) knows
  walk [] before t knows come (suc i) le = absurd (let f : ⊥ = omega (arith, le) in f)
  walk (x ∷ dins) before t knows come zero le = subst (Knows m p rounds before) (let e : t ≡ t + 0 = omega arith in e) knows
  walk (x ∷ dins) before t knows come (suc i) le =
      let c = fed_clock x in
      let rest = take i (map fed_clock dins) in
      let e : reverse rest ++ (c ∷ before) ≡ reverse (c ∷ rest) ++ before = sym (ap (λ (l : List Clock). l ++ before) (reverse-append (c ∷ []) rest) ∙ append_assoc (reverse rest) (c ∷ []) before) in
      let here : Come x t = subst (Come x) (let f : t + 0 ≡ t = omega arith in f) (come 0 (omega arith)) in
      let later : (q : ℕ) → q < length dins → Come (slice_index_or dins q []) (suc t + q) =
      λ q lt. subst (Come (slice_index_or dins q [])) (let f : t + suc q ≡ suc t + q = omega arith in f) (come (suc q) (omega (arith, lt))) in
      subst (λ (l : List Clock). Knows m p rounds l (t + suc i)) e
      (subst (Knows m p rounds (reverse rest ++ (c ∷ before))) (let f : suc t + i ≡ t + suc i = omega arith in f) (walk dins (c ∷ before) (suc t) (next before t x knows here) later i (omega (arith, le))))

  -- what is known before the clock with the i-th numbers
  before_clock : (c : Clock) → c.reset ≡ true → (dins : List (List ℕ)) → ((q : ℕ) → q < length dins → Come (slice_index_or dins q []) q) → (i : ℕ) → i ≤ length dins → Knows m p rounds (reverse (take (suc i) (c ∷ map fed_clock dins))) i
  before_clock c resets dins come i le =
      let e : reverse (take i (map fed_clock dins)) ++ (c ∷ []) ≡ reverse (c ∷ take i (map fed_clock dins)) = sym (reverse-append (c ∷ []) (take i (map fed_clock dins))) in
      let all : (q : ℕ) → q < length dins → Come (slice_index_or dins q []) (0 + q) = λ q lt. subst (Come (slice_index_or dins q [])) (let f : q ≡ 0 + q = omega arith in f) (come q lt) in
      subst (λ (l : List Clock). Knows m p rounds l i) e (subst (Knows m p rounds (reverse (take i (map fed_clock dins)) ++ (c ∷ []))) (let f : 0 + i ≡ i = omega arith in f) (walk dins (c ∷ []) 0 (first c resets) all i le))

-- numbers that agree with the rounds are the pixels' bits
module _ (p : Program) (is : IsProgram p) (rounds : Rounds) (are : AreRounds p rounds) where
  round_at : (q : ℕ) → q < pixel_count p rounds → IsRound p (slice_index_or rounds (frame_of p.size q) [])
  round_at q low =
      let some : 0 < area p.size = some_area p.size is.frame.some_columns is.frame.some_rows in
      let lt : frame_of p.size q < length rounds = div_below q (area p.size) (length rounds) some low in
      All-at (IsRound p) rounds (frame_of p.size q) (slice_index_or rounds (frame_of p.size q) []) are (slice_get-get_or rounds (frame_of p.size q) [] lt)

  pixel_in : (g q : ℕ) (t : Ty) → q < pixel_count p rounds → slice_get (types_of p) g ≡ Some t → IsIn t (pixel p rounds g q)
  pixel_in g q t low at = (values_in p is (slice_index_or rounds (frame_of p.size q) []) (round_at q low) g t at).values (pos (column p.size q)) (pos (row p.size q))

  -- of an image of a port's type
  pub port_pixel : (g q : ℕ) (t : Ty) → q < pixel_count p rounds → slice_get (types_of p) g ≡ Some t → IsPort t → pos (pixel_bits p rounds g q) ≡ pixel p rounds g q
  port_pixel g q t low at port =
      let typed : type_at p g ≡ t = entry_or (types_of p) g t (Unsigned 1) at in
      ap (λ (u : Ty). pos (code (width_of u) (pixel p rounds g q))) typed ∙ unsigned_code t (pixel p rounds g q) port (pixel_in g q t low at)

  input_type : (k : ℕ) → k < length p.inputs → (t : Ty) × (slice_get (types_of p) k ≡ Some t) × IsPort t
  input_type k lt = by p.inputs k lt is.inputs (map (λ (d : Definition). d.ty) p.images)
    where
      by : (inputs : List Input) (k : ℕ) → k < length inputs → All (λ (i : Input). IsPort i.ty) inputs → (rest : List Ty) → (t : Ty) × (slice_get (map (λ (i : Input). i.ty) inputs ++ rest) k ≡ Some t) × IsPort t
      by [] k lt ok rest = absurd (let f : ⊥ = omega (arith, lt) in f)
      by (i ∷ inputs) zero lt ok rest = (i.ty, refl, All-head (λ (j : Input). IsPort j.ty) i inputs ok)
      by (i ∷ inputs) (suc k) lt ok rest = by inputs k (omega (arith, lt)) (All-tail (λ (j : Input). IsPort j.ty) i inputs ok) rest

  output_type : (k : ℕ) → k < length p.outputs → IsOutput (types_of p) (output_at p k)
  output_type k lt = All-at (IsOutput (types_of p)) p.outputs k (output_at p k) is.outputs (slice_get-get_or p.outputs k 0 lt)

  comes : (m : Netlist) (dins : List (List ℕ)) → Agree p rounds dins → (q : ℕ) → q < length dins → Come m p rounds (slice_index_or dins q []) q
  comes m dins agree q lt k input low =
      let (t, at, port) = input_type k input in
      same_pos (agree k q input lt low ∙ sym (port_pixel k q t low at port))
    where
      same_pos : {a b : ℕ} → pos a ≡ pos b → a ≡ b
      same_pos e = cc

-- latencies, and the clocks at which valid is 1
later_valid : (late t : ℕ) → nat_le late t ≡ nat_lt late (suc t)
later_valid late t = elim (cases_lt late (suc t)) as (λ _. nat_le late t ≡ nat_lt late (suc t)) [
  | inl less ↦ (let h : nat_le late t ≡ true = grind (arith, less) in h) ∙ sym (let h : nat_lt late (suc t) ≡ true = grind (arith, less) in h)
  | inr most ↦ (let h : nat_le late t ≡ false = grind (arith, most) in h) ∙ sym (let h : nat_lt late (suc t) ≡ false = grind (arith, most) in h)
]

not_at_once : (late : ℕ) → false ≡ nat_lt late 0
not_at_once late = sym (let h : nat_lt late 0 ≡ false = grind arith in h)

bit_is : (b : Bool) (v : ℕ) → v ≡ bit b → (v == 1) ≡ b
bit_is true v e = ap (λ n. n == 1) e
bit_is false v e = ap (λ n. n == 1) e

module _ (m : Netlist) (p : Program) (plan : Plan) (places : Places) (copies : List ℕ) (nets : List Net) (enable : Bool) (is : IsProgram p) (ports : HasPorts m p enable) (whole : IsWhole m m) (runs_on : RunsOn m) (behaves : Behaves m p plan places copies nets) where
  all_fit : (dins : List (List ℕ)) → All (Fit (input_widths p)) dins → All (FitsPorts m) (driven (length p.inputs) dins)
  all_fit dins fit = All-cons (FitsPorts m) (reset_first p) (map fed_clock dins) (given_fits m p enable ports (reset_first p) (zeros_fit p.inputs is.inputs)) (fed_fit m p enable ports dins fit)

  never : (from : Contents) (dins : List (List ℕ)) (shots : List Snapshot) (array index : ℕ) → FitsContents m from → All (Fit (input_widths p)) dins → RunStops m from (driven (length p.inputs) dins) shots array index → ⊥
  never from dins shots array index start fit stops = runs_on.no_stop from (driven (length p.inputs) dins) shots array index start (all_fit dins fit) (reset_first p, refl, refl) stops

  module _ (from to : Contents) (dins : List (List ℕ)) (shots : List Snapshot) (start : FitsContents m from) (fit : All (Fit (input_widths p)) dins) (runs : Runs m from (driven (length p.inputs) dins) shots to) where
    abbrev clocks : List Clock
    clocks = driven (length p.inputs) dins

    clock_of : (c : ℕ) (d : Clock) (s : Snapshot) → slice_get clocks c ≡ Some d → slice_get shots c ≡ Some s → IsClockOf m m from (reverse (take c clocks)) d s
    clock_of c d s at_d at_s = run_clock m m from clocks shots to c d s whole start (all_fit dins fit) runs at_d at_s

    -- the numbers that came in with a later snapshot
    numbers_at : (t : ℕ) (s : Snapshot) → slice_get shots (suc t) ≡ Some s → (x : List ℕ) × (slice_get dins t ≡ Some x) × (slice_get clocks (suc t) ≡ Some (fed_clock x))
    numbers_at t s at =
        let (c, there) = entry_of clocks shots (suc t) s (runs_length m clocks from to shots runs) at in
        let (x, here, same) = mapped_entry fed_clock dins t c there in
        (x, here, there ∙ ap Some (sym same))

    valid : (k c : ℕ) (s : Snapshot) → k < length p.outputs → slice_get shots c ≡ Some s → (net_value s (valid_net k) == 1) ≡ nat_lt (latency_of plan k) c
    valid k zero s lt at =
        let clock = clock_of 0 (reset_first p) s refl at in
        bit_is false (net_value s (valid_net k)) (behaves.valid k lt m from [] (reset_first p) s clock refl) ∙ not_at_once (latency_of plan k)
    valid k (suc t) s lt at =
        let (x, here, there) = numbers_at t s at in
        let within : t ≤ length dins = (let l = slice_get_within dins t x here in omega (arith, l)) in
        let knows = before_clock m p [] (reset_first p) refl dins (λ q lt k input low. absurd (let f : ⊥ = omega (arith, low) in f)) t within in
        let before = reverse (take (suc t) clocks) in
        let late = latency_of plan k in
        let shows : net_value s (valid_net k) ≡ bit (is_valid m late before (fed_clock x)) = behaves.valid k lt m from before (fed_clock x) s (clock_of (suc t) (fed_clock x) s there at) knows.since in
        let going : is_valid m late before (fed_clock x) ≡ nat_le late t = ap (λ (h : Bool). (true && not h) && nat_le late (length (counted m before))) (free_clock m x) ∙ ap (nat_le late) knows.count in
        bit_is (is_valid m late before (fed_clock x)) (net_value s (valid_net k)) shows ∙ going ∙ later_valid late t

    dout : (rounds : Rounds) → AreRounds p rounds → Agree p rounds dins → (k q : ℕ) (s : Snapshot) → k < length p.outputs → slice_get shots (q + latency_of plan k + 1) ≡ Some s → q < pixel_count p rounds → pos (net_value s (dout_net k)) ≡ pixel p rounds (output_at p k) q
    dout rounds are agree k q s lt at low =
        let late = latency_of plan k in
        let t : ℕ = q + late in
        let place : slice_get shots (suc t) ≡ Some s = subst (λ (n : ℕ). slice_get shots n ≡ Some s) (let e : q + late + 1 ≡ suc (q + late) = omega arith in e) at in
        let (x, here, there) = numbers_at t s place in
        let inside = slice_get_within dins t x here in
        let within : t ≤ length dins = omega (arith, inside) in
        let come = comes p is rounds are m dins agree in
        let knows = before_clock m p rounds (reset_first p) refl dins come t within in
        let before = reverse (take (suc t) clocks) in
        let now : Come m p rounds x t = subst (λ (y : List ℕ). Come m p rounds y t) (entry_or dins t x [] here) (come t inside) in
        let more = next m p rounds before t x knows now in
        let running : IsRunning m m from before (fed_clock x) s = record { clock = clock_of (suc t) (fed_clock x) s there place; since = knows.since; off = refl; going = free_clock m x } in
        let g = output_at p k in
        let typed = output_type p is rounds are k lt in
        ap pos (behaves.dout k g (slice_get-get_or p.outputs k 0 lt) m from before (fed_clock x) s running rounds are more.feeds q (sym knows.count) low)
        ∙ port_pixel p is rounds are g q typed.ty low typed.there typed.port

  pub drives : Drives m p plan
  drives = record {
    ports = record { enable_is = refl; inputs = ports.inputs ∙ ap (λ (e : Bool). 1 ∷ (if e then 1 ∷ input_widths p else input_widths p)) (sym ports.enable_is); outputs = ports.outputs };
    never = never;
    valid = valid;
    dout = dout;
  }
