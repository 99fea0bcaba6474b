-- The clocks of a piece, as rows have them.
use Rattle.std.proofs.Common.{◌≡◌, ℕ, zero, suc, ◌+◌, ◌-◌, ◌*◌, ◌<◌, ◌≤◌, ◌⊎◌, inl, inr, Bool, false, List, [], ◌∷◌, ◌++◌, length, take, drop, refl, sym, subst, ap, ◌∙◌, arith, Some, length-append}
use Rattle.std.specs.Prelude.{All, slice_get, slice_index, slice_index_or, ◌==◌}
use Rattle.std.proofs.lemmas.Option.{slice_get_within, same_Some, slice_get-get_or}
use Rattle.std.proofs.lemmas.Slice.{take-put_mid_below, drop-put_mid}
use Rattle.std.proofs.Math.Nat.{suc-mul}
use Rattle.std.proofs.lemmas.List.{length-drop, length-take-le}
use borrow.Rule.Slice.PartMut.{put_mid}
use Rattle.wiring.specs.Netlist.{Netlist}
use Rattle.wiring.specs.Snapshot.{Contents, Snapshot, Fit, net_value}
use Rattle.wiring.specs.Clock.{Clock, given}
use Rattle.wiring.specs.Runs.{Runs}
use Rattle.wiring.proofs.Lists.{All-at, All-from_at}
use Rattle.cycle_sim.specs.declared.ports.Out.{Out}
use Rattle.cycle_sim.specs.Ports.{din_widths, IsShown, AreShown}
use Rattle.lane_rows.specs.Values.{value_at}
use Rattle.batch_code.specs.Rows.{RowsRan}
use Rattle.batch_sim.specs.Called.{din_count, output_count, of_clock, batch_clocks, Came}
use Rattle.batch_sim.specs.Checked.{input_of, AreInputRows}
use Rattle.batch_guess.specs.declared.inputs.Piece.{Piece}
use Rattle.batch_sim.specs.Pieces.{clocks_in}
use Rattle.batch_sim.specs.Shown.{row_out, AreRowOuts}
use Rattle.batch_sim.proofs.Clockwise.{drop_more, same_place, put_here, clock_at, clocks_count, take_whole, half_is}

-- ---- lists

got_in : {X : Type 0} (xs : List X) (k size t : ℕ) (x : X) → slice_get (take size (drop k xs)) t ≡ Some x → (t < size) × (slice_get xs (k + t) ≡ Some x)
got_in xs zero size t x at = let z : 0 + t ≡ t = omega arith in let f = got_front xs size t x at in (f.0, ap (λ n. slice_get xs n) z ∙ f.1)
  where
    got_front : {X : Type 0} (xs : List X) (size t : ℕ) (x : X) → slice_get (take size xs) t ≡ Some x → (t < size) × (slice_get xs t ≡ Some x)
    got_front xs zero t x at = absurd (omega (arith, slice_get_within [] t x at))
    got_front [] (suc size) t x at = absurd (omega (arith, slice_get_within [] t x at))
    got_front (y ∷ xs) (suc size) zero x at = (omega arith, at)
    got_front (y ∷ xs) (suc size) (suc t) x at = let f = got_front xs size t x at in (omega (arith, f.0), f.1)
got_in [] (suc k) zero t x at = absurd (omega (arith, slice_get_within [] t x at))
got_in [] (suc k) (suc size) t x at = absurd (omega (arith, slice_get_within [] t x at))
got_in (y ∷ xs) (suc k) size t x at = let z : suc k + t ≡ suc (k + t) = omega arith in let f = got_in xs k size t x at in (f.0, ap (λ n. slice_get (y ∷ xs) n) z ∙ f.1)

no_take : {X : Type 0} (n : ℕ) → let none : List X = [] in take n none ≡ none
no_take zero = refl
no_take (suc n) = refl

take_both : {X : Type 0} (k size : ℕ) (xs : List X) → take (k + size) xs ≡ take k xs ++ take size (drop k xs)
take_both zero size xs = let z : 0 + size ≡ size = omega arith in ap (λ n. take n xs) z
take_both (suc k) size [] = no_take (suc k + size) ∙ sym (no_take size)
take_both (suc k) size (x ∷ xs) = let z : suc k + size ≡ suc (k + size) = omega arith in ap (λ n. take n (x ∷ xs)) z ∙ ap (λ l. x ∷ l) (take_both k size xs)

got_either : {X : Type 0} (xs ys : List X) (j : ℕ) (x : X) → slice_get (xs ++ ys) j ≡ Some x → ((j < length xs) × (slice_get xs j ≡ Some x)) ⊎ ((i : ℕ) × (j ≡ length xs + i) × (slice_get ys i ≡ Some x))
got_either [] ys j x at = inr (j, (let z : j ≡ 0 + j = omega arith in z), at)
got_either (z ∷ xs) ys zero x at = inl (omega arith, at)
got_either (z ∷ xs) ys (suc j) x at = later (got_either xs ys j x at)
  where
    later : ((j < length xs) × (slice_get xs j ≡ Some x)) ⊎ ((i : ℕ) × (j ≡ length xs + i) × (slice_get ys i ≡ Some x)) → ((suc j < length (z ∷ xs)) × (slice_get (z ∷ xs) (suc j) ≡ Some x)) ⊎ ((i : ℕ) × (suc j ≡ length (z ∷ xs) + i) × (slice_get ys i ≡ Some x))
    later (inl h) = inl (omega (arith, h.0), h.1)
    later (inr h) = inr (h.0, (let e : suc j ≡ suc (length xs) + h.0 = omega (arith, h.1) in e), h.2)

-- ---- what the inputs are given

module _ (m : Netlist) (enables : List Bool) (dins : List ℕ) (first size : ℕ) where
  abbrev pub piece : List Clock
  piece = take size (drop first (batch_clocks m enables dins))

  clock_is : (t : ℕ) (c : Clock) → slice_get piece t ≡ Some c → (t < size) × (c ≡ record { reset = false; enable = slice_index_or enables (first + t) false; dins = of_clock (din_count m) (first + t) dins })
  clock_is t c at =
      let f = got_in (batch_clocks m enables dins) first size t c at in
      let within : first + t < length enables = omega (arith, slice_get_within (batch_clocks m enables dins) (first + t) c f.1, clocks_count (din_count m) enables dins) in
      (f.0, same_Some c (record { reset = false; enable = slice_index_or enables (first + t) false; dins = of_clock (din_count m) (first + t) dins }) (sym f.1 ∙ clock_at (din_count m) enables dins (first + t) (slice_index_or enables (first + t) false) (slice_get-get_or enables (first + t) false within)))

  pub piece_fits : All (λ (c : Clock). Fit (din_widths m) c.dins) (batch_clocks m enables dins) → All (λ (c : Clock). Fit (din_widths m) c.dins) piece
  piece_fits all = All-from_at (λ (c : Clock). Fit (din_widths m) c.dins) piece (λ t c at. All-at (λ (k : Clock). Fit (din_widths m) k.dins) (batch_clocks m enables dins) (first + t) c all (got_in (batch_clocks m enables dins) first size t c at).1)

  pub piece_long : first + size ≤ length enables → length piece ≡ size
  piece_long l = long_in (batch_clocks m enables dins) first size (omega (arith, l, clocks_count (din_count m) enables dins))
    where
      long_in : {X : Type 0} (xs : List X) (k n : ℕ) → k + n ≤ length xs → length (take n (drop k xs)) ≡ n
      long_in xs zero zero h = refl
      long_in [] zero (suc n) h = absurd (omega (arith, h))
      long_in (x ∷ xs) zero (suc n) h = ap suc (long_in xs 0 n (omega (arith, h)))
      long_in [] (suc k) n h = absurd (omega (arith, h))
      long_in (x ∷ xs) (suc k) n h = long_in xs k n (omega (arith, h))

-- the rows of the inputs are what the clocks of a piece are given
pub piece_given : (m : Netlist) (p : Piece) (has_enable : Bool) (ports inputs : ℕ) → has_enable ≡ m.enable → ports ≡ din_count m → inputs ≡ length m.inputs → (rows : List (List ℕ)) → AreInputRows has_enable ports p inputs rows →
    (t i : ℕ) (c : Clock) → slice_get (clocks_in m p) t ≡ Some c → i < length m.inputs → value_at rows t i ≡ slice_index (given m c) i
piece_given m p has_enable ports inputs e same n rows are t i c at l =
    let f = clock_is m p.inputs.enables.now p.inputs.dins.now p.first p.count t c at in
    are i (omega (arith, l, n)) t f.0
    ∙ ap (λ (b : Bool). input_of b ports p.inputs.enables.now p.inputs.dins.now (p.first + t) i) e
    ∙ ap (λ (k : ℕ). input_of m.enable k p.inputs.enables.now p.inputs.dins.now (p.first + t) i) same
    ∙ ap (λ (k : Clock). slice_index (given m k) i) (sym f.1)

-- ---- a piece after what came

module _ (m : Netlist) where
  runs_on : (cs ds : List Clock) (from mid to : Contents) (shots more : List Snapshot) → Runs m from cs shots mid → Runs m mid ds more to → Runs m from (cs ++ ds) (shots ++ more) to
  runs_on [] ds from mid to [] more h g = subst (λ (x : Contents). Runs m x ds more to) (sym h) g
  runs_on [] ds from mid to (t ∷ shots) more h g = absurd h
  runs_on (c ∷ cs) ds from mid to [] more h g = absurd h
  runs_on (c ∷ cs) ds from mid to (t ∷ shots) more h g = (h.0, h.1, runs_on cs ds h.0 mid to shots more h.2 g)

-- outputs that are what their slots show are what the snapshot shows
row_shown : (m : Netlist) (rows : List (List ℕ)) (s : Snapshot) (t first count : ℕ) (outs : List Out) → first ≡ length m.inputs → length m.outputs ≡ 2 * count → length s.outputs ≡ length m.outputs →
    ((i : ℕ) → i < length m.outputs → net_value s (Rattle.wiring.specs.declared.netlist.Net.TheVariants.Output i) ≡ value_at rows t (length m.inputs + i)) → AreRowOuts rows first t count outs → AreShown s outs
row_shown m rows s t first count outs e double long nets are = record {
  count = long ∙ double ∙ ap (λ n. 2 * n) (sym are.long);
  each = each_at;
}
  where
    each_at : (k : ℕ) (out : Out) → slice_get outs k ≡ Some out → IsShown s k out
    each_at k out at =
        let within : k < count = omega (arith, slice_get_within outs k out at, are.long) in
        let is : out ≡ row_out rows first k t = same_Some out (row_out rows first k t) (sym at ∙ are.each k within) in
        let valid = nets (2 * k) (omega (arith, within, double)) in
        let dout = nets (2 * k + 1) (omega (arith, within, double)) in
        subst (λ (o : Out). IsShown s k o) (sym is) (record {
          valid = ap (λ (v : ℕ). v == 1) (ap (λ n. value_at rows t (n + 2 * k)) e ∙ sym valid);
          dout = ap (λ n. value_at rows t (n + 2 * k + 1)) e ∙ ap (λ n. value_at rows t n) (let z : length m.inputs + 2 * k + 1 ≡ length m.inputs + (2 * k + 1) = omega arith in z) ∙ sym dout;
        })

module _ (m : Netlist) (clocks : List Clock) (from mid to : Contents) (old outs part : List Out) (k size count first : ℕ) (rows : List (List ℕ)) (e : first ≡ length m.inputs) (double : length m.outputs ≡ 2 * count) (is : count ≡ output_count m)
    (ran : RowsRan m (take size (drop k clocks)) mid to rows) (long : length (take size (drop k clocks)) ≡ size) (room : k * count + size * count ≤ length outs) (here : length part ≡ size * count)
    (shown : (t : ℕ) → t < size → AreRowOuts rows first t count (of_clock count t part)) (came : Came m clocks from mid old outs k) where
  abbrev new : List Out
  new = put_mid (k * count) (size * count) outs part

  mul_more : (a b n : ℕ) → (a + b) * n ≡ a * n + b * n
  mul_more zero b n = let z : 0 + b ≡ b = omega arith in let w : b * n ≡ 0 * n + b * n = omega arith in ap (λ x. x * n) z ∙ w
  mul_more (suc a) b n =
      let z : suc a + b ≡ suc (a + b) = omega arith in
      let f : suc (a + b) * n ≡ (a + b) * n + n = suc-mul (a + b) n in
      let g : suc a * n ≡ a * n + n = suc-mul a n in
      let h : (a + b) * n ≡ a * n + b * n = mul_more a b n in
      ap (λ x. x * n) z ∙ (let w : suc (a + b) * n ≡ suc a * n + b * n = omega (arith, f, g, h) in w)

  placed : (i : ℕ) → i < size → of_clock count (k + i) new ≡ of_clock count i part
  placed i l =
      ap (λ n. take count (drop n new)) (mul_more k i count)
      ∙ ap (λ l. take count l) (drop_more (k * count) (i * count) new)
      ∙ same_place count i size (drop (k * count) new) part l (put_here (k * count) (size * count) outs part room here ∙ sym (take_whole part (size * count) (omega (arith, here))))

  new_at : (j : ℕ) (s : Snapshot) → ((j < length came.shots) × (slice_get came.shots j ≡ Some s)) ⊎ ((i : ℕ) × (j ≡ length came.shots + i) × (slice_get ran.shots i ≡ Some s)) → AreShown s (of_clock (output_count m) j new)
  new_at j s (inl h) =
      subst (λ (n : ℕ). AreShown s (of_clock n j new)) is
      (subst (AreShown s) (sym (same_place count j k new outs (let l : j < k = omega (arith, h.0, came.count) in l) (take-put_mid_below (k * count) (size * count) outs part (k * count) (omega arith) (omega (arith, room)))))
      (subst (λ (n : ℕ). AreShown s (of_clock n j outs)) (sym is) (came.shown j s h.1)))
  new_at j s (inr h) =
      let within : h.0 < size = omega (arith, slice_get_within ran.shots h.0 s h.2, ran.count, long) in
      let place : j ≡ k + h.0 = omega (arith, h.1, came.count) in
      subst (λ (n : ℕ). AreShown s (of_clock n j new)) is
      (subst (λ (n : ℕ). AreShown s (of_clock count n new)) (sym place)
      (subst (AreShown s) (sym (placed h.0 within))
      (row_shown m rows s h.0 first count (of_clock count h.0 part) e double (ran.outputs h.0 s h.2) (λ i l. ran.nets h.0 s (Rattle.wiring.specs.declared.netlist.Net.TheVariants.Output i) h.2 l) (shown h.0 within))))

  pub came_piece : Came m clocks from to old new (k + size)
  came_piece = record {
    shots = came.shots ++ ran.shots;
    count = (let e : length (came.shots ++ ran.shots) ≡ k + size = omega (arith, length-append came.shots ran.shots, came.count, ran.count, long) in e);
    run = subst (λ (cs : List Clock). Runs m from cs (came.shots ++ ran.shots) to) (sym (take_both k size clocks)) (runs_on m (take k clocks) (take size (drop k clocks)) from mid to came.shots ran.shots came.run ran.run);
    shown = λ j s at. new_at j s (got_either came.shots ran.shots j s at);
    later = back;
  }
    where
      past : (xs : List Out) → drop ((k + size) * output_count m) xs ≡ drop (size * count) (drop (k * output_count m) xs)
      past xs = ap (λ n. drop ((k + size) * n) xs) (sym is) ∙ ap (λ n. drop n xs) (mul_more k size count) ∙ drop_more (k * count) (size * count) xs ∙ ap (λ n. drop (size * count) (drop (k * n) xs)) is

      back : drop ((k + size) * output_count m) new ≡ drop ((k + size) * output_count m) old
      back =
          ap (λ n. drop ((k + size) * n) new) (sym is)
          ∙ drop-put_mid (k * count) (size * count) outs part ((k + size) * count) (let f : (k + size) * count ≡ k * count + size * count = mul_more k size count in omega (arith, f)) (omega (arith, room)) here
          ∙ ap (λ n. drop ((k + size) * n) outs) is
          ∙ past outs ∙ ap (λ l. drop (size * count) l) came.later ∙ sym (past old)

mul_over : (a b n : ℕ) → (a + b) * n ≡ a * n + b * n
mul_over zero b n = let z : 0 + b ≡ b = omega arith in let w : b * n ≡ 0 * n + b * n = omega arith in ap (λ x. x * n) z ∙ w
mul_over (suc a) b n =
    let z : suc a + b ≡ suc (a + b) = omega arith in
    let f : suc (a + b) * n ≡ (a + b) * n + n = suc-mul (a + b) n in
    let g : suc a * n ≡ a * n + n = suc-mul a n in
    let h : (a + b) * n ≡ a * n + b * n = mul_over a b n in
    ap (λ x. x * n) z ∙ (let w : suc (a + b) * n ≡ suc a * n + b * n = omega (arith, f, g, h) in w)

mul_le : (a n : ℕ) (k : ℕ) → a ≤ n → a * k ≤ n * k
mul_le a n k l =
    let e : a + (n - a) ≡ n = omega (arith, l) in
    let f : (a + (n - a)) * k ≡ a * k + (n - a) * k = mul_over a (n - a) k in
    let g : (a + (n - a)) * k ≡ n * k = ap (λ x. x * k) e in
    omega (arith, f, g)

-- what code put in the places of a piece
pub piece_shown : (m : Netlist) (clocks : List Clock) (from mid to : Contents) (old outs part : List Out) (k size count n first : ℕ) (rows : List (List ℕ)) → first ≡ length m.inputs → length m.outputs ≡ 2 * count →
    RowsRan m (take size (drop k clocks)) mid to rows → length (take size (drop k clocks)) ≡ size → k + size ≤ n → length outs ≡ n * output_count m → length part ≡ length (take ((k + size) * count - k * count) (drop (k * count) outs)) →
    ((t : ℕ) → t < size → AreRowOuts rows first t count (of_clock count t part)) → Came m clocks from mid old outs k → Came m clocks from to old (put_mid (k * count) ((k + size) * count - k * count) outs part) (k + size)
piece_shown m clocks from mid to old outs part k size count n first rows e double ran long within total here shown came =
    let is : count ≡ output_count m = half_is (length m.outputs) count double in
    let over : (k + size) * count ≡ k * count + size * count = mul_over k size count in
    let most : (k + size) * count ≤ n * count = mul_le (k + size) n count within in
    let all : length outs ≡ n * count = total ∙ ap (λ h. n * h) (sym is) in
    let room : k * count + size * count ≤ length outs = omega (arith, over, most, all) in
    let size_is : (k + size) * count - k * count ≡ size * count = omega (arith, over) in
    let behind : length (drop (k * count) outs) ≡ length outs - k * count = length-drop (k * count) outs in
    let here' : length part ≡ size * count = here ∙ length-take-le ((k + size) * count - k * count) (drop (k * count) outs) (omega (arith, size_is, behind, room)) ∙ size_is in
    subst (λ (j : ℕ). Came m clocks from to old (put_mid (k * count) j outs part) (k + size)) (sym size_is)
    (came_piece m clocks from mid to old outs part k size count first rows e double is ran long room here' shown came)
