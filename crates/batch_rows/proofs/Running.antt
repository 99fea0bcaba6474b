-- Instructions over rows, one after another.
use Rattle.std.proofs.Common.{◌≡◌, ◌≢◌, ℕ, ◌+◌, ◌^◌, ◌<◌, ◌≤◌, ◌⊎◌, inl, inr, List, [], ◌++◌, length, map, Some, ap, sym, subst, refl, ◌∙◌, arith, lit<}
use Rattle.std.specs.Prelude.{Contains, slice_get, slice_index, slice_index_or}
use Rattle.std.proofs.lemmas.List.Elements.{All-contains, Contains-append_left, Contains-append_right}
use Rattle.std.proofs.lemmas.Option.{same_Some}
use Rattle.std.proofs.lemmas.Bool.{cases_order, cases_lt}
use Rattle.std.proofs.Math.Pow.{pow_mono}
use Rattle.wiring.specs.declared.right.Atom.{Atom}
use Rattle.wiring.specs.declared.right.Atom.TheVariants as atom
use Rattle.wiring.specs.declared.right.Right.{Right}
use Rattle.wiring.specs.declared.right.Right.TheVariants.{Copy, Not, Binary, Choose, Join, Repeat, Bit, Slice, Word}
use Rattle.wiring.specs.Rights.{atom_nets, nets_of, atom_constants, constants_of, atom_width, right_value}
use Rattle.wiring.specs.Sizes.{SizedNumber, IsConstant}
use Rattle.wiring.proofs.Fits.{right_lt}
use Rattle.wiring.proofs.Local.{right_local}
use Rattle.batch_rows.specs.declared.code.Instruction.{Instruction}
use Rattle.lane_rows.specs.Values.{value_at, InLanes, row_bits}
use Rattle.batch_rows.specs.Rights.{HasRow, IsOperand, AreOperands}
use Rattle.batch_rows.specs.LaneSizes.{IsSized}
use Rattle.lane_rows.specs.declared.row.Row.{Row}
use Rattle.batch_rows.specs.Code.{AreRows, IsSound, IsOrdered, HoldsAt, AllHold}

below : (x w bits : ℕ) → x < 2 ^ w → w ≤ bits → x < 2 ^ bits
below x w bits l narrow =
    let most : 2 ^ w ≤ 2 ^ bits = pow_mono narrow in
    omega (arith, l, most)

module _ (widths : List ℕ) (count : ℕ) (rows : List (List ℕ)) (are : AreRows widths count rows) where
  slot_row : (n : ℕ) → n < length widths → HasRow rows count (atom.Net n)
  slot_row n l =
      let inside : n < length rows = omega (arith, l, are.slots) in
      (inside, (let long : length (slice_index_or rows n []) ≡ count = are.long n inside in omega (arith, long)))

  -- an instruction's slots and constants have no more bits than a lane
  module _ (bits : ℕ) where
    abbrev IsNarrow : ℕ → Type 0
    IsNarrow n = (n < length widths) × (slice_index widths n ≤ bits)

    abbrev IsSmall : SizedNumber → Type 0
    IsSmall c = (c.value < 2 ^ c.width) × (c.width ≤ bits)

    slot_operand : (n : ℕ) → IsNarrow n → IsOperand bits rows count (atom.Net n)
    slot_operand n h = (slot_row n h.0, λ t l. below (value_at rows t n) (slice_index widths n) bits (are.fit n t (let inside : n < length rows = omega (arith, h.0, are.slots) in inside) l) h.1)

    atom_operand : (a : Atom ℕ) → ((n : ℕ) → Contains (atom_nets a) n → IsNarrow n) → ((c : SizedNumber) → Contains (atom_constants a) c → IsSmall c) → IsOperand bits rows count a
    atom_operand (atom.Net n) h k = slot_operand n (h n (0, lit< tt, refl))
    atom_operand (atom.Constant c) h k = let s = k c (0, lit< tt, refl) in below c.value c.width bits s.0 s.1

    atom_narrow : (a : Atom ℕ) → ((n : ℕ) → Contains (atom_nets a) n → IsNarrow n) → ((c : SizedNumber) → Contains (atom_constants a) c → IsSmall c) → atom_width (λ n. slice_index widths n) a ≤ bits
    atom_narrow (atom.Net n) h k = (h n (0, lit< tt, refl)).1
    atom_narrow (atom.Constant c) h k = (k c (0, lit< tt, refl)).1

    operands_of : (r : Right ℕ ℕ) → ((n : ℕ) → Contains (nets_of r) n → IsNarrow n) → ((c : SizedNumber) → Contains (constants_of r) c → IsSmall c) → AreOperands bits widths rows count r
    operands_of (Copy a) h k = atom_operand a h k
    operands_of (Not a) h k = (atom_operand a h k, atom_narrow a h k)
    operands_of (Binary o a b) h k =
        let ha : (n : ℕ) → Contains (atom_nets a) n → IsNarrow n = λ n c. h n (Contains-append_left (atom_nets a) (atom_nets b) n c) in
        let ka : (x : SizedNumber) → Contains (atom_constants a) x → IsSmall x = λ x c. k x (Contains-append_left (atom_constants a) (atom_constants b) x c) in (
          atom_operand a ha ka,
          atom_operand b (λ n c. h n (Contains-append_right (atom_nets a) (atom_nets b) n c)) (λ x c. k x (Contains-append_right (atom_constants a) (atom_constants b) x c)),
          atom_narrow a ha ka,
        )
    operands_of (Choose c a b) h k = (
      atom_operand c (λ n d. h n (Contains-append_left (atom_nets c ++ atom_nets a) (atom_nets b) n (Contains-append_left (atom_nets c) (atom_nets a) n d)))
          (λ x d. k x (Contains-append_left (atom_constants c ++ atom_constants a) (atom_constants b) x (Contains-append_left (atom_constants c) (atom_constants a) x d))),
      atom_operand a (λ n d. h n (Contains-append_left (atom_nets c ++ atom_nets a) (atom_nets b) n (Contains-append_right (atom_nets c) (atom_nets a) n d)))
          (λ x d. k x (Contains-append_left (atom_constants c ++ atom_constants a) (atom_constants b) x (Contains-append_right (atom_constants c) (atom_constants a) x d))),
      atom_operand b (λ n d. h n (Contains-append_right (atom_nets c ++ atom_nets a) (atom_nets b) n d))
          (λ x d. k x (Contains-append_right (atom_constants c ++ atom_constants a) (atom_constants b) x d)),
    )
    operands_of (Join a b) h k =
        let hb : (n : ℕ) → Contains (atom_nets b) n → IsNarrow n = λ n c. h n (Contains-append_right (atom_nets a) (atom_nets b) n c) in
        let kb : (x : SizedNumber) → Contains (atom_constants b) x → IsSmall x = λ x c. k x (Contains-append_right (atom_constants a) (atom_constants b) x c) in (
          atom_operand a (λ n c. h n (Contains-append_left (atom_nets a) (atom_nets b) n c)) (λ x c. k x (Contains-append_left (atom_constants a) (atom_constants b) x c)),
          atom_operand b hb kb,
          atom_narrow b hb kb,
        )
    operands_of (Repeat m a) h k = atom_operand a h k
    operands_of (Bit v m) h k = (slot_operand v (h v (0, lit< tt, refl)), (h v (0, lit< tt, refl)).1)
    operands_of (Slice v m l) h k = (slot_operand v (h v (0, lit< tt, refl)), (h v (0, lit< tt, refl)).1)
    operands_of (Word m i) h k = atom_operand i h k

    pub have_operands : (i : Instruction) → IsSound widths i → IsSized widths bits i → AreOperands bits widths rows count i.right
    have_operands i sound sized = operands_of i.right
        (λ n c. (sound.slots n c, sized.slots n c))
        (λ x c. ((All-contains IsConstant (constants_of i.right) x sound.constants c).fits, All-contains (λ (y : SizedNumber). y.width ≤ bits) (constants_of i.right) x sized.constants c))

  -- what an instruction takes fits its slot
  pub value_fits : (i : Instruction) → IsSound widths i → (t : ℕ) → t < count → right_value (λ n. slice_index widths n) (λ _ _. 0) (value_at rows t) i.right < 2 ^ slice_index widths i.target
  value_fits i sound t l =
      subst (λ (w : ℕ). right_value (λ n. slice_index widths n) (λ _ _. 0) (value_at rows t) i.right < 2 ^ w) sound.width
      (right_lt (λ n. slice_index widths n) (λ _. 0) (λ _ _. 0) (value_at rows t) (λ m k. lit< tt) i.right (λ n c. are.fit n t (let inside : n < length rows = omega (arith, sound.slots n c, are.slots) in inside) l) sound.constants sound.agree)

  -- and a lane of no fewer bits
  pub value_narrow : (bits : ℕ) (i : Instruction) → IsSound widths i → slice_index widths i.target ≤ bits → (t : ℕ) → t < count → right_value (λ n. slice_index widths n) (λ _ _. 0) (value_at rows t) i.right < 2 ^ bits
  value_narrow bits i sound narrow t l = below (right_value (λ n. slice_index widths n) (λ _ _. 0) (value_at rows t) i.right) (slice_index widths i.target) bits (value_fits i sound t l) narrow

  module _ (new : List (List ℕ)) (i : Instruction) (sound : IsSound widths i) (size : length new ≡ length rows) (row : List ℕ) (long : length row ≡ count)
      (here : slice_index_or new i.target [] ≡ row) (others : (n : ℕ) → n ≢ i.target → slice_index_or new n [] ≡ slice_index_or rows n [])
      (is : (t : ℕ) → t < length row → slice_index row t ≡ right_value (λ n. slice_index widths n) (λ _ _. 0) (value_at rows t) i.right) where
    pub value_here : (t : ℕ) → t < count → value_at new t i.target ≡ right_value (λ n. slice_index widths n) (λ _ _. 0) (value_at rows t) i.right
    value_here t l = ap (λ (r : List ℕ). slice_index r t) here ∙ is t (omega (arith, l, long))

    pub value_other : (t n : ℕ) → n ≢ i.target → value_at new t n ≡ value_at rows t n
    value_other t n apart = ap (λ (r : List ℕ). slice_index r t) (others n apart)

    -- the rows after it are rows
    pub rows_on : AreRows widths count new
    rows_on = record {
      slots = size ∙ are.slots;
      long = λ n l. long_at n l (cases_order n i.target);
      fit = λ n t l m. fit_at n t l m (cases_order n i.target);
    }
      where
        apart_of : (n : ℕ) → (n < i.target) ⊎ (i.target < n) → n ≢ i.target
        apart_of n (inl l) e = omega (arith, l, e)
        apart_of n (inr l) e = omega (arith, l, e)

        long_at : (n : ℕ) → n < length new → (n ≡ i.target) ⊎ ((n < i.target) ⊎ (i.target < n)) → length (slice_index_or new n []) ≡ count
        long_at n l (inl e) = ap (λ k. length (slice_index_or new k [])) e ∙ ap (λ (r : List ℕ). length r) here ∙ long
        long_at n l (inr d) = ap (λ (r : List ℕ). length r) (others n (apart_of n d)) ∙ are.long n (omega (arith, l, size))

        fit_at : (n t : ℕ) → n < length new → t < count → (n ≡ i.target) ⊎ ((n < i.target) ⊎ (i.target < n)) → value_at new t n < 2 ^ slice_index widths n
        fit_at n t l m (inl e) = subst (λ (k : ℕ). value_at new t k < 2 ^ slice_index widths k) (sym e) (subst (λ (x : ℕ). x < 2 ^ slice_index widths i.target) (sym (value_here t m)) (value_fits i sound t m))
        fit_at n t l m (inr d) = subst (λ (x : ℕ). x < 2 ^ slice_index widths n) (sym (value_other t n (apart_of n d))) (are.fit n t (omega (arith, l, size)) m)

    -- what held before goes on to hold, and its own equation with it
    pub hold_on : (code : List Instruction) (k : ℕ) → IsOrdered code → slice_get code k ≡ Some i → AllHold widths count rows k code → AllHold widths count new (k + 1) code
    hold_on code k ordered at holds p t j less l there = each (cases_lt p k)
      where
        reads_none : p ≤ k → (n : ℕ) → Contains (nets_of j.right) n → n ≢ i.target
        reads_none le n c e = ordered.reads p k j i le there at (subst (λ (x : ℕ). Contains (nets_of j.right) x) e c)

        each : (p < k) ⊎ (k ≤ p) → HoldsAt widths new t j
        each (inl before) =
            value_other t j.target (λ e. ordered.writes p k j i before there at e)
            ∙ holds p t j before l there
            ∙ sym (right_local (value_at new t) (value_at rows t) (λ n. slice_index widths n) (λ _ _. 0) j.right (λ n c. value_other t n (reads_none (omega (arith, before)) n c)))
        each (inr after) =
            let same : p ≡ k = omega (arith, after, less) in
            let it : i ≡ j = same_Some i j (sym at ∙ ap (λ n. slice_get code n) (sym same) ∙ there) in
            subst (λ (x : Instruction). value_at new t x.target ≡ right_value (λ n. slice_index widths n) (λ _ _. 0) (value_at rows t) x.right) it (value_here t l)
            ∙ sym (right_local (value_at new t) (value_at rows t) (λ n. slice_index widths n) (λ _ _. 0) j.right (λ n c. value_other t n (reads_none (omega (arith, same)) n c)))

-- rows that stay in their lanes
pub lanes_on : (widths : List ℕ) (old new : List Row) → length new ≡ length old → map row_bits new ≡ map row_bits old → InLanes widths old → InLanes widths new
lanes_on widths old new size same lanes n l = subst (λ (bits : List ℕ). slice_index widths n ≤ slice_index bits n) (sym same) (lanes n (omega (arith, l, size)))
