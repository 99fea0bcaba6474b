-- A table with another row in a slot that is free.
use Rattle.std.proofs.Common.{◌≡◌, ◌≢◌, ℕ, ◌^◌, ◌<◌, ◌≤◌, ◌⊎◌, inl, inr, List, [], ◌++◌, length, map, take, drop, Vec, ap, sym, subst, ◌∙◌, arith}
use Rattle.std.specs.Prelude.{Contains, slice_index, slice_index_or}
use Rattle.std.proofs.lemmas.Option.{slice_get_within}
use Rattle.std.proofs.lemmas.List.{length-map}
use Rattle.std.proofs.Math.Seq.{take-append_seam}
use Rattle.std.specs.declared.alloc.Global.{Global}
use Rattle.std.proofs.Math.Pow.{pow_mono}
use Rattle.batch_rows.specs.declared.code.Rooms.{Rooms}
use Rattle.lane_rows.specs.declared.row.Row.{Row}
use Rattle.std.proofs.lemmas.Bool.{cases_order}
use Rattle.wiring.specs.Rights.{nets_of}
use Rattle.wiring.proofs.Local.{right_local}
use Rattle.batch_rows.specs.declared.code.Instruction.{Instruction}
use Rattle.lane_rows.specs.Values.{value_at, row_bits, row_values, values_of, InLanes}
use Rattle.batch_rows.specs.LaneSizes.{HaveRooms}
use Rattle.batch_rows.proofs.Running.{lanes_on}
use Rattle.batch_rows.specs.Code.{AreRows, AllHold, HaveRun}
use Rattle.batch_guess.specs.declared.table.Table.{Table}
use Rattle.batch_rows.specs.Uses.{AreFirstUses}
use Rattle.batch_guess.specs.Table.{HaveSpares, IsTable, IsRefilled}

module _ (widths : List ℕ) (code : List Instruction) (uses : List ℕ) (first : AreFirstUses code uses) (long done slot : ℕ) (free : done ≤ slice_index uses slot)
    (old new : List (List ℕ)) (size : length new ≡ length old) (inside : slot < length old)
    (long' : length (slice_index_or new slot []) ≡ long)
    (fit : (t : ℕ) → t < long → slice_index (slice_index_or new slot []) t < 2 ^ slice_index widths slot)
    (others : (n : ℕ) → n ≢ slot → slice_index_or new n [] ≡ slice_index_or old n [])
    (rows : AreRows widths long old) (hold : AllHold widths long old done code) where
  value_other : (t n : ℕ) → n ≢ slot → value_at new t n ≡ value_at old t n
  value_other t n apart = ap (λ (r : List ℕ). slice_index r t) (others n apart)

  pub rows_free : AreRows widths long new
  rows_free = record {
    slots = size ∙ rows.slots;
    long = λ n l. long_at n l (cases_order n slot);
    fit = λ n t l m. fit_at n t l m (cases_order n slot);
  }
    where
      apart_of : (n : ℕ) → (n < slot) ⊎ (slot < n) → n ≢ slot
      apart_of n (inl l) e = omega (arith, l, e)
      apart_of n (inr l) e = omega (arith, l, e)

      long_at : (n : ℕ) → n < length new → (n ≡ slot) ⊎ ((n < slot) ⊎ (slot < n)) → length (slice_index_or new n []) ≡ long
      long_at n l (inl e) = ap (λ k. length (slice_index_or new k [])) e ∙ long'
      long_at n l (inr d) = ap (λ (r : List ℕ). length r) (others n (apart_of n d)) ∙ rows.long n (omega (arith, l, size))

      fit_at : (n t : ℕ) → n < length new → t < long → (n ≡ slot) ⊎ ((n < slot) ⊎ (slot < n)) → value_at new t n < 2 ^ slice_index widths n
      fit_at n t l m (inl e) = subst (λ (k : ℕ). value_at new t k < 2 ^ slice_index widths k) (sym e) (fit t m)
      fit_at n t l m (inr d) = subst (λ (x : ℕ). x < 2 ^ slice_index widths n) (sym (value_other t n (apart_of n d))) (rows.fit n t (omega (arith, l, size)) m)

  pub hold_free : AllHold widths long new done code
  hold_free p t j less l there =
      let within : p < length code = slice_get_within code p j there in
      let target : j.target ≢ slot = λ e. let h : slice_index uses j.target ≤ p = first.writes p j within there in let g : slice_index uses slot ≤ p = subst (λ (k : ℕ). slice_index uses k ≤ p) e h in omega (arith, g, free, less) in
      let reads : (n : ℕ) → Contains (nets_of j.right) n → n ≢ slot = λ n c e. let h : slice_index uses n ≤ p = first.reads p n j within there c in let g : slice_index uses slot ≤ p = subst (λ (k : ℕ). slice_index uses k ≤ p) e h in omega (arith, g, free, less) in
      value_other t j.target target
      ∙ hold p t j less l there
      ∙ sym (right_local (value_at new t) (value_at old t) (λ n. slice_index widths n) (λ _ _. 0) j.right (λ n c. value_other t n (reads n c)))

-- what holds of the first n holds of fewer
pub hold_fewer : (widths : List ℕ) (code : List Instruction) (long : ℕ) (t : Table) (done fewer : ℕ) → fewer ≤ done → IsTable widths code long t done → IsTable widths code long t fewer
hold_fewer widths code long t done fewer le h = record {
  ran = record {
    rows = h.ran.rows;
    lanes = h.ran.lanes;
    hold = λ p k i less l at. h.ran.hold p k i (omega (arith, less, le)) l at;
  };
  spares = h.spares;
  rooms = h.rooms;
}

pub table_free : (widths : List ℕ) (code : List Instruction) (uses : List ℕ) → AreFirstUses code uses → (long done slot : ℕ) → done ≤ slice_index uses slot → (old new : Table) → slot < length old.rows.items →
    length new.rows.items ≡ length old.rows.items → map row_bits new.rows.items ≡ map row_bits old.rows.items → length (slice_index_or (values_of new.rows.items) slot []) ≡ long →
    ((t : ℕ) → t < long → slice_index (slice_index_or (values_of new.rows.items) slot []) t < 2 ^ slice_index widths slot) →
    ((n : ℕ) → n ≢ slot → slice_index_or (values_of new.rows.items) n [] ≡ slice_index_or (values_of old.rows.items) n []) →
    new.rooms ≡ old.rooms → HaveSpares new long → IsTable widths code long old done → IsTable widths code long new done
table_free widths code uses first long done slot free old new inside count bits here fit others rooms spares t =
    let size : length (values_of new.rows.items) ≡ length (values_of old.rows.items) = length-map new.rows.items row_values ∙ count ∙ sym (length-map old.rows.items row_values) in
    let within : slot < length (values_of old.rows.items) = let e : length (values_of old.rows.items) ≡ length old.rows.items = length-map old.rows.items row_values in omega (arith, e, inside) in
    record {
      ran = record {
        rows = rows_free widths code uses first long done slot free (values_of old.rows.items) (values_of new.rows.items) size within here fit others t.ran.rows t.ran.hold;
        lanes = lanes_on widths old.rows.items new.rows.items count bits t.ran.lanes;
        hold = hold_free widths code uses first long done slot free (values_of old.rows.items) (values_of new.rows.items) size within here fit others t.ran.rows t.ran.hold;
      };
      spares = spares;
      rooms = subst (λ (s : Rooms). HaveRooms s long) (sym rooms) t.rooms;
    }

-- a trimmed number fits the lane of its slot's row
pub trimmed_narrow : (widths : List ℕ) (rows : List Row) (slot mask x : ℕ) → x ≤ mask → mask < 2 ^ slice_index widths slot → slot < length rows → InLanes widths rows → x < 2 ^ slice_index (map row_bits rows) slot
trimmed_narrow widths rows slot mask x le l inside lanes =
    let most : 2 ^ slice_index widths slot ≤ 2 ^ slice_index (map row_bits rows) slot = pow_mono (lanes slot inside) in
    omega (arith, le, l, most)

-- and its slot
pub trimmed_fits : (x y mask w : ℕ) → x ≡ y → y ≤ mask → mask < 2 ^ w → x < 2 ^ w
trimmed_fits x y mask w e le l = omega (arith, e, le, l)

-- the spare rows may hold anything
pub table_refilled : (widths : List ℕ) (code : List Instruction) (long done : ℕ) (old new : Table) → IsRefilled old new → IsTable widths code long old done → IsTable widths code long new done
table_refilled widths code long done old new same t = record {
  ran = subst (λ (r : Vec Row Global). HaveRun widths code long r.items done) (sym same.rows) t.ran;
  spares = record {
    wide = same.room ∙ t.spares.wide;
    narrow = same.narrow ∙ t.spares.narrow;
    middle = same.middle ∙ t.spares.middle;
  };
  rooms = subst (λ (s : Rooms). HaveRooms s long) (sym same.rooms) t.rooms;
}

-- a list in the place of another one of as many members
pub in_place : {A : Type 0} (n : ℕ) (xs ws : List A) → n ≡ length xs → length ws ≡ length xs → take n (ws ++ drop (length ws) xs) ≡ ws
in_place n xs ws is same = ap (λ m. take m (ws ++ drop (length ws) xs)) (is ∙ sym same) ∙ take-append_seam ws (drop (length ws) xs)

-- a table with these rows
pub table_with : (widths : List ℕ) (code : List Instruction) (long : ℕ) (t : Table) (done : ℕ) (rows : List Row) → t.rows.items ≡ rows → HaveRun widths code long rows done → HaveSpares t long → HaveRooms t.rooms long → IsTable widths code long t done
table_with widths code long t done rows e ran spares rooms = record {
  ran = subst (λ (r : List Row). HaveRun widths code long r done) (sym e) ran;
  spares = spares;
  rooms = rooms;
}
