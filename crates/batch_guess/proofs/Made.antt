-- Tables of zeros.
use Rattle.std.proofs.Common.{◌≡◌, ℕ, zero, suc, ◌+◌, ◌<◌, ◌^◌, ◌≤◌, List, [], ◌∷◌, ◌++◌, Vec, add-one, length, map, replicate, refl, ap, sym, subst, ◌∙◌, inl, inr, arith}
use Rattle.std.specs.Prelude.{slice_index}
use Rattle.std.proofs.Math.Pow.{pow_pos}
use Rattle.std.proofs.lemmas.List.{length-replicate, length-map, length-append, get_or-replicate, get_or_append_left, map-append}
use Rattle.std.proofs.lemmas.Bool.{cases_lt}
use Rattle.std.proofs.Math.Seq.{get_or-append_seam}
use Rattle.lane_rows.specs.declared.row.Row.{Row}
use Rattle.std.specs.declared.alloc.Global.{Global}
use Rattle.batch_rows.specs.declared.code.Instruction.{Instruction}
use Rattle.lane_rows.specs.Values.{items_of, row_bits, row_values, values_of, InLanes}
use Rattle.batch_rows.specs.LaneSizes.{HaveRooms}
use Rattle.batch_rows.specs.Code.{AreRows}
use Rattle.batch_guess.specs.declared.table.Table.{Table}
use Rattle.batch_guess.specs.Table.{HaveSpares, IsTable}

zeros_are : (widths : List ℕ) (slots long : ℕ) → slots ≡ length widths → AreRows widths long (replicate slots (replicate long 0))
zeros_are widths slots long e =
    let count : length (replicate slots (replicate long 0)) ≡ slots = length-replicate slots (replicate long 0) in
    record {
      slots = count ∙ e;
      long = λ n l. ap (λ (r : List ℕ). length r) (get_or-replicate slots n (replicate long 0) [] (omega (arith, l, count))) ∙ length-replicate long 0;
      fit = λ n t l m. subst (λ (r : List ℕ). slice_index r t < 2 ^ slice_index widths n) (sym (get_or-replicate slots n (replicate long 0) [] (omega (arith, l, count)))) (subst (λ (x : ℕ). x < 2 ^ slice_index widths n) (sym (get_or-replicate long t 0 0 m)) (pow_pos (slice_index widths n)));
    }

pub zero_table : (widths : List ℕ) (code : List Instruction) (t : Table) (slots long : ℕ) → slots ≡ length widths → values_of t.rows.items ≡ replicate slots (replicate long 0) → InLanes widths t.rows.items → HaveSpares t long → HaveRooms t.rooms long → IsTable widths code (length t.room.items) t 0
zero_table widths code t slots long e rows lanes spares rooms = record {
  ran = record {
    rows = subst (λ (n : ℕ). AreRows widths n (values_of t.rows.items)) (sym spares.wide) (subst (λ (r : List (List ℕ)). AreRows widths long r) (sym rows) (zeros_are widths slots long e));
    lanes = lanes;
    hold = λ p k i l m at. absurd (omega (arith, l));
  };
  spares = subst (λ (n : ℕ). HaveSpares t n) (sym spares.wide) spares;
  rooms = subst (λ (n : ℕ). HaveRooms t.rooms n) (sym spares.wide) rooms;
}

replicate_more : {X : Type 0} (k : ℕ) (x : X) → replicate (suc k) x ≡ replicate k x ++ x ∷ []
replicate_more zero x = refl
replicate_more (suc k) x = ap (λ l. x ∷ l) (replicate_more k x)

pub rows_more : (rows : List (Vec ℕ Global)) (v : Vec ℕ Global) (k long : ℕ) → items_of rows ≡ replicate k (replicate long 0) → v.items ≡ replicate long 0 → items_of (rows ++ v ∷ []) ≡ replicate (k + 1) (replicate long 0)
rows_more rows v k long e f =
    map-append (λ (w : Vec ℕ Global). w.items) rows (v ∷ [])
    ∙ ap (λ (l : List (List ℕ)). l ++ v.items ∷ []) e
    ∙ ap (λ (r : List ℕ). replicate k (replicate long 0) ++ r ∷ []) f
    ∙ sym (ap (λ n. replicate n (replicate long 0)) (add-one k) ∙ replicate_more k (replicate long 0))

-- a row of zeros more
pub values_more : (rows : List Row) (r : Row) (k long : ℕ) → values_of rows ≡ replicate k (replicate long 0) → row_values r ≡ replicate long 0 → values_of (rows ++ r ∷ []) ≡ replicate (k + 1) (replicate long 0)
values_more rows r k long e f =
    map-append row_values rows (r ∷ [])
    ∙ ap (λ (l : List (List ℕ)). l ++ row_values r ∷ []) e
    ∙ ap (λ (r : List ℕ). replicate k (replicate long 0) ++ r ∷ []) f
    ∙ sym (ap (λ n. replicate n (replicate long 0)) (add-one k) ∙ replicate_more k (replicate long 0))

-- a row more that holds its slot's width
pub more_in_lanes : (widths : List ℕ) (rows : List Row) (r : Row) (k : ℕ) → length rows ≡ k → slice_index widths k ≤ row_bits r → InLanes widths rows → InLanes widths (rows ++ r ∷ [])
more_in_lanes widths rows r k count here lanes n l =
    let old : List ℕ = map row_bits rows in
    let long : length old ≡ length rows = length-map rows row_bits in
    let new : map row_bits (rows ++ r ∷ []) ≡ old ++ row_bits r ∷ [] = map-append row_bits rows (r ∷ []) in
    let end : length (rows ++ r ∷ []) ≡ length rows + 1 = length-append rows (r ∷ []) in
    subst (λ (bits : List ℕ). slice_index widths n ≤ slice_index bits n) (sym new) (elim (cases_lt n k) [
      | inl low ↦ subst (λ (x : ℕ). slice_index widths n ≤ x) (sym (get_or_append_left old (row_bits r ∷ []) 0 n (omega (arith, low, count, long)))) (lanes n (omega (arith, low, count)))
      | inr high ↦
          let at : n ≡ length old = omega (arith, high, count, long, end, l) in
          let seam : slice_index (old ++ row_bits r ∷ []) n ≡ row_bits r = ap (λ i. slice_index (old ++ row_bits r ∷ []) i) at ∙ get_or-append_seam old (row_bits r) [] 0 in
          subst (λ (x : ℕ). slice_index widths n ≤ x) (sym seam) (subst (λ (i : ℕ). slice_index widths i ≤ row_bits r) (omega (arith, at, long, count)) here)
    ])
