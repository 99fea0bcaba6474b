-- Column and row of pixels that came some clocks later.
use Rattle.std.proofs.Common.{◌≡◌, ◌≢◌, ℕ, suc, ◌+◌, ◌-◌, ◌*◌, ◌/◌, ◌%◌, ◌<◌, ◌≤◌, ap, sym, ◌∙◌, arith, inl, inr}
use Rattle.std.proofs.lemmas.Nat.{mod-mul-add, div-add-mod', mod_below}
use Rattle.std.proofs.lemmas.Bool.{cases_lt}
use Rattle.dk_base.specs.Frames.{Size, area, column, row}
use Rattle.edge_select.proofs.Raster.{at_frame}

-- line j of frames back to back, and a pixel of it
module _ (size : Size) (some : 1 ≤ size.width) (tall : 1 ≤ size.height) where
  abbrev w : ℕ
  w = size.width

  abbrev h : ℕ
  h = size.height

  -- pixel x of line j
  pub in_line : (j x : ℕ) → x < w → (column size (j * w + x) ≡ x) × (row size (j * w + x) ≡ j % h)
  in_line j x low =
      let whole = div-add-mod' j h in
      let e : j * w + x ≡ j / h * area size + (j % h * w + x) = split (j / h) (j % h) whole in
      let at = at_frame size (j / h) x (j % h) low (mod_below j h tall) in
      (ap (column size) e ∙ at.0, ap (row size) e ∙ at.1)
    where
      split : (i y : ℕ) → i * h + y ≡ j → j * w + x ≡ i * (w * h) + (y * w + x)
      split i y e =
          let m : j * w ≡ (i * h + y) * w = ap (λ (z : ℕ). z * w) (sym e) in
          omega (arith, m)

  pub column_is : (k : ℕ) → column size k ≡ k % w
  column_is k =
      let whole = div-add-mod' k w in
      sym (ap (column size) whole) ∙ (in_line (k / w) (k % w) (mod_below k w some)).0

  pub row_is : (k : ℕ) → row size k ≡ k / w % h
  row_is k =
      let whole = div-add-mod' k w in
      sym (ap (row size) whole) ∙ (in_line (k / w) (k % w) (mod_below k w some)).1

-- a remainder of a sum
pub mod_sum : (n a b : ℕ) → 0 < n → (a + b) % n ≡ (a % n + b % n) % n
mod_sum n a b some =
    let x = div-add-mod' a n in
    let y = div-add-mod' b n in
    let z = div-add-mod' (a % n + b % n) n in
    let e : a + b ≡ (a / n + b / n + (a % n + b % n) / n) * n + (a % n + b % n) % n = omega (arith, x, y, z) in
    ap (λ (v : ℕ). v % n) e ∙ mod-mul-add (a / n + b / n + (a % n + b % n) / n) n ((a % n + b % n) % n) (mod_below (a % n + b % n) n some)

module _ (size : Size) (some : 1 ≤ size.width) (tall : 1 ≤ size.height) where
  -- the column d clocks later
  pub column_moved : (k d : ℕ) → column size (k + d) ≡ (column size k + d % size.width) % size.width
  column_moved k d =
      column_is size some tall (k + d) ∙ mod_sum size.width k d some
      ∙ ap (λ (v : ℕ). (v + d % size.width) % size.width) (sym (column_is size some tall k))

  -- the row some lines later
  pub row_moved : (k q : ℕ) → row size (k + q * size.width) ≡ (row size k + q % size.height) % size.height
  row_moved k q =
      let whole = div-add-mod' k size.width in
      let e : k + q * size.width ≡ (k / size.width + q) * size.width + k % size.width = omega (arith, whole) in
      ap (row size) e ∙ (in_line size some tall (k / size.width + q) (k % size.width) (mod_below k size.width some)).1
      ∙ mod_sum size.height (k / size.width) q tall
      ∙ ap (λ (v : ℕ). (v + q % size.height) % size.height) (sym (row_is size some tall k))

  -- where a column counts from this one on, the first pixel is in it
  pub first_there : (start : ℕ) → start < size.width → column size start ≡ start
  first_there start low = (let e : start ≡ 0 * size.width + start = omega arith in ap (column size) e) ∙ (in_line size some tall 0 start low).0

  -- a pixel that many columns on in this column begins a line
  line_begins : (k start : ℕ) → start < size.width → column size (k + start) ≡ start → k % size.width ≡ 0
  line_begins k start low at =
      let n : ℕ = size.width in
      let r : ℕ = k % n in
      let lt : r < n = mod_below k n some in
      let whole = div-add-mod' k n in
      let there : (k + start) % n ≡ start = sym (column_is size some tall (k + start)) ∙ at in
      elim (cases_lt (r + start) n) as (λ _. k % n ≡ 0) [
        | inl below ↦
            let e : k + start ≡ k / n * n + (r + start) = omega (arith, whole) in
            let is : r + start ≡ start = sym (ap (λ (v : ℕ). v % n) e ∙ mod-mul-add (k / n) n (r + start) below) ∙ there in
            omega (arith, is)
        | inr beyond ↦
            let e : k + start ≡ suc (k / n) * n + (r + start - n) = over (k / n) r n whole beyond in
            let is : r + start - n ≡ start = sym (ap (λ (v : ℕ). v % n) e ∙ mod-mul-add (suc (k / n)) n (r + start - n) (omega (arith, lt, low, beyond))) ∙ there in
            absurd (omega (arith, is, lt, low, beyond))
      ]
    where
      over : (q r n : ℕ) → q * n + r ≡ k → n ≤ r + start → k + start ≡ suc q * n + (r + start - n)
      over q r n e le = omega (arith, e, le)

  pub line_start : (k start : ℕ) → start < size.width → column size (k + start) ≡ start → row size (k + start) ≡ row size k
  line_start k start low at =
      let n : ℕ = size.width in
      let whole = div-add-mod' k n in
      let none = line_begins k start low at in
      let e : k + start ≡ k / n * n + start = omega (arith, whole, none) in
      ap (row size) e ∙ (in_line size some tall (k / n) start low).1 ∙ sym (row_is size some tall k)

  -- else it is in the line of the pixel before it
  pub line_goes : (k start : ℕ) → start < size.width → column size (suc k + start) ≢ start → row size (suc k) ≡ row size k
  line_goes k start low other =
      let n : ℕ = size.width in
      let r : ℕ = k % n in
      let lt : r < n = mod_below k n some in
      let whole = div-add-mod' k n in
      elim (cases_lt (suc r) n) as (λ _. row size (suc k) ≡ row size k) [
        | inl below ↦
            let e : suc k ≡ k / n * n + suc r = omega (arith, whole) in
            ap (row size) e ∙ (in_line size some tall (k / n) (suc r) below).1 ∙ sym (row_is size some tall k)
        | inr end ↦
            let e : suc k + start ≡ suc (k / n) * n + start = over (k / n) r n whole lt end in
            absurd (other (ap (column size) e ∙ (in_line size some tall (suc (k / n)) start low).0))
      ]
    where
      over : (q r n : ℕ) → q * n + r ≡ k → r < n → n ≤ suc r → suc k + start ≡ suc q * n + start
      over q r n e lt le = omega (arith, e, lt, le)
