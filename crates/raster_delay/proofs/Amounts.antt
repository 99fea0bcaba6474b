-- What the first images have at their begin and end nodes, and one image more.
use Rattle.std.proofs.Common.{◌≡◌, ◌<◌, ◌≤◌, ℕ, List, length, map, take, get_or, ◌+◌, cond, eqb, ap, ◌∙◌, arith}
use Rattle.std.specs.List.{enumerate_from}
use Rattle.std.proofs.lemmas.List.{get_or-map, length-map, take_all}
use Rattle.std.proofs.lemmas.List.FromFn.{get_or-enumerate_from, length-enumerate_from}
use Rattle.std.proofs.lemmas.List.Sums.{sum_by_more}
use Rattle.raster_delay.specs.Network.{Buffer, amount_at}
use Rattle.raster_delay.specs.Delays.{buffer, buffers_of}

-- the amount that is at v, where it is to are at node k
abbrev pub spot : ℕ → ℕ → ℕ → ℕ
spot k a v = cond (eqb k v) a 0

module _ (inputs images : ℕ) (widths : List ℕ) (at : Buffer → ℕ) where
  abbrev amounts : List (ℕ × ℕ)
  amounts = map (λ (b : Buffer). (at b, b.width)) (buffers_of inputs images widths)

  pub length-amounts : length amounts ≡ length widths
  length-amounts =
      length-map (buffers_of inputs images widths) (λ (b : Buffer). (at b, b.width)) ∙ length-map (enumerate_from 0 widths) (buffer inputs images) ∙ length-enumerate_from 0 widths

  amounts-at : (i : ℕ) → i < length widths → get_or amounts i (0, 0) ≡ (at (buffer inputs images (i, get_or widths i 0)), get_or widths i 0)
  amounts-at i h =
      let entry : Buffer → ℕ × ℕ = λ b. (at b, b.width) in
      let none : Buffer = record { begin = 0; end = 0; width = 0 } in
      let listed : i < length (enumerate_from 0 widths) = omega (arith, length-enumerate_from 0 widths) in
      let held : i < length (buffers_of inputs images widths) = omega (arith, length-map (enumerate_from 0 widths) (buffer inputs images), length-enumerate_from 0 widths) in
      get_or-map entry (buffers_of inputs images widths) i none (0, 0) held
      ∙ ap entry (get_or-map (buffer inputs images) (enumerate_from 0 widths) i (0, 0) none listed)
      ∙ ap (λ (x : ℕ × ℕ). entry (buffer inputs images x)) (get_or-enumerate_from 0 widths i (0, 0) h)
      ∙ ap (λ k. entry (buffer inputs images (k, get_or widths i 0))) (omega arith)

  pub amount-more : (i v : ℕ) → i < length widths
      → amount_at (take (i + 1) amounts) v ≡ amount_at (take i amounts) v + spot (at (buffer inputs images (i, get_or widths i 0))) (get_or widths i 0) v
  amount-more i v h =
      let f : ℕ × ℕ → ℕ = λ a. cond (eqb a.0 v) a.1 0 in
      omega (arith, sum_by_more f amounts i (0, 0) (omega (arith, length-amounts)), ap f (amounts-at i h))

  pub amount-all : (n v : ℕ) → length widths ≤ n → amount_at (take n amounts) v ≡ amount_at amounts v
  amount-all n v h = ap (λ xs. amount_at xs v) (take_all n amounts (omega (arith, length-amounts)))
