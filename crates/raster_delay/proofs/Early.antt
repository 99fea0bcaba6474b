-- Causal delays that grow by as much at each image as a read can need, so that the earliest are below 2^34.
use Rattle.std.proofs.Common.{◌≡◌, ◌<◌, ◌≤◌, ℕ, List, map, slice_index, slice_index_or, ◌+◌, ◌-◌, ◌*◌, ◌^◌, arith}
use Rattle.std.specs.List.{range_with_len}
use Rattle.std.proofs.lemmas.Int.{ints}
use Rattle.std.proofs.lemmas.List.FromFn.{length-map-range_with_len, get_or-map-range_with_len}
use Rattle.raster_delay.specs.Delays.{AreCausal, AreReads}
use Rattle.raster_delay.specs.declared.placed.PlacedRead.{PlacedRead}

abbrev step : ℕ
step = 2 ^ 24 + 64

abbrev delay_at : (inputs k : ℕ) → ℕ
delay_at inputs k = (k + 1 - inputs) * step

abbrev pub growing : (inputs images : ℕ) → List ℕ
growing inputs images = map (delay_at inputs) (range_with_len 0 images)

at : (inputs images k : ℕ) → k < images → slice_index (growing inputs images) k ≡ delay_at inputs k
at inputs images k lt = get_or-map-range_with_len (delay_at inputs) 0 images k k 0 lt (omega arith)

module _ (row age inputs images : ℕ) (reads : List PlacedRead) (are : AreReads row inputs images reads) (few : age ≤ 64) (kept : inputs ≤ images) where
  pub growing_causal : AreCausal row age inputs images reads (growing inputs images)
  growing_causal = record {
    one_each = length-map-range_with_len (delay_at inputs) 0 images;
    inputs_at_once = λ k lt. omega (arith, lt, at inputs images k (omega (arith, lt, kept)));
    ages = λ i d lt.
        let r = slice_index_or reads i d in
        let before = are.earlier i d lt in
        let reader = are.readers i d lt in
        let inside = are.among i d lt in
        let close = are.near i d lt in
        let f = at inputs images r.f inside in
        let g = at inputs images r.g (omega (arith, before, inside)) in
        omega (arith, ints, few, before, reader, close.1, f, g);
  }

pub growing_small : (inputs images k : ℕ) → k < images → images ≤ 264 → slice_index (growing inputs images) k < 2 ^ 34
growing_small inputs images k lt few = omega (arith, at inputs images k lt, few, lt)
