-- The parts of the constraints are within the nodes, have small costs, and lead away from no place to which they lead later.
use Rattle.std.proofs.Common.{◌≡◌, ◌<◌, ◌≤◌, ℕ, ℤ, zero, suc, pos, List, [], ◌∷◌, length, map, get_or, slice_index_or, ◌+◌, ◌^◌, refl, ap, ◌∙◌, arith}
use Rattle.std.specs.Prelude.{◌+ℤ◌, ◌≤ℤ◌, neg_ℤ, All}
use Rattle.std.specs.List.{range_with_len}
use Rattle.std.proofs.lemmas.Int.{ints}
use Rattle.std.proofs.lemmas.List.{length-map}
use Rattle.std.proofs.lemmas.List.FromFn.{length-range_with_len, get_or-range_with_len}
use Rattle.std.proofs.lemmas.List.Elements.{All-map, All-weaker}
use Rattle.raster_delay.specs.Delays.{offset, begin_count, node_count, hold, read, keep, holds_of, AreReads, AreBounded, NoReturn, IsSmall, IsNear}
use Rattle.raster_delay.specs.declared.network.Constraint.{Constraint}
use Rattle.raster_delay.specs.declared.placed.PlacedRead.{PlacedRead}

get_or-map : {X Y : Type 0} (f : X → Y) (xs : List X) (i : ℕ) (d : X) (e : Y) → i < length xs → get_or (map f xs) i e ≡ f (get_or xs i d)
get_or-map f [] i d e h = absurd (omega arith)
get_or-map f (x ∷ xs) zero d e h = refl
get_or-map f (x ∷ xs) (suc i) d e h = get_or-map f xs i d e (omega arith)

small_sum : (o : ℤ) (age : ℕ) → IsNear o → age ≤ 64 → (neg_ℤ (pos (2 ^ 24 + 64)) ≤ℤ (o +ℤ pos age)) × ((o +ℤ pos age) ≤ℤ pos (2 ^ 24 + 64))
small_sum o age near le = (omega (arith, ints, near.0), omega (arith, ints, near.1))

small_neg : (o : ℤ) → IsNear o → (neg_ℤ (pos (2 ^ 24 + 64)) ≤ℤ neg_ℤ o) × (neg_ℤ o ≤ℤ pos (2 ^ 24 + 64))
small_neg o near = (omega (arith, ints, near.1), omega (arith, ints, near.0))

pub NoReturn-apart : (n : ℕ) (cs : List Constraint) → All (λ c. c.source < n) cs → All (λ c. n ≤ c.target) cs → NoReturn cs
NoReturn-apart n cs below above i j le lt e =
    let none : Constraint = record { source = 0; target = 0; cost = pos 0 } in
    omega (arith, below i none (omega arith), above j none lt, e)

module _ (row age inputs images : ℕ) (reads : List PlacedRead) (are : AreReads row inputs images reads) (kept : inputs ≤ images) (young : age ≤ 64) where
  pub reads_sources : (n : ℕ) → begin_count inputs images ≤ n → All (λ c. c.source < n) (map (read row age inputs) reads)
  reads_sources n le = All-map (λ c. c.source < n) (read row age inputs) reads (λ k d h. omega (arith, le, are.earlier k d h, are.among k d h))

  pub reads_targets : (n : ℕ) → begin_count inputs images ≤ n → All (λ c. c.target < n) (map (read row age inputs) reads)
  reads_targets n le = All-map (λ c. c.target < n) (read row age inputs) reads (λ k d h. omega (arith, le, are.readers k d h, are.among k d h))

  pub reads_later : All (λ c. 0 < c.target) (map (read row age inputs) reads)
  reads_later = All-map (λ c. 0 < c.target) (read row age inputs) reads (λ k d h. omega (arith, are.readers k d h))

  pub reads_small : All IsSmall (map (read row age inputs) reads)
  reads_small = All-map IsSmall (read row age inputs) reads (λ k d h. small_sum (offset row (slice_index_or reads k d)) age (are.near k d h) young)

  pub reads_no_return : NoReturn (map (read row age inputs) reads)
  reads_no_return i j le lt e =
      let none : PlacedRead = record { f = 0; g = 0; dx = pos 0; dy = pos 0 } in
      let nothing : Constraint = record { source = 0; target = 0; cost = pos 0 } in
      let short : j < length reads = omega (arith, length-map reads (read row age inputs)) in
      omega (
        arith,
        are.earlier i none (omega arith),
        are.readers j none short,
        are.in_order i j none le short,
        e,
        ap (λ (c : Constraint). c.source) (get_or-map (read row age inputs) reads i none nothing (omega arith)),
        ap (λ (c : Constraint). c.target) (get_or-map (read row age inputs) reads j none nothing short),
      )

  pub keeps_sources : All (λ c. c.source < begin_count inputs images) (map (keep row inputs images) reads)
  keeps_sources = All-map (λ c. c.source < begin_count inputs images) (keep row inputs images) reads (λ k d h. omega (arith, are.readers k d h, are.among k d h))

  pub keeps_ends : All (λ c. begin_count inputs images ≤ c.target) (map (keep row inputs images) reads)
  keeps_ends = All-map (λ c. begin_count inputs images ≤ c.target) (keep row inputs images) reads (λ k d h. omega arith)

  pub keeps_targets : All (λ c. c.target < node_count inputs images) (map (keep row inputs images) reads)
  keeps_targets = All-map (λ c. c.target < node_count inputs images) (keep row inputs images) reads (λ k d h. omega (arith, are.earlier k d h, are.among k d h))

  pub keeps_small : All IsSmall (map (keep row inputs images) reads)
  keeps_small = All-map IsSmall (keep row inputs images) reads (λ k d h. small_neg (offset row (slice_index_or reads k d)) (are.near k d h))

module _ (inputs images : ℕ) (kept : inputs ≤ images) where
  at_range : (k d : ℕ) → k < length (range_with_len 0 images) → slice_index_or (range_with_len 0 images) k d ≡ k
  at_range k d h = get_or-range_with_len 0 images k d (omega (arith, length-range_with_len 0 images)) ∙ omega arith

  pub holds_sources : All (λ c. c.source < begin_count inputs images) (holds_of inputs images)
  holds_sources = All-map (λ c. c.source < begin_count inputs images) (hold inputs images) (range_with_len 0 images)
      (λ k d h. omega (arith, at_range k d h, length-range_with_len 0 images))

  pub holds_ends : All (λ c. begin_count inputs images ≤ c.target) (holds_of inputs images)
  holds_ends = All-map (λ c. begin_count inputs images ≤ c.target) (hold inputs images) (range_with_len 0 images) (λ k d h. omega arith)

  pub holds_targets : All (λ c. c.target < node_count inputs images) (holds_of inputs images)
  holds_targets = All-map (λ c. c.target < node_count inputs images) (hold inputs images) (range_with_len 0 images)
      (λ k d h. omega (arith, at_range k d h, length-range_with_len 0 images))

  pub holds_small : All IsSmall (holds_of inputs images)
  holds_small = All-map IsSmall (hold inputs images) (range_with_len 0 images) (λ k d h. (omega (arith, ints), omega (arith, ints)))

  pub holds_bounded : images ≤ 264 → AreBounded (node_count inputs images) (holds_of inputs images)
  holds_bounded few = record {
    sources = All-weaker (λ c. c.source < begin_count inputs images) (λ c. c.source < node_count inputs images) (λ c h. omega arith) (holds_of inputs images) holds_sources;
    targets = holds_targets;
    costs = holds_small;
    no_return = NoReturn-apart (begin_count inputs images) (holds_of inputs images) holds_sources holds_ends;
    count = omega (arith, length-map (range_with_len 0 images) (hold inputs images), length-range_with_len 0 images, few);
  }

module _ (row age inputs images : ℕ) (reads : List PlacedRead) (are : AreReads row inputs images reads) (kept : inputs ≤ images) (young : age ≤ 64) (count : length reads ≤ 4096) where
  pub reads_bounded : AreBounded (node_count inputs images) (map (read row age inputs) reads)
  reads_bounded = record {
    sources = reads_sources row age inputs images reads are kept young (node_count inputs images) (omega arith);
    targets = reads_targets row age inputs images reads are kept young (node_count inputs images) (omega arith);
    costs = reads_small row age inputs images reads are kept young;
    no_return = reads_no_return row age inputs images reads are kept young;
    count = omega (arith, length-map reads (read row age inputs), count);
  }

  pub keeps_bounded : AreBounded (node_count inputs images) (map (keep row inputs images) reads)
  keeps_bounded = record {
    sources = All-weaker (λ c. c.source < begin_count inputs images) (λ c. c.source < node_count inputs images) (λ c h. omega arith) (map (keep row inputs images) reads) (keeps_sources row age inputs images reads are kept young);
    targets = keeps_targets row age inputs images reads are kept young;
    costs = keeps_small row age inputs images reads are kept young;
    no_return = NoReturn-apart (begin_count inputs images) (map (keep row inputs images) reads) (keeps_sources row age inputs images reads are kept young) (keeps_ends row age inputs images reads are kept young);
    count = omega (arith, length-map reads (keep row inputs images), count);
  }
