-- All constraints and buffers of a system are within its nodes, with small costs.
use Rattle.std.proofs.Common.{◌≡◌, ◌<◌, ◌≤◌, ℕ, List, [], ◌∷◌, ◌++◌, length, map, slice_index, ◌+◌, ◌-◌, arith, pos}
use Rattle.std.specs.Prelude.{◌≤ℤ◌, All}
use Rattle.std.specs.List.{range_with_len, enumerate_from, AllByRecursion}
use Rattle.std.proofs.lemmas.Int.{ints}
use Rattle.std.proofs.lemmas.List.FromFn.{length-range_with_len, get_or-range_with_len}
use Rattle.std.proofs.lemmas.List.Elements.{All-map, All-append, All-from_recursion, recursion_from_All, All-weaker}
use Rattle.raster_delay.specs.Network.{Holds, Buffer, IsFlow, IsWithin, Keeps, worth, objective}
use Rattle.raster_delay.specs.Delays.{begin_count, node_count, hold, start, read, keep, holds_of, starts_of, constraints_of, buffer, buffers_of, bits_of, AreCausal, IsForm, IsSmall}
use Rattle.raster_delay.specs.declared.network.Constraint.{Constraint}
use Rattle.raster_delay.specs.declared.placed.PlacedRead.{PlacedRead}
use Rattle.raster_delay.proofs.Bridge.{rec_map_in, rec_map_out, rec_left, rec_right, rec_range_out, numbers_of, numbers_hold, begins_of, ends_of, objective-same}
use Rattle.raster_delay.proofs.Duality.{bits_are}
use Rattle.raster_delay.proofs.Lists.{reads_sources, reads_targets, reads_small, keeps_sources, keeps_targets, keeps_small, holds_sources, holds_targets, holds_small}

rec_enumerate : (P : ℕ × ℕ → Type 0) (j : ℕ) (ws : List ℕ) → ((k w : ℕ) → j ≤ k → k < j + length ws → P (k, w)) → AllByRecursion P (enumerate_from j ws)
rec_enumerate P j [] h = tt
rec_enumerate P j (w ∷ ws) h = (h j w (omega arith) (omega arith), rec_enumerate P (j + 1) ws (λ k v le lt. h k v (omega arith) (omega arith)))

buffers_all : (P : Buffer → Type 0) (inputs images : ℕ) (widths : List ℕ) → length widths ≡ images → ((k w : ℕ) → k < images → P (buffer inputs images (k, w))) → All P (buffers_of inputs images widths)
buffers_all P inputs images widths size h = All-from_recursion P (buffers_of inputs images widths) (rec_map_in P (buffer inputs images) (enumerate_from 0 widths)
    (rec_enumerate (λ x. P (buffer inputs images x)) 0 widths (λ k w _ lt. h k w (omega arith))))

module _ (P : Constraint → Type 0) (row age inputs images : ℕ) (reads : List PlacedRead) where
  all_parts : All P (holds_of inputs images) → All P (starts_of inputs images) → All P (map (read row age inputs) reads) → All P (map (keep row inputs images) reads)
      → All P (constraints_of row age inputs images reads)
  all_parts h s r k =
      All-append P ((holds_of inputs images ++ starts_of inputs images) ++ map (read row age inputs) reads) (map (keep row inputs images) reads)
      (All-append P (holds_of inputs images ++ starts_of inputs images) (map (read row age inputs) reads) (All-append P (holds_of inputs images) (starts_of inputs images) h s) r) k

starts_all : (P : Constraint → Type 0) (inputs images : ℕ) → ((k : ℕ) → inputs ≤ k → k < images → P (start inputs k)) → All P (starts_of inputs images)
starts_all P inputs images h = All-map P (start inputs) (range_with_len inputs (images - inputs)) (λ k d lt.
    let at = get_or-range_with_len inputs (images - inputs) k d (omega (arith, length-range_with_len inputs (images - inputs))) in
    rw at (h (inputs + k) (omega arith) (omega (arith, length-range_with_len inputs (images - inputs)))))

-- where all constraints hold, those of each kind do
pub record HoldParts (row age inputs images : ℕ) (reads : List PlacedRead) (p : List ℕ) : Type 0 where
  pub holds_hold : All (Holds p) (holds_of inputs images)
  pub reads_hold : All (Holds p) (map (read row age inputs) reads)
  pub keeps_hold : All (Holds p) (map (keep row inputs images) reads)

pub holds_parts : (row age inputs images : ℕ) (reads : List PlacedRead) (p : List ℕ) → All (Holds p) (constraints_of row age inputs images reads) → HoldParts row age inputs images reads p
holds_parts row age inputs images reads p holds =
    let all = recursion_from_All (Holds p) (constraints_of row age inputs images reads) holds in
    let front = rec_left (Holds p) ((holds_of inputs images ++ starts_of inputs images) ++ map (read row age inputs) reads) (map (keep row inputs images) reads) all in
    let back = rec_right (Holds p) ((holds_of inputs images ++ starts_of inputs images) ++ map (read row age inputs) reads) (map (keep row inputs images) reads) all in
    record {
      holds_hold = All-from_recursion (Holds p) (holds_of inputs images)
          (rec_left (Holds p) (holds_of inputs images) (starts_of inputs images) (rec_left (Holds p) (holds_of inputs images ++ starts_of inputs images) (map (read row age inputs) reads) front));
      reads_hold = All-from_recursion (Holds p) (map (read row age inputs) reads) (rec_right (Holds p) (holds_of inputs images ++ starts_of inputs images) (map (read row age inputs) reads) front);
      keeps_hold = All-from_recursion (Holds p) (map (keep row inputs images) reads) back;
    }

module _ (row age inputs images : ℕ) (widths : List ℕ) (reads : List PlacedRead) (form : IsForm row age inputs images widths reads) where
  pub within_all : IsWithin (node_count inputs images) (constraints_of row age inputs images reads) (buffers_of inputs images widths)
  within_all =
      let n = node_count inputs images in
      let m = begin_count inputs images in
      let kept = form.inputs_kept in
      record {
        sources = all_parts (λ c. c.source < n) row age inputs images reads
            (All-weaker (λ c. c.source < m) (λ c. c.source < n) (λ c h. omega arith) (holds_of inputs images) (holds_sources inputs images kept))
            (starts_all (λ c. c.source < n) inputs images (λ v _ _. omega (arith, kept)))
            (reads_sources row age inputs images reads form.reads_are kept form.age_limit n (omega arith))
            (All-weaker (λ c. c.source < m) (λ c. c.source < n) (λ c h. omega arith) (map (keep row inputs images) reads) (keeps_sources row age inputs images reads form.reads_are kept form.age_limit));
        targets = all_parts (λ c. c.target < n) row age inputs images reads
            (holds_targets inputs images kept) (starts_all (λ c. c.target < n) inputs images (λ v _ lt. omega arith))
            (reads_targets row age inputs images reads form.reads_are kept form.age_limit n (omega arith)) (keeps_targets row age inputs images reads form.reads_are kept form.age_limit);
        begins = buffers_all (λ b. b.begin < n) inputs images widths form.one_width_each (λ k w lt. omega (arith, kept));
        ends = buffers_all (λ b. b.end < n) inputs images widths form.one_width_each (λ k w lt. omega arith);
      }

  pub small_all : All IsSmall (constraints_of row age inputs images reads)
  small_all = all_parts IsSmall row age inputs images reads (holds_small inputs images form.inputs_kept)
      (starts_all IsSmall inputs images (λ v _ _. (omega (arith, ints), omega (arith, ints))))
      (reads_small row age inputs images reads form.reads_are form.inputs_kept form.age_limit) (keeps_small row age inputs images reads form.reads_are form.inputs_kept form.age_limit)

  pub keeps_all : (p : List ℕ) → AllByRecursion (Holds p) (constraints_of row age inputs images reads) → Keeps (constraints_of row age inputs images reads) (buffers_of inputs images widths) p
  keeps_all p holds =
      let at = rec_map_out (Holds p) (hold inputs images) (range_with_len 0 images)
      (rec_left (Holds p) (holds_of inputs images) (starts_of inputs images)
      (rec_left (Holds p) (holds_of inputs images ++ starts_of inputs images) (map (read row age inputs) reads)
      (rec_left (Holds p) ((holds_of inputs images ++ starts_of inputs images) ++ map (read row age inputs) reads) (map (keep row inputs images) reads) holds))) in
      record {
        holds = All-from_recursion (Holds p) (constraints_of row age inputs images reads) holds;
        ordered = buffers_all (λ b. slice_index p b.begin ≤ slice_index p b.end) inputs images widths form.one_width_each (λ k w lt.
            omega (arith, ints, rec_range_out (λ k. Holds p (hold inputs images k)) 0 images at k (omega arith) (omega arith)));
      }

  -- each constraint goes from a lower to a higher node
  pub forward_all : All (λ c. c.source < c.target) (constraints_of row age inputs images reads)
  forward_all = all_parts (λ c. c.source < c.target) row age inputs images reads
      (All-map (λ c. c.source < c.target) (hold inputs images) (range_with_len 0 images)
      (λ k d lt. omega (arith, form.inputs_kept, get_or-range_with_len 0 images k d (omega (arith, length-range_with_len 0 images)), length-range_with_len 0 images)))
      (starts_all (λ c. c.source < c.target) inputs images (λ v low _. omega arith))
      (All-map (λ c. c.source < c.target) (read row age inputs) reads (λ k d lt. omega (arith, form.reads_are.earlier k d lt, form.reads_are.readers k d lt)))
      (All-map (λ c. c.source < c.target) (keep row inputs images) reads (λ k d lt. omega (arith, form.reads_are.readers k d lt, form.reads_are.among k d lt)))

  module _ (d : List ℕ) (causal : AreCausal row age inputs images reads d) where
    pub numbers_objective : objective (buffers_of inputs images widths) (numbers_of row inputs images reads d) ≡ bits_of row d reads widths
    numbers_objective = objective-same inputs images row d reads (numbers_of row inputs images reads d) 0 widths (λ k _ h.
        omega (
          arith,
          begins_of row inputs images reads d form.some_inputs form.inputs_kept causal.inputs_at_once k (omega (arith, form.one_width_each, h)),
          ends_of row inputs images reads d form.some_inputs form.inputs_kept k (omega (arith, form.one_width_each, h)),
        ))

    pub numbers_keep : AllByRecursion (Holds (numbers_of row inputs images reads d)) (constraints_of row age inputs images reads)
    numbers_keep = numbers_hold row age inputs images reads form.reads_are form.some_inputs form.inputs_kept d causal

    -- no flow is worth more than the bits of any causal delays
    pub worth_at_most : (flow : List ℕ) → IsFlow (constraints_of row age inputs images reads) (buffers_of inputs images widths) flow
        → worth (constraints_of row age inputs images reads) flow ≤ℤ pos (bits_of row d reads widths)
    worth_at_most flow balanced = omega (
      arith,
      ints,
      numbers_objective,
      bits_are (node_count inputs images) (constraints_of row age inputs images reads) (buffers_of inputs images widths) flow (numbers_of row inputs images reads d) within_all balanced
          (keeps_all (numbers_of row inputs images reads d) numbers_keep),
    )
