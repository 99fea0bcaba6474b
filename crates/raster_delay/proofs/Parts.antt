-- The parts of the list of constraints.
use Rattle.std.proofs.Common.{◌≡◌, ◌<◌, ◌≤◌, ℕ, List, ◌++◌, length, map, take, drop, ◌+◌, ◌-◌, ap, ◌∙◌, arith, length-append}
use Rattle.std.proofs.lemmas.List.{take_at, drop_at, append_assoc, length-map}
use Rattle.std.proofs.lemmas.List.{get_or_append_left, get_or-append_right}
use Rattle.std.proofs.lemmas.List.FromFn.{length-map-range_with_len, get_or-map-range_with_len}
use Rattle.std.proofs.Common.{pos}
use Rattle.raster_delay.specs.Network.{constraint_at}
use Rattle.raster_delay.specs.Delays.{hold, start, read, keep, holds_of, starts_of, constraints_of}
use Rattle.raster_delay.specs.declared.network.Constraint.{Constraint}
use Rattle.raster_delay.specs.declared.placed.PlacedRead.{PlacedRead}

abbrev nothing : Constraint
nothing = record { source = 0; target = 0; cost = pos 0 }

module _ (row age inputs images : ℕ) (reads : List PlacedRead) (kept : inputs ≤ images) where
  before_reads : length (holds_of inputs images ++ starts_of inputs images) ≡ images + (images - inputs)
  before_reads = omega (arith, length-append (holds_of inputs images) (starts_of inputs images), length-map-range_with_len (hold inputs images) 0 images, length-map-range_with_len (start inputs) inputs (images - inputs))

  before_keeps : length ((holds_of inputs images ++ starts_of inputs images) ++ map (read row age inputs) reads) ≡ images + (images - inputs) + length reads
  before_keeps = omega (arith, before_reads, length-append (holds_of inputs images ++ starts_of inputs images) (map (read row age inputs) reads), length-map reads (read row age inputs))

  pub length_all : length (constraints_of row age inputs images reads) ≡ images + (images - inputs) + length reads + length reads
  length_all = omega (arith, before_keeps, length-append ((holds_of inputs images ++ starts_of inputs images) ++ map (read row age inputs) reads) (map (keep row inputs images) reads), length-map reads (keep row inputs images))

  pub take_holds : take images (constraints_of row age inputs images reads) ≡ holds_of inputs images
  take_holds =
      ap (take images) (append_assoc (holds_of inputs images ++ starts_of inputs images) (map (read row age inputs) reads) (map (keep row inputs images) reads)
      ∙ append_assoc (holds_of inputs images) (starts_of inputs images) (map (read row age inputs) reads ++ map (keep row inputs images) reads))
      ∙ take_at (holds_of inputs images) (starts_of inputs images ++ (map (read row age inputs) reads ++ map (keep row inputs images) reads)) images (length-map-range_with_len (hold inputs images) 0 images)

  drop_front : drop (images + (images - inputs)) (constraints_of row age inputs images reads) ≡ map (read row age inputs) reads ++ map (keep row inputs images) reads
  drop_front =
      ap (drop (images + (images - inputs))) (append_assoc (holds_of inputs images ++ starts_of inputs images) (map (read row age inputs) reads) (map (keep row inputs images) reads))
      ∙ drop_at (holds_of inputs images ++ starts_of inputs images) (map (read row age inputs) reads ++ map (keep row inputs images) reads) (images + (images - inputs)) before_reads

  pub take_reads : take (length reads) (drop (images + (images - inputs)) (constraints_of row age inputs images reads)) ≡ map (read row age inputs) reads
  take_reads = ap (take (length reads)) drop_front ∙ take_at (map (read row age inputs) reads) (map (keep row inputs images) reads) (length reads) (length-map reads (read row age inputs))

  pub drop_keeps : drop (images + (images - inputs) + length reads) (constraints_of row age inputs images reads) ≡ map (keep row inputs images) reads
  drop_keeps = drop_at ((holds_of inputs images ++ starts_of inputs images) ++ map (read row age inputs) reads) (map (keep row inputs images) reads) (images + (images - inputs) + length reads) before_keeps

  in_front : (i : ℕ) → i < images + (images - inputs) → constraint_at (constraints_of row age inputs images reads) i ≡ constraint_at (holds_of inputs images ++ starts_of inputs images) i
  in_front i h =
      get_or_append_left ((holds_of inputs images ++ starts_of inputs images) ++ map (read row age inputs) reads) (map (keep row inputs images) reads) nothing i (omega (arith, before_keeps))
      ∙ get_or_append_left (holds_of inputs images ++ starts_of inputs images) (map (read row age inputs) reads) nothing i (omega (arith, before_reads))

  -- the hold of image i is constraint i
  pub hold_at : (i : ℕ) → i < images → constraint_at (constraints_of row age inputs images reads) i ≡ hold inputs images i
  hold_at i h =
      in_front i (omega arith)
      ∙ get_or_append_left (holds_of inputs images) (starts_of inputs images) nothing i (omega (arith, length-map-range_with_len (hold inputs images) 0 images))
      ∙ get_or-map-range_with_len (hold inputs images) 0 images i i nothing h (omega arith)

  -- the start of image k follows the holds
  pub start_at : (k : ℕ) → inputs ≤ k → k < images → constraint_at (constraints_of row age inputs images reads) (images + (k - inputs)) ≡ start inputs k
  start_at k some h =
      in_front (images + (k - inputs)) (omega arith)
      ∙ get_or-append_right (holds_of inputs images) (starts_of inputs images) images (images + (k - inputs)) nothing (length-map-range_with_len (hold inputs images) 0 images) (omega arith)
      ∙ get_or-map-range_with_len (start inputs) inputs (images - inputs) (images + (k - inputs) - images) k nothing (omega arith) (omega arith)
