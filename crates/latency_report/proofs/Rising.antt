-- The lines of a flow ascend, and name images and amounts within their limits.
use Rattle.std.proofs.Common.{◌≡◌, ℕ, zero, suc, pos, ◌+◌, ◌^◌, ◌<◌, List, [], ◌∷◌, ◌++◌, map, slice_index, refl, arith}
use Rattle.std.specs.List.{range_with_len, AllByRecursion}
use Rattle.std.proofs.lemmas.List.Elements.{recursion_from_All}
use Rattle.dk_base.specs.declared.stencils.Image.{Image}
use Rattle.dk_base.specs.declared.stencils.LiveRead.{LiveRead}
use Rattle.dk_base.specs.Stencils.{IsKept, Ascends, IsBefore, AreInOrder}
use Rattle.raster_delay.specs.declared.placed.PlacedRead.{PlacedRead}
use Rattle.raster_delay.specs.Placing.{placed}
use Rattle.raster_delay.proofs.Bridge.{rec_append, rec_map_in, rec_range_in}
use Rattle.report_text.specs.declared.report.FlowLine.{FlowLine}
use Rattle.report_text.specs.Reports.{IsAmount, IsFlowLine, kind, read_named, StandsBefore, Ascend}
use Rattle.plan_check.specs.Flows.{carried}
use Rattle.plan_check.specs.Orders.{IsEarlier}
use Rattle.plan_check.specs.Sums.{hold_maker, start_maker}
use Rattle.plan_check.proofs.Order.{earlier_placed}
use Rattle.latency_report.proofs.Lines.{Maker}

-- a line of an earlier kind, and an earlier one of the same kind
by_kind : (x y : FlowLine) → kind x < kind y → StandsBefore x y
by_kind x y lt = record { kinds = omega (arith, lt); reads = λ e. absurd (omega (arith, lt, e)) }

pub by_read : (x y : FlowLine) → kind x ≡ kind y → IsBefore (read_named x) (read_named y) → StandsBefore x y
by_read x y e h = record { kinds = omega (arith, e); reads = λ _. h }

-- whatever flow they carry, the line of the first comes before that of the second
abbrev pub Precedes : Maker → Maker → Type 0
Precedes a b = (m n : ℕ) → StandsBefore (a m) (b n)

abbrev pub Rises : List Maker → Type 0
Rises [] = Unit {0}
Rises (a ∷ ms) = AllByRecursion (Precedes a) ms × Rises ms

leads_on : (a : FlowLine) (ms : List Maker) (flow : List ℕ) → AllByRecursion (λ m. (n : ℕ) → StandsBefore a (m n)) ms → Ascend (carried ms flow) → Ascend (a ∷ carried ms flow)
leads_on a [] flow leads up = tt
leads_on a (m ∷ ms) [] leads up = tt
leads_on a (m ∷ ms) (zero ∷ flow) leads up = leads_on a ms flow leads.1 up
leads_on a (m ∷ ms) (suc n ∷ flow) leads up = (leads.0 (suc n), up)

lead : (m : Maker) (n : ℕ) (ms : List Maker) → AllByRecursion (Precedes m) ms → AllByRecursion (λ b. (k : ℕ) → StandsBefore (m n) (b k)) ms
lead m n [] all = tt
lead m n (b ∷ ms) all = (all.0 n, lead m n ms all.1)

pub carried_rise : (ms : List Maker) (flow : List ℕ) → Rises ms → Ascend (carried ms flow)
carried_rise [] flow rises = tt
carried_rise (m ∷ ms) [] rises = tt
carried_rise (m ∷ ms) (zero ∷ flow) rises = carried_rise ms flow rises.1
carried_rise (m ∷ ms) (suc n ∷ flow) rises = leads_on (m (suc n)) ms flow (lead m (suc n) ms rises.0) (carried_rise ms flow rises.1)

-- the lines that makers give are lines of a report
pub carried_in : (count : ℕ) (ms : List Maker) (flow : List ℕ) → AllByRecursion (λ m. (n : ℕ) → IsAmount n → IsFlowLine count (m n)) ms → ((k : ℕ) → slice_index flow k < 2 ^ 64)
    → AllByRecursion (IsFlowLine count) (carried ms flow)
carried_in count [] flow all most = tt
carried_in count (m ∷ ms) [] all most = tt
carried_in count (m ∷ ms) (zero ∷ flow) all most = carried_in count ms flow all.1 (λ k. most (suc k))
carried_in count (m ∷ ms) (suc n ∷ flow) all most = (all.0 (suc n) (record { some = omega arith; most = most 0 }), carried_in count ms flow all.1 (λ k. most (suc k)))

pub rises_append : (xs ys : List Maker) → Rises xs → Rises ys → AllByRecursion (λ x. AllByRecursion (Precedes x) ys) xs → Rises (xs ++ ys)
rises_append [] ys a b between = b
rises_append (x ∷ xs) ys a b between = (rec_append (Precedes x) xs ys a.0 between.0, rises_append xs ys a.1 b between.1)

-- all of one kind before all of another
module _ {A B : Type 0} (f : A → Maker) (g : B → Maker) (before : (a : A) (b : B) (m n : ℕ) → kind (f a m) < kind (g b n)) where
  after_one : (a : A) (ys : List B) → AllByRecursion (Precedes (f a)) (map g ys)
  after_one a [] = tt
  after_one a (b ∷ ys) = ((λ m n. by_kind (f a m) (g b n) (before a b m n)), after_one a ys)

  pub kinds : (xs : List A) (ys : List B) → AllByRecursion (λ x. AllByRecursion (Precedes x) (map g ys)) (map f xs)
  kinds [] ys = tt
  kinds (a ∷ xs) ys = (after_one a ys, kinds xs ys)

-- one kind over places
module _ (f : ℕ → Maker) (up : (j k m n : ℕ) → j < k → StandsBefore (f j m) (f k n)) where
  pub range_rises : (a n : ℕ) → Rises (map f (range_with_len a n))
  range_rises a zero = tt
  range_rises a (suc n) = (
    rec_map_in (Precedes (f a)) f (range_with_len (a + 1) n) (rec_range_in (λ k. Precedes (f a) (f k)) (a + 1) n (λ k le lt. λ i j. up a k i j (omega arith))),
    range_rises (a + 1) n,
  )

-- of two images the earlier one
image_before : (f g : ℕ) → f < g → IsBefore (record { f = f; g = 0; dx = pos 0; dy = pos 0 }) (record { f = g; g = 0; dx = pos 0; dy = pos 0 })
image_before f g lt = record {
  reader = omega (arith, lt);
  source = λ e. absurd (omega (arith, lt, e));
  rows = λ e _. absurd (omega (arith, lt, e));
  columns = λ e _ _. absurd (omega (arith, lt, e));
}

pub holds_rise : (a n : ℕ) → Rises (map hold_maker (range_with_len a n))
holds_rise a n = range_rises hold_maker (λ j k m n lt. by_read (hold_maker j m) (hold_maker k n) refl (image_before j k lt)) a n

pub starts_rise : (a n : ℕ) → Rises (map start_maker (range_with_len a n))
starts_rise a n = range_rises start_maker (λ j k m n lt. by_read (start_maker j m) (start_maker k n) refl (image_before j k lt)) a n

-- both images of a read are kept
abbrev pub AreKept : List Image → LiveRead → Type 0
AreKept images r = IsKept images r.f × IsKept images r.g

module _ (images : List Image) (up : Ascends images) where
  module _ (f : PlacedRead → Maker) (same : (a b : PlacedRead) (m n : ℕ) → IsEarlier a b → StandsBefore (f a m) (f b n)) where
    first_of_reads : (r : LiveRead) (reads : List LiveRead) → AreKept images r → AllByRecursion (AreKept images) reads → AllByRecursion (IsBefore r) reads → AllByRecursion (Precedes (f (placed images r))) (map f (map (placed images) reads))
    first_of_reads r [] kr kept before = tt
    first_of_reads r (q ∷ reads) kr kept before =
        ((λ m n. same (placed images r) (placed images q) m n (earlier_placed images up r q kr.0 kr.1 kept.0.0 kept.0.1 before.0)), first_of_reads r reads kr kept.1 before.1)

    pub reads_rise : (reads : List LiveRead) → AllByRecursion (AreKept images) reads → AreInOrder reads → Rises (map f (map (placed images) reads))
    reads_rise [] kept order = tt
    reads_rise (r ∷ reads) kept order = (
      first_of_reads r reads kept.0 kept.1 (recursion_from_All (IsBefore r) reads (λ k d lt. order 0 (suc k) d (omega arith) (omega arith))),
      reads_rise reads kept.1 (λ i j d lt below. order (suc i) (suc j) d (omega arith) (omega arith)),
    )
