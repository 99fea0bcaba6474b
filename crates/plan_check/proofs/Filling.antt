-- Lines in order that name constraints are those of a flow: each constraint without a line carries nothing.
use Rattle.std.proofs.Common.{◌≡◌, ◌∙◌, ◌+◌, ◌-◌, ◌<◌, ◌≤◌, ◌⊎◌, ℕ, zero, suc, List, [], ◌∷◌, ◌++◌, map, length, drop, get_or, cond, ltb, refl, sym, ap, subst, arith, inl, inr, length-append}
use Rattle.std.specs.List.{AllByRecursion, range_with_len}
use Rattle.std.proofs.lemmas.List.{length-map, length-drop, get_or-map, get_or_append_left, get_or-append-add, get_or-drop}
use Rattle.std.proofs.lemmas.List.FromFn.{get_or-map-range_with_len, length-map-range_with_len}
use Rattle.raster_delay.specs.Systems.{System, IsSystem, image_count, placed_reads}
use Rattle.report_text.specs.declared.report.FlowLine.{FlowLine}
use Rattle.report_text.specs.declared.report.FlowLine.TheVariants.{Hold, Start, Read, Keep}
use Rattle.report_text.specs.Reports.{Ascend}
use Rattle.plan_check.specs.Flows.{makers, carried, carrying, amount_of}
use Rattle.plan_check.specs.Sums.{hold_maker, start_maker, read_maker, keep_maker}
use Rattle.plan_check.specs.Holding.{HasConstraint, read_at}
use Rattle.plan_check.proofs.Carried.{Maker, above}
use Rattle.plan_check.proofs.Ranks.{rank, rank_rises}

-- these are lines of some of these constraints, in order
abbrev pub Placed : List Maker → List FlowLine → Type 0
Placed ms [] = Unit {0}
Placed [] (x ∷ xs) = ⊥
Placed (m ∷ ms) (x ∷ xs) = ((m (amount_of x) ≡ x) × Placed ms xs) ⊎ Placed ms (x ∷ xs)

-- the flow of each constraint
abbrev pub fill : (ms : List Maker) (xs : List FlowLine) → Placed ms xs → List ℕ
fill [] [] h = []
fill [] (x ∷ xs) h = absurd h
fill (m ∷ ms) [] h = 0 ∷ fill ms [] tt
fill (m ∷ ms) (x ∷ xs) (inl h) = amount_of x ∷ fill ms xs h.1
fill (m ∷ ms) (x ∷ xs) (inr h) = 0 ∷ fill ms (x ∷ xs) h

pub fill_length : (ms : List Maker) (xs : List FlowLine) (h : Placed ms xs) → length (fill ms xs h) ≡ length ms
fill_length [] [] h = refl
fill_length [] (x ∷ xs) h = absurd h
fill_length (m ∷ ms) [] h = ap suc (fill_length ms [] tt)
fill_length (m ∷ ms) (x ∷ xs) (inl h) = ap suc (fill_length ms xs h.1)
fill_length (m ∷ ms) (x ∷ xs) (inr h) = ap suc (fill_length ms (x ∷ xs) h)

-- a line and its constraint
one_more : (m : Maker) (ms : List Maker) (x : FlowLine) (xs : List FlowLine) (flow : List ℕ) (n : ℕ) → amount_of x ≡ n → m n ≡ x → carrying xs ≡ carried ms flow → carrying (x ∷ xs) ≡ carried (m ∷ ms) (n ∷ flow)
one_more m ms x xs flow zero e is rest = ap (λ a. cond (ltb 0 a) (x ∷ carrying xs) (carrying xs)) e ∙ rest
one_more m ms x xs flow (suc n) e is rest = ap (λ b. cond b (x ∷ carrying xs) (carrying xs)) (above (amount_of x) n e) ∙ (ap (λ y. y ∷ carrying xs) (sym is) ∙ ap (λ ys. m (suc n) ∷ ys) rest)

pub fill_lines : (ms : List Maker) (xs : List FlowLine) (h : Placed ms xs) → carrying xs ≡ carried ms (fill ms xs h)
fill_lines [] [] h = refl
fill_lines [] (x ∷ xs) h = absurd h
fill_lines (m ∷ ms) [] h = fill_lines ms [] tt
fill_lines (m ∷ ms) (x ∷ xs) (inl h) = one_more m ms x xs (fill ms xs h.1) (amount_of x) refl h.0 (fill_lines ms xs h.1)
fill_lines (m ∷ ms) (x ∷ xs) (inr h) = fill_lines ms (x ∷ xs) h

-- one line, at its place
placed_at : (ms : List Maker) (x : FlowLine) (xs : List FlowLine) (k : ℕ) (d : Maker) → k < length ms → get_or ms k d (amount_of x) ≡ x → Placed (drop (suc k) ms) xs → Placed ms (x ∷ xs)
placed_at [] x xs k d lt e rest = absurd (omega (arith, lt))
placed_at (m ∷ ms) x xs zero d lt e rest = inl (e, rest)
placed_at (m ∷ ms) x xs (suc k) d lt e rest = inr (placed_at ms x xs k d (omega (arith, lt)) e rest)

drop_again : {X : Type 0} (xs : List X) (i j : ℕ) → drop (suc i) (drop j xs) ≡ drop (suc (j + i)) xs
drop_again [] i zero = refl
drop_again [] i (suc j) = refl
drop_again (x ∷ xs) i zero = ap (λ p. drop p xs) (let e : i ≡ 0 + i = omega arith in e)
drop_again (x ∷ xs) i (suc j) = drop_again xs i j ∙ ap (λ p. drop p xs) (let e : suc (j + i) ≡ suc j + i = omega arith in e)

-- places among four lists one after another
module _ {X : Type 0} (a b c e : List X) (d : X) where
  at_first : (k : ℕ) → k < length a → get_or (((a ++ b) ++ c) ++ e) k d ≡ get_or a k d
  at_first k lt =
      get_or_append_left ((a ++ b) ++ c) e d k (omega (arith, lt, length-append (a ++ b) c, length-append a b))
      ∙ (get_or_append_left (a ++ b) c d k (omega (arith, lt, length-append a b)) ∙ get_or_append_left a b d k lt)

  at_second : (k : ℕ) → k < length b → get_or (((a ++ b) ++ c) ++ e) (length a + k) d ≡ get_or b k d
  at_second k lt =
      get_or_append_left ((a ++ b) ++ c) e d (length a + k) (omega (arith, lt, length-append (a ++ b) c, length-append a b))
      ∙ (get_or_append_left (a ++ b) c d (length a + k) (omega (arith, lt, length-append a b)) ∙ get_or-append-add a b k d)

  at_third : (k : ℕ) → k < length c → get_or (((a ++ b) ++ c) ++ e) (length (a ++ b) + k) d ≡ get_or c k d
  at_third k lt =
      get_or_append_left ((a ++ b) ++ c) e d (length (a ++ b) + k) (omega (arith, lt, length-append (a ++ b) c)) ∙ get_or-append-add (a ++ b) c k d

  at_fourth : (k : ℕ) → get_or (((a ++ b) ++ c) ++ e) (length ((a ++ b) ++ c) + k) d ≡ get_or e k d
  at_fourth k = get_or-append-add ((a ++ b) ++ c) e k d

module _ (s : System) (is : IsSystem s) where
  abbrev holds : List Maker
  holds = map hold_maker (range_with_len 0 (image_count s))

  abbrev starts : List Maker
  starts = map start_maker (range_with_len s.stencils.inputs (image_count s - s.stencils.inputs))

  abbrev reads : List Maker
  reads = map read_maker (placed_reads s)

  abbrev keeps : List Maker
  keeps = map keep_maker (placed_reads s)

  abbrev none : Maker
  none = hold_maker 0

  hold_count : length holds ≡ image_count s
  hold_count = length-map-range_with_len hold_maker 0 (image_count s)

  start_count : length starts ≡ image_count s - s.stencils.inputs
  start_count = length-map-range_with_len start_maker s.stencils.inputs (image_count s - s.stencils.inputs)

  two_count : length (holds ++ starts) ≡ image_count s + (image_count s - s.stencils.inputs)
  two_count = omega (arith, length-append holds starts, hold_count, start_count)

  three_count : length ((holds ++ starts) ++ reads) ≡ image_count s + (image_count s - s.stencils.inputs) + length (placed_reads s)
  three_count = omega (arith, length-append (holds ++ starts) reads, two_count, length-map (placed_reads s) read_maker)

  pub maker_count : length (makers s) ≡ image_count s + (image_count s - s.stencils.inputs) + length (placed_reads s) + length (placed_reads s)
  maker_count = omega (arith, length-append ((holds ++ starts) ++ reads) keeps, three_count, length-map (placed_reads s) keep_maker)

  rank_within : (x : FlowLine) (h : HasConstraint s x) → rank s is x h < length (makers s)
  rank_within (Hold g n) h = omega (arith, h, maker_count)
  rank_within (Start f n) h = omega (arith, h.0, h.1, maker_count)
  rank_within (Read f g dx dy n) h = omega (arith, h.1, maker_count)
  rank_within (Keep f g dx dy n) h = omega (arith, h.1, maker_count)

  -- the constraint that a line names makes this line
  maker_at : (x : FlowLine) (h : HasConstraint s x) → get_or (makers s) (rank s is x h) none (amount_of x) ≡ x
  maker_at (Hold g n) h =
      ap (λ (m : Maker). m n) (at_first holds starts reads keeps none g (omega (arith, h, hold_count)) ∙ get_or-map-range_with_len hold_maker 0 (image_count s) g g none h (omega arith))
  maker_at (Start f n) h =
      let k = f - s.stencils.inputs in
      let e : image_count s + k ≡ length holds + k = omega (arith, hold_count) in
      ap (λ (m : Maker). m n) (ap (λ j. get_or (makers s) j none) e ∙ (at_second holds starts reads keeps none k (omega (arith, h.0, h.1, start_count))
      ∙ get_or-map-range_with_len start_maker s.stencils.inputs (image_count s - s.stencils.inputs) k f none (omega (arith, h.0, h.1)) (omega (arith, h.0))))
  maker_at (Read f g dx dy n) h =
      let e : image_count s + (image_count s - s.stencils.inputs) + h.0 ≡ length (holds ++ starts) + h.0 = omega (arith, two_count) in
      ap (λ (m : Maker). m n) (ap (λ j. get_or (makers s) j none) e ∙ (at_third holds starts reads keeps none h.0 (omega (arith, h.1, length-map (placed_reads s) read_maker))
      ∙ (get_or-map read_maker (placed_reads s) h.0 (read_at f g dx dy) none h.1 ∙ ap read_maker h.2)))
  maker_at (Keep f g dx dy n) h =
      let e : image_count s + (image_count s - s.stencils.inputs) + length (placed_reads s) + h.0 ≡ length ((holds ++ starts) ++ reads) + h.0 = omega (arith, three_count) in
      ap (λ (m : Maker). m n) (ap (λ j. get_or (makers s) j none) e ∙ (at_fourth holds starts reads keeps none h.0
      ∙ (get_or-map keep_maker (placed_reads s) h.0 (read_at f g dx dy) none h.1 ∙ ap keep_maker h.2)))

  -- one line, where those before it are taken away
  one_line : (j : ℕ) (x : FlowLine) (xs : List FlowLine) (h : HasConstraint s x) → j ≤ rank s is x h → Placed (drop (suc (rank s is x h)) (makers s)) xs → Placed (drop j (makers s)) (x ∷ xs)
  one_line j x xs h le rest =
      let k = rank s is x h in
      let whole : j + (k - j) ≡ k = omega (arith, le) in
      let here : get_or (drop j (makers s)) (k - j) none ≡ get_or (makers s) k none = get_or-drop j (makers s) (k - j) none ∙ ap (λ p. get_or (makers s) p none) whole in
      placed_at (drop j (makers s)) x xs (k - j) none (omega (arith, le, rank_within x h, length-drop j (makers s)))
      (ap (λ (m : Maker). m (amount_of x)) here ∙ maker_at x h)
      (subst (λ ms. Placed ms xs) (sym (drop_again (makers s) (k - j) j ∙ ap (λ p. drop (suc p) (makers s)) whole)) rest)

  placed_from : (j : ℕ) (x : FlowLine) (xs : List FlowLine) (h : HasConstraint s x) → AllByRecursion (HasConstraint s) xs → Ascend (x ∷ xs) → j ≤ rank s is x h → Placed (drop j (makers s)) (x ∷ xs)
  placed_from j x [] h all up le = one_line j x [] h le tt
  placed_from j x (y ∷ ys) h all up le = one_line j x (y ∷ ys) h le (placed_from (suc (rank s is x h)) y ys all.0 all.1 up.1 (rank_rises s is x y h all.0 up.0))

  pub placed_all : (xs : List FlowLine) → AllByRecursion (HasConstraint s) xs → Ascend xs → Placed (makers s) xs
  placed_all [] all up = tt
  placed_all (x ∷ xs) all up = placed_from 0 x xs all.0 all.1 up (omega arith)
