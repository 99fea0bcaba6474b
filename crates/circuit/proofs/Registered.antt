-- The bits of registers, as tests, buffers and outputs are added.
use Rattle.std.proofs.Common.{◌≡◌, ◌⊎◌, ℕ, zero, suc, ◌+◌, ◌<◌, ◌≤◌, ◌==◌, Bool, true, false, List, [], ◌∷◌, ◌++◌, length, map, take, length-take-le, refl, sym, ap, subst, ◌∙◌, inl, inr, arith}
use Rattle.std.specs.Prelude.{ℤ, Option, Contains, ◌||◌, if◌then◌else◌, fold, filter, not, sum, sum_by, slice_index, slice_index_or}
use Rattle.std.specs.List.{list_any}
use Rattle.std.proofs.lemmas.Bool.{eqb-true, eq-eqb}
use Rattle.std.proofs.lemmas.List.{map-append, length-map, get_or-map, get_or-take, get_or_default, take_more}
use Rattle.std.proofs.lemmas.List.Sums.{fold-append, sum_by-append, sum_by_push}
use Rattle.std.proofs.lemmas.List.Elements.{filter-append, Contains-append_left, Contains-append_right}
use Rattle.dk_base.specs.Frames.{Size}
use Rattle.dk_base.specs.FrameSizes.{size_of}
use Rattle.wiring.specs.declared.netlist.Shape.{Shape}
use Rattle.wiring.specs.Netlist.{Netlist}
use Rattle.net_build.specs.Logic.{AddsLogic}
use Rattle.net_build.specs.Registers.{register_bits, with_new, distinct}
use Rattle.pointwise_ir.specs.Programs.{Program}
use Rattle.edge_select.specs.declared.step.Step.{Step}
use Rattle.edge_select.specs.declared.frame_tests.Test.{Test}
use Rattle.edge_select.specs.declared.frame_tests.FrameTests.{FrameTests}
use Rattle.edge_select.specs.FrameTests.{AreFrameTests, CountsTests, test_bits, start_bits}
use Rattle.edge_select.specs.Asked.{InColumn, InRow, SeparatesColumns, SeparatesRows, AddsOnly, AddsFor}
use Rattle.edge_select.proofs.Asked.{only_same, only_by, only_on, no_columns, no_rows, no_bits}
use Rattle.line_buffer.specs.declared.sharing.Turns.{Turns}
use Rattle.line_buffer.specs.SharedCounters.{CountsTurns, line_words, block_words, index_bits, long_words, short_words, copy_bits}
use Rattle.buffer_plan.specs.Plans.{Plan, IsPlan, delay_of, latency_of}
use Rattle.circuit.specs.Leaves.{LeafRead}
use Rattle.circuit.proofs.Choosing.{push_in, old_in, last_in}
use Rattle.circuit.proofs.Sourced.{any_of}
use Rattle.dk_base.specs.declared.stencils.LiveRead.{LiveRead}
use Rattle.circuit.specs.Taps.{size_in}
use Rattle.circuit.specs.Reads.{reads_in}
use Rattle.circuit.specs.Registers.{Condition, LeadsBy, Meets, AsksRead, AsksLeaf, AsksParts, Asks, IsAsked, NeedsNoTest, ColumnsFor, RowsFor, AreAsked, AddsNeeded, CountsRegisters, latencies, latency_bits, AddsLatency}

-- a number is in a list where a test of equality says so
any_has : (xs : List ℕ) (a : ℕ) → list_any (λ (x : ℕ). x == a) xs ≡ true → Contains xs a
any_has [] a e = absurd (let f : ⊥ = cc in f)
any_has (x ∷ xs) a e = by (x == a) refl e (λ h. any_has xs a h)
  where
    later : Contains xs a → Contains (x ∷ xs) a
    later (k, lt, f) = (suc k, (let h : suc k < length (x ∷ xs) = omega (arith, lt) in h), f)

    by : (t : Bool) → (x == a) ≡ t → (t || list_any (λ (y : ℕ). y == a) xs) ≡ true → (list_any (λ (y : ℕ). y == a) xs ≡ true → Contains xs a) → Contains (x ∷ xs) a
    by true same h rest = (0, omega arith, eqb-true x a same)
    by false same h rest = later (rest h)

has_any : (xs : List ℕ) (a : ℕ) → Contains xs a → list_any (λ (x : ℕ). x == a) xs ≡ true
has_any xs a has = any_of (λ (x : ℕ). x == a) xs a has (eq-eqb a a refl)

-- a test for a condition that is asked, and for one that is asked for more
columns_by : (plan : Plan) (P Q : Condition → Type 0) (t : Test) → ((c : Condition) → P c → Q c) → ColumnsFor plan P t → ColumnsFor plan Q t
columns_by plan P Q t more is = (is.0, more is.0 is.1, is.2)

rows_by : (plan : Plan) (P Q : Condition → Type 0) (t : Test) → ((c : Condition) → P c → Q c) → RowsFor plan P t → RowsFor plan Q t
rows_by plan P Q t more is = (is.0, more is.0 is.1, is.2)

-- nothing, wires, and one after another
pub needed_none : (b : Netlist) (t : FrameTests) (plan : Plan) (P : Condition → Type 0) → AddsNeeded b b t t plan P
needed_none b t plan P = record { counts = refl; only = only_same t (ColumnsFor plan P) (RowsFor plan P) }

pub needed_logic : (new old : Netlist) (t : FrameTests) (plan : Plan) (P : Condition → Type 0) → AddsLogic new old → AddsNeeded new old t t plan P
needed_logic new old t plan P is = record { counts = ap (λ (rs : List ℕ). sum rs + test_bits t) is.wires.regs; only = only_same t (ColumnsFor plan P) (RowsFor plan P) }

pub needed_by : (b a : Netlist) (j i : FrameTests) (plan : Plan) (P Q : Condition → Type 0) → ((c : Condition) → P c → Q c) → AddsNeeded b a j i plan P → AddsNeeded b a j i plan Q
needed_by b a j i plan P Q more is = record {
  counts = is.counts;
  only = only_by j i (ColumnsFor plan P) (RowsFor plan P) (ColumnsFor plan Q) (RowsFor plan Q) (λ t. columns_by plan P Q t more) (λ t. rows_by plan P Q t more) is.only;
}

pub needed_on : (c b a : Netlist) (k j i : FrameTests) (plan : Plan) (P Q R : Condition → Type 0) → AddsNeeded b a j i plan P → AddsNeeded c b k j plan Q → ((d : Condition) → P d → R d) → ((d : Condition) → Q d → R d) → AddsNeeded c a k i plan R
needed_on c b a k j i plan P Q R one other first second =
    let before = needed_by b a j i plan P R first one in
    let after = needed_by c b k j plan Q R second other in
    record {
      counts = (let e = before.counts in let f = after.counts in omega (arith, e, f));
      only = only_on k j i (ColumnsFor plan R) (RowsFor plan R) before.only after.only;
    }

-- and wires after it
pub needed_then : (c b a : Netlist) (j i : FrameTests) (plan : Plan) (P : Condition → Type 0) → AddsNeeded b a j i plan P → AddsLogic c b → AddsNeeded c a j i plan P
needed_then c b a j i plan P is logic = needed_on c b a j j i plan P P P is (needed_logic c b j plan P logic) (λ d h. h) (λ d h. h)

-- the frame tests of one condition
pub needed_tests : (b a : Netlist) (j i : FrameTests) (plan : Plan) (f delay : ℕ) (steps : List Step) (offset : Option (ℤ × ℤ)) → size_of i.size ≡ size_in plan → delay ≡ delay_of plan f → CountsTests b a j i → AddsFor (size_of i.size) delay (LeadsBy (size_of i.size) steps offset) j i →
    AddsNeeded b a j i plan (λ c. c ≡ record { image = f; steps = steps; offset = offset })
needed_tests b a j i plan f delay steps offset same late counts is =
    let c : Condition = record { image = f; steps = steps; offset = offset } in
    let P : Condition → Type 0 = λ d. d ≡ c in
    let here : AddsFor (size_in plan) (delay_of plan f) (LeadsBy (size_in plan) steps offset) j i =
    subst (λ (d : ℕ). AddsFor (size_in plan) d (LeadsBy (size_in plan) steps offset) j i) late (subst (λ (z : Size). AddsFor z delay (LeadsBy z steps offset) j i) same is) in
    record {
      counts = counts;
      only = only_by j i (SeparatesColumns (size_in plan) (delay_of plan f) (InColumn (size_in plan) (Meets (size_in plan) c))) (SeparatesRows (size_in plan) (delay_of plan f) (InRow (size_in plan) (Meets (size_in plan) c))) (ColumnsFor plan P) (RowsFor plan P) (λ t h. (c, refl, h)) (λ t h. (c, refl, h)) here;
    }

-- what a live read asks for, its leaf does
pub asks_at : (plan : Plan) (f : ℕ) (leaf : LeafRead) (items : List LiveRead) (i : ℕ) (d : LiveRead) → items ≡ reads_in plan f → i < length items → (c : Condition) → AsksRead f leaf (slice_index_or items i d) c → AsksLeaf plan f leaf c
asks_at plan f leaf items i d e lt c is = (slice_index_or items i d, subst (λ (rs : List LiveRead). Contains rs (slice_index_or items i d)) e (i, lt, get_or_default items i (slice_index_or items i d) d lt), is)

-- what one leaf or part asks for, and what some of them do
pub asks_leaf : (plan : Plan) (f : ℕ) (leaf : LeafRead) (c : Condition) → AsksLeaf plan f leaf c → Asks plan f (leaf ∷ []) [] c
asks_leaf plan f leaf c is = inl (leaf, (0, omega arith, refl), is)

pub asks_parts : (plan : Plan) (f : ℕ) (ls : List LeafRead) (ps qs : List (List Step)) (c : Condition) → AsksParts f ps c → Asks plan f ls (ps ++ qs) c
asks_parts plan f ls ps qs c (steps, has, is) = inr (steps, Contains-append_left ps qs steps has, is)

pub asks_left : (plan : Plan) (f : ℕ) (ls ms : List LeafRead) (ps qs : List (List Step)) (c : Condition) → Asks plan f ls ps c → Asks plan f (ls ++ ms) (ps ++ qs) c
asks_left plan f ls ms ps qs c (inl (leaf, has, is)) = inl (leaf, Contains-append_left ls ms leaf has, is)
asks_left plan f ls ms ps qs c (inr is) = asks_parts plan f (ls ++ ms) ps qs c is

pub asks_right : (plan : Plan) (f : ℕ) (ls ms : List LeafRead) (ps qs : List (List Step)) (c : Condition) → Asks plan f ms qs c → Asks plan f (ls ++ ms) (ps ++ qs) c
asks_right plan f ls ms ps qs c (inl (leaf, has, is)) = inl (leaf, Contains-append_right ls ms leaf has, is)
asks_right plan f ls ms ps qs c (inr (steps, has, is)) = inr (steps, Contains-append_right ps qs steps has, is)

-- frame tests that are asked for, with more of them
asked_more : (now before : FrameTests) (plan : Plan) (P : Condition → Type 0) → AddsOnly now before (ColumnsFor plan P) (RowsFor plan P) → AreAsked before plan P → AreAsked now plan P
asked_more now before plan P adds are = record {
  columns = λ t has. elim (adds.columns t has) as (λ _. ColumnsFor plan P t) [ inl old ↦ are.columns t old | inr new ↦ new ];
  rows = λ t has. elim (adds.rows t has) as (λ _. RowsFor plan P t) [ inl old ↦ are.rows t old | inr new ↦ new ];
}

-- where each condition has one result, there are no registers for frame tests
pub none_asked : (b : Netlist) (p : Program) (plan : Plan) (tests : FrameTests) → IsPlan plan → AreFrameTests b (size_in plan) tests → AreAsked tests plan (IsAsked p plan) → NeedsNoTest p plan → test_bits tests ≡ 0
none_asked b p plan tests is tests_are asked fixed =
    let some = is.system.stencils.frame.some_columns in
    let tall = is.system.stencils.frame.some_rows in
    no_bits b (size_in plan) tests tests_are
    (λ t has divides. let a = asked.columns t has in no_columns (size_in plan) some tall (delay_of plan a.0.image) (Meets (size_in plan) a.0) t a.2 divides (fixed a.0 a.1))
    (λ t has divides. let a = asked.rows t has in no_rows (size_in plan) some tall (delay_of plan a.0.image) (Meets (size_in plan) a.0) t a.2 divides (fixed a.0 a.1))

-- the shapes of arrays, with more behind
long_more : (long : (words : ℕ) → Bool) (xs ys : List Shape) → long_words long (xs ++ ys) ≡ long_words long xs ++ long_words long ys
long_more long xs ys = ap (map (λ (s : Shape). s.depth)) (filter-append (λ (s : Shape). long s.depth) xs ys) ∙ map-append (λ (s : Shape). s.depth) (filter (λ (s : Shape). long s.depth) xs) (filter (λ (s : Shape). long s.depth) ys)

short_more : (long : (words : ℕ) → Bool) (xs ys : List Shape) → short_words long (xs ++ ys) ≡ short_words long xs ++ short_words long ys
short_more long xs ys = ap (map (λ (s : Shape). s.depth)) (filter-append (λ (s : Shape). not (long s.depth)) xs ys) ∙ map-append (λ (s : Shape). s.depth) (filter (λ (s : Shape). not (long s.depth)) xs) (filter (λ (s : Shape). not (long s.depth)) ys)

copy_more : (long : (words : ℕ) → Bool) (xs ys : List Shape) → copy_bits long (xs ++ ys) ≡ copy_bits long xs + copy_bits long ys
copy_more long xs ys = ap (sum_by (λ (s : Shape). s.width)) (filter-append (λ (s : Shape). long s.depth) xs ys) ∙ sum_by-append (λ (s : Shape). s.width) (filter (λ (s : Shape). long s.depth) xs) (filter (λ (s : Shape). long s.depth) ys)

distinct_more : (xs ys zs was : List ℕ) → zs ≡ xs ++ ys → was ≡ distinct xs → fold with_new was ys ≡ distinct zs
distinct_more xs ys zs was all is = ap (λ (ws : List ℕ). fold with_new ws ys) is ∙ sym (fold-append with_new [] xs ys) ∙ ap distinct (sym all)

-- one image more
pub registers_more : (c b a : Netlist) (p : Program) (plan : Plan) (long : (words : ℕ) → Bool) (shapes : List Shape) (now before : Turns) (tests was : FrameTests) →
    b.arrays ≡ a.arrays → c.arrays ≡ b.arrays ++ shapes → AddsNeeded b a tests was plan (IsAsked p plan) → CountsTurns c b now before long shapes → CountsRegisters a p plan long before was → CountsRegisters c p plan long now tests
registers_more c b a p plan long shapes now before tests was kept added needed turns is =
    let all : c.arrays ≡ a.arrays ++ shapes = added ∙ ap (λ (ss : List Shape). ss ++ shapes) kept in
    record {
      lines = turns.lines ∙ distinct_more (short_words long a.arrays) (short_words long shapes) (short_words long c.arrays) (line_words before) (ap (short_words long) all ∙ short_more long a.arrays shapes) is.lines;
      blocks = turns.blocks ∙ distinct_more (long_words long a.arrays) (long_words long shapes) (long_words long c.arrays) (block_words before) (ap (long_words long) all ∙ long_more long a.arrays shapes) is.blocks;
      bits =
          let copies : copy_bits long c.arrays ≡ copy_bits long a.arrays + copy_bits long shapes = ap (copy_bits long) all ∙ copy_more long a.arrays shapes in
          let one = needed.counts in
          let other = turns.bits in
          let first = is.bits in
          omega (arith, copies, one, other, first);
      asked = asked_more tests was plan (IsAsked p plan) needed.only is.asked;
    }

-- no image yet
pub registers_none : (b : Netlist) (p : Program) (plan : Plan) (long : (words : ℕ) → Bool) (turns : Turns) (tests : FrameTests) → b.regs ≡ [] → b.arrays ≡ [] → line_words turns ≡ [] → block_words turns ≡ [] → test_bits tests ≡ 0 → CountsRegisters b p plan long turns tests
registers_none b p plan long turns tests no_regs no_arrays no_lines no_blocks no_tests = record {
  lines = no_lines ∙ ap (λ (ss : List Shape). distinct (short_words long ss)) (sym no_arrays);
  blocks = no_blocks ∙ ap (λ (ss : List Shape). distinct (long_words long ss)) (sym no_arrays);
  bits =
      let regs : register_bits b ≡ 0 = ap (λ (rs : List ℕ). sum rs) no_regs in
      let copies : copy_bits long b.arrays ≡ 0 = ap (copy_bits long) no_arrays in
      let lines : index_bits (line_words turns) ≡ 0 = ap index_bits no_lines in
      let blocks : index_bits (block_words turns) ≡ 0 = ap index_bits no_blocks in
      omega (arith, regs, copies, lines, blocks, no_tests);
  asked = record {
    columns = λ t has. (let h = has.1 in absurd (let f : ⊥ = omega (arith, h, no_tests) in f));
    rows = λ t has. (let h = has.1 in absurd (let f : ⊥ = omega (arith, h, no_tests) in f));
  };
}

-- which numbers a list has with one more that may be new
with_new_has : (xs : List ℕ) (x y : ℕ) → Contains (with_new xs x) y → Contains xs y ⊎ (x ≡ y)
with_new_has xs x y has = by (list_any (λ (z : ℕ). z == x) xs) has
  where
    by : (t : Bool) → Contains (if t then xs else xs ++ x ∷ []) y → Contains xs y ⊎ (x ≡ y)
    by true has = inl has
    by false has = push_in xs x y has

has_with_new : (xs : List ℕ) (x y : ℕ) → Contains xs y → Contains (with_new xs x) y
has_with_new xs x y has = by (list_any (λ (z : ℕ). z == x) xs)
  where
    by : (t : Bool) → Contains (if t then xs else xs ++ x ∷ []) y
    by true = has
    by false = old_in xs x y has

has_new : (xs : List ℕ) (x : ℕ) → Contains (with_new xs x) x
has_new xs x = by (list_any (λ (z : ℕ). z == x) xs) refl
  where
    by : (t : Bool) → list_any (λ (z : ℕ). z == x) xs ≡ t → Contains (if t then xs else xs ++ x ∷ []) x
    by true e = any_has xs x e
    by false e = last_in xs x

folded_has : (ys xs : List ℕ) (y : ℕ) → Contains (fold with_new xs ys) y → Contains xs y ⊎ Contains ys y
folded_has [] xs y has = inl has
folded_has (x ∷ ys) xs y has = elim (folded_has ys (with_new xs x) y has) [
  | inl first ↦ elim (with_new_has xs x y first) [
    | inl old ↦ inl old
    | inr same ↦ inr (0, omega arith, same)
  ]
  | inr (k, lt, e) ↦ inr (suc k, (let h : suc k < length (x ∷ ys) = omega (arith, lt) in h), e)
]

has_folded : (ys xs : List ℕ) (y : ℕ) → Contains xs y ⊎ Contains ys y → Contains (fold with_new xs ys) y
has_folded [] xs y (inl has) = has
has_folded [] xs y (inr (k, lt, e)) = absurd (let f : ⊥ = omega (arith, lt) in f)
has_folded (x ∷ ys) xs y (inl has) = has_folded ys (with_new xs x) y (inl (has_with_new xs x y has))
has_folded (x ∷ ys) xs y (inr (zero, lt, e)) = has_folded ys (with_new xs x) y (inl (subst (Contains (with_new xs x)) e (has_new xs x)))
has_folded (x ∷ ys) xs y (inr (suc k, lt, e)) = has_folded ys (with_new xs x) y (inr (k, (let h : k < length ys = omega (arith, lt) in h), e))

-- a number more counts once
pub counts_old : (f : ℕ → ℕ) (xs : List ℕ) (y : ℕ) → Contains xs y → sum_by f (distinct (xs ++ y ∷ [])) ≡ sum_by f (distinct xs)
counts_old f xs y has = ap (sum_by f) (fold-append with_new [] xs (y ∷ [])) ∙ by (list_any (λ (z : ℕ). z == y) (distinct xs)) refl
  where
    by : (t : Bool) → list_any (λ (z : ℕ). z == y) (distinct xs) ≡ t → sum_by f (with_new (distinct xs) y) ≡ sum_by f (distinct xs)
    by true e = ap (λ (t : Bool). sum_by f (if t then distinct xs else distinct xs ++ y ∷ [])) e
    by false e = absurd (let there : list_any (λ (z : ℕ). z == y) (distinct xs) ≡ true = has_any (distinct xs) y (has_folded xs [] y (inr has)) in let f : ⊥ = cc in f)

pub counts_new : (f : ℕ → ℕ) (xs : List ℕ) (y : ℕ) → (Contains xs y → ⊥) → sum_by f (distinct (xs ++ y ∷ [])) ≡ sum_by f (distinct xs) + f y
counts_new f xs y none = ap (sum_by f) (fold-append with_new [] xs (y ∷ [])) ∙ by (list_any (λ (z : ℕ). z == y) (distinct xs)) refl
  where
    not_there : Contains (distinct xs) y → ⊥
    not_there has = elim (folded_has xs [] y has) [
      | inl (k, lt, e) ↦ omega (arith, lt)
      | inr there ↦ none there
    ]

    by : (t : Bool) → list_any (λ (z : ℕ). z == y) (distinct xs) ≡ t → sum_by f (with_new (distinct xs) y) ≡ sum_by f (distinct xs) + f y
    by true e = absurd (not_there (any_has (distinct xs) y e))
    by false e = ap (λ (t : Bool). sum_by f (if t then distinct xs else distinct xs ++ y ∷ [])) e ∙ sum_by_push f (distinct xs) y

-- the latency of output k, as an entry of all
pub latency_at : (plan : Plan) (k : ℕ) → k < length plan.system.stencils.outputs → slice_index (latencies plan) k ≡ latency_of plan k
latency_at plan k lt = get_or-map (delay_of plan) plan.system.stencils.outputs k 0 0 lt

-- an output more, whose latency is that of an earlier one or new
module _ (plan : Plan) (tests : FrameTests) (k : ℕ) (lt : k < length plan.system.stencils.outputs) where
  abbrev front : List ℕ
  front = take k (latencies plan)

  long : length (latencies plan) ≡ length plan.system.stencils.outputs
  long = length-map plan.system.stencils.outputs (delay_of plan)

  next : take (suc k) (latencies plan) ≡ front ++ latency_of plan k ∷ []
  next =
      ap (λ (n : ℕ). take n (latencies plan)) (let e : suc k ≡ k + 1 = omega arith in e)
      ∙ take_more (latencies plan) k 0 (let h : k < length (latencies plan) = omega (arith, lt, long) in h)
      ∙ ap (λ (l : ℕ). take k (latencies plan) ++ l ∷ []) (latency_at plan k lt)

  front_has : (j : ℕ) → j < k → latency_of plan j ≡ latency_of plan k → Contains front (latency_of plan k)
  front_has j less same = (
    j,
    (let t = length-take-le k (latencies plan) (let h : k ≤ length (latencies plan) = omega (arith, lt, long) in h) in let h : j < length front = omega (arith, less, t) in h),
    get_or-take k (latencies plan) j (latency_of plan k) less ∙ get_or_default (latencies plan) j (latency_of plan k) 0 (omega (arith, less, lt, long)) ∙ latency_at plan j (omega (arith, less, lt)) ∙ same,
  )

  none_in_front : ((j : ℕ) → j < k → latency_of plan j ≡ latency_of plan k → ⊥) → Contains front (latency_of plan k) → ⊥
  none_in_front none (j, low, e) =
      let t = length-take-le k (latencies plan) (let h : k ≤ length (latencies plan) = omega (arith, lt, long) in h) in
      let less : j < k = omega (arith, low, t) in
      none j less (sym (latency_at plan j (omega (arith, less, lt))) ∙ sym (get_or_default (latencies plan) j (latency_of plan k) 0 (omega (arith, less, lt, long))) ∙ sym (get_or-take k (latencies plan) j (latency_of plan k) less) ∙ e)

  pub adds_old : (b : Netlist) (j : ℕ) → j < k → latency_of plan j ≡ latency_of plan k → AddsLatency b b plan tests k
  adds_old b j less same = ap (λ (n : ℕ). register_bits b + n) (sym (ap (latency_bits tests) next ∙ counts_old (start_bits tests.counters (size_of tests.size)) front (latency_of plan k) (front_has j less same)))

  pub adds_new : (new old : Netlist) → ((j : ℕ) → j < k → latency_of plan j ≡ latency_of plan k → ⊥) → register_bits new ≡ register_bits old + start_bits tests.counters (size_of tests.size) (latency_of plan k) → AddsLatency new old plan tests k
  adds_new new old none bits =
      let all = ap (latency_bits tests) next ∙ counts_new (start_bits tests.counters (size_of tests.size)) front (latency_of plan k) (none_in_front none) in
      omega (arith, bits, all)
