-- Columns of a frame and of its phases.
use Rattle.std.proofs.Common.{◌≡◌, inl, inr, ℕ, zero, suc, ◌+◌, ◌-◌, ◌*◌, ◌<◌, ◌≤◌, min, true, false, ℤ, pos, negsuc, ◌+ℤ◌, ◌*ℤ◌, ◌<ℤ◌, refl, ap, sym, ◌∙◌, subst, arith}
use Rattle.std.specs.Prelude.{IsTrue, ◌≤ℤ◌}
use Rattle.std.proofs.lemmas.Bool.{cases_lt}
use Rattle.std.proofs.lemmas.Bool.Decides.{nat_tests}
use Rattle.std.proofs.lemmas.Int.{ints}
use Rattle.dk_base.specs.Frames.{is_below, clamped}
use Rattle.dk_base.proofs.Rasters.{below_is}
use Rattle.same_phases.specs.Roles.{StaysInPhase}

-- a number of 2 to 8 is one of these
of_count : (P : ℕ → Type 0) → P 2 → P 3 → P 4 → P 5 → P 6 → P 7 → P 8 → (n : ℕ) → 2 ≤ n → n ≤ 8 → P n
of_count P two three four five six seven eight zero some most = absurd (omega (arith, some))
of_count P two three four five six seven eight (suc zero) some most = absurd (omega (arith, some))
of_count P two three four five six seven eight (suc (suc zero)) some most = two
of_count P two three four five six seven eight (suc (suc (suc zero))) some most = three
of_count P two three four five six seven eight (suc (suc (suc (suc zero)))) some most = four
of_count P two three four five six seven eight (suc (suc (suc (suc (suc zero))))) some most = five
of_count P two three four five six seven eight (suc (suc (suc (suc (suc (suc zero)))))) some most = six
of_count P two three four five six seven eight (suc (suc (suc (suc (suc (suc (suc zero))))))) some most = seven
of_count P two three four five six seven eight (suc (suc (suc (suc (suc (suc (suc (suc zero)))))))) some most = eight
of_count P two three four five six seven eight (suc (suc (suc (suc (suc (suc (suc (suc (suc n))))))))) some most = absurd (omega (arith, most))

-- products with a number of 2 to 8
abbrev IsMonotone : ℕ → Type 0
IsMonotone n = (a b : ℤ) → a ≤ℤ b → (pos n *ℤ a) ≤ℤ (pos n *ℤ b)

monotone : (n : ℕ) → 2 ≤ n → n ≤ 8 → IsMonotone n
monotone = of_count IsMonotone
    (λ a b h. omega (arith, ints, h)) (λ a b h. omega (arith, ints, h)) (λ a b h. omega (arith, ints, h)) (λ a b h. omega (arith, ints, h))
    (λ a b h. omega (arith, ints, h)) (λ a b h. omega (arith, ints, h)) (λ a b h. omega (arith, ints, h))

abbrev Distributes : ℕ → Type 0
Distributes n = (a b : ℤ) → (pos n *ℤ (a +ℤ b)) ≡ ((pos n *ℤ a) +ℤ (pos n *ℤ b))

distributes : (n : ℕ) → 2 ≤ n → n ≤ 8 → Distributes n
distributes = of_count Distributes
    (λ a b. omega (arith, ints)) (λ a b. omega (arith, ints)) (λ a b. omega (arith, ints)) (λ a b. omega (arith, ints))
    (λ a b. omega (arith, ints)) (λ a b. omega (arith, ints)) (λ a b. omega (arith, ints))

-- where a coordinate is
pub data Lies (limit : ℕ) (z : ℤ) : Type 0 where
  before : z <ℤ pos 0 → Lies limit z
  inside : pos 0 ≤ℤ z → z <ℤ pos limit → Lies limit z
  after : pos limit ≤ℤ z → Lies limit z

pub lies : (limit : ℕ) (z : ℤ) → Lies limit z
lies limit (negsuc n) = before (omega (arith, ints))
lies limit (pos n) = elim (cases_lt n limit) [ inl lt ↦ inside (omega (arith, ints)) (omega (arith, ints, lt)) | inr ge ↦ after (omega (arith, ints, ge)) ]

-- what the frame's tests and its edges say there
pub is_inside : (limit : ℕ) (z : ℤ) → pos 0 ≤ℤ z → z <ℤ pos limit → is_below z limit ≡ true
is_inside limit (pos n) low high = let lt : n < limit = omega (arith, ints, high) in grind (arith, nat_tests, lt)
is_inside limit (negsuc n) low high = absurd (omega (arith, ints, low))

pub is_before : (limit : ℕ) (z : ℤ) → z <ℤ pos 0 → is_below z limit ≡ false
is_before limit (pos n) h = absurd (omega (arith, ints, h))
is_before limit (negsuc n) h = refl

pub is_after : (limit : ℕ) (z : ℤ) → pos limit ≤ℤ z → is_below z limit ≡ false
is_after limit (pos n) h = let ge : limit ≤ n = omega (arith, ints, h) in grind (arith, nat_tests, ge)
is_after limit (negsuc n) h = refl

pub bounds : (limit : ℕ) (z : ℤ) → IsTrue (is_below z limit) → (pos 0 ≤ℤ z) × (z <ℤ pos limit)
bounds limit z below = let (n, is, lt) = below_is z limit below in subst (λ (u : ℤ). (pos 0 ≤ℤ u) × (u <ℤ pos limit)) (sym is) (omega (arith, ints), omega (arith, ints, lt))

pub clamped_inside : (limit : ℕ) (z : ℤ) → pos 0 ≤ℤ z → z <ℤ pos limit → clamped limit z ≡ z
clamped_inside limit (pos n) low high = ap pos (let e : min n (limit - 1) ≡ n = omega (arith, ints, high) in e)
clamped_inside limit (negsuc n) low high = absurd (omega (arith, ints, low))

pub clamped_before : (limit : ℕ) (z : ℤ) → z ≤ℤ pos 0 → clamped limit z ≡ pos 0
clamped_before limit (pos n) h = ap pos (let e : min n (limit - 1) ≡ 0 = omega (arith, ints, h) in e)
clamped_before limit (negsuc n) h = refl

pub clamped_after : (limit : ℕ) (z : ℤ) → pos limit ≤ℤ (z +ℤ pos 1) → clamped limit z ≡ pos (limit - 1)
clamped_after limit (pos n) h = ap pos (let e : min n (limit - 1) ≡ limit - 1 = omega (arith, ints, h) in e)
clamped_after limit (negsuc n) h = ap pos (let e : 0 ≡ limit - 1 = omega (arith, ints, h) in e)

-- Phase r of n phases at column x is the frame's column `n * x + r`.
abbrev pub column : (n : ℕ) (x : ℤ) (r : ℕ) → ℤ
column n x r = (pos n *ℤ x) +ℤ pos r

pub column_inside : (n : ℕ) → 2 ≤ n → n ≤ 8 → (r width : ℕ) → r < n → (x : ℤ) → pos 0 ≤ℤ x → x <ℤ pos width → (pos 0 ≤ℤ column n x r) × (column n x r <ℤ pos (n * width))
column_inside n some most r width lt x low high =
    let first = monotone n some most (pos 0) x low in
    let last = monotone n some most (x +ℤ pos 1) (pos width) (omega (arith, ints, high)) in
    let apart = distributes n some most x (pos 1) in
    (omega (arith, ints, first), omega (arith, ints, last, apart, lt))

pub column_before : (n : ℕ) → 2 ≤ n → n ≤ 8 → (r : ℕ) → r < n → (x : ℤ) → x <ℤ pos 0 → column n x r <ℤ pos 0
column_before n some most r lt x h =
    let first = monotone n some most (x +ℤ pos 1) (pos 0) (omega (arith, ints, h)) in
    let apart = distributes n some most x (pos 1) in
    omega (arith, ints, first, apart, lt)

pub column_after : (n : ℕ) → 2 ≤ n → n ≤ 8 → (r width : ℕ) → (x : ℤ) → pos width ≤ℤ x → pos (n * width) ≤ℤ column n x r
column_after n some most r width x h = let last = monotone n some most (pos width) x h in omega (arith, ints, last)

-- a point is in the frame where its column's group is in the phase's frame
pub below_same : (n : ℕ) → 2 ≤ n → n ≤ 8 → (r width : ℕ) → r < n → (x : ℤ) → is_below (column n x r) (n * width) ≡ is_below x width
below_same n some most r width lt x = by (lies width x)
  where
    by : Lies width x → is_below (column n x r) (n * width) ≡ is_below x width
    by (before h) = is_before (n * width) (column n x r) (column_before n some most r lt x h) ∙ sym (is_before width x h)
    by (inside low high) = let there = column_inside n some most r width lt x low high in is_inside (n * width) (column n x r) there.0 there.1 ∙ sym (is_inside width x low high)
    by (after h) = is_after (n * width) (column n x r) (column_after n some most r width x h) ∙ sym (is_after width x h)

-- the last column of the frame is the last phase's
pub last_column : (n width : ℕ) → 2 ≤ n → n ≤ 8 → 1 ≤ width → (r : ℕ) → r + 1 ≡ n → pos (n * width - 1) ≡ column n (pos (width - 1)) r
last_column n width some most wide r last =
    let apart = distributes n some most (pos (width - 1)) (pos 1) in
    let whole : ((pos (width - 1)) +ℤ pos 1) ≡ pos width = omega (arith, ints, wide) in
    let all : (pos n *ℤ ((pos (width - 1)) +ℤ pos 1)) ≡ pos (n * width) = ap (λ z. pos n *ℤ z) whole in
    let low = monotone n some most (pos 0) (pos (width - 1)) (omega (arith, ints)) in
    omega (arith, ints, apart, all, last, low)

-- the nearest column of the frame is the phase's nearest one, where a read of the phase leaves the frame on its own side only
pub clamped_same : (n : ℕ) → 2 ≤ n → n ≤ 8 → (r width : ℕ) → r < n → (x q : ℤ) → pos 0 ≤ℤ x → x <ℤ pos width → StaysInPhase n q r →
    column n (clamped width (x +ℤ q)) r ≡ clamped (n * width) (column n (x +ℤ q) r)
clamped_same n some most r width lt x q low high stays = by (lies width (x +ℤ q)) stays
  where
    at : (z : ℤ) → clamped width (x +ℤ q) ≡ z → column n (clamped width (x +ℤ q)) r ≡ column n z r
    at z is = ap (λ u. column n u r) is

    wide : 1 ≤ width
    wide = omega (arith, ints, low, high)

    by : Lies width (x +ℤ q) → StaysInPhase n q r → column n (clamped width (x +ℤ q)) r ≡ clamped (n * width) (column n (x +ℤ q) r)
    by (inside first last) s =
        let there = column_inside n some most r width lt (x +ℤ q) first last in
        at (x +ℤ q) (clamped_inside width (x +ℤ q) first last) ∙ sym (clamped_inside (n * width) (column n (x +ℤ q) r) there.0 there.1)
    by (before h) (inl none) = absurd (omega (arith, ints, h, none, low))
    by (before h) (inr (inl left)) =
        let there = column_before n some most r lt (x +ℤ q) h in
        at (pos 0) (clamped_before width (x +ℤ q) (omega (arith, ints, h))) ∙ ap pos (let e : n * 0 + r ≡ 0 = omega (arith, left.1) in e) ∙ sym (clamped_before (n * width) (column n (x +ℤ q) r) (omega (arith, ints, there)))
    by (before h) (inr (inr right)) = absurd (omega (arith, ints, h, low, right.0))
    by (after h) (inl none) = absurd (omega (arith, ints, h, none, high))
    by (after h) (inr (inl left)) = absurd (omega (arith, ints, h, high, left.0))
    by (after h) (inr (inr right)) =
        let there = column_after n some most r width (x +ℤ q) h in
        at (pos (width - 1)) (clamped_after width (x +ℤ q) (omega (arith, ints, h))) ∙ sym (last_column n width some most wide r right.1)
        ∙ sym (clamped_after (n * width) (column n (x +ℤ q) r) (omega (arith, ints, there)))

-- a read by dx from phase p at x, as one by q of phase r
pub column_moved : (n : ℕ) → 2 ≤ n → n ≤ 8 → (p r : ℕ) (x q dx : ℤ) → ((pos n *ℤ q) +ℤ pos r) ≡ (pos p +ℤ dx) → (column n x p +ℤ dx) ≡ column n (x +ℤ q) r
column_moved n some most p r x q dx is = let apart = distributes n some most x q in omega (arith, ints, apart, is)
