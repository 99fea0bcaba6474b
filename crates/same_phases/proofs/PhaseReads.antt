-- Reads of phases and of columns.
use Rattle.std.proofs.Common.{◌≡◌, inl, inr, ℕ, ◌+◌, ◌-◌, ◌*◌, ◌<◌, ◌≤◌, Bool, true, false, ◌&&◌, ℤ, pos, ◌+ℤ◌, ◌*ℤ◌, ◌<ℤ◌, refl, ap, sym, ◌∙◌, arith, if◌then◌else◌}
use Rattle.std.specs.Prelude.{IsTrue, ◌≤ℤ◌}
use Rattle.std.proofs.lemmas.Int.{ints}
use Rattle.dk_base.specs.Frames.{Size, Picture, is_below, in_frame, clamped, framed}
use Rattle.dk_base.specs.Operators.{select_value}
use Rattle.dk_base.proofs.Rasters.{inside_is}
use Rattle.same_phases.specs.Phases.{phase_of}
use Rattle.same_phases.specs.Roles.{StaysInPhase, IsNearer}
use Rattle.same_phases.proofs.Arithmetic.{Lies, before, inside, after, lies, is_inside, is_before, is_after, bounds, clamped_inside, clamped_before, clamped_after, column, column_inside, column_before, column_after, below_same, clamped_same, column_moved, last_column}

-- The sizes of the frames: n phases, and of each the frame `new`.
pub record AreSizes (n : ℕ) (old new : Size) : Type 0 where
  pub some : 2 ≤ n
  pub most : n ≤ 8
  pub width : old.width ≡ n * new.width
  pub height : new.height ≡ old.height

-- the picture `new` is phase r of `old`
abbrev pub Shows : (n r : ℕ) → (old new : Picture) → Type 0
Shows n r old new = (x y : ℤ) → new x y ≡ phase_of n r old x y

pub frame_same : (n : ℕ) (old new : Size) → AreSizes n old new → (r : ℕ) → r < n → (x y : ℤ) → in_frame old (column n x r) y ≡ in_frame new x y
frame_same n old new sizes r lt x y =
    ap (λ w. is_below (column n x r) w && is_below y old.height) sizes.width
    ∙ ap (λ b. b && is_below y old.height) (below_same n sizes.some sizes.most r new.width lt x)
    ∙ ap (λ h. is_below x new.width && is_below y h) (sym sizes.height)

-- a picture that is 0 outside its frame
pub framed_same : (n : ℕ) (old new : Size) → AreSizes n old new → (r : ℕ) → r < n → (p q : Picture) → ((x y : ℤ) → IsTrue (in_frame new x y) → q x y ≡ p (column n x r) y) →
    (x y : ℤ) → framed new q x y ≡ framed old p (column n x r) y
framed_same n old new sizes r lt p q same x y = by (in_frame new x y) refl ∙ sym (ap (λ b. if b then p (column n x r) y else pos 0) (frame_same n old new sizes r lt x y))
  where
    by : (b : Bool) → in_frame new x y ≡ b → (if b then q x y else pos 0) ≡ (if b then p (column n x r) y else pos 0)
    by true h = same x y h
    by false h = refl

-- an unclamped read
pub unclamped_reads : (n : ℕ) (old new : Size) → AreSizes n old new → (p r : ℕ) → r < n → (q dx dy : ℤ) → ((pos n *ℤ q) +ℤ pos r) ≡ (pos p +ℤ dx) → (g h : Picture) → Shows n r g h →
    (x y : ℤ) → framed new h (x +ℤ q) (y +ℤ dy) ≡ framed old g (column n x p +ℤ dx) (y +ℤ dy)
unclamped_reads n old new sizes p r lt q dx dy is g h shows x y =
    framed_same n old new sizes r lt g h (λ u v _. shows u v) (x +ℤ q) (y +ℤ dy)
    ∙ ap (λ u. framed old g u (y +ℤ dy)) (sym (column_moved n sizes.some sizes.most p r x q dx is))

-- a clamped read of a phase
pub clamped_reads : (n : ℕ) (old new : Size) → AreSizes n old new → (p r : ℕ) → r < n → (q dx dy : ℤ) → ((pos n *ℤ q) +ℤ pos r) ≡ (pos p +ℤ dx) → StaysInPhase n q r → (g h : Picture) → Shows n r g h →
    (x y : ℤ) → IsTrue (in_frame new x y) →
    h (clamped new.width (x +ℤ q)) (clamped new.height (y +ℤ dy)) ≡ g (clamped old.width (column n x p +ℤ dx)) (clamped old.height (y +ℤ dy))
clamped_reads n old new sizes p r lt q dx dy is stays g h shows x y within =
    let across = bounds new.width x (inside_is new x y within).0 in
    shows (clamped new.width (x +ℤ q)) (clamped new.height (y +ℤ dy))
    ∙ ap (λ u. g u (clamped new.height (y +ℤ dy))) (clamped_same n sizes.some sizes.most r new.width lt x q across.0 across.1 stays)
    ∙ ap (λ w. g (clamped w (column n (x +ℤ q) r)) (clamped new.height (y +ℤ dy))) (sym sizes.width)
    ∙ ap (λ u. g (clamped old.width u) (clamped new.height (y +ℤ dy))) (sym (column_moved n sizes.some sizes.most p r x q dx is))
    ∙ ap (λ w. g (clamped old.width (column n x p +ℤ dx)) (clamped w (y +ℤ dy))) sizes.height

-- a coordinate of the frame that is not moved
pub not_moved : (limit : ℕ) (z : ℤ) → IsTrue (is_below z limit) → clamped limit (z +ℤ pos 0) ≡ z
not_moved limit z below =
    let there = bounds limit z below in
    ap (clamped limit) (let e : (z +ℤ pos 0) ≡ z = omega (arith, ints) in e) ∙ clamped_inside limit z there.0 there.1

clamped_below : (limit : ℕ) (z : ℤ) → 1 ≤ limit → is_below (clamped limit z) limit ≡ true
clamped_below limit z some = by (lies limit z)
  where
    at : (u : ℤ) → clamped limit z ≡ u → pos 0 ≤ℤ u → u <ℤ pos limit → is_below (clamped limit z) limit ≡ true
    at u is low high = ap (λ v. is_below v limit) is ∙ is_inside limit u low high

    by : Lies limit z → is_below (clamped limit z) limit ≡ true
    by (before h) = at (pos 0) (clamped_before limit z (omega (arith, ints, h))) (omega (arith, ints)) (omega (arith, ints, some))
    by (inside low high) = at z (clamped_inside limit z low high) low high
    by (after h) = at (pos (limit - 1)) (clamped_after limit z (omega (arith, ints, h))) (omega (arith, ints)) (omega (arith, ints, some))

-- a clamped read of a column
pub column_reads : (n : ℕ) (old new : Size) → AreSizes n old new → (p : ℕ) (c dx dy : ℤ) → c ≡ (pos p +ℤ dx) → (g h : Picture) →
    ((x y : ℤ) → IsTrue (in_frame new x y) → h x y ≡ g (clamped old.width ((pos n *ℤ x) +ℤ c)) y) → (x y : ℤ) → IsTrue (in_frame new x y) →
    h (clamped new.width (x +ℤ pos 0)) (clamped new.height (y +ℤ dy)) ≡ g (clamped old.width (column n x p +ℤ dx)) (clamped old.height (y +ℤ dy))
column_reads n old new sizes p c dx dy is g h shows x y within =
    let parts = inside_is new x y within in
    let down = bounds new.height y parts.1 in
    let high : 1 ≤ new.height = omega (arith, ints, down.0, down.1) in
    let v = clamped new.height (y +ℤ dy) in
    let there : in_frame new x v ≡ true = ap (λ b. b && is_below v new.height) parts.0 ∙ clamped_below new.height (y +ℤ dy) high in
    ap (λ u. h u v) (not_moved new.width x parts.0)
    ∙ shows x v there
    ∙ ap (λ u. g (clamped old.width u) v) (let e : ((pos n *ℤ x) +ℤ c) ≡ (column n x p +ℤ dx) = omega (arith, ints, is) in e)
    ∙ ap (λ w. g (clamped old.width (column n x p +ℤ dx)) (clamped w (y +ℤ dy))) sizes.height

-- what a column's body gives: at a group inside the frame the phase, and else the outermost column on that side
pub chosen_column : (n : ℕ) (old new : Size) → AreSizes n old new → (r e : ℕ) → r < n → e < n → (q near c : ℤ) → c ≡ ((pos n *ℤ q) +ℤ pos r) → IsNearer n q near e → (g f h i : Picture) →
    ((x y : ℤ) → f x y ≡ (if in_frame new x y then pos 1 else pos 0)) → Shows n r g h → Shows n e g i → (x y : ℤ) → IsTrue (in_frame new x y) →
    select_value (framed new f (x +ℤ q) (y +ℤ pos 0)) (framed new h (x +ℤ q) (y +ℤ pos 0)) (i (clamped new.width (x +ℤ near)) (clamped new.height (y +ℤ pos 0)))
    ≡ g (clamped old.width ((pos n *ℤ x) +ℤ c)) y
chosen_column n old new sizes r e lt below q near c is nearer g f h i tests shows ends x y within = by (lies new.width (x +ℤ q)) nearer
  where
    parts : IsTrue (is_below x new.width) × IsTrue (is_below y new.height)
    parts = inside_is new x y within

    across : (pos 0 ≤ℤ x) × (x <ℤ pos new.width)
    across = bounds new.width x parts.0

    down : (y +ℤ pos 0) ≡ y
    down = omega (arith, ints)

    chosen : ℤ
    chosen = select_value (framed new f (x +ℤ q) (y +ℤ pos 0)) (framed new h (x +ℤ q) (y +ℤ pos 0)) (i (clamped new.width (x +ℤ near)) (clamped new.height (y +ℤ pos 0)))

    here : (b : Bool) → in_frame new (x +ℤ q) (y +ℤ pos 0) ≡ b → framed new f (x +ℤ q) (y +ℤ pos 0) ≡ (if b then pos 1 else pos 0)
    here true there = ap (λ b. if b then f (x +ℤ q) (y +ℤ pos 0) else pos 0) there ∙ tests (x +ℤ q) (y +ℤ pos 0) ∙ ap (λ b. if b then pos 1 else pos 0) there
    here false there = ap (λ b. if b then f (x +ℤ q) (y +ℤ pos 0) else pos 0) there

    picked : (b : Bool) → in_frame new (x +ℤ q) (y +ℤ pos 0) ≡ b → chosen ≡ (if b then h (x +ℤ q) (y +ℤ pos 0) else i (clamped new.width (x +ℤ near)) (clamped new.height (y +ℤ pos 0)))
    picked true there =
        ap (λ v. select_value v (framed new h (x +ℤ q) (y +ℤ pos 0)) (i (clamped new.width (x +ℤ near)) (clamped new.height (y +ℤ pos 0)))) (here true there)
        ∙ ap (λ b. if b then h (x +ℤ q) (y +ℤ pos 0) else pos 0) there
    picked false there = ap (λ v. select_value v (framed new h (x +ℤ q) (y +ℤ pos 0)) (i (clamped new.width (x +ℤ near)) (clamped new.height (y +ℤ pos 0)))) (here false there)

    group : (b : Bool) → is_below (x +ℤ q) new.width ≡ b → in_frame new (x +ℤ q) (y +ℤ pos 0) ≡ b
    group true at = ap (λ b. b && is_below (y +ℤ pos 0) new.height) at ∙ ap (λ v. is_below v new.height) down ∙ parts.1
    group false at = ap (λ b. b && is_below (y +ℤ pos 0) new.height) at

    whole : ((pos n *ℤ x) +ℤ c) ≡ column n (x +ℤ q) r
    whole = sym (let apart = column_moved n sizes.some sizes.most 0 r x q c (let e : ((pos n *ℤ q) +ℤ pos r) ≡ (pos 0 +ℤ c) = omega (arith, ints, is) in e) in let e : column n (x +ℤ q) r ≡ ((pos n *ℤ x) +ℤ c) = omega (arith, ints, apart) in e)

    edge : (z : ℤ) → clamped new.width (x +ℤ near) ≡ z → i (clamped new.width (x +ℤ near)) (clamped new.height (y +ℤ pos 0)) ≡ g (column n z e) y
    edge z at = ap (λ u. i u (clamped new.height (y +ℤ pos 0))) at ∙ ap (i z) (not_moved new.height y parts.1) ∙ ends z y

    seen : (u : ℤ) → clamped (n * new.width) (column n (x +ℤ q) r) ≡ u → g u y ≡ g (clamped old.width ((pos n *ℤ x) +ℤ c)) y
    seen u at = sym (ap (λ w. g (clamped w ((pos n *ℤ x) +ℤ c)) y) sizes.width ∙ ap (λ z. g (clamped (n * new.width) z) y) whole ∙ ap (λ z. g z y) at)

    wide : 1 ≤ new.width
    wide = omega (arith, ints, across.0, across.1)

    by : Lies new.width (x +ℤ q) → IsNearer n q near e → chosen ≡ g (clamped old.width ((pos n *ℤ x) +ℤ c)) y
    by (inside low high) k =
        let there = column_inside n sizes.some sizes.most r new.width lt (x +ℤ q) low high in
        picked true (group true (is_inside new.width (x +ℤ q) low high))
        ∙ ap (h (x +ℤ q)) down ∙ shows (x +ℤ q) y
        ∙ seen (column n (x +ℤ q) r) (clamped_inside (n * new.width) (column n (x +ℤ q) r) there.0 there.1)
    by (before out) (inl left) =
        let there = column_before n sizes.some sizes.most r lt (x +ℤ q) out in
        picked false (group false (is_before new.width (x +ℤ q) out))
        ∙ edge (pos 0) (clamped_before new.width (x +ℤ near) (omega (arith, ints, out, left.1)))
        ∙ ap (λ u. g u y) (ap pos (let e : n * 0 + e ≡ 0 = omega (arith, left.2) in e))
        ∙ seen (pos 0) (clamped_before (n * new.width) (column n (x +ℤ q) r) (omega (arith, ints, there)))
    by (before out) (inr right) = absurd (omega (arith, ints, out, across.0, right.0))
    by (after out) (inl left) = absurd (omega (arith, ints, out, across.1, left.0))
    by (after out) (inr right) =
        let there = column_after n sizes.some sizes.most r new.width (x +ℤ q) out in
        picked false (group false (is_after new.width (x +ℤ q) out))
        ∙ edge (pos (new.width - 1)) (clamped_after new.width (x +ℤ near) (omega (arith, ints, out, right.1)))
        ∙ ap (λ u. g u y) (sym (last_column n new.width sizes.some sizes.most wide e right.2))
        ∙ seen (pos (n * new.width - 1)) (clamped_after (n * new.width) (column n (x +ℤ q) r) (omega (arith, ints, there)))
