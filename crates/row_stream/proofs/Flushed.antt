-- The clocks of a batch, and clocks with 0 at the din.
use Rattle.std.proofs.Common.{◌≡◌, ℕ, zero, suc, ◌+◌, ◌-◌, ◌*◌, ◌<◌, ◌≤◌, List, ◌∷◌, ◌++◌, take, map, refl, ap, sym, subst, ◌∙◌, arith, Some}
use Rattle.std.specs.Prelude.{All, slice_get, ◌/◌, ◌%◌}
use Rattle.std.specs.List.{range_with_len}
use Rattle.dk_desk.specs.Outside.{Outside}
use Rattle.wiring.specs.Netlist.{Netlist}
use Rattle.wiring.specs.Snapshot.{Contents}
use Rattle.wiring.specs.Clock.{Clock}
use Rattle.wiring.proofs.Lists.{All-from_at}
use Rattle.row_stream.specs.declared.line.Line.{Line}
use Rattle.row_stream.specs.Lines.{Kind}
use Rattle.row_stream.specs.Standing.{pixel_clock}
use Rattle.row_stream.specs.Progress.{Goes, Fails, pixel_clocks}
use Rattle.std.proofs.Math.Nat.{div-add-mod, mod-lt}
use Rattle.row_stream.proofs.Clocks.{goes_none, goes_join, fails_after, fails_more}
use Rattle.row_stream.proofs.Pixels.{cut}

-- what holds of each number holds of all
pub all_made : (P : ℕ → Type 0) (f : ℕ → ℕ) (n : ℕ) → ((k : ℕ) → k < n → P (f k)) → All P (map f (range_with_len 0 n))
all_made P f n h = All-from_at P (map f (range_with_len 0 n)) (at P f 0 n (λ k l. subst (λ z. P (f z)) (let e : k ≡ 0 + k = omega arith in e) (h k l)))
  where
    at : (P : ℕ → Type 0) (f : ℕ → ℕ) (a n : ℕ) → ((k : ℕ) → k < n → P (f (a + k))) → (k x : ℕ) → slice_get (map f (range_with_len a n)) k ≡ Some x → P x
    at P f a zero h k x e = absurd (let g : ⊥ = cc in g)
    at P f a (suc n) h zero x e = let g : f a ≡ x = cc in subst (λ z. P z) g (subst (λ z. P (f z)) (let i : a + 0 ≡ a = omega arith in i) (h 0 (omega arith)))
    at P f a (suc n) h (suc k) x e = at P f (a + 1) n (λ j l. subst (λ z. P (f z)) (let i : a + suc j ≡ a + 1 + j = omega arith in i) (h (suc j) (omega (arith, l)))) k x e

first_made : (f : ℕ → ℕ) (a n width : ℕ) → n ≤ width → map pixel_clock (take n (map f (range_with_len a width))) ≡ map (λ k. pixel_clock (f k)) (range_with_len a n)
first_made f a zero width l = refl
first_made f a (suc n) zero l = absurd (omega (arith, l))
first_made f a (suc n) (suc width) l = ap (λ z. pixel_clock (f a) ∷ z) (first_made f (a + 1) n width (omega (arith, l)))

pub first_clocks : (f : ℕ → ℕ) (n width : ℕ) (dins : List ℕ) → dins ≡ map f (range_with_len 0 width) → n ≤ width → map pixel_clock (take n dins) ≡ pixel_clocks f n
first_clocks f n width dins e l = ap (λ z. map pixel_clock (take n z)) e ∙ first_made f 0 n width l

-- ---- clocks with 0 at the din

abbrev pub zeros : ℕ → List Clock
zeros n = pixel_clocks (λ k. 0) n

moved : (a b n : ℕ) → map (λ k. pixel_clock 0) (range_with_len a n) ≡ map (λ k. pixel_clock 0) (range_with_len b n)
moved a b zero = refl
moved a b (suc n) = ap (λ z. pixel_clock 0 ∷ z) (moved (a + 1) (b + 1) n)

zeros_join : (x y : ℕ) → zeros (x + y) ≡ zeros x ++ zeros y
zeros_join x y = cut (λ k. pixel_clock 0) 0 x y ∙ ap (λ z. zeros x ++ z) (moved (0 + x) 0 y)

module _ (kind : Kind) (m : Netlist) (x y : ℕ) (from mid : Contents) (old between : Line) (before half now : Outside) (h : Goes kind m (zeros x) from mid old between before half) where
  pub goes_zeros : (to : Contents) (new : Line) (n : ℕ) → n ≡ x + y → Goes kind m (zeros y) mid to between new half now → Goes kind m (zeros n) from to old new before now
  goes_zeros to new n e g = subst (λ z. Goes kind m z from to old new before now) (sym (ap zeros e ∙ zeros_join x y)) (goes_join kind m (zeros x) (zeros y) from mid old between before half now to new h g)

  pub fails_zeros : (n : ℕ) → x + y ≤ n → Fails kind m (zeros y) mid between half now → Fails kind m (zeros n) from old before now
  fails_zeros n l g =
      let parts : zeros n ≡ (zeros x ++ zeros y) ++ zeros (n - (x + y)) = ap zeros (let e : n ≡ (x + y) + (n - (x + y)) = omega (arith, l) in e) ∙ zeros_join (x + y) (n - (x + y)) ∙ ap (λ z. z ++ zeros (n - (x + y))) (zeros_join x y) in
      subst (λ z. Fails kind m z from old before now) (sym parts)
      (fails_more kind m (zeros x ++ zeros y) (zeros (n - (x + y))) from old before now (fails_after kind m (zeros x) (zeros y) from mid old between before half now h g))

pub fails_all : (kind : Kind) (m : Netlist) (x n : ℕ) (from : Contents) (old : Line) (before now : Outside) → x ≤ n → Fails kind m (zeros x) from old before now → Fails kind m (zeros n) from old before now
fails_all kind m x n from old before now l h =
    subst (λ z. Fails kind m z from old before now) (sym (ap zeros (let e : n ≡ x + (n - x) = omega (arith, l) in e) ∙ zeros_join x (n - x)))
    (fails_more kind m (zeros x) (zeros (n - x)) from old before now h)

-- this many lines, and one more
pub next_line : (k width : ℕ) → (k + 1) * width ≡ k * width + width
next_line k width = grind arith

pub lines_within : (k n width : ℕ) → k < n → k * width + width ≤ n * width
lines_within k n width l = let h : (k + 1) * width ≤ n * width = Rattle.row_stream.proofs.Rasters.times k n width l in omega (arith, h, next_line k width)

pub parts_of : (n width : ℕ) → n ≡ n / width * width + n % width
parts_of n width = sym (div-add-mod n width) ∙ ap (λ z. z + n % width) (turned width (n / width))
  where
    turned : (a b : ℕ) → a * b ≡ b * a
    turned a b = grind arith

pub part_within : (n width : ℕ) → n / width * width ≤ n
part_within n width = let e = parts_of n width in omega (arith, e)

pub rest_within : (n width count : ℕ) → count < width → n % width ≤ width
rest_within n width count l = let h : n % width < width = mod-lt n (let p : 0 < width = omega (arith, l) in p) in omega (arith, h)

pub zeros_none : (kind : Kind) (m : Netlist) (width : ℕ) (at : Contents) (line : Line) (o : Outside) → Goes kind m (zeros (0 * width)) at at line line o o
zeros_none kind m width at line o = subst (λ n. Goes kind m (zeros n) at at line line o o) (let e : 0 ≡ 0 * width = omega arith in e) (goes_none kind m at line o)
