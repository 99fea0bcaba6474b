-- Where all pixels pass.
use Rattle.std.proofs.Common.{◌≡◌, ℕ, ◌+◌, ◌-◌, ◌<◌, ◌≤◌, Bool, false, ap, ◌∙◌, arith}
use Rattle.std.specs.Prelude.{IsTrue}
use Rattle.dk_base.specs.Frames.{Size}
use Rattle.dk_base.specs.FrameSizes.{size_of}
use Rattle.frame_paths.specs.declared.moves.Interval.{Interval}
use Rattle.frame_paths.specs.Moves.{IsIn}
use Rattle.edge_select.specs.declared.frame_tests.FrameTests.{FrameTests}
use Rattle.edge_select.specs.declared.paths.Rectangle.{Rectangle}
use Rattle.edge_select.specs.Passes.{Passes}
use Rattle.edge_select.specs.Pixels.{AllPass}

-- an interval of all coordinates is whole
pub not_all : (side : ℕ) (i : Interval) (b : Bool) → 1 ≤ side → ((i.first ≡ 0) × (side ≤ i.last + 1) → IsTrue b) → b ≡ false → ((x : ℕ) → x < side → IsIn i x) → ⊥
not_all side i b some is failed all =
    let low = all 0 (omega (arith, some)) in
    let high = all (side - 1) (omega (arith, some)) in
    let yes : IsTrue b = is (omega (arith, low.first), omega (arith, high.last, some)) in
    cc

-- a rectangle of all pixels has all columns and all rows
pub none_added : (new mid old : FrameTests) (r : Rectangle) → 1 ≤ old.size.width → 1 ≤ old.size.height → size_of mid.size ≡ size_of old.size → (((x : ℕ) → x < old.size.width → IsIn r.across x) → mid ≡ old) → (((y : ℕ) → y < mid.size.height → IsIn r.down y) → new ≡ mid) →
    AllPass old.size.width old.size.height (Passes r) → new ≡ old
none_added new mid old r some tall same across down all =
    let h : mid.size.height ≡ old.size.height = ap (λ (z : Size). z.height) same in
    down (λ y low. (all 0 y (omega (arith, some)) (omega (arith, low, h))).down) ∙ across (λ x low. (all x 0 low (omega (arith, tall))).across)

-- the same pixels, said in another way
pub all_same : (width height : ℕ) (one other : (x y : ℕ) → Type 0) → ((x y : ℕ) → x < width → y < height → (one x y → other x y) × (other x y → one x y)) → AllPass width height other → AllPass width height one
all_same width height one other same all x y low high = (same x y low high).1 (all x y low high)
