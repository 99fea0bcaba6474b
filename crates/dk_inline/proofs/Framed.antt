-- Frames: points that are brought to the edge lie inside, and what is framed twice is framed.
use Rattle.std.proofs.Common.{◌≡◌, ℕ, ◌-◌, ◌<◌, ◌≤◌, min, Bool, true, false, ◌&&◌, ℤ, pos, negsuc, refl, ap, sym, ◌∙◌, arith, if◌then◌else◌}
use Rattle.dk_base.specs.Frames.{Size, IsFrame, Picture, is_below, in_frame, clamped}
use Rattle.pointwise_ir.specs.declared.expr.Edge.{Edge}
use Rattle.pointwise_ir.specs.declared.expr.Edge.TheVariants.{Zero, Clamp}
use Rattle.dk_base.specs.Frames.{framed}
use Rattle.pointwise_ir.specs.Meaning.{edged}
use Rattle.pointwise_ir.proofs.Agreement.{Agree}

clamped_below : (limit : ℕ) (x : ℤ) → 1 ≤ limit → is_below (clamped limit x) limit ≡ true
clamped_below limit (pos n) some = let lt : min n (limit - 1) < limit = omega (arith, some) in grind (arith, lt)
clamped_below limit (negsuc n) some = grind (arith, some)

clamped_inside : (size : Size) (x y : ℤ) → IsFrame size.width size.height → in_frame size (clamped size.width x) (clamped size.height y) ≡ true
clamped_inside size x y frame =
    ap (λ b. b && is_below (clamped size.height y) size.height) (clamped_below size.width x frame.some_columns) ∙ clamped_below size.height y frame.some_rows

pub framed_twice : (size : Size) (p : Picture) → Agree (framed size p) (framed size (framed size p))
framed_twice size p x y = by (in_frame size x y)
  where
    by : (b : Bool) → (if b then p x y else pos 0) ≡ (if b then (if b then p x y else pos 0) else pos 0)
    by true = refl
    by false = refl

-- an edge shows only what of a picture is in the frame
pub edged_framed : (size : Size) → IsFrame size.width size.height → (edge : Edge) (p : Picture) → Agree (edged size edge p) (edged size edge (framed size p))
edged_framed size frame Zero p x y = framed_twice size p x y
edged_framed size frame Clamp p x y =
    let u = clamped size.width x in
    let v = clamped size.height y in
    sym (ap (λ b. if b then p u v else pos 0) (clamped_inside size x y frame))
