-- An unclamped step ends at its point, which is in the frame.
use Rattle.std.proofs.Common.{ℤ, false, refl, IsTrue}
use Rattle.std.proofs.lemmas.Bool.{and_parts, and_from}
use Rattle.dk_base.specs.Frames.{Size, in_frame, is_below}
use Rattle.dk_base.specs.Steps.{EndsAt}

pub ends_here : (size : Size) (x y : ℤ) → IsTrue (in_frame size x y) → EndsAt false size x y x y
ends_here size x y inside = let b = and_parts (is_below x size.width) (is_below y size.height) inside in ((refl, b.0), (refl, b.1))

pub is_inside : (size : Size) (x y u v : ℤ) → EndsAt false size x y u v → IsTrue (in_frame size x y)
is_inside size x y u v ends = and_from (is_below x size.width) (is_below y size.height) ends.0.1 ends.1.1
