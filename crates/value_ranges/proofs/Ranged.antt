-- The intervals of expressions, from those of their operands.
use Rattle.std.proofs.Common.{◌≡◌, ℕ, zero, suc, Bool, true, false, ℤ, pos, negsuc, ◌+ℤ◌, List, Some, slice_get, if◌then◌else◌}
use Rattle.dk_base.specs.declared.ty.Ty.{Ty}
use Rattle.dk_base.specs.declared.operator.Unary.{Unary}
use Rattle.dk_base.specs.declared.operator.Binary.{Binary}
use Rattle.dk_base.specs.declared.operator.Scaling.{Scaling}
use Rattle.dk_base.specs.declared.operator.Conversion.{Conversion}
use Rattle.dk_base.specs.Operators.{unary_value, binary_value, scaling_value, conversion_value, select_value}
use Rattle.dk_base.specs.Frames.{Size, Picture, picture_at, in_frame, framed}
use Rattle.pointwise_ir.specs.declared.expr.Edge.{Edge}
use Rattle.pointwise_ir.specs.Trees.{Tree, constant, read, shifted, unary, binary, select, convert, scale}
use Rattle.pointwise_ir.specs.Meaning.{value, edged}
use Rattle.value_ranges.specs.declared.interval.Interval.{Interval}
use Rattle.value_ranges.specs.Intervals.{IsBetween}
use Rattle.value_ranges.specs.Parts.{EachValue, EachPart, IsRangeOf, IsRangeOfParts}

-- P holds of more values
pub parts_weaker : (P Q : ℤ → Type 0) → ((v : ℤ) → P v → Q v) → (size : Size) (known : List Picture) (e : Tree) → EachPart P size known e → EachPart Q size known e
parts_weaker P Q weak size known (constant v t) h = λ x y. weak _ (h x y)
parts_weaker P Q weak size known (read edge g dx dy) h = (λ x y. weak _ (h.0 x y), λ x y. weak _ (h.1 x y))
parts_weaker P Q weak size known (shifted edge dx dy a) h = (λ x y. weak _ (h.0 x y), parts_weaker P Q weak size known a h.1)
parts_weaker P Q weak size known (unary op a) h = (λ x y. weak _ (h.0 x y), parts_weaker P Q weak size known a h.1)
parts_weaker P Q weak size known (binary op a b) h = (λ x y. weak _ (h.0 x y), parts_weaker P Q weak size known a h.1, parts_weaker P Q weak size known b h.2)
parts_weaker P Q weak size known (select c a b) h = (λ x y. weak _ (h.0 x y), parts_weaker P Q weak size known c h.1, parts_weaker P Q weak size known a h.2, parts_weaker P Q weak size known b h.3)
parts_weaker P Q weak size known (convert how a t) h = (λ x y. weak _ (h.0 x y), parts_weaker P Q weak size known a h.1)
parts_weaker P Q weak size known (scale op a k) h = (λ x y. weak _ (h.0 x y), parts_weaker P Q weak size known a h.1)

-- all values of one interval are in the other
abbrev pub IsIncluded : (r q : Interval) → Type 0
IsIncluded r q = (v : ℤ) → IsBetween r v → IsBetween q v

pub framed_between : (r : Interval) (size : Size) (p : Picture) → IsBetween r (pos 0) → ((x y : ℤ) → IsBetween r (p x y)) → (x y : ℤ) → IsBetween r (framed size p x y)
framed_between r size p none all x y = chosen (in_frame size x y)
  where
    chosen : (b : Bool) → IsBetween r (if b then p x y else pos 0)
    chosen true = all x y
    chosen false = none

chosen_between : (r : Interval) (c v u : ℤ) → IsBetween r v → IsBetween r u → IsBetween r (select_value c v u)
chosen_between r (pos zero) v u h k = k
chosen_between r (pos (suc n)) v u h k = h
chosen_between r (negsuc n) v u h k = k

module _ (ranges : List Interval) where
  pub constant_whole : (v : ℤ) (t : Ty) (r : Interval) → IsBetween r v → IsRangeOf ranges (constant v t) r
  constant_whole v t r is size known have x y = is

  pub read_whole : (edge : Edge) (g : ℕ) (dx dy : ℤ) (own r : Interval) → slice_get ranges g ≡ Some own →
      ((size : Size) (picture : Picture) → ((x y : ℤ) → IsBetween own (picture x y)) → (x y : ℤ) → IsBetween r (edged size edge picture x y)) → IsRangeOf ranges (read edge g dx dy) r
  read_whole edge g dx dy own r there made size known have x y = made size (picture_at known g) (have g own there) (x +ℤ dx) (y +ℤ dy)

  pub read_parts : (edge : Edge) (g : ℕ) (dx dy : ℤ) (own r q : Interval) → slice_get ranges g ≡ Some own → IsRangeOf ranges (read edge g dx dy) r → IsIncluded r q → IsIncluded own q → IsRangeOfParts ranges (read edge g dx dy) q
  read_parts edge g dx dy own r q there range mine also size known have = (λ x y. mine _ (range size known have x y), λ x y. also _ (have g own there x y))

  pub shifted_whole : (edge : Edge) (dx dy : ℤ) (a : Tree) (own r : Interval) → IsRangeOf ranges a own →
      ((size : Size) (picture : Picture) → ((x y : ℤ) → IsBetween own (picture x y)) → (x y : ℤ) → IsBetween r (edged size edge picture x y)) → IsRangeOf ranges (shifted edge dx dy a) r
  shifted_whole edge dx dy a own r body made size known have x y = made size (value size known a) (body size known have) (x +ℤ dx) (y +ℤ dy)

  pub unary_whole : (op : Unary) (a : Tree) (own r : Interval) → ((v : ℤ) → IsBetween own v → IsBetween r (unary_value op v)) → IsRangeOf ranges a own → IsRangeOf ranges (unary op a) r
  unary_whole op a own r made body size known have x y = made _ (body size known have x y)

  pub binary_whole : (op : Binary) (a b : Tree) (left right r : Interval) → ((v u : ℤ) → IsBetween left v → IsBetween right u → IsBetween r (binary_value op v u)) → IsRangeOf ranges a left → IsRangeOf ranges b right → IsRangeOf ranges (binary op a b) r
  binary_whole op a b left right r made first second size known have x y = made _ _ (first size known have x y) (second size known have x y)

  pub select_whole : (c a b : Tree) (left right r : Interval) → IsIncluded left r → IsIncluded right r → IsRangeOf ranges a left → IsRangeOf ranges b right → IsRangeOf ranges (select c a b) r
  select_whole c a b left right r wide wider first second size known have x y =
      chosen_between r (value size known c x y) (value size known a x y) (value size known b x y) (wide _ (first size known have x y)) (wider _ (second size known have x y))

  pub convert_whole : (how : Conversion) (a : Tree) (t : Ty) (own r : Interval) → ((v : ℤ) → IsBetween own v → IsBetween r (conversion_value how t v)) → IsRangeOf ranges a own → IsRangeOf ranges (convert how a t) r
  convert_whole how a t own r made body size known have x y = made _ (body size known have x y)

  pub scale_whole : (op : Scaling) (a : Tree) (k : ℕ) (own r : Interval) → ((v : ℤ) → IsBetween own v → IsBetween r (scaling_value op v k)) → IsRangeOf ranges a own → IsRangeOf ranges (scale op a k) r
  scale_whole op a k own r made body size known have x y = made _ (body size known have x y)

  -- the interval of the parts, where that of the whole and those of the operands' parts are included
  pub constant_parts : (v : ℤ) (t : Ty) (r q : Interval) → IsRangeOf ranges (constant v t) r → IsIncluded r q → IsRangeOfParts ranges (constant v t) q
  constant_parts v t r q range mine size known have = λ x y. mine _ (range size known have x y)

  one_of : (e a : Tree) (r p q : Interval) → IsRangeOf ranges e r → IsIncluded r q → IsRangeOfParts ranges a p → IsIncluded p q → (size : Size) (known : List Picture) → ((g : ℕ) (o : Interval) → slice_get ranges g ≡ Some o → (x y : ℤ) → IsBetween o (picture_at known g x y)) → EachValue (IsBetween q) size known e × EachPart (IsBetween q) size known a
  one_of e a r p q range mine parts theirs size known have = (λ x y. mine _ (range size known have x y), parts_weaker (IsBetween p) (IsBetween q) theirs size known a (parts size known have))

  pub shifted_parts : (edge : Edge) (dx dy : ℤ) (a : Tree) (r p q : Interval) → IsRangeOf ranges (shifted edge dx dy a) r → IsIncluded r q → IsRangeOfParts ranges a p → IsIncluded p q → IsRangeOfParts ranges (shifted edge dx dy a) q
  shifted_parts edge dx dy a r p q range mine parts theirs size known have = one_of (shifted edge dx dy a) a r p q range mine parts theirs size known have

  pub unary_parts : (op : Unary) (a : Tree) (r p q : Interval) → IsRangeOf ranges (unary op a) r → IsIncluded r q → IsRangeOfParts ranges a p → IsIncluded p q → IsRangeOfParts ranges (unary op a) q
  unary_parts op a r p q range mine parts theirs size known have = one_of (unary op a) a r p q range mine parts theirs size known have

  pub convert_parts : (how : Conversion) (a : Tree) (t : Ty) (r p q : Interval) → IsRangeOf ranges (convert how a t) r → IsIncluded r q → IsRangeOfParts ranges a p → IsIncluded p q → IsRangeOfParts ranges (convert how a t) q
  convert_parts how a t r p q range mine parts theirs size known have = one_of (convert how a t) a r p q range mine parts theirs size known have

  pub scale_parts : (op : Scaling) (a : Tree) (k : ℕ) (r p q : Interval) → IsRangeOf ranges (scale op a k) r → IsIncluded r q → IsRangeOfParts ranges a p → IsIncluded p q → IsRangeOfParts ranges (scale op a k) q
  scale_parts op a k r p q range mine parts theirs size known have = one_of (scale op a k) a r p q range mine parts theirs size known have

  pub binary_parts : (op : Binary) (a b : Tree) (r s t p q : Interval) → IsRangeOf ranges (binary op a b) r → IsIncluded r q → IsRangeOfParts ranges a s → IsRangeOfParts ranges b t → IsIncluded s p → IsIncluded t p → IsIncluded p q → IsRangeOfParts ranges (binary op a b) q
  binary_parts op a b r s t p q range mine first second left right theirs size known have = (
    λ x y. mine _ (range size known have x y),
    parts_weaker (IsBetween s) (IsBetween q) (λ v is. theirs v (left v is)) size known a (first size known have),
    parts_weaker (IsBetween t) (IsBetween q) (λ v is. theirs v (right v is)) size known b (second size known have),
  )

  pub select_parts : (c a b : Tree) (r o s t p q : Interval) → IsRangeOf ranges (select c a b) r → IsIncluded r q → IsRangeOfParts ranges c o → IsRangeOfParts ranges a s → IsRangeOfParts ranges b t → IsIncluded o q → IsIncluded s p → IsIncluded t p → IsIncluded p q → IsRangeOfParts ranges (select c a b) q
  select_parts c a b r o s t p q range mine first second third outer left right theirs size known have = (
    λ x y. mine _ (range size known have x y),
    parts_weaker (IsBetween o) (IsBetween q) outer size known c (first size known have),
    parts_weaker (IsBetween s) (IsBetween q) (λ v is. theirs v (left v is)) size known a (second size known have),
    parts_weaker (IsBetween t) (IsBetween q) (λ v is. theirs v (right v is)) size known b (third size known have),
  )
