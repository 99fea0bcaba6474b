-- Expressions whose parts have types of 64 bits have values of 64 bits.
use Rattle.std.proofs.Common.{List, subst}
use Rattle.std.specs.List.{All}
use Rattle.std.proofs.lemmas.Option.{slice_get_within, get_or_from_slice_get}
use Rattle.dk_base.specs.declared.ty.Ty.{Ty}
use Rattle.dk_base.specs.declared.ty.Ty.TheVariants.{Signed}
use Rattle.dk_base.specs.Types.{IsType}
use Rattle.dk_base.specs.Frames.{Size, Picture}
use Rattle.dk_base.proofs.Ranges.{in_wider}
use Rattle.pointwise_ir.specs.Trees.{Tree, constant, read, shifted, unary, binary, select, convert, scale}
use Rattle.pointwise_ir.specs.Typing.{HasType}
use Rattle.pointwise_ir.proofs.Typed.{AreTypes, AreIn, value_in}
use Rattle.pointwise_eval.specs.declared.plane.Plane.{Plane}
use Rattle.pointwise_eval.specs.Planes.{all_shown, AreValues}
use Rattle.pointwise_eval.specs.Narrow.{AreAllIn, ArePartsIn, HasNarrowType, AreOfNarrowTypes}

all_narrow : (size : Size) (types : List Ty) (known : List Picture) → AreTypes types → AreIn types known → (e : Tree) → HasNarrowType types e → AreAllIn size known e (Signed 64)
all_narrow size types known ok are e (t, has, within) x y = in_wider t (Signed 64) _ within (value_in size types known ok are e t has x y)

pub parts_narrow : (size : Size) (types : List Ty) (known : List Picture) → AreTypes types → AreIn types known → (e : Tree) → AreOfNarrowTypes types e → ArePartsIn (Signed 64) size known e
parts_narrow size types known ok are (constant v s) h = all_narrow size types known ok are (constant v s) h
parts_narrow size types known ok are (read edge g dx dy) h = (all_narrow size types known ok are (read edge g dx dy) h, λ x y. let (t, has, within) = h in in_wider t (Signed 64) _ within (are g t has x y))
parts_narrow size types known ok are (shifted edge dx dy a) (h, p) = (all_narrow size types known ok are (shifted edge dx dy a) h, parts_narrow size types known ok are a p)
parts_narrow size types known ok are (unary op a) (h, p) = (all_narrow size types known ok are (unary op a) h, parts_narrow size types known ok are a p)
parts_narrow size types known ok are (binary op a b) (h, p, q) = (all_narrow size types known ok are (binary op a b) h, parts_narrow size types known ok are a p, parts_narrow size types known ok are b q)
parts_narrow size types known ok are (select c a b) (h, o, p, q) = (all_narrow size types known ok are (select c a b) h, parts_narrow size types known ok are c o, parts_narrow size types known ok are a p, parts_narrow size types known ok are b q)
parts_narrow size types known ok are (convert how a s) (h, p) = (all_narrow size types known ok are (convert how a s) h, parts_narrow size types known ok are a p)
parts_narrow size types known ok are (scale op a k) (h, p) = (all_narrow size types known ok are (scale op a k) h, parts_narrow size types known ok are a p)

-- of the whole expression
pub whole_in : (t : Ty) (size : Size) (known : List Picture) (e : Tree) → ArePartsIn t size known e → AreAllIn size known e t
whole_in t size known (constant v s) h = h
whole_in t size known (read edge g dx dy) h = h.0
whole_in t size known (shifted edge dx dy a) h = h.0
whole_in t size known (unary op a) h = h.0
whole_in t size known (binary op a b) h = h.0
whole_in t size known (select c a b) h = h.0
whole_in t size known (convert how a s) h = h.0
whole_in t size known (scale op a k) h = h.0

types_all : (types : List Ty) → All IsType types → AreTypes types
types_all types all g t is =
    let P : Ty → Type 0 = λ u. IsType u in
    subst P (get_or_from_slice_get types g t t is) (all g t (slice_get_within types g t is))

-- the same over planes
pub planes_narrow : (size : Size) (types : List Ty) (planes : List Plane) → All IsType types → AreValues size types planes → (e : Tree) → AreOfNarrowTypes types e → ArePartsIn (Signed 64) size (all_shown size planes) e
planes_narrow size types planes all values e h = parts_narrow size types (all_shown size planes) (types_all types all) values e h

-- and one of a type has values of it
pub planes_in : (size : Size) (types : List Ty) (planes : List Plane) → All IsType types → AreValues size types planes → (e : Tree) (t : Ty) → HasType types e t → AreAllIn size (all_shown size planes) e t
planes_in size types planes all values e t has x y = value_in size types (all_shown size planes) (types_all types all) values e t has x y
