-- Which expression the fold of another is.
use Rattle.std.proofs.Common.{◌≡◌, ℕ, ℤ, ap, sym, ◌∙◌, subst, refl}
use Rattle.dk_base.specs.declared.ty.Ty.{Ty}
use Rattle.dk_base.specs.declared.operator.Unary.{Unary}
use Rattle.dk_base.specs.declared.operator.Binary.{Binary}
use Rattle.dk_base.specs.declared.operator.Scaling.{Scaling}
use Rattle.dk_base.specs.declared.operator.Conversion.{Conversion}
use Rattle.dk_base.specs.Operators.{unary_type, unary_value, binary_type, binary_value, scaling_type, scaling_value, conversion_value, select_type, select_value}
use Rattle.pointwise_ir.specs.Trees.{Tree, constant, read, shifted, unary, binary, select, convert, scale}
use Rattle.pointwise_ir.specs.Meaning.{value}
use Rattle.dk_inline.specs.Folded.{IsClosed, HasFoldedParts, IsWorth, IsFoldOf, to_constant, in_read, in_shifted, in_unary, in_binary, in_select, in_convert, in_scale}
use Rattle.dk_inline.specs.Standing.{IsTyped, AreOperandsFolded}
use Rattle.dk_inline.proofs.Replacements.{constant_worth, not_closed}

-- the fold of what has no read and no shift has none
closed_fold : (a b : Tree) → IsFoldOf a b → IsClosed a → IsClosed b
closed_fold a b (to_constant w) closed = tt
closed_fold a b in_read closed = absurd closed
closed_fold a b (in_shifted f) closed = absurd closed
closed_fold a b (in_unary opened f) closed = absurd (opened closed)
closed_fold a b (in_binary opened f g) closed = absurd (opened closed)
closed_fold a b (in_select opened f g h) closed = absurd (opened closed)
closed_fold a b (in_convert opened f) closed = absurd (opened closed)
closed_fold a b (in_scale opened f) closed = absurd (opened closed)

-- the constant that an expression is, and what that is worth which it is the fold of
abbrev IsConstantOf : (a b : Tree) → Type 0
IsConstantOf a b = (v : ℤ) × (t : Ty) × (b ≡ constant v t) × IsWorth a v t

-- a fold that has no read and no shift is a constant
closed_worth : (a b : Tree) → IsFoldOf a b → IsClosed b → IsConstantOf a b
closed_worth a b (to_constant {v = v} {t = t} w) closed = (v, t, refl, w)
closed_worth a b in_read closed = absurd closed
closed_worth a b (in_shifted f) closed = absurd closed
closed_worth a b (in_unary {a = c} {b = d} opened f) closed = absurd (opened (closed_worth c d f closed).3.closed)
closed_worth x y (in_binary {a = a} {b = b} {c = c} {d = d} opened f g) closed = absurd (opened ((closed_worth a c f closed.0).3.closed, (closed_worth b d g closed.1).3.closed))
closed_worth x y (in_select {a = a} {b = b} {c = c} {d = d} {e = e} {f = n} opened f g h) closed =
    absurd (opened ((closed_worth a d f closed.0).3.closed, (closed_worth b e g closed.1).3.closed, (closed_worth c n h closed.2).3.closed))
closed_worth a b (in_convert {a = c} {b = d} opened f) closed = absurd (opened (closed_worth c d f closed).3.closed)
closed_worth a b (in_scale {a = c} {b = d} opened f) closed = absurd (opened (closed_worth c d f closed).3.closed)

-- what operators are worth on what is worth these constants
unary_over : (op : Unary) (a : Tree) (u v : ℤ) (r t : Ty) → IsWorth a u r → IsWorth (unary op (constant u r)) v t → IsWorth (unary op a) v t
unary_over op a u v r t w q = record {
  closed = w.closed;
  typed = (r, w.typed, ap (unary_type op) (sym q.typed.1.2) ∙ q.typed.2);
  value = λ size known x y. ap (unary_value op) (w.value size known x y) ∙ q.value size known x y;
}

binary_over : (op : Binary) (a b : Tree) (u n v : ℤ) (r s t : Ty) → IsWorth a u r → IsWorth b n s → IsWorth (binary op (constant u r) (constant n s)) v t → IsWorth (binary op a b) v t
binary_over op a b u n v r s t w x q = record {
  closed = (w.closed, x.closed);
  typed = (r, s, w.typed, x.typed, ap (λ m. binary_type op m s) (sym q.typed.2.2) ∙ ap (binary_type op q.typed.0) (sym q.typed.3.2) ∙ q.typed.4);
  value = λ size known i j. ap (λ m. binary_value op m (value size known b i j)) (w.value size known i j) ∙ ap (binary_value op u) (x.value size known i j) ∙ q.value size known i j;
}

select_over : (c a b : Tree) (m u n v : ℤ) (p r s t : Ty) → IsWorth c m p → IsWorth a u r → IsWorth b n s → IsWorth (select (constant m p) (constant u r) (constant n s)) v t → IsWorth (select c a b) v t
select_over c a b m u n v p r s t o w x q = record {
  closed = (o.closed, w.closed, x.closed);
  typed = (p, r, s, o.typed, w.typed, x.typed, ap (λ l. select_type l r s) (sym q.typed.3.2) ∙ ap (λ l. select_type q.typed.0 l s) (sym q.typed.4.2) ∙ ap (select_type q.typed.0 q.typed.1) (sym q.typed.5.2) ∙ q.typed.6);
  value = λ size known i j.
      ap (λ l. select_value l (value size known a i j) (value size known b i j)) (o.value size known i j)
      ∙ ap (λ l. select_value m l (value size known b i j)) (w.value size known i j)
      ∙ ap (select_value m u) (x.value size known i j)
      ∙ q.value size known i j;
}

convert_over : (how : Conversion) (a : Tree) (u v : ℤ) (r s t : Ty) → IsWorth a u r → IsWorth (convert how (constant u r) s) v t → IsWorth (convert how a s) v t
convert_over how a u v r s t w q = record {
  closed = w.closed;
  typed = (q.typed.0, q.typed.1, r, w.typed);
  value = λ size known x y. ap (conversion_value how s) (w.value size known x y) ∙ q.value size known x y;
}

scale_over : (op : Scaling) (a : Tree) (u v : ℤ) (k : ℕ) (r t : Ty) → IsWorth a u r → IsWorth (scale op (constant u r) k) v t → IsWorth (scale op a k) v t
scale_over op a u v k r t w q = record {
  closed = w.closed;
  typed = (r, w.typed, ap (λ m. scaling_type op m k) (sym q.typed.1.2) ∙ q.typed.2);
  value = λ size known x y. ap (λ m. scaling_value op m k) (w.value size known x y) ∙ q.value size known x y;
}

-- where the operands are folded, and the whole is then worth a constant, this is its fold
pub constant_fold : (old new : Tree) (v : ℤ) (t : Ty) → AreOperandsFolded old new → IsWorth new v t → IsFoldOf old (constant v t)
constant_fold (constant u s) new v t e w = let P : Tree → Type 0 = λ x. IsWorth x v t in to_constant (subst P e w)
constant_fold (read edge g dx dy) new v t e w = let P : Tree → Type 0 = λ x. IsWorth x v t in absurd (subst P e w).closed
constant_fold (shifted edge dx dy a) new v t (b, e, f) w = let P : Tree → Type 0 = λ x. IsWorth x v t in absurd (subst P e w).closed
constant_fold (unary op a) new v t (b, e, f) w =
    let P : Tree → Type 0 = λ x. IsWorth x v t in
    let q = subst P e w in
    let (u, r, is, h) = closed_worth a b f q.closed in
    let Q : Tree → Type 0 = λ x. IsWorth (unary op x) v t in
    to_constant (unary_over op a u v r t h (subst Q is q))
constant_fold (binary op a b) new v t (c, d, e, f, g) w =
    let P : Tree → Type 0 = λ x. IsWorth x v t in
    let q = subst P e w in
    let (u, r, is, h) = closed_worth a c f q.closed.0 in
    let (n, s, of, k) = closed_worth b d g q.closed.1 in
    let Q : Tree → Type 0 = λ x. IsWorth (binary op x d) v t in
    let R : Tree → Type 0 = λ x. IsWorth (binary op (constant u r) x) v t in
    to_constant (binary_over op a b u n v r s t h k (subst R of (subst Q is q)))
constant_fold (select c a b) new v t (d, i, j, e, f, g, l) w =
    let P : Tree → Type 0 = λ x. IsWorth x v t in
    let q = subst P e w in
    let (m, p, at, o) = closed_worth c d f q.closed.0 in
    let (u, r, is, h) = closed_worth a i g q.closed.1 in
    let (n, s, of, k) = closed_worth b j l q.closed.2 in
    let N : Tree → Type 0 = λ x. IsWorth (select x i j) v t in
    let Q : Tree → Type 0 = λ x. IsWorth (select (constant m p) x j) v t in
    let R : Tree → Type 0 = λ x. IsWorth (select (constant m p) (constant u r) x) v t in
    to_constant (select_over c a b m u n v p r s t o h k (subst R of (subst Q is (subst N at q))))
constant_fold (convert how a s) new v t (b, e, f) w =
    let P : Tree → Type 0 = λ x. IsWorth x v t in
    let q = subst P e w in
    let (u, r, is, h) = closed_worth a b f q.closed in
    let Q : Tree → Type 0 = λ x. IsWorth (convert how x s) v t in
    to_constant (convert_over how a u v r s t h (subst Q is q))
constant_fold (scale op a k) new v t (b, e, f) w =
    let P : Tree → Type 0 = λ x. IsWorth x v t in
    let q = subst P e w in
    let (u, r, is, h) = closed_worth a b f q.closed in
    let Q : Tree → Type 0 = λ x. IsWorth (scale op x k) v t in
    to_constant (scale_over op a u v k r t h (subst Q is q))

-- where the operands are folded, and the whole's parts are then folded too, this is its fold
pub same_fold : (old new : Tree) → IsTyped old → AreOperandsFolded old new → HasFoldedParts new → IsFoldOf old new
same_fold (constant v t) new typed e folded = let P : Tree → Type 0 = λ x. IsFoldOf (constant v t) x in subst P (sym e) (to_constant (constant_worth v t typed))
same_fold (read edge g dx dy) new typed e folded = let P : Tree → Type 0 = λ x. IsFoldOf (read edge g dx dy) x in subst P (sym e) in_read
same_fold (shifted edge dx dy a) new typed (b, e, f) folded = let P : Tree → Type 0 = λ x. IsFoldOf (shifted edge dx dy a) x in subst P (sym e) (in_shifted f)
same_fold (unary op a) new typed (b, e, f) folded =
    let P : Tree → Type 0 = λ x. IsFoldOf (unary op a) x in
    let F : Tree → Type 0 = λ x. HasFoldedParts x in
    subst P (sym e) (in_unary (λ c. not_closed (unary op b) (subst F e folded) (λ (v, t, is). cc) (closed_fold a b f c)) f)
same_fold (binary op a b) new typed (c, d, e, f, g) folded =
    let P : Tree → Type 0 = λ x. IsFoldOf (binary op a b) x in
    let F : Tree → Type 0 = λ x. HasFoldedParts x in
    subst P (sym e) (in_binary (λ h. not_closed (binary op c d) (subst F e folded) (λ (v, t, is). cc) (closed_fold a c f h.0, closed_fold b d g h.1)) f g)
same_fold (select c a b) new typed (d, i, j, e, f, g, l) folded =
    let P : Tree → Type 0 = λ x. IsFoldOf (select c a b) x in
    let F : Tree → Type 0 = λ x. HasFoldedParts x in
    subst P (sym e) (in_select (λ h. not_closed (select d i j) (subst F e folded) (λ (v, t, is). cc) (closed_fold c d f h.0, closed_fold a i g h.1, closed_fold b j l h.2)) f g l)
same_fold (convert how a t) new typed (b, e, f) folded =
    let P : Tree → Type 0 = λ x. IsFoldOf (convert how a t) x in
    let F : Tree → Type 0 = λ x. HasFoldedParts x in
    subst P (sym e) (in_convert (λ c. not_closed (convert how b t) (subst F e folded) (λ (v, s, is). cc) (closed_fold a b f c)) f)
same_fold (scale op a k) new typed (b, e, f) folded =
    let P : Tree → Type 0 = λ x. IsFoldOf (scale op a k) x in
    let F : Tree → Type 0 = λ x. HasFoldedParts x in
    subst P (sym e) (in_scale (λ c. not_closed (scale op b k) (subst F e folded) (λ (v, t, is). cc) (closed_fold a b f c)) f)
