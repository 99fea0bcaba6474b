-- Expressions that may replace others, and those with folded parts.
use Rattle.std.proofs.Common.{◌≡◌, ℕ, List, [], ℤ, pos, ◌+ℤ◌, Option, Some, None, refl, ap, sym, ◌∙◌, subst, arith, ◌⊎◌, inl, inr}
use Rattle.std.specs.Prelude.{◌↔◌, IfNone}
use Rattle.dk_base.specs.declared.ty.Ty.{Ty}
use Rattle.dk_base.specs.declared.operator.Unary.{Unary}
use Rattle.dk_base.specs.declared.operator.Binary.{Binary}
use Rattle.dk_base.specs.declared.operator.Scaling.{Scaling}
use Rattle.dk_base.specs.declared.operator.Conversion.{Conversion}
use Rattle.dk_base.specs.Types.{IsType, IsIn}
use Rattle.dk_base.specs.Operators.{unary_type, unary_value, binary_type, binary_value, scaling_type, scaling_value, conversion_value, select_type, select_value}
use Rattle.dk_base.specs.Frames.{Size, Picture}
use Rattle.pointwise_ir.specs.declared.expr.Edge.{Edge}
use Rattle.pointwise_ir.specs.Trees.{Tree, constant, read, shifted, unary, binary, select, convert, scale}
use Rattle.pointwise_ir.specs.Typing.{HasType}
use Rattle.pointwise_ir.specs.Meaning.{value}
use Rattle.pointwise_ir.specs.Reads.{Reads}
use Rattle.pointwise_ir.specs.Rewritings.{AreInTypes}
use Rattle.pointwise_ir.specs.Operands.{TakesTwo}
use Rattle.pointwise_ir.proofs.Agreement.{edged_agrees}
use Rattle.pointwise_ir.proofs.Defined.{depth_some}
use Rattle.pointwise_ir.proofs.Typed.{AreTypes, type_typed, value_in}
use Rattle.dk_inline.specs.Folded.{IsPart, IsClosed, IsConstant, HasFoldedParts, IsWorth}
use Rattle.dk_inline.specs.Standing.{IsTyped, StandsFor}

-- an expression with no read and no shift has its type over no images too
closed_typed : (types : List Ty) (e : Tree) (t : Ty) → IsClosed e → HasType types e t → HasType [] e t
closed_typed types (constant v s) t closed has = has
closed_typed types (read edge g dx dy) t closed has = absurd closed
closed_typed types (shifted edge dx dy a) t closed has = absurd closed
closed_typed types (unary op a) t closed (s, h, is) = (s, closed_typed types a s closed h, is)
closed_typed types (binary op a b) t closed (s, r, h, k, is) = (s, r, closed_typed types a s closed.0 h, closed_typed types b r closed.1 k, is)
closed_typed types (select c a b) t closed (q, s, r, g, h, k, is) = (q, s, r, closed_typed types c q closed.0 g, closed_typed types a s closed.1 h, closed_typed types b r closed.2 k, is)
closed_typed types (convert how a s) t closed (ok, is, r, h) = (ok, is, r, closed_typed types a r closed h)
closed_typed types (scale op a k) t closed (s, h, is) = (s, closed_typed types a s closed h, is)

-- and it reads nothing
closed_reads : (size : Size) (e : Tree) (x y : ℤ) (g : ℕ) (u v : ℤ) → IsClosed e → Reads size e x y g u v → ⊥
closed_reads size (constant c s) x y g u v closed reads = reads
closed_reads size (read edge h dx dy) x y g u v closed reads = closed
closed_reads size (shifted edge dx dy a) x y g u v closed reads = closed
closed_reads size (unary op a) x y g u v closed reads = closed_reads size a x y g u v closed reads
closed_reads size (binary op a b) x y g u v closed reads = elim reads [
  | inl r ↦ closed_reads size a x y g u v closed.0 r
  | inr r ↦ closed_reads size b x y g u v closed.1 r
]
closed_reads size (select c a b) x y g u v closed reads = elim reads [
  | inl r ↦ closed_reads size c x y g u v closed.0 r
  | inr rest ↦ elim rest [
    | inl r ↦ closed_reads size a x y g u v closed.1 r
    | inr r ↦ closed_reads size b x y g u v closed.2 r
  ]
]
closed_reads size (convert how a t) x y g u v closed reads = closed_reads size a x y g u v closed reads
closed_reads size (scale op a k) x y g u v closed reads = closed_reads size a x y g u v closed reads

no_types : AreTypes []
no_types g t is = absurd (let e : ⊥ = cc in e)

none_in : AreInTypes [] []
none_in g t is x y = absurd (let e : ⊥ = cc in e)

-- a constant may replace what has its type and its value, and no read
constant_stands : (a : Tree) (v : ℤ) (s : Ty) → IsClosed a →
    ((types : List Ty) (t : Ty) → HasType types a t → t ≡ s) → ((size : Size) (known : List Picture) (x y : ℤ) → value size known a x y ≡ v) → StandsFor a (constant v s)
constant_stands a v s closed same worth = record {
  rewriting = λ size types t has near.
      let none = closed_typed types a t closed has in
      let is = same types t has in
      let ok : IsType t = type_typed [] no_types a t none in
      let inside : IsIn t (value size [] a (pos 0) (pos 0)) = value_in size [] [] no_types none_in a t none (pos 0) (pos 0) in
      let P : Ty → Type 0 = λ u. IsType u in
      let Q : Ty → Type 0 = λ u. IsIn u v in
      let R : ℤ → Type 0 = λ w. IsIn t w in
      record {
        typed = (subst P is ok, subst Q is (subst R (worth size [] (pos 0) (pos 0)) inside), is);
        depth = depth_some a;
        offsets = tt;
        values = λ known are x y. sym (worth size known x y);
        reads = λ x y g u v. (λ h. absurd h, λ h. absurd (closed_reads size a x y g u v closed h));
      };
}

same_some : (t s : Ty) → Some t ≡ Some s → t ≡ s
same_some t s e = cc

-- one type at most
one_type : (types : List Ty) (e : Tree) (s t : Ty) → HasType types e s → HasType types e t → s ≡ t
one_type types (constant v r) s t h k = h.2 ∙ sym k.2
one_type types (read edge g dx dy) s t h k = same_some s t (sym h ∙ k)
one_type types (shifted edge dx dy a) s t h k = one_type types a s t h k
one_type types (unary op a) s t (p, h, is) (q, k, of) = same_some s t (sym is ∙ ap (unary_type op) (one_type types a p q h k) ∙ of)
one_type types (binary op a b) s t (p, q, h, i, is) (l, m, k, n, of) =
    same_some s t (sym is ∙ ap (λ w. binary_type op w q) (one_type types a p l h k) ∙ ap (binary_type op l) (one_type types b q m i n) ∙ of)
one_type types (select c a b) s t (o, p, q, g, h, i, is) (j, l, m, f, k, n, of) =
    same_some s t (sym is ∙ ap (λ w. select_type w p q) (one_type types c o j g f) ∙ ap (λ w. select_type j w q) (one_type types a p l h k) ∙ ap (select_type j l) (one_type types b q m i n) ∙ of)
one_type types (convert how a r) s t (ok, is, p, h) (also, of, q, k) = is ∙ sym of
one_type types (scale op a n) s t (p, h, is) (q, k, of) = same_some s t (sym is ∙ ap (λ w. scaling_type op w n) (one_type types a p q h k) ∙ of)

-- the constant of its value and its type may replace an expression
pub worth_stands : (a : Tree) (v : ℤ) (s : Ty) → IsWorth a v s → StandsFor a (constant v s)
worth_stands a v s w = constant_stands a v s w.closed (λ types t has. one_type [] a t s (closed_typed types a t w.closed has) w.typed) w.value

-- what the operators make of constants
pub constant_worth : (v : ℤ) (r : Ty) → IsTyped (constant v r) → IsWorth (constant v r) v r
constant_worth v r typed = record { closed = tt; typed = (typed.typed.0, typed.typed.1, refl); value = λ size known x y. refl }

pub unary_worth : (op : Unary) (a : Tree) (v : ℤ) (r s : Ty) → a ≡ constant v r → IsTyped (unary op a) → unary_type op r ≡ Some s → IsWorth (unary op a) (unary_value op v) s
unary_worth op a v r s e typed rule =
    let P : Tree → Type 0 = λ x. HasType typed.types x typed.typed.0 in
    let Q : Tree → Type 0 = λ x. IsWorth (unary op x) (unary_value op v) s in
    let has = subst P e typed.typed.1 in
    subst Q (sym e) (record { closed = tt; typed = (r, (has.0, has.1, refl), rule); value = λ size known x y. refl })

pub binary_worth : (op : Binary) (a b : Tree) (v u : ℤ) (r q s : Ty) → a ≡ constant v r → b ≡ constant u q → IsTyped (binary op a b) → binary_type op r q ≡ Some s → IsWorth (binary op a b) (binary_value op v u) s
binary_worth op a b v u r q s e f typed rule =
    let P : Tree → Type 0 = λ x. HasType typed.types x typed.typed.0 in
    let Q : Tree → Type 0 = λ x. HasType typed.types x typed.typed.1 in
    let left = subst P e typed.typed.2 in
    let right = subst Q f typed.typed.3 in
    let R : Tree → Type 0 = λ x. IsWorth (binary op x b) (binary_value op v u) s in
    let S : Tree → Type 0 = λ x. IsWorth (binary op (constant v r) x) (binary_value op v u) s in
    subst R (sym e) (subst S (sym f) (record { closed = (tt, tt); typed = (r, q, (left.0, left.1, refl), (right.0, right.1, refl), rule); value = λ size known x y. refl }))

pub select_worth : (c a b : Tree) (w v u : ℤ) (p r q s : Ty) → c ≡ constant w p → a ≡ constant v r → b ≡ constant u q → IsTyped (select c a b) → select_type p r q ≡ Some s → IsWorth (select c a b) (select_value w v u) s
select_worth c a b w v u p r q s d e f typed rule =
    let N : Tree → Type 0 = λ x. HasType typed.types x typed.typed.0 in
    let P : Tree → Type 0 = λ x. HasType typed.types x typed.typed.1 in
    let Q : Tree → Type 0 = λ x. HasType typed.types x typed.typed.2 in
    let first = subst N d typed.typed.3 in
    let left = subst P e typed.typed.4 in
    let right = subst Q f typed.typed.5 in
    let R : Tree → Type 0 = λ x. IsWorth (select x a b) (select_value w v u) s in
    let S : Tree → Type 0 = λ x. IsWorth (select (constant w p) x b) (select_value w v u) s in
    let T : Tree → Type 0 = λ x. IsWorth (select (constant w p) (constant v r) x) (select_value w v u) s in
    subst R (sym d) (subst S (sym e) (subst T (sym f) (record {
      closed = (tt, tt, tt);
      typed = (p, r, q, (first.0, first.1, refl), (left.0, left.1, refl), (right.0, right.1, refl), rule);
      value = λ size known x y. refl;
    })))

pub convert_worth : (how : Conversion) (a : Tree) (v : ℤ) (r s : Ty) → a ≡ constant v r → IsTyped (convert how a s) → IsWorth (convert how a s) (conversion_value how s v) s
convert_worth how a v r s e typed =
    let P : Tree → Type 0 = λ x. HasType typed.types x typed.typed.2 in
    let Q : Tree → Type 0 = λ x. IsWorth (convert how x s) (conversion_value how s v) s in
    let has = subst P e typed.typed.3 in
    subst Q (sym e) (record { closed = tt; typed = (typed.typed.0, refl, r, (has.0, has.1, refl)); value = λ size known x y. refl })

pub scale_worth : (op : Scaling) (a : Tree) (v : ℤ) (k : ℕ) (r s : Ty) → a ≡ constant v r → IsTyped (scale op a k) → scaling_type op r k ≡ Some s → IsWorth (scale op a k) (scaling_value op v k) s
scale_worth op a v k r s e typed rule =
    let P : Tree → Type 0 = λ x. HasType typed.types x typed.typed.0 in
    let Q : Tree → Type 0 = λ x. IsWorth (scale op x k) (scaling_value op v k) s in
    let has = subst P e typed.typed.1 in
    subst Q (sym e) (record { closed = tt; typed = (r, (has.0, has.1, refl), rule); value = λ size known x y. refl })

-- two constants are operands, where the operator gives a type
pub takes_two : (op : Binary) (a b : Tree) (v u : ℤ) (r q s : Ty) → a ≡ constant v r → b ≡ constant u q → IsTyped (binary op a b) → binary_type op r q ≡ Some s → TakesTwo op v u
takes_two op a b v u r q s e f typed rule =
    let P : Tree → Type 0 = λ x. HasType typed.types x typed.typed.0 in
    let Q : Tree → Type 0 = λ x. HasType typed.types x typed.typed.1 in
    let left = subst P e typed.typed.2 in
    let right = subst Q f typed.typed.3 in
    record { a = r; b = q; t = s; left_typed = left.0; right_typed = right.0; left = left.1; right = right.1; rule = rule }

-- what may replace another in a form
pub stands_on : (a b c : Tree) → StandsFor a b → StandsFor b c → StandsFor a c
stands_on a b c first next = record {
  rewriting = λ size types t has near.
      let f = first.rewriting size types t has near in
      let n = next.rewriting size types t f.typed f.offsets in
      let less = f.depth in
      let more = n.depth in
      record {
        typed = n.typed;
        depth = omega (arith, less, more);
        offsets = n.offsets;
        values = λ known are x y. n.values known are x y ∙ f.values known are x y;
        reads = λ x y g u v. (λ h. (f.reads x y g u v).0 ((n.reads x y g u v).0 h), λ h. (n.reads x y g u v).1 ((f.reads x y g u v).1 h));
      };
}

pub shifted_stands : (edge : Edge) (dx dy : ℤ) (a b : Tree) → StandsFor a b → StandsFor (shifted edge dx dy a) (shifted edge dx dy b)
shifted_stands edge dx dy a b stands = record {
  rewriting = λ size types t has near.
      let is = stands.rewriting size types t has near.1 in
      let less = is.depth in
      record {
        typed = is.typed;
        depth = omega (arith, less);
        offsets = (near.0, is.offsets);
        values = λ known are x y. edged_agrees size edge (value size known b) (value size known a) (is.values known are) (x +ℤ dx) (y +ℤ dy);
        reads = λ x y g u v. (λ (w, z, ends, h). (w, z, ends, (is.reads w z g u v).0 h), λ (w, z, ends, h). (w, z, ends, (is.reads w z g u v).1 h));
      };
}

pub unary_stands : (op : Unary) (a b : Tree) → StandsFor a b → StandsFor (unary op a) (unary op b)
unary_stands op a b stands = record {
  rewriting = λ size types t (s, h, rule) near.
      let is = stands.rewriting size types s h near in
      let less = is.depth in
      record {
        typed = (s, is.typed, rule);
        depth = omega (arith, less);
        offsets = is.offsets;
        values = λ known are x y. ap (unary_value op) (is.values known are x y);
        reads = is.reads;
      };
}

pub convert_stands : (how : Conversion) (a b : Tree) (to : Ty) → StandsFor a b → StandsFor (convert how a to) (convert how b to)
convert_stands how a b to stands = record {
  rewriting = λ size types t (ok, same, s, h) near.
      let is = stands.rewriting size types s h near in
      let less = is.depth in
      record {
        typed = (ok, same, s, is.typed);
        depth = omega (arith, less);
        offsets = is.offsets;
        values = λ known are x y. ap (conversion_value how to) (is.values known are x y);
        reads = is.reads;
      };
}

pub scale_stands : (op : Scaling) (a b : Tree) (k : ℕ) → StandsFor a b → StandsFor (scale op a k) (scale op b k)
scale_stands op a b k stands = record {
  rewriting = λ size types t (s, h, rule) near.
      let is = stands.rewriting size types s h near in
      let less = is.depth in
      record {
        typed = (s, is.typed, rule);
        depth = omega (arith, less);
        offsets = is.offsets;
        values = λ known are x y. ap (λ w. scaling_value op w k) (is.values known are x y);
        reads = is.reads;
      };
}

either : {A B C D : Type 0} → A ↔ B → C ↔ D → (A ⊎ C) ↔ (B ⊎ D)
either p q = (λ h. elim h [ inl a ↦ inl (p.0 a) | inr c ↦ inr (q.0 c) ], λ h. elim h [ inl b ↦ inl (p.1 b) | inr d ↦ inr (q.1 d) ])

pub binary_stands : (op : Binary) (a b c d : Tree) → StandsFor a c → StandsFor b d → StandsFor (binary op a b) (binary op c d)
binary_stands op a b c d left right = record {
  rewriting = λ size types t (s, r, h, k, rule) near.
      let l = left.rewriting size types s h near.0 in
      let m = right.rewriting size types r k near.1 in
      let less = l.depth in
      let also = m.depth in
      record {
        typed = (s, r, l.typed, m.typed, rule);
        depth = omega (arith, less, also);
        offsets = (l.offsets, m.offsets);
        values = λ known are x y. ap (λ w. binary_value op w (value size known d x y)) (l.values known are x y) ∙ ap (binary_value op (value size known a x y)) (m.values known are x y);
        reads = λ x y g u v. either (l.reads x y g u v) (m.reads x y g u v);
      };
}

pub select_stands : (a b c d e f : Tree) → StandsFor a d → StandsFor b e → StandsFor c f → StandsFor (select a b c) (select d e f)
select_stands a b c d e f first left right = record {
  rewriting = λ size types t (q, s, r, n, h, k, rule) near.
      let i = first.rewriting size types q n near.0 in
      let l = left.rewriting size types s h near.1 in
      let m = right.rewriting size types r k near.2 in
      let less = i.depth in
      let also = l.depth in
      let too = m.depth in
      record {
        typed = (q, s, r, i.typed, l.typed, m.typed, rule);
        depth = omega (arith, less, also, too);
        offsets = (i.offsets, l.offsets, m.offsets);
        values = λ known are x y.
            ap (λ w. select_value w (value size known e x y) (value size known f x y)) (i.values known are x y)
            ∙ ap (λ w. select_value (value size known a x y) w (value size known f x y)) (l.values known are x y)
            ∙ ap (select_value (value size known a x y) (value size known b x y)) (m.values known are x y);
        reads = λ x y g u v. either (i.reads x y g u v) (either (l.reads x y g u v) (m.reads x y g u v));
      };
}

-- what may replace a typed expression is typed
pub still_typed : (a b : Tree) → StandsFor a b → IsTyped a → IsTyped b
still_typed a b stands typed =
    let is = stands.rewriting (record { width = 0; height = 0 }) typed.types typed.ty typed.typed typed.offsets in
    record { types = typed.types; ty = typed.ty; typed = is.typed; offsets = is.offsets }

-- a whole that is not closed is no closed part
whole : (part e : Tree) → (IsClosed e → ⊥) → part ≡ e → IsClosed part → IsConstant part
whole part e never is closed = absurd (never (let P : Tree → Type 0 = λ e. IsClosed e in subst P is closed))

-- what has folded parts and is no constant is not closed
pub not_closed : (e : Tree) → HasFoldedParts e → (IsConstant e → ⊥) → IsClosed e → ⊥
not_closed e folded not closed = not (folded e (itself e) closed)
  where
    itself : (e : Tree) → IsPart e e
    itself (constant v t) = refl
    itself (read edge g dx dy) = refl
    itself (shifted edge dx dy a) = inl refl
    itself (unary op a) = inl refl
    itself (binary op a b) = inl refl
    itself (select c a b) = inl refl
    itself (convert how a t) = inl refl
    itself (scale op a k) = inl refl

-- forms of operands with folded parts
pub unary_folds : (op : Unary) (a : Tree) → HasFoldedParts a → (IsConstant a → ⊥) → HasFoldedParts (unary op a)
unary_folds op a folded not part is closed = elim is [
  | inl e ↦ whole part (unary op a) (λ h. not_closed a folded not h) e closed
  | inr below ↦ folded part below closed
]

pub convert_folds : (how : Conversion) (a : Tree) (t : Ty) → HasFoldedParts a → (IsConstant a → ⊥) → HasFoldedParts (convert how a t)
convert_folds how a t folded not part is closed = elim is [
  | inl e ↦ whole part (convert how a t) (λ h. not_closed a folded not h) e closed
  | inr below ↦ folded part below closed
]

pub scale_folds : (op : Scaling) (a : Tree) (k : ℕ) → HasFoldedParts a → (IsConstant a → ⊥) → HasFoldedParts (scale op a k)
scale_folds op a k folded not part is closed = elim is [
  | inl e ↦ whole part (scale op a k) (λ h. not_closed a folded not h) e closed
  | inr below ↦ folded part below closed
]

pub binary_folds : (op : Binary) (a b : Tree) → HasFoldedParts a → HasFoldedParts b → (IsConstant a → IsConstant b → ⊥) → HasFoldedParts (binary op a b)
binary_folds op a b left right not part is closed = elim is [
  | inl e ↦ whole part (binary op a b) (λ h. not_closed a left (λ c. not_closed b right (λ d. not c d) h.1) h.0) e closed
  | inr below ↦ elim below [ inl p ↦ left part p closed | inr p ↦ right part p closed ]
]

pub select_folds : (c a b : Tree) → HasFoldedParts c → HasFoldedParts a → HasFoldedParts b → (IsConstant c → IsConstant a → IsConstant b → ⊥) → HasFoldedParts (select c a b)
select_folds c a b first left right not part is closed = elim is [
  | inl e ↦ whole part (select c a b) (λ h. not_closed c first (λ i. not_closed a left (λ j. not_closed b right (λ k. not i j k) h.2) h.1) h.0) e closed
  | inr below ↦ elim below [
    | inl p ↦ first part p closed
    | inr rest ↦ elim rest [ inl p ↦ left part p closed | inr p ↦ right part p closed ]
  ]
]

-- what follows from a fact that holds where there is no value
pub if_none : {A P Q : Type 0} (o : Option A) → (P → Q) → IfNone o P → IfNone o Q
if_none None f h = f h
if_none (Some x) f h = h
