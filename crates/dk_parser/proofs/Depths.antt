-- A tree that is not too deep has no subtree that is.
use Rattle.std.proofs.Common.{◌≡◌, ◌≤◌, Some, None, arith, refl, ap, sym, ◌∙◌}
use Rattle.dk_base.specs.declared.span.Span.{Span}
use Rattle.dk_base.specs.declared.operator.Binary.{Binary}
use Rattle.dk_base.specs.declared.operator.Unary.{Unary}
use Rattle.dk_base.specs.declared.operator.Scaling.{Scaling}
use Rattle.dk_parser.specs.declared.tree.Node.{Node}
use Rattle.dk_parser.specs.Tree.{Tree, number, read, unary, binary, scale, cast, sat, select, span_of, tree_at, tree_of}
use Rattle.dk_parser.specs.Words.{over}
use Rattle.dk_parser.specs.declared.tree.Expr.{Expr}
use Rattle.dk_parser.specs.declared.tree.Literal.{Literal}
use Rattle.dk_parser.specs.declared.tree.TypeWord.{TypeWord}
use Rattle.dk_parser.specs.Depth.{depth, below, here, too_deep}

not_here : (e : Tree) → depth e ≤ 512 → here e ≡ None
not_here e h = grind arith

pub none_below : (e : Tree) → depth e ≤ 513 → below e ≡ None
none_below (number s v) h = refl
none_below (read s r) h = refl
none_below (unary s o a) h = rw (none_below a (omega arith), not_here a (omega arith)) refl
none_below (binary s o a b) h = rw (none_below a (omega arith), not_here a (omega arith), none_below b (omega arith), not_here b (omega arith)) refl
none_below (scale s o a k) h = rw (none_below a (omega arith), not_here a (omega arith)) refl
none_below (cast s a t) h = rw (none_below a (omega arith), not_here a (omega arith)) refl
none_below (sat s a t) h = rw (none_below a (omega arith), not_here a (omega arith)) refl
none_below (select s a b c) h = rw (none_below a (omega arith), not_here a (omega arith), none_below b (omega arith), not_here b (omega arith), none_below c (omega arith), not_here c (omega arith)) refl

pub shallow : (e : Tree) → depth e ≤ 512 → too_deep e ≡ None
shallow e h = rw (none_below e (omega arith), not_here e h) refl

pub span_at : (s : Span) (n : Node) → span_of (tree_at s n) ≡ s
span_at s (Node.Number v) = refl
span_at s (Node.Read r) = refl
span_at s (Node.Unary' o p u a) = refl
span_at s (Node.Binary' o p u a q v b) = refl
span_at s (Node.Scale' o p u a k) = refl
span_at s (Node.Cast' p u a k) = refl
span_at s (Node.Sat' p u a k) = refl
span_at s (Node.Select' p u a q v b r w c) = refl

pub deepest : (s : Span) (n : Node) (e : Tree) → tree_at s n ≡ e → depth e ≡ 513 → too_deep e ≡ Some s
deepest s n e t d = rw (none_below e (omega arith), d) (ap Some (ap span_of (sym t) ∙ span_at s n))

pub right_deep : (l r : Tree) (s : Span) → depth l ≤ 512 → too_deep r ≡ Some s → (o : Binary) (at : Span) → below (binary at o l r) ≡ Some s
right_deep l r s h k o at = rw (none_below l (omega arith), not_here l h) k

pub binary_is : (x y x' y' : Expr) (l r : Tree) (o : Binary) → tree_of x ≡ l → tree_of y ≡ r → x' ≡ x → y' ≡ y
    → binary (record { start = x.span.start; stop = y.span.stop }) o (tree_of x') (tree_of y') ≡ binary (over (span_of l) (span_of r)) o l r
binary_is x y x' y' l r o a b c d =
    let sa : span_of l ≡ x.span = ap span_of (sym a) ∙ span_at x.span x.node in
    let sb : span_of r ≡ y.span = ap span_of (sym b) ∙ span_at y.span y.node in
    rw (sa, sb, ap tree_of c, ap tree_of d, a, b) refl

pub pair_is : (x y x' y' : Expr) (l r : Tree) (o : Binary) (at : Span) → tree_of x ≡ l → tree_of y ≡ r → x' ≡ x → y' ≡ y
    → binary at o (tree_of x') (tree_of y') ≡ binary at o l r
pair_is x y x' y' l r o at a b c d = rw (ap tree_of c, ap tree_of d, a, b) refl

pub unary_is : (x x' : Expr) (e : Tree) (o : Unary) (at : Span) → tree_of x ≡ e → x' ≡ x
    → unary (record { start = at.start; stop = x.span.stop }) o (tree_of x') ≡ unary (over at (span_of e)) o e
unary_is x x' e o at a c =
    let s : span_of e ≡ x.span = ap span_of (sym a) ∙ span_at x.span x.node in
    rw (s, ap tree_of c, a) refl

pub scale_is : (x x' : Expr) (e : Tree) (o : Scaling) (k : Literal) → tree_of x ≡ e → x' ≡ x
    → scale (record { start = x.span.start; stop = k.span.stop }) o (tree_of x') k ≡ scale (over (span_of e) k.span) o e k
scale_is x x' e o k a c =
    let s : span_of e ≡ x.span = ap span_of (sym a) ∙ span_at x.span x.node in
    rw (s, ap tree_of c, a) refl

pub cast_is : (x x' : Expr) (e : Tree) (t : TypeWord) → tree_of x ≡ e → x' ≡ x
    → cast (record { start = x.span.start; stop = t.span.stop }) (tree_of x') t ≡ cast (over (span_of e) t.span) e t
cast_is x x' e t a c =
    let s : span_of e ≡ x.span = ap span_of (sym a) ∙ span_at x.span x.node in
    rw (s, ap tree_of c, a) refl

pub absolute_is : (x x' : Expr) (e : Tree) (at : Span) → tree_of x ≡ e → x' ≡ x → unary at Unary.Abs (tree_of x') ≡ unary at Unary.Abs e
absolute_is x x' e at a c = rw (ap tree_of c, a) refl

pub second_deep : (c l r : Tree) (s : Span) → depth c ≤ 512 → too_deep l ≡ Some s → (at : Span) → below (select at c l r) ≡ Some s
second_deep c l r s h k at = rw (none_below c (omega arith), not_here c h, k) refl

pub third_deep : (c l r : Tree) (s : Span) → depth c ≤ 512 → depth l ≤ 512 → too_deep r ≡ Some s → (at : Span) → below (select at c l r) ≡ Some s
third_deep c l r s h g k at = rw (none_below c (omega arith), not_here c h, none_below l (omega arith), not_here l g) k

pub select_is : (x y z x' y' z' : Expr) (c l r : Tree) (at : Span) → tree_of x ≡ c → tree_of y ≡ l → tree_of z ≡ r → x' ≡ x → y' ≡ y → z' ≡ z
    → select at (tree_of x') (tree_of y') (tree_of z') ≡ select at c l r
select_is x y z x' y' z' c l r at a b d e f g = rw (ap tree_of e, ap tree_of f, ap tree_of g, a, b, d) refl
