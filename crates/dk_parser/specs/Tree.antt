-- Syntax trees, without where they lie in memory.
use Rattle.std.specs.Prelude.{ℕ}
use Rattle.dk_base.specs.Types.{IsType}
use Rattle.dk_base.specs.declared.span.Span.{Span}
use Rattle.dk_base.specs.declared.operator.Unary.{Unary}
use Rattle.dk_base.specs.declared.operator.Binary.{Binary}
use Rattle.dk_base.specs.declared.operator.Scaling.{Scaling}
use Rattle.dk_parser.specs.declared.tree.Literal.{Literal}
use Rattle.dk_parser.specs.declared.tree.TypeWord.{TypeWord}
use Rattle.dk_parser.specs.declared.tree.ImageRead.{ImageRead}
use Rattle.dk_parser.specs.declared.tree.Expr.{Expr}
use Rattle.dk_parser.specs.declared.tree.Node.{Node, Number, Read, Unary', Binary', Scale', Cast', Sat', Select'}

pub data Tree : Type 0 where
  number : Span → ℕ → Tree
  read : Span → ImageRead → Tree
  unary : Span → Unary → Tree → Tree
  binary : Span → Binary → Tree → Tree → Tree
  scale : Span → Scaling → Tree → Literal → Tree
  cast : Span → Tree → TypeWord → Tree
  sat : Span → Tree → TypeWord → Tree
  select : Span → Tree → Tree → Tree → Tree

abbrev pub span_of : Tree → Span
span_of (number s v) = s
span_of (read s r) = s
span_of (unary s o a) = s
span_of (binary s o a b) = s
span_of (scale s o a k) = s
span_of (cast s a t) = s
span_of (sat s a t) = s
span_of (select s a b c) = s

-- the same form at another span
abbrev pub at_span : Span → Tree → Tree
at_span s (number _ v) = number s v
at_span s (read _ r) = read s r
at_span s (unary _ o a) = unary s o a
at_span s (binary _ o a b) = binary s o a b
at_span s (scale _ o a k) = scale s o a k
at_span s (cast _ a t) = cast s a t
at_span s (sat _ a t) = sat s a t
at_span s (select _ a b c) = select s a b c

-- each conversion is to a type of 1 to 64 bits
abbrev pub ConvertsToTypes : Tree → Type 0
ConvertsToTypes (number s v) = Unit {0}
ConvertsToTypes (read s r) = Unit {0}
ConvertsToTypes (unary s o a) = ConvertsToTypes a
ConvertsToTypes (binary s o a b) = ConvertsToTypes a × ConvertsToTypes b
ConvertsToTypes (scale s o a k) = ConvertsToTypes a
ConvertsToTypes (cast s a t) = IsType t.ty × ConvertsToTypes a
ConvertsToTypes (sat s a t) = IsType t.ty × ConvertsToTypes a
ConvertsToTypes (select s a b c) = ConvertsToTypes a × ConvertsToTypes b × ConvertsToTypes c

abbrev pub tree_at : Span → Node → Tree
tree_at span (Number v) = number span v
tree_at span (Read r) = read span r
tree_at span (Unary' o p s a) = unary span o (tree_at s a)
tree_at span (Binary' o p s a q t b) = binary span o (tree_at s a) (tree_at t b)
tree_at span (Scale' o p s a k) = scale span o (tree_at s a) k
tree_at span (Cast' p s a t) = cast span (tree_at s a) t
tree_at span (Sat' p s a t) = sat span (tree_at s a) t
tree_at span (Select' p s a q t b r u c) = select span (tree_at s a) (tree_at t b) (tree_at u c)

-- what an expression of the program is as a tree
abbrev pub tree_of : Expr → Tree
tree_of e = tree_at e.span e.node
