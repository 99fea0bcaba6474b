-- How deep a tree is, and where it first gets too deep.
use Rattle.std.specs.Prelude.{ℕ, suc, ◌+◌, max, Option, Some, None, nat_eq, if◌then◌else◌}
use Rattle.dk_base.specs.declared.TheConstants.{MAX_SOURCE_DEPTH}
use Rattle.dk_base.specs.declared.span.Span.{Span}
use Rattle.dk_parser.specs.Tree.{Tree, number, read, unary, binary, scale, cast, sat, select, span_of}

-- 1 for a number or a read, and 1 more than its deepest operand for any other form
abbrev pub depth : Tree → ℕ
depth (number s v) = 1
depth (read s r) = 1
depth (unary s o a) = 1 + depth a
depth (binary s o a b) = 1 + max (depth a) (depth b)
depth (scale s o a k) = 1 + depth a
depth (cast s a t) = 1 + depth a
depth (sat s a t) = 1 + depth a
depth (select s a b c) = 1 + max (depth a) (max (depth b) (depth c))

-- the first that is there
abbrev pub first : Option Span → Option Span → Option Span
first None other = other
first (Some s) other = Some s

abbrev pub here : Tree → Option Span
here e = if nat_eq (depth e) (suc MAX_SOURCE_DEPTH) then Some (span_of e) else None

-- the first subtree that is deeper than the limit by one, operands before their operator, below the tree itself
abbrev pub below : Tree → Option Span
below (number s v) = None
below (read s r) = None
below (unary s o a) = first (below a) (here a)
below (binary s o a b) = first (first (below a) (here a)) (first (below b) (here b))
below (scale s o a k) = first (below a) (here a)
below (cast s a t) = first (below a) (here a)
below (sat s a t) = first (below a) (here a)
below (select s a b c) = first (first (below a) (here a)) (first (first (below b) (here b)) (first (below c) (here c)))

abbrev pub too_deep : Tree → Option Span
too_deep e = first (below e) (here e)
