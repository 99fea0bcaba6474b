-- Why a body has more levels than was asked: the first of four conditions that holds, or that none does.
use Rattle.std.specs.Prelude.{ℕ, ◌+◌, max, Bool, true, false, not, nat_lt, ◌&&◌, ◌||◌, if◌then◌else◌, List, length, filter, fold, map, Option, Some, None, unwrap_or}
use Rattle.std.specs.Option.{option_map}
use Rattle.dk_base.specs.declared.TheConstants.{MAX_DEFINITIONS, MAX_NAME_BYTES}
use Rattle.pointwise_ir.specs.declared.program.Definition.{Definition}
use Rattle.pointwise_ir.specs.Trees.{Tree, constant, read, shifted, unary, binary, select, convert, scale, tree_of}
use Rattle.pointwise_ir.specs.Programs.{Program, bodies_of}
use Rattle.body_levels.specs.Operators.{unary_levels, binary_levels, scaling_levels, conversion_levels, select_levels}
use Rattle.body_levels.specs.Levels.{choice, has_power, above, deeper, level_of}
use Rattle.body_levels.specs.Deep.{is_deep}
use Rattle.body_levels.specs.declared.reasons.Reason.{Reason}
use Rattle.body_levels.specs.declared.reasons.Reason.TheVariants.{Operator, Name, Limit, Moved, Unconfirmed}
use Rattle.body_levels.specs.declared.reasons.DeepBody.{DeepBody}

-- at least this many levels, unless there is no read
abbrev pub at_least : ℕ → Option ℕ → Option ℕ
at_least n levels = option_map (λ l. max n l) levels

-- The most levels that one operator of the expression, or the choice of one clamped read, adds by itself. None if it has no read.
abbrev pub greatest_own : Tree → Option ℕ
greatest_own (constant v t) = None
greatest_own (read edge g dx dy) = Some (choice edge dx dy)
greatest_own (shifted edge dx dy a) = Some (max (choice edge dx dy) (unwrap_or (greatest_own a) 0))
greatest_own (unary op a) = at_least (unary_levels op) (greatest_own a)
greatest_own (binary op a b) = at_least (binary_levels op (has_power a b)) (deeper (greatest_own a) (greatest_own b))
greatest_own (select c a b) = at_least select_levels (deeper (greatest_own c) (deeper (greatest_own a) (greatest_own b)))
greatest_own (convert how a t) = at_least (conversion_levels how) (greatest_own a)
greatest_own (scale op a k) = at_least (scaling_levels op k) (greatest_own a)

-- all levels of the expression are those of one operator, which is not divided
abbrev pub is_one_operator : Tree → Bool
is_one_operator e = not (nat_lt (unwrap_or (greatest_own e) 0) (level_of e))

-- a part of the expression is the body of an inline image, at the place where it is read, of more than `most` levels
abbrev pub has_deep_move : (most : ℕ) → Tree → Bool
has_deep_move most (constant v t) = false
has_deep_move most (read edge g dx dy) = false
has_deep_move most (shifted edge dx dy a) = nat_lt most (level_of (shifted edge dx dy a))
has_deep_move most (unary op a) = has_deep_move most a
has_deep_move most (binary op a b) = has_deep_move most a || has_deep_move most b
has_deep_move most (select c a b) = has_deep_move most c || (has_deep_move most a || has_deep_move most b)
has_deep_move most (convert how a t) = has_deep_move most a
has_deep_move most (scale op a k) = has_deep_move most a

-- an expression that was cut: its levels, None if it has no read, and its pieces
pub record Cutting : Type 0 where
  pub levels : Option ℕ
  pub pieces : ℕ

-- an operand passes below an operator of `own` levels: it has levels, and with the operator's they are more than `most`
abbrev pub passes : (most own : ℕ) → Option ℕ → Bool
passes most own None = false
passes most own (Some levels) = nat_lt 0 own && (nat_lt 0 levels && nat_lt most (own + levels))

-- an operand with the operator of `own` levels above it: where it passes, the operator is above the read of a piece
abbrev pub under : (most own : ℕ) → Cutting → Cutting
under most own c = if passes most own c.levels then record { levels = Some own; pieces = c.pieces + 1 } else record { levels = above own c.levels; pieces = c.pieces }

-- two operands
abbrev pub beside : Cutting → Cutting → Cutting
beside a b = record { levels = deeper a.levels b.levels; pieces = a.pieces + b.pieces }

-- not cut, with these levels
abbrev pub uncut : Option ℕ → Cutting
uncut levels = record { levels = levels; pieces = 0 }

-- The expression with each operand that passes cut off, the innermost first. Each is a piece of its own.
abbrev pub cutting : (most : ℕ) → Tree → Cutting
cutting most (constant v t) = uncut None
cutting most (read edge g dx dy) = uncut (Some (choice edge dx dy))
cutting most (shifted edge dx dy a) = beside (uncut (Some (choice edge dx dy))) (under most (choice edge dx dy) (cutting most a))
cutting most (unary op a) = under most (unary_levels op) (cutting most a)
cutting most (binary op a b) = beside (under most (binary_levels op (has_power a b)) (cutting most a)) (under most (binary_levels op (has_power a b)) (cutting most b))
cutting most (select c a b) = beside (under most select_levels (cutting most c)) (beside (under most select_levels (cutting most a)) (under most select_levels (cutting most b)))
cutting most (convert how a t) = under most (conversion_levels how) (cutting most a)
cutting most (scale op a k) = under most (scaling_levels op k) (cutting most a)

-- the pieces of these bodies together
abbrev pub pieces_of : (most : ℕ) → List Tree → ℕ
pieces_of most bodies = fold (λ n e. n + (cutting most e).pieces) 0 bodies

-- the program's definitions and the pieces of its bodies are more than a program may have
abbrev pub lacks_room : (most : ℕ) → Program → Bool
lacks_room most p = nat_lt MAX_DEFINITIONS (length p.images + pieces_of most (bodies_of p))

-- a piece's name, the definition's with `_` and a digit, would be too long
abbrev pub is_long_name : List ℕ → Bool
is_long_name name = nat_lt MAX_NAME_BYTES (length name + 2)

-- the word of the first condition that holds
abbrev pub first_reason : (is_operator is_name is_limit is_moved : Bool) → Reason
first_reason true n l m = Operator
first_reason false true l m = Name
first_reason false false true m = Limit
first_reason false false false true = Moved
first_reason false false false false = Unconfirmed

-- why the body of a definition of the program has more than `most` levels
abbrev pub reason_of : (most : ℕ) → Program → Definition → Reason
reason_of most p d = first_reason (is_one_operator (tree_of d.body)) (is_long_name d.name) (lacks_room most p) (has_deep_move most (tree_of d.body))

-- a definition by its name, and the reason
abbrev pub deep_body : (most : ℕ) → Program → Definition → DeepBody
deep_body most p d = record { name = d.name; reason = reason_of most p d }

-- the definitions whose bodies have more than `most` levels, in order, each with the reason
abbrev pub deep_bodies : (most : ℕ) → Program → List DeepBody
deep_bodies most p = map (deep_body most p) (filter (is_deep most) p.images)
