-- How many levels of operators an expression has: the most operators that follow one another on a way from a read to its value.
use Rattle.std.specs.Prelude.{ℕ, ◌+◌, max, ℤ, pos, negsuc, Bool, false, ◌&&◌, ◌||◌, ◌==◌, unsigned_abs, if◌then◌else◌, List, fold, Option, Some, None, unwrap_or}
use Rattle.std.specs.Option.{option_map}
use Rattle.std.specs.Int.{is_power_of_two}
use Rattle.pointwise_ir.specs.declared.expr.Edge.{Edge}
use Rattle.pointwise_ir.specs.declared.expr.Edge.TheVariants.{Zero, Clamp}
use Rattle.pointwise_ir.specs.Trees.{Tree, constant, read, shifted, unary, binary, select, convert, scale}
use Rattle.body_levels.specs.Operators.{unary_levels, binary_levels, scaling_levels, conversion_levels, select_levels}

-- a clamped read with an offset chooses among the taps of its image
abbrev pub choice : Edge → (dx dy : ℤ) → ℕ
choice Zero dx dy = 0
choice Clamp dx dy = if (unsigned_abs dx == 0) && (unsigned_abs dy == 0) then 0 else 1

abbrev pub is_power : ℤ → Bool
is_power (pos v) = is_power_of_two v
is_power (negsuc v) = false

-- the expression is a power of two that the program writes
abbrev pub is_constant_power : Tree → Bool
is_constant_power (constant v t) = is_power v
is_constant_power (read edge g dx dy) = false
is_constant_power (shifted edge dx dy a) = false
is_constant_power (unary op a) = false
is_constant_power (binary op a b) = false
is_constant_power (select c a b) = false
is_constant_power (convert how a t) = false
is_constant_power (scale op a k) = false

-- an operand is a power of two that the program writes
abbrev pub has_power : (a b : Tree) → Bool
has_power a b = is_constant_power a || is_constant_power b

-- this many levels more, unless there is no read
abbrev pub above : ℕ → Option ℕ → Option ℕ
above n levels = option_map (λ l. n + l) levels

-- the more levels of two parts
abbrev pub deeper : Option ℕ → Option ℕ → Option ℕ
deeper None b = b
deeper (Some a) None = Some a
deeper (Some a) (Some b) = Some (max a b)

-- the levels of an expression; None if it has no read, and so is a constant
abbrev pub level : Tree → Option ℕ
level (constant v t) = None
level (read edge g dx dy) = Some (choice edge dx dy)
level (shifted edge dx dy a) = Some (choice edge dx dy + unwrap_or (level a) 0)
level (unary op a) = above (unary_levels op) (level a)
level (binary op a b) = above (binary_levels op (has_power a b)) (deeper (level a) (level b))
level (select c a b) = above select_levels (deeper (level c) (deeper (level a) (level b)))
level (convert how a t) = above (conversion_levels how) (level a)
level (scale op a k) = above (scaling_levels op k) (level a)

-- the levels of a body; a constant has none
abbrev pub level_of : Tree → ℕ
level_of e = unwrap_or (level e) 0

-- the most levels of these bodies
abbrev pub greatest_level : List Tree → ℕ
greatest_level bodies = fold (λ most e. max most (level_of e)) 0 bodies
