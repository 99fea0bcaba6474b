-- How long a program is at most.
use Rattle.std.proofs.Common.{ℕ, zero, suc, ◌+◌, ◌-◌, ◌*◌, ◌/◌, ◌<◌, ◌≤◌, Bool, true, false, nat_eq, List, [], ◌++◌, length, length-append, arith, lit≤, codes, decimal}
use Rattle.std.specs.Prelude.{if◌then◌else◌}
use Rattle.std.specs.List.{flat_map, range_with_len}
use Rattle.std.proofs.lemmas.Fmt.{length-decimal-le}
use Rattle.std.proofs.lemmas.Grind.{common_steps}
use Rattle.std.proofs.lemmas.Nat.{mod_below}
use Rattle.made_program.specs.declared.draws.BodyKind.{BodyKind}
use Rattle.made_program.specs.declared.draws.BodyKind.TheVariants.{Mean, Greater, Difference, Weighted}
use Rattle.made_program.specs.declared.draws.DrawnOffset.{DrawnOffset}
use Rattle.made_program.specs.Draws.{next, drawn, made_even, after, draws_of}
use Rattle.made_program.specs.Programs.{width_of, height_of, count_of, seed_of, step, name, read, body, opening, is_inline, definition_at, definitions, head_lines, output_line, program_of}

number : (n : ℕ) → n < 1000 → length (decimal n) ≤ 3
number n l = length-decimal-le 3 n (omega arith) (omega (arith, l)) (omega (arith, l))

step_length : (d : ℕ) → length (step d) ≤ 2
step_length d = by (nat_eq d 0) (nat_eq d 1) (nat_eq d 3) (nat_eq d 4)
  where
    by : (p q r s : Bool) → length (if p then codes "-2" else (if q then codes "-1" else (if r then codes "+1" else (if s then codes "+2" else [])))) ≤ 2
    by true q r s = lit≤ tt
    by false true r s = lit≤ tt
    by false false true s = lit≤ tt
    by false false false true = lit≤ tt
    by false false false false = lit≤ tt

name_length : (image : ℕ) → image < 100 → length (name image) ≤ 3
name_length zero l = lit≤ tt
name_length (suc k) l = omega (arith, length-decimal-le 2 (suc k) (omega arith) (omega (arith, l)) (omega (arith, l)))

-- the read of three parts
spelled : (a b c : List ℕ) → length a ≤ 3 → length b ≤ 2 → length c ≤ 2 → length (a ++ (codes "(x" ++ (b ++ (codes ",y" ++ (c ++ codes ")"))))) ≤ 12
spelled a b c g h k = grind (arith, common_steps)

read_length : (image : ℕ) (offset : DrawnOffset) → image < 100 → length (read image offset) ≤ 12
read_length image offset l = spelled (name image) (step offset.dx) (step offset.dy) (name_length image l) (step_length offset.dx) (step_length offset.dy)

body_length : (kind : BodyKind) (a b : List ℕ) → length a ≤ 12 → length b ≤ 12 → length (body kind a b) ≤ 85
body_length Mean a b h k = grind (arith, common_steps)
body_length Greater a b h k = grind (arith, common_steps)
body_length Difference a b h k = grind (arith, common_steps)
body_length Weighted a b h k = grind (arith, common_steps)

opening_length : (inline : Bool) → length (opening inline) ≤ 11
opening_length true = lit≤ tt
opening_length false = lit≤ tt

-- a definition of three parts
defined : (a b c : List ℕ) → length a ≤ 11 → length b ≤ 3 → length c ≤ 85 → length (a ++ (b ++ (codes " = im(x,y) " ++ (c ++ codes " end\n")))) ≤ 115
defined a b c g h k = grind (arith, common_steps)

source_below : (k s : ℕ) → 0 < k → made_even (drawn k s) < k
source_below k s l = omega (arith, mod_below (next s / 8) k l)

definition_length : (last s k : ℕ) → 0 < k → k < 100 → length (definition_at last s k) ≤ 115
definition_length last s k l h =
    let d = draws_of k (after (7 * (k - 1)) s) in
    defined (opening (is_inline k last d)) (name k) (body d.kind (read (k - 1) d.reads.first) (read d.reads.source d.reads.second))
    (opening_length (is_inline k last d)) (name_length k h)
    (body_length d.kind (read (k - 1) d.reads.first) (read d.reads.source d.reads.second) (read_length (k - 1) d.reads.first (omega (arith, h)))
    (read_length d.reads.source d.reads.second (omega (arith, source_below k (after 3 (after (7 * (k - 1)) s)) l, h))))

definitions_length : (last s n a : ℕ) → 0 < a → a + n < 100 → length (flat_map (definition_at last s) (range_with_len a n)) ≤ 115 * n
definitions_length last s zero a l h = omega arith
definitions_length last s (suc n) a l h =
    omega (arith, length-append (definition_at last s a) (flat_map (definition_at last s) (range_with_len (a + 1) n)), definition_length last s a l (omega (arith, h)), definitions_length last s n (a + 1) (omega arith) (omega (arith, h)))

head_length : (width height : ℕ) → width < 1000 → height < 1000 → length (head_lines width height) ≤ 26
head_length width height l h = by (decimal width) (decimal height) (number width l) (number height h)
  where
    by : (a b : List ℕ) → length a ≤ 3 → length b ≤ 3 → length (codes "size " ++ (a ++ (codes " " ++ (b ++ codes "\ninput a : u8\n")))) ≤ 26
    by a b l h = grind (arith, common_steps)

output_length : (last : ℕ) → last < 100 → length (output_line last) ≤ 11
output_length last l = by (name last) (name_length last l)
  where
    by : (a : List ℕ) → length a ≤ 3 → length (codes "output " ++ (a ++ codes "\n")) ≤ 11
    by a l = grind (arith, common_steps)

pub program_length : (n : ℕ) → length (program_of n) ≤ 8000
program_length n =
    let few : count_of n ≤ 64 = omega arith in
    by (head_lines (width_of n) (height_of n)) (definitions (count_of n) (seed_of n)) (output_line (count_of n))
    (head_length (width_of n) (height_of n) (omega arith) (omega arith))
    (omega (arith, definitions_length (count_of n) (seed_of n) (count_of n) 1 (omega arith) (omega (arith, few)), few))
    (output_length (count_of n) (omega (arith, few)))
  where
    by : (a b c : List ℕ) → length a ≤ 26 → length b ≤ 7360 → length c ≤ 11 → length (a ++ (b ++ c)) ≤ 8000
    by a b c g h k = omega (arith, length-append a (b ++ c), length-append b c)
