-- The numbers that are drawn, one after another.
use Rattle.std.specs.Prelude.{ℕ, Bool, zero, suc, ◌+◌, ◌-◌, ◌*◌, ◌/◌, ◌%◌, ◌&&◌, nat_eq, if◌then◌else◌}
use Rattle.made_program.specs.declared.draws.BodyKind.{BodyKind}
use Rattle.made_program.specs.declared.draws.BodyKind.TheVariants.{Mean, Greater, Difference, Weighted}
use Rattle.made_program.specs.declared.draws.Draws.{Draws}
use Rattle.made_program.specs.declared.draws.DrawnOffset.{DrawnOffset}
use Rattle.made_program.specs.declared.draws.Reads.{Reads}

-- the state after a draw
abbrev pub next : ℕ → ℕ
next state = (25173 * state + 13849) % 65536

-- what a draw below `most` gives in this state
abbrev pub drawn : (most state : ℕ) → ℕ
drawn most state = next state / 8 % most

-- the state after this many draws
abbrev pub after : (count state : ℕ) → ℕ
after zero state = state
after (suc count) state = after count (next state)

-- the greatest even number that is not above this one
abbrev pub made_even : ℕ → ℕ
made_even number = number - number % 2

-- the kind of a draw below 4
abbrev pub kind_of : ℕ → BodyKind
kind_of number = if nat_eq number 0 then Mean else (if nat_eq number 1 then Greater else (if nat_eq number 2 then Difference else Weighted))

-- an offset, each part drawn 2 above itself
abbrev pub offset_of : ℕ → DrawnOffset
offset_of state = record { dx = drawn 5 state; dy = drawn 5 (after 1 state) }

-- the two reads of image k: the offset of the first one, and source and offset of the second one; the number of the source is even
abbrev pub reads_of : (k state : ℕ) → Reads
reads_of k state = record { first = offset_of state; source = made_even (drawn k (after 2 state)); second = offset_of (after 3 state) }

-- Image k may be inline: its number is odd, and its mark is 0.
abbrev pub is_inlinable : (k mark : ℕ) → Bool
is_inlinable k mark = nat_eq (k % 2) 1 && nat_eq mark 0

-- the draws of image k, seven whatever the image uses: one for the kind, five for the reads, one for the mark
abbrev pub draws_of : (k state : ℕ) → Draws
draws_of k state = record { kind = kind_of (drawn 4 state); reads = reads_of k (after 1 state); inlinable = is_inlinable k (drawn 4 (after 6 state)) }
