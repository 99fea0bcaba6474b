-- The bits of a netlist's registers.
use Rattle.std.specs.Prelude.{ℕ, ◌==◌, if◌then◌else◌, List, [], ◌∷◌, ◌++◌, fold, sum}
use Rattle.std.specs.List.{list_any}
use Rattle.dk_base.specs.Numbers.{bit_count}
use Rattle.wiring.specs.Netlist.{Netlist}

-- the bits of all registers
abbrev pub register_bits : Netlist → ℕ
register_bits b = sum b.regs

-- the bits of the register of a count from 0 up to `last`; a count that stays at 0 has no register
abbrev pub count_bits : (last : ℕ) → ℕ
count_bits last = if last == 0 then 0 else bit_count last

-- the list with this number at its end, unless the number is in it
abbrev pub with_new : List ℕ → ℕ → List ℕ
with_new xs x = if list_any (λ (y : ℕ). y == x) xs then xs else xs ++ x ∷ []

-- each number of the list once, in the order in which they first come
abbrev pub distinct : List ℕ → List ℕ
distinct xs = fold with_new [] xs
