use Rattle.std.proofs.Common.{◌≡◌, ℕ, ◌<◌, refl, arith, decimal}
use Rattle.verilog_layout.proofs.Decimals.{written, decimal_written}
use Rattle.verilog_layout.specs.Layout.{block_head}
use Rattle.verilog_layout.proofs.worked.worked_layouts.Goals as goal

small : (n : ℕ) → n < 100 → decimal n ≡ written 2 n
small n l = decimal_written 1 n (omega (arith, l)) (omega (arith, l))

pub returns-clause-copy : goal.returns-clause-copy
returns-clause-copy c = rw (small 7 (omega arith)) refl

pub returns-clause-table : goal.returns-clause-table
unfolding block_head
returns-clause-table c = rw (small 7 (omega arith), small 1 (omega arith), small 2 (omega arith), small 0 (omega arith), small 8 (omega arith), small 5 (omega arith)) refl

pub returns-clause-held : goal.returns-clause-held
unfolding block_head
returns-clause-held c = rw (small 7 (omega arith)) refl

pub returns-clause-ports : goal.returns-clause-ports
returns-clause-ports c = rw (small 1 (omega arith), small 2 (omega arith), small 3 (omega arith), small 4 (omega arith), small 5 (omega arith), small 6 (omega arith), small 15 (omega arith)) refl

pub returns-clause-rights : goal.returns-clause-rights
unfolding block_head
returns-clause-rights c = rw (small 7 (omega arith), small 15 (omega arith), small 23 (omega arith), small 1 (omega arith), small 8 (omega arith), small 3 (omega arith), small 16 (omega arith), small 9 (omega arith)) refl

pub returns-clause-constants : goal.returns-clause-constants
returns-clause-constants c =
    rw (small 63 (omega arith), small 64 (omega arith), small 1 (omega arith), decimal_written 19 18446744073709551615 (omega arith) (omega arith), decimal_written 18 9223372036854775808 (omega arith) (omega arith)) refl
