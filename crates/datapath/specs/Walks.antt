-- How an expression is walked, a part after another.
use Rattle.std.specs.Prelude.{◌≡◌, ℕ, ◌+◌, ◌≤◌, List, length}
use Rattle.dk_base.specs.declared.ty.Ty.{Ty}
use Rattle.wiring.specs.declared.netlist.Net.{Net}
use Rattle.wiring.specs.Netlist.{Netlist}
use Rattle.pointwise_ir.specs.Trees.{Tree}
use Rattle.datapath.specs.declared.lowering.Walked.{Walked}
use Rattle.datapath.specs.Operands.{Carries}
use Rattle.datapath.specs.Levels.{logic_levels}
use Rattle.datapath.specs.Expressions.{IsTyped, IsMadeOfLeaves, type_of, types_in, worth_in, set_in, leaf_value, reads_in, bits_in}

-- a part of an expression whose reads begin at the n-th leaf on and whose bits from the k-th
pub record IsPartAt (e : Tree) (reads : List (Ty × Net)) (bits : List Net) (n k : ℕ) : Type 0 where
  pub typed : IsTyped e (types_in reads) n
  pub reads_stand : n + reads_in e ≤ length reads
  pub bits_stand : k + bits_in e ≤ length bits

-- its operand: of its type and its value over the leaves, made only of them with at most the levels of the part; the next leaves follow its own
pub record IsWalked (b : Netlist) (w : Walked) (e : Tree) (reads : List (Ty × Net)) (bits : List Net) (n k : ℕ) : Type 0 where
  pub carries : Carries b w.operand (type_of e (types_in reads) n) (λ s. leaf_value e (worth_in s reads) (set_in s bits) n k)
  pub made : IsMadeOfLeaves b (logic_levels e) w.operand.bits reads bits
  pub read : w.after.read ≡ n + reads_in e
  pub bit : w.after.bit ≡ k + bits_in e
