-- What a list of instructions makes of the values in the slots.
use Rattle.std.specs.Prelude.{◌≡◌, ℕ, ◌^◌, ◌<◌, List, [], ◌∷◌, length, slice_index, slice_set, slice_get, Some, All}
use Rattle.std.specs.List.{AllZip}
use Rattle.wiring.specs.declared.netlist.Assign.{Assign}
use Rattle.wiring.specs.declared.right.Right.{Right}
use Rattle.wiring.specs.Netlist.{Netlist}
use Rattle.wiring.specs.Rights.{right_value, constants_of}
use Rattle.wiring.specs.Rules.{WidthsAgree, DivisorIsConstant}
use Rattle.wiring.specs.Sizes.{IsConstant}
use Rattle.cycle_sim.specs.declared.settle.Instruction.{Instruction}
use Rattle.cycle_sim.specs.Slots.{word_at, IsNarrow, slot, rename}

-- what a right side over slots is worth
abbrev pub slots_value : List ℕ → List (List ℕ) → List ℕ → Right ℕ ℕ → ℕ
slots_value widths arrays values r = right_value (λ n. slice_index widths n) (word_at arrays) (λ n. slice_index values n) r

abbrev pub instruction_value : List ℕ → List (List ℕ) → List ℕ → Instruction → ℕ
instruction_value widths arrays values i = slots_value widths arrays values i.right

-- A right side over slots whose value can be computed.
pub record CanEvaluate (widths : List ℕ) (arrays : List (List ℕ)) (values : List ℕ) (r : Right ℕ ℕ) : Type 0 where
  -- the widths of its operands agree
  pub agree : WidthsAgree (λ n. slice_index widths n) (λ (_ : ℕ). 0) r
  -- a divisor is a constant
  pub divisor : DivisorIsConstant r
  -- the operands whose widths matter have at most 64 bits
  pub narrow : IsNarrow (λ n. slice_index widths n) r
  -- its value has at most 64 bits
  pub fits : slots_value widths arrays values r < 2 ^ 64

abbrev pub run_code : List ℕ → List (List ℕ) → List Instruction → List ℕ → List ℕ
run_code widths arrays [] values = values
run_code widths arrays (i ∷ code) values = run_code widths arrays code (slice_set values i.target (instruction_value widths arrays values i))

-- what an instruction needs
pub record IsSafe (widths : List ℕ) (arrays : List (List ℕ)) (values : List ℕ) (i : Instruction) : Type 0 where
  pub target : i.target < length values
  pub agree : WidthsAgree (λ n. slice_index widths n) (λ (_ : ℕ). 0) i.right
  pub divisor : DivisorIsConstant i.right
  pub narrow : IsNarrow (λ n. slice_index widths n) i.right
  pub constants : All IsConstant (constants_of i.right)
  pub fits : instruction_value widths arrays values i < 2 ^ 64

abbrev pub CodeIsSafe : List ℕ → List (List ℕ) → List Instruction → List ℕ → Type 0
CodeIsSafe widths arrays [] values = Unit {0}
CodeIsSafe widths arrays (i ∷ code) values = IsSafe widths arrays values i × CodeIsSafe widths arrays code (slice_set values i.target (instruction_value widths arrays values i))

-- the instruction of an assign
abbrev pub instruction : Netlist → Assign → Instruction
instruction m a = record { target = slot m a.target; right = rename (slot m) a.right }

-- it is that of the assign of this number
abbrev pub IsInstructionAt : Netlist → ℕ → Instruction → Type 0
IsInstructionAt m k i = (a : Assign) × (slice_get m.assigns k ≡ Some a) × (i ≡ instruction m a)

-- the code is that of the assigns in this order
abbrev pub IsCode : Netlist → List ℕ → List Instruction → Type 0
IsCode m order code = AllZip (IsInstructionAt m) order code
