-- The values of expressions over the values of their leaves, which are in the order of the nodes: a net for each read, and a bit for each shifted part that is not clamped.
use Rattle.std.specs.Prelude.{◌≡◌, ℕ, ◌+◌, ◌<◌, ◌≤◌, ℤ, pos, Bool, IsTrue, false, nat_eq, List, length, slice_get, Option, Some, None, if◌then◌else◌}
use Rattle.dk_base.specs.declared.ty.Ty.{Ty}
use Rattle.dk_base.specs.declared.ty.Ty.TheVariants.{Unsigned}
use Rattle.dk_base.specs.declared.operator.Unary.{Unary}
use Rattle.dk_base.specs.declared.operator.Unary.TheVariants.{Negate, Not, Abs}
use Rattle.dk_base.specs.declared.operator.Binary.{Binary}
use Rattle.dk_base.specs.declared.operator.Scaling.{Scaling}
use Rattle.dk_base.specs.declared.operator.Scaling.TheVariants.{Divide, ShiftLeft, ShiftRight}
use Rattle.dk_base.specs.Types.{IsType, IsIn, width_of, common_type, negation_type, magnitude_type, shifted_type}
use Rattle.dk_base.specs.Numbers.{number}
use Rattle.dk_base.specs.Operators.{unary_value, are_operands, binary_result, binary_value, scaling_value, conversion_value, select_value}
use Rattle.wiring.specs.declared.netlist.Net.{Net}
use Rattle.wiring.specs.declared.netlist.Holder.{Holder}
use Rattle.wiring.specs.declared.netlist.Holder.TheVariants.{OfNet}
use Rattle.wiring.specs.Netlist.{Netlist, net_width}
use Rattle.wiring.specs.Snapshot.{Snapshot, net_value}
use Rattle.net_build.specs.Draft.{IsNet}
use Rattle.net_build.specs.Depth.{IsWithin}
use Rattle.pointwise_ir.specs.declared.expr.Edge.{Edge}
use Rattle.pointwise_ir.specs.declared.expr.Edge.TheVariants.{Zero, Clamp}
use Rattle.pointwise_ir.specs.Trees.{Tree, constant, read, shifted, unary, binary, select, convert, scale}
use Rattle.datapath.specs.declared.operand.Operand.{Operand}
use Rattle.datapath.specs.declared.operand.Signal.{Signal}
use Rattle.datapath.specs.declared.operand.Signal.TheVariants as signal
use Rattle.datapath.specs.Nets.{HasWidth, IsPartOf, IsMade}
use Rattle.datapath.specs.Operands.{IsOperand, Carries}

-- the types of what the operators give, of any width
abbrev pub unary_result : Unary → Ty → Ty
unary_result Negate a = negation_type a
unary_result Not a = a
unary_result Abs a = magnitude_type a

abbrev pub scaling_result : Scaling → Ty → ℕ → Ty
scaling_result Divide a k = a
scaling_result ShiftLeft a k = shifted_type a k
scaling_result ShiftRight a k = a

-- what the operators take
abbrev pub TakesOperand : Unary → Ty → Type 0
TakesOperand Negate a = Unit {0}
TakesOperand Not a = a ≡ Unsigned 1
TakesOperand Abs a = Unit {0}

abbrev pub TakesNumber : Scaling → ℕ → Type 0
TakesNumber Divide k = 0 < k
TakesNumber ShiftLeft k = k ≤ 63
TakesNumber ShiftRight k = k ≤ 63

-- Operands that a binary operator takes.
pub record AreArguments (b : Netlist) (operator : Binary) (p q : Operand) : Type 0 where
  -- the first is an operand
  pub x : IsOperand b p
  -- the second is an operand
  pub y : IsOperand b q
  -- the operator takes their types
  pub takes : IsTrue (are_operands operator p.ty q.ty)
  -- a type that has the numbers of both
  pub common : IsType (common_type p.ty q.ty)
  -- the result has a type
  pub ty : IsType (binary_result operator p.ty q.ty)

-- An operand that a unary operator takes.
pub record IsArgument (b : Netlist) (operator : Unary) (p : Operand) : Type 0 where
  -- it is an operand
  pub x : IsOperand b p
  -- the operator takes its type
  pub takes : TakesOperand operator p.ty
  -- the result has a type
  pub ty : IsType (unary_result operator p.ty)

-- An operand and a number that an operator with a written number takes.
pub record IsScaled (b : Netlist) (operator : Scaling) (p : Operand) (k : ℕ) : Type 0 where
  -- it is an operand
  pub x : IsOperand b p
  -- the operator takes the number
  pub by : TakesNumber operator k
  -- the result has a type
  pub ty : IsType (scaling_result operator p.ty k)

-- one bit denotes a shifted part, none where it is clamped
abbrev pub edge_bits : Edge → ℕ
edge_bits Zero = 1
edge_bits Clamp = 0

-- how many leaves of each sort are in an expression
abbrev pub reads_in : Tree → ℕ
reads_in (constant v t) = 0
reads_in (read edge g dx dy) = 1
reads_in (shifted edge dx dy a) = reads_in a
reads_in (unary op a) = reads_in a
reads_in (binary op a b) = reads_in a + reads_in b
reads_in (select c a b) = reads_in c + reads_in a + reads_in b
reads_in (convert how a t) = reads_in a
reads_in (scale op a k) = reads_in a

abbrev pub bits_in : Tree → ℕ
bits_in (constant v t) = 0
bits_in (read edge g dx dy) = 0
bits_in (shifted edge dx dy a) = edge_bits edge + bits_in a
bits_in (unary op a) = bits_in a
bits_in (binary op a b) = bits_in a + bits_in b
bits_in (select c a b) = bits_in c + bits_in a + bits_in b
bits_in (convert how a t) = bits_in a
bits_in (scale op a k) = bits_in a

-- neither a read nor an unclamped step is in it
abbrev pub IsLeafless : Tree → Type 0
IsLeafless e = (reads_in e ≡ 0) × (bits_in e ≡ 0)

-- An expression's type over the types of its reads, which are in order from the n-th on.
abbrev pub type_of : Tree → (ℕ → Ty) → ℕ → Ty
type_of (constant v t) types n = t
type_of (read edge g dx dy) types n = types n
type_of (shifted edge dx dy a) types n = type_of a types n
type_of (unary op a) types n = unary_result op (type_of a types n)
type_of (binary op a b) types n = binary_result op (type_of a types n) (type_of b types (n + reads_in a))
type_of (select c a b) types n = common_type (type_of a types (n + reads_in c)) (type_of b types (n + reads_in c + reads_in a))
type_of (convert how a t) types n = t
type_of (scale op a k) types n = scaling_result op (type_of a types n) k

abbrev pub IsTyped : Tree → (ℕ → Ty) → ℕ → Type 0
IsTyped (constant v t) types n = IsType t × IsIn t v
IsTyped (read edge g dx dy) types n = IsType (types n)
IsTyped (shifted edge dx dy a) types n = IsTyped a types n
IsTyped (unary op a) types n = IsTyped a types n × TakesOperand op (type_of a types n) × IsType (unary_result op (type_of a types n))
IsTyped (binary op a b) types n =
    IsTyped a types n × IsTyped b types (n + reads_in a) × IsTrue (are_operands op (type_of a types n) (type_of b types (n + reads_in a))) × IsType (common_type (type_of a types n) (type_of b types (n + reads_in a))) × IsType (binary_result op (type_of a types n) (type_of b types (n + reads_in a)))
IsTyped (select c a b) types n =
    IsTyped c types n × (type_of c types n ≡ Unsigned 1) × IsTyped a types (n + reads_in c) × IsTyped b types (n + reads_in c + reads_in a) × IsType (common_type (type_of a types (n + reads_in c)) (type_of b types (n + reads_in c + reads_in a)))
IsTyped (convert how a t) types n = IsTyped a types n × IsType t
IsTyped (scale op a k) types n = IsTyped a types n × TakesNumber op k × IsType (scaling_result op (type_of a types n) k)

-- the reads, from the n-th on, denote images of these types
abbrev pub AreReadsOf : List Ty → Tree → (ℕ → Ty) → ℕ → Type 0
AreReadsOf images (constant v t) types n = Unit {0}
AreReadsOf images (read edge g dx dy) types n = slice_get images g ≡ Some (types n)
AreReadsOf images (shifted edge dx dy a) types n = AreReadsOf images a types n
AreReadsOf images (unary op a) types n = AreReadsOf images a types n
AreReadsOf images (binary op a b) types n = AreReadsOf images a types n × AreReadsOf images b types (n + reads_in a)
AreReadsOf images (select c a b) types n = AreReadsOf images c types n × AreReadsOf images a types (n + reads_in c) × AreReadsOf images b types (n + reads_in c + reads_in a)
AreReadsOf images (convert how a t) types n = AreReadsOf images a types n
AreReadsOf images (scale op a k) types n = AreReadsOf images a types n

-- a shifted part with its bit
abbrev pub edged : Edge → Bool → ℤ → ℤ
edged Zero inside v = if inside then v else pos 0
edged Clamp inside v = v

-- An expression's value over a number for each read and a bit for each shifted part, from the n-th and the k-th on: a shifted part is 0 where its bit is 0.
abbrev pub leaf_value : Tree → (ℕ → ℤ) → (ℕ → Bool) → (n k : ℕ) → ℤ
leaf_value (constant v t) reads bits n k = v
leaf_value (read edge g dx dy) reads bits n k = reads n
leaf_value (shifted edge dx dy a) reads bits n k = edged edge (bits k) (leaf_value a reads bits n (k + edge_bits edge))
leaf_value (unary op a) reads bits n k = unary_value op (leaf_value a reads bits n k)
leaf_value (binary op a b) reads bits n k = binary_value op (leaf_value a reads bits n k) (leaf_value b reads bits (n + reads_in a) (k + bits_in a))
leaf_value (select c a b) reads bits n k =
    select_value (leaf_value c reads bits n k) (leaf_value a reads bits (n + reads_in c) (k + bits_in c)) (leaf_value b reads bits (n + reads_in c + reads_in a) (k + bits_in c + bits_in a))
leaf_value (convert how a t) reads bits n k = conversion_value how t (leaf_value a reads bits n k)
leaf_value (scale op a m) reads bits n k = scaling_value op (leaf_value a reads bits n k) m

-- what the leaves' nets say
abbrev pub type_or : Option (Ty × Net) → Ty
type_or (Some leaf) = leaf.0
type_or None = Unsigned 1

abbrev pub types_in : List (Ty × Net) → ℕ → Ty
types_in reads n = type_or (slice_get reads n)

abbrev pub worth_or : Snapshot → Option (Ty × Net) → ℤ
worth_or s (Some leaf) = number leaf.0 (net_value s leaf.1)
worth_or s None = pos 0

abbrev pub worth_in : Snapshot → List (Ty × Net) → ℕ → ℤ
worth_in s reads n = worth_or s (slice_get reads n)

abbrev pub is_set : Snapshot → Option Net → Bool
is_set s (Some n) = nat_eq (net_value s n) 1
is_set s None = false

abbrev pub set_in : Snapshot → List Net → ℕ → Bool
set_in s bits k = is_set s (slice_get bits k)

-- each read has a type and a net of that type's width, and each shifted part a net of one bit
pub record AreLeaves (b : Netlist) (reads : List (Ty × Net)) (bits : List Net) : Type 0 where
  pub read_type : (k : ℕ) (leaf : Ty × Net) → slice_get reads k ≡ Some leaf → IsType leaf.0
  pub read_net : (k : ℕ) (leaf : Ty × Net) → slice_get reads k ≡ Some leaf → IsNet b leaf.1
  pub read_width : (k : ℕ) (leaf : Ty × Net) → slice_get reads k ≡ Some leaf → net_width b leaf.1 ≡ width_of leaf.0
  pub bit_net : (k : ℕ) (n : Net) → slice_get bits k ≡ Some n → IsNet b n
  pub bit_width : (k : ℕ) (n : Net) → slice_get bits k ≡ Some n → net_width b n ≡ 1

-- the same as operands
pub record LeavesAreOperands (b : Netlist) (reads : List (Ty × Net)) (bits : List Net) : Type 0 where
  pub operand : (k : ℕ) (leaf : Ty × Net) → slice_get reads k ≡ Some leaf → IsOperand b (record { bits = signal.Net leaf.1; ty = leaf.0 })
  pub one_bit : (k : ℕ) (n : Net) → slice_get bits k ≡ Some n → HasWidth b (signal.Net n) 1

-- as many leaves as the expression has, and types for which it has one
pub record HasLeaves (e : Tree) (reads : List (Ty × Net)) (bits : List Net) : Type 0 where
  pub typed : IsTyped e (types_in reads) 0
  pub reads_are : length reads ≡ reads_in e
  pub bits_are : length bits ≡ bits_in e

-- the leaves' nets are made of the base, with at most j operators on a path
pub record AreLeavesMade (m : Netlist) (base : Holder → Bool) (j : ℕ) (reads : List (Ty × Net)) (bits : List Net) : Type 0 where
  pub read : (k : ℕ) (leaf : Ty × Net) → slice_get reads k ≡ Some leaf → IsWithin m base j (OfNet leaf.1)
  pub bit : (k : ℕ) (n : Net) → slice_get bits k ≡ Some n → IsWithin m base j (OfNet n)

-- Made only of the leaves' nets, with at most `levels` operators on a path from one of them: in every netlist that includes this one it is made of whatever they are made of, with at most `levels` operators more.
pub record IsMadeOfLeaves (part : Netlist) (levels : ℕ) (r : Signal) (reads : List (Ty × Net)) (bits : List Net) : Type 0 where
  pub made : (m : Netlist) (base : Holder → Bool) (j : ℕ) → IsPartOf part m → AreLeavesMade m base j reads bits → IsMade m base (levels + j) r

-- In each valuation the net's bits, read in the expression's type, are the expression's value over what the leaves' nets say.
abbrev pub IsLowered : Netlist → Tree → List (Ty × Net) → List Net → Net → Type 0
IsLowered b e reads bits net = Carries b (record { bits = signal.Net net; ty = type_of e (types_in reads) 0 }) (type_of e (types_in reads) 0) (λ s. leaf_value e (worth_in s reads) (set_in s bits) 0 0)
