-- Nets that carry whole numbers.
use Rattle.std.specs.Prelude.{◌≡◌, ℕ, ℤ, List, IsTrue, not, ◌||◌, Result, MatchResult}
use Rattle.dk_base.specs.declared.ty.Ty.{Ty}
use Rattle.dk_base.specs.declared.ty.Ty.TheVariants.{Unsigned}
use Rattle.dk_base.specs.Types.{IsType, IsWithin, is_signed, common_type, width_of}
use Rattle.dk_base.specs.Numbers.{number}
use Rattle.wiring.specs.declared.netlist.Net.{Net}
use Rattle.wiring.specs.declared.right.Atom.{Atom}
use Rattle.wiring.specs.declared.right.Operator.{Operator}
use Rattle.wiring.specs.Netlist.{Netlist}
use Rattle.wiring.specs.Rights.{operator_width}
use Rattle.wiring.specs.Rules.{DividesByDivisor}
use Rattle.wiring.specs.Sizes.{IsWidth}
use Rattle.wiring.specs.Snapshot.{Snapshot}
use Rattle.datapath.specs.declared.operand.Signal.{Signal}
use Rattle.datapath.specs.Nets.{Folds, Grows, HasWidth, InEachFit, IsMadeOver, bits_of}
use Rattle.datapath.specs.declared.operand.Operand.{Operand}

-- a net or a constant of its type's width
pub record IsOperand (b : Netlist) (x : Operand) : Type 0 where
  pub ty : IsType x.ty
  pub width : HasWidth b x.bits (width_of x.ty)

-- the number that an operand's bits are worth
abbrev pub worth : Snapshot → Operand → ℤ
worth nets x = number x.ty (bits_of nets x.bits)

-- an operand of type t that is worth `f nets` in each valuation
pub record Carries (b : Netlist) (x : Operand) (t : Ty) (f : Snapshot → ℤ) : Type 0 where
  pub is : x.ty ≡ t
  pub operand : IsOperand b x
  pub value : InEachFit b (λ nets. worth nets x ≡ f nets)

-- What a function makes of these nets and constants: an operand of type t that is worth `f nets` in each valuation.
pub record CarriesOver (old new : Netlist) (k : ℕ) (xs : List Signal) (t : Ty) (f : Snapshot → ℤ) (r : Operand) : Type 0 where
  -- only wires are added
  pub grows : Grows old new
  -- it has that type and that value
  pub value : Carries new r t f
  -- with at most k operators on a path from one of them
  pub made : IsMadeOver new k r.bits xs
  -- a constant, and nothing is added, where they are constants
  pub folds : Folds old new r.bits xs

-- A function that makes it. Where memory runs out, only wires are added as well.
abbrev pub MakesOperand : {E : Type 0} → (old new : Netlist) → Result Operand E → (k : ℕ) → List Signal → Ty → (Snapshot → ℤ) → Type 0
MakesOperand old new result k xs t f = MatchResult result (CarriesOver old new k xs t f) (λ e. Grows old new)

-- An operand that is brought to w bits.
pub record IsResized (b : Netlist) (p : Operand) (w : ℕ) : Type 0 where
  -- it is an operand
  pub operand : IsOperand b p
  -- w is 1 to 64
  pub width : IsWidth w

-- An operand, and a type for the result.
pub record HasOperand (b : Netlist) (p : Operand) (t : Ty) : Type 0 where
  -- it is an operand
  pub x : IsOperand b p
  -- the type has 1 to 64 bits
  pub ty : IsType t

-- An operand of type t.
pub record IsOfType (b : Netlist) (p : Operand) (t : Ty) : Type 0 where
  -- it is an operand
  pub x : IsOperand b p
  -- its type is t
  pub ty : p.ty ≡ t

-- An operand whose numbers are all in another type.
pub record IsOperandWithin (b : Netlist) (p : Operand) (t : Ty) : Type 0 where
  -- it is an operand
  pub x : IsOperand b p
  -- the type has 1 to 64 bits
  pub ty : IsType t
  -- it has all numbers of the operand's type
  pub within : IsWithin p.ty t

-- Two operands, and a type for the result.
pub record AreOperands (b : Netlist) (p q : Operand) (t : Ty) : Type 0 where
  -- the first is an operand
  pub x : IsOperand b p
  -- the second is an operand
  pub y : IsOperand b q
  -- the type has 1 to 64 bits
  pub ty : IsType t

-- Two operands that are not signed.
pub record AreUnsigned (b : Netlist) (p q : Operand) : Type 0 where
  -- the first is an operand
  pub x : IsOperand b p
  -- the second is an operand
  pub y : IsOperand b q
  -- neither has a sign
  pub unsigned : IsTrue (not (is_signed p.ty || is_signed q.ty))

-- Two operands that are brought to w bits for an operator other than the division.
pub record AreCombined (b : Netlist) (o : Operator) (w : ℕ) (p q : Operand) : Type 0 where
  -- w is 1 to 64
  pub width : IsWidth w
  -- the result has a width
  pub wide : IsWidth (operator_width o w)
  -- the first is an operand
  pub x : IsOperand b p
  -- the second is an operand
  pub y : IsOperand b q
  -- the operator has no divisor
  pub divisor : (a : Atom Net) → DividesByDivisor o a

-- A condition of one bit and two operands between which it chooses.
pub record AreChoices (b : Netlist) (bit p q : Operand) : Type 0 where
  -- the condition is a bit
  pub condition : IsOfType b bit (Unsigned 1)
  -- the first is an operand
  pub x : IsOperand b p
  -- the second is an operand
  pub y : IsOperand b q
  -- a type that has the numbers of both
  pub ty : IsType (common_type p.ty q.ty)
