-- What the functions of the operators make, for an operator that is known only where they are called.
use Rattle.std.proofs.Common.{ℕ, ◌≡◌, [], ◌∷◌, ℤ, subst, sym, Result, Ok, Err}
use Rattle.dk_base.specs.declared.ty.Ty.{Ty}
use Rattle.dk_base.specs.declared.operator.Unary.{Unary}
use Rattle.dk_base.specs.declared.operator.Binary.{Binary}
use Rattle.dk_base.specs.declared.operator.Scaling.{Scaling}
use Rattle.dk_base.specs.declared.operator.Conversion.{Conversion}
use Rattle.dk_base.specs.Operators.{unary_value, binary_result, binary_value, scaling_value, conversion_value}
use Rattle.wiring.specs.Netlist.{Netlist}
use Rattle.wiring.specs.Snapshot.{Snapshot}
use Rattle.datapath.specs.declared.operand.Signal.{Signal}
use Rattle.datapath.specs.declared.operand.Operand.{Operand}
use Rattle.datapath.specs.Levels.{unary_levels, binary_levels, scaling_levels, conversion_levels}
use Rattle.datapath.specs.Operands.{MakesOperand, worth}
use Rattle.datapath.specs.Expressions.{unary_result, scaling_result}
use Rattle.datapath.proofs.Over.{then_two, first_over, second_over}

module _ {E : Type 0} (a d : Netlist) (x : Operand) (answer : Result Operand E) where
  pub binary_makes : (y : Operand) (o p : Binary) → o ≡ p → MakesOperand a d answer (binary_levels p) (x.bits ∷ (y.bits ∷ [])) (binary_result p x.ty y.ty) (λ s. binary_value p (worth s x) (worth s y)) →
      MakesOperand a d answer (binary_levels o) (x.bits ∷ (y.bits ∷ [])) (binary_result o x.ty y.ty) (λ s. binary_value o (worth s x) (worth s y))
  binary_makes y o p e h = subst (λ (q : Binary). MakesOperand a d answer (binary_levels q) (x.bits ∷ (y.bits ∷ [])) (binary_result q x.ty y.ty) (λ s. binary_value q (worth s x) (worth s y))) (sym e) h

  pub unary_makes : (o p : Unary) → o ≡ p → MakesOperand a d answer (unary_levels p) (x.bits ∷ []) (unary_result p x.ty) (λ s. unary_value p (worth s x)) →
      MakesOperand a d answer (unary_levels o) (x.bits ∷ []) (unary_result o x.ty) (λ s. unary_value o (worth s x))
  unary_makes o p e h = subst (λ (q : Unary). MakesOperand a d answer (unary_levels q) (x.bits ∷ []) (unary_result q x.ty) (λ s. unary_value q (worth s x))) (sym e) h

  pub scaling_makes : (by : ℕ) (o p : Scaling) → o ≡ p → MakesOperand a d answer (scaling_levels p by) (x.bits ∷ []) (scaling_result p x.ty by) (λ s. scaling_value p (worth s x) by) →
      MakesOperand a d answer (scaling_levels o by) (x.bits ∷ []) (scaling_result o x.ty by) (λ s. scaling_value o (worth s x) by)
  scaling_makes by o p e h = subst (λ (q : Scaling). MakesOperand a d answer (scaling_levels q by) (x.bits ∷ []) (scaling_result q x.ty by) (λ s. scaling_value q (worth s x) by)) (sym e) h

  pub conversion_makes : (t : Ty) (o p : Conversion) → o ≡ p → MakesOperand a d answer (conversion_levels p) (x.bits ∷ []) t (λ s. conversion_value p t (worth s x)) →
      MakesOperand a d answer (conversion_levels o) (x.bits ∷ []) t (λ s. conversion_value o t (worth s x))
  conversion_makes t o p e h = subst (λ (q : Conversion). MakesOperand a d answer (conversion_levels q) (x.bits ∷ []) t (λ s. conversion_value q t (worth s x))) (sym e) h

  -- of a type under another name
  pub typed_makes : (k : ℕ) (t u : Ty) (f : Snapshot → ℤ) → t ≡ u → MakesOperand a d answer k (x.bits ∷ []) u f → MakesOperand a d answer k (x.bits ∷ []) t f
  typed_makes k t u f e h = subst (λ (v : Ty). MakesOperand a d answer k (x.bits ∷ []) v f) (sym e) h

-- the operands the other way round
pub turned_makes : {E : Type 0} (a d : Netlist) (p q : Signal) (answer : Result Operand E) (t : Ty) (f : Snapshot → ℤ) → MakesOperand a d answer 2 (q ∷ (p ∷ [])) t f → MakesOperand a d answer 2 (p ∷ (q ∷ [])) t f
turned_makes a d p q (Ok r) t f h = record { grows = h.grows; value = h.value; made = then_two 0 h.made second_over first_over; folds = λ k. h.folds (k.1.0, (k.0, tt)) }
turned_makes a d p q (Err e) t f h = h
