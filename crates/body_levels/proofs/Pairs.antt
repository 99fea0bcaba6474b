-- The pieces of an operator with several operands, from those of the operands.
use Rattle.std.proofs.Common.{◌≡◌, ℕ, subst}
use Rattle.dk_base.specs.declared.operator.Binary.{Binary}
use Rattle.pointwise_ir.specs.Trees.{Tree, binary, select}
use Rattle.body_levels.specs.Operators.{binary_levels, select_levels}
use Rattle.body_levels.specs.Levels.{has_power}
use Rattle.body_levels.specs.Reasons.{under, beside, cutting}
use Rattle.body_levels.specs.declared.room.CutCount.{CutCount}
use Rattle.body_levels.specs.Counted.{IsCount}

pub of_double : (most own : ℕ) (r : CutCount) (l m a b : Tree) (op : Binary) → own ≡ binary_levels op (has_power a b) → l ≡ a → m ≡ b → IsCount r (beside (under most own (cutting most l)) (under most own (cutting most m))) → IsCount r (cutting most (binary op a b))
of_double most own r l m a b op e f g is =
    subst (λ (n : ℕ). IsCount r (beside (under most n (cutting most a)) (under most n (cutting most b)))) e
    (subst (λ (t : Tree). IsCount r (beside (under most own (cutting most a)) (under most own (cutting most t)))) g
    (subst (λ (t : Tree). IsCount r (beside (under most own (cutting most t)) (under most own (cutting most m)))) f is))

pub of_triple : (most own other : ℕ) (r : CutCount) (l m n a b c : Tree) → own ≡ select_levels → other ≡ select_levels → l ≡ a → m ≡ b → n ≡ c → IsCount r (beside (under most own (cutting most l)) (beside (under most other (cutting most m)) (under most other (cutting most n)))) → IsCount r (cutting most (select a b c))
of_triple most own other r l m n a b c e o f g h is =
    subst (λ (k : ℕ). IsCount r (beside (under most k (cutting most a)) (beside (under most select_levels (cutting most b)) (under most select_levels (cutting most c))))) e
    (subst (λ (k : ℕ). IsCount r (beside (under most own (cutting most a)) (beside (under most k (cutting most b)) (under most k (cutting most c))))) o
    (subst (λ (t : Tree). IsCount r (beside (under most own (cutting most a)) (beside (under most other (cutting most b)) (under most other (cutting most t))))) h
    (subst (λ (t : Tree). IsCount r (beside (under most own (cutting most a)) (beside (under most other (cutting most t)) (under most other (cutting most n))))) g
    (subst (λ (t : Tree). IsCount r (beside (under most own (cutting most t)) (beside (under most other (cutting most m)) (under most other (cutting most n))))) f is))))
