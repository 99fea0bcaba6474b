-- An expression that has a type over its images is typed over its leaves.
use Rattle.std.proofs.Common.{◌≡◌, ℕ, ◌+◌, ◌<◌, ◌≤◌, Bool, true, false, IsTrue, List, Option, Some, None, slice_get, refl, ap, sym, subst, ◌∙◌, arith, nat_le, nat_eq, if◌then◌else◌}
use Rattle.std.proofs.lemmas.Option.{same_Some}
use Rattle.dk_base.specs.declared.ty.Ty.{Ty}
use Rattle.dk_base.specs.declared.ty.Ty.TheVariants.{Unsigned, Signed}
use Rattle.dk_base.specs.declared.operator.Unary.{Unary}
use Rattle.dk_base.specs.declared.operator.Unary.TheVariants.{Negate, Not, Abs}
use Rattle.dk_base.specs.declared.operator.Scaling.{Scaling}
use Rattle.dk_base.specs.declared.operator.Scaling.TheVariants.{Divide, ShiftLeft, ShiftRight}
use Rattle.dk_base.specs.Types.{IsType, width_of, is_bit, common_type, shifted_type, negation_type}
use Rattle.dk_base.specs.Operators.{limited, unary_type, scaling_type, are_operands, binary_result}
use Rattle.dk_base.proofs.Ranges.{common_some}
use Rattle.dk_base.proofs.Operations.{binary_typed}
use Rattle.pointwise_ir.specs.Trees.{Tree, constant, read, shifted, unary, binary, select, convert, scale}
use Rattle.pointwise_ir.specs.Typing.{HasType}
use Rattle.datapath.specs.Expressions.{unary_result, scaling_result, TakesOperand, TakesNumber, type_of, IsTyped, reads_in, AreReadsOf}

if_some : (b : Bool) (o : Option Ty) (t : Ty) → (if b then o else None) ≡ Some t → (b ≡ true) × (o ≡ Some t)
if_some true o t h = (refl, h)
if_some false o t h = absurd (let e : ⊥ = cc in e)

some_is : (s t : Ty) → Some s ≡ Some t → s ≡ t
some_is s t h = cc

-- the type of what an operator gives, where its operand has the type s
record IsResult (takes : Type 0) (result t : Ty) : Type 0 where
  pub takes_it : takes
  pub is : result ≡ t
  pub ok : IsType result

limited_is : (s t : Ty) → 1 ≤ width_of s → limited s ≡ Some t → (s ≡ t) × IsType s
limited_is s t some h =
    let p = if_some (nat_le (width_of s) 64) (Some s) t h in
    let most : width_of s ≤ 64 = grind (arith, p.0) in
    (some_is s t p.1, record { some = some; most = most })

one_bit : (a : Ty) → is_bit a ≡ true → a ≡ Unsigned 1
one_bit (Unsigned n) h = ap Unsigned (let e : n ≡ 1 = grind (arith, h) in e)
one_bit (Signed n) h = absurd (let e : ⊥ = cc in e)

unary_is : (op : Unary) (a t : Ty) → IsType a → unary_type op a ≡ Some t → IsResult (TakesOperand op a) (unary_result op a) t
unary_is Negate a t ok h = let p = limited_is (negation_type a) t (let some : 1 ≤ width_of a + 1 = omega arith in some) h in record { takes_it = tt; is = p.0; ok = p.1 }
unary_is Not a t ok h = let p = if_some (is_bit a) (Some a) t h in record { takes_it = one_bit a p.0; is = some_is a t p.1; ok = ok }
unary_is Abs a t ok h = record { takes_it = tt; is = some_is _ t h; ok = record { some = ok.some; most = ok.most } }

shifted_some : (a : Ty) (k : ℕ) → 1 ≤ width_of a → 1 ≤ width_of (shifted_type a k)
shifted_some (Unsigned n) k h = omega arith
shifted_some (Signed n) k h = omega arith

scaling_is : (op : Scaling) (a t : Ty) (k : ℕ) → IsType a → scaling_type op a k ≡ Some t → IsResult (TakesNumber op k) (scaling_result op a k) t
scaling_is Divide a t k ok h = divided (nat_eq k 0) refl h
  where
    divided : (b : Bool) → nat_eq k 0 ≡ b → (if b then None else Some a) ≡ Some t → IsResult (0 < k) a t
    divided true e f = absurd (let g : ⊥ = cc in g)
    divided false e f = record { takes_it = (let some : 0 < k = grind (arith, e) in some); is = some_is a t f; ok = ok }
scaling_is ShiftLeft a t k ok h =
    let p = if_some (nat_le k 63) (limited (shifted_type a k)) t h in
    let q = limited_is (shifted_type a k) t (shifted_some a k ok.some) p.1 in
    record { takes_it = (let most : k ≤ 63 = grind (arith, p.0) in most); is = q.0; ok = q.1 }
scaling_is ShiftRight a t k ok h =
    let p = if_some (nat_le k 63) (Some a) t h in
    record { takes_it = (let most : k ≤ 63 = grind (arith, p.0) in most); is = some_is a t p.1; ok = ok }

-- typed over the leaves, with the same type
pub record IsTypedAs (e : Tree) (leaf : ℕ → Ty) (n : ℕ) (t : Ty) : Type 0 where
  pub typed : IsTyped e leaf n
  pub is : type_of e leaf n ≡ t
  pub ok : IsType t

two : (P : Ty → Ty → Type 0) (s r i j : Ty) → i ≡ s → j ≡ r → P s r → P i j
two P s r i j e f h = subst (λ (k : Ty). P k j) (sym e) (subst (λ (k : Ty). P s k) (sym f) h)

same_type : (s t : Ty) → s ≡ t → IsType s → IsType t
same_type s t e ok = let P : Ty → Type 0 = λ u. IsType u in subst P e ok

module _ (types : List Ty) (leaf : ℕ → Ty) (ok : (g : ℕ) (t : Ty) → slice_get types g ≡ Some t → IsType t) where
  pub typed_as : (e : Tree) (t : Ty) (n : ℕ) → HasType types e t → AreReadsOf types e leaf n → IsTypedAs e leaf n t
  typed_as (constant v s) t n (good, inside, is) reads = record { typed = (good, inside); is = sym is; ok = same_type s t (sym is) good }
  typed_as (read edge g dx dy) t n has reads = record { typed = ok g (leaf n) reads; is = same_Some (leaf n) t (sym reads ∙ has); ok = ok g t has }
  typed_as (shifted edge dx dy a) t n has reads = let w = typed_as a t n has reads in record { typed = w.typed; is = w.is; ok = w.ok }
  typed_as (unary op a) t n (s, h, is) reads =
      let w = typed_as a s n h reads in
      let u = unary_is op s t w.ok is in
      let P : Ty → Type 0 = λ i. TakesOperand op i in
      let Q : Ty → Type 0 = λ i. IsType (unary_result op i) in
      record { typed = (w.typed, subst P (sym w.is) u.takes_it, subst Q (sym w.is) u.ok); is = ap (unary_result op) w.is ∙ u.is; ok = same_type _ t u.is u.ok }
  typed_as (binary op a b) t n (s, r, h, k, is) reads =
      let w = typed_as a s n h reads.0 in
      let v = typed_as b r (n + reads_in a) k reads.1 in
      let u = binary_typed op s r t w.ok is in
      let common : IsType (common_type s r) = record { some = common_some s r w.ok.some; most = u.common } in
      let result = same_type t (binary_result op s r) (sym u.result) u.typed in
      record {
        typed = (w.typed, v.typed, two (λ i j. IsTrue (are_operands op i j)) s r _ _ w.is v.is u.takes, two (λ i j. IsType (common_type i j)) s r _ _ w.is v.is common, two (λ i j. IsType (binary_result op i j)) s r _ _ w.is v.is result);
        is = ap (λ i. binary_result op i (type_of b leaf (n + reads_in a))) w.is ∙ ap (binary_result op s) v.is ∙ u.result;
        ok = u.typed;
      }
  typed_as (select c a b) t n (q, s, r, g, h, k, is) reads =
      let u = typed_as c q n g reads.0 in
      let w = typed_as a s (n + reads_in c) h reads.1 in
      let v = typed_as b r (n + reads_in c + reads_in a) k reads.2 in
      let p = if_some (is_bit q) (limited (common_type s r)) t is in
      let l = limited_is (common_type s r) t (common_some s r w.ok.some) p.1 in
      record {
        typed = (u.typed, u.is ∙ one_bit q p.0, w.typed, v.typed, two (λ i j. IsType (common_type i j)) s r _ _ w.is v.is l.1);
        is = ap (λ i. common_type i (type_of b leaf (n + reads_in c + reads_in a))) w.is ∙ ap (common_type s) v.is ∙ l.0;
        ok = same_type _ t l.0 l.1;
      }
  typed_as (convert how a s) t n (good, is, r, h) reads = let w = typed_as a r n h reads in record { typed = (w.typed, good); is = sym is; ok = same_type s t (sym is) good }
  typed_as (scale op a k) t n (s, h, is) reads =
      let w = typed_as a s n h reads in
      let u = scaling_is op s t k w.ok is in
      let Q : Ty → Type 0 = λ i. IsType (scaling_result op i k) in
      record { typed = (w.typed, u.takes_it, subst Q (sym w.is) u.ok); is = ap (λ i. scaling_result op i k) w.is ∙ u.is; ok = same_type _ t u.is u.ok }
