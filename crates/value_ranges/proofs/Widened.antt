-- Images that have spare bits.
use Rattle.std.proofs.Common.{◌≡◌, ℕ, zero, suc, ◌+◌, ◌<◌, Bool, true, List, [], ◌∷◌, ◌++◌, length, Option, Some, None, slice_get, refl, arith, ap, sym, subst, ◌∙◌}
use Rattle.dk_base.specs.declared.ty.Ty.{Ty}
use Rattle.pointwise_ir.specs.declared.program.Definition.{Definition}
use Rattle.pointwise_ir.specs.Programs.{Program}
use Rattle.value_ranges.specs.declared.interval.Interval.{Interval}
use Rattle.value_ranges.specs.declared.wider.WiderImage.{WiderImage}
use Rattle.value_ranges.specs.declared.wider.WiderReason.{WiderReason}
use Rattle.value_ranges.specs.Wider.{has_spare_bits, is_output_of, reason_of, entry_of, wider_at}

pub there_is : {A : Type 0} (xs : List A) (k : ℕ) → k < length xs → (x : A) × (slice_get xs k ≡ Some x)
there_is [] k lt = absurd (omega arith)
there_is (x ∷ xs) zero lt = (x, refl)
there_is (x ∷ xs) (suc k) lt = there_is xs k (omega (arith, lt))

entry_is : (o s : Bool) (a : Option Definition) (b : Option Interval) (d : Definition) (r : Interval) → a ≡ Some d → b ≡ Some r → has_spare_bits d.ty r ≡ true → entry_of o s a b ≡ record { name = d.name; reason = reason_of o s } ∷ []
entry_is o s a b d r e f spare = cc

-- what is added for the k-th image
at_number : (ranges : List Interval) (p : Program) (s : Bool) (k n : ℕ) (l : List WiderImage) → n ≡ length p.inputs + k → entry_of (is_output_of p n) s (slice_get p.images k) (slice_get ranges n) ≡ l → wider_at ranges p s k ≡ l
at_number ranges p s k n l e is = sym (ap (λ (m : ℕ). entry_of (is_output_of p m) s (slice_get p.images k) (slice_get ranges m)) e) ∙ is

pub added : (ranges : List Interval) (p : Program) (s : Bool) (k n : ℕ) (d : Definition) (t : Ty) (r : Interval) (w : WiderImage) (old new : List WiderImage) → n ≡ length p.inputs + k → slice_get p.images k ≡ Some d → slice_get ranges n ≡ Some r → t ≡ d.ty → has_spare_bits t r ≡ true →
    w ≡ record { name = d.name; reason = reason_of (is_output_of p n) s } → new ≡ old ++ w ∷ [] → new ≡ old ++ wider_at ranges p s k
added ranges p s k n d t r w old new e at there typed spare is more =
    let own : has_spare_bits d.ty r ≡ true = subst (λ (u : Ty). has_spare_bits u r ≡ true) typed spare in
    let one = at_number ranges p s k n _ e (entry_is (is_output_of p n) s (slice_get p.images k) (slice_get ranges n) d r at there own) in
    more ∙ ap (λ (x : WiderImage). old ++ x ∷ []) is ∙ sym (ap (λ (l : List WiderImage). old ++ l) one)
