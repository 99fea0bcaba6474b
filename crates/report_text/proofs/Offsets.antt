-- Offsets: what is read is written so, and what is written so is read.
use Rattle.std.proofs.Common.{◌≡◌, ◌<◌, ◌≤◌, ◌^◌, ◌∙◌, ℕ, ℤ, pos, negsuc, zero, suc, List, [], ◌∷◌, ◌++◌, length, codes, refl, ap, sym, subst, arith, true, false, decimal}
use Rattle.std.specs.Prelude.{Option, Some, None, nat_eq, nat_lt, ◌||◌, if◌then◌else◌, neg_ℤ}
use Rattle.std.specs.Fmt.{signed_decimal}
use Rattle.std.proofs.lemmas.Bool.{ne_eqb, ltb-false, le-ltb, or_parts}
use Rattle.std.proofs.lemmas.Int.{ints}
use Rattle.std.proofs.lemmas.Fmt.{decimal_nonempty}
use Rattle.dk_base.specs.declared.TheConstants.{MAX_SIDE}
use Rattle.dk_base.specs.Ascii.{is_digit}
use Rattle.dk_base.specs.Stencils.{IsOffset}
use Rattle.report_text.specs.Reading.{strip, number_at, unsigned_at, negative_at, offset_by, offset_at}
use Rattle.report_text.proofs.Options.{bind_some, unless_some}
use Rattle.report_text.proofs.Fields.{Passes, Stops, strip_takes, decimal_passes, number_again, number_takes}

offset_pos : (n : ℕ) → n ≤ 4095 → IsOffset MAX_SIDE (pos n)
offset_pos n h = record { low = omega (arith, ints); high = omega (arith, ints) }

offset_neg : (n : ℕ) → suc n ≤ 4095 → IsOffset MAX_SIDE (negsuc n)
offset_neg n h = record { low = omega (arith, ints); high = omega (arith, ints) }

pub pos_small : (n : ℕ) → IsOffset MAX_SIDE (pos n) → n ≤ 4095
pos_small n o = let h = o.high in omega (arith, ints)

pub neg_small : (n : ℕ) → IsOffset MAX_SIDE (negsuc n) → suc n ≤ 4095
neg_small n o = let h = o.low in omega (arith, ints)

unsigned_takes : (bytes rest : List ℕ) (z : ℤ) → unsigned_at bytes ≡ Some (z, rest) → (bytes ≡ signed_decimal z ++ rest) × IsOffset MAX_SIDE z
unsigned_takes bytes rest z e =
    let a = bind_some (number_at bytes) (λ n. if nat_lt 4095 n.0 then None else Some (pos n.0, n.1)) (z, rest) e in
    let i = unless_some (nat_lt 4095 a.0.0) (pos a.0.0, a.0.1) (z, rest) a.2 in
    let t = number_takes bytes a.0.1 a.0.0 a.1 in
    let first : pos a.0.0 ≡ z = ap (λ x. x.0) i.1 in
    let second : a.0.1 ≡ rest = ap (λ x. x.1) i.1 in
    (t.0 ∙ ap (λ x. decimal a.0.0 ++ x) second ∙ ap (λ x. signed_decimal x ++ rest) first, subst (IsOffset MAX_SIDE) first (offset_pos a.0.0 (ltb-false 4095 a.0.0 i.0)))

negated : (n : ℕ) (bytes : List ℕ) → nat_eq n 0 ≡ false → n ≤ 4095 → (45 ∷ (decimal n ++ bytes) ≡ signed_decimal (neg_ℤ (pos n)) ++ bytes) × IsOffset MAX_SIDE (neg_ℤ (pos n))
negated zero bytes h l = absurd (cc h)
negated (suc n) bytes h l = (refl, offset_neg n l)

negative_takes : (bytes rest : List ℕ) (z : ℤ) → negative_at bytes ≡ Some (z, rest) → (45 ∷ bytes ≡ signed_decimal z ++ rest) × IsOffset MAX_SIDE z
negative_takes bytes rest z e =
    let a = bind_some (number_at bytes) (λ n. if nat_eq n.0 0 || nat_lt 4095 n.0 then None else Some (neg_ℤ (pos n.0), n.1)) (z, rest) e in
    let i = unless_some (nat_eq a.0.0 0 || nat_lt 4095 a.0.0) (neg_ℤ (pos a.0.0), a.0.1) (z, rest) a.2 in
    let o = or_parts _ _ i.0 in
    let t = number_takes bytes a.0.1 a.0.0 a.1 in
    let n = negated a.0.0 a.0.1 o.0 (ltb-false 4095 a.0.0 o.1) in
    let first : neg_ℤ (pos a.0.0) ≡ z = ap (λ x. x.0) i.1 in
    let second : a.0.1 ≡ rest = ap (λ x. x.1) i.1 in
    (ap (λ x. 45 ∷ x) t.0 ∙ n.0 ∙ ap (λ x. signed_decimal (neg_ℤ (pos a.0.0)) ++ x) second ∙ ap (λ x. signed_decimal x ++ rest) first, subst (IsOffset MAX_SIDE) first n.1)

pub offset_takes : (bytes rest : List ℕ) (z : ℤ) → offset_at bytes ≡ Some (z, rest) → (bytes ≡ signed_decimal z ++ rest) × IsOffset MAX_SIDE z
unfolding offset_at
offset_takes bytes rest z e = by (strip (codes "-") bytes) refl
  where
    by : (o : Option (List ℕ)) → strip (codes "-") bytes ≡ o → (bytes ≡ signed_decimal z ++ rest) × IsOffset MAX_SIDE z
    by None h = unsigned_takes bytes rest z (sym (ap (λ o. offset_by o bytes) h) ∙ e)
    by (Some after) h =
        let n = negative_takes after rest z (sym (ap (λ o. offset_by o bytes) h) ∙ e) in
        (strip_takes (codes "-") bytes after h ∙ n.0, n.1)

unsigned : (ds rest : List ℕ) → Passes is_digit ds → 0 < length ds → strip (codes "-") (ds ++ rest) ≡ None
unsigned [] rest a some = absurd (omega arith)
unsigned (d ∷ ds) rest a some = rw (ne_eqb 45 d (λ h. absurd (cc (subst (λ x. is_digit x ≡ true) (sym h) a.0)))) refl

pub offset_again : (z : ℤ) (rest : List ℕ) → IsOffset MAX_SIDE z → Stops is_digit rest → offset_at (signed_decimal z ++ rest) ≡ Some (z, rest)
unfolding offset_at
offset_again (pos n) rest o s =
    let small = pos_small n o in
    let fits : n < 2 ^ 64 = omega arith in
    rw (unsigned (decimal n) rest (decimal_passes n fits) (decimal_nonempty n fits), number_again n rest fits s, le-ltb 4095 n small) refl
offset_again (negsuc n) rest o s =
    let small = neg_small n o in
    let fits : suc n < 2 ^ 64 = omega arith in
    rw (number_again (suc n) rest fits s, ne_eqb (suc n) 0 (λ h. absurd (omega arith)), le-ltb 4095 (suc n) small) refl
