-- The counted clocks of a history.
use Rattle.std.proofs.Common.{◌≡◌, ◌⊎◌, inl, inr, ℕ, suc, Bool, true, false, List, [], ◌∷◌, ◌++◌, length, refl, ap, subst, sym, ◌∙◌}
use Rattle.std.specs.Prelude.{IsTrue, All, reverse, slice_index, if◌then◌else◌, not, ◌&&◌, map}
use Rattle.std.proofs.lemmas.List.{reverse-append}
use Rattle.std.proofs.lemmas.List.Elements.{All-nil, All-cons, All-head, All-tail, All-append}
use Rattle.wiring.specs.Netlist.{Netlist}
use Rattle.wiring.specs.Clock.{Clock}
use Rattle.wiring.specs.History.{IsCounted, is_held, was_reset, counted, fed}

-- by the three bits that say whether a clock is held
abbrev pub Sort : (reset held : Bool) → Type 0
Sort reset held = (reset ≡ true) ⊎ (IsTrue held ⊎ ((reset ≡ false) × (held ≡ false)))

sort : (reset held : Bool) → Sort reset held
sort true held = inl refl
sort false true = inr (inl refl)
sort false false = inr (inr (refl, refl))

pub sorts : (m : Netlist) (c : Clock) → (c.reset ≡ true) ⊎ (IsTrue (is_held m c) ⊎ IsCounted m c)
sorts m c = by (sort c.reset (is_held m c))
  where
    by : Sort c.reset (is_held m c) → (c.reset ≡ true) ⊎ (IsTrue (is_held m c) ⊎ IsCounted m c)
    by (inl e) = inl e
    by (inr (inl h)) = inr (inl h)
    by (inr (inr (e, f))) = inr (inr (record { no_reset = e; not_held = f }))

no_reset_held : (e r n : Bool) → IsTrue ((e && not r) && not n) → r ≡ false
no_reset_held e false n h = refl
no_reset_held true true n h = cc
no_reset_held false true n h = cc

module _ (m : Netlist) where
  pub at_reset : (c : Clock) (before : List Clock) → c.reset ≡ true → (counted m (c ∷ before) ≡ []) × IsTrue (was_reset (c ∷ before))
  at_reset c before e = (
    ap (λ (b : Bool). if b then [] else if is_held m c then counted m before else c ∷ counted m before) e,
    ap (λ (b : Bool). if b then true else was_reset before) e,
  )

  pub at_held : (c : Clock) (before : List Clock) → IsTrue (is_held m c) → (counted m (c ∷ before) ≡ counted m before) × (was_reset (c ∷ before) ≡ was_reset before)
  at_held c before h =
      let e : c.reset ≡ false = no_reset_held m.enable c.reset c.enable h in (
        ap (λ (b : Bool). if b then [] else if is_held m c then counted m before else c ∷ counted m before) e ∙ ap (λ (b : Bool). if b then counted m before else c ∷ counted m before) h,
        ap (λ (b : Bool). if b then true else was_reset before) e,
      )

  pub at_counted : (c : Clock) (before : List Clock) → IsCounted m c → (counted m (c ∷ before) ≡ c ∷ counted m before) × (was_reset (c ∷ before) ≡ was_reset before)
  at_counted c before is = (
    ap (λ (b : Bool). if b then [] else if is_held m c then counted m before else c ∷ counted m before) is.no_reset ∙ ap (λ (b : Bool). if b then counted m before else c ∷ counted m before) is.not_held,
    ap (λ (b : Bool). if b then true else was_reset before) is.no_reset,
  )

  pub none_held : (c : Clock) → m.enable ≡ false → is_held m c ≡ false
  none_held c e = ap (λ (b : Bool). (b && not c.reset) && not c.enable) e

  pub fed_counted : (k : ℕ) (c : Clock) (before : List Clock) → IsCounted m c → fed m k (c ∷ before) ≡ slice_index c.dins k ∷ fed m k before
  fed_counted k c before is = ap (map (λ (d : Clock). slice_index d.dins k)) (at_counted c before is).0

  long : (f : Clock → ℕ) (xs : List Clock) → length (map f xs) ≡ length xs
  long f [] = refl
  long f (x ∷ xs) = ap suc (long f xs)

  pub fed_long : (k : ℕ) (before : List Clock) → length (fed m k before) ≡ length (counted m before)
  fed_long k before = long (λ (d : Clock). slice_index d.dins k) (counted m before)

  all_counted : (later before : List Clock) → All (IsCounted m) later → counted m (later ++ before) ≡ later ++ counted m before
  all_counted [] before all = refl
  all_counted (c ∷ later) before all = (at_counted c (later ++ before) (All-head (IsCounted m) c later all)).0 ∙ ap (λ (l : List Clock). c ∷ l) (all_counted later before (All-tail (IsCounted m) c later all))

  reverse-cons : (c : Clock) (clocks : List Clock) → reverse (c ∷ clocks) ≡ reverse clocks ++ c ∷ []
  reverse-cons c clocks = reverse-append (c ∷ []) clocks

  turned : (clocks : List Clock) → All (IsCounted m) clocks → All (IsCounted m) (reverse clocks)
  turned [] all = All-nil (IsCounted m)
  turned (c ∷ clocks) all = subst (All (IsCounted m)) (sym (reverse-cons c clocks)) (All-append (IsCounted m) (reverse clocks) (c ∷ []) (turned clocks (All-tail (IsCounted m) c clocks all)) (All-cons (IsCounted m) c [] (All-head (IsCounted m) c clocks all) (All-nil (IsCounted m))))

  nothing_after : (xs : List Clock) → xs ++ [] ≡ xs
  nothing_after [] = refl
  nothing_after (x ∷ xs) = ap (λ (l : List Clock). x ∷ l) (nothing_after xs)

  pub since : (clocks : List Clock) (r : Clock) (before : List Clock) → r.reset ≡ true → All (IsCounted m) clocks → counted m (reverse clocks ++ r ∷ before) ≡ reverse clocks
  since clocks r before e all = all_counted (reverse clocks) (r ∷ before) (turned clocks all) ∙ ap (λ (l : List Clock). reverse clocks ++ l) (at_reset r before e).0 ∙ nothing_after (reverse clocks)

pub reset_before : (clocks : List Clock) (r : Clock) (before : List Clock) → r.reset ≡ true → IsTrue (was_reset (clocks ++ r ∷ before))
reset_before [] r before e = ap (λ (b : Bool). if b then true else was_reset before) e
reset_before (c ∷ clocks) r before e = by c.reset (reset_before clocks r before e)
  where
    by : (b : Bool) → IsTrue (was_reset (clocks ++ r ∷ before)) → IsTrue (if b then true else was_reset (clocks ++ r ∷ before))
    by true h = refl
    by false h = h
