-- Passes over all arrays.
use Rattle.std.proofs.Common.{◌≡◌, ◌≢◌, ℕ, zero, suc, ◌+◌, ◌<◌, ◌≤◌, ◌⊎◌, inl, inr, List, [], length, refl, ap, sym, subst, ◌∙◌, arith, Some}
use Rattle.std.specs.Prelude.{slice_get, slice_index_or}
use Rattle.std.proofs.lemmas.Bool.{cases_lt, cases_order}
use Rattle.std.proofs.lemmas.Option.{same_Some}
use Rattle.std.proofs.lemmas.List.{ext_get_or, length-set}
use Rattle.batch_rows.specs.declared.module_code.WordRead.{WordRead}
use Rattle.batch_rows.specs.declared.module_code.WordPut.{WordPut}
use Rattle.batch_code.specs.Rows.{atom_at, words_put, KeepsArray}
use Rattle.batch_sim.specs.Arrays.{WasLost, PutsInside, ArePut, AreLost, AreKept, AreInsideAll}

module _ (rows : List (List ℕ)) (reads : List WordRead) (puts : List WordPut) (count : ℕ) where
  pub none_put : (before : List (List ℕ)) → ArePut rows puts count before before 0
  none_put before = record { same = refl; put = λ x p l at. absurd (omega (arith, l)); left = λ x l. refl }

  pub none_lost : (before lost : List (List ℕ)) → AreLost rows puts count before lost 0
  none_lost before lost x p l at = absurd (omega (arith, l))

  pub none_kept : (before : List (List ℕ)) → AreKept rows reads puts count before 0
  none_kept before x r p l at there = absurd (omega (arith, l))

  pub all_back : (before now : List (List ℕ)) → ArePut rows puts count before now 0 → now ≡ before
  all_back before now h = ext_get_or [] now before h.same (λ x l. h.left x (omega arith))

  module _ (before now new : List (List ℕ)) (array : ℕ) (h : ArePut rows puts count before now array) (p : WordPut) (at : slice_get puts array ≡ Some p) (size : length new ≡ length now)
      (others : (x : ℕ) → x ≢ array → slice_index_or new x [] ≡ slice_index_or now x []) where
    apart_below : (x : ℕ) → x < array → x ≢ array
    apart_below x l e = omega (arith, l, e)

    apart_above : (x : ℕ) → array < x → x ≢ array
    apart_above x l e = omega (arith, l, e)

    here : slice_index_or now array [] ≡ slice_index_or before array []
    here = h.left array (omega arith)

    pub put_on : slice_index_or new array [] ≡ words_put rows p (slice_index_or now array []) count → ArePut rows puts count before new (array + 1)
    put_on words = record {
      same = size ∙ h.same;
      put = λ x q l there. put_at x q l there (cases_lt x array);
      left = λ x l. others x (apart_above x (omega (arith, l))) ∙ h.left x (omega (arith, l));
    }
      where
        put_at : (x : ℕ) (q : WordPut) → x < array + 1 → slice_get puts x ≡ Some q → (x < array) ⊎ (array ≤ x) → slice_index_or new x [] ≡ words_put rows q (slice_index_or before x []) count
        put_at x q l there (inl m) = others x (apart_below x m) ∙ h.put x q m there
        put_at x q l there (inr m) =
            let e : array ≡ x = omega (arith, l, m) in
            let same : p ≡ q = same_Some p q (sym at ∙ ap (λ n. slice_get puts n) e ∙ there) in
            subst (λ (n : ℕ). slice_index_or new n [] ≡ words_put rows q (slice_index_or before n []) count) e
            (words ∙ ap (λ (ws : List ℕ). words_put rows p ws count) here ∙ ap (λ (r : WordPut). words_put rows r (slice_index_or before array []) count) same)

    pub lost_on : (lost other : List (List ℕ)) → AreLost rows puts count before lost array → PutsInside rows p count (length (slice_index_or now array [])) → WasLost rows p (slice_index_or now array []) (slice_index_or other array []) count →
        ((x : ℕ) → x ≢ array → slice_index_or other x [] ≡ slice_index_or lost x []) → AreLost rows puts count before other (array + 1)
    lost_on lost other so_far inside was others_lost x q l there = lost_at (cases_lt x array)
      where
        lost_at : (x < array) ⊎ (array ≤ x) → PutsInside rows q count (length (slice_index_or before x [])) × WasLost rows q (slice_index_or before x []) (slice_index_or other x []) count
        lost_at (inl m) = let f = so_far x q m there in (f.0, subst (λ (ws : List ℕ). WasLost rows q (slice_index_or before x []) ws count) (sym (others_lost x (apart_below x m))) f.1)
        lost_at (inr m) =
            let e : array ≡ x = omega (arith, l, m) in
            let same : p ≡ q = same_Some p q (sym at ∙ ap (λ n. slice_get puts n) e ∙ there) in
            subst (λ (n : ℕ). PutsInside rows q count (length (slice_index_or before n [])) × WasLost rows q (slice_index_or before n []) (slice_index_or other n []) count) e
            (subst (λ (r : WordPut). PutsInside rows r count (length (slice_index_or before array [])) × WasLost rows r (slice_index_or before array []) (slice_index_or other array []) count) same
            (subst (λ (ws : List ℕ). PutsInside rows p count (length ws) × WasLost rows p ws (slice_index_or other array []) count) here (inside, was)))

    pub kept_on : (r : WordRead) → slice_get reads array ≡ Some r → AreKept rows reads puts count before array → KeepsArray rows count (slice_index_or now array []) r p → AreKept rows reads puts count before (array + 1)
    kept_on r read so_far kept x s q l here' there = kept_at (cases_lt x array)
      where
        kept_at : (x < array) ⊎ (array ≤ x) → KeepsArray rows count (slice_index_or before x []) s q
        kept_at (inl m) = so_far x s q m here' there
        kept_at (inr m) =
            let e : array ≡ x = omega (arith, l, m) in
            let same : p ≡ q = same_Some p q (sym at ∙ ap (λ n. slice_get puts n) e ∙ there) in
            let same' : r ≡ s = same_Some r s (sym read ∙ ap (λ n. slice_get reads n) e ∙ here') in
            subst (λ (n : ℕ). KeepsArray rows count (slice_index_or before n []) s q) e
            (subst (λ (t : WordRead). KeepsArray rows count (slice_index_or before array []) t q) same'
            (subst (λ (t : WordPut). KeepsArray rows count (slice_index_or before array []) r t) same
            (subst (λ (ws : List ℕ). KeepsArray rows count ws r p) here kept)))

  -- the last of them taken back
  pub put_back : (before now new : List (List ℕ)) (array : ℕ) → ArePut rows puts count before now (array + 1) → length new ≡ length now → slice_index_or new array [] ≡ slice_index_or before array [] →
      ((x : ℕ) → x ≢ array → slice_index_or new x [] ≡ slice_index_or now x []) → ArePut rows puts count before new array
  put_back before now new array h size back others = record {
    same = size ∙ h.same;
    put = λ x p l at. others x (λ e. omega (arith, e, l)) ∙ h.put x p (omega (arith, l)) at;
    left = λ x l. left_at x l (cases_order x array);
  }
    where
      left_at : (x : ℕ) → array ≤ x → (x ≡ array) ⊎ ((x < array) ⊎ (array < x)) → slice_index_or new x [] ≡ slice_index_or before x []
      left_at x l (inl e) = subst (λ (n : ℕ). slice_index_or new n [] ≡ slice_index_or before n []) (sym e) back
      left_at x l (inr (inl m)) = absurd (omega (arith, l, m))
      left_at x l (inr (inr m)) = others x (λ e. omega (arith, e, m)) ∙ h.left x (omega (arith, m))

  pub same_put : (before now new : List (List ℕ)) (done : ℕ) → length new ≡ length now → ((x : ℕ) → slice_index_or new x [] ≡ slice_index_or now x []) → ArePut rows puts count before now done → ArePut rows puts count before new done
  same_put before now new done size same h = record {
    same = size ∙ h.same;
    put = λ x p l at. same x ∙ h.put x p l at;
    left = λ x l. same x ∙ h.left x l;
  }

  pub same_lost : (before lost other : List (List ℕ)) (done : ℕ) → ((x : ℕ) → x ≢ done → slice_index_or other x [] ≡ slice_index_or lost x []) → AreLost rows puts count before lost done → AreLost rows puts count before other done
  same_lost before lost other done same h x p l at =
      let f = h x p l at in
      (f.0, subst (λ (ws : List ℕ). WasLost rows p (slice_index_or before x []) ws count) (sym (same x (λ e. omega (arith, e, l)))) f.1)

  pub length-put : (p : WordPut) (words : List ℕ) (t : ℕ) → length (words_put rows p words t) ≡ length words
  length-put p words zero = refl
  length-put p words (suc t) = length-set (words_put rows p words t) (atom_at rows t p.index) (atom_at rows t p.value) ∙ length-put p words t

  pub all_inside : (before lost now : List (List ℕ)) (done : ℕ) → ArePut rows puts count before now done → AreLost rows puts count before lost done → AreInsideAll rows puts count now done
  all_inside before lost now done put lost' x p l at =
      subst (λ (n : ℕ). PutsInside rows p count n) (sym (ap (λ (ws : List ℕ). length ws) (put.put x p l at) ∙ length-put p (slice_index_or before x []) count)) (lost' x p l at).0
