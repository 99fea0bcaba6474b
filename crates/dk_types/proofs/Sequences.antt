-- One more item in order, and the first one with a fault.
use Rattle.std.proofs.Common.{◌≡◌, ℕ, zero, suc, ◌+◌, ◌<◌, List, [], ◌∷◌, ◌++◌, length, take, drop, get_or, slice_get, Some, sym, ap, ◌∙◌, subst, append-nil, append_assoc, add-one}
use Rattle.std.proofs.lemmas.Option.{slice_get-get_or}
use Rattle.dk_types.specs.declared.fault.TypeFault.{TypeFault}
use Rattle.dk_types.specs.declared.fault.TypeError.{TypeError}
use Rattle.dk_types.specs.declared.fault.TypeError.TheVariants as Error
use Rattle.dk_types.specs.Faults.{Stops}
use Rattle.dk_types.specs.Sequences.{Each, First, none, next, here, later}

-- an item, what comes before it, and what follows it
step : {A : Type 0} (xs : List A) (k : ℕ) (x : A) → slice_get xs k ≡ Some x → (take (suc k) xs ≡ take k xs ++ x ∷ []) × (xs ≡ take k xs ++ (x ∷ drop (suc k) xs))
step [] k x h = absurd (let e : ⊥ = cc in e)
step (y ∷ ys) zero x h = let e : y ≡ x = cc in (ap (λ z. z ∷ []) e, ap (λ z. z ∷ ys) e)
step (y ∷ ys) (suc k) x h = let p = step ys k x h in (ap (λ l. y ∷ l) p.0, ap (λ l. y ∷ l) p.1)

pub record Around {A : Type 0} (xs : List A) (k : ℕ) (x : A) : Type 0 where
  pub upto : take (k + 1) xs ≡ take k xs ++ x ∷ []
  pub whole : xs ≡ take k xs ++ (x ∷ drop (k + 1) xs)

pub around : {A : Type 0} (xs : List A) (k : ℕ) (x : A) → k < length xs → x ≡ get_or xs k x → Around xs k x
around xs k x h e =
    let p = step xs k x (slice_get-get_or xs k x h ∙ ap Some (sym e)) in
    record { upto = ap (λ n. take n xs) (add-one k) ∙ p.0; whole = p.1 ∙ ap (λ n. take k xs ++ (x ∷ drop n xs)) (sym (add-one k)) }

behind : {A : Type 0} (xs : List A) (y : A) (zs : List A) → xs ++ (y ∷ zs) ≡ (xs ++ y ∷ []) ++ zs
behind xs y zs = sym (append_assoc xs (y ∷ []) zs)

module _ {I O : Type 0} (Rule : List I → List O → I → O → Type 0) where
  pub one_more : {is : List I} {os : List O} {xs : List I} {ys : List O} → Each Rule is os xs ys → (x : I) (y : O)
      → Rule (is ++ xs) (os ++ ys) x y → Each Rule is os (xs ++ x ∷ []) (ys ++ y ∷ [])
  one_more (none {is = is} {os = os}) x y r =
      let P : List I → Type 0 = λ l. Rule l (os ++ []) x y in
      let Q : List O → Type 0 = λ l. Rule is l x y in
      next (subst Q (append-nil os) (subst P (append-nil is) r)) none
  one_more (next {is = is} {more = more} {os = os} {made = made} {i = i} {o = o} r h) x y s =
      let P : List I → Type 0 = λ l. Rule l (os ++ (o ∷ made)) x y in
      let Q : List O → Type 0 = λ l. Rule ((is ++ i ∷ []) ++ more) l x y in
      next r (one_more h x y (subst Q (behind os o made) (subst P (behind is i more) s)))

  module _ (Fault : List I → List O → I → TypeFault → Type 0) where
    pub first_at : {is : List I} {os : List O} {xs : List I} {ys : List O} → Each Rule is os xs ys → (x : I) (more : List I) (f : TypeFault)
        → Fault (is ++ xs) (os ++ ys) x f → First Rule Fault is os (xs ++ (x ∷ more)) f
    first_at (none {is = is} {os = os}) x more f r =
        let P : List I → Type 0 = λ l. Fault l (os ++ []) x f in
        let Q : List O → Type 0 = λ l. Fault is l x f in
        here (subst Q (append-nil os) (subst P (append-nil is) r))
    first_at (next {is = is} {more = rest} {os = os} {made = made} {i = i} {o = o} r h) x more f s =
        let P : List I → Type 0 = λ l. Fault l (os ++ (o ∷ made)) x f in
        let Q : List O → Type 0 = λ l. Fault ((is ++ i ∷ []) ++ rest) l x f in
        later r (first_at h x more f (subst Q (behind os o made) (subst P (behind is i rest) s)))

-- the same from the first item on
module _ {I O : Type 0} (Rule : List I → List O → I → O → Type 0) where
  pub more_at : (before upto : List I) (x : I) (ys made : List O) (y : O) → upto ≡ before ++ x ∷ [] → Each Rule [] [] before ys → Rule before ys x y
      → made ≡ ys ++ y ∷ [] → Each Rule [] [] upto made
  more_at before upto x ys made y u h r m =
      let P : List I → Type 0 = λ l. Each Rule [] [] l made in
      let Q : List O → Type 0 = λ l. Each Rule [] [] (before ++ x ∷ []) l in
      subst P (sym u) (subst Q (sym m) (one_more Rule h x y r))

  pub fails_at : (Fault : List I → List O → I → TypeFault → Type 0) (before after whole : List I) (x : I) (ys : List O) (stop : TypeError)
      → whole ≡ before ++ (x ∷ after) → Each Rule [] [] before ys → Stops (Fault before ys x) stop → Stops (First Rule Fault [] [] whole) stop
  fails_at Fault before after whole x ys (Error.Fault f) w h r =
      let P : List I → Type 0 = λ l. First Rule Fault [] [] l f in
      subst P (sym w) (first_at Rule Fault h x after f r)
  fails_at Fault before after whole x ys Error.OutOfMemory w h r = tt
