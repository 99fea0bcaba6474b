-- What the keys of the assigns' right sides say of them.
use Rattle.std.proofs.Common.{◌≡◌, ◌≢◌, ℕ, ◌<◌, Bool, true, false, cond, List, [], ◌∷◌, ◌++◌, length, get_or, map, Option, Some, None, refl, sym, ap, subst, ◌∙◌, inl, inr, arith}
use Rattle.std.specs.Prelude.{slice_get, position, if◌then◌else◌, IfNone, Result, Ok, Err, IsOk, IfOk}
use Rattle.std.specs.List.{position_or_len, list_any}
use Rattle.std.specs.Cmp.{IsEquivalence}
use Rattle.std.specs.Option.{option_map}
use Rattle.std.proofs.lemmas.Bool.{cases_lt, lt-ltb}
use Rattle.std.proofs.lemmas.List.Sums.{fails_before_first}
use Rattle.std.proofs.lemmas.List.Folds.{list_any_none}
use Rattle.std.proofs.lemmas.List.Quantifiers.{position-Some}
use Rattle.std.proofs.lemmas.List.{length-map, get_or-map}
use Rattle.std.proofs.lemmas.Option.{slice_get_within, get_or_from_slice_get, slice_get_cases, slice_get-map}
use Rattle.wiring.specs.declared.netlist.Net.{Net}
use Rattle.wiring.specs.declared.netlist.Net.TheVariants.{Wire}
use Rattle.wiring.specs.declared.netlist.Assign.{Assign}
use Rattle.wiring.specs.declared.right.Right.{Right}
use Rattle.wiring.specs.Netlist.{Netlist}
use Rattle.wiring.proofs.Lists.{All-from_at}
use Rattle.wiring.proofs.Same.{EqRight, same_right}
use Rattle.net_build.specs.Draft.{IsDraft, HasWire, with_wire}
use Rattle.net_build.proofs.Drafts.{last_push}

none_at : {X : Type 0} (p : X → Bool) (xs : List X) → position p xs ≡ None → (k : ℕ) (x : X) → slice_get xs k ≡ Some x → p x ≡ false
none_at p xs none k x at =
    elim (cases_lt (position_or_len p xs) (length xs)) as (λ _. p x ≡ false) [
      | inl lt ↦ absurd (clash (position_or_len p xs) (sym (ap (λ b. cond b (Some (position_or_len p xs)) None) (lt-ltb (position_or_len p xs) (length xs) lt)) ∙ none))
      | inr ge ↦ ap p (sym (get_or_from_slice_get xs k x x at)) ∙ fails_before_first p xs k x (omega (arith, ge, slice_get_within xs k x at))
    ]
  where
    clash : (n : ℕ) → Some n ≡ None → ⊥
    clash n e = cc

pub none_any : {X : Type 0} (p : X → Bool) (xs : List X) → position p xs ≡ None → list_any p xs ≡ false
none_any p xs none = list_any_none p xs (All-from_at (λ x. p x ≡ false) xs (none_at p xs none))

pub absent_key : {K : Type 0} {eq : K → K → Bool} → IsEquivalence eq → (q : K) (ks : List K) → position (eq q) ks ≡ None → (k : ℕ) (x : K) → slice_get ks k ≡ Some x → x ≢ q
absent_key {K} {eq} laws q ks none k x at e = clash (sym (none_at (eq q) ks none k x at) ∙ ap (eq q) e ∙ laws.refl q)
  where
    clash : false ≡ true → ⊥
    clash h = cc

pub absent_from : {K : Type 0} {eq : K → K → Bool} → IsEquivalence eq → (q : K) (ks : List K) (o : Option ℕ) → o ≡ position (eq q) ks → IfNone o ((k : ℕ) (x : K) → slice_get ks k ≡ Some x → x ≢ q)
absent_from laws q ks None e = absent_key laws q ks (sym e)
absent_from laws q ks (Some n) e = tt

pub added_key : {X : Type 0} (p : X → Bool) (xs new : List X) (x : X) → position p xs ≡ None → new ≡ (if list_any p xs then xs else xs ++ x ∷ []) → new ≡ xs ++ x ∷ []
added_key p xs new x none e = e ∙ ap (λ b. if b then xs else xs ++ x ∷ []) (none_any p xs none)

-- the wire of a right side that is known
pub has_known : (b : Netlist) (k : ℕ) (right : Right Net ℕ) (keys : List (Right Net ℕ)) → IsDraft b → keys ≡ map (λ (a : Assign). a.right) b.assigns → position (EqRight right) keys ≡ Some k → HasWire b k right
has_known b k right keys draft known found =
    let of : Assign → Right Net ℕ = λ (a : Assign). a.right in
    let at = position-Some (EqRight right) (map of b.assigns) k right (subst (λ (l : List (Right Net ℕ)). position (EqRight right) l ≡ Some k) known found) in
    let within : k < length b.assigns = omega (arith, at.0, length-map b.assigns of) in
    elim (slice_get_cases b.assigns k).1 as (λ _. HasWire b k right) [
      | inl h ↦
          let a = h.0 in
          let mapped = get_or-map of b.assigns k a right within in
          let same : right ≡ a.right = same_right right (get_or (map of b.assigns) k right) at.1 ∙ mapped ∙ ap of h.3 in
          let target : a.target ≡ Wire k = draft.each k a h.2 in
          h.2 ∙ ap (λ (x : Assign). Some x) (rw (same, ← target) refl)
      | inr h ↦ absurd (omega (arith, h.0, within))
    ]

-- no assign has a right side that is not known
pub right_absent : (b : Netlist) (right : Right Net ℕ) (keys : List (Right Net ℕ)) → keys ≡ map (λ (a : Assign). a.right) b.assigns → ((k : ℕ) (x : Right Net ℕ) → slice_get keys k ≡ Some x → x ≢ right) →
    (k : ℕ) (a : Assign) → slice_get b.assigns k ≡ Some a → a.right ≢ right
right_absent b right keys known absent k a at =
    absent k a.right (ap (λ (l : List (Right Net ℕ)). slice_get l k) known ∙ slice_get-map (λ (x : Assign). x.right) b.assigns k ∙ ap (option_map (λ (x : Assign). x.right)) at)

pub keys_more : (b new : Netlist) (right : Right Net ℕ) (keys : List (Right Net ℕ)) → keys ≡ map (λ (a : Assign). a.right) b.assigns → new ≡ with_wire b right → keys ++ right ∷ [] ≡ map (λ (a : Assign). a.right) new.assigns
keys_more b new right keys known e =
    ap (λ (l : List (Right Net ℕ)). l ++ right ∷ []) known ∙ sym (map_push b.assigns (record { target = Wire (length b.wires); right = right })) ∙ ap (λ (n : Netlist). map (λ (a : Assign). a.right) n.assigns) (sym e)
  where
    map_push : (xs : List Assign) (x : Assign) → map (λ (a : Assign). a.right) (xs ++ x ∷ []) ≡ map (λ (a : Assign). a.right) xs ++ x.right ∷ []
    map_push [] x = refl
    map_push (y ∷ xs) x = ap (λ l. y.right ∷ l) (map_push xs x)

pub ok_holds : {A E : Type 0} (r : Result A E) (P : Type 0) → IsOk r → IfOk r (λ _. P) → P
ok_holds (Ok a) P h p = p
ok_holds (Err e) P h p = cc

-- the wire of a right side that was added
pub has_more : (old new : Netlist) (k : ℕ) (right : Right Net ℕ) → IsDraft old → new ≡ with_wire old right → k ≡ length old.assigns → HasWire new k right
has_more old new k right draft e at =
    subst (λ (n : Netlist). HasWire n k right) (sym e)
    (subst (λ (j : ℕ). HasWire (with_wire old right) j right) (sym at)
    (last_push old.assigns (record { target = Wire (length old.wires); right = right }) ∙ ap (λ (j : ℕ). Some (let a : Assign = record { target = Wire j; right = right } in a)) (sym draft.wires)))
