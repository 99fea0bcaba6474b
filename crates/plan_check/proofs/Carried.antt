-- The flow lines of a flow carry what it carries: lines of flow 0 add nothing.
use Rattle.std.proofs.Common.{◌≡◌, ◌+◌, ◌-◌, ◌*◌, ◌∙◌, ℕ, ℤ, pos, negsuc, zero, suc, true, List, [], ◌∷◌, ◌++◌, map, cond, eqb, ltb, refl, ap, arith}
use Rattle.std.specs.Prelude.{All, Contains, ◌+ℤ◌, ◌*ℤ◌, neg_ℤ}
use Rattle.std.specs.List.{AllByRecursion, range_with_len}
use Rattle.std.proofs.lemmas.Int.{ints}
use Rattle.std.proofs.lemmas.Bool.Decides.{nat_tests}
use Rattle.std.proofs.Math.IntN.{pos-*ℤ-pos, negsuc-*ℤ-pos}
use Rattle.std.proofs.lemmas.List.Sums.{sum_by-cons}
use Rattle.std.proofs.lemmas.List.Elements.{All-contains_itself, recursion_from_All, All-from_recursion}
use Rattle.raster_delay.specs.Network.{inflow, outflow, worth, brought, taken}
use Rattle.raster_delay.specs.Delays.{hold, start, read, keep, holds_of, starts_of}
use Rattle.raster_delay.specs.Systems.{System, image_count, placed_reads, constraints_in}
use Rattle.raster_delay.specs.declared.network.Constraint.{Constraint}
use Rattle.raster_delay.specs.declared.placed.PlacedRead.{PlacedRead}
use Rattle.raster_delay.proofs.Bridge.{rec_range_in}
use Rattle.report_text.specs.declared.report.FlowLine.{FlowLine}
use Rattle.plan_check.specs.Flows.{makers, carried, carrying, amount_of}
use Rattle.plan_check.specs.Holding.{HasConstraint}
use Rattle.plan_check.specs.Sums.{hold_maker, start_maker, read_maker, keep_maker, constraint_of, carriers, amounts}
use Rattle.plan_check.proofs.Flowing.{inflow_cons, outflow_cons}

-- a number above 0
pub above : (a n : ℕ) → a ≡ suc n → ltb 0 a ≡ true
above a n e = grind (arith, nat_tests, e)

-- the line of a constraint, with a flow
abbrev pub Maker : Type 0
Maker = ℕ → FlowLine

module _ (s : System) where
  -- the line names this constraint, with this flow
  pub record IsMade (c : Constraint) (n : ℕ) (x : FlowLine) : Type 0 where
    pub constraint_is : constraint_of s x ≡ c
    pub amount_is : amount_of x ≡ n
    pub has : HasConstraint s x

  -- each of these makes lines of the constraint at its place
  abbrev pub Make : List Maker → List Constraint → Type 0
  Make [] [] = Unit {0}
  Make [] (c ∷ cs) = ⊥
  Make (m ∷ ms) [] = ⊥
  Make (m ∷ ms) (c ∷ cs) = ((n : ℕ) → IsMade c n (m n)) × Make ms cs

  make_append : (ms ns : List Maker) (cs ds : List Constraint) → Make ms cs → Make ns ds → Make (ms ++ ns) (cs ++ ds)
  make_append [] ns [] ds h j = j
  make_append [] ns (c ∷ cs) ds h j = absurd h
  make_append (m ∷ ms) ns [] ds h j = absurd h
  make_append (m ∷ ms) ns (c ∷ cs) ds h j = (h.0, make_append ms ns cs ds h.1 j)

  make_map : {X : Type 0} (f : X → ℕ → FlowLine) (g : X → Constraint) (xs : List X) → AllByRecursion (λ x. (n : ℕ) → IsMade (g x) n (f x n)) xs → Make (map f xs) (map g xs)
  make_map f g [] h = tt
  make_map f g (x ∷ xs) h = (h.0, make_map f g xs h.1)

  holds_made : Make (map hold_maker (range_with_len 0 (image_count s))) (holds_of s.stencils.inputs (image_count s))
  holds_made = make_map hold_maker (hold s.stencils.inputs (image_count s)) (range_with_len 0 (image_count s))
      (rec_range_in (λ k. (n : ℕ) → IsMade (hold s.stencils.inputs (image_count s) k) n (hold_maker k n)) 0 (image_count s)
      (λ k low high n. record { constraint_is = refl; amount_is = refl; has = omega (arith, high) }))

  starts_made : Make (map start_maker (range_with_len s.stencils.inputs (image_count s - s.stencils.inputs))) (starts_of s.stencils.inputs (image_count s))
  starts_made = make_map start_maker (start s.stencils.inputs) (range_with_len s.stencils.inputs (image_count s - s.stencils.inputs))
      (rec_range_in (λ k. (n : ℕ) → IsMade (start s.stencils.inputs k) n (start_maker k n)) s.stencils.inputs (image_count s - s.stencils.inputs)
      (λ k low high n. record { constraint_is = refl; amount_is = refl; has = (low, omega (arith, low, high)) }))

  their_reads : AllByRecursion (Contains (placed_reads s)) (placed_reads s)
  their_reads = recursion_from_All (Contains (placed_reads s)) (placed_reads s) (All-contains_itself (placed_reads s))

  reads_made : Make (map read_maker (placed_reads s)) (map (read s.stencils.width s.age s.stencils.inputs) (placed_reads s))
  reads_made = make_map read_maker (read s.stencils.width s.age s.stencils.inputs) (placed_reads s)
      (weaken (placed_reads s) their_reads)
    where
      weaken : (xs : List PlacedRead) → AllByRecursion (Contains (placed_reads s)) xs
          → AllByRecursion (λ (r : PlacedRead). (n : ℕ) → IsMade (read s.stencils.width s.age s.stencils.inputs r) n (read_maker r n)) xs
      weaken [] h = tt
      weaken (x ∷ xs) h = (λ n. record { constraint_is = refl; amount_is = refl; has = h.0 }, weaken xs h.1)

  keeps_made : Make (map keep_maker (placed_reads s)) (map (keep s.stencils.width s.stencils.inputs (image_count s)) (placed_reads s))
  keeps_made = make_map keep_maker (keep s.stencils.width s.stencils.inputs (image_count s)) (placed_reads s)
      (weaken (placed_reads s) their_reads)
    where
      weaken : (xs : List PlacedRead) → AllByRecursion (Contains (placed_reads s)) xs
          → AllByRecursion (λ (r : PlacedRead). (n : ℕ) → IsMade (keep s.stencils.width s.stencils.inputs (image_count s) r) n (keep_maker r n)) xs
      weaken [] h = tt
      weaken (x ∷ xs) h = (λ n. record { constraint_is = refl; amount_is = refl; has = h.0 }, weaken xs h.1)

  pub all_made : Make (makers s) (constraints_in s)
  all_made = make_append _ _ _ _ (make_append _ _ _ _ (make_append _ _ _ _ holds_made starts_made) reads_made) keeps_made

  nothing_at : (k v n : ℕ) → n ≡ 0 → cond (eqb k v) n 0 ≡ 0
  nothing_at k v n e = grind (arith, nat_tests)

  none_at_all : (cs : List Constraint) (v : ℕ) → inflow cs [] v ≡ 0
  none_at_all [] v = refl
  none_at_all (c ∷ cs) v = refl

  none_out : (cs : List Constraint) (v : ℕ) → outflow cs [] v ≡ 0
  none_out [] v = refl
  none_out (c ∷ cs) v = refl

  in_cons : (c : Constraint) (n : ℕ) (cs : List Constraint) (flow : List ℕ) (v : ℕ) → inflow (c ∷ cs) (n ∷ flow) v ≡ cond (eqb c.target v) n 0 + inflow cs flow v
  in_cons c n cs flow v = sum_by-cons (λ (a : ℕ × ℕ). cond (eqb a.0 v) a.1 0) (c.target, n) (brought cs flow)

  out_cons : (c : Constraint) (n : ℕ) (cs : List Constraint) (flow : List ℕ) (v : ℕ) → outflow (c ∷ cs) (n ∷ flow) v ≡ cond (eqb c.source v) n 0 + outflow cs flow v
  out_cons c n cs flow v = sum_by-cons (λ (a : ℕ × ℕ). cond (eqb a.0 v) a.1 0) (c.source, n) (taken cs flow)

  pub in_same : (ms : List Maker) (cs : List Constraint) (flow : List ℕ) (v : ℕ) → Make ms cs → inflow (carriers s (carried ms flow)) (amounts (carried ms flow)) v ≡ inflow cs flow v
  in_same [] [] flow v h = refl
  in_same [] (c ∷ cs) flow v h = absurd h
  in_same (m ∷ ms) [] flow v h = absurd h
  in_same (m ∷ ms) (c ∷ cs) [] v h = refl
  in_same (m ∷ ms) (c ∷ cs) (zero ∷ flow) v h = omega (arith, in_same ms cs flow v h.1, in_cons c 0 cs flow v, nothing_at c.target v 0 refl)
  in_same (m ∷ ms) (c ∷ cs) (suc n ∷ flow) v h =
      let made = h.0 (suc n) in
      let same : cond (eqb (constraint_of s (m (suc n))).target v) (amount_of (m (suc n))) 0 ≡ cond (eqb c.target v) (suc n) 0 =
      ap (λ (k : Constraint). cond (eqb k.target v) (amount_of (m (suc n))) 0) made.constraint_is ∙ ap (λ a. cond (eqb c.target v) a 0) made.amount_is in
      omega (arith, in_same ms cs flow v h.1, in_cons c (suc n) cs flow v, inflow_cons s v (m (suc n)) (carried ms flow), same)

  pub out_same : (ms : List Maker) (cs : List Constraint) (flow : List ℕ) (v : ℕ) → Make ms cs → outflow (carriers s (carried ms flow)) (amounts (carried ms flow)) v ≡ outflow cs flow v
  out_same [] [] flow v h = refl
  out_same [] (c ∷ cs) flow v h = absurd h
  out_same (m ∷ ms) [] flow v h = absurd h
  out_same (m ∷ ms) (c ∷ cs) [] v h = refl
  out_same (m ∷ ms) (c ∷ cs) (zero ∷ flow) v h = omega (arith, out_same ms cs flow v h.1, out_cons c 0 cs flow v, nothing_at c.source v 0 refl)
  out_same (m ∷ ms) (c ∷ cs) (suc n ∷ flow) v h =
      let made = h.0 (suc n) in
      let same : cond (eqb (constraint_of s (m (suc n))).source v) (amount_of (m (suc n))) 0 ≡ cond (eqb c.source v) (suc n) 0 =
      ap (λ (k : Constraint). cond (eqb k.source v) (amount_of (m (suc n))) 0) made.constraint_is ∙ ap (λ a. cond (eqb c.source v) a 0) made.amount_is in
      omega (arith, out_same ms cs flow v h.1, out_cons c (suc n) cs flow v, outflow_cons s v (m (suc n)) (carried ms flow), same)

  pub times_none : (z : ℤ) → z *ℤ pos 0 ≡ pos 0
  times_none (pos a) = pos-*ℤ-pos a 0 ∙ ap pos (let e : a * 0 ≡ 0 = omega arith in e)
  times_none (negsuc a) = negsuc-*ℤ-pos a 0 ∙ ap (λ n. neg_ℤ (pos n)) (let e : suc a * 0 ≡ 0 = omega arith in e)

  pub worth_same : (ms : List Maker) (cs : List Constraint) (flow : List ℕ) → Make ms cs → worth (carriers s (carried ms flow)) (amounts (carried ms flow)) ≡ worth cs flow
  worth_same [] [] flow h = refl
  worth_same [] (c ∷ cs) flow h = absurd h
  worth_same (m ∷ ms) [] flow h = absurd h
  worth_same (m ∷ ms) (c ∷ cs) [] h = refl
  worth_same (m ∷ ms) (c ∷ cs) (zero ∷ flow) h = omega (arith, ints, worth_same ms cs flow h.1, times_none c.cost)
  worth_same (m ∷ ms) (c ∷ cs) (suc n ∷ flow) h =
      let made = h.0 (suc n) in
      ap (λ w. (constraint_of s (m (suc n))).cost *ℤ pos (amount_of (m (suc n))) +ℤ w) (worth_same ms cs flow h.1)
      ∙ ap (λ (k : Constraint). k.cost *ℤ pos (amount_of (m (suc n))) +ℤ worth cs flow) made.constraint_is
      ∙ ap (λ a. c.cost *ℤ pos a +ℤ worth cs flow) made.amount_is

  has_all : (ms : List Maker) (cs : List Constraint) (flow : List ℕ) → Make ms cs → AllByRecursion (HasConstraint s) (carried ms flow)
  has_all [] [] flow h = tt
  has_all [] (c ∷ cs) flow h = absurd h
  has_all (m ∷ ms) [] flow h = absurd h
  has_all (m ∷ ms) (c ∷ cs) [] h = tt
  has_all (m ∷ ms) (c ∷ cs) (zero ∷ flow) h = has_all ms cs flow h.1
  has_all (m ∷ ms) (c ∷ cs) (suc n ∷ flow) h = ((h.0 (suc n)).has, has_all ms cs flow h.1)

  pub carried_has : (flow : List ℕ) → All (HasConstraint s) (carried (makers s) flow)
  carried_has flow = All-from_recursion (HasConstraint s) (carried (makers s) flow) (has_all (makers s) (constraints_in s) flow all_made)

  -- each of these lines carries some
  pub carrying_all : (ms : List Maker) (cs : List Constraint) (flow : List ℕ) → Make ms cs → carrying (carried ms flow) ≡ carried ms flow
  carrying_all [] [] flow h = refl
  carrying_all [] (c ∷ cs) flow h = absurd h
  carrying_all (m ∷ ms) [] flow h = absurd h
  carrying_all (m ∷ ms) (c ∷ cs) [] h = refl
  carrying_all (m ∷ ms) (c ∷ cs) (zero ∷ flow) h = carrying_all ms cs flow h.1
  carrying_all (m ∷ ms) (c ∷ cs) (suc n ∷ flow) h =
      let rest = carrying (carried ms flow) in
      ap (λ b. cond b (m (suc n) ∷ rest) rest) (above (amount_of (m (suc n))) n (h.0 (suc n)).amount_is) ∙ ap (λ xs. m (suc n) ∷ xs) (carrying_all ms cs flow h.1)

  pub carrying_carried : (flow : List ℕ) → carrying (carried (makers s) flow) ≡ carried (makers s) flow
  carrying_carried flow = carrying_all (makers s) (constraints_in s) flow all_made
