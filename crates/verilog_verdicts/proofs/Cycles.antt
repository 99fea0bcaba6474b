-- Some assign depends on itself, or none does.
use Rattle.std.proofs.Common.{◌≡◌, ◌⊎◌, inl, inr, ℕ, zero, suc, ◌<◌, List, length, Some, subst, arith}
use Rattle.std.specs.Prelude.{slice_get, Contains}
use Rattle.std.proofs.lemmas.Bool.{cases_lt}
use Rattle.std.proofs.lemmas.Option.{slice_get_within}
use Rattle.wiring.specs.declared.netlist.Assign.{Assign}
use Rattle.wiring.specs.Rights.{nets_of}
use Rattle.wiring.specs.Order.{Feeds, DependsOn, directly, through, IsAcyclic}
use Rattle.wiring.proofs.Nets.{net_cases}
use Rattle.verilog_verdicts.proofs.Decided.{Decided, both, either, like, contains, some_value, some_below}

module _ (assigns : List Assign) where
  -- the assign at k depends on that at j, by way of those below n only
  abbrev Reaches : ℕ → ℕ → ℕ → Type 0
  Reaches zero k j = Feeds assigns j k
  Reaches (suc n) k j = Reaches n k j ⊎ (Reaches n k n × Reaches n n j)

  feeds : (j k : ℕ) → Decided (Feeds assigns j k)
  feeds j k =
      like (λ h. record { from = h.0; to = h.2.0; from_at = h.1; to_at = h.2.1; read = h.2.2 }) (λ f. (f.from, f.from_at, (f.to, f.to_at, f.read)))
      (some_value (λ (from : Assign). (to : Assign) × (slice_get assigns k ≡ Some to) × Contains (nets_of to.right) from.target)
      (λ from. some_value (λ (to : Assign). Contains (nets_of to.right) from.target) (λ to. contains net_cases (nets_of to.right) from.target) (slice_get assigns k))
      (slice_get assigns j))

  reaches : (n k j : ℕ) → Decided (Reaches n k j)
  reaches zero k j = feeds j k
  reaches (suc n) k j = either (reaches n k j) (both (reaches n k n) (reaches n n j))

  then_depends : {k i j : ℕ} → DependsOn assigns k i → DependsOn assigns i j → DependsOn assigns k j
  then_depends (directly f) d = through f d
  then_depends (through f e) d = through f (then_depends e d)

  depends : (n k j : ℕ) → Reaches n k j → DependsOn assigns k j
  depends zero k j h = directly h
  depends (suc n) k j (inl h) = depends n k j h
  depends (suc n) k j (inr h) = then_depends (depends n k n h.0) (depends n n j h.1)

  within : (n k i j : ℕ) → ((x y : ℕ) → Reaches n x i → Reaches n i y → Reaches n x y) → Reaches (suc n) k i → Reaches (suc n) i j → Reaches (suc n) k j
  within n k i j h (inl a) (inl b) = inl (h k j a b)
  within n k i j h (inl a) (inr b) = inr (h k n a b.0, b.1)
  within n k i j h (inr a) (inl b) = inr (a.0, h n j a.1 b)
  within n k i j h (inr a) (inr b) = inr (a.0, b.1)

  into_last : (n k : ℕ) → Reaches (suc n) k n → Reaches n k n
  into_last n k (inl a) = a
  into_last n k (inr a) = a.0

  from_last : (n j : ℕ) → Reaches (suc n) n j → Reaches n n j
  from_last n j (inl b) = b
  from_last n j (inr b) = b.1

  joined : (n k i j : ℕ) → i < n → Reaches n k i → Reaches n i j → Reaches n k j
  joined zero k i j l a b = absurd (omega (arith, l))
  joined (suc n) k i j l a b = elim (cases_lt i n) [
    | inl below ↦ within n k i j (λ x y p q. joined n x i y below p q) a b
    | inr most ↦
        let same : i ≡ n = omega (arith, l, most) in
        inr (into_last n k (subst (λ z. Reaches (suc n) k z) same a), from_last n j (subst (λ z. Reaches (suc n) z j) same b))
  ]

  first : (n k j : ℕ) → Feeds assigns j k → Reaches n k j
  first zero k j f = f
  first (suc n) k j f = inl (first n k j f)

  reached : {k j : ℕ} → DependsOn assigns k j → Reaches (length assigns) k j
  reached (directly {j = j} {k = k} f) = first (length assigns) k j f
  reached (through {i = i} {j = j} {k = k} f d) = joined (length assigns) k j i (slice_get_within assigns j f.from f.from_at) (first (length assigns) k j f) (reached d)

  depends_at : {k j : ℕ} → DependsOn assigns k j → k < length assigns
  depends_at (directly {k = k} f) = slice_get_within assigns k f.to f.to_at
  depends_at (through {k = k} f d) = slice_get_within assigns k f.to f.to_at

  -- no assign depends on itself, or this one does
  pub acyclic_or : IsAcyclic assigns ⊎ ((k : ℕ) × DependsOn assigns k k)
  acyclic_or = elim (some_below (λ k. Reaches (length assigns) k k) (λ k. reaches (length assigns) k k) (length assigns)) [
    | inl h ↦ inr (h.0, depends (length assigns) h.0 h.0 h.2)
    | inr none ↦ inl (λ k d. none (k, depends_at d, reached d))
  ]
