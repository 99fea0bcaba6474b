-- Constraints between the numbers of nodes, and flows over them: a system of differences and its dual.
use Rattle.std.specs.Prelude.{◌≡◌, ℕ, ℤ, pos, ◌-◌, ◌*◌, ◌<◌, ◌≤◌, ◌+ℤ◌, ◌-ℤ◌, ◌*ℤ◌, ◌≤ℤ◌, ◌==◌, if◌then◌else◌, List, [], ◌∷◌, length, map, slice_index, slice_index_or, All, sum_by}
use Rattle.std.specs.List.{zip}
use Rattle.raster_delay.specs.declared.network.Constraint.{Constraint}

-- the target's number is at least the source's and the cost
abbrev pub Holds : List ℕ → Constraint → Type 0
Holds p c = (pos (slice_index p c.source) +ℤ c.cost) ≤ℤ pos (slice_index p c.target)

-- the least number that a constraint lets its target have, which may be below 0
abbrev pub demanded : List ℕ → Constraint → ℤ
demanded p c = pos (slice_index p c.source) +ℤ c.cost

-- it is just that
abbrev pub IsTight : List ℕ → Constraint → Type 0
IsTight p c = pos (slice_index p c.source) +ℤ c.cost ≡ pos (slice_index p c.target)

-- the sum of the amounts at a node
abbrev pub amount_at : List (ℕ × ℕ) → ℕ → ℕ
amount_at amounts v = sum_by (λ a. if a.0 == v then a.1 else 0) amounts

-- what a flow brings to the targets, and what it takes from the sources
abbrev pub brought : List Constraint → List ℕ → List (ℕ × ℕ)
brought cs flow = zip (map (λ c. c.target) cs) flow

abbrev pub taken : List Constraint → List ℕ → List (ℕ × ℕ)
taken cs flow = zip (map (λ c. c.source) cs) flow

abbrev pub inflow : List Constraint → List ℕ → ℕ → ℕ
inflow cs flow v = amount_at (brought cs flow) v

abbrev pub outflow : List Constraint → List ℕ → ℕ → ℕ
outflow cs flow v = amount_at (taken cs flow) v

-- the nodes at which the values of an image begin and end to be held, and their width in bits
pub record Buffer : Type 0 where
  pub begin : ℕ
  pub end : ℕ
  pub width : ℕ

abbrev pub ends : List Buffer → List (ℕ × ℕ)
ends bs = map (λ b. (b.end, b.width)) bs

abbrev pub begins : List Buffer → List (ℕ × ℕ)
begins bs = map (λ b. (b.begin, b.width)) bs

-- the objective's coefficient: each buffer has plus its width at its end, and minus its width at its beginning
abbrev pub coefficient : List Buffer → ℕ → ℤ
coefficient bs v = pos (amount_at (ends bs) v) -ℤ pos (amount_at (begins bs) v)

-- a number of at least 0 on each constraint, with inflow less outflow equal to the coefficient at every node
pub record IsFlow (cs : List Constraint) (bs : List Buffer) (flow : List ℕ) : Type 0 where
  pub one_each : length flow ≡ length cs
  pub balanced : (v : ℕ) → pos (inflow cs flow v) -ℤ pos (outflow cs flow v) ≡ coefficient bs v

-- the sum of cost times flow
abbrev pub worth : List Constraint → List ℕ → ℤ
worth [] flow = pos 0
worth (c ∷ cs) [] = pos 0
worth (c ∷ cs) (x ∷ flow) = c.cost *ℤ pos x +ℤ worth cs flow

-- the sum of width times what lies between beginning and end
abbrev pub objective : List Buffer → List ℕ → ℕ
objective bs p = sum_by (λ b. b.width * (slice_index p b.end - slice_index p b.begin)) bs

-- the nodes are below n
pub record IsWithin (n : ℕ) (cs : List Constraint) (bs : List Buffer) : Type 0 where
  pub sources : All (λ c. c.source < n) cs
  pub targets : All (λ c. c.target < n) cs
  pub begins : All (λ b. b.begin < n) bs
  pub ends : All (λ b. b.end < n) bs

-- the constraint numbered i
abbrev pub constraint_at : List Constraint → ℕ → Constraint
constraint_at cs i = slice_index_or cs i (record { source = 0; target = 0; cost = pos 0 })

-- a constraint with flow on it is tight
abbrev pub IsComplementary : List Constraint → List ℕ → List ℕ → Type 0
IsComplementary cs flow p = (i : ℕ) → i < length cs → 0 < slice_index flow i → IsTight p (constraint_at cs i)

-- each constraint holds, and each buffer ends where it begins or later
pub record Keeps (cs : List Constraint) (bs : List Buffer) (p : List ℕ) : Type 0 where
  pub holds : All (Holds p) cs
  pub ordered : All (λ b. slice_index p b.begin ≤ slice_index p b.end) bs
