-- Bits are worth plus what the flow's constraints have to spare.
use Rattle.std.proofs.Common.{◌≡◌, ◌≢◌, ◌<◌, ◌≤◌, ◌+ℤ◌, ◌*ℤ◌, ℕ, ℤ, pos, negsuc, zero, suc, List, [], ◌∷◌, length, slice_index, ◌+◌, ◌-◌, ◌*◌, eqb, cond, map, refl, ap, ◌∙◌, arith, inl, inr}
use Rattle.std.specs.Prelude.{◌≤ℤ◌}
use Rattle.std.specs.List.{zip, AllByRecursion}
use Rattle.std.proofs.Math.IntN.{pos-*ℤ-pos, negsuc-*ℤ-pos}
use Rattle.std.proofs.lemmas.List.Sums.{sum_by-cons}
use Rattle.std.proofs.lemmas.List.Elements.{recursion_from_All}
use Rattle.std.proofs.lemmas.Bool.{cases_lt, ne_eqb}
use Rattle.std.proofs.lemmas.Bool.Decides.{nat_tests}
use Rattle.std.proofs.lemmas.Int.{ints}
use Rattle.raster_delay.specs.Network.{Holds, IsFlow, IsWithin, worth, Buffer, objective, amount_at, brought, taken, begins, ends, Keeps, IsComplementary, IsTight, constraint_at}
use Rattle.raster_delay.specs.declared.network.Constraint.{Constraint}

-- the sum over the nodes below n
abbrev pub total : ℕ → (ℕ → ℕ) → ℕ
total zero f = 0
total (suc n) f = total n f + f n

total-add : (n : ℕ) (f g : ℕ → ℕ) → total n (λ v. f v + g v) ≡ total n f + total n g
total-add zero f g = refl
total-add (suc n) f g = omega (arith, total-add n f g)

total-same : (n : ℕ) (f g : ℕ → ℕ) → ((v : ℕ) → f v ≡ g v) → total n f ≡ total n g
total-same zero f g h = refl
total-same (suc n) f g h = omega (arith, total-same n f g h, h n)

total-zero : (n : ℕ) → total n (λ _. 0) ≡ 0
total-zero zero = refl
total-zero (suc n) = omega (arith, total-zero n)

at_other : (k n a : ℕ) → k ≢ n → cond (eqb k n) a 0 ≡ 0
at_other k n a h = rw ne_eqb

at_same : (k a : ℕ) → cond (eqb k k) a 0 ≡ a
at_same k a = grind (arith, nat_tests)

-- an amount at one node, times what the node has
abbrev spike : ℕ → ℕ → List ℕ → ℕ → ℕ
spike k a p v = cond (eqb k v) a 0 * slice_index p v

total-past : (n k a : ℕ) (p : List ℕ) → n ≤ k → total n (spike k a p) ≡ 0
total-past zero k a p h = refl
total-past (suc n) k a p h =
    omega (arith, total-past n k a p (omega arith), ap (λ x. x * slice_index p n) (at_other k n a (omega arith)))

total-one : (n k a : ℕ) (p : List ℕ) → k < n → total n (spike k a p) ≡ a * slice_index p k
total-one zero k a p h = absurd (omega arith)
total-one (suc n) k a p h = elim (cases_lt k n) [
  | inl l ↦ omega (arith, total-one n k a p l, ap (λ x. x * slice_index p n) (at_other k n a (omega arith)))
  | inr l ↦ let e : n ≡ k = omega arith in
      rw e (omega (arith, total-past k k a p (omega arith), ap (λ x. x * slice_index p k) (at_same k a)))
]

-- the amounts, each times what its node has
abbrev pub weigh : List (ℕ × ℕ) → List ℕ → ℕ
weigh [] p = 0
weigh (a ∷ xs) p = a.1 * slice_index p a.0 + weigh xs p

weigh-total : (n : ℕ) (p : List ℕ) (xs : List (ℕ × ℕ)) → AllByRecursion (λ a. a.0 < n) xs
    → total n (λ v. amount_at xs v * slice_index p v) ≡ weigh xs p
weigh-total n p [] h = total-same n (λ v. amount_at [] v * slice_index p v) (λ _. 0) (λ v. omega arith) ∙ total-zero n
weigh-total n p (a ∷ xs) h =
    total-same n (λ v. amount_at (a ∷ xs) v * slice_index p v) (λ v. spike a.0 a.1 p v + amount_at xs v * slice_index p v)
    (λ v. omega (arith, ap (λ x. x * slice_index p v) (sum_by-cons (λ (b : ℕ × ℕ). cond (eqb b.0 v) b.1 0) a xs)))
    ∙ total-add n (spike a.0 a.1 p) (λ v. amount_at xs v * slice_index p v)
    ∙ omega (arith, total-one n a.0 a.1 p h.0, weigh-total n p xs h.1)

-- two pairs of lists of amounts that agree at every node weigh the same
weigh-balanced : (n : ℕ) (p : List ℕ) (xs ys zs ws : List (ℕ × ℕ))
    → AllByRecursion (λ a. a.0 < n) xs → AllByRecursion (λ a. a.0 < n) ys → AllByRecursion (λ a. a.0 < n) zs → AllByRecursion (λ a. a.0 < n) ws
    → ((v : ℕ) → amount_at xs v + amount_at ys v ≡ amount_at zs v + amount_at ws v)
    → weigh xs p + weigh ys p ≡ weigh zs p + weigh ws p
weigh-balanced n p xs ys zs ws ha hb hc hd e =
    let at : List (ℕ × ℕ) → ℕ → ℕ = λ us v. amount_at us v * slice_index p v in
    omega (
      arith,
      weigh-total n p xs ha,
      weigh-total n p ys hb,
      weigh-total n p zs hc,
      weigh-total n p ws hd,
      total-add n (at xs) (at ys),
      total-add n (at zs) (at ws),
      total-same n (λ v. at xs v + at ys v) (λ v. at zs v + at ws v) (λ v. omega (arith, ap (λ x. x * slice_index p v) (e v))),
    )

-- by how much the target's number is above the source's and the cost
abbrev pub over : ℕ → ℕ → ℤ → ℕ
over s t (pos a) = t - (s + a)
over s t (negsuc a) = t + suc a - s

abbrev pub slack : List ℕ → Constraint → ℕ
slack p c = over (slice_index p c.source) (slice_index p c.target) c.cost

over_is : (s t : ℕ) (c : ℤ) → (pos s +ℤ c) ≤ℤ pos t → pos s +ℤ c +ℤ pos (over s t c) ≡ pos t
over_is s t (pos a) h = omega (arith, ints)
over_is s t (negsuc a) h = omega (arith, ints)

carried : (s t x : ℕ) (c : ℤ) → (pos s +ℤ c) ≤ℤ pos t → c *ℤ pos x +ℤ pos (x * s) +ℤ pos (x * over s t c) ≡ pos (x * t)
carried s t x (pos a) h =
    let k : ℕ = over s t (pos a) in
    let e : t ≡ s + a + k = omega (arith, ints) in
    rw pos-*ℤ-pos (omega (arith, ints, ap (λ y. x * y) e))
carried s t x (negsuc a) h =
    let k : ℕ = over s t (negsuc a) in
    let e : t + suc a ≡ s + k = omega (arith, ints) in
    rw negsuc-*ℤ-pos (omega (arith, ints, ap (λ y. x * y) e))

-- what is to spare on a flow's constraints
abbrev pub spare : List Constraint → List ℕ → List ℕ → ℕ
spare [] flow p = 0
spare (c ∷ cs) [] p = 0
spare (c ∷ cs) (x ∷ flow) p = x * slack p c + spare cs flow p

worth-weighs : (cs : List Constraint) (flow p : List ℕ) → AllByRecursion (Holds p) cs
    → worth cs flow +ℤ pos (weigh (taken cs flow) p) +ℤ pos (spare cs flow p) ≡ pos (weigh (brought cs flow) p)
worth-weighs [] flow p h = refl
worth-weighs (c ∷ cs) [] p h = refl
worth-weighs (c ∷ cs) (x ∷ flow) p h =
    omega (arith, ints, carried (slice_index p c.source) (slice_index p c.target) x c.cost h.0, worth-weighs cs flow p h.1)

objective-weighs : (bs : List Buffer) (p : List ℕ) → AllByRecursion (λ b. slice_index p b.begin ≤ slice_index p b.end) bs
    → objective bs p + weigh (begins bs) p ≡ weigh (ends bs) p
objective-weighs [] p h = refl
objective-weighs (b ∷ bs) p h =
    let f : Buffer → ℕ = λ b. b.width * (slice_index p b.end - slice_index p b.begin) in
    let e : slice_index p b.end ≡ slice_index p b.begin + (slice_index p b.end - slice_index p b.begin) = omega arith in
    omega (arith, sum_by-cons f b bs, objective-weighs bs p h.1, ap (λ y. b.width * y) e)

within-zip : {X : Type 0} (n : ℕ) (node : X → ℕ) (xs : List X) (flow : List ℕ) → AllByRecursion (λ x. node x < n) xs
    → AllByRecursion (λ a. a.0 < n) (zip (map node xs) flow)
within-zip n node [] flow h = tt
within-zip n node (x ∷ xs) [] h = tt
within-zip n node (x ∷ xs) (y ∷ flow) h = (h.0, within-zip n node xs flow h.1)

within-map : {X : Type 0} (n : ℕ) (node amount : X → ℕ) (xs : List X) → AllByRecursion (λ x. node x < n) xs
    → AllByRecursion {X = ℕ × ℕ} (λ a. a.0 < n) (map (λ x. (node x, amount x)) xs)
within-map n node amount [] h = tt
within-map n node amount (x ∷ xs) h = (h.0, within-map n node amount xs h.1)

-- the bits are the worth and what is to spare
pub bits_are : (n : ℕ) (cs : List Constraint) (bs : List Buffer) (flow p : List ℕ) → IsWithin n cs bs → IsFlow cs bs flow → Keeps cs bs p
    → worth cs flow +ℤ pos (spare cs flow p) ≡ pos (objective bs p)
bits_are n cs bs flow p within is k =
    let source : Constraint → ℕ = λ c. c.source in
    let target : Constraint → ℕ = λ c. c.target in
    let begin : Buffer → ℕ = λ b. b.begin in
    let end : Buffer → ℕ = λ b. b.end in
    let width : Buffer → ℕ = λ b. b.width in
    omega (
      arith,
      ints,
      worth-weighs cs flow p (recursion_from_All (Holds p) cs k.holds),
      objective-weighs bs p (recursion_from_All (λ b. slice_index p b.begin ≤ slice_index p b.end) bs k.ordered),
      weigh-balanced n p (brought cs flow) (begins bs) (taken cs flow) (ends bs)
          (within-zip n target cs flow (recursion_from_All (λ c. c.target < n) cs within.targets))
          (within-map n begin width bs (recursion_from_All (λ b. b.begin < n) bs within.begins))
          (within-zip n source cs flow (recursion_from_All (λ c. c.source < n) cs within.sources))
          (within-map n end width bs (recursion_from_All (λ b. b.end < n) bs within.ends))
          (λ v. omega (arith, ints, is.balanced v)),
    )

over-tight : (s t : ℕ) (c : ℤ) → pos s +ℤ c ≡ pos t → over s t c ≡ 0
over-tight s t (pos a) h = omega (arith, ints)
over-tight s t (negsuc a) h = omega (arith, ints)

product_zero : (x s : ℕ) → 0 < x → x * s ≡ 0 → s ≡ 0
product_zero x zero h e = refl
product_zero x (suc s) h e = absurd (omega arith)

-- nothing is to spare where each constraint with flow is tight
pub spare-complementary : (cs : List Constraint) (flow p : List ℕ) → IsComplementary cs flow p → spare cs flow p ≡ 0
spare-complementary [] flow p carries = refl
spare-complementary (c ∷ cs) [] p carries = refl
spare-complementary (c ∷ cs) (zero ∷ flow) p carries = omega (arith, spare-complementary cs flow p (λ i h some. carries (suc i) (omega arith) some))
spare-complementary (c ∷ cs) (suc x ∷ flow) p carries =
    omega (
      arith,
      spare-complementary cs flow p (λ i h some. carries (suc i) (omega arith) some),
      ap (λ s. suc x * s) (over-tight (slice_index p c.source) (slice_index p c.target) c.cost (carries 0 (omega arith) (omega arith))),
    )

-- and only there
pub complementary-spare : (cs : List Constraint) (flow p : List ℕ) → AllByRecursion (Holds p) cs → spare cs flow p ≡ 0 → IsComplementary cs flow p
complementary-spare [] flow p holds none = λ i h some. absurd (omega arith)
complementary-spare (c ∷ cs) [] p holds none = λ i h some. absurd (omega arith)
complementary-spare (c ∷ cs) (x ∷ flow) p holds none = λ i. elim i as (λ j. j < length (c ∷ cs) → 0 < slice_index (x ∷ flow) j → IsTight p (constraint_at (c ∷ cs) j)) [
  | zero ↦ λ h some. omega (arith, ints, over_is (slice_index p c.source) (slice_index p c.target) c.cost holds.0, product_zero x (slack p c) some (omega arith))
  | suc j ↦ λ h some. complementary-spare cs flow p holds.1 (omega arith) j (omega arith) some
]
