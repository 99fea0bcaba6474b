-- Words of a ring, by the clock modulo their number.
use Rattle.std.proofs.Common.{◌≡◌, ◌≢◌, ℕ, zero, suc, ◌+◌, ◌-◌, ◌*◌, ◌/◌, ◌%◌, ◌<◌, ◌≤◌, Bool, true, false, List, length, get_or, set, sym, ap, subst, ◌∙◌, arith, inl, inr, get_or-set_same, get_or-set_other}
use Rattle.std.specs.Prelude.{slice_set, nat_lt, nat_eq, if◌then◌else◌}
use Rattle.std.proofs.Math.ListN.{length-set}
use Rattle.std.proofs.lemmas.Nat.{same_from_place, div-add-mod', mod_below, mod-mul-add}
use Rattle.std.proofs.lemmas.Bool.{cases_eq, cases_lt}
use Rattle.line_buffer.specs.Rings.{behind}
use Rattle.line_buffer.specs.Streams.{HoldsPixels, IsPixel}

-- a word that is fewer than n places back in a ring of n words is another word
pub other_place : (t age n : ℕ) → 0 < age → age < n → age ≤ t → (t - age) % n ≢ t % n
other_place t age n some fewer passed same =
    let e : (t - age) / n * n + age ≡ t / n * n + 0 = omega (arith, same, passed, div-add-mod' t n, div-add-mod' (t - age) n) in
    let p : 0 < n = omega (arith, some, fewer) in
    let z = same_from_place ((t - age) / n) age (t / n) 0 n fewer p e in
    omega (arith, z.1, some)

-- the clock's pixel goes into word t mod n, and the others stay
ring_at : (pixel : ℕ → ℕ) (count start t value : ℕ) (words : List ℕ) → 0 < length words → HoldsPixels pixel count start t words → IsPixel pixel count start t value →
    (age q : ℕ) → 0 < age → age ≤ length words → q + age + start ≡ suc t → q < count → get_or (set words (t % length words) value) ((suc t - age) % length words) 0 ≡ pixel q
ring_at pixel count start t value words some held came age q p short e lt =
    let n : ℕ = length words in
    elim (cases_eq age 1) as (λ _. get_or (set words (t % length words) value) ((suc t - age) % length words) 0 ≡ pixel q) [
      | inl one ↦
          let here : (suc t - age) % n ≡ t % n = ap (λ i. i % n) (omega (arith, one)) in
          let within : t % n < length words = mod_below t n some in
          rw (here, get_or-set_same) (came q (omega (arith, e, one)) lt)
      | inr more ↦
          let back : suc t - age ≡ t - (age - 1) = omega (arith, p) in
          let other : (t - (age - 1)) % n ≢ t % n = other_place t (age - 1) n (omega (arith, p, more)) (omega (arith, p, short)) (omega (arith, p, e)) in
          rw (back, get_or-set_other) (held (age - 1) q (omega (arith, p, more)) (omega (arith, short)) (omega (arith, p, e)) lt)
    ]

pub ring_goes_on : (pixel : ℕ → ℕ) (count start t value : ℕ) (words : List ℕ) → 0 < length words → HoldsPixels pixel count start t words → IsPixel pixel count start t value → HoldsPixels pixel count start (suc t) (slice_set words (t % length words) value)
ring_goes_on pixel count start t value words some held came age q p short e lt =
    let long : length (set words (t % length words) value) ≡ length words = length-set words (t % length words) value in
    rw long (ring_at pixel count start t value words some held came age q p (rw long at short) e lt)

pub whole_turn : (t n : ℕ) → 0 < n → n ≤ t → (t - n) % n ≡ t % n
whole_turn t n some passed = turn (t / n) (t % n) t n (sym (div-add-mod' t n)) some (mod_below t n some) passed
  where
    turn : (q r t n : ℕ) → t ≡ q * n + r → 0 < n → r < n → n ≤ t → (t - n) % n ≡ r
    turn zero r t n e some low passed = absurd (omega (arith, e, some, low, passed))
    turn (suc q) r t n e some low passed = let f : t - n ≡ q * n + r = omega (arith, e, passed) in ap (λ x. x % n) f ∙ mod-mul-add q n r low

pub yes_lt : (a b : ℕ) → a < b → nat_lt a b ≡ true
yes_lt a b h = grind arith

pub no_lt : (a b : ℕ) → b ≤ a → nat_lt a b ≡ false
no_lt a b h = grind arith

pub no_eq : (a b : ℕ) → a ≢ b → nat_eq a b ≡ false
no_eq a b h = grind arith

pub yes_eq : (a b : ℕ) → a ≡ b → nat_eq a b ≡ true
yes_eq a b h = grind arith

-- the word this many places back from the index is that of the age
pub behind_is : (t age n : ℕ) → 0 < age → age ≤ n → age ≤ t → behind n age (t % n) ≡ (t - age) % n
behind_is t age n some deep passed =
    elim (cases_eq age n) as (λ _. behind n age (t % n) ≡ (t - age) % n) [
      | inl same ↦
          let turn : t % n ≡ (t - age) % n = sym (whole_turn t n (omega (arith, some, same)) (omega (arith, passed, same))) ∙ ap (λ (a : ℕ). (t - a) % n) (sym same) in
          subst (λ (x : Bool). (if x then t % n else if nat_lt (t % n) age then t % n + (n - age) else t % n - age) ≡ (t - age) % n) (sym (yes_eq age n same)) turn
      | inr other ↦ subst (λ (x : Bool). (if x then t % n else if nat_lt (t % n) age then t % n + (n - age) else t % n - age) ≡ (t - age) % n) (sym (no_eq age n other)) placed
    ]
  where
    turned : (q r t age n : ℕ) → t ≡ q * n + r → r < age → age ≤ n → age ≤ t → r + (n - age) ≡ (t - age) % n
    turned zero r t age n e lt deep passed = absurd (omega (arith, e, lt, passed))
    turned (suc q) r t age n e lt deep passed =
        let f : t - age ≡ q * n + (r + (n - age)) = omega (arith, e, lt, deep, passed) in
        let low : r + (n - age) < n = omega (arith, lt, deep) in
        sym (ap (λ k. k % n) f ∙ mod-mul-add q n (r + (n - age)) low)

    placed : (if nat_lt (t % n) age then t % n + (n - age) else t % n - age) ≡ (t - age) % n
    placed =
        let p : 0 < n = omega (arith, some, deep) in
        let whole = div-add-mod' t n in
        let rest = mod_below t n p in
        elim (cases_lt (t % n) age) as (λ _. (if nat_lt (t % n) age then t % n + (n - age) else t % n - age) ≡ (t - age) % n) [
          | inl lt ↦ rw (yes_lt (t % n) age lt) (turned (t / n) (t % n) t age n (sym whole) lt deep passed)
          | inr ge ↦
              let e : t - age ≡ t / n * n + (t % n - age) = omega (arith, whole, ge) in
              let low : t % n - age < n = omega (arith, rest) in
              rw (no_lt (t % n) age ge) (sym (ap (λ k. k % n) e ∙ mod-mul-add (t / n) n (t % n - age) low))
        ]

-- and it is one of the ring
pub behind_below : (n age index : ℕ) → 0 < age → age ≤ n → index < n → behind n age index < n
behind_below n age index some deep low =
    elim (cases_eq age n) as (λ _. behind n age index < n) [
      | inl same ↦ subst (λ (x : Bool). (if x then index else if nat_lt index age then index + (n - age) else index - age) < n) (sym (yes_eq age n same)) low
      | inr other ↦ subst (λ (x : Bool). (if x then index else if nat_lt index age then index + (n - age) else index - age) < n) (sym (no_eq age n other)) placed
    ]
  where
    placed : (if nat_lt index age then index + (n - age) else index - age) < n
    placed = elim (cases_lt index age) as (λ _. (if nat_lt index age then index + (n - age) else index - age) < n) [
      | inl lt ↦ subst (λ (x : Bool). (if x then index + (n - age) else index - age) < n) (sym (yes_lt index age lt)) (omega (arith, lt, deep))
      | inr ge ↦ subst (λ (x : Bool). (if x then index + (n - age) else index - age) < n) (sym (no_lt index age ge)) (omega (arith, low))
    ]
