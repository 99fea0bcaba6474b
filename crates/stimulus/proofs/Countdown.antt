-- The clocks up to the next one that a held clock follows.
use Rattle.std.proofs.Common.{◌≡◌, ◌∙◌, sym, ap, ℕ, suc, ◌+◌, ◌-◌, ◌%◌, ◌<◌, ◌≤◌, false, nat_eq, arith, inl, inr, Option, None, Some}
use Rattle.std.specs.Prelude.{IfSome, ◌⊎◌}
use Rattle.std.proofs.lemmas.Bool.{cases_lt, eqb-true, eq-eqb, false_from_ne_true}
use Rattle.std.proofs.Math.Nat.{mod-lt, mod-eq_of_lt, mod_self, suc-mod}
use Rattle.std.proofs.Math.Numerals.{suc-eq-add-one}
use Rattle.stimulus.specs.Stimulus.{is_held_after, clocks_left}

-- the remainder of the next number is one more, or 0
next_mod : (k c : ℕ) → 0 < c → ((suc (k % c) < c) × ((k + 1) % c ≡ suc (k % c))) ⊎ ((suc (k % c) ≡ c) × ((k + 1) % c ≡ 0))
next_mod k c some =
    let one : (k + 1) % c ≡ suc (k % c) % c = ap (λ z. z % c) (sym (suc-eq-add-one k)) ∙ suc-mod k c in
    elim (cases_lt (suc (k % c)) c) [
      | inl low ↦ inl (low, one ∙ mod-eq_of_lt low)
      | inr high ↦
          let all : suc (k % c) ≡ c = omega (arith, high, mod-lt k some) in
          inr (all, one ∙ ap (λ z. z % c) all ∙ mod_self c)
    ]

are_apart : (a b : ℕ) → (a ≡ b → ⊥) → nat_eq a b ≡ false
are_apart a b apart = false_from_ne_true (nat_eq a b) (λ e. apart (eqb-true a b e))

pub follows_last : (hold : Option ℕ) (left clock : ℕ) → IfSome hold (λ count. 0 < count) → left ≡ clocks_left hold clock → nat_eq left 1 ≡ is_held_after hold clock
follows_last None left clock some is = are_apart left 1 (λ e. omega (arith, is, e))
follows_last (Some c) left clock some is = elim (next_mod clock c some) [
  | inl more ↦ are_apart left 1 (λ e. omega (arith, is, e, more.0)) ∙ sym (are_apart ((clock + 1) % c) 0 (λ e. omega (arith, e, more.1)))
  | inr last ↦
      let one : left ≡ 1 = omega (arith, is, last.0) in
      eq-eqb left 1 one ∙ sym (eq-eqb ((clock + 1) % c) 0 last.1)
]

pub left_first : (c left clock : ℕ) → 0 < c → left ≡ clocks_left (Some c) clock → left ≤ 1 → c ≡ clocks_left (Some c) (clock + 1)
left_first c left clock some is few = elim (next_mod clock c some) [
  | inl more ↦ absurd (omega (arith, more.0, is, few))
  | inr last ↦ omega (arith, last.1)
]

pub left_later : (c left clock : ℕ) → 0 < c → left ≡ clocks_left (Some c) clock → 1 < left → left - 1 ≡ clocks_left (Some c) (clock + 1)
left_later c left clock some is many = elim (next_mod clock c some) [
  | inl more ↦ omega (arith, more.1, is)
  | inr last ↦ absurd (omega (arith, last.0, is, many))
]
