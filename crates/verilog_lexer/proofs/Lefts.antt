-- The tokens of a text are those that are left of it.
use Rattle.std.proofs.Common.{◌≡◌, ℕ, zero, suc, ◌≤◌, List, [], ◌∷◌, length, drop, Option, Some, None, true, false, ◌&&◌, nat_eq, refl, sym, ap, ◌∙◌, subst, arith, length-drop, inl, inr}
use Rattle.std.specs.List.{prefix_len}
use Rattle.std.proofs.lemmas.Bool.{cases_Bool}
use Rattle.verilog_text.specs.declared.token.Token.{Token}
use Rattle.verilog_text.specs.Bytes.{is_white, is_in_line}
use Rattle.verilog_text.specs.Lexis.{Gap, none, white, line, block, Solid, Lexes, finish, next, behind_block, span_at}
use Rattle.verilog_text.proofs.Unique.{one_gap}
use Rattle.verilog_lexer.specs.Left.{skipped, behind_or, placed, first_of, tokens_left}
use Rattle.verilog_lexer.proofs.Gaps.{behind_fewer}

slashes : (a b : ℕ) → (nat_eq a 47 && nat_eq b 47) ≡ true → (a ≡ 47) × (b ≡ 47)
slashes a b h = grind arith

star : (a b : ℕ) → (nat_eq a 47 && nat_eq b 42) ≡ true → (a ≡ 47) × (b ≡ 42)
star a b h = grind arith

no_slashes : (a b : ℕ) → (nat_eq a 47 && nat_eq b 47) ≡ false → a ≡ 47 → b ≡ 47 → ⊥
no_slashes a b h p q = grind arith

no_star : (a b : ℕ) → (nat_eq a 47 && nat_eq b 42) ≡ false → a ≡ 47 → b ≡ 42 → ⊥
no_star a b h p q = grind arith

skipped_block : (f a b : ℕ) (bs : List ℕ) (o : Option (List ℕ)) → behind_block bs ≡ o → is_white a ≡ false → (nat_eq a 47 && nat_eq b 47) ≡ false → (nat_eq a 47 && nat_eq b 42) ≡ true
    → ((x : List ℕ) → length x ≤ f → Gap x (skipped f x) × Solid (skipped f x)) → suc (length bs) ≤ f
    → Gap (a ∷ b ∷ bs) (behind_or (λ x. skipped f x) o (a ∷ b ∷ bs)) × Solid (behind_or (λ x. skipped f x) o (a ∷ b ∷ bs))
skipped_block f a b bs None e n m t ih h = (none, (n, no_slashes a b m, λ p q. e))
skipped_block f a b bs (Some x) e n m t ih h =
    let i = ih x (omega (arith, behind_fewer bs x e)) in
    let q = star a b t in
    let w : a ∷ b ∷ bs ≡ 47 ∷ 42 ∷ bs = cc (q.0, q.1) in
    (subst (λ z. Gap z (skipped f x)) (sym w) (block e i.0), i.1)

pub skipped_is : (f : ℕ) (text : List ℕ) → length text ≤ f → Gap text (skipped f text) × Solid (skipped f text)
unfolding skipped
skipped_is zero [] h = (none, tt)
skipped_is zero (a ∷ bs) h = absurd (omega arith)
skipped_is (suc f) [] h = (none, tt)
skipped_is (suc f) (a ∷ []) h = elim (cases_Bool (is_white a)) as (λ _. Gap (a ∷ []) (skipped (suc f) (a ∷ [])) × Solid (skipped (suc f) (a ∷ []))) [
  | inl t ↦
      let e : skipped (suc f) (a ∷ []) ≡ [] = rw t refl in
      rw e (white t none, tt)
  | inr n ↦
      let e : skipped (suc f) (a ∷ []) ≡ a ∷ [] = rw n refl in
      rw e (none, n)
]
skipped_is (suc f) (a ∷ b ∷ bs) h = elim (cases_Bool (is_white a)) as (λ _. Gap (a ∷ b ∷ bs) (skipped (suc f) (a ∷ b ∷ bs)) × Solid (skipped (suc f) (a ∷ b ∷ bs))) [
  | inl t ↦
      let e : skipped (suc f) (a ∷ b ∷ bs) ≡ skipped f (b ∷ bs) = rw t refl in
      let i = skipped_is f (b ∷ bs) (omega arith) in
      rw e (white t i.0, i.1)
  | inr n ↦ elim (cases_Bool (nat_eq a 47 && nat_eq b 47)) as (λ _. Gap (a ∷ b ∷ bs) (skipped (suc f) (a ∷ b ∷ bs)) × Solid (skipped (suc f) (a ∷ b ∷ bs))) [
    | inl t ↦
        let e : skipped (suc f) (a ∷ b ∷ bs) ≡ skipped f (drop (prefix_len is_in_line bs) bs) = rw (n, t) refl in
        let i = skipped_is f (drop (prefix_len is_in_line bs) bs) (omega (arith, length-drop (prefix_len is_in_line bs) bs)) in
        let q = slashes a b t in
        let w : a ∷ b ∷ bs ≡ 47 ∷ 47 ∷ bs = cc (q.0, q.1) in
        rw e (subst (λ x. Gap x (skipped f (drop (prefix_len is_in_line bs) bs))) (sym w) (line i.0), i.1)
    | inr m ↦ elim (cases_Bool (nat_eq a 47 && nat_eq b 42)) as (λ _. Gap (a ∷ b ∷ bs) (skipped (suc f) (a ∷ b ∷ bs)) × Solid (skipped (suc f) (a ∷ b ∷ bs))) [
      | inl t ↦
          let e : skipped (suc f) (a ∷ b ∷ bs) ≡ behind_or (λ x. skipped f x) (behind_block bs) (a ∷ b ∷ bs) = rw (n, m, t) refl in
          rw e (skipped_block f a b bs (behind_block bs) refl n m t (λ x l. skipped_is f x l) (omega arith))
      | inr k ↦
          let e : skipped (suc f) (a ∷ b ∷ bs) ≡ a ∷ b ∷ bs = rw (n, m, k) refl in
          rw e (none, (n, no_slashes a b m, λ p q. absurd (no_star a b k p q)))
    ]
  ]
]

pub left_is : {total : ℕ} {text : List ℕ} {ts : List Token} → Lexes total text ts → (f : ℕ) → length ts ≤ f → tokens_left f total text ≡ ts
unfolding tokens_left
left_is (finish g) zero h = absurd (omega arith)
left_is {total = total} {text = text} (finish g) (suc f) h =
    let i = skipped_is (length text) text (omega arith) in
    let e : skipped (length text) text ≡ [] = sym (one_gap g tt _ i.0 i.1) in
    ap (λ x. first_of total x (λ rest. tokens_left f total rest)) e
left_is (next g s k l) zero h = absurd (omega arith)
left_is {total = total} {text = text} (next {bs = bs} {a = a} {n = n} {kind = y} {tokens = more} g s k l) (suc f) h =
    let i = skipped_is (length text) text (omega arith) in
    let e : skipped (length text) text ≡ a ∷ bs = sym (one_gap g s _ i.0 i.1) in
    let rest : tokens_left f total (drop n (a ∷ bs)) ≡ more = left_is l f (omega arith) in
    ap (λ x. first_of total x (λ rest. tokens_left f total rest)) e
    ∙ ap (λ x. placed total (a ∷ bs) x (λ rest. tokens_left f total rest)) k
    ∙ ap (λ m. record { span = span_at total (a ∷ bs) n; kind = y } ∷ m) rest
