-- What follows a comment is shorter.
use Rattle.std.proofs.Common.{◌≡◌, ℕ, ◌≤◌, List, [], ◌∷◌, length, Some, true, ◌&&◌, nat_eq, arith, refl, sym, ◌∙◌, inl, inr, drop, subst, length-drop}
use Rattle.std.proofs.lemmas.Bool.{cases_Bool}
use Rattle.verilog_text.specs.Lexis.{behind_block, Gap, none, white, line, block}
use Rattle.std.specs.List.{prefix_len}
use Rattle.verilog_text.specs.Bytes.{is_white, is_in_line}

pub behind_fewer : (text rest : List ℕ) → behind_block text ≡ Some rest → length rest ≤ length text
behind_fewer [] rest e = absurd (cc)
behind_fewer (a ∷ []) rest e = absurd (cc)
behind_fewer (a ∷ b ∷ bs) rest e = elim (cases_Bool (nat_eq a 42 && nat_eq b 47)) as (λ _. length rest ≤ length (a ∷ b ∷ bs)) [
  | inl t ↦
      let found : behind_block (a ∷ b ∷ bs) ≡ Some bs = rw t refl in
      let same : bs ≡ rest = cc (e, found) in
      rw (sym same) (omega arith)
  | inr f ↦
      let later : behind_block (a ∷ b ∷ bs) ≡ behind_block (b ∷ bs) = rw f refl in
      let h = behind_fewer (b ∷ bs) rest (sym later ∙ e) in
      omega (arith, h)
]

pub gap_white : (text after r : List ℕ) (b : ℕ) → text ≡ b ∷ after → is_white b ≡ true → Gap after r → Gap text r
gap_white text after r b e w g = rw e (white w g)

pub gap_line : (text inner behind r : List ℕ) → text ≡ 47 ∷ 47 ∷ inner → behind ≡ drop (prefix_len is_in_line inner) inner → Gap behind r → Gap text r
gap_line text inner behind r e b g = rw e (line (subst (λ x. Gap x r) b g))

pub gap_block : (text inner behind r : List ℕ) → text ≡ 47 ∷ 42 ∷ inner → behind_block inner ≡ Some behind → Gap behind r → Gap text r
gap_block text inner behind r e b g = rw e (block b g)

pub gap_fewer : {text rest : List ℕ} → Gap text rest → length rest ≤ length text
gap_fewer none = omega arith
gap_fewer (white w g) = let h = gap_fewer g in omega (arith, h)
gap_fewer (line {text = t} g) = let h = gap_fewer g in omega (arith, h, length-drop (prefix_len is_in_line t) t)
gap_fewer (block {text = t} {behind = b} e g) = let h = gap_fewer g in omega (arith, h, behind_fewer t b e)
