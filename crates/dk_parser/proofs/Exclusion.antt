-- Tokens have one fault.
use Rattle.std.proofs.Common.{◌≡◌, ◌≢◌, ◌≤◌, inl, inr, ℕ, suc, [], ◌∷◌, ◌++◌, length, Some, refl, ap, sym, subst, ◌∙◌, arith}
use Rattle.dk_base.specs.declared.span.Span.{Span}
use Rattle.dk_lexer.specs.declared.token.Token.{Token}
use Rattle.dk_lexer.specs.declared.token.Symbol.TheVariants.{Open}
use Rattle.dk_grammar.proofs.Faulty.{one_faulty, none_faulty}
use Rattle.dk_parser.specs.declared.terminal.Terminal.TheVariants.{Symbol as Sym}
use Rattle.dk_parser.specs.declared.whole.ParseError.{ParseError}
use Rattle.dk_parser.specs.declared.whole.ParseError.TheVariants.{Nest, Syntax, Depth, OutOfMemory}
use Rattle.dk_parser.specs.Terminals.{terminal}
use Rattle.dk_parser.specs.Grammar.{Tokens}
use Rattle.dk_parser.specs.Nest.{unclosed, PassesAt}
use Rattle.dk_parser.specs.Judged.{IsProgram, StandsAt, IsFaultyAt, IsDeepAt, Faults, first_deep}
use Rattle.dk_parser.proofs.Ending.{one_program, not_both}

-- a bracket is not both the 129th unclosed one and one of at most 128
not_above : (n : ℕ) (t : Token) → n ≡ 128 → terminal t ≡ Sym Open → unclosed n (terminal t) ≤ 128 → ⊥
not_above n t e o h = let k : suc n ≤ 128 = rw o at h in omega (arith, e, k)

one_passes : (n : ℕ) (ts : Tokens) (a b : Span) → PassesAt n ts a → PassesAt n ts b → a ≡ b
one_passes n [] a b p q = absurd p
one_passes n (t ∷ ts) a b (inl p) (inl q) = p.2 ∙ sym q.2
one_passes n (t ∷ ts) a b (inl p) (inr q) = absurd (not_above n t p.0 p.1 q.0)
one_passes n (t ∷ ts) a b (inr p) (inl q) = absurd (not_above n t q.0 q.1 p.0)
one_passes n (t ∷ ts) a b (inr p) (inr q) = one_passes (unclosed n (terminal t)) ts a b p.1 q.1

same_token : (p q x y : Tokens) (a b : Token) → length p ≡ length q → p ++ (a ∷ x) ≡ q ++ (b ∷ y) → a ≡ b
same_token [] [] x y a b n e = cc
same_token [] (t ∷ q) x y a b n e = absurd (omega (arith, n))
same_token (t ∷ p) [] x y a b n e = absurd (omega (arith, n))
same_token (t ∷ p) (u ∷ q) x y a b n e = let k : p ++ (a ∷ x) ≡ q ++ (b ∷ y) = cc in same_token p q x y a b (omega (arith, n)) k

one_place : (ts : Tokens) (j k : ℕ) (a b : Span) → j ≡ k → StandsAt ts j a → StandsAt ts k b → a ≡ b
one_place ts j k a b e s t =
    sym s.is_there ∙ ap (λ x. x.span) (same_token s.before t.before s.after t.after s.tok t.tok (s.index ∙ e ∙ sym t.index) (sym s.whole ∙ t.whole)) ∙ t.is_there

one_faulty_at : (ts : Tokens) (a b : Span) → IsFaultyAt ts a → IsFaultyAt ts b → a ≡ b
one_faulty_at ts a b f g = one_place ts f.index g.index a b (one_faulty IsProgram ts f.index g.index f.faulty g.faulty) f.stands g.stands

one_deep : (ts : Tokens) (a b : Span) → IsDeepAt ts a → IsDeepAt ts b → a ≡ b
one_deep ts a b d e =
    let h : first_deep e.program.definitions ≡ Some a = subst (λ x. first_deep x.definitions ≡ Some a) (one_program ts d.program e.program d.derives e.derives) d.first in
    let k : Some a ≡ Some b = sym h ∙ e.first in
    cc

not_faulty : (ts : Tokens) (a b : Span) → IsDeepAt ts a → IsFaultyAt ts b → ⊥
not_faulty ts a b d f = none_faulty IsProgram ts f.index (d.program, d.derives) f.faulty

pub one_fault : (ts : Tokens) (f g : ParseError) → Faults ts f → Faults ts g → f ≢ OutOfMemory → g ≢ OutOfMemory → f ≡ g
one_fault ts OutOfMemory g p q m n = absurd (m refl)
one_fault ts f OutOfMemory p q m n = absurd (n refl)
one_fault ts (Nest a) (Nest b) p q m n = ap Nest (one_passes 0 ts a b p q)
one_fault ts (Nest a) (Syntax b) p q m n = absurd (not_both 0 ts a q.0 p)
one_fault ts (Nest a) (Depth b) p q m n = absurd (not_both 0 ts a q.0 p)
one_fault ts (Syntax a) (Nest b) p q m n = absurd (not_both 0 ts b p.0 q)
one_fault ts (Syntax a) (Syntax b) p q m n = ap Syntax (one_faulty_at ts a b p.1 q.1)
one_fault ts (Syntax a) (Depth b) p q m n = absurd (not_faulty ts b a q.1 p.1)
one_fault ts (Depth a) (Nest b) p q m n = absurd (not_both 0 ts b p.0 q)
one_fault ts (Depth a) (Syntax b) p q m n = absurd (not_faulty ts a b p.1 q.1)
one_fault ts (Depth a) (Depth b) p q m n = ap Depth (one_deep ts a b p.1 q.1)
