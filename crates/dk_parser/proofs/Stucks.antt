-- How a fault inside a phrase is one of the phrase around it.
use Rattle.std.proofs.Common.{◌≡◌, ◌≢◌, ℕ, zero, suc, ◌+◌, ◌<◌, ◌≤◌, [], ◌∷◌, ◌++◌, length, Some, None, refl, ap, sym, ◌∙◌, subst, arith, append_assoc, add-one}
use Rattle.dk_base.specs.declared.span.Span.{Span}
use Rattle.dk_base.specs.declared.ty.Ty.{Ty}
use Rattle.dk_base.specs.declared.ty.Ty.TheVariants.{Unsigned}
use Rattle.dk_base.specs.declared.operator.Unary.{Unary}
use Rattle.dk_base.specs.declared.operator.Binary.{Binary}
use Rattle.dk_base.specs.declared.operator.Scaling.{Scaling}
use Rattle.dk_lexer.specs.declared.token.Token.{Token}
use Rattle.dk_lexer.specs.declared.token.Symbol.TheVariants.{Less, LessEqual, Greater, GreaterEqual, EqualEqual, NotEqual}
use Rattle.dk_grammar.specs.Reading.{Phrases, Alike, Stuck, Clear}
use Rattle.dk_grammar.proofs.Clears.{append_nil}
use Rattle.dk_grammar.proofs.Stucks.{stuck_behind, stuck_within, stuck_here, front_alike}
use Rattle.dk_parser.specs.declared.classes.Ahead.{Ahead}
use Rattle.dk_parser.specs.declared.halt.Halt.{Halt}
use Rattle.dk_parser.specs.declared.halt.Halt.TheVariants.{Faulty, OutOfMemory}
use Rattle.dk_parser.specs.declared.terminal.Mark.{Mark}
use Rattle.source_words.specs.declared.word.Keyword.TheVariants.{As}
use Rattle.dk_parser.specs.declared.terminal.Terminal.{Terminal}
use Rattle.dk_parser.specs.declared.terminal.Terminal.TheVariants.{Keyword, TypeWord as Type', Number as Number', Symbol as Sym}
use Rattle.dk_parser.specs.declared.tree.Step.{Step}
use Rattle.dk_parser.specs.declared.tree.Binding.{Binding}
use Rattle.dk_parser.specs.declared.tree.Binding.TheVariants.{Operator, Stops}
use Rattle.dk_parser.specs.declared.tree.Start.TheVariants.{Prefix}
use Rattle.dk_parser.specs.Tree.{Tree, number, unary, binary, scale, cast, span_of}
use Rattle.dk_parser.specs.Marks.{mark_terminal}
use Rattle.dk_parser.specs.Terminals.{terminal}
use Rattle.dk_parser.specs.Words.{over}
use Rattle.dk_parser.specs.Grammar.{Tokens, Closed, Nonterminal, comparison, level, steps, primary, enclosed, Phrase, single, compared, prefixed, plain, chain, done, operand, suffixed, suffix, closed, constant, binding, start, scaled, converted}
use Rattle.dk_parser.specs.Front.{rank, bound}
use Rattle.dk_parser.specs.Ahead.{IsAhead}
use Rattle.dk_parser.specs.Faults.{Halts, Ends, Parsed, Suffix}
use Rattle.dk_parser.proofs.Tokens.{mark_token, number_token, type_token}
use Rattle.dk_parser.proofs.Resumes.{Resumes}
use Rattle.dk_parser.proofs.Laws.{local, unique, moved, steps_first, not_prefixed, tail_is, clash, no_suffix, same_step, rank_is}

pub halts : {U V : Type 0} {P : Phrases Token U} {Q : Phrases Token V} {mid ts : Tokens} → ((at : Tokens) → Stuck P mid at → Stuck Q ts at) → (e : Halt) → Halts P mid e → Halts Q ts e
halts f (Faulty s) h = f s.now h
halts f OutOfMemory h = tt

-- what begins alike binds alike
pub alike_rank : (at w : Tokens) → Alike at w → rank at ≡ rank w
alike_rank [] w a = rw a refl
alike_rank (t ∷ at) w a = rw a.1 refl

-- Each form has a phrase, of one number.
live_enclosed : (w : Tokens) → (tok : Token) × (e : Tree) × Phrase enclosed (tok ∷ w) e w
live_enclosed w = let t = number_token 0 in (t.0, number t.0.span 0, constant {v = 0} (rw t.1 refl))

live_level : (n : ℕ) (w : Tokens) → (tok : Token) × (e : Tree) × Phrase (level n) (tok ∷ w) e w
live_level zero w = let p = live_enclosed w in (p.0, p.1, plain (closed p.2))
live_level (suc n) w = let p = live_level n w in (p.0, p.1, chain p.2 done)

-- A phrase with nothing after it, with more after it.
extend : {f : Nonterminal} {ts : Tokens} {e : Tree} → Phrase f ts e [] → (w : Tokens) → Phrase f (ts ++ w) e w
extend {f = f} {ts = ts} {e = e} p w =
    let i = local p in
    let h : ts ≡ i.own = i.whole ∙ append_nil i.own in
    subst (λ x. Phrase f (x ++ w) e w) (sym h) (i.again w)

-- Where a phrase ends, whatever follows it.
pub ends_there : {f : Nonterminal} {ts w r : Tokens} {e e' : Tree} → Phrase f ts e w → bound f < rank w → Phrase f ts e' r → bound f < rank r → w ≡ r
ends_there {r = r} {e' = e'} p h q k = (unique p h e' r q k).1

mark_rank : (m : Mark) (t : Token) (r : Tokens) → binding (mark_terminal m) ≡ Stops → terminal t ≡ mark_terminal m → rank (t ∷ r) ≡ 10
mark_rank m t r b e = rw (e, b) refl

pair_same : {U V : Type 0} (a b : U × V) → a.0 ≡ b.0 → a.1 ≡ b.1 → a ≡ b
pair_same a b p q = ap (λ x. (x, a.1)) p ∙ ap (λ x. (b.0, x)) q

-- An expression and the mark after it.
pub clear_closed : (m : Mark) → binding (mark_terminal m) ≡ Stops → Clear (Closed m)
clear_closed m b =
    let t = mark_token m in
    let l = live_level 7 (t.0 ∷ []) in
    record {
      own = λ {ts = ts} {rest = rest} {v = v} p.
          let i = local p.1 in
          (i.own ++ (p.0 ∷ []), i.whole ∙ sym (append_assoc i.own (p.0 ∷ []) rest), λ w. (p.0, subst (λ x. Phrase comparison x v.0 (p.0 ∷ w)) (sym (append_assoc i.own (p.0 ∷ []) w)) (i.again (p.0 ∷ w)), p.2, p.3));
      one = λ {a = x} {b = y} {v = v} {w = w} p q.
          let e = mark_rank m p.0 x b p.2 in
          let f = mark_rank m q.0 y b q.2 in
          let i = unique p.1 (omega (arith, e)) w.0 (q.0 ∷ y) q.1 (omega (arith, f)) in
          let same : p.0 ≡ q.0 = cc (i.1) in
          (pair_same v w i.0 (sym p.3 ∙ ap (λ z. z.span) same ∙ q.3), cc (i.1));
      some = (l.0 ∷ t.0 ∷ [], (l.1, t.0.span), (t.0, single l.2, t.1, refl));
    }

pub closed_first : (m : Mark) (ts at : Tokens) → binding (mark_terminal m) ≡ Stops → Stuck (Ends comparison) ts at → Stuck (Closed m) ts at
closed_first m ts at b k =
    let t = mark_token m in
    stuck_behind {P = Ends comparison} {Q = Closed m} []
    (λ w u p. (t.0 ∷ [], (u, t.0.span), (t.0, extend p.0 (t.0 ∷ []), t.1, refl)))
    (λ w r v a q. let e = mark_rank m q.0 r b q.2 in (v.0, q.0 ∷ r, (q.1, omega (arith, e))))
    k

-- an expression that is followed by another token than the mark
pub closed_second : (m : Mark) (ts rest : Tokens) (e : Tree) → binding (mark_terminal m) ≡ Stops → Parsed comparison ts e rest
    → ((tok : Token) (r : Tokens) → rest ≡ tok ∷ r → terminal tok ≡ mark_terminal m → ⊥) → Stuck (Closed m) ts rest
closed_second m ts rest e b p none =
    let i = local p.phrase in
    let t = mark_token m in
    record {
      taken = i.own;
      whole = i.whole;
      more = t.0 ∷ [];
      value = (e, t.0.span);
      begins = (t.0, i.again (t.0 ∷ []), t.1, refl);
      none = λ w r v a q.
          let k = mark_rank m q.0 r b q.2 in
          let like = alike_rank rest w a in
          let same : w ≡ q.0 ∷ r = ends_there (i.again w) (omega (arith, like, p.ends)) q.1 (omega (arith, k)) in
          let f = front_alike rest w r q.0 a same in
          none q.0 f.0 f.1 q.2;
    }

pub closed_whole : (m : Mark) (ts rest after : Tokens) (e : Tree) (tok : Token) → Parsed comparison ts e rest → rest ≡ tok ∷ after → terminal tok ≡ mark_terminal m
    → Closed m ts (e, tok.span) after
closed_whole m ts rest after e tok p w k = (tok, subst (λ x. Phrase comparison ts e x) w p.phrase, k, refl)

-- The first operand of a comparison.
comparison_front : {ts r : Tokens} {e : Tree} → Phrase comparison ts e r → 9 < rank r → (u : Tree) × (s : Tokens) × Ends (level 7) ts u s
comparison_front {r = r} {e = e} (single p) h = (e, r, (p, omega arith))
comparison_front (compared {mid = m} {l = l} {tok = t} p s q) h = (l, t ∷ m, (p, rw s (omega arith)))

pub comparison_first : (ts at : Tokens) → Stuck (Ends (level 7)) ts at → Stuck (Ends comparison) ts at
comparison_first ts at k =
    stuck_within {P = Ends (level 7)} {Q = Ends comparison} [] (λ w u p. (u, (single p.0, omega arith))) (λ w r v a q. comparison_front q.0 q.1) k

-- What follows a first operand and a comparison's operator.
comparison_out : {ts r : Tokens} {e : Tree} → Phrase comparison ts e r → 9 < rank r
    → (l : Tree) (tok : Token) (w : Tokens) (s : Step) → Phrase (level 7) ts l (tok ∷ w) → binding (terminal tok) ≡ Operator 8 s → (u : Tree) × Phrase (level 7) w u r
comparison_out (single p) h l tok w s q b =
    let i = ends_there q (rw b (omega arith)) p (omega arith) in absurd (clash _ _ _ _ _ (sym i) b h)
comparison_out (compared {mid = m} {r = x} {tok = t} p s' q') h l tok w s q b =
    let i = ends_there q (rw b (omega arith)) p (rw s' (omega arith)) in
    (x, moved refl (tail_is _ _ _ _ (sym i)) q')

-- After a comparison's operator, in a language whose ends are ends of a comparison.
pub comparison_second : (ts rest after at : Tokens) (l : Tree) (tok : Token) (o : Binary) → Parsed (level 7) ts l rest → rest ≡ tok ∷ after
    → binding (terminal tok) ≡ Operator 8 (Step.Operand o) → Stuck (Ends (level 7)) after at → Stuck (Ends comparison) ts at
comparison_second ts rest after at l tok o p e b k =
    let i = local p.phrase in
    let split : ts ≡ (i.own ++ (tok ∷ [])) ++ after = i.whole ∙ ap (λ x. i.own ++ x) e ∙ sym (append_assoc i.own (tok ∷ []) after) in
    rw split (stuck_within {P = Ends (level 7)} {Q = Ends comparison} (i.own ++ (tok ∷ []))
    (λ w u m. (binary (over (span_of l) (span_of u)) o l u, (rw append_assoc (compared (i.again (tok ∷ w)) b m.0), omega arith)))
    (λ w r v a q.
    let d = comparison_out (rw append_assoc at q.0) q.1 l tok w (Step.Operand o) (i.again (tok ∷ w)) b in
    let h = q.1 in
    (d.0, r, (d.1, omega (arith, h))))
    k)

-- A second comparison.
pub comparison_twice : (ts rest after behind : Tokens) (l r : Tree) (tok : Token) (o : Binary) → Parsed (level 7) ts l rest → rest ≡ tok ∷ after
    → binding (terminal tok) ≡ Operator 8 (Step.Operand o) → Parsed (level 7) after r behind → rank behind ≤ 9 → Stuck (Ends comparison) ts behind
comparison_twice ts rest after behind l r tok o p e b q h =
    let i = local p.phrase in
    let j = local q.phrase in
    let split : ts ≡ (i.own ++ (tok ∷ j.own)) ++ behind = i.whole ∙ ap (λ x. i.own ++ x) (e ∙ ap (λ x. tok ∷ x) j.whole) ∙ sym (append_assoc i.own (tok ∷ j.own) behind) in
    record {
      taken = i.own ++ (tok ∷ j.own);
      whole = split;
      more = [];
      value = binary (over (span_of l) (span_of r)) o l r;
      begins = (rw append_assoc (compared (i.again (tok ∷ (j.own ++ []))) b (j.again [])), omega arith);
      none = λ w s v a m.
          let d = comparison_out (rw append_assoc at m.0) m.1 l tok (j.own ++ w) (Step.Operand o) (i.again (tok ∷ (j.own ++ w))) b in
          let g = m.1 in
          let like = alike_rank behind w a in
          let same = ends_there (j.again w) (omega (arith, like, q.ends)) d.1 (omega (arith, g)) in
          omega (arith, like, ap rank same, g);
    }

pub comparison_single : (ts rest : Tokens) (l : Tree) → Parsed (level 7) ts l rest → 9 < rank rest → Parsed comparison ts l rest
comparison_single ts rest l p h = record { phrase = single p.phrase; ends = h; fewer = p.fewer }

pub comparison_whole : (ts rest after behind : Tokens) (l r : Tree) (tok : Token) (o : Binary) → Parsed (level 7) ts l rest → rest ≡ tok ∷ after
    → binding (terminal tok) ≡ Operator 8 (Step.Operand o) → Parsed (level 7) after r behind → 9 < rank behind
    → Parsed comparison ts (binary (over (span_of l) (span_of r)) o l r) behind
comparison_whole ts rest after behind l r tok o p e b q h = record {
  phrase = compared (subst (λ x. Phrase (level 7) ts l x) e p.phrase) b q.phrase;
  ends = h;
  fewer = omega (arith, p.fewer, q.fewer, ap (λ x. length x) e);
}

-- The first operand of a level.
level_front : {n : ℕ} {ts r : Tokens} {e : Tree} → Phrase (level (suc n)) ts e r → suc (suc n) < rank r → (u : Tree) × (s : Tokens) × Ends (level n) ts u s
level_front (chain {mid = m} {l = l} p q) h = (l, m, (p, steps_first q h))

pub level_first : (n : ℕ) (ts at : Tokens) → n < 8 → Stuck (Ends (level n)) ts at → Stuck (Ends (level (suc n))) ts at
level_first n ts at g k =
    stuck_within {P = Ends (level n)} {Q = Ends (level (suc n))} [] (λ w u p. (u, (chain p.0 done, omega (arith, g)))) (λ w r v a q. level_front q.0 q.1) k

level_out : {n : ℕ} {ts r : Tokens} {e : Tree} → Phrase (level (suc n)) ts e r → suc (suc n) < rank r
    → (l : Tree) (w : Tokens) → Phrase (level n) ts l w → suc n < rank w → Phrase (steps n l) w e r
level_out {n = n} (chain {mid = m} {l = l'} p q) h l w p' k =
    let i = unique p' k l' m p (steps_first q h) in
    moved (ap (λ x. steps n x) (sym i.0)) (sym i.1) q

pub level_second : (n : ℕ) (ts mid at : Tokens) (l : Tree) → Parsed (level n) ts l mid → Stuck (Ends (steps n l)) mid at → Stuck (Ends (level (suc n))) ts at
level_second n ts mid at l p k =
    let i = local p.phrase in
    rw i.whole (stuck_within {P = Ends (steps n l)} {Q = Ends (level (suc n))} i.own
    (λ w u m. (u, (chain (i.again w) m.0, m.1)))
    (λ w r v a q. let like = alike_rank mid w a in (v, r, (level_out q.0 q.1 l w (i.again w) (omega (arith, like, p.ends)), q.1)))
    k)

-- At a level that is written as another number.
pub level_first_at : (m n : ℕ) (ts : Tokens) (x : Halt) → m ≡ suc n → n < 8 → Halts (Ends (level n)) ts x → Halts (Ends (level m)) ts x
level_first_at m n ts x e g h = rw e (halts (λ at k. level_first n ts at g k) x h)

pub level_second_at : (m n : ℕ) (ts mid : Tokens) (l : Tree) (x : Halt) → m ≡ suc n → Parsed (level n) ts l mid → Halts (Ends (steps n l)) mid x → Halts (Ends (level m)) ts x
level_second_at m n ts mid l x e p h = rw e (halts (λ at k. level_second n ts mid at l p k) x h)

pub level_whole : (n : ℕ) (ts mid rest : Tokens) (l e : Tree) → Parsed (level n) ts l mid → Parsed (steps n l) mid e rest → Parsed (level (suc n)) ts e rest
level_whole n ts mid rest l e p q = record { phrase = chain p.phrase q.phrase; ends = q.ends; fewer = omega (arith, p.fewer, q.fewer) }

pub level_whole_at : (m n : ℕ) (ts mid rest : Tokens) (l x : Tree) → m ≡ suc n → Parsed (level n) ts l mid → Parsed (steps n l) mid x rest → Parsed (level m) ts x rest
level_whole_at m n ts mid rest l x e p q = rw e (level_whole n ts mid rest l x p q)

-- After an operator that expects an operand.
operand_out : {n : ℕ} {w r : Tokens} {l e : Tree} {tok : Token} {o : Binary} → Phrase (steps n l) (tok ∷ w) e r → suc (suc n) < rank r
    → binding (terminal tok) ≡ Operator (suc n) (Step.Operand o)
    → (x : Tree) × (m : Tokens) × Phrase (level n) w x m × (suc n < rank m) × Phrase (steps n (binary (over (span_of l) (span_of x)) o l x)) m e r
operand_out {w = w} {tok = t} done h b = absurd (omega (arith, rank_is t w _ _ b))
operand_out {n = n} {l = l} {o = o} (operand {mid = m} {r = x} s p q) h b =
    (x, m, p, steps_first q h, moved (cc (s, b)) refl q)
operand_out {l = l} (suffixed {word = x} s k q) h b = absurd (no_suffix l _ _ x _ (same_step _ _ _ _ _ s b) k)

-- After an operator that expects a number or a type.
suffix_out : {n : ℕ} {w r : Tokens} {l e : Tree} {tok : Token} {s : Step} → Phrase (steps n l) (tok ∷ w) e r → suc (suc n) < rank r
    → binding (terminal tok) ≡ Operator (suc n) s → ((o : Binary) → s ≢ Step.Operand o)
    → (x : Token) × (t : Tree) × (m : Tokens) × (w ≡ x ∷ m) × (suffix l s x ≡ Some t) × Phrase (steps n t) m e r
suffix_out {w = w} {tok = t} done h b other = absurd (omega (arith, rank_is t w _ _ b))
suffix_out (operand {o = o} s p q) h b other = absurd (other o (same_step _ _ _ _ _ b s))
suffix_out {l = l} (suffixed {mid = m} {m = t} {word = x} s k q) h b other =
    (x, t, m, refl, rw (same_step _ _ _ _ _ s b) at k, q)

pub resumes_start : (n : ℕ) (l : Tree) (ts : Tokens) → Resumes n l ts l ts
resumes_start n l ts = record { own = []; whole = refl; into = λ w r e p. p; out = λ w r e k p h. p; fewer = omega arith }

pub resumes_operand : (n : ℕ) (l0 l x : Tree) (ts rest after mid : Tokens) (tok : Token) (o : Binary) → Resumes n l0 ts l rest → rest ≡ tok ∷ after
    → binding (terminal tok) ≡ Operator (suc n) (Step.Operand o) → Parsed (level n) after x mid
    → Resumes n l0 ts (binary (over (span_of l) (span_of x)) o l x) mid
resumes_operand n l0 l x ts rest after mid tok o f e b p =
    let i = local p.phrase in
    let split : rest ≡ (tok ∷ i.own) ++ mid = e ∙ ap (λ y. tok ∷ y) i.whole in
    record {
      own = f.own ++ (tok ∷ i.own);
      whole = f.whole ∙ ap (λ y. f.own ++ y) split ∙ sym (append_assoc f.own (tok ∷ i.own) mid);
      into = λ w r t q. rw append_assoc (f.into (tok ∷ (i.own ++ w)) r t (operand b (i.again w) q));
      out = λ w r t k q h.
          let back = f.out (tok ∷ (i.own ++ w)) r t (rw (e, b) refl) (rw append_assoc at q) h in
          let d = operand_out back h b in
          let same = unique (i.again w) (rw k p.ends) d.0 d.1 d.2 d.3 in
          moved (cc (same.0)) (sym same.1) d.4;
      fewer = omega (arith, f.fewer, p.fewer, ap (λ y. length y) e);
    }

pub resumes_suffix : (n : ℕ) (l0 l m : Tree) (ts rest after mid : Tokens) (tok word : Token) (s : Step) → Resumes n l0 ts l rest → rest ≡ tok ∷ after
    → binding (terminal tok) ≡ Operator (suc n) s → ((o : Binary) → s ≢ Step.Operand o)
    → after ≡ word ∷ mid → suffix l s word ≡ Some m
    → Resumes n l0 ts m mid
resumes_suffix n l0 l m ts rest after mid tok word s f e b other g k =
    let split : rest ≡ (tok ∷ word ∷ []) ++ mid = e ∙ ap (λ y. tok ∷ y) g in
    record {
      own = f.own ++ (tok ∷ word ∷ []);
      whole = f.whole ∙ ap (λ y. f.own ++ y) split ∙ sym (append_assoc f.own (tok ∷ word ∷ []) mid);
      into = λ w r t q. rw append_assoc (f.into (tok ∷ word ∷ w) r t (suffixed b k q));
      out = λ w r t j q h.
          let back = f.out (tok ∷ word ∷ w) r t (rw (e, b) refl) (rw append_assoc at q) h in
          let d = suffix_out back h b other in
          moved (cc (d.3, d.4, k)) (sym (tail_is _ _ _ _ d.3)) d.5;
      fewer = omega (arith, f.fewer, ap (λ y. length y) split);
    }

pub resumes_stuck : (n : ℕ) (l0 l : Tree) (ts rest at : Tokens) → Resumes n l0 ts l rest → Stuck (Ends (steps n l)) rest at → Stuck (Ends (steps n l0)) ts at
resumes_stuck n l0 l ts rest at f k =
    rw f.whole (stuck_within {P = Ends (steps n l)} {Q = Ends (steps n l0)} f.own
    (λ w u m. (u, (f.into w [] u m.0, m.1)))
    (λ w r v a m. (v, r, (f.out w r v (sym (alike_rank rest w a)) m.0 m.1, m.1)))
    k)

pub resumes_done : (n : ℕ) (l0 l : Tree) (ts rest : Tokens) → Resumes n l0 ts l rest → suc (suc n) < rank rest → Parsed (steps n l0) ts l rest
resumes_done n l0 l ts rest f h = record { phrase = rw f.whole (f.into rest rest l done); ends = h; fewer = f.fewer }

pub stuck_operand : (n : ℕ) (l : Tree) (rest after at : Tokens) (tok : Token) (o : Binary) → n < 8 → rest ≡ tok ∷ after
    → binding (terminal tok) ≡ Operator (suc n) (Step.Operand o) → Stuck (Ends (level n)) after at → Stuck (Ends (steps n l)) rest at
stuck_operand n l rest after at tok o g e b k =
    rw e (stuck_within {P = Ends (level n)} {Q = Ends (steps n l)} (tok ∷ [])
    (λ w u m. (_, (operand b m.0 done, omega (arith, g))))
    (λ w r v a m. let d = operand_out m.0 m.1 b in (d.0, d.1, (d.2, d.3)))
    k)

pub stuck_suffix : (n : ℕ) (l : Tree) (rest after at : Tokens) (tok : Token) (s : Step) → n < 8 → rest ≡ tok ∷ after
    → binding (terminal tok) ≡ Operator (suc n) s → ((o : Binary) → s ≢ Step.Operand o)
    → Stuck (Suffix l s) after at → Stuck (Ends (steps n l)) rest at
stuck_suffix n l rest after at tok s g e b other k =
    rw e (stuck_within {P = Suffix l s} {Q = Ends (steps n l)} (tok ∷ [])
    (λ w u m. (u, (rw m.1 (suffixed b m.2 done), omega (arith, g))))
    (λ w r v a m. let d = suffix_out m.0 m.1 b other in (d.1, d.2, (d.0, d.3, d.4)))
    k)

-- A token that binds tighter than the level, where none is allowed.
tight : {n : ℕ} {ts r : Tokens} {l e : Tree} → Phrase (steps n l) ts e r → rank ts ≤ suc n → suc (suc n) < rank r → ⊥
tight done k h = omega (arith, k, h)
tight (operand {ts = m} {tok = t} s p q) k h = omega (arith, k, rank_is t m _ _ s)
tight (suffixed {mid = m} {tok = t} {word = x} s p q) k h = omega (arith, k, rank_is t (x ∷ m) _ _ s)

pub stuck_tight : (n : ℕ) (l : Tree) (rest : Tokens) → n < 8 → rank rest ≤ suc n → Stuck (Ends (steps n l)) rest rest
stuck_tight n l rest g k =
    stuck_here {P = Ends (steps n l)} rest [] l (done, omega (arith, g)) (λ w r v a m. tight m.0 (rw (sym (alike_rank rest w a)) k) m.1)

-- One token after an operator that expects a number or a type.
suffix_token : (l : Tree) (s : Step) → ((o : Binary) → s ≢ Step.Operand o) → (tok : Token) × (m : Tree) × (suffix l s tok ≡ Some m)
suffix_token l (Step.Operand o) other = absurd (other o refl)
suffix_token l (Step.Number o) other = let t = number_token 0 in (t.0, scale (over (span_of l) t.0.span) o l (record { span = t.0.span; value = 0 }), rw t.1 refl)
suffix_token l Step.Type other = let t = type_token in (t.0, cast (over (span_of l) t.0.span) l (record { span = t.0.span; ty = Unsigned 8 }), rw t.1 refl)

pub stuck_word : (l : Tree) (s : Step) (ts : Tokens) → ((o : Binary) → s ≢ Step.Operand o)
    → ((tok : Token) (r : Tokens) → ts ≡ tok ∷ r → suffix l s tok ≡ None) → Stuck (Suffix l s) ts ts
stuck_word l s ts other none =
    let t = suffix_token l s other in
    stuck_here {P = Suffix l s} ts (t.0 ∷ []) t.1 (t.0, refl, t.2)
    (λ w r v a m. let f = front_alike ts w r m.0 a m.1 in let e = none m.0 f.0 f.1 in cc (e, m.2))

pub no_number : (l : Tree) (o : Scaling) (at : Span) (t : Terminal) → ((v : ℕ) → t ≢ Number' v) → scaled l o at t ≡ None
no_number l o at (Number' v) h = absurd (h v refl)
no_number l o at _ h = refl

pub no_type : (l : Tree) (at : Span) (t : Terminal) → ((v : Ty) → t ≢ Type' v) → converted l at t ≡ None
no_type l at (Type' v) h = absurd (h v refl)
no_type l at _ h = refl

-- A primary expression with no operator before it.
plain_out : {ts r : Tokens} {e : Tree} → Phrase (level 0) ts e r → ((tok : Token) (s : Tokens) (o : Unary) → ts ≡ tok ∷ s → start (terminal tok) ≢ Prefix o) → Phrase primary ts e r
plain_out (plain p) other = p
plain_out (prefixed {ts = m} {tok = t} {o = o} u p) other = absurd (other t m o refl u)

pub stuck_plain : (ts at : Tokens) → ((tok : Token) (s : Tokens) (o : Unary) → ts ≡ tok ∷ s → start (terminal tok) ≢ Prefix o) → Stuck (Ends primary) ts at → Stuck (Ends (level 0)) ts at
stuck_plain ts at other k =
    stuck_within {P = Ends primary} {Q = Ends (level 0)} [] (λ w u p. (u, (plain p.0, p.1)))
    (λ w r v a m. (v, r, (plain_out m.0 (λ tok s o e. let f = front_alike ts w s tok a e in other tok f.0 o f.1), m.1))) k

prefixed_out : {w r : Tokens} {e : Tree} {tok : Token} {o : Unary} → Phrase (level 0) (tok ∷ w) e r → start (terminal tok) ≡ Prefix o → (u : Tree) × Phrase primary w u r
prefixed_out (prefixed {e = x} u p) s = (x, p)
prefixed_out (plain p) s = absurd (not_prefixed s p)

pub stuck_prefixed : (ts after at : Tokens) (tok : Token) (o : Unary) → ts ≡ tok ∷ after → start (terminal tok) ≡ Prefix o
    → Stuck (Ends primary) after at → Stuck (Ends (level 0)) ts at
stuck_prefixed ts after at tok o e s k =
    rw e (stuck_within {P = Ends primary} {Q = Ends (level 0)} (tok ∷ [])
    (λ w u m. (_, (prefixed s m.0, m.1))) (λ w r v a m. let d = prefixed_out m.0 s in (d.0, r, (d.1, m.1))) k)

pub plain_whole : (ts rest : Tokens) (e : Tree) → Parsed primary ts e rest → Parsed (level 0) ts e rest
plain_whole ts rest e p = record { phrase = plain p.phrase; ends = p.ends; fewer = p.fewer }

pub prefixed_whole : (ts after rest : Tokens) (e : Tree) (tok : Token) (o : Unary) → ts ≡ tok ∷ after → start (terminal tok) ≡ Prefix o → Parsed primary after e rest
    → Parsed (level 0) ts (unary (over tok.span (span_of e)) o e) rest
prefixed_whole ts after rest e tok o w s p = record { phrase = rw w (prefixed s p.phrase); ends = p.ends; fewer = omega (arith, p.fewer, ap (λ x. length x) w) }

pub with_suc : (x : Binding) (n : ℕ) (s : Step) → x ≡ Operator (n + 1) s → x ≡ Operator (suc n) s
with_suc x n s h = rw add-one at h

pub not_end : (n : ℕ) (ts : Tokens) (x : Ahead) → IsAhead n ts x → x ≢ Ahead.End → rank ts ≤ suc n
not_end n ts (Ahead.Operand o after) h e = let w = h.whole in omega (arith, ap rank w, rank_is h.tok after.now _ _ h.binds)
not_end n ts (Ahead.Suffix s after) h e = let w = h.operates.whole in omega (arith, ap rank w, rank_is h.operates.tok after.now _ _ h.operates.binds)
not_end n ts Ahead.Tighter h e = omega (arith, h)
not_end n ts Ahead.End h e = absurd (e refl)

-- An operator of the last level expects an operand.
pub eight_operand : (t : Terminal) (s : Step) → binding t ≡ Operator 8 s → ((o : Binary) → s ≢ Step.Operand o) → ⊥
eight_operand (Keyword As) s e h = cc
eight_operand (Sym Less) s e h = h _ (sym (same_step _ _ _ _ _ refl e))
eight_operand (Sym LessEqual) s e h = h _ (sym (same_step _ _ _ _ _ refl e))
eight_operand (Sym Greater) s e h = h _ (sym (same_step _ _ _ _ _ refl e))
eight_operand (Sym GreaterEqual) s e h = h _ (sym (same_step _ _ _ _ _ refl e))
eight_operand (Sym EqualEqual) s e h = h _ (sym (same_step _ _ _ _ _ refl e))
eight_operand (Sym NotEqual) s e h = h _ (sym (same_step _ _ _ _ _ refl e))
eight_operand _ s e h = cc
