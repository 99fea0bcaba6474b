-- Laws of the grammar: a phrase does not depend on what follows it, and what follows it determines where it ends.
use Rattle.std.proofs.Common.{◌≡◌, ℕ, suc, ◌<◌, [], ◌∷◌, ◌++◌, Some, refl, ap, sym, ◌∙◌, subst, arith, append_assoc}
use Rattle.dk_base.specs.declared.operator.Unary.{Unary}
use Rattle.dk_base.specs.declared.operator.Binary.{Binary}
use Rattle.dk_lexer.specs.declared.token.Token.{Token}
use Rattle.dk_parser.specs.declared.tree.Step.{Step}
use Rattle.dk_parser.specs.declared.tree.Start.{Start}
use Rattle.dk_parser.specs.declared.tree.Start.TheVariants.{Prefix, Image}
use Rattle.dk_parser.specs.declared.tree.Binding.{Binding}
use Rattle.dk_parser.specs.declared.tree.Binding.TheVariants.{Operator}
use Rattle.dk_parser.specs.Tree.{Tree}
use Rattle.dk_parser.specs.Terminals.{terminal}
use Rattle.dk_parser.specs.Front.{rank, bound}
use Rattle.dk_parser.specs.Reads.{Reads}
use Rattle.dk_parser.specs.Faults.{Opens}
use Rattle.dk_parser.proofs.ReadLaws.{reads_own, reads_one, reads_first}
use Rattle.dk_parser.specs.Grammar.{Tokens, Nonterminal, steps, primary, enclosed, Phrase, single, compared, prefixed, plain, chain, done, operand, suffixed, suffix, closed, reading, constant, bracket, pair, absolute, saturate, choice, binding, start}

-- A phrase is its own tokens, whatever follows.
pub record Local (f : Nonterminal) (ts : Tokens) (e : Tree) (rest : Tokens) : Type 0 where
  pub own : Tokens
  pub whole : ts ≡ own ++ rest
  pub again : (w : Tokens) → Phrase f (own ++ w) e w

-- the front of a front
pub joined : (a b c p q : Tokens) → a ≡ p ++ b → b ≡ q ++ c → a ≡ (p ++ q) ++ c
joined a b c p q g h = g ∙ ap (λ x. p ++ x) h ∙ sym (append_assoc p q c)

pub local : {f : Nonterminal} {ts rest : Tokens} {e : Tree} → Phrase f ts e rest → Local f ts e rest
local (single p) = let i = local p in record { own = i.own; whole = i.whole; again = λ w. single (i.again w) }
local (compared {tok = k} p s q) =
    let i = local p in
    let j = local q in
    record {
      own = i.own ++ (k ∷ j.own);
      whole = joined _ _ _ i.own (k ∷ j.own) i.whole (ap (λ x. k ∷ x) j.whole);
      again = λ w. rw append_assoc (compared (i.again (k ∷ (j.own ++ w))) s (j.again w));
    }
local (prefixed {tok = k} u p) = let i = local p in record { own = k ∷ i.own; whole = ap (λ x. k ∷ x) i.whole; again = λ w. prefixed u (i.again w) }
local (plain p) = let i = local p in record { own = i.own; whole = i.whole; again = λ w. plain (i.again w) }
local (chain p q) =
    let i = local p in
    let j = local q in
    record {
      own = i.own ++ j.own;
      whole = joined _ _ _ i.own j.own i.whole j.whole;
      again = λ w. rw append_assoc (chain (i.again (j.own ++ w)) (j.again w));
    }
local done = record { own = []; whole = refl; again = λ w. done }
local (operand {tok = k} s p q) =
    let i = local p in
    let j = local q in
    record {
      own = k ∷ (i.own ++ j.own);
      whole = ap (λ x. k ∷ x) (joined _ _ _ i.own j.own i.whole j.whole);
      again = λ w. rw append_assoc (operand s (i.again (j.own ++ w)) (j.again w));
    }
local (suffixed {tok = k} {word = m} s n q) =
    let j = local q in
    record { own = k ∷ m ∷ j.own; whole = ap (λ x. k ∷ m ∷ x) j.whole; again = λ w. suffixed s n (j.again w) }
local (closed p) = let i = local p in record { own = i.own; whole = i.whole; again = λ w. closed (i.again w) }
local (reading p) = let i = reads_own p in record { own = i.0; whole = i.1; again = λ w. reading (i.2 w) }
local (constant {tok = k} n) = record { own = k ∷ []; whole = refl; again = λ w. constant n }
local (bracket {opening = o} {close = c} a p b) =
    let i = local p in
    record {
      own = o ∷ (i.own ++ (c ∷ []));
      whole = ap (λ x. o ∷ x) (joined _ _ _ i.own (c ∷ []) i.whole refl);
      again = λ w. rw append_assoc (bracket a (i.again (c ∷ w)) b);
    }
local (pair {tok = t} {opening = o} {comma = m} {close = c} f a p d q b) =
    let i = local p in
    let j = local q in
    record {
      own = t ∷ o ∷ (i.own ++ (m ∷ (j.own ++ (c ∷ []))));
      whole = ap (λ x. t ∷ o ∷ x) (joined _ _ _ i.own (m ∷ (j.own ++ (c ∷ []))) i.whole (ap (λ x. m ∷ x) (joined _ _ _ j.own (c ∷ []) j.whole refl)));
      again = λ w. rw (append_assoc, append_assoc) (pair f a (i.again (m ∷ (j.own ++ (c ∷ w)))) d (j.again (c ∷ w)) b);
    }
local (absolute {tok = t} {opening = o} {close = c} f a p b) =
    let i = local p in
    record {
      own = t ∷ o ∷ (i.own ++ (c ∷ []));
      whole = ap (λ x. t ∷ o ∷ x) (joined _ _ _ i.own (c ∷ []) i.whole refl);
      again = λ w. rw append_assoc (absolute f a (i.again (c ∷ w)) b);
    }
local (saturate {tok = t} {opening = o} {comma = m} {word = v} {close = c} f a p d u b) =
    let i = local p in
    record {
      own = t ∷ o ∷ (i.own ++ (m ∷ v ∷ c ∷ []));
      whole = ap (λ x. t ∷ o ∷ x) (joined _ _ _ i.own (m ∷ v ∷ c ∷ []) i.whole refl);
      again = λ w. rw append_assoc (saturate f a (i.again (m ∷ v ∷ c ∷ w)) d u b);
    }
local (choice {tok = t} {opening = o} {comma = m} {second = n} {close = c} f a p d q g r b) =
    let i = local p in
    let j = local q in
    let k = local r in
    record {
      own = t ∷ o ∷ (i.own ++ (m ∷ (j.own ++ (n ∷ (k.own ++ (c ∷ []))))));
      whole = ap (λ x. t ∷ o ∷ x) (joined _ _ _ i.own (m ∷ (j.own ++ (n ∷ (k.own ++ (c ∷ []))))) i.whole
          (ap (λ x. m ∷ x) (joined _ _ _ j.own (n ∷ (k.own ++ (c ∷ []))) j.whole (ap (λ x. n ∷ x) (joined _ _ _ k.own (c ∷ []) k.whole refl)))));
      again = λ w. rw (append_assoc, append_assoc, append_assoc) (choice f a (i.again (m ∷ (j.own ++ (n ∷ (k.own ++ (c ∷ w)))))) d (j.again (n ∷ (k.own ++ (c ∷ w)))) g (k.again (c ∷ w)) b);
    }

pub steps_first : {n : ℕ} {ts rest : Tokens} {l e : Tree} → Phrase (steps n l) ts e rest → suc (suc n) < rank rest → suc n < rank ts
steps_first done h = omega arith
steps_first (operand s p q) h = rw s (omega arith)
steps_first (suffixed s m q) h = rw s (omega arith)

-- the same tree, and the same rest
abbrev pub Same : Tree → Tokens → Tree → Tokens → Type 0
Same e r e' r' = (e ≡ e') × (r ≡ r')

abbrev pub moved : {f f' : Nonterminal} {ts ts' r : Tokens} {e : Tree} → f ≡ f' → ts ≡ ts' → Phrase f ts e r → Phrase f' ts' e r
moved {f = f} {ts' = v} {r = r} {e = e} a b p = subst (λ x. Phrase x v e r) a (subst (λ x. Phrase f x e r) b p)

pub head_is : (a b : Token) (x y : Tokens) → a ∷ x ≡ b ∷ y → a ≡ b
head_is a b x y h = cc

pub tail_is : (a b : Token) (x y : Tokens) → a ∷ x ≡ b ∷ y → x ≡ y
tail_is a b x y h = cc

pub rank_is : (t : Token) (m : Tokens) (n : ℕ) (x : Step) → binding (terminal t) ≡ Operator n x → rank (t ∷ m) ≡ suc n
rank_is t m n x s = rw s refl

pub clash : (a : Tokens) (t : Token) (m : Tokens) (n : ℕ) (x : Step) → a ≡ t ∷ m → binding (terminal t) ≡ Operator n x → suc n < rank a → ⊥
clash a t m n x e s h = omega (arith, ap rank e, rank_is t m n x s)

pub no_suffix : (l m : Tree) (s : Step) (word : Token) (o : Binary) → s ≡ Step.Operand o → suffix l s word ≡ Some m → ⊥
no_suffix l m s w o e h = let k = rw e at h in cc

pub same_step : (x : Binding) (n m : ℕ) (s t : Step) → x ≡ Operator n s → x ≡ Operator m t → s ≡ t
same_step x n m s t a b = cc

-- An enclosed expression begins with a token that opens one.
pub enclosed_first : {ts r : Tokens} {e : Tree} → Phrase enclosed ts e r → (tok : Token) × (s : Tokens) × (ts ≡ tok ∷ s) × Opens (start (terminal tok))
enclosed_first (constant {rest = m} {tok = t} n) = (t, m, refl, rw n tt)
enclosed_first (bracket {ts = m} {opening = t} a p b) = (t, m, refl, rw a tt)
enclosed_first (pair {ts = m} {tok = t} {opening = u} f a p d q b) = (t, u ∷ m, refl, rw f tt)
enclosed_first (absolute {ts = m} {tok = t} {opening = u} f a p b) = (t, u ∷ m, refl, rw f tt)
enclosed_first (saturate {ts = m} {tok = t} {opening = u} f a p d v b) = (t, u ∷ m, refl, rw f tt)
enclosed_first (choice {ts = m} {tok = t} {opening = u} f a p d q g s b) = (t, u ∷ m, refl, rw f tt)

opens_here : (tok : Token) (s ts : Tokens) (k : Start) (t : Token) (m : Tokens) → ts ≡ tok ∷ s → Opens (start (terminal tok)) → ts ≡ t ∷ m → start (terminal t) ≡ k → Opens k
opens_here tok s ts k t m e o g h =
    let same : start (terminal tok) ≡ k = ap (λ x. start (terminal x)) (head_is tok t s m (sym e ∙ g)) ∙ h in
    subst Opens same o

-- No primary expression begins as a unary operator does, and no enclosed one as a read does.
pub not_prefixed : {ts r : Tokens} {tok : Token} {e : Tree} {o : Unary} → start (terminal tok) ≡ Prefix o → Phrase primary (tok ∷ ts) e r → ⊥
not_prefixed {ts = ts} {tok = t} {o = o} u (closed p) = let f = enclosed_first p in opens_here f.0 f.1 _ (Prefix o) t ts f.2 f.3 refl u
not_prefixed {ts = ts} {tok = t} {o = o} u (reading p) = let f = reads_first p in let same : start (terminal t) ≡ Image = ap (λ x. start (terminal x)) (head_is _ _ _ _ f.2) ∙ f.3 in cc (same, u)

pub not_read : {ts r r' : Tokens} {e e' : Tree} → Phrase enclosed ts e r → Reads ts e' r' → ⊥
not_read p q = let f = enclosed_first p in let g = reads_first q in opens_here f.0 f.1 _ Image g.0 g.1 f.2 f.3 g.2 g.3

pub unique : {f : Nonterminal} {ts r : Tokens} {e : Tree} → Phrase f ts e r → bound f < rank r
    → (e' : Tree) (r' : Tokens) → Phrase f ts e' r' → bound f < rank r' → Same e r e' r'
unique (single p) h e' r' (single q) k = unique p (omega arith) e' r' q (omega arith)
unique (single p) h e' r' (compared {mid = m} {l = l} {tok = t} q s u) k =
    let i = unique p (omega arith) l (t ∷ m) q (rw s (omega arith)) in absurd (clash _ _ _ _ _ i.1 s h)
unique (compared {mid = m} {l = l} {tok = t} p s u) h e' r' (single q) k =
    let i = unique p (rw s (omega arith)) e' r' q (omega arith) in absurd (clash _ _ _ _ _ (sym i.1) s k)
unique (compared {mid = m} {tok = t} p s u) h e' r' (compared {mid = m'} {l = l'} {r = x'} {tok = t'} p' s' u') k =
    let i = unique p (rw s (omega arith)) l' (t' ∷ m') p' (rw s' (omega arith)) in
    let j = unique u (omega arith) x' r' (moved refl (tail_is _ _ _ _ (sym i.1)) u') (omega arith) in
    (cc (i.0, j.0, s, s'), j.1)
unique (prefixed u p) h e' r' (prefixed u' p') k =
    let i = unique p (omega arith) _ _ p' (omega arith) in (cc (i.0, u, u'), i.1)
unique (prefixed u p) h e' r' (plain p') k = absurd (not_prefixed u p')
unique (plain p) h e' r' (prefixed u p') k = absurd (not_prefixed u p)
unique (plain p) h e' r' (plain p') k = unique p h e' r' p' k
unique (chain {n = n} p q) h e' r' (chain {mid = m'} {l = l'} p' q') k =
    let i = unique p (steps_first q h) l' m' p' (steps_first q' k) in
    unique q h e' r' (moved (ap (λ x. steps n x) (sym i.0)) (sym i.1) q') k
unique done h e' r' done k = (refl, refl)
unique done h e' r' (operand {ts = m} {tok = t} s p q) k = absurd (clash (t ∷ m) t m _ _ refl s h)
unique done h e' r' (suffixed {mid = m} {tok = t} {word = v} s n q) k = absurd (clash (t ∷ v ∷ m) t (v ∷ m) _ _ refl s h)
unique (operand {ts = m} {tok = t} s p q) h e' r' done k = absurd (clash (t ∷ m) t m _ _ refl s k)
unique (operand {n = n} {l = l} {r = x} s p q) h e' r' (operand {r = x'} {o = o'} s' p' q') k =
    let i = unique p (steps_first q h) _ _ p' (steps_first q' k) in
    unique q h e' r' (moved (cc (i.0, s, s')) (sym i.1) q') k
unique (operand {l = l} s p q) h e' r' (suffixed {word = x} s' n' q') k = absurd (no_suffix l _ _ x _ (same_step _ _ _ _ _ s' s) n')
unique (suffixed {mid = m} {tok = t} {word = v} s n q) h e' r' done k = absurd (clash (t ∷ v ∷ m) t (v ∷ m) _ _ refl s k)
unique (suffixed {l = l} {word = x} s n q) h e' r' (operand s' p' q') k = absurd (no_suffix l _ _ x _ (same_step _ _ _ _ _ s s') n)
unique (suffixed {l = l} {word = x} s n q) h e' r' (suffixed s' n' q') k =
    let same = ap (λ y. suffix l y x) (same_step _ _ _ _ _ s s') in
    unique q h e' r' (moved (cc (n, n', same)) refl q') k
unique (closed p) h e' r' (closed p') k = unique p (omega arith) e' r' p' (omega arith)
unique (closed p) h e' r' (reading p') k = absurd (not_read p p')
unique (reading p) h e' r' (closed p') k = absurd (not_read p' p)
unique (reading p) h e' r' (reading p') k = reads_one p h e' r' p' k
unique (constant n) h e' r' (constant n') k = (cc, refl)
unique (constant n) h e' r' (bracket a' p' b') k = absurd (cc)
unique (constant n) h e' r' (pair f' a' p' d' q' b') k = absurd (cc)
unique (constant n) h e' r' (absolute f' a' p' b') k = absurd (cc)
unique (constant n) h e' r' (saturate f' a' p' d' u' b') k = absurd (cc)
unique (constant n) h e' r' (choice f' a' p' d' q' g' s' b') k = absurd (cc)
unique (bracket a p b) h e' r' (constant n') k = absurd (cc)
unique (bracket {close = c} a p b) h e' r' (bracket {e = x'} {close = c'} a' p' b') k =
    let i = unique p (rw b (omega arith)) x' (c' ∷ r') p' (rw b' (omega arith)) in (cc (i.0, i.1), cc (i.1))
unique (bracket a p b) h e' r' (pair f' a' p' d' q' b') k = absurd (cc)
unique (bracket a p b) h e' r' (absolute f' a' p' b') k = absurd (cc)
unique (bracket a p b) h e' r' (saturate f' a' p' d' u' b') k = absurd (cc)
unique (bracket a p b) h e' r' (choice f' a' p' d' q' g' s' b') k = absurd (cc)
unique (pair f a p d q b) h e' r' (constant n') k = absurd (cc)
unique (pair f a p d q b) h e' r' (bracket a' p' b') k = absurd (cc)
unique (pair f a p d q b) h e' r' (pair {mid = m'} {a = x'} {b = y'} {comma = o'} {close = c'} f' a' p' d' q' b') k =
    let i = unique p (rw d (omega arith)) x' (o' ∷ m') p' (rw d' (omega arith)) in
    let j = unique q (rw b (omega arith)) y' (c' ∷ r') (moved refl (tail_is _ _ _ _ (sym i.1)) q') (rw b' (omega arith)) in
    (cc (i.0, j.0, j.1, f, f'), cc (j.1))
unique (pair f a p d q b) h e' r' (absolute f' a' p' b') k = absurd (cc)
unique (pair f a p d q b) h e' r' (saturate f' a' p' d' u' b') k = absurd (cc)
unique (pair f a p d q b) h e' r' (choice f' a' p' d' q' g' s' b') k = absurd (cc)
unique (absolute f a p b) h e' r' (constant n') k = absurd (cc)
unique (absolute f a p b) h e' r' (bracket a' p' b') k = absurd (cc)
unique (absolute f a p b) h e' r' (pair f' a' p' d' q' b') k = absurd (cc)
unique (absolute {close = c} f a p b) h e' r' (absolute {e = x'} {close = c'} f' a' p' b') k =
    let i = unique p (rw b (omega arith)) x' (c' ∷ r') p' (rw b' (omega arith)) in (cc (i.0, i.1), cc (i.1))
unique (absolute f a p b) h e' r' (saturate f' a' p' d' u' b') k = absurd (cc)
unique (absolute f a p b) h e' r' (choice f' a' p' d' q' g' s' b') k = absurd (cc)
unique (saturate f a p d u b) h e' r' (constant n') k = absurd (cc)
unique (saturate f a p d u b) h e' r' (bracket a' p' b') k = absurd (cc)
unique (saturate f a p d u b) h e' r' (pair f' a' p' d' q' b') k = absurd (cc)
unique (saturate f a p d u b) h e' r' (absolute f' a' p' b') k = absurd (cc)
unique (saturate f a p d u b) h e' r' (saturate {e = x'} {comma = m'} {word = w'} {close = c'} f' a' p' d' u' b') k =
    let i = unique p (rw d (omega arith)) x' (m' ∷ w' ∷ c' ∷ r') p' (rw d' (omega arith)) in (cc (i.0, i.1, u, u'), cc (i.1))
unique (saturate f a p d u b) h e' r' (choice f' a' p' d' q' g' s' b') k = absurd (cc)
unique (choice f a p d q g s b) h e' r' (constant n') k = absurd (cc)
unique (choice f a p d q g s b) h e' r' (bracket a' p' b') k = absurd (cc)
unique (choice f a p d q g s b) h e' r' (pair f' a' p' d' q' b') k = absurd (cc)
unique (choice f a p d q g s b) h e' r' (absolute f' a' p' b') k = absurd (cc)
unique (choice f a p d q g s b) h e' r' (saturate f' a' p' d' u' b') k = absurd (cc)
unique (choice f a p d q g s b) h e' r' (choice {mid = m'} {behind = n'} {c = x'} {a = y'} {b = z'} {comma = o'} {second = t'} {close = c'} f' a' p' d' q' g' s' b') k =
    let i = unique p (rw d (omega arith)) x' (o' ∷ m') p' (rw d' (omega arith)) in
    let j = unique q (rw g (omega arith)) y' (t' ∷ n') (moved refl (tail_is _ _ _ _ (sym i.1)) q') (rw g' (omega arith)) in
    let l = unique s (rw b (omega arith)) z' (c' ∷ r') (moved refl (tail_is _ _ _ _ (sym j.1)) s') (rw b' (omega arith)) in
    (cc (i.0, j.0, l.0, l.1), cc (l.1))
