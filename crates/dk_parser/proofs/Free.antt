-- The end of the text is in no phrase.
use Rattle.std.proofs.Common.{◌≡◌, List, Bool, ℕ, [], ◌∷◌, ◌++◌, refl, ap, sym, ◌∙◌, ◌≢◌, Some, None}
use Rattle.dk_lexer.specs.declared.token.Token.{Token}
use Rattle.dk_lexer.specs.declared.token.Symbol.{Symbol}
use Rattle.dk_parser.specs.declared.terminal.Terminal.TheVariants.{EndOfText, Symbol as Sym}
use Rattle.dk_parser.specs.declared.tree.Step.{Step}
use Rattle.dk_parser.specs.declared.tree.Start.{Start}
use Rattle.dk_parser.specs.declared.tree.Start.TheVariants.{Nothing}
use Rattle.dk_parser.specs.declared.tree.Binding.TheVariants.{Operator, Stops}
use Rattle.dk_parser.specs.Tree.{Tree}
use Rattle.dk_parser.specs.Terminals.{terminal}
use Rattle.dk_parser.specs.Grammar.{Tokens, Closed, Nonterminal, Phrase, single, compared, prefixed, plain, chain, done, operand, suffixed, suffix, closed, reading, constant, bracket, pair, absolute, saturate, choice, binding, start}
use Rattle.dk_parser.proofs.Laws.{joined, tail_is}
use Rattle.dk_base.specs.declared.span.Span.{Span}
use Rattle.dk_lexer.specs.declared.token.Symbol.TheVariants.{Open, Close, Comma}
use Rattle.dk_grammar.specs.Reading.{Phrases, One, Then, Done}
use Rattle.dk_parser.specs.declared.single.Turn.{Turn}
use Rattle.dk_parser.specs.declared.single.Turn.TheVariants as turn
use Rattle.dk_parser.specs.declared.terminal.Terminal.{Terminal}
use Rattle.source_words.specs.declared.word.Keyword.TheVariants.{X, Y}
use Rattle.dk_parser.specs.declared.terminal.Mark.{Mark}
use Rattle.dk_parser.specs.declared.terminal.Mark.TheVariants.{Reserved, Sign}
use Rattle.dk_parser.specs.declared.tree.Literal.{Literal}
use Rattle.dk_parser.specs.declared.tree.Name.{Name}
use Rattle.dk_parser.specs.declared.tree.TypeWord.{TypeWord}
use Rattle.dk_parser.specs.Marks.{mark_terminal}
use Rattle.dk_parser.specs.Words.{Gives, IsMark, AName, ALiteral, AType, name, name_at, literal, literal_at, type_word, type_at, sign_of, spelling}
use Rattle.dk_parser.specs.Words as words
use Rattle.dk_parser.specs.Reads.{Turns, AfterTurn, Moved, Unclamped, Reads, plain as plain', clamped}
use Rattle.dk_parser.specs.Ended.{Ended}

-- no token of these is the end of the text
abbrev pub Free : Tokens → Type 0
Free [] = Unit {0}
Free (t ∷ ts) = (terminal t ≢ EndOfText) × Free ts

free_append : (p q : Tokens) → Free p → Free q → Free (p ++ q)
free_append [] q a b = b
free_append (t ∷ p) q a b = (a.0, free_append p q a.1 b)

operator_free : (t : Token) (n : ℕ) (s : Step) → binding (terminal t) ≡ Operator n s → terminal t ≢ EndOfText
operator_free t n s b e = let h : Stops ≡ Operator n s = sym (ap binding e) ∙ b in cc

start_free : (t : Token) (x : Start) → start (terminal t) ≡ x → x ≢ Nothing → terminal t ≢ EndOfText
start_free t x b other e = other (sym b ∙ ap start e)

symbol_free : (t : Token) (s : Symbol) → terminal t ≡ Sym s → terminal t ≢ EndOfText
symbol_free t s b e = cc

suffix_none : (l : Tree) (s : Step) (t : Token) → terminal t ≡ EndOfText → suffix l s t ≡ None
suffix_none l (Step.Operand o) t e = refl
suffix_none l (Step.Number o) t e = rw e refl
suffix_none l Step.Type t e = rw e refl

suffix_free : (l m : Tree) (s : Step) (t : Token) → suffix l s t ≡ Some m → terminal t ≢ EndOfText
suffix_free l m s t k e = let h = suffix_none l s t e in cc (h, k)

pub record Front (ts rest : Tokens) : Type 0 where
  pub own : Tokens
  pub whole : ts ≡ own ++ rest
  pub free : Free own

pub one : (t : Token) (ts rest : Tokens) → terminal t ≢ EndOfText → Front ts rest → Front (t ∷ ts) rest
one t ts rest h f = record { own = t ∷ f.own; whole = ap (λ x. t ∷ x) f.whole; free = (h, f.free) }

pub both : (ts mid rest : Tokens) → Front ts mid → Front mid rest → Front ts rest
both ts mid rest f g = record { own = f.own ++ g.own; whole = joined _ _ _ f.own g.own f.whole g.whole; free = free_append f.own g.own f.free g.free }

nothing : (r : Tokens) → Front r r
nothing r = record { own = []; whole = refl; free = tt }

-- No phrase of the language has the end of the text in it.
pub record IsFree {V : Type 0} (P : Phrases Token V) : Type 0 where
  pub free : {ts rest : Tokens} {v : V} → P ts v rest → Front ts rest

pub free_one : {V : Type 0} (R : Token → V → Type 0) → ((t : Token) (v : V) → R t v → terminal t ≢ EndOfText) → IsFree (One R)
free_one R n = record { free = λ {rest = r} {v = v} p. rw p.1 (one p.0 r r (n p.0 v p.2) (nothing r)) }

pub free_then : {U V : Type 0} {P : Phrases Token U} {Q : U → Phrases Token V} → IsFree P → ((u : U) → IsFree (Q u)) → IsFree (Then P Q)
free_then f g = record { free = λ {ts = ts} {rest = r} p. both ts p.1 r (f.free p.2) ((g p.0).free p.3) }

pub free_done : {V : Type 0} (v : V) → IsFree (Done {T = Token} v)
free_done v = record { free = λ {rest = r} p. rw p.1 (nothing r) }

pub free_mark : (m : Mark) → mark_terminal m ≢ EndOfText → IsFree (words.Sign m)
free_mark m n = free_one (IsMark m) (λ t v p e. n (sym p.0 ∙ e))

no_name : (k : Terminal) (s : Span) (l : List ℕ) (n : Name) → name_at k s l ≡ Some n → k ≢ EndOfText
no_name EndOfText s l n e h = cc (e)
no_name _ s l n e h = cc (h)

no_literal : (k : Terminal) (s : Span) (n : Literal) → literal_at k s ≡ Some n → k ≢ EndOfText
no_literal EndOfText s n e h = cc (e)
no_literal _ s n e h = cc (h)

no_type : (k : Terminal) (s : Span) (n : TypeWord) → type_at k s ≡ Some n → k ≢ EndOfText
no_type EndOfText s n e h = cc (e)
no_type _ s n e h = cc (h)

pub free_name : IsFree AName
free_name = free_one (Gives name) (λ t v p. no_name (terminal t) t.span (spelling t.kind) v p)

pub free_literal : IsFree ALiteral
free_literal = free_one (Gives literal) (λ t v p. no_literal (terminal t) t.span v p)

type_free : (t : Token) (v : TypeWord) → type_word t ≡ Some v → terminal t ≢ EndOfText
type_free t v e = no_type (terminal t) t.span v e

pub free_type : IsFree AType
free_type = free_one (Gives type_word) type_free

no_sign : (k : Terminal) (b : Bool) → sign_of k ≡ Some b → k ≢ EndOfText
no_sign EndOfText b e h = cc (e)
no_sign _ b e h = cc (h)

no_turn : (m : Mark) → mark_terminal m ≢ EndOfText → (t : Token) (v : Turn) → Turns m t v → terminal t ≢ EndOfText
no_turn m n t (turn.Mark s) p e = n (sym p.0 ∙ e)
no_turn m n t (turn.Signed b) p e = no_sign (terminal t) b p e

free_after : (m : Mark) → mark_terminal m ≢ EndOfText → (v : Turn) → IsFree (AfterTurn m v)
free_after m n (turn.Mark s) = free_done _
free_after m n (turn.Signed b) = free_then free_literal (λ l. free_then (free_mark m n) (λ s. free_done _))

free_moved : (m : Mark) → mark_terminal m ≢ EndOfText → IsFree (Moved m)
free_moved m n = free_then (free_one (Turns m) (no_turn m n)) (λ v. free_after m n v)

free_unclamped : IsFree Unclamped
free_unclamped =
    free_then free_name (λ n. free_then (free_mark (Sign Open) (λ e. cc)) (λ a. free_then (free_mark (Reserved X) (λ e. cc)) (λ b. free_then (free_moved (Sign Comma) (λ e. cc)) (λ x.
    free_then (free_mark (Reserved Y) (λ e. cc)) (λ c. free_then (free_moved (Sign Close) (λ e. cc)) (λ y. free_done _))))))

free_reads : {ts r : Tokens} {e : Tree} → Reads ts e r → Front ts r
free_reads (plain' p) = free_unclamped.free p
free_reads {r = r} (clamped {edge = a} {clamp = b} p f g) = both _ _ _ (free_unclamped.free p) (one a _ r (λ e. cc (e, f)) (one b r r (λ e. cc (e, g)) (nothing r)))

-- the end of the text is in no phrase
front : {f : Nonterminal} {ts rest : Tokens} {e : Tree} → Phrase f ts e rest → Front ts rest
front (single p) = front p
front (compared {mid = m} {tok = t} p s q) = both _ _ _ (front p) (one t m _ (operator_free t _ _ s) (front q))
front (prefixed {tok = t} u p) = one t _ _ (start_free t _ u (λ k. cc)) (front p)
front (plain p) = front p
front (chain p q) = both _ _ _ (front p) (front q)
front done = nothing _
front (operand {tok = t} s p q) = one t _ _ (operator_free t _ _ s) (both _ _ _ (front p) (front q))
front (suffixed {l = l} {m = m} {tok = t} {word = w} {s = s} b k q) = one t _ _ (operator_free t _ _ b) (one w _ _ (suffix_free l m s w k) (front q))
front (closed p) = front p
front (reading p) = free_reads p
front (constant {rest = r} {tok = t} n) = one t r r (start_free t _ n (λ k. cc)) (nothing _)
front (bracket {rest = r} {opening = o} {close = c} a p b) = one o _ _ (start_free o _ a (λ k. cc)) (both _ _ _ (front p) (one c r r (symbol_free c _ b) (nothing _)))
front (pair {rest = r} {tok = t} {opening = o} {comma = m} {close = c} f a p d q b) =
    one t _ _ (start_free t _ f (λ k. cc)) (one o _ _ (symbol_free o _ a) (both _ _ _ (front p) (one m _ _ (symbol_free m _ d) (both _ _ _ (front q) (one c r r (symbol_free c _ b) (nothing _))))))
front (absolute {rest = r} {tok = t} {opening = o} {close = c} f a p b) =
    one t _ _ (start_free t _ f (λ k. cc)) (one o _ _ (symbol_free o _ a) (both _ _ _ (front p) (one c r r (symbol_free c _ b) (nothing _))))
front (saturate {rest = r} {tok = t} {opening = o} {comma = m} {word = v} {close = c} f a p d u b) =
    one t _ _ (start_free t _ f (λ k. cc)) (one o _ _ (symbol_free o _ a) (both _ _ _ (front p) (one m _ _ (symbol_free m _ d) (one v _ _ (type_free v _ u) (one c r r (symbol_free c _ b) (nothing r))))))
front (choice {rest = r} {tok = t} {opening = o} {comma = m} {second = n} {close = c} f a p d q g l b) =
    one t _ _ (start_free t _ f (λ k. cc)) (one o _ _ (symbol_free o _ a) (both _ _ _ (front p) (one m _ _ (symbol_free m _ d) (both _ _ _ (front q) (one n _ _ (symbol_free n _ g) (both _ _ _ (front l) (one c r r (symbol_free c _ b) (nothing r))))))))

pub free_closed : (m : Mark) → mark_terminal m ≢ EndOfText → IsFree (Closed m)
free_closed m n = record { free = λ {rest = r} p. both _ _ _ (front p.1) (one p.0 r r (λ e. n (sym p.2 ∙ e)) (nothing r)) }

-- after the end of the text comes nothing
pub ended_rest : (p : Tokens) (t : Token) (rest : Tokens) → Ended (p ++ (t ∷ rest)) → terminal t ≡ EndOfText → rest ≡ []
ended_rest [] t [] h e = refl
ended_rest [] t (u ∷ rest) h e = absurd (h.0 e)
ended_rest (x ∷ []) t rest h e = ended_rest [] t rest h.1 e
ended_rest (x ∷ y ∷ p) t rest h e = ended_rest (y ∷ p) t rest h.1 e

-- an ended list that goes on to a list that is free up to its last token does not go on
pub no_more : (ts more own : Tokens) (tok : Token) → Ended ts → Free own → ts ++ more ≡ own ++ (tok ∷ []) → more ≡ []
no_more [] more own tok h f e = absurd h
no_more (t ∷ []) more [] tok h f e = cc
no_more (t ∷ []) more (o ∷ own) tok h f e = let k : t ≡ o = cc in absurd (f.0 (sym (ap terminal k) ∙ h))
no_more (t ∷ u ∷ ts) more [] tok h f e = let k : u ∷ (ts ++ more) ≡ [] = cc in absurd (cc)
no_more (t ∷ u ∷ ts) more (o ∷ own) tok h f e = no_more (u ∷ ts) more own tok h.1 f.1 (tail_is t o _ _ e)
