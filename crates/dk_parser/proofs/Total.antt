-- Each list of tokens that ends as a text's has a program or a fault.
use Rattle.std.proofs.Common.{◌≡◌, ◌≢◌, ◌⊎◌, inl, inr, ℕ, zero, suc, ◌+◌, ◌-◌, ◌<◌, ◌≤◌, [], ◌∷◌, ◌++◌, List, length, length-append, Option, Some, None, Bool, true, false, nat_eq, refl, ap, sym, ◌∙◌, subst, arith}
use Rattle.std.proofs.lemmas.Bool.{cases_lt, cases_order}
use Rattle.dk_base.specs.declared.span.Span.{Span}
use Rattle.dk_base.specs.declared.operator.Binary.{Binary}
use Rattle.dk_base.specs.declared.operator.Unary.{Unary}
use Rattle.dk_lexer.specs.declared.token.Token.{Token}
use Rattle.dk_lexer.specs.declared.token.Symbol.TheVariants.{Open, Close, Comma}
use Rattle.dk_lexer.specs.Faithful.{IsEnded}
use Rattle.dk_grammar.specs.Reading.{Stuck, end, link}
use Rattle.dk_grammar.proofs.Stucks.{reached_stuck}
use Rattle.dk_grammar.proofs.Chains.{chain_element, chain_mark, chain_start, chain_next}
use Rattle.dk_parser.specs.declared.items.Lead.{Lead}
use Rattle.dk_parser.specs.declared.items.Lead.TheVariants as lead
use Rattle.source_words.specs.declared.word.Keyword.TheVariants as word
use Rattle.dk_parser.specs.declared.terminal.Terminal.{Terminal}
use Rattle.dk_parser.specs.declared.terminal.Terminal.TheVariants.{Symbol as Sym}
use Rattle.dk_parser.specs.declared.terminal.Mark.{Mark}
use Rattle.dk_parser.specs.declared.terminal.Mark.TheVariants as mark
use Rattle.dk_parser.specs.declared.tree.Binding.{Binding}
use Rattle.dk_parser.specs.declared.tree.Binding.TheVariants.{Operator, Clamps, Stops}
use Rattle.dk_parser.specs.declared.tree.Start.{Start}
use Rattle.dk_parser.specs.declared.tree.Start.TheVariants.{Prefix, Constant, Image, Bracket, Pair, Absolute, Saturate, Choice, Nothing}
use Rattle.dk_parser.specs.declared.tree.Step.{Step}
use Rattle.dk_parser.specs.declared.whole.ParseError.{ParseError}
use Rattle.dk_parser.specs.declared.whole.ParseError.TheVariants.{Nest, Syntax, Depth, OutOfMemory}
use Rattle.dk_parser.specs.Tree.{Tree, number, read, unary, binary, scale, cast, sat, select, span_of}
use Rattle.dk_parser.specs.Marks.{mark_terminal}
use Rattle.dk_parser.specs.Terminals.{terminal}
use Rattle.dk_parser.specs.Words.{over, Sign}
use Rattle.dk_parser.specs.Reads.{Unclamped, plain as unclamped'}
use Rattle.dk_parser.specs.Grammar.{Tokens, Closed, Nonterminal, comparison, level, steps, primary, Phrase, done, operand, suffixed, suffix, closed, reading, binding, start}
use Rattle.dk_parser.specs.Front.{rank}
use Rattle.dk_parser.specs.Faults.{Ends, Parsed, Inside, Opens}
use Rattle.dk_parser.specs.Depth.{depth, too_deep, below, here, first}
use Rattle.dk_parser.specs.Nest.{unclosed, StaysShallow, PassesAt}
use Rattle.dk_parser.specs.Programs.{Source, Definition, ADefinition}
use Rattle.dk_parser.specs.Items.{Item, AnItem, Items, next, is_end, AProgram}
use Rattle.dk_parser.specs.Judged.{Accepted, AreShallow, first_deep, Faults}
use Rattle.dk_parser.proofs.Laws.{local, rank_is}
use Rattle.dk_parser.proofs.Stucks as S
use Rattle.dk_parser.proofs.Insides as I
use Rattle.dk_parser.proofs.Edges.{not_edge}
use Rattle.dk_parser.proofs.Keeping.{clear_item, clear_items, live_items, no_next, other_next}
use Rattle.dk_parser.proofs.Ending.{derives, not_behind, faulty_at}
use Rattle.dk_parser.proofs.LexedEnd.{ended_as}
use Rattle.dk_parser.proofs.Readers.{Read, Reader, Decides, no_longer, then_reader, done_reader, mark_reader, front, name_reader, literal_reader, type_reader, is_open, is_close, is_comma, is_size, is_input, is_let, is_end_word, is_edge, is_clamp, unclamped, an_input, declared, header}

-- a phrase of the form that nothing continues, or where the tokens are stuck
abbrev Parse : Nonterminal → Tokens → Type 0
Parse f ts = ((e : Tree) × (rest : Tokens) × Parsed f ts e rest) ⊎ ((at : Tokens) × Stuck (Ends f) ts at)

-- the form is parsed in each list of fewer than n tokens
abbrev Parses : Nonterminal → ℕ → Type 0
Parses f n = (ts : Tokens) → length ts < n → Parse f ts

shorter : {f : Nonterminal} {ts rest : Tokens} {e : Tree} → Phrase f ts e rest → length rest ≤ length ts
shorter {rest = rest} p =
    let i = local p in
    let long : length (i.own ++ rest) ≡ length i.own + length rest = length-append i.own rest in
    let whole = ap (λ (x : Tokens). length x) i.whole in
    omega (arith, long, whole)

-- An expression and the mark after it.
closed_read : (m : Mark) → Decides m → binding (mark_terminal m) ≡ Stops → (ts : Tokens) → Parse comparison ts → Read (Closed m) ts
closed_read m d b ts (inr bad) = inr (bad.0, S.closed_first m ts bad.0 b bad.1)
closed_read m d b ts (inl good) = by good.1 good.2
  where
    by : (rest : Tokens) → Parsed comparison ts good.0 rest → Read (Closed m) ts
    by [] p = inr ([], S.closed_second m ts [] good.0 b p (λ tok r w k. cc))
    by (t ∷ after) p = elim (d (terminal t)) [
      | inl is ↦ inl ((good.0, t.span), after, S.closed_whole m ts (t ∷ after) after good.0 t p refl is)
      | inr other ↦ inr (t ∷ after, S.closed_second m ts (t ∷ after) good.0 b p (λ tok r w k. let same : t ≡ tok = cc in other (ap terminal same ∙ k)))
    ]

closed_reader : {n : ℕ} (m : Mark) → Decides m → binding (mark_terminal m) ≡ Stops → Parses comparison n → Reader n (Closed m)
closed_reader m d b p = record { clear = S.clear_closed m b; reads = λ ts lt. closed_read m d b ts (p ts lt) }

-- After the first token of an enclosed expression.
inside : {n : ℕ} → Parses comparison n → (k : Start) → Opens k → (s : Span) → Reader n (Inside k s)
inside p (Constant v) o s = done_reader _
inside p Bracket o s = then_reader (closed_reader (mark.Sign Close) is_close refl p) (λ a. done_reader _)
inside p (Pair op) o s =
    then_reader (mark_reader (mark.Sign Open) is_open) (λ a. then_reader (closed_reader (mark.Sign Comma) is_comma refl p) (λ b. then_reader (closed_reader (mark.Sign Close) is_close refl p) (λ c. done_reader _)))
inside p Absolute o s = then_reader (mark_reader (mark.Sign Open) is_open) (λ a. then_reader (closed_reader (mark.Sign Close) is_close refl p) (λ c. done_reader _))
inside p Saturate o s =
    then_reader (mark_reader (mark.Sign Open) is_open) (λ a. then_reader (closed_reader (mark.Sign Comma) is_comma refl p) (λ b. then_reader type_reader (λ t. then_reader (mark_reader (mark.Sign Close) is_close) (λ c. done_reader _))))
inside p Choice o s =
    then_reader (mark_reader (mark.Sign Open) is_open) (λ a. then_reader (closed_reader (mark.Sign Comma) is_comma refl p) (λ b. then_reader (closed_reader (mark.Sign Comma) is_comma refl p) (λ c.
    then_reader (closed_reader (mark.Sign Close) is_close refl p) (λ d. done_reader _))))
inside p (Prefix op) o s = absurd o
inside p Image o s = absurd o
inside p Nothing o s = absurd o

-- A read.
reading_of : (ts rest : Tokens) (e : Tree) → Phrase primary ts e rest → 1 < rank rest → Parse primary ts
reading_of ts rest e p h = inl (e, rest, record { phrase = p; ends = h; fewer = shorter p })

image : (t : Token) (after : Tokens) → start (terminal t) ≡ Image → Read Unclamped (t ∷ after) → Parse primary (t ∷ after)
image t after s (inr bad) = inr (bad.0, I.stuck_unclamped (t ∷ after) after bad.0 t refl s bad.1)
image t after s (inl good) = by good.1 good.2
  where
    ts : Tokens
    ts = t ∷ after

    clamps : (edge : Token) (mid : Tokens) → Unclamped ts good.0 (edge ∷ mid) → terminal edge ≡ mark_terminal (mark.Reserved word.Edge) → Read (Sign (mark.Reserved word.Clamp)) mid → Parse primary ts
    clamps edge mid p is (inr bad) = inr (bad.0, I.stuck_clamp ts (edge ∷ mid) mid bad.0 good.0 edge p refl is bad.1)
    clamps edge mid p is (inl (z, behind, (clamp, whole, (kind, same)))) = elim (cases_lt 1 (rank behind)) [
      | inl lt ↦ reading_of ts behind _ (reading (I.clamped_whole ts (edge ∷ mid) mid behind good.0 edge clamp p refl is whole kind)) lt
      | inr most ↦ inr (behind, I.stuck_twice ts (edge ∷ mid) mid behind good.0 edge clamp p refl is whole kind most)
    ]

    by : (rest : Tokens) → Unclamped ts good.0 rest → Parse primary ts
    by [] p = reading_of ts [] _ (reading (unclamped' p)) (omega arith)
    by (edge ∷ mid) p = elim (is_edge (terminal edge)) [
      | inl is ↦ clamps edge mid p is ((mark_reader {n = suc (length mid)} (mark.Reserved word.Clamp) is_clamp).reads mid (omega arith))
      | inr other ↦ reading_of ts (edge ∷ mid) _ (reading (unclamped' p)) (not_edge (edge ∷ mid) mid edge (terminal edge) (front edge mid) other)
    ]

-- A primary expression, over expressions in fewer tokens.
opened : {n : ℕ} → Parses comparison n → (t : Token) (after : Tokens) (k : Start) → start (terminal t) ≡ k → Opens k → length after < n → Parse primary (t ∷ after)
opened p t after k s o lt = by ((inside p k o t.span).reads after lt)
  where
    by : Read (Inside k t.span) after → Parse primary (t ∷ after)
    by (inr bad) = inr (bad.0, I.stuck_inside (t ∷ after) after bad.0 t k refl s o bad.1)
    by (inl (e, rest, q)) =
        let whole = I.primary_whole (t ∷ after) after rest e t k refl s q in
        elim (cases_lt 1 (rank rest)) [
          | inl lt ↦ reading_of (t ∷ after) rest e (closed whole) lt
          | inr most ↦ inr (rest, I.stuck_edge (t ∷ after) rest e whole most)
        ]

primary_of : (n : ℕ) → Parses comparison n → Parses primary (suc n)
primary_of n p [] lt = inr ([], I.stuck_nothing [] (λ tok s k e g o. cc))
primary_of n p (t ∷ after) lt = by (start (terminal t)) refl
  where
    less : length after < n
    less = omega (arith, lt)

    none : (k : Start) → start (terminal t) ≡ k → (Opens k ⊎ (k ≡ Image) → ⊥) → Parse primary (t ∷ after)
    none k s refused = inr (t ∷ after, I.stuck_start (t ∷ after) after t (terminal t) k (front t after) (sym s) refused)

    by : (k : Start) → start (terminal t) ≡ k → Parse primary (t ∷ after)
    by Image s = image t after s ((unclamped {n = suc (suc (length after))}).reads (t ∷ after) (omega arith))
    by (Prefix op) s = none (Prefix op) s (I.prefix_not (Prefix op) op refl)
    by Nothing s = none Nothing s (I.nothing_not Nothing refl)
    by (Constant v) s = opened p t after (Constant v) s tt less
    by Bracket s = opened p t after Bracket s tt less
    by (Pair op) s = opened p t after (Pair op) s tt less
    by Absolute s = opened p t after Absolute s tt less
    by Saturate s = opened p t after Saturate s tt less
    by Choice s = opened p t after Choice s tt less

-- A primary expression, with an operator before it or with none.
plain_of : (ts : Tokens) → ((tok : Token) (s : Tokens) (o : Unary) → ts ≡ tok ∷ s → start (terminal tok) ≢ Prefix o) → Parse primary ts → Parse (level 0) ts
plain_of ts other (inr bad) = inr (bad.0, S.stuck_plain ts bad.0 other bad.1)
plain_of ts other (inl (e, rest, p)) = inl (e, rest, S.plain_whole ts rest e p)

prefix_of : (t : Token) (after : Tokens) (o : Unary) → start (terminal t) ≡ Prefix o → Parse primary after → Parse (level 0) (t ∷ after)
prefix_of t after o s (inr bad) = inr (bad.0, S.stuck_prefixed (t ∷ after) after bad.0 t o refl s bad.1)
prefix_of t after o s (inl (e, rest, p)) = inl (_, rest, S.prefixed_whole (t ∷ after) after rest e t o refl s p)

is_prefix : (k : Start) → ((o : Unary) × (k ≡ Prefix o)) ⊎ ((o : Unary) → k ≢ Prefix o)
is_prefix (Prefix o) = inl (o, refl)
is_prefix _ = inr (λ o e. cc)

unary_of : (n : ℕ) → Parses primary n → Parses (level 0) n
unary_of n p [] lt = plain_of [] (λ tok s o e. absurd (let no : ⊥ = cc in no)) (p [] lt)
unary_of n p (t ∷ after) lt = elim (is_prefix (start (terminal t))) [
  | inl is ↦ prefix_of t after is.0 is.1 (p after (omega (arith, lt)))
  | inr other ↦ plain_of (t ∷ after) (λ tok s o e k. let same : t ≡ tok = cc in other o (ap (λ x. start (terminal x)) same ∙ k)) (p (t ∷ after) lt)
]

-- What follows a first operand, in lists of at most n tokens.
module _ (n m : ℕ) (small : m < 7) (p : Parses (level m) n) where
  ends_here : (l : Tree) (ts : Tokens) → suc (suc m) < rank ts → Parse (steps m l) ts
  ends_here l ts h = inl (l, ts, record { phrase = done; ends = h; fewer = omega arith })

  tight_here : (l : Tree) (ts : Tokens) → rank ts ≤ suc m → Parse (steps m l) ts
  tight_here l ts h = inr (ts, S.stuck_tight m l ts (omega (arith, small)) h)

  after_operand : (l r : Tree) (tok : Token) (after behind : Tokens) (o : Binary) → binding (terminal tok) ≡ Operator (suc m) (Step.Operand o) → Parsed (level m) after r behind
      → Parse (steps m (binary (over (span_of l) (span_of r)) o l r)) behind → Parse (steps m l) (tok ∷ after)
  after_operand l r tok after behind o b q (inr bad) =
      inr (bad.0, S.resumes_stuck m l _ (tok ∷ after) behind bad.0 (S.resumes_operand m l l r (tok ∷ after) (tok ∷ after) after behind tok o (S.resumes_start m l (tok ∷ after)) refl b q) bad.1)
  after_operand l r tok after behind o b q (inl (e, rest, k)) = inl (e, rest, record { phrase = operand b q.phrase k.phrase; ends = k.ends; fewer = omega (arith, q.fewer, k.fewer) })

  after_word : (l x : Tree) (tok word : Token) (mid : Tokens) (s : Step) → binding (terminal tok) ≡ Operator (suc m) s → ((o : Binary) → s ≢ Step.Operand o) → suffix l s word ≡ Some x
      → Parse (steps m x) mid → Parse (steps m l) (tok ∷ word ∷ mid)
  after_word l x tok word mid s b other k (inr bad) =
      inr (bad.0, S.resumes_stuck m l x (tok ∷ word ∷ mid) mid bad.0 (S.resumes_suffix m l l x (tok ∷ word ∷ mid) (tok ∷ word ∷ mid) (word ∷ mid) mid tok word s (S.resumes_start m l (tok ∷ word ∷ mid)) refl b other refl k) bad.1)
  after_word l x tok word mid s b other k (inl (e, rest, q)) = inl (e, rest, record { phrase = suffixed b k q.phrase; ends = q.ends; fewer = omega (arith, q.fewer) })

  no_word : (l : Tree) (tok : Token) (after : Tokens) (s : Step) → binding (terminal tok) ≡ Operator (suc m) s → ((o : Binary) → s ≢ Step.Operand o)
      → ((word : Token) (r : Tokens) → after ≡ word ∷ r → suffix l s word ≡ None) → Parse (steps m l) (tok ∷ after)
  no_word l tok after s b other none = inr (after, S.stuck_suffix m l (tok ∷ after) after after tok s (omega (arith, small)) refl b other (S.stuck_word l s after other none))

  module _ (fuel : ℕ) (again : (l : Tree) (ts : Tokens) → length ts < fuel → length ts < n → Parse (steps m l) ts) where
    word_of : (l : Tree) (tok : Token) (s : Step) → binding (terminal tok) ≡ Operator (suc m) s → ((o : Binary) → s ≢ Step.Operand o) → (after : Tokens) → length after < fuel → length after < n → Parse (steps m l) (tok ∷ after)
    word_of l tok s b other [] lt less = no_word l tok [] s b other (λ word r w. absurd (let no : ⊥ = cc in no))
    word_of l tok s b other (word ∷ mid) lt less = taken (suffix l s word) refl
      where
        taken : (o : Option Tree) → suffix l s word ≡ o → Parse (steps m l) (tok ∷ word ∷ mid)
        taken (Some x) k = after_word l x tok word mid s b other k (again x mid (omega (arith, lt)) (omega (arith, less)))
        taken None k = no_word l tok (word ∷ mid) s b other (λ w r e. let same : word ≡ w = cc in subst (λ x. suffix l s x ≡ None) same k)

    operand_of : (l : Tree) (tok : Token) (after : Tokens) (o : Binary) → length after < fuel → length after < n → binding (terminal tok) ≡ Operator (suc m) (Step.Operand o) → Parse (level m) after → Parse (steps m l) (tok ∷ after)
    operand_of l tok after o lt less b (inr bad) = inr (bad.0, S.stuck_operand m l (tok ∷ after) after bad.0 tok o (omega (arith, small)) refl b bad.1)
    operand_of l tok after o lt less b (inl (r, behind, q)) =
        let fewer = q.fewer in
        after_operand l r tok after behind o b q (again _ behind (omega (arith, lt, fewer)) (omega (arith, less, fewer)))

    step_of : (l : Tree) (tok : Token) (after : Tokens) (s : Step) → length after < fuel → length after < n → binding (terminal tok) ≡ Operator (suc m) s → Parse (steps m l) (tok ∷ after)
    step_of l tok after (Step.Operand o) lt less b = operand_of l tok after o lt less b (p after less)
    step_of l tok after (Step.Number o) lt less b = word_of l tok (Step.Number o) b (λ q e. cc) after lt less
    step_of l tok after Step.Type lt less b = word_of l tok Step.Type b (λ q e. cc) after lt less

    token_of : (l : Tree) (tok : Token) (after : Tokens) → length after < fuel → length after < n → (x : Binding) → binding (terminal tok) ≡ x → Parse (steps m l) (tok ∷ after)
    token_of l tok after lt less Stops b = ends_here l (tok ∷ after) (rw b (omega (arith, small)))
    token_of l tok after lt less Clamps b = tight_here l (tok ∷ after) (rw b (omega arith))
    token_of l tok after lt less (Operator k s) b =
        let is = rank_is tok after k s b in
        elim (cases_order k (suc m)) [
          | inl same ↦ step_of l tok after s lt less (b ∙ ap (λ q. Operator q s) same)
          | inr rest ↦ elim rest [ inl low ↦ tight_here l (tok ∷ after) (omega (arith, is, low)) | inr high ↦ ends_here l (tok ∷ after) (omega (arith, is, high)) ]
        ]

  steps_of : (fuel : ℕ) (l : Tree) (ts : Tokens) → length ts < fuel → length ts < n → Parse (steps m l) ts
  steps_of zero l ts lt less = absurd (omega (arith, lt))
  steps_of (suc fuel) l [] lt less = ends_here l [] (omega (arith, small))
  steps_of (suc fuel) l (tok ∷ after) lt less = token_of fuel (λ x us a b. steps_of fuel x us a b) l tok after (omega (arith, lt)) (omega (arith, less)) (binding (terminal tok)) refl

-- An expression whose operators are of this level of precedence at most.
level_next : (n m : ℕ) → m < 7 → Parses (level m) n → Parses (level (suc m)) n
level_next n m most p ts lt = by (p ts lt)
  where
    rest_of : (l : Tree) (mid : Tokens) → Parsed (level m) ts l mid → Parse (steps m l) mid → Parse (level (suc m)) ts
    rest_of l mid q (inr bad) = inr (bad.0, S.level_second m ts mid bad.0 l q bad.1)
    rest_of l mid q (inl (e, rest, k)) = inl (e, rest, S.level_whole m ts mid rest l e q k)

    by : Parse (level m) ts → Parse (level (suc m)) ts
    by (inr bad) = inr (bad.0, S.level_first m ts bad.0 (omega (arith, most)) bad.1)
    by (inl (l, mid, q)) = let fewer = q.fewer in rest_of l mid q (steps_of n m most p (suc (length mid)) l mid (omega arith) (omega (arith, fewer, lt)))

level_of : (n m : ℕ) → m ≤ 7 → Parses primary n → Parses (level m) n
level_of n zero most p ts lt = unary_of n p ts lt
level_of n (suc m) most p ts lt = level_next n m (omega (arith, most)) (λ us less. level_of n m (omega (arith, most)) p us less) ts lt

comparison_of : (n : ℕ) → Parses (level 7) n → Parses comparison n
comparison_of n p ts lt = by (p ts lt)
  where
    single_of : (l : Tree) (rest : Tokens) → Parsed (level 7) ts l rest → 9 < rank rest → Parse comparison ts
    single_of l rest q h = inl (l, rest, S.comparison_single ts rest l q h)

    second : (l : Tree) (tok : Token) (after : Tokens) (o : Binary) → Parsed (level 7) ts l (tok ∷ after) → binding (terminal tok) ≡ Operator 8 (Step.Operand o) → Parse (level 7) after → Parse comparison ts
    second l tok after o q b (inr bad) = inr (bad.0, S.comparison_second ts (tok ∷ after) after bad.0 l tok o q refl b bad.1)
    second l tok after o q b (inl (r, behind, k)) = elim (cases_lt 9 (rank behind)) [
      | inl more ↦ inl (_, behind, S.comparison_whole ts (tok ∷ after) after behind l r tok o q refl b k more)
      | inr most ↦ inr (behind, S.comparison_twice ts (tok ∷ after) after behind l r tok o q refl b k most)
    ]

    is_operand : (s : Step) → ((o : Binary) × (s ≡ Step.Operand o)) ⊎ ((o : Binary) → s ≢ Step.Operand o)
    is_operand (Step.Operand o) = inl (o, refl)
    is_operand (Step.Number o) = inr (λ q e. cc)
    is_operand Step.Type = inr (λ q e. cc)

    next_token : (l : Tree) (tok : Token) (after : Tokens) → Parsed (level 7) ts l (tok ∷ after) → (x : Binding) → binding (terminal tok) ≡ x → Parse comparison ts
    next_token l tok after q Stops b = single_of l (tok ∷ after) q (rw b (omega arith))
    next_token l tok after q Clamps b =
        let h = q.ends in
        let is : rank (tok ∷ after) ≡ 1 = rw b refl in
        absurd (omega (arith, h, is))
    next_token l tok after q (Operator k s) b =
        let h = q.ends in
        let is = rank_is tok after k s b in
        let fewer = q.fewer in
        elim (cases_lt 8 k) [
          | inl more ↦ single_of l (tok ∷ after) q (omega (arith, is, more))
          | inr most ↦
              let eight : k ≡ 8 = omega (arith, is, h, most) in
              let at = b ∙ ap (λ x. Operator x s) eight in
              elim (is_operand s) [
                | inl o ↦ second l tok after o.0 q (at ∙ ap (Operator 8) o.1) (p after (omega (arith, fewer, lt)))
                | inr other ↦ absurd (S.eight_operand (terminal tok) s at other)
              ]
        ]

    by : Parse (level 7) ts → Parse comparison ts
    by (inr bad) = inr (bad.0, S.comparison_first ts bad.0 bad.1)
    by (inl (l, [], q)) = single_of l [] q (omega arith)
    by (inl (l, tok ∷ after, q)) = next_token l tok after q (binding (terminal tok)) refl

expressions : (n : ℕ) → Parses comparison n
expressions zero ts lt = absurd (omega (arith, lt))
expressions (suc n) ts lt = comparison_of (suc n) (level_of (suc n) 7 (omega arith) (primary_of n (λ us less. expressions n us less))) ts lt

-- Items.
a_definition : {n : ℕ} (b : Bool) → Reader n (ADefinition b)
a_definition {n = n} b =
    then_reader name_reader (λ k. then_reader declared (λ d. then_reader header (λ h. then_reader (closed_reader (mark.Reserved word.End) is_end_word refl (expressions n)) (λ e. done_reader _))))

an_item : {n : ℕ} (l : Lead) → is_end l ≡ false → Reader n (AnItem l)
an_item lead.Input g = then_reader an_input (λ i. done_reader _)
an_item lead.Let g = then_reader (a_definition false) (λ d. done_reader _)
an_item lead.Inline g = then_reader (mark_reader (mark.Reserved word.Let) is_let) (λ s. then_reader (a_definition true) (λ d. done_reader _))
an_item lead.Output g = then_reader name_reader (λ n. done_reader _)
an_item lead.End g = absurd (let no : ⊥ = cc in no)

not_last : (l : Lead) → is_end l ≡ false → l ≢ lead.End
not_last lead.End g e = absurd (let no : ⊥ = cc in no)
not_last _ g e = cc

is_last : (l : Lead) → (l ≡ lead.End) ⊎ (is_end l ≡ false)
is_last lead.End = inl refl
is_last _ = inr refl

items_next : (l : Lead) → is_end l ≡ false → (ts : Tokens) → ((k : Lead) → is_end k ≡ false → (us : Tokens) → length us < length ts → Read (Items k) us) → Read (Items l) ts
items_next l g ts again = by ((an_item {n = suc (length ts)} l g).reads ts (omega arith))
  where
    going : (v : Item) (t : Token) (after : Tokens) (k : Lead) → AnItem l ts v (t ∷ after) → next l t ≡ Some k → Read (Items k) after → Read (Items l) ts
    going v t after k p e (inl (vs, rest, q)) = inl (v ∷ vs, rest, link g p refl e q)
    going v t after k p e (inr bad) = inr (bad.0, reached_stuck (chain_next [] (clear_item l g) g (chain_start l ts) p refl e) bad.1)

    follows : (v : Item) (t : Token) (after : Tokens) → AnItem l ts v (t ∷ after) → (o : Option Lead) → next l t ≡ o → Read (Items l) ts
    follows v t after p None e = inr (t ∷ after, chain_mark g (clear_item l g) live_items p (other_next l (t ∷ after) after t (terminal t) _ (not_last l g) (front t after) refl e))
    follows v t after p (Some k) e = elim (is_last k) [
      | inl last ↦ going v t after k p e (subst (λ x. Read (Items x) after) (sym last) (inl ([], after, end refl)))
      | inr more ↦ let fewer = no_longer (clear_item l g) p in going v t after k p e (again k more after (omega (arith, fewer)))
    ]

    by : Read (AnItem l) ts → Read (Items l) ts
    by (inr bad) = inr (bad.0, chain_element g (clear_item l g) live_items bad.1)
    by (inl (v, [], p)) = inr ([], chain_mark g (clear_item l g) live_items p (no_next l [] (not_last l g) refl))
    by (inl (v, t ∷ after, p)) = follows v t after p (next l t) refl

items_of : (fuel : ℕ) (l : Lead) → is_end l ≡ false → (ts : Tokens) → length ts < fuel → Read (Items l) ts
items_of zero l g ts lt = absurd (omega (arith, lt))
items_of (suc fuel) l g ts lt = items_next l g ts (λ k more us less. items_of fuel k more us (omega (arith, less, lt)))

items_reader : {n : ℕ} → Reader n (Items lead.Input)
items_reader = record { clear = clear_items lead.Input; reads = λ ts lt. items_of (suc (length ts)) lead.Input refl ts (omega arith) }

a_program : {n : ℕ} → Reader n AProgram
a_program =
    then_reader (mark_reader (mark.Reserved word.Size) is_size) (λ a. then_reader literal_reader (λ w. then_reader literal_reader (λ h. then_reader (mark_reader (mark.Reserved word.Input) is_input) (λ b.
    then_reader items_reader (λ vs. done_reader _)))))

-- Brackets.
abbrev Nests : ℕ → Tokens → Type 0
Nests n ts = StaysShallow n ts ⊎ ((span : Span) × PassesAt n ts span)

nests_next : (n : ℕ) (t : Token) (ts : Tokens) → n ≤ 128 → (unclosed n (terminal t) ≤ 128 → Nests (unclosed n (terminal t)) ts) → Nests n (t ∷ ts)
nests_next n t ts few again = by (terminal t) refl
  where
    after : unclosed n (terminal t) ≤ 128 → Nests n (t ∷ ts)
    after most = elim (again most) [ inl stays ↦ inl (few, stays) | inr past ↦ inr (past.0, inr (most, past.1)) ]

    opens : terminal t ≡ Sym Open → Nests n (t ∷ ts)
    opens is = elim (cases_lt n 128) [
      | inl less ↦ after (let one : unclosed n (terminal t) ≡ suc n = ap (unclosed n) is in omega (arith, less, one))
      | inr most ↦ inr (t.span, inl (omega (arith, few, most), is, refl))
    ]

    by : (k : Terminal) → terminal t ≡ k → Nests n (t ∷ ts)
    by (Sym Open) is = opens is
    by (Sym Close) is = after (let one : unclosed n (terminal t) ≡ n - 1 = ap (unclosed n) is in omega (arith, few, one))
    by _ is = after (let one : unclosed n (terminal t) ≡ n = ap (unclosed n) is in omega (arith, few, one))

nests : (n : ℕ) (ts : Tokens) → n ≤ 128 → Nests n ts
nests n [] few = inl few
nests n (t ∷ ts) few = nests_next n t ts few (λ most. nests (unclosed n (terminal t)) ts most)

-- Depth.
some_first : (a b : Option Span) → ((s : Span) × (a ≡ Some s)) ⊎ ((s : Span) × (b ≡ Some s)) → (s : Span) × (first a b ≡ Some s)
some_first (Some s) b h = (s, refl)
some_first None b (inl h) = absurd (let no : ⊥ = let e = h.1 in cc in no)
some_first None b (inr h) = h

here_deep : (e : Tree) → depth e ≡ 513 → (s : Span) × (here e ≡ Some s)
here_deep e is = (span_of e, let same : nat_eq (depth e) 513 ≡ true = grind (arith, is) in rw same refl)

whole_deep : (e : Tree) → 512 < depth e → (513 < depth e → (s : Span) × (below e ≡ Some s)) → (s : Span) × (too_deep e ≡ Some s)
whole_deep e h under = elim (cases_lt 513 (depth e)) [
  | inr most ↦ some_first (below e) (here e) (inr (here_deep e (omega (arith, h, most))))
  | inl more ↦ some_first (below e) (here e) (inl (under more))
]

deep : (e : Tree) → 512 < depth e → (s : Span) × (too_deep e ≡ Some s)
deep (number s v) h = absurd (omega (arith, h))
deep (read s r) h = absurd (omega (arith, h))
deep (unary s o a) h = whole_deep (unary s o a) h (λ more. deep a (omega (arith, more)))
deep (scale s o a k) h = whole_deep (scale s o a k) h (λ more. deep a (omega (arith, more)))
deep (cast s a t) h = whole_deep (cast s a t) h (λ more. deep a (omega (arith, more)))
deep (sat s a t) h = whole_deep (sat s a t) h (λ more. deep a (omega (arith, more)))
deep (binary s o a b) h = whole_deep (binary s o a b) h (λ more. elim (cases_lt 512 (depth a)) [
  | inl left ↦ some_first (too_deep a) (too_deep b) (inl (deep a left))
  | inr most ↦ some_first (too_deep a) (too_deep b) (inr (deep b (omega (arith, more, most))))
])
deep (select s a b c) h = whole_deep (select s a b c) h (λ more. elim (cases_lt 512 (depth a)) [
  | inl one ↦ some_first (too_deep a) (first (too_deep b) (too_deep c)) (inl (deep a one))
  | inr most ↦ elim (cases_lt 512 (depth b)) [
    | inl two ↦ some_first (too_deep a) (first (too_deep b) (too_deep c)) (inr (some_first (too_deep b) (too_deep c) (inl (deep b two))))
    | inr few ↦ some_first (too_deep a) (first (too_deep b) (too_deep c)) (inr (some_first (too_deep b) (too_deep c) (inr (deep c (omega (arith, more, most, few))))))
  ]
])

shallow_or_deep : (ds : List Definition) → AreShallow ds ⊎ ((s : Span) × (first_deep ds ≡ Some s))
shallow_or_deep [] = inl tt
shallow_or_deep (d ∷ ds) = elim (cases_lt 512 (depth d.body)) [
  | inl more ↦ inr (some_first (too_deep d.body) (first_deep ds) (inl (deep d.body more)))
  | inr most ↦ elim (shallow_or_deep ds) [ inl rest ↦ inl (most, rest) | inr bad ↦ inr (some_first (too_deep d.body) (first_deep ds) (inr bad)) ]
]

-- Tokens that end as a text's have a program within its limits, or a fault.
pub some : (ts : Tokens) → IsEnded ts → ((p : Source) × Accepted ts p) ⊎ ((f : ParseError) × Faults ts f × (f ≢ OutOfMemory))
some ts ended = elim (nests 0 ts (omega arith)) [
  | inr past ↦ inr (Nest past.0, past.1, λ e. cc)
  | inl stays ↦ by stays ((a_program {n = suc (length ts)}).reads ts (omega arith))
]
  where
    stops : StaysShallow 0 ts → (at : Tokens) → Stuck AProgram ts at → ((p : Source) × Accepted ts p) ⊎ ((f : ParseError) × Faults ts f × (f ≢ OutOfMemory))
    stops stays [] s = absurd (not_behind ts (ended_as ts ended) s)
    stops stays (t ∷ after) s = inr (Syntax t.span, (stays, faulty_at ts after t s), λ e. cc)

    by : StaysShallow 0 ts → Read AProgram ts → ((p : Source) × Accepted ts p) ⊎ ((f : ParseError) × Faults ts f × (f ≢ OutOfMemory))
    by stays (inr bad) = stops stays bad.0 bad.1
    by stays (inl (p, rest, q)) =
        let whole = derives ts rest p (ended_as ts ended) q in
        elim (shallow_or_deep p.definitions) [
          | inl shallow ↦ inl (p, record { nests = stays; derives = whole; shallow = shallow })
          | inr bad ↦ inr (Depth bad.0, (stays, record { program = p; derives = whole; first = bad.1 }), λ e. cc)
        ]
