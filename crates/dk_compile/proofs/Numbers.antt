-- The numbers of a text's program are those of its tokens.
use Rattle.std.proofs.Common.{◌≡◌, ℕ, ◌<◌, ◌^◌, List, [], ◌∷◌, ◌++◌, take, Option, Some, None, Ok, Err, Bool, true, false, nat_lt, if◌then◌else◌, refl, subst, arith}
use Rattle.std.specs.List.{All, AllByRecursion, prefix_len}
use Rattle.std.proofs.lemmas.List.Elements.{All-from_recursion}
use Rattle.dk_base.specs.declared.ty.Ty.{Ty}
use Rattle.dk_base.specs.declared.span.Span.{Span}
use Rattle.dk_lexer.specs.declared.token.Token.{Token}
use Rattle.dk_lexer.specs.declared.token.TokenKind.{TokenKind}
use Rattle.dk_lexer.specs.declared.token.TokenKind.TheVariants.{Word, Number, Symbol, End}
use Rattle.dk_lexer.specs.Lexis.{Lexes, finish, next, lexeme, Lexeme, word_here, number_here, symbol_here, symbol_of}
use Rattle.dk_lexer.specs.declared.token.Symbol.{Symbol as Sign}
use Rattle.dk_lexer.specs.declared.token.Symbol.TheVariants.{Minus}
use Rattle.dk_lexer.specs.declared.fault.LexKind.TheVariants.{NumberTooGreat}
use Rattle.dk_base.specs.declared.TheConstants.{MAX_NAME_BYTES}
use Rattle.dk_base.specs.Ascii.{is_letter, is_digit, is_word_byte, value_of}
use Rattle.dk_grammar.specs.Reading.{Phrases, Clear, Many, none as nothing, more as another}
use Rattle.source_words.specs.declared.word.Keyword.{Keyword}
use Rattle.source_words.specs.declared.word.Keyword.TheVariants as word
use Rattle.dk_parser.specs.declared.terminal.Mark.TheVariants as mark
use Rattle.dk_parser.specs.declared.terminal.Terminal.{Terminal}
use Rattle.dk_parser.specs.declared.terminal.Terminal.TheVariants.{Keyword as Keyword', Symbol as Symbol', Number as Number', TypeWord as Type'}
use Rattle.dk_parser.specs.declared.tree.Start.{Start}
use Rattle.dk_parser.specs.declared.tree.Start.TheVariants.{Constant}
use Rattle.dk_parser.specs.declared.tree.Step.{Step}
use Rattle.dk_parser.specs.declared.tree.Input.{Input}
use Rattle.dk_parser.specs.Tree.{Tree, number, read, unary, binary, scale, cast, sat, select, span_of, at_span}
use Rattle.dk_parser.specs.Terminals.{terminal, terminal_of, word_terminal}
use Rattle.source_words.specs.Words.{keyword_of, type_of_word}
use Rattle.dk_parser.specs.Words.{over}
use Rattle.dk_parser.specs.Reads.{plain as unclamped', clamped}
use Rattle.dk_parser.specs.Grammar.{Tokens, Nonterminal, steps, Phrase, single, compared, prefixed, plain, chain, done, operand, suffixed, suffix, scaled, converted, closed, reading, constant, bracket, pair, absolute, saturate, choice, start}
use Rattle.dk_parser.specs.Programs.{Source, Definition, ADefinition}
use Rattle.dk_parser.specs.Rules.{InputRule, DefinitionRule, plain as plain', inlined}
use Rattle.dk_parser.specs.Judged.{Derives}
use Rattle.dk_parser.proofs.Laws.{local}
use Rattle.dk_parser.proofs.Tokens.{clear_mark, clear_name, clear_literal}
use Rattle.dk_parser.proofs.Keeping.{clear_input, clear_definition, clear_declared, clear_header}
use Rattle.dk_types.specs.Types.{HasNumbers}

-- a number is below 2 ^ 64
abbrev IsSmall : Terminal → Type 0
IsSmall (Number' v) = v < 2 ^ 64
IsSmall _ = Unit {0}

abbrev pub AreSmall : Tokens → Type 0
AreSmall [] = Unit {0}
AreSmall (t ∷ ts) = IsSmall (terminal t) × AreSmall ts

-- Words are not numbers.
word_small : (k : Option Keyword) (t : Option Ty) → IsSmall (word_terminal k t)
word_small (Some k) t = tt
word_small None (Some t) = tt
word_small None None = tt

-- The lexer's numbers.
abbrev Fits : TokenKind → Type 0
Fits (Number v) = v < 2 ^ 64
Fits _ = Unit {0}

kind_small : (k : TokenKind) → Fits k → IsSmall (terminal_of k)
unfolding terminal_of
kind_small (Word t) f = word_small (keyword_of t) (type_of_word t)
kind_small (Number v) f = f
kind_small (Symbol s) f = tt
kind_small End f = tt

abbrev AllFit : Lexeme → Type 0
AllFit (Err e) = Unit {0}
AllFit (Ok x) = Fits x.0

chosen : (b : Bool) (k l : Lexeme) → AllFit k → AllFit l → AllFit (if b then k else l)
chosen true k l p q = p
chosen false k l p q = q

number_fits : (v n : ℕ) (b : Bool) → nat_lt v (2 ^ 64) ≡ b → AllFit (if b then Ok (Number v, n) else Err (NumberTooGreat, n))
number_fits v n true e = grind (arith, e)
number_fits v n false e = tt

symbol_fits : (row : Option (List ℕ × Sign)) → AllFit (symbol_of row)
symbol_fits None = tt
symbol_fits (Some row) = tt

lexeme_fits : (a : ℕ) (bs : List ℕ) → AllFit (lexeme a bs)
unfolding lexeme
lexeme_fits a bs =
    chosen (is_letter a) (word_here (a ∷ bs)) (if is_digit a then number_here (a ∷ bs) else symbol_here (a ∷ bs)) (chosen (nat_lt MAX_NAME_BYTES (prefix_len is_word_byte (a ∷ bs))) _ _ tt tt)
    (chosen (is_digit a) (number_here (a ∷ bs)) (symbol_here (a ∷ bs)) (number_fits (value_of (take (prefix_len is_digit (a ∷ bs)) (a ∷ bs))) (prefix_len is_digit (a ∷ bs)) _ refl) (symbol_fits _))

pub lexed_small : {total : ℕ} {text : List ℕ} {tokens : Tokens} → Lexes total text tokens → AreSmall tokens
lexed_small (finish g) = (kind_small End tt, tt)
lexed_small (next {bs = bs} {a = a} {n = n} {kind = kind} g s is more) = (kind_small kind (subst AllFit is (lexeme_fits a bs)), lexed_small more)

-- What follows a phrase.
behind : (own rest : Tokens) → AreSmall (own ++ rest) → AreSmall rest
behind [] rest s = s
behind (t ∷ own) rest s = behind own rest s.1

rest_small : {V : Type 0} {P : Phrases Token V} {ts rest : Tokens} {v : V} → Clear P → P ts v rest → AreSmall ts → AreSmall rest
rest_small {rest = rest} c p s = let o = c.own p in behind o.0 rest (subst AreSmall o.1 s)

phrase_rest : {f : Nonterminal} {ts rest : Tokens} {e : Tree} → Phrase f ts e rest → AreSmall ts → AreSmall rest
phrase_rest {rest = rest} p s = let i = local p in behind i.own rest (subst AreSmall i.whole s)

-- Numbers of expressions.
spanned : (s : Span) (e : Tree) → HasNumbers e → HasNumbers (at_span s e)
spanned s (number _ v) h = h
spanned s (read _ r) h = h
spanned s (unary _ o a) h = h
spanned s (binary _ o a b) h = h
spanned s (scale _ o a k) h = h
spanned s (cast _ a t) h = h
spanned s (sat _ a t) h = h
spanned s (select _ a b c) h = h

abbrev BeginsSmall : Start → Type 0
BeginsSmall (Constant v) = v < 2 ^ 64
BeginsSmall _ = Unit {0}

begins_small : (k : Terminal) → IsSmall k → BeginsSmall (start k)
begins_small (Number' v) s = s
begins_small (Keyword' word.Min) s = tt
begins_small (Symbol' Minus) s = tt
begins_small _ s = tt

constant_small : (k : Terminal) (v : ℕ) → start k ≡ Constant v → IsSmall k → v < 2 ^ 64
constant_small k v e s = subst BeginsSmall e (begins_small k s)

suffix_numbers : (l m : Tree) (s : Step) (t : Token) → suffix l s t ≡ Some m → HasNumbers l → HasNumbers m
suffix_numbers l m (Step.Operand o) t e h = absurd (let other : ⊥ = cc in other)
suffix_numbers l m (Step.Number o) t e h = by (terminal t) e
  where
    by : (k : Terminal) → scaled l o t.span k ≡ Some m → HasNumbers m
    by (Number' v) e = subst HasNumbers (let same : scale (over (span_of l) t.span) o l (record { span = t.span; value = v }) ≡ m = cc in same) h
    by _ e = absurd (let other : ⊥ = cc in other)
suffix_numbers l m Step.Type t e h = by (terminal t) e
  where
    by : (k : Terminal) → converted l t.span k ≡ Some m → HasNumbers m
    by (Type' u) e = subst HasNumbers (let same : cast (over (span_of l) t.span) l (record { span = t.span; ty = u }) ≡ m = cc in same) h
    by _ e = absurd (let other : ⊥ = cc in other)

-- what an expression's first operand has
abbrev FirstHas : Nonterminal → Type 0
FirstHas (steps n l) = HasNumbers l
FirstHas _ = Unit {0}

numbers : {f : Nonterminal} {ts rest : Tokens} {e : Tree} → Phrase f ts e rest → AreSmall ts → FirstHas f → HasNumbers e
numbers (single p) s h = numbers p s tt
numbers (compared p b q) s h = (numbers p s tt, numbers q (phrase_rest p s).1 tt)
numbers (prefixed b p) s h = numbers p s.1 tt
numbers (plain p) s h = numbers p s tt
numbers (chain p q) s h = numbers q (phrase_rest p s) (numbers p s tt)
numbers done s h = h
numbers (operand b p q) s h = numbers q (phrase_rest p s.1) (h, numbers p s.1 tt)
numbers (suffixed {l = l} {m = m} {word = w} {s = x} b k q) s h = numbers q s.1.1 (suffix_numbers l m x w k h)
numbers (closed p) s h = numbers p s tt
numbers (reading (unclamped' p)) s h = tt
numbers (reading (clamped p a b)) s h = tt
numbers (constant {v = v} {tok = t} b) s h = constant_small (terminal t) v b s.0
numbers (bracket {e = e} b p c) s h = spanned _ e (numbers p s.1 tt)
numbers (pair a o p b q c) s h = (numbers p s.1.1 tt, numbers q (phrase_rest p s.1.1).1 tt)
numbers (absolute a o p c) s h = numbers p s.1.1 tt
numbers (saturate a o p b t c) s h = numbers p s.1.1 tt
numbers (choice a o p b q c r d) s h = let second = (phrase_rest p s.1.1).1 in (numbers p s.1.1 tt, numbers q second tt, numbers r (phrase_rest q second).1 tt)

-- Numbers of items.
definition_numbers : (b : Bool) {ts rest : Tokens} {d : Definition} → ADefinition b ts d rest → AreSmall ts → HasNumbers d.body
definition_numbers b (n, m, p, (t, m2, q, (z, m3, r, (e, m4, (tok, body, k, same), is)))) s =
    let body_at = rest_small clear_header r (rest_small clear_declared q (rest_small clear_name p s)) in
    let P : Definition → Type 0 = λ d. HasNumbers d.body in
    subst P is.0 (numbers body body_at tt)

abbrev BodiesHave : List Definition → Type 0
BodiesHave ds = AllByRecursion (λ (d : Definition). HasNumbers d.body) ds

rule_numbers : {ts rest : Tokens} {d : Definition} → DefinitionRule ts d rest → AreSmall ts → HasNumbers d.body
rule_numbers (plain' (z, m, p, q)) s = definition_numbers false q (rest_small (clear_mark (mark.Reserved word.Let)) p s)
rule_numbers (inlined (z, m, p, (y, n, q, r))) s =
    definition_numbers true r (rest_small (clear_mark (mark.Reserved word.Let)) q (rest_small (clear_mark (mark.Reserved word.Inline)) p s))

rule_rest : {ts rest : Tokens} {d : Definition} → DefinitionRule ts d rest → AreSmall ts → AreSmall rest
rule_rest (plain' (z, m, p, q)) s = rest_small (clear_definition false) q (rest_small (clear_mark (mark.Reserved word.Let)) p s)
rule_rest (inlined (z, m, p, (y, n, q, r))) s =
    rest_small (clear_definition true) r (rest_small (clear_mark (mark.Reserved word.Let)) q (rest_small (clear_mark (mark.Reserved word.Inline)) p s))

definitions_numbers : {ts rest : Tokens} {ds : List Definition} → Many DefinitionRule ts ds rest → AreSmall ts → BodiesHave ds
definitions_numbers nothing s = tt
definitions_numbers (another p q) s = (rule_numbers p s, definitions_numbers q (rule_rest p s))

input_rest : {ts rest : Tokens} {i : Input} → InputRule ts i rest → AreSmall ts → AreSmall rest
input_rest (z, m, p, q) s = rest_small clear_input q (rest_small (clear_mark (mark.Reserved word.Input)) p s)

inputs_rest : {ts rest : Tokens} {is : List Input} → Many InputRule ts is rest → AreSmall ts → AreSmall rest
inputs_rest nothing s = s
inputs_rest (another p q) s = inputs_rest q (input_rest p s)

pub program_numbers : (ts : Tokens) (p : Source) → Derives ts p → AreSmall ts → All (λ (d : Definition). HasNumbers d.body) p.definitions
program_numbers ts p (z, m, a, (w, m2, b, (h, m3, c, (is, m4, (i, m5, d, (js, m6, e, (whole, left))), (ds, m7, f, (os, m8, g, (y, m9, k, (same, ended)))))))) s =
    let inputs_at = rest_small clear_literal c (rest_small clear_literal b (rest_small (clear_mark (mark.Reserved word.Size)) a s)) in
    let definitions_at = subst AreSmall left (inputs_rest e (input_rest d inputs_at)) in
    let P : Source → Type 0 = λ p. All (λ (d : Definition). HasNumbers d.body) p.definitions in
    subst P same (All-from_recursion (λ (d : Definition). HasNumbers d.body) ds (definitions_numbers f definitions_at))
