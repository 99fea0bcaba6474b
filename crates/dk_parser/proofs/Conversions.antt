-- Conversions of a program are to types of the language.
use Rattle.std.proofs.Common.{◌≡◌, List, Some, Bool, true, false, refl, subst}
use Rattle.std.specs.List.{AllByRecursion}
use Rattle.std.proofs.lemmas.List.Elements.{All-from_recursion}
use Rattle.dk_base.specs.declared.span.Span.{Span}
use Rattle.dk_base.specs.declared.ty.Ty.{Ty}
use Rattle.dk_base.specs.Types.{IsType}
use Rattle.dk_lexer.specs.declared.token.Token.{Token}
use Rattle.dk_lexer.specs.declared.token.TokenKind.{TokenKind}
use Rattle.dk_lexer.specs.declared.token.TokenKind.TheVariants.{Word, Number, Symbol, End}
use Rattle.dk_grammar.specs.Reading.{Many, none as nothing, more as another}
use Rattle.dk_parser.specs.declared.terminal.Terminal.{Terminal}
use Rattle.dk_parser.specs.declared.terminal.Terminal.TheVariants.{TypeWord as Type', Number as Number'}
use Rattle.dk_parser.specs.declared.tree.Step.{Step}
use Rattle.dk_parser.specs.declared.tree.TypeWord.{TypeWord}
use Rattle.dk_parser.specs.Tree.{Tree, number, read, unary, binary, scale, cast, sat, select, span_of, at_span, ConvertsToTypes}
use Rattle.dk_parser.specs.Terminals.{terminal, terminal_of}
use Rattle.dk_parser.specs.Words.{over, type_at, type_word}
use Rattle.dk_parser.specs.Reads.{plain as unclamped', clamped}
use Rattle.dk_parser.specs.Grammar.{Tokens, Nonterminal, steps, Phrase, single, compared, prefixed, plain, chain, done, operand, suffixed, suffix, scaled, converted, closed, reading, constant, bracket, pair, absolute, saturate, choice}
use Rattle.dk_parser.specs.Programs.{Source, Definition, ADefinition, AllConvertToTypes}
use Rattle.dk_parser.specs.Rules.{DefinitionRule, plain as plain', inlined}
use Rattle.dk_parser.specs.Judged.{Derives}
use Rattle.dk_parser.proofs.TypeWords.{type_word_is}

-- a type word is a type
kind_type : (k : TokenKind) (t : Ty) → terminal_of k ≡ Type' t → IsType t
unfolding terminal_of
kind_type (Word w) t e = (type_word_is w t e).0
kind_type (Number v) t e = absurd (cc (e))
kind_type (Symbol s) t e = absurd (cc (e))
kind_type End t e = absurd (cc (e))

word_type : (tok : Token) (t : TypeWord) → type_word tok ≡ Some t → IsType t.ty
word_type tok t = by (terminal tok) refl
  where
    by : (k : Terminal) → terminal tok ≡ k → type_at k tok.span ≡ Some t → IsType t.ty
    by (Type' u) is e =
        let same : (let w : TypeWord = record { span = tok.span; ty = u } in w) ≡ t = cc in
        subst (λ (w : TypeWord). IsType w.ty) same (kind_type tok.kind u is)
    by _ is e = absurd (let other : ⊥ = cc in other)

-- expressions
spanned : (s : Span) (e : Tree) → ConvertsToTypes e → ConvertsToTypes (at_span s e)
spanned s (number _ v) h = h
spanned s (read _ r) h = h
spanned s (unary _ o a) h = h
spanned s (binary _ o a b) h = h
spanned s (scale _ o a k) h = h
spanned s (cast _ a t) h = h
spanned s (sat _ a t) h = h
spanned s (select _ a b c) h = h

suffix_types : (l m : Tree) (s : Step) (t : Token) → suffix l s t ≡ Some m → ConvertsToTypes l → ConvertsToTypes m
suffix_types l m (Step.Operand o) t e h = absurd (let other : ⊥ = cc in other)
suffix_types l m (Step.Number o) t e h = by (terminal t) e
  where
    by : (k : Terminal) → scaled l o t.span k ≡ Some m → ConvertsToTypes m
    by (Number' v) e = subst ConvertsToTypes (let same : scale (over (span_of l) t.span) o l (record { span = t.span; value = v }) ≡ m = cc in same) h
    by _ e = absurd (let other : ⊥ = cc in other)
suffix_types l m Step.Type t e h = by (terminal t) refl e
  where
    by : (k : Terminal) → terminal t ≡ k → converted l t.span k ≡ Some m → ConvertsToTypes m
    by (Type' u) is e =
        subst ConvertsToTypes (let same : cast (over (span_of l) t.span) l (record { span = t.span; ty = u }) ≡ m = cc in same) (kind_type t.kind u is, h)
    by _ is e = absurd (let other : ⊥ = cc in other)

-- what an expression's first operand has
abbrev FirstHas : Nonterminal → Type 0
FirstHas (steps n l) = ConvertsToTypes l
FirstHas _ = Unit {0}

types : {f : Nonterminal} {ts rest : Tokens} {e : Tree} → Phrase f ts e rest → FirstHas f → ConvertsToTypes e
types (single p) h = types p tt
types (compared p b q) h = (types p tt, types q tt)
types (prefixed b p) h = types p tt
types (plain p) h = types p tt
types (chain p q) h = types q (types p tt)
types done h = h
types (operand b p q) h = types q (h, types p tt)
types (suffixed {l = l} {m = m} {word = w} {s = x} b k q) h = types q (suffix_types l m x w k h)
types (closed p) h = types p tt
types (reading (unclamped' p)) h = tt
types (reading (clamped p a b)) h = tt
types (constant b) h = tt
types (bracket {e = e} b p c) h = spanned _ e (types p tt)
types (pair a o p b q c) h = (types p tt, types q tt)
types (absolute a o p c) h = types p tt
types (saturate {t = t} {word = w} a o p b is c) h = (word_type w t is, types p tt)
types (choice a o p b q c r d) h = (types p tt, types q tt, types r tt)

-- definitions
definition_types : (b : Bool) {ts rest : Tokens} {d : Definition} → ADefinition b ts d rest → ConvertsToTypes d.body
definition_types b (n, m, p, (t, m2, q, (z, m3, r, (e, m4, (tok, body, k, same), is)))) = let P : Definition → Type 0 = λ d. ConvertsToTypes d.body in subst P is.0 (types body tt)

rule_types : {ts rest : Tokens} {d : Definition} → DefinitionRule ts d rest → ConvertsToTypes d.body
rule_types (plain' (z, m, p, q)) = definition_types false q
rule_types (inlined (z, m, p, (y, n, q, r))) = definition_types true r

definitions_types : {ts rest : Tokens} {ds : List Definition} → Many DefinitionRule ts ds rest → AllByRecursion (λ (d : Definition). ConvertsToTypes d.body) ds
definitions_types nothing = tt
definitions_types (another p q) = (rule_types p, definitions_types q)

pub program_types : (ts : Tokens) (p : Source) → Derives ts p → AllConvertToTypes p
program_types ts p (z, m, a, (w, m2, b, (h, m3, c, (is, m4, i, (ds, m7, f, (os, m8, g, (y, m9, k, (same, ended)))))))) =
    let P : Source → Type 0 = λ p. AllConvertToTypes p in
    subst P same (All-from_recursion (λ (d : Definition). ConvertsToTypes d.body) ds (definitions_types f))
