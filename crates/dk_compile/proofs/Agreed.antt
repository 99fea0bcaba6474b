-- Two faults of a text are one.
use Rattle.std.proofs.Common.{◌≡◌, ◌≢◌, inl, inr, ℕ, ◌<◌, ◌≤◌, List, length, slice_get, Some, subst, ap, sym, ◌∙◌, refl, arith}
use Rattle.std.proofs.lemmas.Bool.{cases_lt}
use Rattle.dk_base.specs.declared.TheConstants.{MAX_SOURCE_BYTES}
use Rattle.dk_base.specs.declared.span.Span.{Span}
use Rattle.dk_lexer.specs.declared.token.Token.{Token}
use Rattle.dk_lexer.specs.declared.fault.LexFault.{LexFault}
use Rattle.dk_lexer.specs.Lexis.{HasTokens, HasFault}
use Rattle.dk_parser.specs.declared.whole.ParseError.{ParseError}
use Rattle.dk_parser.specs.declared.whole.ParseError.TheVariants as parser
use Rattle.dk_parser.specs.Programs.{Source}
use Rattle.dk_parser.specs.Judged.{Derives, Accepted, Faults}
use Rattle.dk_types.specs.declared.fault.TypeFault.{TypeFault}
use Rattle.dk_types.specs.Typed.{Definition, Typing}
use Rattle.dk_types.specs.Types.{IsTyping}
use Rattle.dk_types.specs.Faults.{IsFirstFault}
use Rattle.dk_inline.specs.declared.inlining.InlineFault.TheVariants as inlining
use Rattle.dk_inline.specs.Nodes.{IsFirstDeep}
use Rattle.dk_inline.specs.Answers.{IsWithin}
use Rattle.dk_inline.specs.Answers as I
use Rattle.source_fault.specs.declared.fault.SourceFault.{SourceFault}
use Rattle.source_fault.specs.declared.fault.SourceFault.TheVariants.{TooLong, Lex, Nest, Syntax, Depth, Types, Nodes, InlineDepth, Reads, Bits, Latency}
use Rattle.dk_compile.specs.Sources.{IsCut, HasTree, IsText, HasTooMany, IsSourceFault}
use Rattle.dk_compile.proofs.Once.{tree_one, text_one}
use Rattle.dk_compile.proofs.Counts.{too_many_once}

-- a fault of the grammar as that of a text; out of memory is none
abbrev parsed_as : ParseError → SourceFault
parsed_as (parser.Nest span) = Nest span
parsed_as (parser.Syntax span) = Syntax span
parsed_as (parser.Depth span) = Depth span
parsed_as parser.OutOfMemory = TooLong

-- a fault by the pass that finds it
data Found (text : List ℕ) (f : SourceFault) : Type 0 where
  long : f ≡ TooLong → MAX_SOURCE_BYTES < length text → Found text f
  lexed : (e : LexFault) → f ≡ Lex e → length text ≤ MAX_SOURCE_BYTES → HasFault text e → Found text f
  parsed : (e : ParseError) (ts : List Token) → f ≡ parsed_as e → e ≢ parser.OutOfMemory → IsCut text ts → Faults ts e → Found text f
  typed : (e : TypeFault) (tree : Source) → f ≡ Types e → HasTree text tree → IsFirstFault tree e → Found text f
  counted : (n : ℕ) (p : Typing) → f ≡ Nodes n → IsText text p → I.IsFault p (inlining.Nodes n) → Found text f
  measured : (s : Span) (p : Typing) → f ≡ InlineDepth s → IsText text p → I.IsFault p (inlining.InlineDepth s) → Found text f
  read : (n : ℕ) (p : Typing) → f ≡ Reads n → IsText text p → IsWithin p → HasTooMany p n → Found text f

found : (text : List ℕ) (f : SourceFault) → IsSourceFault text f → Found text f
found text TooLong is = long refl is
found text (Lex e) (within, is) = lexed e refl within is
found text (Nest s) (ts, cut, is) = parsed (parser.Nest s) ts refl (λ e. let no : ⊥ = cc in no) cut is
found text (Syntax s) (ts, cut, is) = parsed (parser.Syntax s) ts refl (λ e. let no : ⊥ = cc in no) cut is
found text (Depth s) (ts, cut, is) = parsed (parser.Depth s) ts refl (λ e. let no : ⊥ = cc in no) cut is
found text (Types e) (tree, has, is) = typed e tree refl has is
found text (Nodes n) (p, is, told) = counted n p refl is told
found text (InlineDepth s) (p, is, told) = measured s p refl is told
found text (Reads n) (p, is, within, many) = read n p refl is within many
found text (Bits n) is = absurd is
found text (Latency n) is = absurd is

-- the first definition that is too deep is one
first_once : (p : Typing) (s t : Span) → IsFirstDeep p s → IsFirstDeep p t → s ≡ t
first_once p s t a b =
    let same : a.place ≡ b.place = elim (cases_lt a.place b.place) [
      | inl less ↦ absurd (b.before a.place a.definition less a.is)
      | inr most ↦ elim (cases_lt b.place a.place) [
        | inl less ↦ absurd (a.before b.place b.definition less b.is)
        | inr least ↦ omega (arith, most, least)
      ]
    ] in
    let here : Some a.definition ≡ Some b.definition = sym a.is.at ∙ ap (slice_get p.definitions) same ∙ b.is.at in
    let one : a.definition ≡ b.definition = cc in
    a.named ∙ ap (λ (d : Definition). d.name.span) one ∙ sym b.named

module _ (tokens_once : (text : List ℕ) (ts us : List Token) → HasTokens text ts → HasTokens text us → ts ≡ us)
    (lex_once : (text : List ℕ) (f g : LexFault) → HasFault text f → HasFault text g → f ≡ g)
    (no_lex : (text : List ℕ) (ts : List Token) (f : LexFault) → HasTokens text ts → HasFault text f → ⊥)
    (tree_once : (ts : List Token) (p q : Source) → Derives ts p → Derives ts q → p ≡ q)
    (parse_once : (ts : List Token) (f g : ParseError) → Faults ts f → Faults ts g → f ≢ parser.OutOfMemory → g ≢ parser.OutOfMemory → f ≡ g)
    (no_parse : (ts : List Token) (p : Source) (f : ParseError) → Accepted ts p → Faults ts f → f ≡ parser.OutOfMemory)
    (typing_once : (a : Source) (p q : Typing) → IsTyping a p → IsTyping a q → p ≡ q)
    (type_once : (a : Source) (f g : TypeFault) → IsFirstFault a f → IsFirstFault a g → f ≡ g)
    (no_type : (a : Source) (p : Typing) (f : TypeFault) → IsTyping a p → IsFirstFault a f → ⊥) where
  same_program : (text : List ℕ) (p q : Typing) → IsText text p → IsText text q → p ≡ q
  same_program text p q = text_one tokens_once tree_once typing_once text p q

  no_parsed : (text : List ℕ) (tree : Source) (ts : List Token) (e : ParseError) → HasTree text tree → IsCut text ts → Faults ts e → e ≢ parser.OutOfMemory → ⊥
  no_parsed text tree ts e has cut is some =
      let P : List Token → Type 0 = λ us. Faults us e in
      some (no_parse has.tokens tree e has.parsed (subst P (tokens_once text ts has.tokens cut.are has.cut.are) is))

  no_typed : (text : List ℕ) (tree : Source) (e : TypeFault) (p : Typing) → HasTree text tree → IsFirstFault tree e → IsText text p → ⊥
  no_typed text tree e p has is of =
      let P : Source → Type 0 = λ a. IsFirstFault a e in
      no_type of.tree p e of.typed (subst P (tree_one tokens_once tree_once text tree of.tree has of.parsed) is)

  -- faults of the passes after the types
  late : (text : List ℕ) (p q : Typing) → IsText text p → IsText text q → (P : Typing → Type 0) → P p → P q
  late text p q is of P h = subst P (same_program text p q is of) h

  meet : (text : List ℕ) (f g : SourceFault) → Found text f → Found text g → f ≡ g
  meet text f g (long e much) (long h more) = e ∙ sym h
  meet text f g (long e much) (lexed c k short is) = let most = short in absurd (omega (arith, much, most))
  meet text f g (lexed c k short is) (long e much) = let most = short in absurd (omega (arith, much, most))
  meet text f g (long e much) (parsed d ts h some cut of) = let most = cut.within in absurd (omega (arith, much, most))
  meet text f g (parsed d ts h some cut of) (long e much) = let most = cut.within in absurd (omega (arith, much, most))
  meet text f g (long e much) (typed d tree h has of) = let most = has.cut.within in absurd (omega (arith, much, most))
  meet text f g (typed d tree h has of) (long e much) = let most = has.cut.within in absurd (omega (arith, much, most))
  meet text f g (long e much) (counted n p h of told) = let most = of.parsed.cut.within in absurd (omega (arith, much, most))
  meet text f g (counted n p h of told) (long e much) = let most = of.parsed.cut.within in absurd (omega (arith, much, most))
  meet text f g (long e much) (measured s p h of told) = let most = of.parsed.cut.within in absurd (omega (arith, much, most))
  meet text f g (measured s p h of told) (long e much) = let most = of.parsed.cut.within in absurd (omega (arith, much, most))
  meet text f g (long e much) (read n p h of within many) = let most = of.parsed.cut.within in absurd (omega (arith, much, most))
  meet text f g (read n p h of within many) (long e much) = let most = of.parsed.cut.within in absurd (omega (arith, much, most))
  meet text f g (lexed c e short is) (lexed d h also of) = e ∙ ap Lex (lex_once text c d is of) ∙ sym h
  meet text f g (lexed c e short is) (parsed d ts h some cut of) = absurd (no_lex text ts c cut.are is)
  meet text f g (lexed c e short is) (typed d tree h has of) = absurd (no_lex text has.tokens c has.cut.are is)
  meet text f g (lexed c e short is) (counted n p h of told) = absurd (no_lex text of.parsed.tokens c of.parsed.cut.are is)
  meet text f g (lexed c e short is) (measured s p h of told) = absurd (no_lex text of.parsed.tokens c of.parsed.cut.are is)
  meet text f g (lexed c e short is) (read n p h of within many) = absurd (no_lex text of.parsed.tokens c of.parsed.cut.are is)
  meet text f g (parsed d ts h some cut of) (lexed c e short is) = absurd (no_lex text ts c cut.are is)
  meet text f g (parsed c ts e some cut is) (parsed d us h also too of) =
      let P : List Token → Type 0 = λ xs. Faults xs c in
      e ∙ ap parsed_as (parse_once us c d (subst P (tokens_once text ts us cut.are too.are) is) of some also) ∙ sym h
  meet text f g (parsed c ts e some cut is) (typed d tree h has of) = absurd (no_parsed text tree ts c has cut is some)
  meet text f g (parsed c ts e some cut is) (counted n p h of told) = absurd (no_parsed text of.tree ts c of.parsed cut is some)
  meet text f g (parsed c ts e some cut is) (measured s p h of told) = absurd (no_parsed text of.tree ts c of.parsed cut is some)
  meet text f g (parsed c ts e some cut is) (read n p h of within many) = absurd (no_parsed text of.tree ts c of.parsed cut is some)
  meet text f g (typed d tree h has of) (lexed c e short is) = absurd (no_lex text has.tokens c has.cut.are is)
  meet text f g (typed d tree h has of) (parsed c ts e some cut is) = absurd (no_parsed text tree ts c has cut is some)
  meet text f g (typed c tree e has is) (typed d other h also of) =
      let P : Source → Type 0 = λ a. IsFirstFault a c in
      e ∙ ap Types (type_once other c d (subst P (tree_one tokens_once tree_once text tree other has also) is) of) ∙ sym h
  meet text f g (typed c tree e has is) (counted n p h of told) = absurd (no_typed text tree c p has is of)
  meet text f g (typed c tree e has is) (measured s p h of told) = absurd (no_typed text tree c p has is of)
  meet text f g (typed c tree e has is) (read n p h of within many) = absurd (no_typed text tree c p has is of)
  meet text f g (counted n p h of told) (lexed c e short is) = absurd (no_lex text of.parsed.tokens c of.parsed.cut.are is)
  meet text f g (counted n p h of told) (parsed c ts e some cut is) = absurd (no_parsed text of.tree ts c of.parsed cut is some)
  meet text f g (counted n p h of told) (typed c tree e has is) = absurd (no_typed text tree c p has is of)
  meet text f g (counted m p e is told) (counted n q h of too) =
      let count = late text p q is of (λ r. I.IsFault r (inlining.Nodes m)) told in
      e ∙ ap Nodes (count.1 ∙ sym too.1) ∙ sym h
  meet text f g (counted m p e is told) (measured s q h of too) =
      let count = late text p q is of (λ r. I.IsFault r (inlining.Nodes m)) told in
      let more = count.0 in
      let few = too.0 in
      absurd (omega (arith, more, few))
  meet text f g (counted m p e is told) (read n q h of within many) =
      let count = late text p q is of (λ r. I.IsFault r (inlining.Nodes m)) told in
      let more = count.0 in
      let few = within.nodes in
      absurd (omega (arith, more, few))
  meet text f g (measured s p h of told) (lexed c e short is) = absurd (no_lex text of.parsed.tokens c of.parsed.cut.are is)
  meet text f g (measured s p h of told) (parsed c ts e some cut is) = absurd (no_parsed text of.tree ts c of.parsed cut is some)
  meet text f g (measured s p h of told) (typed c tree e has is) = absurd (no_typed text tree c p has is of)
  meet text f g (measured s p e is told) (counted n q h of too) =
      let deep = late text p q is of (λ r. I.IsFault r (inlining.InlineDepth s)) told in
      let few = deep.0 in
      let more = too.0 in
      absurd (omega (arith, more, few))
  meet text f g (measured s p e is told) (measured t q h of too) =
      let deep = late text p q is of (λ r. I.IsFault r (inlining.InlineDepth s)) told in
      e ∙ ap InlineDepth (first_once q s t deep.1 too.1) ∙ sym h
  meet text f g (measured s p e is told) (read n q h of within many) =
      let deep = (late text p q is of (λ r. I.IsFault r (inlining.InlineDepth s)) told).1 in
      absurd (within.depth deep.place deep.definition deep.is)
  meet text f g (read n p h of within many) (lexed c e short is) = absurd (no_lex text of.parsed.tokens c of.parsed.cut.are is)
  meet text f g (read n p h of within many) (parsed c ts e some cut is) = absurd (no_parsed text of.tree ts c of.parsed cut is some)
  meet text f g (read n p h of within many) (typed c tree e has is) = absurd (no_typed text tree c p has is of)
  meet text f g (read n p h of within many) (counted m q e is told) =
      let count = late text q p is of (λ r. I.IsFault r (inlining.Nodes m)) told in
      let more = count.0 in
      let few = within.nodes in
      absurd (omega (arith, more, few))
  meet text f g (read n p h of within many) (measured s q e is told) =
      let deep = (late text q p is of (λ r. I.IsFault r (inlining.InlineDepth s)) told).1 in
      absurd (within.depth deep.place deep.definition deep.is)
  meet text f g (read m p e is within many) (read n q h of also more) =
      e ∙ ap Reads (too_many_once q m n (late text p q is of (λ r. HasTooMany r m) many) more) ∙ sym h

  pub agree : (text : List ℕ) (f g : SourceFault) → IsSourceFault text f → IsSourceFault text g → f ≡ g
  agree text f g is of = meet text f g (found text f is) (found text g of)
