-- A text that is accepted has no fault.
use Rattle.std.proofs.Common.{◌≡◌, ℕ, List, subst, arith}
use Rattle.dk_lexer.specs.declared.token.Token.{Token}
use Rattle.dk_lexer.specs.declared.fault.LexFault.{LexFault}
use Rattle.dk_lexer.specs.Lexis.{HasTokens, HasFault}
use Rattle.dk_parser.specs.declared.whole.ParseError.{ParseError}
use Rattle.dk_parser.specs.declared.whole.ParseError.TheVariants as parser
use Rattle.dk_parser.specs.Programs.{Source}
use Rattle.dk_parser.specs.Judged.{Derives, Accepted, Faults}
use Rattle.dk_types.specs.declared.fault.TypeFault.{TypeFault}
use Rattle.dk_types.specs.Typed.{Typing}
use Rattle.dk_types.specs.Types.{IsTyping}
use Rattle.dk_types.specs.Faults.{IsFirstFault}
use Rattle.dk_inline.specs.Answers.{IsWithin}
use Rattle.source_fault.specs.declared.fault.SourceFault.{SourceFault}
use Rattle.source_fault.specs.declared.fault.SourceFault.TheVariants.{TooLong, Lex, Nest, Syntax, Depth, Types, Nodes, InlineDepth, Reads, Bits, Latency}
use Rattle.dk_compile.specs.Sources.{IsCut, IsText, IsAccepted, HasTooMany, IsSourceFault}
use Rattle.dk_compile.proofs.Once.{tree_one, text_one}
use Rattle.dk_compile.proofs.Counts.{few_not_many}

module _ (tokens_once : (text : List ℕ) (ts us : List Token) → HasTokens text ts → HasTokens text us → ts ≡ us)
    (no_lex : (text : List ℕ) (ts : List Token) (f : LexFault) → HasTokens text ts → HasFault text f → ⊥)
    (tree_once : (ts : List Token) (p q : Source) → Derives ts p → Derives ts q → p ≡ q)
    (no_parse : (ts : List Token) (p : Source) (f : ParseError) → Accepted ts p → Faults ts f → f ≡ parser.OutOfMemory)
    (typing_once : (a : Source) (p q : Typing) → IsTyping a p → IsTyping a q → p ≡ q)
    (no_type : (a : Source) (p : Typing) (f : TypeFault) → IsTyping a p → IsFirstFault a f → ⊥) where
  parse_apart : (text : List ℕ) (p : Typing) → IsText text p → (ts : List Token) (f : ParseError) → IsCut text ts → Faults ts f → f ≡ parser.OutOfMemory
  parse_apart text p is ts f cut fault =
      let P : List Token → Type 0 = λ us. Faults us f in
      no_parse is.parsed.tokens is.tree f is.parsed.parsed (subst P (tokens_once text ts is.parsed.tokens cut.are is.parsed.cut.are) fault)

  same_program : (text : List ℕ) (p q : Typing) → IsText text p → IsText text q → p ≡ q
  same_program text p q = text_one tokens_once tree_once typing_once text p q

  pub apart : (text : List ℕ) (p : Typing) (f : SourceFault) → IsAccepted text p → IsSourceFault text f → ⊥
  apart text p TooLong ok is = let most = ok.program.parsed.cut.within in omega (arith, most, is)
  apart text p (Lex fault) ok (within, is) = no_lex text ok.program.parsed.tokens fault ok.program.parsed.cut.are is
  apart text p (Nest span) ok (ts, cut, fault) = let e = parse_apart text p ok.program ts (parser.Nest span) cut fault in let no : ⊥ = cc in no
  apart text p (Syntax span) ok (ts, cut, fault) = let e = parse_apart text p ok.program ts (parser.Syntax span) cut fault in let no : ⊥ = cc in no
  apart text p (Depth span) ok (ts, cut, fault) = let e = parse_apart text p ok.program ts (parser.Depth span) cut fault in let no : ⊥ = cc in no
  apart text p (Types fault) ok (tree, has, is) =
      let P : Source → Type 0 = λ a. IsFirstFault a fault in
      no_type ok.program.tree p fault ok.program.typed (subst P (tree_one tokens_once tree_once text tree ok.program.tree has ok.program.parsed) is)
  apart text p (Nodes count) ok (q, is, (more, told)) =
      let P : Typing → Type 0 = λ r. IsWithin r in
      let within = subst P (same_program text p q ok.program is) ok.within in
      let n = within.nodes in
      omega (arith, more, n)
  apart text p (InlineDepth span) ok (q, is, (few, deep)) =
      let P : Typing → Type 0 = λ r. IsWithin r in
      let within = subst P (same_program text p q ok.program is) ok.within in
      within.depth deep.place deep.definition deep.is
  apart text p (Reads count) ok (q, is, within, many) =
      let P : Typing → Type 0 = λ r. HasTooMany r count in
      few_not_many p ok.reads count ok.are_reads ok.few (subst P (same_program text q p is ok.program) many)
  apart text p (Bits least) ok is = is
  apart text p (Latency clocks) ok is = is
