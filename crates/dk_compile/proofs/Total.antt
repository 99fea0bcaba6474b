-- Each text is accepted or has a fault.
use Rattle.std.proofs.Common.{◌≡◌, ◌≢◌, ◌⊎◌, inl, inr, ℕ, zero, suc, ◌+◌, ◌<◌, ◌≤◌, min, List, length, slice_get, Option, Some, None, Bool, true, false, refl, subst, arith}
use Rattle.std.specs.List.{All}
use Rattle.std.proofs.lemmas.Bool.{cases_lt}
use Rattle.std.proofs.lemmas.Option.{slice_get_within}
use Rattle.dk_base.specs.declared.TheConstants.{MAX_SOURCE_BYTES, MAX_LIVE_READS, MAX_COUNTED_READS}
use Rattle.dk_base.specs.declared.span.Span.{Span}
use Rattle.dk_lexer.specs.declared.token.Token.{Token}
use Rattle.dk_lexer.specs.declared.fault.LexFault.{LexFault}
use Rattle.dk_lexer.specs.Lexis.{HasTokens, HasFault}
use Rattle.dk_lexer.specs.Faithful.{IsFaithful, IsEnded}
use Rattle.dk_parser.specs.declared.whole.ParseError.{ParseError}
use Rattle.dk_parser.specs.declared.whole.ParseError.TheVariants as parser
use Rattle.dk_parser.specs.Programs.{Source, AllConvertToTypes}
use Rattle.dk_parser.proofs.Conversions.{program_types}
use Rattle.dk_parser.specs.Programs as P
use Rattle.dk_parser.specs.Judged.{Accepted, Faults}
use Rattle.dk_types.specs.declared.fault.TypeFault.{TypeFault}
use Rattle.dk_types.specs.Typed.{Definition, Typing}
use Rattle.dk_types.specs.Types.{IsTyping, HasNumbers}
use Rattle.dk_types.specs.Faults.{IsFirstFault}
use Rattle.dk_types.proofs.Kept.{typed_is_kept}
use Rattle.pointwise_ir.specs.Trees.{depth_of}
use Rattle.dk_inline.specs.Inlined.{inlined_body, substitutes, stays}
use Rattle.dk_inline.specs.Nodes.{node_count, IsDeep, IsFirstDeep}
use Rattle.dk_inline.specs.Answers.{IsWithin}
use Rattle.source_fault.specs.declared.fault.SourceFault.{SourceFault}
use Rattle.source_fault.specs.declared.fault.SourceFault.TheVariants.{TooLong, Lex, Nest, Syntax, Depth, Types, Nodes, InlineDepth, Reads}
use Rattle.dk_compile.specs.Sources.{IsCut, HasTree, IsText, IsAccepted, IsSourceFault}
use Rattle.dk_compile.proofs.Numbers.{lexed_small, program_numbers}
use Rattle.dk_compile.proofs.Listed.{listed}

-- The first definition that is too deep.
module _ (p : Typing) where
  abbrev None_before : ℕ → Type 0
  None_before n = (k : ℕ) (d : Definition) → k < n → IsDeep p k d → ⊥

  one_more : (n : ℕ) → None_before n → ((d : Definition) → IsDeep p n d → ⊥) → None_before (suc n)
  one_more n before not k d lt is = elim (cases_lt k n) [
    | inl less ↦ before k d less is
    | inr most ↦ let same : k ≡ n = omega (arith, lt, most) in not d (subst (λ j. IsDeep p j d) same is)
  ]

  same_there : (n : ℕ) (d e : Definition) → slice_get p.definitions n ≡ Some d → IsDeep p n e → e ≡ d
  same_there n d e at is = let there = is.at in cc

  at_place : (n : ℕ) → None_before n → (o : Option Definition) → slice_get p.definitions n ≡ o → None_before (suc n) ⊎ ((name : Span) × IsFirstDeep p name)
  at_place n before None at = inl (one_more n before (λ d is. let there = is.at in cc))
  at_place n before (Some d) at = by (stays p n d) refl
    where
      by : (b : Bool) → stays p n d ≡ b → None_before (suc n) ⊎ ((name : Span) × IsFirstDeep p name)
      by false stay = inl (one_more n before (λ e is. let P : Definition → Type 0 = λ x. IsDeep p n x in let there = (subst P (same_there n d e at is) is).stays in cc))
      by true stay = elim (cases_lt 1024 (depth_of (inlined_body (substitutes p) d))) [
        | inl deep ↦ inr (d.name.span, record { place = n; definition = d; is = record { at = at; stays = stay; deep = deep }; before = before; named = refl })
        | inr most ↦ inl (one_more n before (λ e is. let P : Definition → Type 0 = λ x. IsDeep p n x in let deep = (subst P (same_there n d e at is) is).deep in omega (arith, most, deep)))
      ]

  search_to : (n : ℕ) → None_before n ⊎ ((name : Span) × IsFirstDeep p name)
  search_to zero = inl (λ k d lt is. absurd (omega (arith, lt)))
  search_to (suc n) = elim (search_to n) [ inr found ↦ inr found | inl before ↦ at_place n before (slice_get p.definitions n) refl ]

  deep_or_not : ((k : ℕ) (d : Definition) → IsDeep p k d → ⊥) ⊎ ((name : Span) × IsFirstDeep p name)
  deep_or_not = elim (search_to (length p.definitions)) [
    | inl before ↦ inl (λ k d is. before k d (slice_get_within p.definitions k d is.at) is)
    | inr found ↦ inr found
  ]

abbrev pub Judged : List ℕ → Type 0
Judged text = ((p : Typing) × IsAccepted text p) ⊎ ((f : SourceFault) × IsSourceFault text f)

-- within the limits on nodes and depth
counted : (text : List ℕ) (p : Typing) → IsText text p → IsWithin p → Judged text
counted text p is within =
    let (reads, are) = listed p (typed_is_kept is.tree p is.typed) in
    elim (cases_lt MAX_LIVE_READS (length reads)) [
      | inr few ↦ inl (p, record { program = is; within = within; reads = reads; are_reads = are; few = few })
      | inl more ↦ elim (cases_lt MAX_COUNTED_READS (length reads)) [
        | inr told ↦ inr (Reads (length reads), (p, is, within, record { more = more; counted = inl (record { reads = reads; are_reads = are; count_is = refl; few = told }) }))
        | inl many ↦ inr (
          Reads (MAX_COUNTED_READS + 1),
          (p, is, within, record { more = omega arith; counted = inr (record { reads = reads; in_order = are.in_order; sound = λ r. (are.exact r).0; many = many; count_is = refl }) }),
        )
      ]
    ]

sized : (text : List ℕ) (p : Typing) → IsText text p → Judged text
sized text p is = elim (cases_lt 65536 (node_count p)) [
  | inl more ↦ inr (Nodes (min (node_count p) 18446744073709551615), (p, is, (more, refl)))
  | inr few ↦ elim (deep_or_not p) [
    | inl none ↦ counted text p is (record { nodes = few; depth = none })
    | inr deep ↦ inr (InlineDepth deep.0, (p, is, (few, deep.1)))
  ]
]

parse_fault : (text : List ℕ) (tokens : List Token) → IsCut text tokens → (f : ParseError) → Faults tokens f → f ≢ parser.OutOfMemory → Judged text
parse_fault text tokens cut (parser.Nest span) is some = inr (Nest span, (tokens, cut, is))
parse_fault text tokens cut (parser.Syntax span) is some = inr (Syntax span, (tokens, cut, is))
parse_fault text tokens cut (parser.Depth span) is some = inr (Depth span, (tokens, cut, is))
parse_fault text tokens cut parser.OutOfMemory is some = absurd (some refl)

module _ (lex_some : (text : List ℕ) → ((tokens : List Token) × HasTokens text tokens) ⊎ ((fault : LexFault) × HasFault text fault))
    (faithful : (text : List ℕ) (tokens : List Token) → HasTokens text tokens → IsFaithful text tokens)
    (parse_some : (ts : List Token) → IsEnded ts → ((p : Source) × Accepted ts p) ⊎ ((f : ParseError) × Faults ts f × (f ≢ parser.OutOfMemory)))
    (type_some : (p : Source) → All (λ (d : P.Definition). HasNumbers d.body) p.definitions → AllConvertToTypes p → ((t : Typing) × IsTyping p t) ⊎ ((f : TypeFault) × IsFirstFault p f)) where
  -- a text that is not too long
  judged_within : (text : List ℕ) → length text ≤ MAX_SOURCE_BYTES → Judged text
  judged_within text within = elim (lex_some text) [
    | inr bad ↦ inr (Lex bad.0, (within, bad.1))
    | inl lexed ↦
        let cut : IsCut text lexed.0 = record { within = within; are = lexed.1 } in
        elim (parse_some lexed.0 (faithful text lexed.0 lexed.1).ended) [
          | inr bad ↦ parse_fault text lexed.0 cut bad.0 bad.1 bad.2
          | inl parsed ↦
              let has : HasTree text parsed.0 = record { tokens = lexed.0; cut = cut; parsed = parsed.1 } in
              elim (type_some parsed.0 (program_numbers lexed.0 parsed.0 parsed.1.derives (lexed_small lexed.1)) (program_types lexed.0 parsed.0 parsed.1.derives)) [
                | inr bad ↦ inr (Types bad.0, (parsed.0, has, bad.1))
                | inl typed ↦ sized text typed.0 (record { tree = parsed.0; parsed = has; typed = typed.1 })
              ]
        ]
  ]

  pub judged : (text : List ℕ) → Judged text
  judged text = elim (cases_lt MAX_SOURCE_BYTES (length text)) [ inl more ↦ inr (TooLong, more) | inr few ↦ judged_within text few ]
