-- The names of a text's images.
use Rattle.std.proofs.Common.{◌≡◌, ℕ, true, List, length, arith}
use Rattle.std.proofs.lemmas.List.{length-map, length-append}
use Rattle.std.proofs.lemmas.List.Elements.{All-from_recursion}
use Rattle.dk_lexer.specs.declared.token.Token.{Token}
use Rattle.dk_lexer.specs.Lexis.{HasTokens}
use Rattle.dk_parser.specs.Programs.{Source}
use Rattle.dk_parser.specs.Judged.{Accepted}
use Rattle.dk_types.specs.declared.typed.TypedInput.{TypedInput}
use Rattle.dk_types.specs.Typed.{Definition, Typing}
use Rattle.dk_types.specs.Types.{IsTyping}
use Rattle.dk_types.proofs.Kept.{typed_is_kept}
use Rattle.dk_inline.specs.Answers.{image_names}
use Rattle.source_words.specs.Words.{is_name}
use Rattle.report_text.specs.Reports.{AreNames}
use Rattle.source_names.proofs.Spelled.{spelled}
use Rattle.source_names.proofs.Treed.{tree_named}
use Rattle.source_names.proofs.Scoped.{input_names, definition_names, names_distinct, names_are}

pub text_names : (text : List ℕ) (tokens : List Token) (tree : Source) (p : Typing) → HasTokens text tokens → Accepted tokens tree → IsTyping tree p → AreNames (length p.inputs) (image_names p)
text_names text tokens tree p cut parsed is =
    let named = tree_named tokens tree (spelled cut) parsed.derives in
    let typed = typed_is_kept tree p is in
    let few = typed.few_definitions in
    record {
      each = All-from_recursion (λ name. is_name name ≡ true) (image_names p) (names_are tree p named is);
      distinct = names_distinct tree p is;
      few = omega (
        arith,
        few,
        length-append (input_names p.inputs) (definition_names p.definitions),
        length-map p.inputs (λ (i : TypedInput). i.name.text),
        length-map p.definitions (λ (d : Definition). d.name.text),
      );
    }
