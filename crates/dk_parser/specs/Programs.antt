-- Programs without where they lie in memory, and their inputs and definitions.
use Rattle.std.specs.Prelude.{List, [], ◌∷◌, Option, Some, None, Bool, true, false, All}
use Rattle.dk_base.specs.declared.span.Span.{Span}
use Rattle.dk_lexer.specs.declared.token.Token.{Token}
use Rattle.dk_lexer.specs.declared.token.Symbol.TheVariants.{Open, Close, Comma, Colon, Equal}
use Rattle.dk_grammar.specs.Reading.{Phrases, One, Then, Done}
use Rattle.source_words.specs.declared.word.Keyword.TheVariants as word
use Rattle.dk_parser.specs.declared.terminal.Terminal.{Terminal}
use Rattle.dk_parser.specs.declared.terminal.Terminal.TheVariants.{Symbol as Sym}
use Rattle.dk_parser.specs.declared.terminal.Mark.TheVariants as mark
use Rattle.dk_parser.specs.declared.tree.Literal.{Literal}
use Rattle.dk_parser.specs.declared.tree.Name.{Name}
use Rattle.dk_parser.specs.declared.tree.TypeWord.{TypeWord}
use Rattle.dk_parser.specs.declared.tree.Input.{Input}
use Rattle.dk_parser.specs.declared.tree.Def.{Def}
use Rattle.dk_parser.specs.declared.tree.Program.{Program}
use Rattle.dk_parser.specs.Tree.{Tree, tree_of, ConvertsToTypes}
use Rattle.dk_parser.specs.Terminals.{terminal}
use Rattle.dk_parser.specs.Words.{Gives, Sign, AName, AType}
use Rattle.dk_parser.specs.Grammar.{Closed}

-- a definition without where it lies in memory
pub record Definition : Type 0 where
  pub inline : Bool
  pub name : Name
  pub declared : Option TypeWord
  pub body : Tree

-- a program without where it lies in memory
pub record Source : Type 0 where
  pub width : Literal
  pub height : Literal
  pub inputs : List Input
  pub definitions : List Definition
  pub outputs : List Name

-- each conversion of its bodies is to a type of 1 to 64 bits
abbrev pub AllConvertToTypes : Source → Type 0
AllConvertToTypes p = All (λ d. ConvertsToTypes d.body) p.definitions

abbrev pub definition_of : Def → Definition
definition_of d = record { inline = d.inline; name = d.name; declared = d.declared; body = tree_of d.body }

abbrev pub definitions_as : List Def → List Definition
definitions_as [] = []
definitions_as (d ∷ ds) = definition_of d ∷ definitions_as ds

-- what a parsed program is as a source
abbrev pub source_of : Program → Source
source_of p = record { width = p.width; height = p.height; inputs = p.inputs.items; definitions = definitions_as p.definitions.items; outputs = p.outputs.items }

-- NAME ":" TYPE
abbrev pub AnInput : Phrases Token Input
AnInput = Then AName (λ n. Then (Sign (mark.Sign Colon)) (λ _. Then AType (λ t. Done (record { name = n; ty = t }))))

-- whether a type is declared
abbrev pub declares : Terminal → Option Bool
declares (Sym Colon) = Some true
declares (Sym Equal) = Some false
declares _ = None

abbrev pub AfterDeclares : Bool → Phrases Token (Option TypeWord)
AfterDeclares true = Then AType (λ t. Then (Sign (mark.Sign Equal)) (λ _. Done (Some t)))
AfterDeclares false = Done None

-- [":" TYPE] "="
abbrev pub Declared : Phrases Token (Option TypeWord)
Declared = Then (One (Gives (λ t. declares (terminal t)))) (λ b. AfterDeclares b)

-- "im" "(" "x" "," "y" ")"
abbrev pub Header : Phrases Token Span
Header =
    Then (Sign (mark.Reserved word.Im)) (λ _. Then (Sign (mark.Sign Open)) (λ _. Then (Sign (mark.Reserved word.X)) (λ _.
    Then (Sign (mark.Sign Comma)) (λ _. Then (Sign (mark.Reserved word.Y)) (λ _. Sign (mark.Sign Close))))))

-- NAME [":" TYPE] "=" "im" "(" "x" "," "y" ")" expr "end"
abbrev pub ADefinition : Bool → Phrases Token Definition
ADefinition b =
    Then AName (λ n. Then Declared (λ d. Then Header (λ _. Then (Closed (mark.Reserved word.End)) (λ e.
    Done (record { inline = b; name = n; declared = d; body = e.0 })))))
