-- Used by private functions only.
-- The items of a program as one chain: which word comes after which item.
use Rattle.std.specs.Prelude.{if◌then◌else◌, List, [], ◌∷◌, Option, Some, None, Bool, true, false}
use Rattle.dk_lexer.specs.declared.token.Token.{Token}
use Rattle.dk_grammar.specs.Reading.{Phrases, Then, Done, Chain}
use Rattle.dk_parser.specs.declared.items.Lead.{Lead}
use Rattle.dk_parser.specs.declared.items.Lead.TheVariants as lead
use Rattle.source_words.specs.declared.word.Keyword.TheVariants as word
use Rattle.dk_parser.specs.declared.terminal.Terminal.{Terminal}
use Rattle.dk_parser.specs.declared.terminal.Terminal.TheVariants.{Keyword, EndOfText}
use Rattle.dk_parser.specs.declared.terminal.Mark.TheVariants as mark
use Rattle.dk_parser.specs.declared.tree.Literal.{Literal}
use Rattle.dk_parser.specs.declared.tree.Name.{Name}
use Rattle.dk_parser.specs.declared.tree.Input.{Input}
use Rattle.dk_parser.specs.Terminals.{terminal}
use Rattle.dk_parser.specs.Words.{Sign, AName, ALiteral}
use Rattle.dk_parser.specs.Programs.{Source, Definition, AnInput, ADefinition}

-- an input, a definition or an output
pub data Item : Type 0 where
  input : Input → Item
  definition : Definition → Item
  output : Name → Item

-- What follows the first word of an item.
abbrev pub AnItem : Lead → Phrases Token Item
AnItem lead.Input = Then AnInput (λ i. Done (input i))
AnItem lead.Let = Then (ADefinition false) (λ d. Done (definition d))
AnItem lead.Inline = Then (Sign (mark.Reserved word.Let)) (λ _. Then (ADefinition true) (λ d. Done (definition d)))
AnItem lead.Output = Then AName (λ n. Done (output n))
AnItem lead.End = λ ts v rest. ⊥

abbrev pub lead_of : Terminal → Option Lead
lead_of (Keyword word.Input) = Some lead.Input
lead_of (Keyword word.Let) = Some lead.Let
lead_of (Keyword word.Inline) = Some lead.Inline
lead_of (Keyword word.Output) = Some lead.Output
lead_of EndOfText = Some lead.End
lead_of _ = None

-- Inputs come first, definitions next, and then outputs, of which there is one before the end.
abbrev pub may_follow : Lead → Lead → Bool
may_follow lead.Input lead.End = false
may_follow lead.Input _ = true
may_follow lead.Let lead.Let = true
may_follow lead.Let lead.Inline = true
may_follow lead.Let lead.Output = true
may_follow lead.Inline lead.Let = true
may_follow lead.Inline lead.Inline = true
may_follow lead.Inline lead.Output = true
may_follow lead.Output lead.Output = true
may_follow lead.Output lead.End = true
may_follow _ _ = false

abbrev pub allowed : Lead → Option Lead → Option Lead
allowed m None = None
allowed m (Some n) = if may_follow m n then Some n else None

abbrev pub next : Lead → Token → Option Lead
next m t = allowed m (lead_of (terminal t))

abbrev pub is_end : Lead → Bool
is_end lead.End = true
is_end _ = false

-- Items, each with the word that the next one begins with, up to the end of the text.
abbrev pub Items : Lead → Phrases Token (List Item)
Items = Chain AnItem next is_end

abbrev pub inputs_of : List Item → List Input
inputs_of [] = []
inputs_of (input i ∷ vs) = i ∷ inputs_of vs
inputs_of (definition d ∷ vs) = inputs_of vs
inputs_of (output n ∷ vs) = inputs_of vs

abbrev pub definitions_of : List Item → List Definition
definitions_of [] = []
definitions_of (input i ∷ vs) = definitions_of vs
definitions_of (definition d ∷ vs) = d ∷ definitions_of vs
definitions_of (output n ∷ vs) = definitions_of vs

abbrev pub outputs_of : List Item → List Name
outputs_of [] = []
outputs_of (input i ∷ vs) = outputs_of vs
outputs_of (definition d ∷ vs) = outputs_of vs
outputs_of (output n ∷ vs) = n ∷ outputs_of vs

abbrev pub source : Literal → Literal → List Item → Source
source w h vs = record { width = w; height = h; inputs = inputs_of vs; definitions = definitions_of vs; outputs = outputs_of vs }

-- "size" NUMBER NUMBER, and the items from the first input on
abbrev pub AProgram : Phrases Token Source
AProgram =
    Then (Sign (mark.Reserved word.Size)) (λ _. Then ALiteral (λ w. Then ALiteral (λ h. Then (Sign (mark.Reserved word.Input)) (λ _.
    Then (Items lead.Input) (λ vs. Done (source w h vs))))))
