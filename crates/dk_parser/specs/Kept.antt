-- Used by private functions only.
-- What is kept of the items of a program.
use Rattle.std.specs.Prelude.{◌≡◌, ◌<◌, length, List, [], ◌∷◌, ◌++◌, Option, Some, None, Bool}
use Rattle.dk_base.specs.declared.span.Span.{Span}
use Rattle.dk_parser.specs.declared.items.Draft.{Draft}
use Rattle.dk_parser.specs.declared.items.Parts.{Parts}
use Rattle.dk_parser.specs.declared.items.Lead.{Lead}
use Rattle.dk_parser.specs.declared.tree.Literal.{Literal}
use Rattle.dk_parser.specs.Grammar.{Tokens}
use Rattle.dk_parser.specs.Grown.{Stands}
use Rattle.dk_parser.specs.Programs.{Definition, definitions_as, ADefinition}
use Rattle.dk_parser.specs.Items.{Item, inputs_of, definitions_of, outputs_of, AnItem, Items, AProgram, source}
use Rattle.dk_parser.specs.Judged.{AreShallow, first_deep}

pub record IsDraft (d : Draft) (e : Definition) : Type 0 where
  pub inline : d.inline ≡ e.inline
  pub name : d.name ≡ e.name
  pub declared : d.declared ≡ e.declared
  pub body : Stands d.body e.body

pub record GrownDraft (inline : Bool) (ts : Tokens) (draft : Draft) (rest : Tokens) : Type 0 where
  pub definition : Definition
  pub phrase : ADefinition inline ts definition rest
  pub fewer : length rest < length ts
  pub is_draft : IsDraft draft definition

-- all definitions, or where the first subtree is too deep
abbrev pub Keeps : Option Span → List Definition → List Definition → Type 0
Keeps None ds es = (ds ≡ es) × AreShallow es
Keeps (Some s) ds es = first_deep es ≡ Some s

pub record Holds (p : Parts) (vs : List Item) : Type 0 where
  pub inputs : p.inputs.items ≡ inputs_of vs
  pub definitions : Keeps p.deep (definitions_as p.definitions.items) (definitions_of vs)
  pub outputs : p.outputs.items ≡ outputs_of vs

pub record GrownItem (lead : Lead) (vs : List Item) (ts : Tokens) (parts : Parts) (rest : Tokens) : Type 0 where
  pub item : Item
  pub phrase : AnItem lead ts item rest
  pub fewer : length rest < length ts
  pub holds : Holds parts (vs ++ (item ∷ []))

pub record GrownItems (ts : Tokens) (parts : Parts) (rest : Tokens) : Type 0 where
  pub items : List Item
  pub phrase : Items Lead.Input ts items rest
  pub holds : Holds parts items

pub record GrownProgram (ts : Tokens) (width height : Literal) (parts : Parts) (rest : Tokens) : Type 0 where
  pub items : List Item
  pub phrase : AProgram ts (source width height items) rest
  pub holds : Holds parts items
