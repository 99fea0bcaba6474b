-- The names that are written in a text are names.
use Rattle.std.specs.Prelude.{◌≡◌, ◌≤◌, ℕ, List, length, true, All}
use Rattle.net_names.specs.Words.{is_name}
use Rattle.dk_base.specs.declared.span.Span.{Span}
use Rattle.wiring.specs.declared.right.Atom.{Atom}
use Rattle.wiring.specs.declared.right.Atom.TheVariants as atom
use Rattle.verilog_text.specs.declared.written.WrittenPort.{WrittenPort}
use Rattle.verilog_text.specs.declared.written.WrittenDeclaration.{WrittenDeclaration}
use Rattle.verilog_text.specs.declared.written.WrittenRight.{WrittenRight}
use Rattle.verilog_text.specs.declared.written.WrittenRight.TheVariants as right
use Rattle.verilog_text.specs.declared.written.WrittenAssign.{WrittenAssign}
use Rattle.verilog_text.specs.declared.written.WrittenUpdate.{WrittenUpdate}
use Rattle.verilog_text.specs.declared.written.WrittenUpdate.TheVariants as update
use Rattle.verilog_text.specs.Grammar.{Source}
use Rattle.verilog_text.specs.Stands.{bytes_at}

-- a name is at this span of the text
pub record IsNameSpan (text : List ℕ) (s : Span) : Type 0 where
  pub ordered : s.start ≤ s.stop
  pub within : s.stop ≤ length text
  pub name : is_name (bytes_at text s) ≡ true

module _ (text : List ℕ) where
  abbrev pub IsNamedAtom : Atom Span → Type 0
  IsNamedAtom (atom.Net s) = IsNameSpan text s
  IsNamedAtom (atom.Constant c) = Unit {0}

  abbrev pub IsNamedRight : WrittenRight → Type 0
  IsNamedRight (right.Copy a) = IsNamedAtom a
  IsNamedRight (right.Not a) = IsNamedAtom a
  IsNamedRight (right.Binary o a b) = IsNamedAtom a × IsNamedAtom b
  IsNamedRight (right.Choose c a b) = IsNamedAtom c × IsNamedAtom a × IsNamedAtom b
  IsNamedRight (right.Join a b) = IsNamedAtom a × IsNamedAtom b
  IsNamedRight (right.Repeat n a) = IsNamedAtom a
  IsNamedRight (right.Bit v k) = IsNameSpan text v
  IsNamedRight (right.Slice v m l) = IsNameSpan text v
  IsNamedRight (right.Word m i) = IsNameSpan text m × IsNamedAtom i

  pub record IsNamedAssign (a : WrittenAssign) : Type 0 where
    pub target : IsNameSpan text a.target
    pub right : IsNamedRight a.right

  abbrev pub IsNamedUpdate : WrittenUpdate → Type 0
  IsNamedUpdate (update.Set r a) = IsNameSpan text r × IsNamedAtom a
  IsNamedUpdate (update.Put m i a) = IsNameSpan text m × IsNamedAtom i × IsNamedAtom a

-- each name of the source is at its span
pub record IsNamedSource (text : List ℕ) (s : Source) : Type 0 where
  pub name : IsNameSpan text s.name
  pub ports : All (λ (p : WrittenPort). IsNameSpan text p.name) s.ports
  pub declarations : All (λ (d : WrittenDeclaration). IsNameSpan text d.name) s.declarations
  pub assigns : All (IsNamedAssign text) s.assigns
  pub updates : All (IsNamedUpdate text) s.updates
