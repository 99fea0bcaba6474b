-- The parts and the module that a text denotes.
use Rattle.std.specs.Prelude.{◌≡◌, ℕ, ◌-◌, List, Option, None, take, drop, map}
use Rattle.dk_base.specs.declared.span.Span.{Span}
use Rattle.wiring.specs.declared.right.Atom.{Atom}
use Rattle.wiring.specs.declared.right.Atom.TheVariants as atom
use Rattle.wiring.specs.declared.right.Right.{Right}
use Rattle.wiring.specs.declared.right.Right.TheVariants.{Copy, Not, Binary, Choose, Join, Repeat, Bit, Slice, Word}
use Rattle.netlist.specs.declared.parts.Parts.{Parts}
use Rattle.netlist.specs.declared.parts.Port.{Port}
use Rattle.netlist.specs.declared.parts.Declaration.{Declaration}
use Rattle.netlist.specs.declared.parts.Sort.{Sort}
use Rattle.netlist.specs.declared.parts.Sort.TheVariants.{Wire, Reg, Array}
use Rattle.netlist.specs.declared.parts.NamedAssign.{NamedAssign}
use Rattle.netlist.specs.declared.parts.NamedUpdate.{NamedUpdate}
use Rattle.netlist.specs.declared.parts.NamedUpdate.TheVariants.{Set, Put}
use Rattle.netlist.specs.Names.{NamedNetlist}
use Rattle.netlist.specs.Faults.{IsModuleOf}
use Rattle.verilog_text.specs.declared.token.Token.{Token}
use Rattle.verilog_text.specs.declared.written.Range.{Range}
use Rattle.verilog_text.specs.declared.written.WrittenPort.{WrittenPort}
use Rattle.verilog_text.specs.declared.written.WrittenSort.{WrittenSort}
use Rattle.verilog_text.specs.declared.written.WrittenSort.TheVariants as sort
use Rattle.verilog_text.specs.declared.written.WrittenDeclaration.{WrittenDeclaration}
use Rattle.verilog_text.specs.declared.written.WrittenRight.{WrittenRight}
use Rattle.verilog_text.specs.declared.written.WrittenRight.TheVariants as right
use Rattle.verilog_text.specs.declared.written.WrittenAssign.{WrittenAssign}
use Rattle.verilog_text.specs.declared.written.WrittenUpdate.{WrittenUpdate}
use Rattle.verilog_text.specs.declared.written.WrittenUpdate.TheVariants as update
use Rattle.verilog_text.specs.Lexis.{HasTokens}
use Rattle.verilog_text.specs.Grammar.{Source, Module}
use Rattle.verilog_text.specs.Limits.{limit_fault, width_of, depth_of}

-- the bytes of a span
abbrev pub bytes_at : List ℕ → Span → List ℕ
bytes_at text s = take (s.stop - s.start) (drop s.start text)

-- what is written, with the names in place of their spans
module _ (text : List ℕ) where
  abbrev pub port_of : WrittenPort → Port
  port_of p = record { direction = p.direction; width = width_of p.bits; name = bytes_at text p.name }

  abbrev pub sort_of : Option Range → WrittenSort → Sort
  sort_of bits sort.Wire = Wire (width_of bits)
  sort_of bits sort.Reg = Reg (width_of bits)
  sort_of bits (sort.Array words) = Array (record { width = width_of bits; depth = depth_of words })

  abbrev pub declaration_of : WrittenDeclaration → Declaration
  declaration_of d = record { name = bytes_at text d.name; sort = sort_of d.bits d.sort }

  abbrev pub atom_of : Atom Span → Atom (List ℕ)
  atom_of (atom.Net s) = atom.Net (bytes_at text s)
  atom_of (atom.Constant c) = atom.Constant c

  abbrev pub right_of : WrittenRight → Right (List ℕ) (List ℕ)
  right_of (right.Copy a) = Copy (atom_of a)
  right_of (right.Not a) = Not (atom_of a)
  right_of (right.Binary o a b) = Binary o (atom_of a) (atom_of b)
  right_of (right.Choose c a b) = Choose (atom_of c) (atom_of a) (atom_of b)
  right_of (right.Join a b) = Join (atom_of a) (atom_of b)
  right_of (right.Repeat n a) = Repeat n.value (atom_of a)
  right_of (right.Bit v k) = Bit (bytes_at text v) k
  right_of (right.Slice v m l) = Slice (bytes_at text v) m l
  right_of (right.Word m i) = Word (bytes_at text m) (atom_of i)

  abbrev pub assign_of : WrittenAssign → NamedAssign
  assign_of a = record { target = bytes_at text a.target; right = right_of a.right }

  abbrev pub update_of : WrittenUpdate → NamedUpdate
  update_of (update.Set r a) = Set (bytes_at text r) (atom_of a)
  update_of (update.Put m i a) = Put (bytes_at text m) (atom_of i) (atom_of a)

-- this is written in the text
pub record IsWritten (text : List ℕ) (s : Source) : Type 0 where
  pub tokens : List Token
  pub has_tokens : HasTokens text tokens
  pub is_module : Module tokens s

-- these are the parts that are written, in the order of the text
pub record ArePartsOf (text : List ℕ) (s : Source) (p : Parts) : Type 0 where
  pub name : p.name ≡ bytes_at text s.name
  pub ports : p.ports.items ≡ map (port_of text) s.ports
  pub declarations : p.declarations.items ≡ map (declaration_of text) s.declarations
  pub assigns : p.assigns.items ≡ map (assign_of text) s.assigns
  pub updates : p.updates.items ≡ map (update_of text) s.updates

-- a text within the limits has these parts
pub record HasParts (text : List ℕ) (p : Parts) : Type 0 where
  pub source : Source
  pub written : IsWritten text source
  pub limits : limit_fault source ≡ None
  pub parts : ArePartsOf text source p

-- the text denotes this module
pub record StandsFor (text : List ℕ) (m : NamedNetlist) : Type 0 where
  pub parts : Parts
  pub has_parts : HasParts text parts
  pub is_module : IsModuleOf parts m
