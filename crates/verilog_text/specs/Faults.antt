-- Why a text denotes no module: the passes one after another, each over the whole text.
use Rattle.std.specs.Prelude.{◌≡◌, ⊤, ℕ, List, Option, Some, None, slice_get}
use Rattle.std.specs.Option.{option_map}
use Rattle.dk_base.specs.declared.span.Span.{Span}
use Rattle.dk_grammar.specs.Reading.{IsFaulty}
use Rattle.netlist.specs.declared.parts.Parts.{Parts}
use Rattle.netlist.specs.declared.fault.Declared.{Declared}
use Rattle.netlist.specs.declared.fault.Declared.TheVariants.{Port, Declaration}
use Rattle.netlist.specs.declared.fault.Statement.{Statement}
use Rattle.netlist.specs.declared.fault.Statement.TheVariants.{Assign, Update}
use Rattle.netlist.specs.declared.fault.NetFault.{NetFault}
use Rattle.netlist.specs.declared.fault.NetFault.TheVariants.{Duplicate, Ports, Unknown, WrongSort, Divisor, Width, DrivenTwice, Undriven, Cycle}
use Rattle.netlist.specs.Faults.{IsFault as IsNetFault}
use Rattle.verilog_text.specs.declared.token.Token.{Token}
use Rattle.verilog_text.specs.declared.token.TokenKind.TheVariants.{Refused}
use Rattle.verilog_text.specs.declared.written.WrittenPort.{WrittenPort}
use Rattle.verilog_text.specs.declared.written.WrittenDeclaration.{WrittenDeclaration}
use Rattle.verilog_text.specs.declared.written.WrittenAssign.{WrittenAssign}
use Rattle.verilog_text.specs.declared.written.WrittenUpdate.{WrittenUpdate}
use Rattle.verilog_text.specs.declared.written.WrittenUpdate.TheVariants.{Set, Put}
use Rattle.verilog_text.specs.declared.fault.TextFault.{TextFault}
use Rattle.verilog_text.specs.declared.fault.TextFault.TheVariants.{Lex, Syntax, NotInSubset, Limit, Net}
use Rattle.verilog_text.specs.declared.fault.TextError.{TextError}
use Rattle.verilog_text.specs.declared.fault.TextError.TheVariants.{Fault, OutOfMemory}
use Rattle.verilog_text.specs.Lexis.{HasTokens, HasLexFault}
use Rattle.verilog_text.specs.Grammar.{Source, Module}
use Rattle.verilog_text.specs.Limits.{limit_fault}
use Rattle.verilog_text.specs.Stands.{IsWritten, ArePartsOf}

-- all tokens are those of a module
abbrev pub IsModule : List Token → Type 0
IsModule tokens = (s : Source) × Module tokens s

-- the first token that continues no module: those before it begin one, and those up to it begin none
pub record IsFaultyToken (text : List ℕ) (t : Token) : Type 0 where
  pub tokens : List Token
  pub has_tokens : HasTokens text tokens
  pub index : ℕ
  pub faulty : IsFaulty IsModule tokens index
  pub at : slice_get tokens index ≡ Some t

-- it is a word that the subset refuses, or it is not
pub record IsRefusedAt (text : List ℕ) (span : Span) : Type 0 where
  pub token : Token
  pub faulty : IsFaultyToken text token
  pub spanned : token.span ≡ span
  pub refused : token.kind ≡ Refused

pub record IsSyntaxAt (text : List ℕ) (span : Span) : Type 0 where
  pub token : Token
  pub faulty : IsFaultyToken text token
  pub spanned : token.span ≡ span
  pub allowed : token.kind ≡ Refused → ⊥

-- the name that is declared, and the name of what is driven
abbrev pub declared_span : Source → Declared → Option Span
declared_span s (Port k) = option_map (λ (p : WrittenPort). p.name) (slice_get s.ports k)
declared_span s (Declaration k) = option_map (λ (d : WrittenDeclaration). d.name) (slice_get s.declarations k)

abbrev pub updated_span : WrittenUpdate → Span
updated_span (Set r a) = r
updated_span (Put m i a) = m

abbrev pub driven_span : Source → Statement → Option Span
driven_span s (Assign k) = option_map (λ (a : WrittenAssign). a.target) (slice_get s.assigns k)
driven_span s (Update k) = option_map updated_span (slice_get s.updates k)

-- the span of a net fault: the module's name for Ports
abbrev pub fault_span : Source → NetFault → Option Span
fault_span s (Duplicate d) = declared_span s d
fault_span s Ports = Some s.name
fault_span s (Unknown t) = driven_span s t
fault_span s (WrongSort t) = driven_span s t
fault_span s (Divisor t) = driven_span s t
fault_span s (Width t) = driven_span s t
fault_span s (DrivenTwice t) = driven_span s t
fault_span s (Undriven d) = declared_span s d
fault_span s (Cycle k) = driven_span s (Assign k)

pub record HasNetFault (text : List ℕ) (span : Span) (f : NetFault) : Type 0 where
  pub source : Source
  pub written : IsWritten text source
  pub limits : limit_fault source ≡ None
  pub parts : Parts
  pub are_parts : ArePartsOf text source parts
  pub fault : IsNetFault parts f
  pub spanned : fault_span source f ≡ Some span

-- the fault of a text
abbrev pub IsFault : List ℕ → TextFault → Type 0
IsFault text (Lex f) = HasLexFault text f
IsFault text (Syntax span) = IsSyntaxAt text span
IsFault text (NotInSubset span) = IsRefusedAt text span
IsFault text (Limit f) = (s : Source) × IsWritten text s × (limit_fault s ≡ Some f)
IsFault text (Net span f) = HasNetFault text span f

-- an error is such a fault, or out of memory, of which the text says nothing
abbrev pub IsErrorBy : (TextFault → Type 0) → TextError → Type 0
IsErrorBy is (Fault fault) = is fault
IsErrorBy is OutOfMemory = ⊤

-- the same fault; of a cycle any target on it may be named
abbrev pub Agrees : TextFault → TextFault → Type 0
Agrees (Net a (Cycle j)) (Net b (Cycle k)) = Unit {0}
Agrees f g = f ≡ g
