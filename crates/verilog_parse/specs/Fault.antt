-- The faults that are found before any limit is judged.
use Rattle.std.specs.Prelude.{ℕ, List}
use Rattle.verilog_text.specs.declared.fault.TextFault.{TextFault}
use Rattle.verilog_text.specs.declared.fault.TextFault.TheVariants.{Syntax, NotInSubset, Limit, Net}
use Rattle.dk_base.specs.declared.span.Span.{Span}
use Rattle.verilog_text.specs.declared.token.Token.{Token}
use Rattle.verilog_text.specs.declared.token.TokenKind.{TokenKind}
use Rattle.verilog_text.specs.declared.token.TokenKind.TheVariants.{Refused}
use Rattle.verilog_text.specs.Faults.{IsFault}

-- no tokens, or tokens that are no module
abbrev pub IsParseFault : List ℕ → TextFault → Type 0
IsParseFault text (Limit f) = ⊥
IsParseFault text (Net s f) = ⊥
IsParseFault text f = IsFault text f

abbrev pub fault_of : TokenKind → Span → TextFault
fault_of Refused s = NotInSubset s
fault_of _ s = Syntax s

-- the fault of a module that this token doesn't continue
abbrev pub fault_at : Token → TextFault
fault_at t = fault_of t.kind t.span
