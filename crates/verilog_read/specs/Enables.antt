-- Texts whose module has no port `en`.
use Rattle.std.specs.Prelude.{◌≡◌, ⊤, ℕ, Bool, false, IsTrue, List}
use Rattle.dk_base.specs.declared.span.Span.{Span}
use Rattle.netlist.specs.Names.{NamedNetlist}
use Rattle.verilog_text.specs.Grammar.{Source}
use Rattle.verilog_text.specs.Stands.{IsWritten, StandsFor}
use Rattle.verilog_text.specs.Faults.{IsFault}
use Rattle.verilog_read.specs.declared.enables.ModuleError.{ModuleError}
use Rattle.verilog_read.specs.declared.enables.ModuleError.TheVariants.{Fault, NoEnable, OutOfMemory}

-- The text's module, whose name is here, has no port `en`.
pub record HasNoEnable (text : List ℕ) (name : Span) : Type 0 where
  pub m : NamedNetlist
  pub stands : StandsFor text m
  pub without : m.netlist.enable ≡ false
  pub source : Source
  pub written : IsWritten text source
  pub name_is : name ≡ source.name

-- why a text has no module for a caller that may need the port `en`
abbrev pub IsModuleErrorBy : (needs_enable : Bool) → (text : List ℕ) → ModuleError → Type 0
IsModuleErrorBy needs_enable text (Fault fault) = IsFault text fault
IsModuleErrorBy needs_enable text (NoEnable name) = IsTrue needs_enable × HasNoEnable text name
IsModuleErrorBy needs_enable text OutOfMemory = ⊤
