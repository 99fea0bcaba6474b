-- What is within the limits, item by item.
use Rattle.std.specs.Prelude.{◌≡◌, None}
use Rattle.verilog_text.specs.declared.written.WrittenPort.{WrittenPort}
use Rattle.verilog_text.specs.declared.written.WrittenSort.{WrittenSort}
use Rattle.verilog_text.specs.declared.written.WrittenSort.TheVariants as sort
use Rattle.verilog_text.specs.declared.written.WrittenDeclaration.{WrittenDeclaration}
use Rattle.verilog_text.specs.declared.written.WrittenAssign.{WrittenAssign}
use Rattle.verilog_text.specs.Limits.{width_fault, words_fault, right_fault}

abbrev pub WordsFit : WrittenSort → Type 0
WordsFit sort.Wire = Unit {0}
WordsFit sort.Reg = Unit {0}
WordsFit (sort.Array words) = words_fault words ≡ None

abbrev pub PortFits : WrittenPort → Type 0
PortFits p = width_fault p.bits ≡ None

abbrev pub DeclarationFits : WrittenDeclaration → Type 0
DeclarationFits d = (width_fault d.bits ≡ None) × WordsFit d.sort

abbrev pub AssignFits : WrittenAssign → Type 0
AssignFits a = right_fault a.right ≡ None
