-- What is within the limits as a whole is so item by item.
use Rattle.std.proofs.Common.{◌≡◌, ℕ, ◌+◌, List, [], ◌∷◌, Option, Some, None, refl}
use Rattle.std.specs.Prelude.{All}
use Rattle.std.proofs.lemmas.List.Elements.{All-nil, All-cons}
use Rattle.verilog_text.specs.declared.written.WrittenPort.{WrittenPort}
use Rattle.verilog_text.specs.declared.written.WrittenSort.{WrittenSort}
use Rattle.verilog_text.specs.declared.written.WrittenSort.TheVariants as sort
use Rattle.verilog_text.specs.declared.written.WrittenDeclaration.{WrittenDeclaration}
use Rattle.verilog_text.specs.declared.written.WrittenAssign.{WrittenAssign}
use Rattle.verilog_text.specs.declared.fault.LimitFault.{LimitFault}
use Rattle.verilog_text.specs.Grammar.{Source}
use Rattle.verilog_text.specs.Limits.{or_else, width_fault, words_fault, bits_of, bits_fault, sort_fault, ports_fault, declarations_fault, right_fault, assigns_fault, limit_fault}
use Rattle.verilog_read.specs.Within.{WordsFit, PortFits, DeclarationFits, AssignFits}

both_none : (a b : Option LimitFault) → or_else a b ≡ None → (a ≡ None) × (b ≡ None)
both_none None b e = (refl, e)
both_none (Some f) b e = absurd (cc)

pub ports_fit : (ps : List WrittenPort) → ports_fault ps ≡ None → All PortFits ps
ports_fit [] e = All-nil PortFits
ports_fit (p ∷ ps) e = let h = both_none (width_fault p.bits) (ports_fault ps) e in All-cons PortFits p ps h.0 (ports_fit ps h.1)

words_fit : (d : WrittenDeclaration) (s : WrittenSort) (before : ℕ) → sort_fault d s before ≡ None → WordsFit s
words_fit d sort.Wire before e = tt
words_fit d sort.Reg before e = tt
words_fit d (sort.Array words) before e = (both_none (words_fault words) (bits_fault d (before + bits_of d.bits (sort.Array words))) e).0

pub declarations_fit : (before : ℕ) (ds : List WrittenDeclaration) → declarations_fault before ds ≡ None → All DeclarationFits ds
declarations_fit before [] e = All-nil DeclarationFits
declarations_fit before (d ∷ ds) e =
    let h = both_none (width_fault d.bits) (or_else (sort_fault d d.sort before) (declarations_fault (before + bits_of d.bits d.sort) ds)) e in
    let g = both_none (sort_fault d d.sort before) (declarations_fault (before + bits_of d.bits d.sort) ds) h.1 in
    All-cons DeclarationFits d ds (h.0, words_fit d d.sort before g.0) (declarations_fit (before + bits_of d.bits d.sort) ds g.1)

pub assigns_fit : (as' : List WrittenAssign) → assigns_fault as' ≡ None → All AssignFits as'
assigns_fit [] e = All-nil AssignFits
assigns_fit (a ∷ as') e = let h = both_none (right_fault a.right) (assigns_fault as') e in All-cons AssignFits a as' h.0 (assigns_fit as' h.1)

pub record FitsLimits (s : Source) : Type 0 where
  pub ports : All PortFits s.ports
  pub declarations : All DeclarationFits s.declarations
  pub assigns : All AssignFits s.assigns

pub source_fits : (s : Source) → limit_fault s ≡ None → FitsLimits s
source_fits s e =
    let h = both_none (ports_fault s.ports) (or_else (declarations_fault 0 s.declarations) (assigns_fault s.assigns)) e in
    let g = both_none (declarations_fault 0 s.declarations) (assigns_fault s.assigns) h.1 in
    record { ports = ports_fit s.ports h.0; declarations = declarations_fit 0 s.declarations g.0; assigns = assigns_fit s.assigns g.1 }
