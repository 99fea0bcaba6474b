use Rattle.std.proofs.Common.{false, ap, ◌∙◌, get_or, List, Bool}
use Rattle.wiring.specs.declared.netlist.Net.TheVariants.{Input, Output, Wire, Reg}
use Rattle.wiring.specs.declared.netlist.Holder.TheVariants.{OfNet, OfArray}
use Rattle.wiring.proofs.MarkLists.{none_at}
use Rattle.wiring.proofs.marks.no_marks.Goals as goal

pub returns-clause-none : goal.returns-clause-none
returns-clause-none c (OfNet (Input i)) = ap (λ (l : List Bool). get_or l i false) c.in_ok-bare.ensures ∙ none_at _ i
returns-clause-none c (OfNet (Output i)) = ap (λ (l : List Bool). get_or l i false) c.in_ok-bare-2.ensures ∙ none_at _ i
returns-clause-none c (OfNet (Wire i)) = ap (λ (l : List Bool). get_or l i false) c.in_ok-bare-3.ensures ∙ none_at _ i
returns-clause-none c (OfNet (Reg i)) = ap (λ (l : List Bool). get_or l i false) c.in_ok-bare-4.ensures ∙ none_at _ i
returns-clause-none c (OfArray i) = ap (λ (l : List Bool). get_or l i false) c.in_ok-bare-5.ensures ∙ none_at _ i
