use Rattle.std.proofs.Common.{All, sym, subst, ◌++◌}
use Rattle.std.proofs.lemmas.List.Elements.{All-append}
use Rattle.wiring.specs.Sizes.{IsConstant}
use Rattle.wiring.specs.Rights.{atom_constants, constants_of}
use Rattle.netlist.proofs.resolve.right.Goals as goal

pub returns-in_ok-atom-in-Choose-3-clause-constants : goal.returns-in_ok-atom-in-Choose-3-clause-constants
returns-in_ok-atom-in-Choose-3-clause-constants c some =
    let test = c.in-Choose.c in
    let first = c.in-Choose.a in
    let second = c.in-Choose.b in
    subst (λ r. All IsConstant (constants_of r)) (sym c.in-Choose.is)
    (All-append IsConstant (atom_constants test ++ atom_constants first) (atom_constants second)
    (All-append IsConstant (atom_constants test) (atom_constants first) c.atom-in-Choose.ensures.constants c.atom-in-Choose-2.ensures.constants)
    c.atom-in-Choose-3.ensures.constants)
