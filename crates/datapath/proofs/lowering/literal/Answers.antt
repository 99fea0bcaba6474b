use Rattle.std.proofs.Common.{ap, ◌∙◌, sym, rules, FitsSigned}
use Rattle.std.proofs.lemmas.Int.{to_z-of_z}
use mir.Syntax.{w128}
use Rattle.dk_base.specs.Numbers.{code}
use Rattle.dk_base.specs.Types.{width_of}
use Rattle.datapath.proofs.Carried.{literal_carries}
use Rattle.datapath.proofs.Composed.{type_is}
use Rattle.datapath.proofs.lowering.literal.Goals as goal

pub returns-clause-value : goal.returns-clause-value
returns-clause-value c b =
    let value : FitsSigned w128 c.args.value = search rules in
    let bits = c.code_of.ensures.code ∙ ap (code (width_of c.args.ty)) (to_z-of_z w128 c.args.value value) ∙ sym (ap (λ i. code i c.args.value) c.width.ensures) in
    literal_carries b c.args.value c.args.ty _ _ c.width.ensures bits c.constant-bits.ensures.is (c.constant-bits.ensures.width b) c.requires.ty c.requires.value

pub returns-clause-made : goal.returns-clause-made
returns-clause-made c b = c.constant-bits.ensures.made b

pub returns-clause-known : goal.returns-clause-known
returns-clause-known c = c.constant-bits.ensures.known

pub constant-bits-requires-clause-width : goal.constant-bits-requires-clause-width
constant-bits-requires-clause-width c = type_is _ _ c.width.ensures c.requires.ty
