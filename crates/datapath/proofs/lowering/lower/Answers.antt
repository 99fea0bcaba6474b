use Rattle.std.proofs.Common.{◌+◌, ◌≤◌, length, subst, arith}
use Rattle.wiring.specs.Netlist.{Netlist}
use Rattle.datapath.proofs.Named.{named_carries}
use Rattle.datapath.proofs.Gates.{leaves_have}
use Rattle.datapath.proofs.Growth.{then_grows, has_width_of}
use Rattle.datapath.proofs.Composed.{type_is}
use Rattle.datapath.proofs.ExpressionParts.{leaves_one, leaves_clamp}
use Rattle.datapath.proofs.Walked.{whole_part, leaves_as, part_as, walked_over}
use Rattle.datapath.proofs.lowering.lower.Goals as goal

pub walk-requires-clause-leaves : goal.walk-requires-clause-leaves
walk-requires-clause-leaves c = leaves_as _ _ _ _ _ c.as_slice-reads.ensures.value c.as_slice-bits.ensures.value (leaves_have _ _ _ c.law.ensures.fits c.requires.nets)

pub walk-requires-clause-part : goal.walk-requires-clause-part
walk-requires-clause-part c = part_as _ _ _ _ _ c.as_slice-reads.ensures.value c.as_slice-bits.ensures.value (whole_part _ _ _ c.requires.leaves)

pub returns-in_err-net-clause-grows : goal.returns-in_err-net-clause-grows
returns-in_err-net-clause-grows c = then_grows c.walk.ensures.grows c.in_err-net.ensures.net

pub returns-clause-grows : goal.returns-clause-grows
returns-clause-grows c = then_grows c.walk.ensures.grows c.in_ok-net.ensures.net.grows

pub returns-clause-value : goal.returns-clause-value
returns-clause-value c =
    let walked = walked_over _ _ _ _ _ _ _ c.as_slice-reads.ensures.value c.as_slice-bits.ensures.value c.in_ok-x.ensures.walked in
    named_carries _ _ c.in_ok-x.x.operand _ _ c.width.result _ c.width.ensures c.in_ok-net.ensures.net.grows.includes walked.carries c.in_ok-net.ensures.net.word

pub returns-clause-made : goal.returns-clause-made
returns-clause-made c =
    let walked = walked_over _ _ _ _ _ _ _ c.as_slice-reads.ensures.value c.as_slice-bits.ensures.value c.in_ok-x.ensures.walked in
    leaves_clamp (omega arith) (leaves_one c.in_ok-net.ensures.net.grows.includes c.in_ok-net.ensures.net.made walked.made)

pub returns-clause-constant : goal.returns-clause-constant
returns-clause-constant c h =
    let walked = c.in_ok-x.ensures.folds h in
    let more : length c.net_of.new.b.assigns ≤ length c.walk.new.b.assigns + 1 = c.net_of.ensures.one in
    subst (λ (b : Netlist). length c.net_of.new.b.assigns ≤ length b.assigns + 1) walked.1 more

pub net_of-requires : goal.net_of-requires
net_of-requires c =
    let x = c.in_ok-x.ensures.walked.carries.operand in
    record { width = type_is _ _ c.width.ensures x.ty; x = has_width_of c.width.ensures x.width }
