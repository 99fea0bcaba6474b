use Rattle.std.proofs.Common.{ap, subst, rules, length, ◌≡◌, ◌≤◌, ◌<◌, List}
use Rattle.dk_base.specs.FrameSizes.{size_of}
use Rattle.dk_base.specs.declared.stencils.LiveRead.{LiveRead}
use Rattle.stencil_sets.proofs.Stenciled.{counted, too_many}
use Rattle.stencil_sets.proofs.live.stencils_of.Goals as goal

pub returns-in-None-clause-fault : goal.returns-in-None-clause-fault
returns-in-None-clause-fault c =
    let p = c.args.ir.now in
    let reads = c.args.reads.items in
    let n = c.count_of-count.result in
    let is : c.deref.result.now ≡ reads = search rules in
    counted p reads n c.requires.reads
    (subst (λ (rs : List LiveRead). length rs ≤ 65536 → n ≡ length rs) is c.count_of-count.ensures.few)
    (subst (λ (rs : List LiveRead). 65536 < length rs → n ≡ 65537) is c.count_of-count.ensures.many)
    (too_many p c.law.ensures c.args.images.items reads c.requires.parts.kept.images c.requires.parts.kept.form c.requires.reads (size_of c.size-size.result) (length c.inputs.result.now) c.args.outputs.items
    c.size-size.ensures (ap length c.inputs.ensures) c.requires.parts.outputs (λ s. let e = c.in-None.ensures.made.1 s in absurd (cc (e))))
