use Rattle.std.proofs.Common.{◌<◌, arith}
use Rattle.std.proofs.lemmas.Option.{slice_get_within}
use Rattle.pointwise_ir.specs.Programs.{types_of}
use Rattle.dk_compile.proofs.Narrowed.{no_wider_of}
use Rattle.dk_compile.proofs.narrowing.are_no_wider.Goals as goal

pub returns : goal.returns
returns c _ =
    let old = types_of c.args.old.now in
    let new = types_of c.args.new.now in
    no_wider_of old new (λ k t at.
    let within = slice_get_within old k t at in
    let past = c.loop-k-test.false in
    let count = c.image_count-count.ensures in
    c.loop-k.invariant.each k (let below : k < c.loop-k.k = omega (arith, within, past, count) in below))
