use Rattle.std.proofs.Common.{◌<◌, sym, subst}
use Rattle.pointwise_ir.specs.Programs.{types_of}
use Rattle.program_images.proofs.Written.{greatest_output, output_some}
use Rattle.program_images.proofs.outputs.greatest_sample.Goals as goal

pub returns-clause-is : goal.returns-clause-is
returns-clause-is c = greatest_output (types_of c.args.ir.now) c.args.output c.type_of.result c.greatest.result c.requires c.type_of.ensures c.greatest.ensures

pub returns-clause-some : goal.returns-clause-some
returns-clause-some c =
    subst (λ n. 0 < n) (sym (greatest_output (types_of c.args.ir.now) c.args.output c.type_of.result c.greatest.result c.requires c.type_of.ensures c.greatest.ensures)) (output_some (types_of c.args.ir.now) c.args.output c.requires)
