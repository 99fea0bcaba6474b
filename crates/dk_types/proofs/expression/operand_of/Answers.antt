use Rattle.dk_parser.proofs.Depths.{span_at}
use Rattle.dk_types.proofs.expression.operand_of.Goals as goal

pub returns-clause-is : goal.returns-clause-is
returns-clause-is c = λ scope h. record {
  typed = h;
  stands = span_at c.args.source.now.span c.args.source.now.node;
}
