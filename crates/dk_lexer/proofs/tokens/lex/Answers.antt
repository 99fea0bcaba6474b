use Rattle.dk_lexer.proofs.Judged.{accepted, refused, closed}
use Rattle.dk_lexer.proofs.tokens.lex.Goals as goal

pub returns-clause-accepts : goal.returns-clause-accepts
returns-clause-accepts c = λ tokens h. accepted (λ found. found.items) c.args.source.now c.read.result tokens c.read.ensures h

pub returns-clause-refuses : goal.returns-clause-refuses
returns-clause-refuses c = λ fault h. refused (λ found. found.items) c.args.source.now c.read.result fault c.read.ensures h

pub returns-clause-ended : goal.returns-clause-ended
returns-clause-ended c = closed (λ found. found.items) c.args.source.now c.read.result c.read.ensures
