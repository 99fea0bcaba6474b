use Rattle.std.proofs.Common.{◌≢◌, rules}
use Rattle.verilog_text.specs.declared.token.TokenKind.TheVariants as kind
use Rattle.verilog_parse.proofs.Fronts as F
use Rattle.verilog_parse.proofs.class.clock.Goals as goal

pub returns-else-eq : goal.returns-else-eq
returns-else-eq c =
    let other : c.peek-token.result.kind ≢ kind.Clock = search rules in
    record { parsed = F.stuck_other _ _ _ _ c.peek-token.ensures.next.1 other }
