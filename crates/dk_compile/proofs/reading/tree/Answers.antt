use Rattle.std.proofs.Common.{◌≤◌, List, length, subst, arith}
use Rattle.std.proofs.lemmas.Result.{err_from_is_err_and}
use Rattle.dk_base.specs.declared.TheConstants.{MAX_SOURCE_BYTES}
use Rattle.dk_lexer.specs.declared.token.Token.{Token}
use Rattle.dk_parser.specs.Judged.{Faults}
use Rattle.dk_compile.specs.Sources.{IsCut}
use Rattle.dk_compile.proofs.Errors.{parse_error}
use Rattle.dk_compile.proofs.reading.tree.Goals as goal

pub returns-in_err-program-clause-fault : goal.returns-in_err-program-clause-fault
returns-in_err-program-clause-fault c =
    let p = err_from_is_err_and c.from_residual-in_err-program.result c.from_residual-in_err-program.ensures.1 in
    let few = c.if-text-gt-MAX_SOURCE_BYTES.false in
    let within : length c.args.text.now ≤ MAX_SOURCE_BYTES = omega (arith, few) in
    let cut : IsCut c.args.text.now c.in_ok-tokens.tokens.items = record { within = within; are = c.in_ok-tokens.ensures.tokens } in
    let P : List Token → Type 0 = λ ts. Faults ts c.in_err-program.field-0.0 in
    rw (p.1, p.2) (parse_error c.args.text.now c.in_ok-tokens.tokens.items c.in_err-program.field-0.0 cut (subst P c.deref.ensures.value c.in_err-program.ensures.judged))
