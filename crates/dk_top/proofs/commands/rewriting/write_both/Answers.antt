use Rattle.std.proofs.Common.{◌≡◌, ap, IfSome, OnErr, rules}
use Rattle.dk_desk.specs.declared.Stage.TheVariants.{Open}
use Rattle.dk_desk.specs.Outside.{Outside}
use Rattle.dk_top.specs.State.{HasOwnFile}
use Rattle.dk_top.specs.Texts.{IsPrefix}
use Rattle.dk_top.proofs.RewriteLemmas.{stays_prefix}
use Rattle.dk_top.proofs.FileLemmas.{own_stays}
use Rattle.dk_top.proofs.commands.rewriting.write_both.Goals as goal

pub returns-in_err-write_report : goal.returns-in_err-write_report
returns-in_err-write_report g c =
    let mid : Outside = g.D.Desk.outside c.write_file.new.desk in
    let new : Outside = g.D.Desk.outside c.write_report.new.desk in
    let prefix : OnErr c.from_residual-in_err-write_report.result (new.file.stage ≡ Open → IfSome new.file.bytes (λ written. IsPrefix written c.args.text.now)) =
    stays_prefix c.from_residual-in_err-write_report.result _ c.args.text.now mid new (ap (λ (o : Outside). o.file) c.write_report.ensures.only) c.in_ok-write_file.ensures.whole in
    let own : HasOwnFile new = own_stays mid new (ap (λ (o : Outside). o.files) c.write_report.ensures.only) (ap (λ (o : Outside). o.file) c.write_report.ensures.only) c.in_ok-write_file.ensures.own in
    search (rules, prefix, own)
