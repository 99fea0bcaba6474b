use Rattle.std.proofs.Common.{◌≡◌, List, ℕ, ◌++◌, subst}
use Rattle.std.specs.Prelude.{ℤ, codes, decimal}
use Rattle.std.specs.Fmt.{signed_decimal}
use Rattle.dk_base.specs.declared.stencils.LiveRead.{LiveRead}
use Rattle.wiring.specs.declared.netlist.Net.{Net}
use Rattle.verilog_layout.specs.Layout.{net_name}
use Rattle.buffer_plan.specs.Plans.{read_age}
use Rattle.net_lines.specs.Lines.{net_at, read_at, field, read_place}
use Rattle.net_lines.proofs.Loops.{two}
use Rattle.net_lines.proofs.lines.push_read.Goals as goal

pub returns : goal.returns
returns c =
    let nets = c.args.nets.now in
    let plan = nets.plan.now in
    let m = nets.module.now in
    let read = read_at plan c.args.k in
    let start = c.args.out.now.items in
    let middle = c.push_place.new.out.items in
    let end = c.push_age.new.out.items in
    let net : List ℕ = field (net_name m (net_at nets.reads.now c.args.k)) in
    let place : middle ≡ start ++ read_place nets.ir.now read = subst (λ (r : LiveRead). middle ≡ start ++ read_place nets.ir.now r) c.read_of-read.ensures c.in_ok-push_place.ensures in
    let named : end ≡ middle ++ (net ++ (field (decimal c.age_at-age.result) ++ codes "\n")) =
    subst (λ (n : Net). end ≡ middle ++ (field (net_name m n) ++ (field (decimal c.age_at-age.result) ++ codes "\n"))) c.net.ensures c.in_ok-push_age.ensures in
    two start middle end (read_place nets.ir.now read) (net ++ (field (signed_decimal (read_age plan read)) ++ codes "\n")) place
    (subst (λ (age : ℤ). end ≡ middle ++ (net ++ (field (signed_decimal age) ++ codes "\n"))) c.age_at-age.ensures named)
