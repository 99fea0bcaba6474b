use Rattle.std.proofs.Common.{rules, w32}
use Rattle.std.proofs.lemmas.Int.{to_z-of_z}
use Rattle.dk_base.specs.FrameSizes.{size_of}
use Rattle.frame_paths.proofs.Walks.{joined_leads, leads_moved}
use Rattle.frame_paths.proofs.path.Path.step.Goals as goal

pub returns-clause-leads : goal.returns-clause-leads
returns-clause-leads c =
    let p = c.args.self in
    let x = to_z-of_z w32 c.args.dx (search rules) in
    let y = to_z-of_z w32 c.args.dy (search rules) in
    joined_leads (size_of c.args.size) p c.args.edge c.args.dx c.args.dy c.step-across.result c.step-down.result c.joined.result
    (leads_moved c.args.size.width p.across c.args.edge c.args.dx _ c.step-across.result x c.step-across.ensures.leads)
    (leads_moved c.args.size.height p.down c.args.edge c.args.dy _ c.step-down.result y c.step-down.ensures.leads) c.joined.ensures.leads
