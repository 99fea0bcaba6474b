use Rattle.dk_base.specs.Frames.{Size}
use Rattle.edge_select.specs.Steps.{LeadOn}
use Rattle.edge_select.specs.Passes.{Passes}
use Rattle.edge_select.proofs.Walks.{extent_none, extent_same}
use Rattle.edge_select.proofs.extents.leading.Goals as goal

pub returns-in-Some : goal.returns-in-Some
returns-in-Some c =
    let size : Size = record { width = c.args.width; height = c.args.height } in
    let is = extent_same c.args.width c.args.height (Passes c.in-Some.rectangle) (LeadOn size c.args.steps.now) c.extent_of.result c.in-Some.ensures.passes (c.extent_of.ensures.always, c.extent_of.ensures.never) in
    record { always = is.0; never = is.1 }

pub returns-in-None : goal.returns-in-None
returns-in-None c =
    let size : Size = record { width = c.args.width; height = c.args.height } in
    let is = extent_none c.args.width c.args.height (LeadOn size c.args.steps.now) c.requires.some_columns c.requires.some_rows (λ x y low high. (c.in-None.ensures.passes x y low high).1) in
    record { always = is.0; never = is.1 }
