use Rattle.std.proofs.Common.{List, sym, subst, ap, ◌∙◌}
use Rattle.std.specs.Prelude.{pos, Contains, slice_index_or}
use Rattle.std.proofs.lemmas.List.Elements.{Contains-get_or}
use Rattle.dk_base.specs.declared.stencils.LiveRead.{LiveRead}
use Rattle.buffer_plan.specs.Plans.{read_age}
use Rattle.net_lines.proofs.lines.age_at.Goals as goal

abbrev none : LiveRead
none = record { f = 0; g = 0; dx = pos 0; dy = pos 0 }

pub age-age-requires : goal.age-age-requires
age-age-requires c =
    let reads = c.args.plan.now.system.stencils.reads in
    subst (λ (rs : List LiveRead). Contains reads (slice_index_or rs c.args.k none)) (sym c.live_reads.ensures) (Contains-get_or reads c.args.k none c.requires)

pub returns : goal.returns
returns c =
    let plan = c.args.plan.now in
    c.age-age.ensures.value ∙ ap (λ (rs : List LiveRead). read_age plan (slice_index_or rs c.args.k none)) c.live_reads.ensures
