use Rattle.std.proofs.Common.{List, refl, sym, subst}
use Rattle.std.specs.Prelude.{slice_index_or}
use Rattle.dk_base.specs.declared.stencils.Image.{Image}
use Rattle.dk_base.specs.Stencils.{IsKept}
use Rattle.dk_base.proofs.Orders.{kept_at}
use Rattle.net_lines.proofs.lines.delay_at.Goals as goal

abbrev none : Image
none = record { number = 0; width = 0 }

pub delay-delay-requires : goal.delay-delay-requires
delay-delay-requires c =
    let images = c.args.plan.now.system.stencils.images in
    subst (λ (is : List Image). IsKept images (slice_index_or is c.args.k none).number) (sym c.images.ensures)
    (kept_at images c.args.k (slice_index_or images c.args.k none).number none c.requires refl)
