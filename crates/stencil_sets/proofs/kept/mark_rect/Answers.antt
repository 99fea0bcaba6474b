use Rattle.std.proofs.Common.{ℤ, false, refl}
use Rattle.stencil_sets.specs.Paths.{IsIn}
use Rattle.stencil_sets.proofs.Marked.{marks_none, no_offset}
use Rattle.stencil_sets.proofs.kept.mark_rect.Goals as goal

pub returns-else-has_offset : goal.returns-else-has_offset
returns-else-has_offset c = record { more = marks_none c.args.kept.now (λ h. (x : ℤ) × (y : ℤ) × IsIn c.args.rect h x y) (λ g p. no_offset false refl (c.if-has_offset.ensures.no g p.0 p.1 p.2)) }
