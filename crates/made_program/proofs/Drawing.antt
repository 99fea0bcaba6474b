-- The draws of an image, in three parts.
use Rattle.std.proofs.Common.{◌≡◌, ℕ, Bool, refl}
use Rattle.made_program.specs.declared.draws.BodyKind.{BodyKind}
use Rattle.made_program.specs.declared.draws.Reads.{Reads}
use Rattle.made_program.specs.Draws.{next, drawn, after, kind_of, reads_of, is_inlinable, draws_of}

pub image_draws : (k s t u : ℕ) (kind : BodyKind) (reads : Reads) (may : Bool) → kind ≡ kind_of (drawn 4 s) → t ≡ next s → reads ≡ reads_of k t → u ≡ after 5 t → may ≡ is_inlinable k (drawn 4 u)
    → record { kind = kind; reads = reads; inlinable = may } ≡ draws_of k s
image_draws k s t u kind reads may f e r g m = rw (f, r, m, g, e) refl
