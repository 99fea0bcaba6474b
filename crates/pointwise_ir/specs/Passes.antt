-- What a pass over a program keeps.
use Rattle.std.specs.Prelude.{◌≡◌, ◌↔◌, ℕ, ℤ, List}
use Rattle.dk_base.specs.Frames.{Picture}
use Rattle.pointwise_ir.specs.Programs.{Program, names_of, types_of}
use Rattle.dk_base.specs.Frames.{picture_at}
use Rattle.pointwise_ir.specs.Meaning.{pictures, IsRound}
use Rattle.pointwise_ir.specs.Reads.{IsLive, Kept}

pub record KeepsMeaning (old new : Program) : Type 0 where
  pub size : new.size ≡ old.size
  pub inputs : new.inputs ≡ old.inputs
  pub outputs : new.outputs ≡ old.outputs
  pub names : names_of new ≡ names_of old
  pub types : types_of new ≡ types_of old
  pub meaning : (round : List Picture) → IsRound old round → (g : ℕ) (x y : ℤ) → picture_at (pictures new round) g x y ≡ picture_at (pictures old round) g x y
  pub kept : (g : ℕ) → Kept new g ↔ Kept old g
  pub live : (f g : ℕ) (dx dy : ℤ) → Kept old f → IsLive new f g dx dy ↔ IsLive old f g dx dy
