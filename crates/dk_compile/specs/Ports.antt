-- Programs by the number of their inputs and outputs.
use Rattle.std.specs.Prelude.{◌≡◌, length}
use Rattle.dk_types.specs.Typed.{Typing}

-- the program takes one image and returns one
pub record IsOnePort (p : Typing) : Type 0 where
  pub input : length p.inputs ≡ 1
  pub output : length p.outputs ≡ 1
