-- A system that was worked out by hand.
use Rattle.std.specs.Prelude.{ℕ, ℤ, pos, [], ◌∷◌}
use Rattle.dk_base.specs.declared.stencils.Image.{Image}
use Rattle.dk_base.specs.declared.stencils.LiveRead.{LiveRead}
use Rattle.raster_delay.specs.declared.network.Constraint.{Constraint}
use Rattle.raster_delay.specs.Systems.{System}

abbrev byte : ℕ → Image
byte n = record { number = n; width = 8 }

abbrev read : (f g : ℕ) → ℤ → LiveRead
read f g dx = record { f = f; g = g; dx = dx; dy = pos 0 }

-- a frame of two columns and one row, two inputs, an output that reads one of them and the right neighbour in the other, and one that reads the first alone, each read at least one clock old
abbrev pub two_inputs : System
two_inputs = record {
  stencils = record {
    width = 2;
    height = 1;
    inputs = 2;
    outputs = 2 ∷ 3 ∷ [];
    images = byte 0 ∷ byte 1 ∷ byte 2 ∷ byte 3 ∷ [];
    reads = read 2 0 (pos 0) ∷ read 2 1 (pos 1) ∷ read 3 0 (pos 0) ∷ [];
  };
  age = 1;
}

abbrev pub leads : (source target : ℕ) → ℤ → Constraint
leads source target cost = record { source = source; target = target; cost = cost }
