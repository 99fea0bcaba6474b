-- The pixels that steps lead by exactly some way, as columns and rows.
use Rattle.std.specs.Prelude.{◌≡◌, ◌↔◌, ℕ, ◌<◌, ℤ, Bool, ◌&&◌, Option, Some, None, IfSome, List}
use Rattle.dk_base.specs.Frames.{Size}
use Rattle.frame_paths.specs.declared.path.Path.{Path}
use Rattle.frame_paths.specs.Moves.{IsIn, IsInterval}
use Rattle.frame_paths.specs.Paths.{LeadsTo}
use Rattle.edge_select.specs.declared.step.Step.{Step}
use Rattle.edge_select.specs.declared.extents.Extent.{Extent}
use Rattle.edge_select.specs.declared.extents.Extent.TheVariants.{Never, Always}
use Rattle.edge_select.specs.declared.paths.Rectangle.{Rectangle}
use Rattle.wiring.specs.Snapshot.{Snapshot, net_value}
use Rattle.edge_select.specs.declared.pixel.Pixel.{Pixel}
use Rattle.edge_select.specs.Logic.{is_within}
use Rattle.edge_select.specs.Pixels.{AllPass, NonePass}
use Rattle.edge_select.specs.Steps.{Lead}

-- first the path, and then the steps
abbrev pub LeadsThenOn : Size → Path → List Step → (x y u v : ℤ) → Type 0
LeadsThenOn size p steps x y u v = (w : ℤ) × (z : ℤ) × LeadsTo p x y w z × Lead size steps w z u v

-- the pixel is in one of the columns and in one of the rows
pub record Passes (r : Rectangle) (x y : ℕ) : Type 0 where
  pub across : IsIn r.across x
  pub down : IsIn r.down y

abbrev pub PassesOn : Option Rectangle → (x y : ℕ) → Type 0
PassesOn None x y = ⊥
PassesOn (Some r) x y = Passes r x y

-- columns and rows of a frame
pub record IsRectangle (size : Size) (r : Rectangle) : Type 0 where
  pub across : IsInterval size.width r.across
  pub down : IsInterval size.height r.down

-- in a snapshot the pixel's nets are in the rectangle
abbrev pub is_in_rectangle : Pixel → Rectangle → Snapshot → Bool
is_in_rectangle p r s = is_within p.size.width r.across.first r.across.last (net_value s p.column) && is_within p.size.height r.down.first r.down.last (net_value s p.row)

-- The pixels of a frame that pass, as columns and rows, or none where none does.
pub record ArePixels (size : Size) (led : (x y : ℕ) → Type 0) (r : Option Rectangle) : Type 0 where
  -- they are columns and rows of the frame
  pub within : IfSome r (IsRectangle size)
  -- a pixel of the frame is among them exactly where it passes
  pub passes : (x y : ℕ) → x < size.width → y < size.height → PassesOn r x y ↔ led x y

-- How many pixels of a frame of this size pass.
pub record IsExtent (width height : ℕ) (passes : (x y : ℕ) → Type 0) (e : Extent) : Type 0 where
  -- all of them
  pub always : (e ≡ Always) ↔ AllPass width height passes
  -- or none
  pub never : (e ≡ Never) ↔ NonePass width height passes
