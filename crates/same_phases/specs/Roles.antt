-- What the private functions say of images by number and of expressions.
use Rattle.std.specs.Prelude.{◌≡◌, ◌⊎◌, ℕ, ◌≤◌, ◌<◌, ◌+◌, ◌*◌, ℤ, pos, negsuc, ◌+ℤ◌, ◌*ℤ◌, ◌<ℤ◌, IsTrue, false, List, length, slice_get, slice_index, ◌/◌, ◌%◌, Some, if◌then◌else◌}
use Rattle.dk_base.specs.Frames.{Size, Picture, in_frame, clamped, picture_at}
use Rattle.dk_base.specs.declared.ty.Ty.{Ty}
use Rattle.dk_types.specs.declared.typed.TypedRead.{TypedRead}
use Rattle.dk_types.specs.Typed.{Typed, fetch, chosen, Definition, Typing, types_of}
use Rattle.dk_types.specs.Reads.{IsDefinitionOf}
use Rattle.dk_types.specs.Meaning.{meaning, value, read_value}
use Rattle.same_phases.specs.declared.columns.Choice.{Choice}
use Rattle.same_phases.specs.declared.role.Role.{Role}
use Rattle.same_phases.specs.declared.role.Role.TheVariants.{Phase, Column, Frame}
use Rattle.same_phases.specs.Phases.{phase_of, phases_of}

-- the new frame is one phase of the old one, and the new inputs are the phases of the old ones by their number
pub record IsSplit (phases : ℕ) (old new : Typing) : Type 0 where
  pub some : 2 ≤ phases
  pub most : phases ≤ 8
  pub width : old.size.width ≡ phases * new.size.width
  pub height : new.size.height ≡ old.size.height
  pub input_count : length new.inputs ≡ phases * length old.inputs

-- a picture for each input of the old program
abbrev pub HasOneEach : Typing → List Picture → Type 0
HasOneEach old round = length round ≡ length old.inputs

-- image h of the new program shows phase p of image g of the old one
pub record IsPhase (phases : ℕ) (old new : Typing) (g p h : ℕ) : Type 0 where
  pub below : p < phases
  pub shows : (round : List Picture) → HasOneEach old round → (x y : ℤ) →
      picture_at (meaning new (phases_of phases round)) h x y ≡ phase_of phases p (picture_at (meaning old round) g) x y

-- At column x of its frame, image h of the new program shows column `phases * x + c` of image g of the old one, or the nearest column of the frame.
abbrev pub IsColumn : (phases : ℕ) → (old new : Typing) → (g : ℕ) → (c : ℤ) → (h : ℕ) → Type 0
IsColumn phases old new g c h = (round : List Picture) → HasOneEach old round → (x y : ℤ) → IsTrue (in_frame new.size x y) →
    picture_at (meaning new (phases_of phases round)) h x y ≡ picture_at (meaning old round) g (clamped old.size.width ((pos phases *ℤ x) +ℤ c)) y

-- image h of the new program is 1 in its frame, and 0 outside
abbrev pub IsFrameTest : (phases : ℕ) → (old new : Typing) → (h : ℕ) → Type 0
IsFrameTest phases old new h = (round : List Picture) → HasOneEach old round → (x y : ℤ) →
    picture_at (meaning new (phases_of phases round)) h x y ≡ (if in_frame new.size x y then pos 1 else pos 0)

-- image h of the new program has the role
abbrev pub Plays : (phases : ℕ) → (old new : Typing) → Role → (h : ℕ) → Type 0
Plays phases old new (Phase g p) h = IsPhase phases old new g p h
Plays phases old new (Column g c) h = IsColumn phases old new g c h
Plays phases old new Frame h = IsFrameTest phases old new h

-- each image of the table has its role
abbrev pub ArePlayed : (phases : ℕ) → (old new : Typing) → List Role → Type 0
ArePlayed phases old new roles = (h : ℕ) (role : Role) → slice_get roles h ≡ Some role → Plays phases old new role h

-- Roles by which images of a split program are compared.
pub record HaveRoles (phases : ℕ) (old new : Typing) (table : List Role) : Type 0 where
  -- the new program's frame and inputs are those of phases
  pub split : IsSplit phases old new
  -- each image of the table has its role
  pub roles : ArePlayed phases old new table

-- One of the phases of a split program.
pub record IsOnePhase (phases p : ℕ) (old new : Typing) : Type 0 where
  -- the new program's frame and inputs are those of phases
  pub split : IsSplit phases old new
  -- it is one of them
  pub below : p < phases

-- Roles by which images of a split program are compared at one of the phases.
pub record HaveRolesAt (phases p : ℕ) (old new : Typing) (table : List Role) : Type 0 where
  -- the new program's frame and inputs are those of phases
  pub split : IsSplit phases old new
  -- it is one of them
  pub below : p < phases
  -- each image of the table has its role
  pub roles : ArePlayed phases old new table

-- at each point of the new frame, the expression b of the new program has the value that the expression a of the old one has at the point of phase p
abbrev pub HasPhase : (phases : ℕ) → (old new : Typing) → (p : ℕ) → (a b : Typed) → Type 0
HasPhase phases old new p a b = (round : List Picture) → HasOneEach old round → (x y : ℤ) → IsTrue (in_frame new.size x y) →
    value new.size (meaning new (phases_of phases round)) b x y ≡ value old.size (meaning old round) a ((pos phases *ℤ x) +ℤ pos p) y

-- the same of a read
abbrev pub ReadsPhase : (phases : ℕ) → (old new : Typing) → (p : ℕ) → (a b : TypedRead) → Type 0
ReadsPhase phases old new p a b = (round : List Picture) → HasOneEach old round → (x y : ℤ) → IsTrue (in_frame new.size x y) →
    read_value new.size (meaning new (phases_of phases round)) b x y ≡ read_value old.size (meaning old round) a ((pos phases *ℤ x) +ℤ pos p) y

-- at each point of the new frame, the expression e of the new program has the value of column `phases * x + c` of image g of the old one, or of the nearest one
abbrev pub HasColumn : (phases : ℕ) → (old new : Typing) → (g : ℕ) → (c : ℤ) → (e : Typed) → Type 0
HasColumn phases old new g c e = (round : List Picture) → HasOneEach old round → (x y : ℤ) → IsTrue (in_frame new.size x y) →
    value new.size (meaning new (phases_of phases round)) e x y ≡ picture_at (meaning old round) g (clamped old.size.width ((pos phases *ℤ x) +ℤ c)) y

-- the expression is the body of image g
abbrev pub IsBodyOf : Typing → (g : ℕ) → Typed → Type 0
IsBodyOf p g e = (d : Definition) × IsDefinitionOf p g d × (d.body ≡ e)

-- In its frame a read brings its point to the frame's edge, or needs not to.
abbrev pub IsBrought : TypedRead → Type 0
IsBrought r = (size : Size) (known : List Picture) (x y : ℤ) → IsTrue (in_frame size x y) →
    read_value size known r x y ≡ picture_at known r.image (clamped size.width (x +ℤ r.dx)) (clamped size.height (y +ℤ r.dy))

-- a read that is 0 where its point is outside the frame
abbrev pub IsUnclamped : TypedRead → Type 0
IsUnclamped r = r.clamped ≡ false

-- an unclamped read in its own row
pub record IsInRow (r : TypedRead) : Type 0 where
  -- it is 0 where its point is outside the frame
  pub unclamped : IsUnclamped r
  -- its point is in the row
  pub row : r.dy ≡ pos 0

-- A read by q columns of phase r, in a body of the new program, is at the column of a read by dx columns in the body of phase p.
abbrev pub IsMovedColumn : (phases r : ℕ) → (q : ℤ) → (p : ℕ) → (dx : ℤ) → Type 0
IsMovedColumn phases r q p dx = ((pos phases *ℤ q) +ℤ pos r) ≡ (pos p +ℤ dx)

-- A read by q columns of phase r stays in the frame, or leaves it on the side of its outermost column only.
abbrev pub StaysInPhase : (phases : ℕ) → (q : ℤ) → (r : ℕ) → Type 0
StaysInPhase phases q r = (q ≡ pos 0) ⊎ ((q <ℤ pos 0) × (r ≡ 0)) ⊎ ((pos 0 <ℤ q) × (r + 1 ≡ phases))

-- A read by q columns of the outermost phase e on one side, one column nearer than a read by q columns which leaves the frame on that side.
abbrev pub IsNearer : (phases : ℕ) → (q near : ℤ) → (e : ℕ) → Type 0
IsNearer phases q near e = ((q <ℤ pos 0) × (near ≡ q +ℤ pos 1) × (e ≡ 0)) ⊎ ((pos 0 <ℤ q) × (near ≡ q +ℤ negsuc 0) × (e + 1 ≡ phases))

-- the expression chooses, by its first read, its second or its third one
abbrev pub IsChoice : Choice → Typed → Type 0
IsChoice c e = (t u v w : Ty) × (e ≡ chosen t (fetch u c.test) (fetch v c.inside) (fetch w c.edge))

-- The first two reads are of the same point, in the row. The third one is of the row, and brought to the frame's edge.
pub record IsOfRow (c : Choice) : Type 0 where
  pub test : IsUnclamped c.test
  pub inside : IsUnclamped c.inside
  pub edge : IsBrought c.edge
  pub point : c.inside.dx ≡ c.test.dx
  pub test_row : c.test.dy ≡ pos 0
  pub inside_row : c.inside.dy ≡ pos 0
  pub edge_row : c.edge.dy ≡ pos 0

-- the role is a column, which the expression shows
abbrev pub IsColumnOf : (phases : ℕ) → (old new : Typing) → Role → Typed → Type 0
IsColumnOf phases old new (Phase g p) e = ⊥
IsColumnOf phases old new (Column g c) e = HasColumn phases old new g c e
IsColumnOf phases old new Frame e = ⊥

-- output j of the new program is a phase of an output of the old one, by its number, with its type
pub record IsOutputPhase (phases : ℕ) (old new : Typing) (roles : List Role) (j : ℕ) : Type 0 where
  pub role : slice_get roles (slice_index new.outputs j) ≡ Some (Phase (slice_index old.outputs (j / phases)) (j % phases))
  pub type : slice_get (types_of new) (slice_index new.outputs j) ≡ slice_get (types_of old) (slice_index old.outputs (j / phases))
