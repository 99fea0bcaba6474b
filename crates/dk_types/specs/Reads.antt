-- Which images a program reads, and where: live reads and kept images.
use Rattle.std.specs.Prelude.{◌≡◌, ◌⊎◌, ℕ, ◌+◌, ◌<◌, ℤ, ◌+ℤ◌, true, false, IsTrue, length, slice_get, Some, Contains}
use Rattle.dk_base.specs.Frames.{Size, in_frame}
use Rattle.dk_base.specs.Steps.{EndsAt}
use Rattle.dk_types.specs.declared.typed.TypedRead.{TypedRead}
use Rattle.dk_types.specs.Typed.{Typed, constant, fetch, single, double, scaled, converted, chosen, Definition, Typing}

-- the read is in the expression
abbrev pub Mentions : Typed → TypedRead → Type 0
Mentions (constant t v) r = ⊥
Mentions (fetch t s) r = s ≡ r
Mentions (single t o a) r = Mentions a r
Mentions (double t o a b) r = Mentions a r ⊎ Mentions b r
Mentions (scaled t o a k) r = Mentions a r
Mentions (converted t o a) r = Mentions a r
Mentions (chosen t c a b) r = Mentions c r ⊎ Mentions a r ⊎ Mentions b r

-- image g is this definition
abbrev pub IsDefinitionOf : Typing → ℕ → Definition → Type 0
IsDefinitionOf p g d = (k : ℕ) × (g ≡ length p.inputs + k) × (slice_get p.definitions k ≡ Some d)

-- image g is an input, or a definition that is not inline
abbrev pub IsStored : Typing → ℕ → Type 0
IsStored p g = (g < length p.inputs) ⊎ ((d : Definition) × IsDefinitionOf p g d × (d.inline ≡ false))

-- a step of a read from one point to another
abbrev pub Steps : Size → TypedRead → (x y x' y' : ℤ) → Type 0
Steps size r x y x' y' = EndsAt r.clamped size (x +ℤ r.dx) (y +ℤ r.dy) x' y'

-- The expression e at (x, y) reads image g at (x', y'), step by step through the bodies of inline images.
pub data Reads (p : Typing) : Typed → (x y : ℤ) → (g : ℕ) → (x' y' : ℤ) → Type 0 where
  directly : {e : Typed} (r : TypedRead) {x y x' y' : ℤ} → Mentions e r → Steps p.size r x y x' y' → IsStored p r.image → Reads p e x y r.image x' y'
  through : {e : Typed} (r : TypedRead) (d : Definition) {g : ℕ} {x y x' y' : ℤ} (u v : ℤ)
      → Mentions e r → Steps p.size r x y u v → IsDefinitionOf p r.image d → d.inline ≡ true → Reads p d.body u v g x' y' → Reads p e x y g x' y'

-- in some pixel, image f reads the pixel of image g that is dx columns to the right and dy rows down
pub record IsLive (p : Typing) (f g : ℕ) (dx dy : ℤ) : Type 0 where
  pub definition : Definition
  pub is : IsDefinitionOf p f definition
  pub x : ℤ
  pub y : ℤ
  pub inside : IsTrue (in_frame p.size x y)
  pub reads : Reads p definition.body x y g (x +ℤ dx) (y +ℤ dy)

-- the images that are kept: inputs, outputs, and what they reach by live reads
pub data IsKept (p : Typing) : ℕ → Type 0 where
  input : {g : ℕ} → g < length p.inputs → IsKept p g
  output : {g : ℕ} → Contains p.outputs g → IsKept p g
  reached : {f g : ℕ} {dx dy : ℤ} → IsKept p f → IsLive p f g dx dy → IsKept p g
