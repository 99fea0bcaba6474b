-- The live reads of a program, and how many there are.
use Rattle.std.specs.Prelude.{◌≡◌, ℕ, ◌+◌, ◌<◌, ◌≤◌, ◌⊎◌, ℤ, Contains, List, length, Result, OnOk, IfErr}
use Rattle.dk_base.specs.declared.TheConstants.{MAX_COUNTED_READS}
use Rattle.dk_base.specs.declared.stencils.LiveRead.{LiveRead}
use Rattle.dk_base.specs.Stencils.{AreInOrder}
use Rattle.pointwise_ir.specs.Programs.{Program}
use Rattle.pointwise_ir.specs.Stencils.{the, IsKeptRead, AreReads}
use Rattle.stencil_sets.specs.declared.found.Halt.{Halt}
use Rattle.stencil_sets.specs.Found.{Stopped}

-- they are some of the live reads of kept images, each once, in order
pub record AreSome (p : Program) (reads : List LiveRead) : Type 0 where
  pub in_order : AreInOrder reads
  pub sound : (f g : ℕ) (dx dy : ℤ) → Contains reads (the f g dx dy) → IsKeptRead p f g dx dy

-- The live reads of a program are looked for: what is found, and whether it is all.
pub record FindsReads {T : Type 0} (p : Program) (found : List LiveRead) (result : Result T Halt) : Type 0 where
  -- they are all
  pub exact : OnOk result (AreReads p found)
  -- they are some, also where it ends early
  pub sound : AreSome p found
  -- it ends early only where there are too many, or no memory
  pub stopped : IfErr result (λ halt. Stopped halt found)

-- how many live reads of kept images there are, where they are at most MAX_COUNTED_READS
pub record HasFew (p : Program) (count : ℕ) : Type 0 where
  pub reads : List LiveRead
  pub exact : AreReads p reads
  pub count_is : count ≡ length reads
  pub few : count ≤ MAX_COUNTED_READS

-- there are more, which count as one more than that
pub record HasMany (p : Program) (count : ℕ) : Type 0 where
  pub reads : List LiveRead
  pub some : AreSome p reads
  pub many : MAX_COUNTED_READS < length reads
  pub count_is : count ≡ MAX_COUNTED_READS + 1

abbrev pub HasCount : Program → ℕ → Type 0
HasCount p count = HasFew p count ⊎ HasMany p count
