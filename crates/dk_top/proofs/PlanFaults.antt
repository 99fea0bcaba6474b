-- A text has one answer on a report.
use Rattle.std.proofs.Common.{◌≡◌, ℕ, List, subst}
use Rattle.dk_base.specs.Stencils.{Stencils}
use Rattle.dk_types.specs.Typed.{Typing}
use Rattle.pointwise_ir.specs.Programs.{Program}
use Rattle.dk_compile.specs.Fronts.{IsFront}
use Rattle.dk_plan.specs.declared.judging.Claim.{Claim}
use Rattle.dk_plan.specs.Judged as of_program
use Rattle.dk_compile.specs.Sources.{IsAccepted}
use Rattle.dk_top.specs.Plans.{HasStencils, IsConfirmed, IsWrongLine}

-- a text with names and live reads is accepted
pub accepted_of : ((text : List ℕ) (p : Typing) (ir : Program) (s : Stencils) → IsFront text p ir s → IsAccepted text p) → (text : List ℕ) (names : List (List ℕ)) (s : Stencils) → HasStencils text names s → (p : Typing) × IsAccepted text p
accepted_of law text names s has = (has.program, law text has.program has.form s has.front)

-- what holds of the names and live reads of one is that of the other
module _ (front_once : (text : List ℕ) (a b : List (List ℕ)) (s t : Stencils) → HasStencils text a s → HasStencils text b t → (a ≡ b) × (s ≡ t)) (text bytes : List ℕ) where
  moved : (P : List (List ℕ) → Stencils → Type 0) (a b : List (List ℕ)) (s t : Stencils) → HasStencils text a s → HasStencils text b t → P a s → P b t
  moved P a b s t h k holds =
      let same = front_once text a b s t h k in
      subst (λ n. P n t) same.0 (subst (P a) same.1 holds)

  pub claim_once : ((names : List (List ℕ)) (s : Stencils) (bytes : List ℕ) (c d : Claim) → of_program.IsConfirmed names s bytes c → of_program.IsConfirmed names s bytes d → c ≡ d)
      → (c d : Claim) → IsConfirmed text bytes c → IsConfirmed text bytes d → c ≡ d
  claim_once law c d h k =
      law k.names k.stencils bytes c d (moved (λ n s. of_program.IsConfirmed n s bytes c) h.names k.names h.stencils k.stencils h.has k.has h.confirmed) k.confirmed

  pub wrong_apart : ((names : List (List ℕ)) (s : Stencils) (bytes : List ℕ) (c : Claim) (line : ℕ) → of_program.IsConfirmed names s bytes c → of_program.IsWrongLine names s bytes line → ⊥)
      → (c : Claim) (line : ℕ) → IsConfirmed text bytes c → IsWrongLine text bytes line → ⊥
  wrong_apart law c line h k =
      law k.names k.stencils bytes c line (moved (λ n s. of_program.IsConfirmed n s bytes c) h.names k.names h.stencils k.stencils h.has k.has h.confirmed) k.wrong

  pub line_once : ((names : List (List ℕ)) (s : Stencils) (bytes : List ℕ) (m n : ℕ) → of_program.IsWrongLine names s bytes m → of_program.IsWrongLine names s bytes n → m ≡ n)
      → (m n : ℕ) → IsWrongLine text bytes m → IsWrongLine text bytes n → m ≡ n
  line_once law m n h k =
      law k.names k.stencils bytes m n (moved (λ a s. of_program.IsWrongLine a s bytes m) h.names k.names h.stencils k.stencils h.has k.has h.wrong) k.wrong
