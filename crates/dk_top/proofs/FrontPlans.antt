-- What holds of an accepted text's plan and reports, from what holds of its live reads.
use Rattle.std.proofs.Common.{ℕ, List, subst}
use Rattle.dk_base.specs.Stencils.{Stencils}
use Rattle.dk_types.specs.Typed.{Typing}
use Rattle.pointwise_ir.specs.Programs.{Program, names_of}
use Rattle.raster_delay.specs.Systems.{System}
use Rattle.dk_compile.specs.Limits.{HasSystem}
use Rattle.dk_plan.specs.declared.judging.Claim.{Claim}
use Rattle.dk_plan.specs.Planned.{aged, IsReportText}
use Rattle.dk_plan.specs.Judged as of_program
use Rattle.dk_top.specs.Plans.{HasStencils, IsPlanOf, IsConfirmed, IsWrongLine}
use Rattle.dk_top.specs.Reporting.{HasFront}

module _ (text : List ℕ) (ir : Program) (s : Stencils) (front : HasFront text ir s) where
  has : HasStencils text (names_of ir) s
  has = record { program = front.program; form = ir; front = front.front; names_are = front.front.form.names }

  pub confirmed_of : (bytes : List ℕ) (claim : Claim) → of_program.IsConfirmed (names_of ir) s bytes claim → IsConfirmed text bytes claim
  confirmed_of bytes claim h = record { names = names_of ir; stencils = s; has = has; confirmed = h }

  pub wrong_of : (bytes : List ℕ) (line : ℕ) → of_program.IsWrongLine (names_of ir) s bytes line → IsWrongLine text bytes line
  wrong_of bytes line h = record { names = names_of ir; stencils = s; has = has; wrong = h }

-- a report of a text's system at an age is one of the text
pub plan_of : (text : List ℕ) (age : ℕ) (p : Typing) (ir : Program) (s : System) → HasSystem text age p ir s → (bytes : List ℕ) → IsReportText (names_of ir) s bytes → IsPlanOf text age bytes
plan_of text age p ir s has bytes is = record {
  names = names_of ir;
  stencils = s.stencils;
  has = record { program = p; form = ir; front = has.front; names_are = has.front.form.names };
  is = subst (λ a. IsReportText (names_of ir) (aged s.stencils a) bytes) has.age_is is;
}
