-- Why a report holds or is refused.
use Rattle.std.proofs.Common.{◌≡◌, ℕ, List, slice_index, subst}
use Rattle.dk_base.specs.Stencils.{Stencils}
use Rattle.raster_delay.specs.Systems.{System}
use Rattle.report_text.specs.Reports.{Report}
use Rattle.report_text.specs.Texts.{StandsFor}
use Rattle.plan_check.specs.Holding.{AreLeast}
use Rattle.plan_check.specs.Program.{HoldsOf, IsAmiss}
use Rattle.dk_plan.specs.declared.judging.Claim.{Claim}
use Rattle.dk_plan.specs.Planned.{aged}
use Rattle.dk_plan.specs.Judged.{Confirms, IsConfirmed, IsWrongLine, rejected}
use Rattle.plan_check.specs.First.{IsFirst}

module _ (names : List (List ℕ)) (stencils : Stencils) (bytes : List ℕ) (r : Report) (s : System) (is : s ≡ aged stencils r.age) (stands : StandsFor bytes r) where
  pub confirmed : (claim : Claim) → HoldsOf names s r → AreLeast s r → claim.bits ≡ r.bits → claim.latency ≡ slice_index r.latencies 0 → IsConfirmed names stencils bytes claim
  confirmed claim holds least bits latency = record {
    report = r;
    stands = stands;
    is = subst (λ x. Confirms names x claim r) is (record { holds = holds; least = least; bits = bits; latency = latency });
  }

  pub wrong_line : (line : ℕ) → IsFirst (IsAmiss names s r) line → IsWrongLine names stencils bytes line
  wrong_line line wrong = rejected (record { report = r; stands = stands; is = subst (λ x. IsFirst (IsAmiss names x r) line) is wrong })
