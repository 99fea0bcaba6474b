-- A system has one limit that its least vector passes, and a report one answer.
use Rattle.std.proofs.Common.{◌≡◌, ◌∙◌, ℕ, List, slice_index, inl, inr, sym, ap, subst, arith}
use Rattle.std.proofs.lemmas.Bool.{cases_lt, cases_eq}
use Rattle.dk_base.specs.Stencils.{Stencils}
use Rattle.raster_delay.specs.Systems.{System}
use Rattle.report_text.specs.Reports.{Report}
use Rattle.report_text.specs.Texts.{StandsFor, IsFaultyLine}
use Rattle.plan_check.specs.declared.verdict.Verdict.TheVariants.{Yes, No}
use Rattle.plan_check.specs.Program.{IsAmiss}
use Rattle.plan_check.proofs.Foreigns.{yes_alone}
use Rattle.dk_plan.specs.declared.judging.Claim.{Claim}
use Rattle.dk_plan.specs.Planned.{aged}
use Rattle.dk_plan.specs.Judged.{IsConfirmed, IsWrongLine, faulty, rejected}
use Rattle.plan_check.specs.First.{IsFirst}

same_claim : (c d : Claim) → c.bits ≡ d.bits → c.latency ≡ d.latency → c ≡ d
same_claim c d e1 e2 =
    ap (λ x. let r : Claim = record { bits = x; latency = c.latency } in r) e1 ∙ ap (λ x. let r : Claim = record { bits = d.bits; latency = x } in r) e2

first_once : (a : List (List ℕ)) (s : System) (r : Report) (m n : ℕ) → IsFirst (IsAmiss a s r) m → IsFirst (IsAmiss a s r) n → m ≡ n
first_once a s r m n h k = elim (cases_lt m n) [
  | inl lt ↦ absurd (k.before m lt h.is)
  | inr le ↦ elim (cases_eq m n) [
    | inl e ↦ e
    | inr ne ↦ absurd (h.before n (omega arith) k.is)
  ]
]

module _ (reports : (text : List ℕ) (r s : Report) → StandsFor text r → StandsFor text s → r ≡ s)
    (lines : (text : List ℕ) (m n : ℕ) → IsFaultyLine text m → IsFaultyLine text n → m ≡ n)
    (report_apart : (text : List ℕ) (r : Report) (n : ℕ) → StandsFor text r → IsFaultyLine text n → ⊥) where
  pub claim_once : (names : List (List ℕ)) (s : Stencils) (bytes : List ℕ) (c d : Claim) → IsConfirmed names s bytes c → IsConfirmed names s bytes d → c ≡ d
  claim_once names s bytes c d h k =
      let same = reports bytes h.report k.report h.stands k.stands in
      same_claim c d (h.is.bits ∙ (ap (λ (r : Report). r.bits) same ∙ sym k.is.bits)) (h.is.latency ∙ (ap (λ (r : Report). slice_index r.latencies 0) same ∙ sym k.is.latency))

  pub wrong_apart : (names : List (List ℕ)) (s : Stencils) (bytes : List ℕ) (c : Claim) (line : ℕ) → IsConfirmed names s bytes c → IsWrongLine names s bytes line → ⊥
  wrong_apart names s bytes c line h (faulty k) = report_apart bytes h.report line h.stands k
  wrong_apart names s bytes c line h (rejected k) =
      let amiss = subst (λ (r : Report). IsFirst (IsAmiss names (aged s r.age) r) line) (reports bytes k.report h.report k.stands h.stands) k.is in
      let e : No line ≡ Yes = yes_alone names (aged s h.report.age) h.report (No line) h.is.holds amiss in
      let x : ⊥ = cc in x

  pub line_once : (names : List (List ℕ)) (s : Stencils) (bytes : List ℕ) (m n : ℕ) → IsWrongLine names s bytes m → IsWrongLine names s bytes n → m ≡ n
  line_once names s bytes m n (faulty h) (faulty k) = lines bytes m n h k
  line_once names s bytes m n (faulty h) (rejected k) = absurd (report_apart bytes k.report m k.stands h)
  line_once names s bytes m n (rejected h) (faulty k) = absurd (report_apart bytes h.report n h.stands k)
  line_once names s bytes m n (rejected h) (rejected k) =
      first_once names (aged s k.report.age) k.report m n (subst (λ (r : Report). IsFirst (IsAmiss names (aged s r.age) r) m) (reports bytes h.report k.report h.stands k.stands) h.is) k.is
