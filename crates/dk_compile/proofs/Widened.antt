-- A program has at most one reason that there is no text with its phases.
use Rattle.std.proofs.Common.{◌≡◌, ℕ, ◌*◌, ◌<◌, ◌≤◌, length, refl, ap, sym, ◌∙◌, arith}
use Rattle.dk_base.specs.declared.TheConstants.{MAX_INPUTS, MAX_OUTPUTS}
use Rattle.dk_types.specs.Typed.{Typing}
use Rattle.source_fault.specs.declared.widen.WidenFault.{WidenFault}
use Rattle.source_fault.specs.declared.widen.WidenFault.TheVariants.{Width, Inputs, Outputs, Limits}
use Rattle.dk_compile.specs.Widened.{IsAble, IsWidenFault}

-- a number that is above a limit and within it
over : (limit n k : ℕ) → n ≡ k → limit < n → k ≤ limit → ⊥
over limit n k is above within = omega (arith, is, above, within)

-- where the phases are there, only the text is left to fail
pub only_limits : (phases : ℕ) (p : Typing) (f : WidenFault) → IsAble phases p → IsWidenFault phases p f → f ≡ Limits
only_limits phases p (Width w) able is = absurd (is.1 able.width)
only_limits phases p (Inputs n) able is = absurd (over MAX_INPUTS n (phases * length p.inputs) is.1 is.2 able.inputs)
only_limits phases p (Outputs n) able is = absurd (over MAX_OUTPUTS n (phases * length p.outputs) is.2 is.3 able.outputs)
only_limits phases p Limits able is = refl

pub one_reason : (phases : ℕ) (p : Typing) (f g : WidenFault) → IsWidenFault phases p f → IsWidenFault phases p g → f ≡ g
one_reason phases p (Width w) (Width v) is other = ap Width (is.0 ∙ sym other.0)
one_reason phases p (Width w) (Inputs n) is other = absurd (is.1 other.0)
one_reason phases p (Width w) (Outputs n) is other = absurd (is.1 other.0)
one_reason phases p (Inputs n) (Width w) is other = absurd (other.1 is.0)
one_reason phases p (Inputs n) (Inputs m) is other = ap Inputs (is.1 ∙ sym other.1)
one_reason phases p (Inputs n) (Outputs m) is other = absurd (over MAX_INPUTS n (phases * length p.inputs) is.1 is.2 other.1)
one_reason phases p (Outputs n) (Width w) is other = absurd (other.1 is.0)
one_reason phases p (Outputs n) (Inputs m) is other = absurd (over MAX_INPUTS m (phases * length p.inputs) other.1 other.2 is.1)
one_reason phases p (Outputs n) (Outputs m) is other = ap Outputs (is.2 ∙ sym other.2)
one_reason phases p Limits (Width w) is other = sym (only_limits phases p (Width w) is other)
one_reason phases p Limits (Inputs n) is other = sym (only_limits phases p (Inputs n) is other)
one_reason phases p Limits (Outputs n) is other = sym (only_limits phases p (Outputs n) is other)
one_reason phases p (Width w) Limits is other = only_limits phases p (Width w) other is
one_reason phases p (Inputs n) Limits is other = only_limits phases p (Inputs n) other is
one_reason phases p (Outputs n) Limits is other = only_limits phases p (Outputs n) other is
one_reason phases p Limits Limits is other = refl
