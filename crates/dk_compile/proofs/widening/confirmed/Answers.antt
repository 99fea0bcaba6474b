use Rattle.std.proofs.Common.{ℕ, List, subst}
use Rattle.dk_types.specs.Typed.{typing_of}
use Rattle.dk_compile.specs.Limits.{IsAcceptedAt}
use Rattle.dk_compile.specs.Compiled.{HasLeastBits}
use Rattle.dk_compile.proofs.widening.confirmed.Goals as goal

pub returns-clause-widened : goal.returns-clause-widened
returns-clause-widened c = record {
  old = typing_of c.args.old.now.program;
  new = typing_of c.in-Ok.new.program;
  from = c.requires.program;
  to = subst (λ (t : List ℕ). IsAcceptedAt t 0 (typing_of c.in-Ok.new.program)) c.deref.ensures.value c.in-Ok.ensures.program;
  split = c.in_ok-have_phases.ensures c.if-not-branch.false;
}

pub returns-clause-measured : goal.returns-clause-measured
returns-clause-measured c =
    let new = c.in-Ok.new in
    let at = subst (λ (t : List ℕ). IsAcceptedAt t 0 (typing_of new.program)) c.deref.ensures.value c.in-Ok.ensures.program in
    record {
      program = typing_of new.program;
      is_text = at.accepted.program;
      definitions = c.definition_count-definitions.ensures;
      bits = subst (λ (t : List ℕ). HasLeastBits t new.bits) c.deref.ensures.value c.in-Ok.ensures.bits;
      bits_before = c.requires.bits;
    }
