use Rattle.std.proofs.Common.{sym, subst}
use Rattle.pointwise_ir.specs.Programs.{Program, IsProgram, program_of}
use Rattle.pointwise_ir.specs.Passes.{KeepsMeaning}
use Rattle.pointwise_ir.specs.Rewritings.{IsSameBut}
use Rattle.dk_inline.specs.Folded.{IsFolding}
use Rattle.dk_inline.proofs.fold.FoldRewrite.apply.Goals as goal

pub new-requires : goal.new-requires
new-requires c =
    let P : Program → Type 0 = λ p. IsProgram p in
    c.rewriting_law.ensures.program (program_of c.into_parts-parts.result) (program_of c.fold_parts.new.parts) (subst P (sym c.into_parts-parts.ensures.parts) c.law.ensures) c.fold_parts.ensures.same

pub returns-clause-meaning : goal.returns-clause-meaning
returns-clause-meaning c =
    let P : Program → Type 0 = λ p. IsSameBut p (program_of c.fold_parts.new.parts) in
    let Q : Program → Type 0 = λ p. KeepsMeaning c.args.ir p in
    subst Q (sym c.new.ensures) (c.rewriting_law.ensures.meaning c.args.ir (program_of c.fold_parts.new.parts) c.law.ensures (subst P c.into_parts-parts.ensures.parts c.fold_parts.ensures.same))

pub returns-clause-folding : goal.returns-clause-folding
returns-clause-folding c =
    let P : Program → Type 0 = λ p. IsFolding p (program_of c.fold_parts.new.parts) in
    let Q : Program → Type 0 = λ p. IsFolding c.args.ir p in
    subst Q (sym c.new.ensures) (subst P c.into_parts-parts.ensures.parts c.fold_parts.ensures.folding)
