use Rattle.circuit.proofs.Growing.{grow_none, grow_by}
use Rattle.std.proofs.Common.{ℕ, subst}
use Rattle.circuit.specs.Leaves.{leaf_at}
use Rattle.circuit.specs.Reads.{ChoosesAlso}
use Rattle.circuit.specs.Taps.{size_in}
use Rattle.circuit.proofs.Placing.{columns_below, rows_below}
use Rattle.circuit.proofs.Choosing.{choice_kept, choice_other}
use Rattle.circuit.specs.Registers.{AsksRead}
use Rattle.circuit.proofs.choices.with_read.Goals as goal

pub returns-then-read-leaf-clause-choice : goal.returns-then-read-leaf-clause-choice
returns-then-read-leaf-clause-choice c first reads inc before =
    let r = c.args.reader.now in
    choice_other c.args.b.now first r.plan.now r.taps.now r.image reads c.args.read (leaf_at c.args.leaf.image c.args.leaf.steps.now) _ c.args.before c.if-read-leaf.true before

pub returns-then-misses-clause-choice : goal.returns-then-misses-clause-choice
returns-then-misses-clause-choice c first reads inc before =
    let r = c.args.reader.now in
    let plan = r.plan.now in
    choice_kept c.args.b.now first plan r.taps.now r.image reads c.args.read (leaf_at c.args.leaf.image c.args.leaf.steps.now) _ c.args.before (λ x y wide high same. c.misses.ensures c.if-misses.true (size_in plan) x y) (columns_below plan c.law.ensures) (rows_below plan c.law.ensures) before

pub returns-clause-choice : goal.returns-clause-choice
returns-clause-choice c =
    let r = c.args.reader.now in
    subst (λ (g : ℕ). ChoosesAlso c.with_tap.new.b c.args.b.now r.ir.now r.plan.now r.taps.now r.image (leaf_at g c.args.leaf.steps.now) c.args.read c.args.before c.in_ok-choice.choice) c.if-read-leaf.false c.in_ok-choice.ensures.choice

pub returns-then-read-leaf-clause-grows : goal.returns-then-read-leaf-clause-grows
returns-then-read-leaf-clause-grows c = grow_none c.args.b.now c.args.tests.now c.args.reader.now.plan.now (AsksRead c.args.reader.now.image (leaf_at c.args.leaf.image c.args.leaf.steps.now) c.args.read) c.requires.reader.tests

pub returns-then-misses-clause-grows : goal.returns-then-misses-clause-grows
returns-then-misses-clause-grows c = grow_none c.args.b.now c.args.tests.now c.args.reader.now.plan.now (AsksRead c.args.reader.now.image (leaf_at c.args.leaf.image c.args.leaf.steps.now) c.args.read) c.requires.reader.tests

pub returns-clause-grows : goal.returns-clause-grows
returns-clause-grows c =
    let f = c.args.reader.now.image in
    grow_by c.with_tap.new.b c.args.b.now c.with_tap.new.tests c.args.tests.now c.args.reader.now.plan.now (AsksRead f (leaf_at c.args.read.g c.args.leaf.steps.now) c.args.read) (AsksRead f (leaf_at c.args.leaf.image c.args.leaf.steps.now) c.args.read) (λ d asks. (c.if-read-leaf.false, asks.1)) c.in_ok-choice.ensures.grows
