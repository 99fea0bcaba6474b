use Rattle.circuit.proofs.Growing.{grow_none, grow_on}
use Rattle.std.proofs.Common.{◌≤◌, List, sym, subst, ◌∙◌, length, take, arith}
use Rattle.std.proofs.lemmas.List.{take_more, take_all}
use Rattle.dk_base.specs.declared.stencils.LiveRead.{LiveRead}
use Rattle.dk_base.specs.Types.{width_of}
use Rattle.net_build.proofs.Parts.{Includes-refl, includes_on}
use Rattle.circuit.specs.Rounds.{type_at}
use Rattle.circuit.specs.Leaves.{leaf_at}
use Rattle.circuit.specs.Reads.{IsChoice}
use Rattle.circuit.specs.Registers.{AsksLeaf}
use Rattle.circuit.proofs.Registered.{asks_at}
use Rattle.circuit.proofs.Lasting.{reading_more}
use Rattle.circuit.proofs.Choosing.{choice_none}
use Rattle.circuit.proofs.choices.choice_of.Goals as goal

pub returns-clause-choice : goal.returns-clause-choice
returns-clause-choice c first inc =
    let r = c.args.reader.now in
    let items = c.reads-read-items.result.now in
    let i = c.loop-read.read-index in
    let long : length items ≤ i = omega (arith, c.loop-read-test.false) in
    let whole = take_all i items long ∙ c.reads-read-items.ensures in
    subst (λ (rs : List LiveRead). IsChoice c.loop-read.b first r.plan.now r.taps.now r.image rs (leaf_at c.args.leaf.image c.args.leaf.steps.now) (width_of (type_at r.ir.now c.args.leaf.image)) c.loop-read.choice) whole (c.loop-read.invariant.choice first inc)

pub loop-read-init : goal.loop-read-init
loop-read-init c =
    let r = c.args.reader.now in
    record {
      grows = grow_none c.args.b.now c.args.tests.now r.plan.now (AsksLeaf r.plan.now r.image (leaf_at c.args.leaf.image c.args.leaf.steps.now)) c.requires.tests;
      choice = λ first inc. choice_none c.args.b.now first r.plan.now r.taps.now r.image (leaf_at c.args.leaf.image c.args.leaf.steps.now) (width_of (type_at r.ir.now c.args.leaf.image));
    }

pub with_read-requires-clause-reader : goal.with_read-requires-clause-reader
with_read-requires-clause-reader c =
    let r = c.args.reader.now in
    record {
      reading = reading_more c.loop-read.b c.args.b.now c.loop-read.invariant.grows.adds.includes r.ir.now r.plan.now r.taps.now r.image c.requires.reading;
      tests = c.loop-read.invariant.grows.tests;
    }

pub with_read-requires-clause-before : goal.with_read-requires-clause-before
with_read-requires-clause-before c =
    let is = c.loop-read.invariant.choice c.args.b.now (Includes-refl c.args.b.now) in
    record { there = is.there; width = is.width }

pub loop-read-preserved : goal.loop-read-preserved
loop-read-preserved c =
    let r = c.args.reader.now in
    let items = c.reads-read-items.result.now in
    let i = c.loop-read.read-index in
    record {
      grows =
          let P = AsksLeaf r.plan.now r.image (leaf_at c.args.leaf.image c.args.leaf.steps.now) in
          grow_on c.with_read.new.b c.loop-read.b c.args.b.now c.with_read.new.tests c.loop-read.tests c.args.tests.now r.plan.now P _ P c.loop-read.invariant.grows c.in_ok-choice.ensures.grows (λ d asks. asks) (asks_at r.plan.now r.image (leaf_at c.args.leaf.image c.args.leaf.steps.now) items i _ c.reads-read-items.ensures c.loop-read-test.true);
      choice = λ first inc.
          subst (λ (rs : List LiveRead). IsChoice c.with_read.new.b first r.plan.now r.taps.now r.image rs (leaf_at c.args.leaf.image c.args.leaf.steps.now) (width_of (type_at r.ir.now c.args.leaf.image)) c.in_ok-choice.choice) (sym (take_more items i _ c.loop-read-test.true))
          (c.in_ok-choice.ensures.choice first (take i items) (includes_on first c.args.b.now c.loop-read.b inc c.loop-read.invariant.grows.adds.includes) (c.loop-read.invariant.choice first inc));
    }

pub returns-clause-grows : goal.returns-clause-grows
returns-clause-grows c = c.loop-read.invariant.grows
