use Rattle.circuit.proofs.Growing.{grow_none, grow_then}
use Rattle.std.proofs.Common.{rules, ◌≡◌, ℕ, ◌∙◌, refl, sym, subst, w32, to_z, of_z, FitsSigned}
use Rattle.std.specs.Prelude.{ℤ, ◌∷◌, IfSome}
use Rattle.wiring.specs.Netlist.{net_width}
use Rattle.net_build.specs.Logic.{Computes}
use Rattle.std.proofs.lemmas.Int.{to_z-of_z}
use Rattle.wiring.specs.Sizes.{IsWidth}
use Rattle.edge_select.specs.Steps.{LeadBy}
use Rattle.edge_select.specs.Pixels.{AllPass, NonePass}
use Rattle.net_build.proofs.Grown.{net_more, width_more}
use Rattle.circuit.specs.Taps.{size_in}
use Rattle.circuit.specs.Reads.{chosen_by, choice_nets}
use Rattle.circuit.specs.Leaves.{leaf_at}
use Rattle.circuit.specs.Depths.{MayMean}
use Rattle.circuit.proofs.Placing.{columns_below, rows_below}
use Rattle.circuit.proofs.Choosing.{choice_kept, choice_taken, choice_tested}
use Rattle.circuit.proofs.Taking.{own_read, chosen_net_more, chosen_width_more}
use Rattle.circuit.specs.Registers.{AsksRead}
use Rattle.circuit.proofs.choices.with_tap.Goals as goal

-- a fact of offsets that are stored and read back
told : (P : (x y : ℤ) → Type 0) (x y : ℤ) → FitsSigned w32 x → FitsSigned w32 y → P (to_z w32 (of_z w32 x)) (to_z w32 (of_z w32 y)) → P x y
told P x y fx fy h = subst (λ (v : ℤ). P x v) (to_z-of_z w32 y fy) (subst (λ (u : ℤ). P u (to_z w32 (of_z w32 y))) (to_z-of_z w32 x fx) h)

untold : (P : (x y : ℤ) → Type 0) (x y : ℤ) → FitsSigned w32 x → FitsSigned w32 y → P x y → P (to_z w32 (of_z w32 x)) (to_z w32 (of_z w32 y))
untold P x y fx fy h = subst (λ (v : ℤ). P (to_z w32 (of_z w32 x)) v) (sym (to_z-of_z w32 y fy)) (subst (λ (u : ℤ). P u y) (sym (to_z-of_z w32 x fx)) h)

pub tap_of-tap-requires-clause-read : goal.tap_of-tap-requires-clause-read
tap_of-tap-requires-clause-read c =
    let r = c.args.reader.now in
    (own_read c.args.b.now r.ir.now r.plan.now r.taps.now r.image c.args.read c.law.ensures c.requires.reader.reading c.requires.read).among

pub tap_of-tap-requires-clause-there : goal.tap_of-tap-requires-clause-there
tap_of-tap-requires-clause-there c =
    let r = c.args.reader.now in
    (own_read c.args.b.now r.ir.now r.plan.now r.taps.now r.image c.args.read c.law.ensures c.requires.reader.reading c.requires.read).there

pub tap_of-tap-requires-clause-one_each : goal.tap_of-tap-requires-clause-one_each
tap_of-tap-requires-clause-one_each c =
    let r = c.args.reader.now in
    (own_read c.args.b.now r.ir.now r.plan.now r.taps.now r.image c.args.read c.law.ensures c.requires.reader.reading c.requires.read).one_each

pub width-requires : goal.width-requires
width-requires c =
    let r = c.args.reader.now in
    (own_read c.args.b.now r.ir.now r.plan.now r.taps.now r.image c.args.read c.law.ensures c.requires.reader.reading c.requires.read).kept

pub returns-in-Never-clause-choice : goal.returns-in-Never-clause-choice
returns-in-Never-clause-choice c first reads inc before =
    let r = c.args.reader.now in
    let plan = r.plan.now in
    let across : FitsSigned w32 c.args.read.dx = search rules in
    let down : FitsSigned w32 c.args.read.dy = search rules in
    let none = c.passing.ensures.never.0 c.in-Never.is in
    let here = subst (λ (w : ℕ). NonePass w plan.system.stencils.height (LeadBy (record { width = w; height = plan.system.stencils.height }) c.args.steps.now c.args.read.dx c.args.read.dy)) c.columns.ensures
    (subst (λ (h : ℕ). NonePass c.columns.result h (LeadBy (record { width = c.columns.result; height = h }) c.args.steps.now c.args.read.dx c.args.read.dy)) c.rows.ensures (told (λ (x y : ℤ). NonePass c.columns.result c.rows.result (LeadBy (record { width = c.columns.result; height = c.rows.result }) c.args.steps.now x y)) c.args.read.dx c.args.read.dy across down none))
    in
    choice_kept c.args.b.now first plan r.taps.now r.image reads c.args.read (leaf_at c.args.read.g c.args.steps.now) _ c.args.before (λ x y wide high same. here x y wide high) (columns_below plan c.law.ensures) (rows_below plan c.law.ensures) before

pub returns-in-Always-clause-choice : goal.returns-in-Always-clause-choice
returns-in-Always-clause-choice c first reads inc before =
    let r = c.args.reader.now in
    let plan = r.plan.now in
    let own = own_read c.args.b.now r.ir.now r.plan.now r.taps.now r.image c.args.read c.law.ensures c.requires.reader.reading c.requires.read in
    let across : FitsSigned w32 c.args.read.dx = search rules in
    let down : FitsSigned w32 c.args.read.dy = search rules in
    let all = c.passing.ensures.always.0 c.in-Always.is in
    let here = subst (λ (w : ℕ). AllPass w plan.system.stencils.height (LeadBy (record { width = w; height = plan.system.stencils.height }) c.args.steps.now c.args.read.dx c.args.read.dy)) c.columns.ensures
    (subst (λ (h : ℕ). AllPass c.columns.result h (LeadBy (record { width = c.columns.result; height = h }) c.args.steps.now c.args.read.dx c.args.read.dy)) c.rows.ensures (told (λ (x y : ℤ). AllPass c.columns.result c.rows.result (LeadBy (record { width = c.columns.result; height = c.rows.result }) c.args.steps.now x y)) c.args.read.dx c.args.read.dy across down all))
    in
    choice_taken c.args.b.now first plan r.taps.now r.image reads c.args.read (leaf_at c.args.read.g c.args.steps.now) _ c.args.before c.tap_of-tap.result refl here (columns_below plan c.law.ensures) (rows_below plan c.law.ensures) c.tap_of-tap.ensures
    (own.net c.tap_of-tap.result c.tap_of-tap.ensures) (own.width c.tap_of-tap.result c.tap_of-tap.ensures) inc

pub returns-in_ok-net-in-Sometimes-clause-choice : goal.returns-in_ok-net-in-Sometimes-clause-choice
returns-in_ok-net-in-Sometimes-clause-choice c first reads inc before =
    let r = c.args.reader.now in
    let plan = r.plan.now in
    let across : FitsSigned w32 c.args.read.dx = search rules in
    let down : FitsSigned w32 c.args.read.dy = search rules in
    let some : (MayMean (size_in plan) (leaf_at c.args.read.g c.args.steps.now) c.args.read → ⊥) → ⊥ = λ no.
    let none : NonePass c.columns.result c.rows.result (LeadBy (record { width = c.columns.result; height = c.rows.result }) c.args.steps.now c.args.read.dx c.args.read.dy) =
    subst (λ (w : ℕ). NonePass w c.rows.result (LeadBy (record { width = w; height = c.rows.result }) c.args.steps.now c.args.read.dx c.args.read.dy)) (sym c.columns.ensures)
    (subst (λ (h : ℕ). NonePass plan.system.stencils.width h (LeadBy (record { width = plan.system.stencils.width; height = h }) c.args.steps.now c.args.read.dx c.args.read.dy)) (sym c.rows.ensures) (λ x y wide high led. no (refl, (x, y, wide, high, led)))) in
    let never = c.passing.ensures.never.1 (untold (λ (x y : ℤ). NonePass c.columns.result c.rows.result (LeadBy (record { width = c.columns.result; height = c.rows.result }) c.args.steps.now x y)) c.args.read.dx c.args.read.dy across down none) in
    absurd (let e : ⊥ = cc in e)
    in
    let own = own_read c.args.b.now r.ir.now r.plan.now r.taps.now r.image c.args.read c.law.ensures c.requires.reader.reading c.requires.read in
    let tap = c.tap_of-tap.result in
    let test = c.in_ok-test-in-Sometimes.test in
    let net = c.in_ok-net-in-Sometimes.net in
    let one = subst (λ (w : ℕ). Computes c.chosen_by.new.b c.test_at.new.b (test ∷ (tap ∷ choice_nets c.args.before)) w (chosen_by test tap c.args.before) net) (c.width.ensures ∙ own.bits) c.in_ok-net-in-Sometimes.ensures.test in
    choice_tested c.chosen_by.new.b c.test_at.new.b c.args.b.now first r.plan.now r.taps.now r.image reads c.args.read (leaf_at c.args.read.g c.args.steps.now) _ c.args.before test tap net refl some c.tap_of-tap.ensures
    c.in_ok-net-in-Sometimes.ensures.logic.includes c.in_ok-test-in-Sometimes.ensures.adds.includes inc c.in_ok-test-in-Sometimes.ensures.test one c.in_ok-net-in-Sometimes.ensures.depth before

pub chosen_by-requires : goal.chosen_by-requires
chosen_by-requires c = record {
  bits = let r = c.args.reader.now in
      let own = own_read c.args.b.now r.ir.now r.plan.now r.taps.now r.image c.args.read c.law.ensures c.requires.reader.reading c.requires.read in
      subst IsWidth (sym c.width.ensures) own.wide;
  there = c.in_ok-test-in-Sometimes.ensures.test.there;
  one_bit = c.in_ok-test-in-Sometimes.ensures.test.width;
  tapped = let r = c.args.reader.now in
      let own = own_read c.args.b.now r.ir.now r.plan.now r.taps.now r.image c.args.read c.law.ensures c.requires.reader.reading c.requires.read in
      net_more c.test_at.new.b c.args.b.now c.in_ok-test-in-Sometimes.ensures.adds.includes c.tap_of-tap.result (own.net c.tap_of-tap.result c.tap_of-tap.ensures);
  tap_width = let r = c.args.reader.now in
      let own = own_read c.args.b.now r.ir.now r.plan.now r.taps.now r.image c.args.read c.law.ensures c.requires.reader.reading c.requires.read in
      width_more c.test_at.new.b c.args.b.now c.in_ok-test-in-Sometimes.ensures.adds.includes c.tap_of-tap.result (own.net c.tap_of-tap.result c.tap_of-tap.ensures).declared
      ∙ own.width c.tap_of-tap.result c.tap_of-tap.ensures
      ∙ sym (c.width.ensures ∙ own.bits);
  before = record {
    there = chosen_net_more c.test_at.new.b c.args.b.now c.args.before c.in_ok-test-in-Sometimes.ensures.adds.includes c.requires.before.there;
    width = let r = c.args.reader.now in
        let own = own_read c.args.b.now r.ir.now r.plan.now r.taps.now r.image c.args.read c.law.ensures c.requires.reader.reading c.requires.read in
        subst (λ (w : ℕ). IfSome c.args.before (λ n. net_width c.test_at.new.b n ≡ w)) (sym (c.width.ensures ∙ own.bits))
        (chosen_width_more c.test_at.new.b c.args.b.now c.args.before _ c.in_ok-test-in-Sometimes.ensures.adds.includes c.requires.before.there c.requires.before.width);
  };
}

pub returns-in-Never-clause-grows : goal.returns-in-Never-clause-grows
returns-in-Never-clause-grows c = grow_none c.args.b.now c.args.tests.now c.args.reader.now.plan.now (AsksRead c.args.reader.now.image (leaf_at c.args.read.g c.args.steps.now) c.args.read) c.requires.reader.tests

pub returns-in-Always-clause-grows : goal.returns-in-Always-clause-grows
returns-in-Always-clause-grows c = grow_none c.args.b.now c.args.tests.now c.args.reader.now.plan.now (AsksRead c.args.reader.now.image (leaf_at c.args.read.g c.args.steps.now) c.args.read) c.requires.reader.tests

pub returns-in_ok-net-in-Sometimes-clause-grows : goal.returns-in_ok-net-in-Sometimes-clause-grows
returns-in_ok-net-in-Sometimes-clause-grows c =
    let made = c.in_ok-test-in-Sometimes.ensures in
    grow_then c.chosen_by.new.b c.test_at.new.b c.args.b.now c.test_at.new.tests c.args.tests.now c.args.reader.now.plan.now (AsksRead c.args.reader.now.image (leaf_at c.args.read.g c.args.steps.now) c.args.read) (record { adds = made.adds; tests = made.tests; needed = made.needed }) c.in_ok-net-in-Sometimes.ensures.logic
