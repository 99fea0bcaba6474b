use Rattle.std.proofs.Common.{◌≡◌, ℕ, ◌-◌, ◌<◌, length, subst, ◌∙◌, arith, ap, Some, refl}
use Rattle.std.specs.Prelude.{slice_get}
use Rattle.std.proofs.lemmas.Option.{slice_get_read}
use Rattle.wiring.specs.declared.order.Mark.{Mark}
use Rattle.wiring.specs.declared.order.Mark.TheVariants.{New, Open, Done}
use Rattle.wiring.specs.Moves.{Looks}
use Rattle.wiring.proofs.Step.{top_at, top_within, assign_within, leave_step, look_step, enter_step, cycle_step, none_feeds, one_feeds, some_feeds, some_within}
use Rattle.wiring.proofs.order.step.Goals as goal

pub leave-requires : goal.leave-requires
leave-requires c =
    let at = top_at c.args.search.now.path.items c.len-top.result c.index-visit.result.now (c.len-top.ensures ∙ c.args.search.now.path.ok.0) (omega (arith, c.requires.path, c.len-top.ensures)) c.index-visit.ensures in
    top_within c.args.assigns.now c.args.drivers.now c.requires.table c.args.search.now c.args.search.now c.requires.search c.index-visit.result.now at

pub returns-then-visit-ge3-clause-search : goal.returns-then-visit-ge3-clause-search
returns-then-visit-ge3-clause-search c =
    let at = top_at c.args.search.now.path.items c.len-top.result c.index-visit.result.now (c.len-top.ensures ∙ c.args.search.now.path.ok.0) (omega (arith, c.requires.path, c.len-top.ensures)) c.index-visit.ensures in
    (leave_step c.args.assigns.now c.args.drivers.now c.requires.table c.args.search.now c.leave.new.search c.requires.search c.index-visit.result.now at c.if-visit-ge3.true c.in_ok-leave.ensures.ok).search

pub returns-then-visit-ge3-clause-nearer : goal.returns-then-visit-ge3-clause-nearer
returns-then-visit-ge3-clause-nearer c =
    let at = top_at c.args.search.now.path.items c.len-top.result c.index-visit.result.now (c.len-top.ensures ∙ c.args.search.now.path.ok.0) (omega (arith, c.requires.path, c.len-top.ensures)) c.index-visit.ensures in
    (leave_step c.args.assigns.now c.args.drivers.now c.requires.table c.args.search.now c.leave.new.search c.requires.search c.index-visit.result.now at c.if-visit-ge3.true c.in_ok-leave.ensures.ok).nearer

pub returns-then-visit-ge3-clause-marks : goal.returns-then-visit-ge3-clause-marks
returns-then-visit-ge3-clause-marks c =
    let at = top_at c.args.search.now.path.items c.len-top.result c.index-visit.result.now (c.len-top.ensures ∙ c.args.search.now.path.ok.0) (omega (arith, c.requires.path, c.len-top.ensures)) c.index-visit.ensures in
    (leave_step c.args.assigns.now c.args.drivers.now c.requires.table c.args.search.now c.leave.new.search c.requires.search c.index-visit.result.now at c.if-visit-ge3.true c.in_ok-leave.ensures.ok).marks

pub driver_for-requires : goal.driver_for-requires
driver_for-requires c =
    let at = top_at c.args.search.now.path.items c.len-top.result c.index-visit.result.now (c.len-top.ensures ∙ c.args.search.now.path.ok.0) (omega (arith, c.requires.path, c.len-top.ensures)) c.index-visit.ensures in
    assign_within c.args.assigns.now c.args.drivers.now c.requires.table c.args.search.now c.args.search.now c.requires.search c.index-visit.result.now at

pub returns-in-None-clause-search : goal.returns-in-None-clause-search
returns-in-None-clause-search c =
    let at = top_at c.args.search.now.path.items c.len-top.result c.index-visit.result.now (c.len-top.ensures ∙ c.args.search.now.path.ok.0) (omega (arith, c.requires.path, c.len-top.ensures)) c.index-visit.ensures in
    (look_step c.args.assigns.now c.args.drivers.now c.requires.table c.args.search.now c.look.new.search c.requires.search c.index-visit.result.now at c.if-visit-ge3.false (λ j feeds. absurd (none_feeds c.args.assigns.now c.args.drivers.now c.requires.table c.index-visit.result.now.assign c.index-visit.result.now.looked c.in-None.ensures j feeds)) (subst (λ (z : ℕ). Looks c.args.search.now c.look.new.search (z - 1) c.index-visit.result.now) (c.len-top.ensures ∙ c.args.search.now.path.ok.0) (record { marks = c.look.ensures.marks; path = c.look.ensures.path; order = c.look.ensures.order }))).search

pub returns-in-None-clause-nearer : goal.returns-in-None-clause-nearer
returns-in-None-clause-nearer c =
    let at = top_at c.args.search.now.path.items c.len-top.result c.index-visit.result.now (c.len-top.ensures ∙ c.args.search.now.path.ok.0) (omega (arith, c.requires.path, c.len-top.ensures)) c.index-visit.ensures in
    (look_step c.args.assigns.now c.args.drivers.now c.requires.table c.args.search.now c.look.new.search c.requires.search c.index-visit.result.now at c.if-visit-ge3.false (λ j feeds. absurd (none_feeds c.args.assigns.now c.args.drivers.now c.requires.table c.index-visit.result.now.assign c.index-visit.result.now.looked c.in-None.ensures j feeds)) (subst (λ (z : ℕ). Looks c.args.search.now c.look.new.search (z - 1) c.index-visit.result.now) (c.len-top.ensures ∙ c.args.search.now.path.ok.0) (record { marks = c.look.ensures.marks; path = c.look.ensures.path; order = c.look.ensures.order }))).nearer

pub index-requires : goal.index-requires
index-requires c =
    let at = top_at c.args.search.now.path.items c.len-top.result c.index-visit.result.now (c.len-top.ensures ∙ c.args.search.now.path.ok.0) (omega (arith, c.requires.path, c.len-top.ensures)) c.index-visit.ensures in
    let here = assign_within c.args.assigns.now c.args.drivers.now c.requires.table c.args.search.now c.args.search.now c.requires.search c.index-visit.result.now at in
    let within : c.in-Some.j < length c.args.search.now.marks.items = omega (arith, some_within c.args.assigns.now c.args.drivers.now c.requires.table c.index-visit.result.now.assign c.index-visit.result.now.looked c.in-Some.j here c.in-Some.ensures, c.requires.search.size) in
    omega (arith, within, c.args.search.now.marks.ok.0)

pub enter-requires : goal.enter-requires
enter-requires c =
    let at = top_at c.args.search.now.path.items c.len-top.result c.index-visit.result.now (c.len-top.ensures ∙ c.args.search.now.path.ok.0) (omega (arith, c.requires.path, c.len-top.ensures)) c.index-visit.ensures in
    let here = assign_within c.args.assigns.now c.args.drivers.now c.requires.table c.args.search.now c.args.search.now c.requires.search c.index-visit.result.now at in
    let within : c.in-Some.j < length c.args.search.now.marks.items = omega (arith, some_within c.args.assigns.now c.args.drivers.now c.requires.table c.index-visit.result.now.assign c.index-visit.result.now.looked c.in-Some.j here c.in-Some.ensures, c.requires.search.size) in
    within

pub returns-in-Done-clause-search : goal.returns-in-Done-clause-search
returns-in-Done-clause-search c =
    let at = top_at c.args.search.now.path.items c.len-top.result c.index-visit.result.now (c.len-top.ensures ∙ c.args.search.now.path.ok.0) (omega (arith, c.requires.path, c.len-top.ensures)) c.index-visit.ensures in
    let here = assign_within c.args.assigns.now c.args.drivers.now c.requires.table c.args.search.now c.args.search.now c.requires.search c.index-visit.result.now at in
    let within : c.in-Some.j < length c.args.search.now.marks.items = omega (arith, some_within c.args.assigns.now c.args.drivers.now c.requires.table c.index-visit.result.now.assign c.index-visit.result.now.looked c.in-Some.j here c.in-Some.ensures, c.requires.search.size) in
    let mark : slice_get c.args.search.now.marks.items c.in-Some.j ≡ Some Done = slice_get_read c.args.search.now.marks.items (length c.args.search.now.marks.items) c.in-Some.j c.index.result.now refl within c.index.ensures ∙ ap (λ (x : Mark). Some x) c.in-Done.is in
    (look_step c.args.assigns.now c.args.drivers.now c.requires.table c.args.search.now c.look-in-Done.new.search c.requires.search c.index-visit.result.now at c.if-visit-ge3.false (λ j feeds. subst (λ (z : ℕ). slice_get c.args.search.now.marks.items z ≡ Some Done) (one_feeds c.args.assigns.now c.args.drivers.now c.requires.table c.index-visit.result.now.assign c.index-visit.result.now.looked c.in-Some.j c.in-Some.ensures j feeds) mark) (subst (λ (z : ℕ). Looks c.args.search.now c.look-in-Done.new.search (z - 1) c.index-visit.result.now) (c.len-top.ensures ∙ c.args.search.now.path.ok.0) (record { marks = c.look-in-Done.ensures.marks; path = c.look-in-Done.ensures.path; order = c.look-in-Done.ensures.order }))).search

pub returns-in-Done-clause-nearer : goal.returns-in-Done-clause-nearer
returns-in-Done-clause-nearer c =
    let at = top_at c.args.search.now.path.items c.len-top.result c.index-visit.result.now (c.len-top.ensures ∙ c.args.search.now.path.ok.0) (omega (arith, c.requires.path, c.len-top.ensures)) c.index-visit.ensures in
    let here = assign_within c.args.assigns.now c.args.drivers.now c.requires.table c.args.search.now c.args.search.now c.requires.search c.index-visit.result.now at in
    let within : c.in-Some.j < length c.args.search.now.marks.items = omega (arith, some_within c.args.assigns.now c.args.drivers.now c.requires.table c.index-visit.result.now.assign c.index-visit.result.now.looked c.in-Some.j here c.in-Some.ensures, c.requires.search.size) in
    let mark : slice_get c.args.search.now.marks.items c.in-Some.j ≡ Some Done = slice_get_read c.args.search.now.marks.items (length c.args.search.now.marks.items) c.in-Some.j c.index.result.now refl within c.index.ensures ∙ ap (λ (x : Mark). Some x) c.in-Done.is in
    (look_step c.args.assigns.now c.args.drivers.now c.requires.table c.args.search.now c.look-in-Done.new.search c.requires.search c.index-visit.result.now at c.if-visit-ge3.false (λ j feeds. subst (λ (z : ℕ). slice_get c.args.search.now.marks.items z ≡ Some Done) (one_feeds c.args.assigns.now c.args.drivers.now c.requires.table c.index-visit.result.now.assign c.index-visit.result.now.looked c.in-Some.j c.in-Some.ensures j feeds) mark) (subst (λ (z : ℕ). Looks c.args.search.now c.look-in-Done.new.search (z - 1) c.index-visit.result.now) (c.len-top.ensures ∙ c.args.search.now.path.ok.0) (record { marks = c.look-in-Done.ensures.marks; path = c.look-in-Done.ensures.path; order = c.look-in-Done.ensures.order }))).nearer

pub returns-in_ok-enter-in-New-clause-search : goal.returns-in_ok-enter-in-New-clause-search
returns-in_ok-enter-in-New-clause-search c =
    let at = top_at c.args.search.now.path.items c.len-top.result c.index-visit.result.now (c.len-top.ensures ∙ c.args.search.now.path.ok.0) (omega (arith, c.requires.path, c.len-top.ensures)) c.index-visit.ensures in
    let here = assign_within c.args.assigns.now c.args.drivers.now c.requires.table c.args.search.now c.args.search.now c.requires.search c.index-visit.result.now at in
    let within : c.in-Some.j < length c.args.search.now.marks.items = omega (arith, some_within c.args.assigns.now c.args.drivers.now c.requires.table c.index-visit.result.now.assign c.index-visit.result.now.looked c.in-Some.j here c.in-Some.ensures, c.requires.search.size) in
    let mark : slice_get c.args.search.now.marks.items c.in-Some.j ≡ Some New = slice_get_read c.args.search.now.marks.items (length c.args.search.now.marks.items) c.in-Some.j c.index.result.now refl within c.index.ensures ∙ ap (λ (x : Mark). Some x) c.in-New.is in
    (enter_step c.args.assigns.now c.args.drivers.now c.requires.table c.args.search.now c.enter.new.search c.requires.search c.index-visit.result.now at c.in-Some.j mark (some_feeds c.args.assigns.now c.args.drivers.now c.requires.table c.index-visit.result.now.assign c.index-visit.result.now.looked c.in-Some.j here c.in-Some.ensures) c.in_ok-enter-in-New.ensures.ok).search

pub returns-in_ok-enter-in-New-clause-nearer : goal.returns-in_ok-enter-in-New-clause-nearer
returns-in_ok-enter-in-New-clause-nearer c =
    let at = top_at c.args.search.now.path.items c.len-top.result c.index-visit.result.now (c.len-top.ensures ∙ c.args.search.now.path.ok.0) (omega (arith, c.requires.path, c.len-top.ensures)) c.index-visit.ensures in
    let here = assign_within c.args.assigns.now c.args.drivers.now c.requires.table c.args.search.now c.args.search.now c.requires.search c.index-visit.result.now at in
    let within : c.in-Some.j < length c.args.search.now.marks.items = omega (arith, some_within c.args.assigns.now c.args.drivers.now c.requires.table c.index-visit.result.now.assign c.index-visit.result.now.looked c.in-Some.j here c.in-Some.ensures, c.requires.search.size) in
    let mark : slice_get c.args.search.now.marks.items c.in-Some.j ≡ Some New = slice_get_read c.args.search.now.marks.items (length c.args.search.now.marks.items) c.in-Some.j c.index.result.now refl within c.index.ensures ∙ ap (λ (x : Mark). Some x) c.in-New.is in
    (enter_step c.args.assigns.now c.args.drivers.now c.requires.table c.args.search.now c.enter.new.search c.requires.search c.index-visit.result.now at c.in-Some.j mark (some_feeds c.args.assigns.now c.args.drivers.now c.requires.table c.index-visit.result.now.assign c.index-visit.result.now.looked c.in-Some.j here c.in-Some.ensures) c.in_ok-enter-in-New.ensures.ok).nearer

pub returns-in_ok-enter-in-New-clause-marks : goal.returns-in_ok-enter-in-New-clause-marks
returns-in_ok-enter-in-New-clause-marks c =
    let at = top_at c.args.search.now.path.items c.len-top.result c.index-visit.result.now (c.len-top.ensures ∙ c.args.search.now.path.ok.0) (omega (arith, c.requires.path, c.len-top.ensures)) c.index-visit.ensures in
    let here = assign_within c.args.assigns.now c.args.drivers.now c.requires.table c.args.search.now c.args.search.now c.requires.search c.index-visit.result.now at in
    let within : c.in-Some.j < length c.args.search.now.marks.items = omega (arith, some_within c.args.assigns.now c.args.drivers.now c.requires.table c.index-visit.result.now.assign c.index-visit.result.now.looked c.in-Some.j here c.in-Some.ensures, c.requires.search.size) in
    let mark : slice_get c.args.search.now.marks.items c.in-Some.j ≡ Some New = slice_get_read c.args.search.now.marks.items (length c.args.search.now.marks.items) c.in-Some.j c.index.result.now refl within c.index.ensures ∙ ap (λ (x : Mark). Some x) c.in-New.is in
    (enter_step c.args.assigns.now c.args.drivers.now c.requires.table c.args.search.now c.enter.new.search c.requires.search c.index-visit.result.now at c.in-Some.j mark (some_feeds c.args.assigns.now c.args.drivers.now c.requires.table c.index-visit.result.now.assign c.index-visit.result.now.looked c.in-Some.j here c.in-Some.ensures) c.in_ok-enter-in-New.ensures.ok).marks

pub returns-in-Open-clause-cycle : goal.returns-in-Open-clause-cycle
returns-in-Open-clause-cycle c =
    let at = top_at c.args.search.now.path.items c.len-top.result c.index-visit.result.now (c.len-top.ensures ∙ c.args.search.now.path.ok.0) (omega (arith, c.requires.path, c.len-top.ensures)) c.index-visit.ensures in
    let here = assign_within c.args.assigns.now c.args.drivers.now c.requires.table c.args.search.now c.args.search.now c.requires.search c.index-visit.result.now at in
    let within : c.in-Some.j < length c.args.search.now.marks.items = omega (arith, some_within c.args.assigns.now c.args.drivers.now c.requires.table c.index-visit.result.now.assign c.index-visit.result.now.looked c.in-Some.j here c.in-Some.ensures, c.requires.search.size) in
    let mark : slice_get c.args.search.now.marks.items c.in-Some.j ≡ Some Open = slice_get_read c.args.search.now.marks.items (length c.args.search.now.marks.items) c.in-Some.j c.index.result.now refl within c.index.ensures ∙ ap (λ (x : Mark). Some x) c.in-Open.is in
    cycle_step c.args.assigns.now c.args.drivers.now c.requires.table c.args.search.now c.args.search.now c.requires.search c.index-visit.result.now at c.in-Some.j mark (some_feeds c.args.assigns.now c.args.drivers.now c.requires.table c.index-visit.result.now.assign c.index-visit.result.now.looked c.in-Some.j here c.in-Some.ensures)
