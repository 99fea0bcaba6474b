use Rattle.circuit.specs.Growing.{GrowFor}
use Rattle.circuit.proofs.Growing.{grow_none, grow_by, grow_on}
use Rattle.std.proofs.Common.{◌≡◌, [], ◌∷◌, List, ◌++◌, ap, sym, subst, ◌∙◌, rules, to_z, of_z, w32, FitsSigned}
use Rattle.std.specs.Prelude.{ℤ, Result, Ok, Err, OnOk}
use Rattle.std.proofs.lemmas.Int.{to_z-of_z}
use Rattle.pointwise_ir.specs.declared.expr.Edge.{Edge}
use Rattle.pointwise_ir.specs.Trees.{Tree, tree_of, read, shifted, unary, binary, select, convert, scale}
use Rattle.edge_select.specs.declared.step.Step.{Step}
use Rattle.net_build.proofs.Parts.{Includes-trans}
use Rattle.circuit.specs.Leaves.{leaf_at, reads_of, bits_of, own_bit, with_step}
use Rattle.circuit.specs.Reads.{AddsLeaves}
use Rattle.circuit.proofs.Lasting.{reading_more}
use Rattle.circuit.proofs.Leafing.{leaves_on}
use Rattle.circuit.proofs.Registered.{asks_leaf, asks_parts, asks_left, asks_right}
use Rattle.circuit.specs.Registers.{AsksLeaf, AsksParts, Asks}
use Rattle.circuit.proofs.leaves.«+push_leaves».Goals as goal

-- a step whose offsets are stored and read back
stepped : (here items : List Step) (edge : Edge) (dx dy : ℤ) → FitsSigned w32 dx → FitsSigned w32 dy → items ≡ with_step here edge (to_z w32 (of_z w32 dx)) (to_z w32 (of_z w32 dy)) → items ≡ with_step here edge dx dy
stepped here items edge dx dy fx fy h = subst (λ (y : ℤ). items ≡ with_step here edge dx y) (to_z-of_z w32 dy fy) (subst (λ (x : ℤ). items ≡ with_step here edge x (to_z w32 (of_z w32 dy))) (to_z-of_z w32 dx fx) h)

pub still_law-requires : goal.still_law-requires
still_law-requires t c =
    let r = c.args.reader.now in
    record {
      reading =
          reading_more c.push_test.new.b c.args.b.now c.in_ok-push_test-in-Shifted.ensures.grows.adds.includes r.ir.now r.plan.now r.taps.now r.image c.requires.reader.reading;
      tests = c.in_ok-push_test-in-Shifted.ensures.grows.tests;
    }

pub still_law-requires-in-Binary : goal.still_law-requires-in-Binary
still_law-requires-in-Binary t c =
    let r = c.args.reader.now in
    record {
      reading =
          reading_more c.push_leaves-in-Binary.new.b c.args.b.now c.in_ok-push_leaves-in-Binary.ensures.grows.adds.includes r.ir.now r.plan.now r.taps.now r.image c.requires.reader.reading;
      tests = c.in_ok-push_leaves-in-Binary.ensures.grows.tests;
    }

pub still_law-requires-in-Select : goal.still_law-requires-in-Select
still_law-requires-in-Select t c =
    let r = c.args.reader.now in
    record {
      reading =
          reading_more c.push_leaves-in-Select.new.b c.args.b.now c.in_ok-push_leaves-in-Select.ensures.grows.adds.includes r.ir.now r.plan.now r.taps.now r.image c.requires.reader.reading;
      tests = c.in_ok-push_leaves-in-Select.ensures.grows.tests;
    }

pub still_law-requires-in-Select-2 : goal.still_law-requires-in-Select-2
still_law-requires-in-Select-2 t c =
    let r = c.args.reader.now in
    record {
      reading =
          reading_more c.push_leaves-in-Select-2.new.b c.push_leaves-in-Select.new.b c.in_ok-push_leaves-in-Select-2.ensures.grows.adds.includes r.ir.now r.plan.now r.taps.now r.image
          (reading_more c.push_leaves-in-Select.new.b c.args.b.now c.in_ok-push_leaves-in-Select.ensures.grows.adds.includes r.ir.now r.plan.now r.taps.now r.image c.requires.reader.reading);
      tests = c.in_ok-push_leaves-in-Select-2.ensures.grows.tests;
    }

pub returns-in_ok-push_leaves-in-Shifted-clause-leaves : goal.returns-in_ok-push_leaves-in-Shifted-clause-leaves
returns-in_ok-push_leaves-in-Shifted-clause-leaves t c =
    let r = c.args.reader.now in
    let p = r.ir.now in
    let plan = r.plan.now in
    let taps = r.taps.now in
    let f = r.image in
    let old = c.args.b.now in
    let mid = c.push_test.new.b in
    let new = c.push_leaves.new.b in
    let before = c.args.leaves.now in
    let between = c.push_test.new.leaves in
    let now = c.push_leaves.new.leaves in
    let edge = c.in-Shifted.edge in
    let dx = c.in-Shifted.dx in
    let dy = c.in-Shifted.dy in
    let body = tree_of c.deref-in-Shifted.result.now in
    let here = c.args.steps.now.items in
    let steps : List Step = with_step here edge dx dy in
    let pushed = stepped here c.push.new.self.items edge dx dy (search rules) (search rules) (c.in_ok-push-in-Shifted.ensures.items ∙ ap (λ (s : Step). here ++ s ∷ []) c.step_by.ensures) in
    let is : tree_of c.args.e.now ≡ shifted edge dx dy body = ap tree_of c.in-Shifted.is ∙ ap (λ a. shifted edge dx dy (tree_of a)) (sym c.deref-in-Shifted.ensures) in
    let one = subst (λ (s : List Step). AddsLeaves mid old p plan taps f [] (own_bit edge s) between before) (c.deref.ensures.value ∙ pushed) c.in_ok-push_test-in-Shifted.ensures.leaves in
    let other = subst (λ (s : List Step). AddsLeaves new mid p plan taps f (reads_of body s) (bits_of body s) now between) pushed c.in_ok-push_leaves-in-Shifted.ensures.leaves in
    subst (λ (e : Tree). AddsLeaves new old p plan taps f (reads_of e here) (bits_of e here) now before) (sym is)
    (leaves_on p plan taps f new mid old [] (reads_of body steps) (own_bit edge steps) (bits_of body steps) now between before c.in_ok-push_test-in-Shifted.ensures.grows.adds.includes one other)

pub returns-in_ok-push_leaves-in-Binary-2-clause-leaves : goal.returns-in_ok-push_leaves-in-Binary-2-clause-leaves
returns-in_ok-push_leaves-in-Binary-2-clause-leaves t c =
    let r = c.args.reader.now in
    let p = r.ir.now in
    let plan = r.plan.now in
    let taps = r.taps.now in
    let f = r.image in
    let old = c.args.b.now in
    let mid = c.push_leaves-in-Binary.new.b in
    let new = c.push_leaves-in-Binary-2.new.b in
    let before = c.args.leaves.now in
    let between = c.push_leaves-in-Binary.new.leaves in
    let now = c.push_leaves-in-Binary-2.new.leaves in
    let op = c.in-Binary.field-0 in
    let left = tree_of c.deref-in-Binary.result.now in
    let right = tree_of c.deref-in-Binary-2.result.now in
    let here = c.args.steps.now.items in
    let is : tree_of c.args.e.now ≡ binary op left right = ap tree_of c.in-Binary.is ∙ ap (λ a. binary op (tree_of a) (tree_of c.in-Binary.right.value)) (sym c.deref-in-Binary.ensures) ∙ ap (λ a. binary op left (tree_of a)) (sym c.deref-in-Binary-2.ensures) in
    let other = subst (λ (s : List Step). AddsLeaves new mid p plan taps f (reads_of right s) (bits_of right s) now between) c.in_ok-push_leaves-in-Binary.ensures.steps c.in_ok-push_leaves-in-Binary-2.ensures.leaves in
    subst (λ (e : Tree). AddsLeaves new old p plan taps f (reads_of e here) (bits_of e here) now before) (sym is)
    (leaves_on p plan taps f new mid old (reads_of left here) (reads_of right here) (bits_of left here) (bits_of right here) now between before c.in_ok-push_leaves-in-Binary.ensures.grows.adds.includes c.in_ok-push_leaves-in-Binary.ensures.leaves other)

pub returns-in_ok-push_leaves-in-Select-3-clause-leaves : goal.returns-in_ok-push_leaves-in-Select-3-clause-leaves
returns-in_ok-push_leaves-in-Select-3-clause-leaves t c =
    let r = c.args.reader.now in
    let p = r.ir.now in
    let plan = r.plan.now in
    let taps = r.taps.now in
    let f = r.image in
    let old = c.args.b.now in
    let one = c.push_leaves-in-Select.new.b in
    let two = c.push_leaves-in-Select-2.new.b in
    let new = c.push_leaves-in-Select-3.new.b in
    let before = c.args.leaves.now in
    let tested = c.push_leaves-in-Select.new.leaves in
    let between = c.push_leaves-in-Select-2.new.leaves in
    let now = c.push_leaves-in-Select-3.new.leaves in
    let condition = tree_of c.deref-in-Select.result.now in
    let first = tree_of c.deref-in-Select-2.result.now in
    let second = tree_of c.deref-in-Select-3.result.now in
    let here = c.args.steps.now.items in
    let is : tree_of c.args.e.now ≡ select condition first second =
    ap tree_of c.in-Select.is ∙ ap (λ a. select (tree_of a) (tree_of c.in-Select.first.value) (tree_of c.in-Select.second.value)) (sym c.deref-in-Select.ensures)
    ∙ ap (λ a. select condition (tree_of a) (tree_of c.in-Select.second.value)) (sym c.deref-in-Select-2.ensures) ∙ ap (λ a. select condition first (tree_of a)) (sym c.deref-in-Select-3.ensures)
    in
    let test = c.in_ok-push_leaves-in-Select.ensures.leaves in
    let left = subst (λ (s : List Step). AddsLeaves two one p plan taps f (reads_of first s) (bits_of first s) between tested) c.in_ok-push_leaves-in-Select.ensures.steps c.in_ok-push_leaves-in-Select-2.ensures.leaves in
    let right = subst (λ (s : List Step). AddsLeaves new two p plan taps f (reads_of second s) (bits_of second s) now between) (c.in_ok-push_leaves-in-Select-2.ensures.steps ∙ c.in_ok-push_leaves-in-Select.ensures.steps) c.in_ok-push_leaves-in-Select-3.ensures.leaves in
    let both = leaves_on p plan taps f two one old (reads_of condition here) (reads_of first here) (bits_of condition here) (bits_of first here) between tested before c.in_ok-push_leaves-in-Select.ensures.grows.adds.includes test left in
    subst (λ (e : Tree). AddsLeaves new old p plan taps f (reads_of e here) (bits_of e here) now before) (sym is)
    (leaves_on p plan taps f new two old (reads_of condition here ++ reads_of first here) (reads_of second here) (bits_of condition here ++ bits_of first here) (bits_of second here) now between before
    (Includes-trans two one old c.in_ok-push_leaves-in-Select-2.ensures.grows.adds.includes c.in_ok-push_leaves-in-Select.ensures.grows.adds.includes) both right)

pub returns-in-Constant-clause-grows : goal.returns-in-Constant-clause-grows
returns-in-Constant-clause-grows t c = grow_none c.args.b.now c.args.tests.now c.args.reader.now.plan.now (Asks c.args.reader.now.plan.now c.args.reader.now.image (reads_of (tree_of c.args.e.now) c.args.steps.now.items) (bits_of (tree_of c.args.e.now) c.args.steps.now.items)) c.requires.reader.tests

pub returns-in_ok-push_leaves-in-Shifted-clause-grows : goal.returns-in_ok-push_leaves-in-Shifted-clause-grows
returns-in_ok-push_leaves-in-Shifted-clause-grows t c =
    let plan = c.args.reader.now.plan.now in
    let f = c.args.reader.now.image in
    let edge = c.in-Shifted.edge in
    let dx = c.in-Shifted.dx in
    let dy = c.in-Shifted.dy in
    let body = tree_of c.deref-in-Shifted.result.now in
    let here = c.args.steps.now.items in
    let steps : List Step = with_step here edge dx dy in
    let pushed = stepped here c.push.new.self.items edge dx dy (search rules) (search rules) (c.in_ok-push-in-Shifted.ensures.items ∙ ap (λ (s : Step). here ++ s ∷ []) c.step_by.ensures) in
    let is : tree_of c.args.e.now ≡ shifted edge dx dy body = ap tree_of c.in-Shifted.is ∙ ap (λ a. shifted edge dx dy (tree_of a)) (sym c.deref-in-Shifted.ensures) in
    let one = subst (λ (s : List Step). GrowFor c.push_test.new.b c.args.b.now c.push_test.new.tests c.args.tests.now plan (AsksParts f (own_bit edge s))) (c.deref.ensures.value ∙ pushed) c.in_ok-push_test-in-Shifted.ensures.grows in
    let other = subst (λ (s : List Step). GrowFor c.push_leaves.new.b c.push_test.new.b c.push_leaves.new.tests c.push_test.new.tests plan (Asks plan f (reads_of body s) (bits_of body s))) pushed c.in_ok-push_leaves-in-Shifted.ensures.grows in
    subst (λ (e : Tree). GrowFor c.push_leaves.new.b c.args.b.now c.push_leaves.new.tests c.args.tests.now plan (Asks plan f (reads_of e here) (bits_of e here))) (sym is)
    (grow_on c.push_leaves.new.b c.push_test.new.b c.args.b.now c.push_leaves.new.tests c.push_test.new.tests c.args.tests.now plan (AsksParts f (own_bit edge steps)) (Asks plan f (reads_of body steps) (bits_of body steps)) (Asks plan f (reads_of (shifted edge dx dy body) here) (bits_of (shifted edge dx dy body) here)) one other
    (asks_parts plan f (reads_of body steps) (own_bit edge steps) (bits_of body steps)) (asks_right plan f [] (reads_of body steps) (own_bit edge steps) (bits_of body steps)))

pub returns-in_ok-push_leaves-in-Binary-2-clause-grows : goal.returns-in_ok-push_leaves-in-Binary-2-clause-grows
returns-in_ok-push_leaves-in-Binary-2-clause-grows t c =
    let plan = c.args.reader.now.plan.now in
    let f = c.args.reader.now.image in
    let op = c.in-Binary.field-0 in
    let left = tree_of c.deref-in-Binary.result.now in
    let right = tree_of c.deref-in-Binary-2.result.now in
    let here = c.args.steps.now.items in
    let is : tree_of c.args.e.now ≡ binary op left right = ap tree_of c.in-Binary.is ∙ ap (λ a. binary op (tree_of a) (tree_of c.in-Binary.right.value)) (sym c.deref-in-Binary.ensures) ∙ ap (λ a. binary op left (tree_of a)) (sym c.deref-in-Binary-2.ensures) in
    let other = subst (λ (s : List Step). GrowFor c.push_leaves-in-Binary-2.new.b c.push_leaves-in-Binary.new.b c.push_leaves-in-Binary-2.new.tests c.push_leaves-in-Binary.new.tests plan (Asks plan f (reads_of right s) (bits_of right s))) c.in_ok-push_leaves-in-Binary.ensures.steps c.in_ok-push_leaves-in-Binary-2.ensures.grows in
    subst (λ (e : Tree). GrowFor c.push_leaves-in-Binary-2.new.b c.args.b.now c.push_leaves-in-Binary-2.new.tests c.args.tests.now plan (Asks plan f (reads_of e here) (bits_of e here))) (sym is)
    (grow_on c.push_leaves-in-Binary-2.new.b c.push_leaves-in-Binary.new.b c.args.b.now c.push_leaves-in-Binary-2.new.tests c.push_leaves-in-Binary.new.tests c.args.tests.now plan (Asks plan f (reads_of left here) (bits_of left here)) (Asks plan f (reads_of right here) (bits_of right here)) (Asks plan f (reads_of (binary op left right) here) (bits_of (binary op left right) here)) c.in_ok-push_leaves-in-Binary.ensures.grows other
    (asks_left plan f (reads_of left here) (reads_of right here) (bits_of left here) (bits_of right here)) (asks_right plan f (reads_of left here) (reads_of right here) (bits_of left here) (bits_of right here)))

pub returns-in_ok-push_leaves-in-Select-3-clause-grows : goal.returns-in_ok-push_leaves-in-Select-3-clause-grows
returns-in_ok-push_leaves-in-Select-3-clause-grows t c =
    let plan = c.args.reader.now.plan.now in
    let f = c.args.reader.now.image in
    let condition = tree_of c.deref-in-Select.result.now in
    let first = tree_of c.deref-in-Select-2.result.now in
    let second = tree_of c.deref-in-Select-3.result.now in
    let here = c.args.steps.now.items in
    let is : tree_of c.args.e.now ≡ select condition first second =
    ap tree_of c.in-Select.is ∙ ap (λ a. select (tree_of a) (tree_of c.in-Select.first.value) (tree_of c.in-Select.second.value)) (sym c.deref-in-Select.ensures)
    ∙ ap (λ a. select condition (tree_of a) (tree_of c.in-Select.second.value)) (sym c.deref-in-Select-2.ensures) ∙ ap (λ a. select condition first (tree_of a)) (sym c.deref-in-Select-3.ensures)
    in
    let left = subst (λ (s : List Step). GrowFor c.push_leaves-in-Select-2.new.b c.push_leaves-in-Select.new.b c.push_leaves-in-Select-2.new.tests c.push_leaves-in-Select.new.tests plan (Asks plan f (reads_of first s) (bits_of first s))) c.in_ok-push_leaves-in-Select.ensures.steps c.in_ok-push_leaves-in-Select-2.ensures.grows in
    let right = subst (λ (s : List Step). GrowFor c.push_leaves-in-Select-3.new.b c.push_leaves-in-Select-2.new.b c.push_leaves-in-Select-3.new.tests c.push_leaves-in-Select-2.new.tests plan (Asks plan f (reads_of second s) (bits_of second s))) (c.in_ok-push_leaves-in-Select-2.ensures.steps ∙ c.in_ok-push_leaves-in-Select.ensures.steps) c.in_ok-push_leaves-in-Select-3.ensures.grows in
    let rs = reads_of condition here ++ reads_of first here in
    let ps = bits_of condition here ++ bits_of first here in
    let both = grow_on c.push_leaves-in-Select-2.new.b c.push_leaves-in-Select.new.b c.args.b.now c.push_leaves-in-Select-2.new.tests c.push_leaves-in-Select.new.tests c.args.tests.now plan (Asks plan f (reads_of condition here) (bits_of condition here)) (Asks plan f (reads_of first here) (bits_of first here)) (Asks plan f (reads_of condition here ++ reads_of first here) (bits_of condition here ++ bits_of first here)) c.in_ok-push_leaves-in-Select.ensures.grows left
    (asks_left plan f (reads_of condition here) (reads_of first here) (bits_of condition here) (bits_of first here)) (asks_right plan f (reads_of condition here) (reads_of first here) (bits_of condition here) (bits_of first here)) in
    subst (λ (e : Tree). GrowFor c.push_leaves-in-Select-3.new.b c.args.b.now c.push_leaves-in-Select-3.new.tests c.args.tests.now plan (Asks plan f (reads_of e here) (bits_of e here))) (sym is)
    (grow_on c.push_leaves-in-Select-3.new.b c.push_leaves-in-Select-2.new.b c.args.b.now c.push_leaves-in-Select-3.new.tests c.push_leaves-in-Select-2.new.tests c.args.tests.now plan (Asks plan f rs ps) (Asks plan f (reads_of second here) (bits_of second here)) (Asks plan f (reads_of (select condition first second) here) (bits_of (select condition first second) here)) both right
    (asks_left plan f rs (reads_of second here) ps (bits_of second here)) (asks_right plan f rs (reads_of second here) ps (bits_of second here)))

pub returns-in-Unary-clause-grows : goal.returns-in-Unary-clause-grows
returns-in-Unary-clause-grows t c =
    let plan = c.args.reader.now.plan.now in
    let f = c.args.reader.now.image in
    let here = c.args.steps.now.items in
    let is = ap tree_of c.in-Unary.is ∙ ap (λ a. unary c.in-Unary.field-0 (tree_of a)) (sym c.deref-in-Unary.ensures) in
    subst (λ (e : Tree). OnOk c.push_leaves-in-Unary.result (GrowFor c.push_leaves-in-Unary.new.b c.args.b.now c.push_leaves-in-Unary.new.tests c.args.tests.now plan (Asks plan f (reads_of e here) (bits_of e here)))) (sym is) c.push_leaves-in-Unary.ensures.grows

pub returns-in-Convert-clause-grows : goal.returns-in-Convert-clause-grows
returns-in-Convert-clause-grows t c =
    let plan = c.args.reader.now.plan.now in
    let f = c.args.reader.now.image in
    let here = c.args.steps.now.items in
    let is = ap tree_of c.in-Convert.is ∙ ap (λ a. convert c.in-Convert.field-0 (tree_of a) c.in-Convert.field-2) (sym c.deref-in-Convert.ensures) in
    subst (λ (e : Tree). OnOk c.push_leaves-in-Convert.result (GrowFor c.push_leaves-in-Convert.new.b c.args.b.now c.push_leaves-in-Convert.new.tests c.args.tests.now plan (Asks plan f (reads_of e here) (bits_of e here)))) (sym is) c.push_leaves-in-Convert.ensures.grows

pub returns-in-Scale-clause-grows : goal.returns-in-Scale-clause-grows
returns-in-Scale-clause-grows t c =
    let plan = c.args.reader.now.plan.now in
    let f = c.args.reader.now.image in
    let here = c.args.steps.now.items in
    let is = ap tree_of c.in-Scale.is ∙ ap (λ a. scale c.in-Scale.field-0 (tree_of a) c.in-Scale.field-2) (sym c.deref-in-Scale.ensures) in
    subst (λ (e : Tree). OnOk c.push_leaves-in-Scale.result (GrowFor c.push_leaves-in-Scale.new.b c.args.b.now c.push_leaves-in-Scale.new.tests c.args.tests.now plan (Asks plan f (reads_of e here) (bits_of e here)))) (sym is) c.push_leaves-in-Scale.ensures.grows

-- a fact of an Ok from another
on_ok : {T E : Type 0} (r : Result T E) (P Q : Type 0) → (P → Q) → OnOk r P → OnOk r Q
on_ok (Ok x) P Q f h = f h
on_ok (Err e) P Q f h = h

pub returns-in-Read-clause-grows : goal.returns-in-Read-clause-grows
returns-in-Read-clause-grows t c =
    let plan = c.args.reader.now.plan.now in
    let f = c.args.reader.now.image in
    let here = c.args.steps.now.items in
    let edge = c.in-Read.edge in
    let g = c.in-Read.g in
    let dx = c.in-Read.dx in
    let dy = c.in-Read.dy in
    let leaf = leaf_at c.in-Read.g (with_step c.args.steps.now.items c.in-Read.edge c.in-Read.dx c.in-Read.dy) in
    let stepped_here = stepped here (here ++ c.step_by-step.result ∷ []) edge dx dy (search rules) (search rules) (ap (λ (s : Step). here ++ s ∷ []) c.step_by-step.ensures) in
    let is : tree_of c.args.e.now ≡ read edge g dx dy = ap tree_of c.in-Read.is in
    subst (λ (e : Tree). OnOk c.push_read.result (GrowFor c.push_read.new.b c.args.b.now c.push_read.new.tests c.args.tests.now plan (Asks plan f (reads_of e here) (bits_of e here)))) (sym is)
    (on_ok c.push_read.result (GrowFor c.push_read.new.b c.args.b.now c.push_read.new.tests c.args.tests.now plan (AsksLeaf plan f leaf)) (GrowFor c.push_read.new.b c.args.b.now c.push_read.new.tests c.args.tests.now plan (Asks plan f (leaf ∷ []) []))
    (grow_by c.push_read.new.b c.args.b.now c.push_read.new.tests c.args.tests.now plan (AsksLeaf plan f leaf) (Asks plan f (leaf ∷ []) []) (asks_leaf plan f leaf))
    (subst (λ (steps : List Step). OnOk c.push_read.result (GrowFor c.push_read.new.b c.args.b.now c.push_read.new.tests c.args.tests.now plan (AsksLeaf plan f (leaf_at g steps)))) stepped_here c.push_read.ensures.grows))
