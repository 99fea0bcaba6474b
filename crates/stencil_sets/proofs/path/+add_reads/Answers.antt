use Rattle.std.proofs.Common.{rules, ap, sym, subst, ◌∙◌, ◌≡◌, Some, None, to_z, of_z, w32}
use Rattle.std.proofs.lemmas.Int.{to_z-of_z}
use Rattle.std.proofs.lemmas.Result.{on_ok_weaker}
use Rattle.pointwise_ir.specs.Trees.{tree_of, read, shifted, unary, binary, select, convert, scale}
use Rattle.dk_base.specs.FrameSizes.{size_of}
use Rattle.stencil_sets.specs.Paths.{ReadsFrom}
use Rattle.frame_paths.proofs.Walks.{steps_moved}
use Rattle.stencil_sets.proofs.Walked.{Adds, adds_both, adds_three, adds_nothing, adds_same, no_shift, shift_end, two_split, two_join, three_split, three_join, as_tree}
use Rattle.stencil_sets.proofs.path.+add_reads.Goals as goal

pub returns-in-Read : goal.returns-in-Read
returns-in-Read t c = record {
  added = let x : to_z w32 (of_z w32 c.in-Read.dx) ≡ c.in-Read.dx = to_z-of_z w32 c.in-Read.dx (search rules) in
      let y : to_z w32 (of_z w32 c.in-Read.dy) ≡ c.in-Read.dy = to_z-of_z w32 c.in-Read.dy (search rules) in
      as_tree (size_of c.args.size) c.args.path c.args.all.now.items c.add_read.new.all.items c.add_read.result (tree_of c.args.body.now) _
      (ap tree_of c.in-Read.is ∙ ap (λ d. read c.in-Read.edge c.in-Read.image d c.in-Read.dy) (sym x) ∙ ap (λ d. read c.in-Read.edge c.in-Read.image (to_z w32 (of_z w32 c.in-Read.dx)) d) (sym y)) c.add_read.ensures.added;
  near = search rules;
}

pub returns-in-Unary : goal.returns-in-Unary
returns-in-Unary t c = record {
  added = as_tree (size_of c.args.size) c.args.path c.args.all.now.items c.add_reads-in-Unary.new.all.items c.add_reads-in-Unary.result (tree_of c.args.body.now) (unary c.in-Unary.field-0 (tree_of c.deref-in-Unary.result.now))
      (ap tree_of c.in-Unary.is ∙ ap (λ b. unary c.in-Unary.field-0 (tree_of b)) (sym c.deref-in-Unary.ensures)) c.add_reads-in-Unary.ensures.added;
  near = search rules;
}

pub returns-in_ok-add_reads-in-Binary : goal.returns-in_ok-add_reads-in-Binary
returns-in_ok-add_reads-in-Binary t c = record {
  added = let size = size_of c.args.size in
      let p = c.args.path in
      let old = c.args.all.now.items in
      let mid = c.add_reads-in-Binary.new.all.items in
      let new = c.add_reads-in-Binary-2.new.all.items in
      let o = c.in-Binary.field-0 in
      let a = tree_of c.deref-in-Binary.result.now in
      let b = tree_of c.deref-in-Binary-2.result.now in
      as_tree size p old new c.add_reads-in-Binary-2.result (tree_of c.args.body.now) (binary o a b)
      (ap tree_of c.in-Binary.is ∙ ap (λ k. binary o (tree_of k) (tree_of c.in-Binary.right.value)) (sym c.deref-in-Binary.ensures) ∙ ap (λ k. binary o a (tree_of k)) (sym c.deref-in-Binary-2.ensures))
      (on_ok_weaker c.add_reads-in-Binary-2.result (λ second. adds_both old mid new (ReadsFrom size a p) (ReadsFrom size b p) (ReadsFrom size (binary o a b) p) c.in_ok-add_reads-in-Binary.ensures.added second (two_split size o a b p) (two_join size o a b p)) c.add_reads-in-Binary-2.ensures.added);
  near = λ h. c.add_reads-in-Binary-2.ensures.near (c.in_ok-add_reads-in-Binary.ensures.near h);
}

pub returns-in-Some : goal.returns-in-Some
returns-in-Some t c = record {
  added = let x : to_z w32 (of_z w32 c.in-Shifted.dx) ≡ c.in-Shifted.dx = to_z-of_z w32 c.in-Shifted.dx (search rules) in
      let y : to_z w32 (of_z w32 c.in-Shifted.dy) ≡ c.in-Shifted.dy = to_z-of_z w32 c.in-Shifted.dy (search rules) in
      let size = size_of c.args.size in
      let p = c.args.path in
      let edge = c.in-Shifted.edge in
      let dx = c.in-Shifted.dx in
      let dy = c.in-Shifted.dy in
      let a = tree_of c.deref.result.now in
      let old = c.args.all.now.items in
      let new = c.add_reads.new.all.items in
      let steps = steps_moved size p edge dx dy _ _ (Some c.in-Some.end) x y c.in-Some.ensures.leads in
      as_tree size p old new c.add_reads.result (tree_of c.args.body.now) (shifted edge dx dy a)
      (ap tree_of c.in-Shifted.is ∙ ap (λ b. shifted edge dx dy (tree_of b)) (sym c.deref.ensures))
      (on_ok_weaker c.add_reads.result (λ k. adds_same old new (ReadsFrom size a c.in-Some.end) (ReadsFrom size (shifted edge dx dy a) p) (shift_end size p c.in-Some.end edge dx dy a steps) k) c.add_reads.ensures.added);
  near = search rules;
}

pub returns-in-None : goal.returns-in-None
returns-in-None t c = record {
  added = let x : to_z w32 (of_z w32 c.in-Shifted.dx) ≡ c.in-Shifted.dx = to_z-of_z w32 c.in-Shifted.dx (search rules) in
      let y : to_z w32 (of_z w32 c.in-Shifted.dy) ≡ c.in-Shifted.dy = to_z-of_z w32 c.in-Shifted.dy (search rules) in
      let size = size_of c.args.size in
      let p = c.args.path in
      let edge = c.in-Shifted.edge in
      let dx = c.in-Shifted.dx in
      let dy = c.in-Shifted.dy in
      let a = tree_of c.in-Shifted.inner.value in
      let old = c.args.all.now.items in
      let steps = steps_moved size p edge dx dy _ _ None x y c.in-None.ensures.leads in
      let is : tree_of c.args.body.now ≡ shifted edge dx dy a = ap tree_of c.in-Shifted.is in
      subst (λ e. Adds old old (ReadsFrom size e p)) (sym is) (adds_nothing old (ReadsFrom size (shifted edge dx dy a) p) (no_shift size p edge dx dy a steps));
  near = search rules;
}

pub returns-in_ok-add_reads-in-Select-2 : goal.returns-in_ok-add_reads-in-Select-2
returns-in_ok-add_reads-in-Select-2 t c = record {
  added = let size = size_of c.args.size in
      let p = c.args.path in
      let old = c.args.all.now.items in
      let one = c.add_reads-in-Select.new.all.items in
      let two = c.add_reads-in-Select-2.new.all.items in
      let new = c.add_reads-in-Select-3.new.all.items in
      let d = tree_of c.deref-in-Select.result.now in
      let a = tree_of c.deref-in-Select-2.result.now in
      let b = tree_of c.deref-in-Select-3.result.now in
      as_tree size p old new c.add_reads-in-Select-3.result (tree_of c.args.body.now) (select d a b)
      (ap tree_of c.in-Select.is ∙ ap (λ k. select (tree_of k) (tree_of c.in-Select.left.value) (tree_of c.in-Select.right.value)) (sym c.deref-in-Select.ensures)
      ∙ ap (λ k. select d (tree_of k) (tree_of c.in-Select.right.value)) (sym c.deref-in-Select-2.ensures) ∙ ap (λ k. select d a (tree_of k)) (sym c.deref-in-Select-3.ensures))
      (on_ok_weaker c.add_reads-in-Select-3.result (λ third. adds_three old one two new (ReadsFrom size d p) (ReadsFrom size a p) (ReadsFrom size b p) (ReadsFrom size (select d a b) p)
      c.in_ok-add_reads-in-Select.ensures.added c.in_ok-add_reads-in-Select-2.ensures.added third (three_split size d a b p) (three_join size d a b p)) c.add_reads-in-Select-3.ensures.added);
  near = λ h. c.add_reads-in-Select-3.ensures.near (c.in_ok-add_reads-in-Select-2.ensures.near (c.in_ok-add_reads-in-Select.ensures.near h));
}

pub returns-in-Convert : goal.returns-in-Convert
returns-in-Convert t c = record {
  added = as_tree (size_of c.args.size) c.args.path c.args.all.now.items c.add_reads-in-Convert.new.all.items c.add_reads-in-Convert.result (tree_of c.args.body.now) (convert c.in-Convert.field-0 (tree_of c.deref-in-Convert.result.now) c.in-Convert.field-2)
      (ap tree_of c.in-Convert.is ∙ ap (λ b. convert c.in-Convert.field-0 (tree_of b) c.in-Convert.field-2) (sym c.deref-in-Convert.ensures)) c.add_reads-in-Convert.ensures.added;
  near = search rules;
}

pub returns-in-Scale : goal.returns-in-Scale
returns-in-Scale t c = record {
  added = as_tree (size_of c.args.size) c.args.path c.args.all.now.items c.add_reads-in-Scale.new.all.items c.add_reads-in-Scale.result (tree_of c.args.body.now) (scale c.in-Scale.field-0 (tree_of c.deref-in-Scale.result.now) c.in-Scale.field-2)
      (ap tree_of c.in-Scale.is ∙ ap (λ b. scale c.in-Scale.field-0 (tree_of b) c.in-Scale.field-2) (sym c.deref-in-Scale.ensures)) c.add_reads-in-Scale.ensures.added;
  near = search rules;
}

pub returns-in_err-add_reads-in-Select-2 : goal.returns-in_err-add_reads-in-Select-2
returns-in_err-add_reads-in-Select-2 t c = record {
  added = search rules;
  near = λ h. c.in_err-add_reads-in-Select-2.ensures.near (c.in_ok-add_reads-in-Select.ensures.near h);
}
