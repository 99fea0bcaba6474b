use Rattle.std.proofs.Common.{◌≡◌, length, ◌∙◌, arith, ap, Some, refl}
use Rattle.std.specs.Prelude.{slice_get}
use Rattle.std.proofs.lemmas.Option.{slice_get_read}
use Rattle.wiring.specs.declared.order.Mark.{Mark}
use Rattle.wiring.specs.declared.order.Mark.TheVariants.{New}
use Rattle.wiring.proofs.Ordered.{enter_first}
use Rattle.wiring.proofs.order.search_from.Goals as goal

pub finish-requires-clause-search : goal.finish-requires-clause-search
finish-requires-clause-search c =
    let mark : slice_get c.args.search.now.marks.items c.args.start ≡ Some New = slice_get_read c.args.search.now.marks.items (length c.args.search.now.marks.items) c.args.start c.index.result.now refl (omega (arith, c.requires.start, c.requires.search.size)) c.index.ensures ∙ ap (λ (x : Mark). Some x) c.in-New.is in
    (enter_first c.args.assigns.now c.args.search.now c.enter.new.search c.args.start c.requires.search c.requires.path mark c.in_ok-enter-in-New.ensures.ok).search
