use Rattle.std.proofs.Common.{◌≡◌, sym, refl, arith, List, subst, length, Some}
use Rattle.std.specs.Prelude.{All, slice_get}
use Rattle.std.proofs.lemmas.List.Elements.{All-more}
use Rattle.std.proofs.lemmas.List.{take_all}
use Rattle.std.proofs.lemmas.Option.{slice_get_read, get_or_from_slice_get}
use Rattle.cycle_sim.specs.declared.edge.Access.{Access}
use Rattle.cycle_sim.specs.Slots.{words_of}
use Rattle.cycle_sim.specs.Edge.{IsAccessInside}
use Rattle.cycle_sim.proofs.edge.first_outside.Goals as goal

pub returns-then-index-depth_of : goal.returns-then-index-depth_of
returns-then-index-depth_of c =
    let xs = c.args.accesses.now in
    let i = c.loop-access.access-index in
    let a = c.access-item.result in
    record {
      place = i;
      access = a;
      at = slice_get_read xs (length xs) i a refl c.loop-access-test.true c.access-item.is;
      inside = c.loop-access.invariant;
      array = refl;
      index = sym c.atom-index.ensures;
      outside = rw (← c.depth_of.ensures) c.if-index-depth_of.true;
    }

pub loop-access-preserved : goal.loop-access-preserved
loop-access-preserved c =
    let xs = c.args.accesses.now in
    let i = c.loop-access.access-index in
    let a = c.access-item.result in
    let at : slice_get xs i ≡ Some a = slice_get_read xs (length xs) i a refl c.loop-access-test.true c.access-item.is in
    let here : IsAccessInside (words_of c.args.arrays.now) c.args.values.now a = rw (← c.atom-index.ensures, ← c.depth_of.ensures) c.if-index-depth_of.false in
    let placed = subst (λ (x : Access). IsAccessInside (words_of c.args.arrays.now) c.args.values.now x) (sym (get_or_from_slice_get xs i a a at)) here in
    All-more (IsAccessInside (words_of c.args.arrays.now) c.args.values.now) xs i a (omega (arith, c.loop-access-test.true)) c.loop-access.invariant placed

pub returns : goal.returns
returns c =
    subst (λ (l : List Access). All (IsAccessInside (words_of c.args.arrays.now) c.args.values.now) l) (take_all c.loop-access.access-index c.args.accesses.now (omega (arith, c.loop-access-test.false))) c.loop-access.invariant
