use Rattle.std.proofs.Common.{◌≡◌, ℕ, length, Some, map, sym, subst, ap, ◌∙◌}
use Rattle.std.specs.Prelude.{slice_get}
use Rattle.wiring.specs.declared.netlist.Assign.{Assign}
use Rattle.wiring.specs.declared.netlist.Shape.{Shape}
use Rattle.wiring.specs.declared.netlist.Holder.TheVariants.{OfArray}
use Rattle.wiring.specs.Sizes.{IsWidth, IsDepth}
use Rattle.wiring.specs.Rules.{IsShape}
use Rattle.wiring.specs.Netlist.{Netlist, netlist_of}
use Rattle.net_build.specs.Includes.{Includes}
use Rattle.net_build.specs.Draft.{IsDraft, IsFree, with_array}
use Rattle.net_build.proofs.Drafts.{draft_array, includes_array, includes_same}
use Rattle.net_build.specs.Runs.{NeverStops}
use Rattle.net_build.proofs.Stops.{array_stops}
use Rattle.net_build.proofs.Failing.{at_err}
use Rattle.net_build.proofs.Updating.{array_free, last_shape}
use Rattle.net_build.specs.Control.{IsControlled}
use Rattle.net_build.proofs.Control.{array_control}
use Rattle.net_build.proofs.builder.Builder.array.Goals as goal

pub invariant_of-self-2 : goal.invariant_of-self-2
invariant_of-self-2 c =
    let b : Netlist = netlist_of c.self.inside.wiring in
    let shape : Shape = record { width = c.new.result; depth = c.new-2.result } in
    let shaped : IsShape shape = record { width = subst IsWidth (sym c.new.ensures) c.requires.width; depth = subst IsDepth (sym c.new-2.ensures) c.requires.depth } in (
      subst IsDraft (sym c.in_ok-x.ensures.ok) (draft_array b shape c.self.invariant.0 shaped),
      c.self.invariant.1 ∙ ap (λ (n : Netlist). map (λ (a : Assign). a.right) n.assigns) (sym c.in_ok-x.ensures.ok),
      c.in_ok-x.ensures.room,
    )

pub returns : goal.returns
returns c = record {
  includes = let b : Netlist = netlist_of c.self.inside.wiring in
      subst (λ (n : Netlist). Includes (netlist_of c.add_array.new.wiring) n) c.self.view_is (includes_same _ (netlist_of c.add_array.new.wiring) b c.in_ok-x.ensures.ok (includes_array b (record { width = c.new.result; depth = c.new-2.result })));
  number = c.in_ok-x.ensures.number ∙ ap (λ (n : Netlist). length n.arrays) c.self.view_is;
  shape = let b : Netlist = netlist_of c.self.inside.wiring in
      let shape : Shape = record { width = c.new.result; depth = c.new-2.result } in
      let last : slice_get (with_array b shape).arrays (length b.arrays) ≡ Some shape = last_shape b shape in
      subst (λ (n : Netlist). slice_get n.arrays c.in_ok-x.x ≡ Some (let s : Shape = record { width = c.args.width; depth = c.args.depth } in s)) (sym c.in_ok-x.ensures.ok)
      (subst (λ (k : ℕ). slice_get (with_array b shape).arrays k ≡ Some (let s : Shape = record { width = c.args.width; depth = c.args.depth } in s)) (sym c.in_ok-x.ensures.number)
      (last ∙ ap (λ (w : ℕ). Some (let s : Shape = record { width = w; depth = c.new-2.result } in s)) c.new.ensures ∙ ap (λ (d : ℕ). Some (let s : Shape = record { width = c.args.width; depth = d } in s)) c.new-2.ensures));
  free = let b : Netlist = netlist_of c.self.inside.wiring in
      let shape : Shape = record { width = c.new.result; depth = c.new-2.result } in
      let free : IsFree (with_array b shape) (OfArray (length b.arrays)) = array_free b shape c.self.invariant.0 in
      subst (λ (n : Netlist). IsFree n (OfArray c.in_ok-x.x)) (sym c.in_ok-x.ensures.ok) (subst (λ (k : ℕ). IsFree (with_array b shape) (OfArray k)) (sym c.in_ok-x.ensures.number) free);
  made = c.in_ok-x.ensures.ok
      ∙ ap (λ (n : Netlist). with_array n (record { width = c.new.result; depth = c.new-2.result })) c.self.view_is
      ∙ ap (λ (w : ℕ). with_array c.args.self.now (record { width = w; depth = c.new-2.result })) c.new.ensures
      ∙ ap (λ (d : ℕ). with_array c.args.self.now (record { width = c.args.width; depth = d })) c.new-2.ensures;
  stops = λ never. subst NeverStops (sym c.in_ok-x.ensures.ok) (array_stops (netlist_of c.self.inside.wiring) (record { width = c.new.result; depth = c.new-2.result }) (subst NeverStops (sym c.self.view_is) never));
  control = λ copies is. subst (λ (b : Netlist). IsControlled b copies) (sym c.in_ok-x.ensures.ok) (array_control (netlist_of c.self.inside.wiring) (record { width = c.new.result; depth = c.new-2.result }) copies (subst (λ (b : Netlist). IsControlled b copies) (sym c.self.view_is) is));
}

pub returns-in_err-x : goal.returns-in_err-x
returns-in_err-x c = at_err _ _ _ c.from_residual.result c.from_residual.ensures.1 (c.in_err-x.ensures.err ∙ c.self.view_is)
