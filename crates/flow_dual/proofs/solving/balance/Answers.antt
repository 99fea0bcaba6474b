use Rattle.std.proofs.Common.{◌≡◌, ◌≤◌, ◌<◌, ℕ, List, length, slice_index, arith, rules, sym, ◌∙◌, subst}
use Rattle.std.specs.Prelude.{All}
use Rattle.raster_delay.specs.Network.{Holds, IsComplementary}
use Rattle.raster_delay.specs.Systems.{image_count, placed_reads, nodes, constraints_in}
use Rattle.raster_delay.proofs.Places.{system_form}
use Rattle.flow_dual.specs.Tree.{IsRooted}
use Rattle.flow_dual.proofs.Networks.{network_in}
use Rattle.flow_dual.proofs.Rooted.{rooted, above_root, rebased_holds, rebased_complementary}
use Rattle.flow_dual.proofs.solving.balance.Goals as goal

pub rebase-requires-clause-least : goal.rebase-requires-clause-least
rebase-requires-clause-least c = λ v h.
    let s = c.args.system.now in
    let form = system_form s c.law.ensures in
    above_root (constraints_in s) (nodes s) c.find_flow.new.numbers (rooted s.stencils.width s.age s.stencils.inputs (image_count s) (placed_reads s) form.some_inputs form.inputs_kept) c.in_ok-find_flow.ensures.holds v v (omega arith)
    (omega (arith, h, c.find_flow.auto.numbers, c.requires.nodes_are))

pub settle-requires-clause-rooted : goal.settle-requires-clause-rooted
settle-requires-clause-rooted c =
    let s = c.args.system.now in
    let form = system_form s c.law.ensures in
    let size : length c.rebase.new.numbers ≡ nodes s = c.rebase.auto.numbers ∙ c.find_flow.auto.numbers ∙ c.requires.nodes_are in
    let at : IsRooted c.constraints-constraints.result.now (nodes s) =
    rw c.constraints-constraints.ensures.form (rooted s.stencils.width s.age s.stencils.inputs (image_count s) (placed_reads s) form.some_inputs form.inputs_kept) in
    λ v low high. at v low (omega (arith, high, size))

pub settle-requires-clause-state : goal.settle-requires-clause-state
settle-requires-clause-state c =
    let s = c.args.system.now in
    let form = system_form s c.law.ensures in
    let cs = constraints_in s in
    let value = c.constraints-constraints.ensures.form in
    let told = c.in_ok-find_flow.ensures in
    let network = network_in s c.law.ensures in
    let size : length c.rebase.new.numbers ≡ nodes s = c.rebase.auto.numbers ∙ c.find_flow.auto.numbers ∙ c.requires.nodes_are in
    let above = λ (v : ℕ) (h : v < nodes s). above_root cs (nodes s) c.find_flow.new.numbers
    (rooted s.stencils.width s.age s.stencils.inputs (image_count s) (placed_reads s) form.some_inputs form.inputs_kept) told.holds v v (omega arith) h in
    let moved : IsComplementary cs c.find_flow.new.flow c.rebase.new.numbers =
    rebased_complementary cs (nodes s) c.find_flow.new.numbers c.rebase.new.numbers network.sources network.targets above c.rebase.ensures c.find_flow.new.flow told.carries in
    record {
      one_each = search rules;
      sources = rw (value, size) network.sources;
      targets = rw (value, size) network.targets;
      costs = rw value network.costs;
      small = λ v. omega (arith, told.numbers v, c.rebase.ensures v);
      holds = rw value (rebased_holds cs (nodes s) c.find_flow.new.numbers c.rebase.new.numbers network.sources network.targets above c.rebase.ensures told.holds);
      carries = subst (λ xs. IsComplementary xs c.find_flow.new.flow c.rebase.new.numbers) (sym value) moved;
    }

pub returns : goal.returns
returns c =
    let s = c.args.system.now in
    let cs = constraints_in s in
    let p = c.settle.new.numbers in
    let flow = c.find_flow.new.flow in
    let told = c.in_ok-settle.ensures in
    let value : c.constraints-constraints.result.now ≡ cs = c.constraints-constraints.ensures.form in
    let size : length p ≡ nodes s = c.settle.auto.numbers ∙ c.rebase.auto.numbers ∙ c.find_flow.auto.numbers ∙ c.requires.nodes_are in
    let least : (d : List ℕ) → All (Holds d) cs → IsComplementary cs flow d → (v : ℕ) → v < nodes s → slice_index p v ≤ slice_index d v = λ d holds carries v h.
    told.least d (subst (All (Holds d)) (sym value) holds) (subst (λ xs. IsComplementary xs flow d) (sym value) carries) v (omega (arith, h, size)) in
    record {
      one_each = size;
      inputs_at_once = told.zero;
      holds = rw (← value) told.holds;
      carries = rw (← value) told.carries;
      balanced = c.in_ok-find_flow.ensures.balanced;
      least = least;
      near = told.near;
    }
