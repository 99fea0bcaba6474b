use Rattle.std.proofs.Common.{ℕ, List, [], ◌∷◌, ◌++◌, sym, ap, subst, ◌∙◌}
use Rattle.wiring.specs.Netlist.{Netlist, netlist_of}
use Rattle.net_build.specs.Draft.{IsDraft}
use Rattle.wiring.specs.declared.netlist.Net.{Net}
use Rattle.wiring.specs.declared.right.Right.{Right}
use Rattle.net_build.proofs.Drafts.{draft_wire}
use Rattle.net_build.proofs.Known.{has_known, right_absent, keys_more, has_more}
use Rattle.net_build.proofs.grow.wire_of.Goals as goal

pub returns-in-Some-clause-wire : goal.returns-in-Some-clause-wire
returns-in-Some-clause-wire c = has_known (netlist_of c.args.wiring.now) c.in-Some.k c.args.right.now c.args.known.now.keys c.requires.draft c.requires.known (sym c.in-Some.ensures.found)

pub returns-clause-draft : goal.returns-clause-draft
returns-clause-draft c =
    let b : Netlist = netlist_of c.args.wiring.now in
    subst (λ (n : Netlist). IsDraft n) (sym c.in_ok-push_wire.ensures.ok) (draft_wire b c.args.right.now c.requires.draft c.requires.operation (right_absent b c.args.right.now c.args.known.now.keys c.requires.known c.in_default.ensures.absent))

pub returns-clause-known : goal.returns-clause-known
returns-clause-known c =
    c.add_key.ensures
    ∙ ap (λ (l : List (Right Net ℕ)). l ++ c.args.right.now ∷ []) c.reserve_key.ensures.keys
    ∙ keys_more (netlist_of c.args.wiring.now) (netlist_of c.push_wire.new.wiring) c.args.right.now c.args.known.now.keys c.requires.known c.in_ok-push_wire.ensures.ok

pub returns-clause-wire : goal.returns-clause-wire
returns-clause-wire c = has_more (netlist_of c.args.wiring.now) (netlist_of c.push_wire.new.wiring) c.len-k.result c.args.right.now c.requires.draft c.in_ok-push_wire.ensures.ok (c.len-k.ensures ∙ c.args.wiring.now.assigns.ok.0)
