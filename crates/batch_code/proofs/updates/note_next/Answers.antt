use Rattle.std.proofs.Common.{◌≡◌, length, refl, Some, ap, ◌∙◌}
use Rattle.std.specs.Prelude.{slice_get}
use Rattle.std.proofs.lemmas.Option.{slice_get_read}
use Rattle.wiring.specs.declared.netlist.Update.TheVariants.{Set, Put}
use Rattle.wiring.specs.Netlist.{Netlist, netlist_of}
use Rattle.wiring.specs.Rules.{UpdateIsSound}
use Rattle.wiring.proofs.Lists.{All-at}
use Rattle.batch_code.proofs.Noted.{next_more, next_same}
use Rattle.batch_code.proofs.updates.note_next.Goals as goal

pub returns-in-Set : goal.returns-in-Set
returns-in-Set c =
    let m : Netlist = netlist_of c.args.wiring.now in
    let k = c.args.number in
    let at : slice_get m.updates k ≡ Some (Set c.in-Set.reg c.in-Set.next) = slice_get_read m.updates (length m.updates) k c.index.result.now refl c.requires.within c.index.ensures ∙ ap (λ u. Some u) c.in-Set.is in
    let sound : UpdateIsSound m (Set c.in-Set.reg c.in-Set.next) = All-at (UpdateIsSound m) m.updates k (Set c.in-Set.reg c.in-Set.next) c.requires.rules.updates at in
    next_more m c.requires.rules k c.in-Set.reg c.in-Set.next at c.args.nexts.now c.requires.before c.atom_of.result (c.atom_of.ensures m c.requires.layout sound.1.nets)

pub returns-in-Put : goal.returns-in-Put
returns-in-Put c =
    let m : Netlist = netlist_of c.args.wiring.now in
    let k = c.args.number in
    let at : slice_get m.updates k ≡ Some (Put c.in-Put.field-0 c.in-Put.field-1 c.in-Put.field-2) = slice_get_read m.updates (length m.updates) k c.index.result.now refl c.requires.within c.index.ensures ∙ ap (λ u. Some u) c.in-Put.is in
    next_same m c.requires.rules k c.in-Put.field-0 c.in-Put.field-1 c.in-Put.field-2 at c.args.nexts.now c.requires.before
