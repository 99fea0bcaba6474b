use Rattle.std.proofs.Common.{◌≡◌, length, refl, Some, ap, ◌∙◌}
use Rattle.std.specs.Prelude.{slice_get}
use Rattle.std.proofs.lemmas.Option.{slice_get_read}
use Rattle.wiring.specs.declared.netlist.Update.{Update}
use Rattle.wiring.specs.declared.netlist.Update.TheVariants.{Set, Put}
use Rattle.wiring.specs.Netlist.{Netlist, netlist_of}
use Rattle.wiring.specs.Rules.{UpdateIsSound}
use Rattle.wiring.proofs.Lists.{All-at}
use Rattle.batch_code.proofs.Noted.{put_more, put_same}
use Rattle.batch_code.proofs.updates.note_put.Goals as goal

pub returns-in-Put : goal.returns-in-Put
returns-in-Put c =
    let m : Netlist = netlist_of c.args.wiring.now in
    let k = c.args.number in
    let u : Update = Put c.in-Put.array c.in-Put.index c.in-Put.value in
    let at : slice_get m.updates k ≡ Some u = slice_get_read m.updates (length m.updates) k c.index.result.now refl c.requires.within c.index.ensures ∙ ap (λ u. Some u) c.in-Put.is in
    let sound : UpdateIsSound m u = All-at (UpdateIsSound m) m.updates k u c.requires.rules.updates at in
    put_more m c.requires.rules k c.in-Put.array c.in-Put.index c.in-Put.value at c.args.puts.now c.requires.before c.atom_of-index.result c.atom_of-value.result (c.atom_of-index.ensures m c.requires.layout sound.1.nets) (c.atom_of-value.ensures m c.requires.layout sound.2.nets)

pub returns-in-Set : goal.returns-in-Set
returns-in-Set c =
    let m : Netlist = netlist_of c.args.wiring.now in
    let k = c.args.number in
    let at : slice_get m.updates k ≡ Some (Set c.in-Set.field-0 c.in-Set.field-1) = slice_get_read m.updates (length m.updates) k c.index.result.now refl c.requires.within c.index.ensures ∙ ap (λ u. Some u) c.in-Set.is in
    put_same m c.requires.rules k c.in-Set.field-0 c.in-Set.field-1 at c.args.puts.now c.requires.before
