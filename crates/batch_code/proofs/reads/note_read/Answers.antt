use Rattle.std.proofs.Common.{◌≡◌, length, refl, Some, ap, ◌∙◌}
use Rattle.std.specs.Prelude.{slice_get}
use Rattle.std.proofs.lemmas.Option.{slice_get_read}
use Rattle.wiring.specs.declared.netlist.Assign.{Assign}
use Rattle.wiring.specs.declared.right.Right.TheVariants.{Word}
use Rattle.wiring.specs.Netlist.{Netlist, netlist_of}
use Rattle.wiring.specs.Rules.{AssignIsSound}
use Rattle.wiring.proofs.Lists.{All-at}
use Rattle.wiring.proofs.Nets.{driven_declared}
use Rattle.batch_code.proofs.Noted.{read_more, read_same, marked_more}
use Rattle.batch_code.proofs.reads.note_read.Goals as goal

pub returns-else-marks-array-clause-reads : goal.returns-else-marks-array-clause-reads
returns-else-marks-array-clause-reads c true_is =
    let m : Netlist = netlist_of c.args.wiring.now in
    let k = c.args.number in
    let n = c.index-assign.result.now.target in
    let a : Assign = record { target = n; right = Word c.in-Word.array c.in-Word.index } in
    let at : slice_get m.assigns k ≡ Some a =
    slice_get_read m.assigns (length m.assigns) k c.index-assign.result.now refl c.requires.within c.index-assign.ensures ∙ ap (λ r. let b : Assign = record { target = n; right = r } in Some b) c.in-Word.is in
    let sound : AssignIsSound m a = All-at (AssignIsSound m) m.assigns k a c.requires.rules.assigns at in
    read_more m c.requires.rules k n c.in-Word.array c.in-Word.index at c.args.reads.now c.args.marks.now c.requires.before c.if-marks-array.false c.slot_of-target.result c.atom_of-index.result
    (c.slot_of-target.ensures m c.requires.layout (driven_declared m n sound.target)) (c.atom_of-index.ensures m c.requires.layout sound.right.nets)

pub returns-in_default-clause-reads : goal.returns-in_default-clause-reads
returns-in_default-clause-reads c true_is =
    let m : Netlist = netlist_of c.args.wiring.now in
    let k = c.args.number in
    let at : slice_get m.assigns k ≡ Some c.index-assign.result.now = slice_get_read m.assigns (length m.assigns) k c.index-assign.result.now refl c.requires.within c.index-assign.ensures in
    read_same m c.requires.rules k c.index-assign.result.now at c.in_default.not-Word c.args.reads.now c.args.marks.now c.requires.before

pub returns-else-marks-array-clause-marked : goal.returns-else-marks-array-clause-marked
returns-else-marks-array-clause-marked c true_is =
    let m : Netlist = netlist_of c.args.wiring.now in
    let k = c.args.number in
    let n = c.index-assign.result.now.target in
    let a : Assign = record { target = n; right = Word c.in-Word.array c.in-Word.index } in
    let at : slice_get m.assigns k ≡ Some a =
    slice_get_read m.assigns (length m.assigns) k c.index-assign.result.now refl c.requires.within c.index-assign.ensures ∙ ap (λ r. let b : Assign = record { target = n; right = r } in Some b) c.in-Word.is in
    marked_more m c.requires.rules k n c.in-Word.array c.in-Word.index at c.args.marks.now c.requires.marked
