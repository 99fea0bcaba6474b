use Rattle.std.proofs.Common.{rules}
use Rattle.std.specs.Prelude.{FitsSigned}
use Rattle.std.proofs.lemmas.Int.{to_z-of_z}
use mir.Syntax.{w32}
use Rattle.pointwise_eval.proofs.walk.read_plane.Goals as goal

pub read_elements-requires-clause-read : goal.read_elements-requires-clause-read
read_elements-requires-clause-read g c = rw c.in-Input8.is at c.requires.read

pub returns-in-Input8 : goal.returns-in-Input8
returns-in-Input8 g c =
    let fits : FitsSigned w32 c.args.by = search rules in
    rw c.in-Input8.is (rw (to_z-of_z w32 c.args.by fits) at c.read_elements.ensures)

pub read_elements-requires-in-Input16-clause-read : goal.read_elements-requires-in-Input16-clause-read
read_elements-requires-in-Input16-clause-read g c = rw c.in-Input16.is at c.requires.read

pub returns-in-Input16 : goal.returns-in-Input16
returns-in-Input16 g c =
    let fits : FitsSigned w32 c.args.by = search rules in
    rw c.in-Input16.is (rw (to_z-of_z w32 c.args.by fits) at c.read_elements-in-Input16.ensures)

pub read_elements-requires-in-Unsigned8-clause-read : goal.read_elements-requires-in-Unsigned8-clause-read
read_elements-requires-in-Unsigned8-clause-read g c = rw c.deref.ensures.value (rw c.in-Unsigned8.is at c.requires.read)

pub returns-in-Unsigned8 : goal.returns-in-Unsigned8
returns-in-Unsigned8 g c =
    let fits : FitsSigned w32 c.args.by = search rules in
    rw c.in-Unsigned8.is (rw (c.deref.ensures.value, to_z-of_z w32 c.args.by fits) at c.read_elements-in-Unsigned8.ensures)

pub read_elements-requires-in-Unsigned16-clause-read : goal.read_elements-requires-in-Unsigned16-clause-read
read_elements-requires-in-Unsigned16-clause-read g c = rw c.deref-in-Unsigned16.ensures.value (rw c.in-Unsigned16.is at c.requires.read)

pub returns-in-Unsigned16 : goal.returns-in-Unsigned16
returns-in-Unsigned16 g c =
    let fits : FitsSigned w32 c.args.by = search rules in
    rw c.in-Unsigned16.is (rw (c.deref-in-Unsigned16.ensures.value, to_z-of_z w32 c.args.by fits) at c.read_elements-in-Unsigned16.ensures)

pub read_elements-requires-in-Unsigned32-clause-read : goal.read_elements-requires-in-Unsigned32-clause-read
read_elements-requires-in-Unsigned32-clause-read g c = rw c.deref-in-Unsigned32.ensures.value (rw c.in-Unsigned32.is at c.requires.read)

pub returns-in-Unsigned32 : goal.returns-in-Unsigned32
returns-in-Unsigned32 g c =
    let fits : FitsSigned w32 c.args.by = search rules in
    rw c.in-Unsigned32.is (rw (c.deref-in-Unsigned32.ensures.value, to_z-of_z w32 c.args.by fits) at c.read_elements-in-Unsigned32.ensures)

pub read_elements-requires-in-Signed8-clause-read : goal.read_elements-requires-in-Signed8-clause-read
read_elements-requires-in-Signed8-clause-read g c = rw c.deref-in-Signed8.ensures.value (rw c.in-Signed8.is at c.requires.read)

pub returns-in-Signed8 : goal.returns-in-Signed8
returns-in-Signed8 g c =
    let fits : FitsSigned w32 c.args.by = search rules in
    rw c.in-Signed8.is (rw (c.deref-in-Signed8.ensures.value, to_z-of_z w32 c.args.by fits) at c.read_elements-in-Signed8.ensures)

pub read_elements-requires-in-Signed16-clause-read : goal.read_elements-requires-in-Signed16-clause-read
read_elements-requires-in-Signed16-clause-read g c = rw c.deref-in-Signed16.ensures.value (rw c.in-Signed16.is at c.requires.read)

pub returns-in-Signed16 : goal.returns-in-Signed16
returns-in-Signed16 g c =
    let fits : FitsSigned w32 c.args.by = search rules in
    rw c.in-Signed16.is (rw (c.deref-in-Signed16.ensures.value, to_z-of_z w32 c.args.by fits) at c.read_elements-in-Signed16.ensures)

pub read_elements-requires-in-Signed32-clause-read : goal.read_elements-requires-in-Signed32-clause-read
read_elements-requires-in-Signed32-clause-read g c = rw c.deref-in-Signed32.ensures.value (rw c.in-Signed32.is at c.requires.read)

pub returns-in-Signed32 : goal.returns-in-Signed32
returns-in-Signed32 g c =
    let fits : FitsSigned w32 c.args.by = search rules in
    rw c.in-Signed32.is (rw (c.deref-in-Signed32.ensures.value, to_z-of_z w32 c.args.by fits) at c.read_elements-in-Signed32.ensures)

pub read_elements-requires-in-Signed64-clause-read : goal.read_elements-requires-in-Signed64-clause-read
read_elements-requires-in-Signed64-clause-read g c = rw c.deref-in-Signed64.ensures.value (rw c.in-Signed64.is at c.requires.read)

pub returns-in-Signed64 : goal.returns-in-Signed64
returns-in-Signed64 g c =
    let fits : FitsSigned w32 c.args.by = search rules in
    rw c.in-Signed64.is (rw (c.deref-in-Signed64.ensures.value, to_z-of_z w32 c.args.by fits) at c.read_elements-in-Signed64.ensures)

pub returns-in-Wide : goal.returns-in-Wide
returns-in-Wide g c = absurd (rw c.in-Wide.is at c.requires.rows)

pub returns-in-Gone : goal.returns-in-Gone
returns-in-Gone g c = absurd (rw c.in-Gone.is at c.requires.rows)
