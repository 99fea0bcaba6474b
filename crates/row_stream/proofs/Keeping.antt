-- What a stream keeps, and what its calls leave of the desk.
use Rattle.std.proofs.Common.{◌≡◌, ℕ, ◌+◌, ◌*◌, ◌-◌, ◌^◌, ◌≤◌, List, [], ◌∷◌, ◌++◌, refl, sym, subst, ◌∙◌, Result, Ok, Err}
use Rattle.std.specs.Result.{IfErr, OnErr, IsErrAnd}
use Rattle.std.specs.List.{AllByRecursion}
use Rattle.dk_base.specs.declared.TheConstants.{MAX_PORT_WIDTH}
use Rattle.wiring.specs.Netlist.{Netlist}
use Rattle.wiring.specs.Snapshot.{Contents, Snapshot, Fit}
use Rattle.wiring.specs.Clock.{Clock}
use Rattle.wiring.specs.Runs.{Runs}
use Rattle.cycle_sim.specs.Ports.{din_widths}
use Rattle.row_stream.specs.declared.state.Stream.{Stream}
use Rattle.row_stream.specs.Standing.{HasRoom, IsOneToOne, IsPixelClock, Lasts}
use Rattle.row_stream.specs.Batches.{HasBatch}
use Rattle.row_stream.specs.States.{Setting, IsStream, Keeps}
use Rattle.row_stream.proofs.Clocks.{runs_join}
use Rattle.row_stream.proofs.Rasters.{both}

-- ---- an error that a `?` passes on

pub passed : {T E P : Type 0} (r : Result T E) (e : E) → IsErrAnd r (λ y. y ≡ e) → P → OnErr r P
passed (Ok x) e is h = tt
passed (Err y) e is h = h

pub if_err : {T E : Type 0} (P : E → Type 0) (r : Result T E) (e : E) → IsErrAnd r (λ y. y ≡ e) → P e → IfErr r P
if_err P (Ok x) e is h = tt
if_err P (Err y) e is h = subst P (sym is) h

-- ---- what is kept

pub keeps_none : (s : Stream) → IsStream s → Keeps s s
keeps_none s h = record { setting = refl; row = refl; batch = h.batch }

pub keeps_then : (a b c : Stream) → Keeps a b → Keeps b c → Keeps a c
keeps_then a b c h g = record {
  setting = g.setting ∙ h.setting;
  row = g.row ∙ h.row;
  batch = subst (λ (z : Setting). HasBatch z.kind.size.width c.batch) h.setting g.batch;
}

-- a stream with the same setting and the same room
pub same_stream : (old new : Stream) → IsStream old → Keeps old new → HasRoom old.format.size.width new.line → IsStream new
same_stream old new h k room = record {
  bits = subst (λ (z : Setting). z.bits ≤ MAX_PORT_WIDTH) (sym k.setting) h.bits;
  one = subst (λ (z : Setting). IsOneToOne z.kind z.netlist) (sym k.setting) h.one;
  fit = subst (λ (z : Setting). (x : ℕ) → x ≤ 2 ^ z.bits - 1 → Fit (din_widths z.netlist) (x ∷ [])) (sym k.setting) h.fit;
  room = subst (λ (z : Setting). HasRoom z.kind.size.width new.line) (sym k.setting) room;
  row = k.row ∙ h.row ∙ subst (λ (z : Setting). 2 * old.format.size.width ≡ 2 * z.kind.size.width) (sym k.setting) refl;
  batch = subst (λ (z : Setting). HasBatch z.kind.size.width new.batch) (sym k.setting) k.batch;
}

-- after clocks that are no resets still no clock stops
pub lasts_through : (m : Netlist) (cs : List Clock) (shots : List Snapshot) (from to : Contents) → AllByRecursion (IsPixelClock m) cs → Lasts m from → Runs m from cs shots to → Lasts m to
lasts_through m cs shots from to fit h runs = record {
  on = λ clocks more end all later c pixel. h.on (cs ++ clocks) (shots ++ more) end (both m cs clocks fit all) (runs_join m cs clocks from to end shots more runs later) c pixel;
}
