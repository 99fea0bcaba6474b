use Rattle.std.proofs.Common.{◌≡◌, ◌≤◌, ◌-◌, length, take}
use Rattle.std.specs.Io.KnownBytes.{prepend_known}
use Rattle.dk_desk.specs.Outside.{input}
use Rattle.dk_desk.specs.declared.Stage.TheVariants.{Open}
use Rattle.dk_desk.specs.Calls.{ReadsOnly}
use Rattle.dk_desk.proofs.transfer.read_full.Given as goal

abbrev pub invariant-fill : goal.invariant-fill
invariant-fill g l = record {
  within : l.done ≤ length l.to;
  given : (input (g.D.Desk.outside l.fn.desk) l.slot).rest ≡ prepend_known (take l.done l.to) (input (g.D.Desk.outside l.desk) l.slot).rest;
  opened : (input (g.D.Desk.outside l.desk) l.slot).stage ≡ Open;
  only : ReadsOnly l.slot (g.D.Desk.outside l.fn.desk) (g.D.Desk.outside l.desk);
  no_failure : (g.D.Desk.outside l.desk).input_failures ≡ (g.D.Desk.outside l.fn.desk).input_failures;
}

abbrev pub decreases-fill : goal.decreases-fill
decreases-fill g l = length l.to - l.done
