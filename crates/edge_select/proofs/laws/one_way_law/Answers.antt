use Rattle.edge_select.proofs.Stepping.{way_of, one_way, is_passed}
use Rattle.edge_select.proofs.laws.one_way_law.Goals as goal
use Rattle.dk_base.specs.FrameSizes.{size_of}
use Rattle.wiring.specs.Snapshot.{net_value}

pub returns-clause-some : goal.returns-clause-some
returns-clause-some c size steps x y on = way_of size steps x y on

pub returns-clause-one : goal.returns-clause-one
returns-clause-one c size steps dx dy ex ey x y p q = one_way size steps dx dy ex ey x y p q

pub returns-clause-on : goal.returns-clause-on
returns-clause-on c size steps dx dy x y p = (_, _, p)

pub returns-clause-test : goal.returns-clause-test
returns-clause-test c new old p steps dx dy ex ey n o first second m s part settled frame set also =
    one_way (size_of p.size) steps dx dy ex ey (net_value s p.column) (net_value s p.row) (is_passed _ _ (first.value m s part settled frame) set) (is_passed _ _ (second.value m s part settled frame) also)
