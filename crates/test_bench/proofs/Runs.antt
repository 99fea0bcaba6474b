-- A bench goes on, and stops.
use Rattle.std.proofs.Common.{◌≡◌, ℕ, ◌+◌, Bool, List, [], ◌++◌, length, refl, ap, sym, subst, ◌∙◌, arith, append_assoc, append-nil, Some, Option, None, pos, ◌-ℤ◌, length-append}
use Rattle.std.proofs.lemmas.List.Elements.{All-append, All-nil}
use Rattle.wiring.specs.Netlist.{Netlist}
use Rattle.wiring.specs.Snapshot.{Contents, Snapshot}
use Rattle.wiring.specs.Clock.{Clock}
use Rattle.test_bench.specs.declared.clocking.Bench.{Bench}
use Rattle.stimulus.specs.declared.stop.Stop.{Stop}
use Rattle.stimulus.specs.declared.stop.Stop.TheVariants.{Index, Count}
use Rattle.stimulus.specs.Showing.{notes_of}
use Rattle.stimulus.proofs.Runs.{notes_join, runs_join, stop_join, stop_more, runs_length}
use Rattle.test_bench.specs.Clocking.{AreKept, GoOn, DoutsFit, IsBench, Clocked, StopsIn}

abbrev Notes : Type 0
Notes = Option (List (Bool × ℕ))

-- notes that go on twice
pub go_on : (xs ys : List (Bool × ℕ)) (before between now : Notes) → GoOn before xs between → GoOn between ys now → GoOn before (xs ++ ys) now
go_on xs ys before between None a b = tt
go_on xs ys None None (Some n) a b = b
go_on xs ys None (Some x) (Some n) a b = absurd (let e : ⊥ = cc in e)
go_on xs ys (Some l) None (Some n) a b = absurd (let e : ⊥ = cc in e)
go_on xs ys (Some l) (Some x) (Some n) a b = joined l x n a b
  where
    taken : (p q : List (Bool × ℕ)) → ◌≡◌ {A = Notes} (Some p) (Some q) → p ≡ q
    taken p q e = cc

    joined : (l x n : List (Bool × ℕ)) → ◌≡◌ {A = Notes} (Some (l ++ xs)) (Some x) → ◌≡◌ {A = Notes} (Some (x ++ ys)) (Some n) → ◌≡◌ {A = Notes} (Some (l ++ (xs ++ ys))) (Some n)
    joined l x n a b = ap (λ z. Some z) (sym (append_assoc l xs ys) ∙ ap (λ z. z ++ ys) (taken (l ++ xs) x a)) ∙ b

pub go_none : (before : Notes) → GoOn before [] before
go_none None = tt
go_none (Some l) = ap (λ z. Some z) (append-nil l)

module _ (m : Netlist) where
  kept_join : (most : ℕ) (all shots more : List Snapshot) (pictures : List Rattle.test_bench.specs.declared.picture.Shown.Shown) → AreKept most ((all ++ shots) ++ more) pictures → AreKept most (all ++ (shots ++ more)) pictures
  kept_join most all shots more pictures h = subst (λ z. AreKept most z pictures) (append_assoc all shots more) h

  -- a stop in later clocks, and more clocks after
  pub stops_later : (cs ds : List Clock) (old mid : Bench) (before now : Notes) (stop : Stop) → Clocked m cs old mid before now → StopsIn m mid.sim.contents mid.made ds stop → StopsIn m old.sim.contents old.made (cs ++ ds) stop
  stops_later cs ds old mid before now (Index clock array index) h s = record {
    shots = h.shots ++ s.shots;
    stops = stop_join m cs ds old.sim.contents mid.sim.contents h.shots s.shots array index h.runs s.stops;
    clock_is = s.clock_is ∙ ap (λ n. pos n -ℤ pos 1) (let e : mid.made + length s.shots ≡ old.made + length (h.shots ++ s.shots) = omega (arith, h.made, runs_length m cs old.sim.contents mid.sim.contents h.shots h.runs, length-append h.shots s.shots) in e);
  }
  stops_later cs ds old mid before now (Count shown wanted) h s = absurd s

  pub stops_more : (cs rest : List Clock) (from : Contents) (first : ℕ) (stop : Stop) → StopsIn m from first cs stop → StopsIn m from first (cs ++ rest) stop
  stops_more cs rest from first (Index clock array index) s = record { shots = s.shots; stops = stop_more m cs rest from s.shots array index s.stops; clock_is = s.clock_is }
  stops_more cs rest from first (Count shown wanted) s = absurd s

  pub clocked_none : (b : Bench) (before : Notes) → IsBench b → b.sim.netlist ≡ m → Clocked m [] b b before before
  clocked_none b before bench e = record {
    bench = bench;
    netlist = e;
    most = refl;
    made = omega arith;
    shots = [];
    runs = refl;
    kept = λ all h. subst (λ z. AreKept b.most z b.pictures.items) (sym (append-nil all)) h;
    fit = All-nil (DoutsFit m);
    told = go_none before;
  }

  pub clocked_join : (cs ds : List Clock) (old mid new : Bench) (before between now : Notes) → Clocked m cs old mid before between → Clocked m ds mid new between now → Clocked m (cs ++ ds) old new before now
  clocked_join cs ds old mid new before between now h g = record {
    bench = g.bench;
    netlist = g.netlist;
    most = g.most ∙ h.most;
    made = omega (arith, h.made, g.made, length-append cs ds);
    shots = h.shots ++ g.shots;
    runs = runs_join m cs ds old.sim.contents mid.sim.contents new.sim.contents h.shots g.shots h.runs g.runs;
    kept = λ all k. kept_join old.most all h.shots g.shots new.pictures.items
        (subst (λ n. AreKept n ((all ++ h.shots) ++ g.shots) new.pictures.items) h.most (g.kept (all ++ h.shots) (subst (λ n. AreKept n (all ++ h.shots) mid.pictures.items) (sym h.most) (h.kept all k))));
    fit = All-append (DoutsFit m) h.shots g.shots h.fit g.fit;
    told = subst (λ z. GoOn before z now) (sym (notes_join m h.shots g.shots)) (go_on (notes_of m h.shots) (notes_of m g.shots) before between now h.told g.told);
  }
