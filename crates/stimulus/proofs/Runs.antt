-- Runs go on, and stop.
use Rattle.std.proofs.Common.{◌≡◌, ℕ, suc, List, [], ◌∷◌, ◌++◌, length, map, refl, ap, sym, subst, ◌∙◌}
use Rattle.std.specs.Prelude.{◌==◌, filter}
use Rattle.std.proofs.lemmas.List.{map-append}
use Rattle.std.proofs.lemmas.List.Elements.{filter-append}
use Rattle.std.proofs.lemmas.Grind.{flat_map-append}
use Rattle.wiring.specs.Netlist.{Netlist, valid_net, dout_net}
use Rattle.wiring.specs.Snapshot.{Contents, Snapshot, net_value}
use Rattle.wiring.specs.Clock.{Clock}
use Rattle.wiring.specs.Runs.{Runs, RunStops, picture}
use Rattle.stimulus.specs.Showing.{notes_at, notes_of}

pub picture_join : (k : ℕ) (shots more : List Snapshot) → picture k (shots ++ more) ≡ picture k shots ++ picture k more
picture_join k shots more =
    ap (λ (l : List Snapshot). map (λ t. net_value t (dout_net k)) l) (filter-append (λ t. net_value t (valid_net k) == 1) shots more)
    ∙ map-append (λ t. net_value t (dout_net k)) (filter (λ t. net_value t (valid_net k) == 1) shots) (filter (λ t. net_value t (valid_net k) == 1) more)

pub notes_join : (m : Netlist) (shots more : List Snapshot) → notes_of m (shots ++ more) ≡ notes_of m shots ++ notes_of m more
notes_join m shots more = flat_map-append (notes_at m) shots more

module _ (m : Netlist) where
  pub runs_join : (cs ds : List Clock) (from mid to : Contents) (shots more : List Snapshot) → Runs m from cs shots mid → Runs m mid ds more to → Runs m from (cs ++ ds) (shots ++ more) to
  runs_join [] ds from mid to [] more h g = subst (λ (x : Contents). Runs m x ds more to) (sym h) g
  runs_join [] ds from mid to (t ∷ shots) more h g = absurd h
  runs_join (c ∷ cs) ds from mid to [] more h g = absurd h
  runs_join (c ∷ cs) ds from mid to (t ∷ shots) more h g = (h.0, h.1, runs_join cs ds h.0 mid to shots more h.2 g)

  pub stop_join : (cs ds : List Clock) (from mid : Contents) (shots more : List Snapshot) (x i : ℕ) → Runs m from cs shots mid → RunStops m mid ds more x i → RunStops m from (cs ++ ds) (shots ++ more) x i
  stop_join [] ds from mid [] more x i h g = subst (λ (y : Contents). RunStops m y ds more x i) (sym h) g
  stop_join [] ds from mid (t ∷ shots) more x i h g = absurd h
  stop_join (d ∷ cs) ds from mid [] more x i h g = absurd h
  stop_join (d ∷ cs) ds from mid (t ∷ shots) more x i h g = (h.0, h.1, stop_join cs ds h.0 mid shots more x i h.2 g)

  pub stop_more : (cs rest : List Clock) (from : Contents) (shots : List Snapshot) (x i : ℕ) → RunStops m from cs shots x i → RunStops m from (cs ++ rest) shots x i
  stop_more [] rest from shots x i h = absurd h
  stop_more (c ∷ cs) rest from [] x i h = h
  stop_more (c ∷ cs) rest from (s ∷ shots) x i h = (h.0, h.1, stop_more cs rest h.0 shots x i h.2)

  pub runs_length : (cs : List Clock) (from to : Contents) (shots : List Snapshot) → Runs m from cs shots to → length cs ≡ length shots
  runs_length [] from to [] h = refl
  runs_length [] from to (t ∷ shots) h = absurd h
  runs_length (c ∷ cs) from to [] h = absurd h
  runs_length (c ∷ cs) from to (t ∷ shots) h = ap suc (runs_length cs h.0 to shots h.2)
