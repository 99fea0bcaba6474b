-- Runs go on.
use Rattle.std.proofs.Common.{◌≡◌, ℕ, zero, suc, ◌+◌, Bool, true, false, List, [], ◌∷◌, ◌++◌, length, take, drop, map, refl, ap, sym, subst, ◌∙◌, arith, append_assoc, add-one, Some}
use Rattle.std.specs.Prelude.{◌==◌, if◌then◌else◌, filter, slice_get}
use Rattle.std.proofs.lemmas.List.{map-append, append-nil, take_at}
use Rattle.std.proofs.lemmas.List.Elements.{filter-append}
use Rattle.std.proofs.lemmas.Option.{slice_get_within, same_Some}
use Rattle.wiring.specs.Netlist.{Netlist, valid_net, dout_net}
use Rattle.wiring.specs.Snapshot.{Contents, Snapshot, net_value}
use Rattle.wiring.specs.Clock.{Clock, given, Steps, Stops}
use Rattle.wiring.specs.Runs.{Runs, RunStops, picture}
use Rattle.cycle_sim.specs.declared.ports.Out.{Out}
use Rattle.cycle_sim.specs.Ports.{IsShown}
use Rattle.cycle_sim.specs.Runs.{Ran, RanToStop}

chosen : (f : Snapshot → ℕ) (p : Snapshot → Bool) (s : Snapshot) (b : Bool) → p s ≡ b → (if b then f s ∷ [] else []) ≡ map f (filter p (s ∷ []))
chosen f p s true e = sym (ap (λ (c : Bool). map f (if c then s ∷ [] else [])) e)
chosen f p s false e = sym (ap (λ (c : Bool). map f (if c then s ∷ [] else [])) e)

pub picture_one : (s : Snapshot) (k : ℕ) (out : Out) → IsShown s k out → (if out.valid then out.dout ∷ [] else []) ≡ picture k (s ∷ [])
picture_one s k out h =
    ap (λ (d : ℕ). if out.valid then d ∷ [] else []) h.dout
    ∙ chosen (λ t. net_value t (dout_net k)) (λ t. net_value t (valid_net k) == 1) s out.valid (sym h.valid)

picture_join : (k : ℕ) (shots more : List Snapshot) → picture k (shots ++ more) ≡ picture k shots ++ picture k more
picture_join k shots more =
    ap (λ (l : List Snapshot). map (λ t. net_value t (dout_net k)) l) (filter-append (λ t. net_value t (valid_net k) == 1) shots more)
    ∙ map-append (λ t. net_value t (dout_net k)) (filter (λ t. net_value t (valid_net k) == 1) shots) (filter (λ t. net_value t (valid_net k) == 1) more)

module _ (m : Netlist) where
  runs_join : (cs ds : List Clock) (from mid to : Contents) (shots more : List Snapshot) → Runs m from cs shots mid → Runs m mid ds more to → Runs m from (cs ++ ds) (shots ++ more) to
  runs_join [] ds from mid to [] more h g = subst (λ (x : Contents). Runs m x ds more to) (sym h) g
  runs_join [] ds from mid to (t ∷ shots) more h g = absurd h
  runs_join (c ∷ cs) ds from mid to [] more h g = absurd h
  runs_join (c ∷ cs) ds from mid to (t ∷ shots) more h g = (h.0, h.1, runs_join cs ds h.0 mid to shots more h.2 g)

  stop_join : (cs : List Clock) (c : Clock) (rest : List Clock) (from mid : Contents) (shots : List Snapshot) (x i : ℕ) → Runs m from cs shots mid → Stops m mid (given m c) x i → RunStops m from (cs ++ c ∷ rest) shots x i
  stop_join [] c rest from mid [] x i h g = subst (λ (y : Contents). Stops m y (given m c) x i) (sym h) g
  stop_join [] c rest from mid (t ∷ shots) x i h g = absurd h
  stop_join (d ∷ cs) c rest from mid [] x i h g = absurd h
  stop_join (d ∷ cs) c rest from mid (t ∷ shots) x i h g = (h.0, h.1, stop_join cs c rest h.0 mid shots x i h.2 g)

  runs_length : (cs : List Clock) (from to : Contents) (shots : List Snapshot) → Runs m from cs shots to → length cs ≡ length shots
  runs_length [] from to [] h = refl
  runs_length [] from to (t ∷ shots) h = absurd h
  runs_length (c ∷ cs) from to [] h = absurd h
  runs_length (c ∷ cs) from to (t ∷ shots) h = ap suc (runs_length cs h.0 to shots h.2)

  module _ (output : ℕ) where
    pub ran_none : (from : Contents) (before : List ℕ) → Ran m output [] from before from before
    ran_none from before = record { shots = []; run = refl; shown = sym (append-nil before) }

    pub ran_one : (c : Clock) (from to : Contents) (before samples : List ℕ) (s : Snapshot) (out : Out) → Steps m from (given m c) s to → IsShown s output out →
        samples ≡ before ++ (if out.valid then out.dout ∷ [] else []) → Ran m output (c ∷ []) from before to samples
    ran_one c from to before samples s out step shown e = record {
      shots = s ∷ [];
      run = (to, step, refl);
      shown = e ∙ ap (λ (l : List ℕ). before ++ l) (picture_one s output out shown);
    }

    pub stop_one : (c : Clock) (from : Contents) (before : List ℕ) (x i : ℕ) → Stops m from (given m c) x i → RanToStop m output (c ∷ []) from before from before x i
    stop_one c from before x i stops = record { shots = []; stop = stops; run = refl; shown = sym (append-nil before) }

    pub ran_join : (cs ds : List Clock) (from mid to : Contents) (before between samples : List ℕ) → Ran m output cs from before mid between → Ran m output ds mid between to samples → Ran m output (cs ++ ds) from before to samples
    ran_join cs ds from mid to before between samples h g = record {
      shots = h.shots ++ g.shots;
      run = runs_join cs ds from mid to h.shots g.shots h.run g.run;
      shown = g.shown ∙ ap (λ (l : List ℕ). l ++ picture output g.shots) h.shown ∙ append_assoc before (picture output h.shots) (picture output g.shots)
          ∙ ap (λ (l : List ℕ). before ++ l) (sym (picture_join output h.shots g.shots));
    }

    stop_after : (cs : List Clock) (c : Clock) (rest : List Clock) (from mid to : Contents) (before between samples : List ℕ) (x i : ℕ) → Ran m output cs from before mid between →
        (shots : List Snapshot) → RunStops m mid (c ∷ []) shots x i → Runs m mid (take (length shots) (c ∷ [])) shots to → samples ≡ between ++ picture output shots →
        RanToStop m output (cs ++ c ∷ rest) from before to samples x i
    stop_after cs c rest from mid to before between samples x i h [] stop run shown = record {
      shots = h.shots;
      stop = stop_join cs c rest from mid h.shots x i h.run stop;
      run = subst (λ (l : List Clock). Runs m from l h.shots to) (sym (take_at cs (c ∷ rest) (length h.shots) (runs_length cs from mid h.shots h.run))) (subst (λ (y : Contents). Runs m from cs h.shots y) run h.run);
      shown = shown ∙ append-nil between ∙ h.shown;
    }
    stop_after cs c rest from mid to before between samples x i h (t ∷ []) stop run shown = absurd stop.2
    stop_after cs c rest from mid to before between samples x i h (t ∷ u ∷ shots) stop run shown = absurd stop.2

    pub stop_later : (cs : List Clock) (c : Clock) (rest : List Clock) (from mid to : Contents) (before between samples : List ℕ) (x i : ℕ) → Ran m output cs from before mid between →
        RanToStop m output (c ∷ []) mid between to samples x i → RanToStop m output (cs ++ c ∷ rest) from before to samples x i
    stop_later cs c rest from mid to before between samples x i h g = stop_after cs c rest from mid to before between samples x i h g.shots g.stop g.run g.shown

-- an item of a list, what comes before it, and what follows it, each under a function
around_suc : {A B : Type 0} (f : A → B) (xs : List A) (k : ℕ) (x : A) → slice_get xs k ≡ Some x → (map f (take (suc k) xs) ≡ map f (take k xs) ++ f x ∷ []) × (map f xs ≡ map f (take k xs) ++ f x ∷ map f (drop (suc k) xs))
around_suc f [] k x at = absurd (omega (arith, slice_get_within [] k x at))
around_suc f (y ∷ xs) zero x at = let e : y ≡ x = same_Some y x at in (ap (λ z. f z ∷ []) e, ap (λ z. f z ∷ map f xs) e)
around_suc f (y ∷ xs) (suc k) x at = let p = around_suc f xs k x at in (ap (λ l. f y ∷ l) p.0, ap (λ l. f y ∷ l) p.1)

pub upto_mapped : {A B : Type 0} (f : A → B) (xs : List A) (k : ℕ) (x : A) → slice_get xs k ≡ Some x → map f (take (k + 1) xs) ≡ map f (take k xs) ++ f x ∷ []
upto_mapped f xs k x at = ap (λ n. map f (take n xs)) (add-one k) ∙ (around_suc f xs k x at).0

pub whole_mapped : {A B : Type 0} (f : A → B) (xs : List A) (k : ℕ) (x : A) → slice_get xs k ≡ Some x → map f xs ≡ map f (take k xs) ++ f x ∷ map f (drop (suc k) xs)
whole_mapped f xs k x at = (around_suc f xs k x at).1
