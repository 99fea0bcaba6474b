-- What is reported of clocks that follow one another, and the run that shows it.
use Rattle.std.proofs.Common.{◌≡◌, ℕ, zero, suc, ◌+◌, ◌*◌, Bool, List, [], ◌∷◌, ◌++◌, length, take, drop, map, refl, ap, sym, subst, ◌∙◌, arith, append_assoc, append-nil, length-append, Some}
use Rattle.std.specs.Prelude.{◌/◌, slice_get}
use Rattle.std.specs.List.{AllZip, flat_map}
use Rattle.std.specs.Option.{option_map}
use Rattle.std.proofs.lemmas.List.{map-append, take-append-le, take-append-drop}
use Rattle.std.proofs.lemmas.Grind.{flat_map-append}
use Rattle.std.proofs.Math.Seq.{take-append-add}
use Rattle.std.proofs.lemmas.Option.{slice_get_within, same_Some}
use Rattle.dk_desk.specs.Outside.{Outside}
use Rattle.dk_desk.specs.Calls.{IsIfTold}
use Rattle.wiring.specs.Netlist.{Netlist, dout_net}
use Rattle.wiring.specs.Snapshot.{Contents, Snapshot, net_value}
use Rattle.wiring.specs.Clock.{Clock}
use Rattle.wiring.specs.Runs.{Runs, picture}
use Rattle.cycle_sim.specs.declared.ports.Out.{Out}
use Rattle.cycle_sim.specs.Ports.{IsShown, AreShown}
use Rattle.cycle_sim.proofs.RunsJoin.{picture_one}
use Rattle.batch_sim.specs.Called.{output_count, AllShown}
use Rattle.row_stream.specs.declared.line.Line.{Line}
use Rattle.row_stream.specs.Lines.{Kind}
use Rattle.row_stream.specs.Standing.{note_of}
use Rattle.row_stream.specs.Progress.{Writes, FailsInLine, sample_of, Goes, Fails}
use Rattle.row_stream.specs.Telling.{pair_of, Tells, FailsTelling}
use Rattle.row_stream.proofs.Clocks.{noted, picture_join}

pub tells_none : (kind : Kind) (line : Line) (o : Outside) → Tells kind [] line line o o
tells_none kind line o = record {
  writes = λ start samples notes w. subst (λ z. Writes kind start z (notes ++ []) line o) (sym (append-nil samples)) (subst (λ z. Writes kind start samples z line o) (sym (append-nil notes)) w);
}

module _ (kind : Kind) (out : Out) (old : Line) (before mid now : Outside) (e : mid ≡ record before { notes = mid.notes }) (told : IsIfTold mid.notes (option_map (λ l. l ++ pair_of out ∷ []) before.notes)) where
  pub tells_one : (new : Line) → ((start : Outside) (samples : List ℕ) (notes : List (Bool × ℕ)) → Writes kind start samples notes old mid → Writes kind start (samples ++ sample_of out) notes new now) → Tells kind (out ∷ []) old new before now
  tells_one new h = record {
    writes = λ start samples notes w.
        subst (λ z. Writes kind start (samples ++ z) (notes ++ pair_of out ∷ []) new now) (sym (append-nil (sample_of out)))
        (h start samples (notes ++ pair_of out ∷ []) (noted kind start before mid samples notes old out.valid out.dout w e told));
  }

  pub fails_one : ((start : Outside) (samples : List ℕ) (notes : List (Bool × ℕ)) → Writes kind start samples notes old mid → FailsInLine kind start (samples ++ sample_of out) notes now) → FailsTelling kind (out ∷ []) old before now
  fails_one h = record {
    made = 1;
    some = omega arith;
    within = omega arith;
    fails = λ start samples notes w.
        subst (λ z. FailsInLine kind start (samples ++ z) (notes ++ pair_of out ∷ []) now) (sym (append-nil (sample_of out)))
        (h start samples (notes ++ pair_of out ∷ []) (noted kind start before mid samples notes old out.valid out.dout w e told));
  }

samples_join : (samples : List ℕ) (xs ys : List Out) → (samples ++ flat_map sample_of xs) ++ flat_map sample_of ys ≡ samples ++ flat_map sample_of (xs ++ ys)
samples_join samples xs ys = append_assoc samples (flat_map sample_of xs) (flat_map sample_of ys) ∙ ap (λ z. samples ++ z) (sym (flat_map-append sample_of xs ys))

pairs_join : (notes : List (Bool × ℕ)) (xs ys : List Out) → (notes ++ map pair_of xs) ++ map pair_of ys ≡ notes ++ map pair_of (xs ++ ys)
pairs_join notes xs ys = append_assoc notes (map pair_of xs) (map pair_of ys) ∙ ap (λ z. notes ++ z) (sym (map-append pair_of xs ys))

module _ (kind : Kind) (xs ys : List Out) (old between : Line) (before half now : Outside) where
  pub tells_join : (new : Line) → Tells kind xs old between before half → Tells kind ys between new half now → Tells kind (xs ++ ys) old new before now
  tells_join new h g = record {
    writes = λ start samples notes w.
        subst (λ z. Writes kind start z (notes ++ map pair_of (xs ++ ys)) new now) (samples_join samples xs ys)
        (subst (λ z. Writes kind start ((samples ++ flat_map sample_of xs) ++ flat_map sample_of ys) z new now) (pairs_join notes xs ys)
        (g.writes start (samples ++ flat_map sample_of xs) (notes ++ map pair_of xs) (h.writes start samples notes w)));
  }

  pub fails_later : Tells kind xs old between before half → FailsTelling kind ys between half now → FailsTelling kind (xs ++ ys) old before now
  fails_later h g = record {
    made = length xs + g.made;
    some = omega (arith, g.some);
    within = omega (arith, g.within, length-append xs ys);
    fails = λ start samples notes w.
        subst (λ z. FailsInLine kind start (samples ++ flat_map sample_of z) (notes ++ map pair_of z) now) (sym (take-append-add xs ys g.made))
        (subst (λ z. FailsInLine kind start z (notes ++ map pair_of (xs ++ take g.made ys)) now) (samples_join samples xs (take g.made ys))
        (subst (λ z. FailsInLine kind start ((samples ++ flat_map sample_of xs) ++ flat_map sample_of (take g.made ys)) z now) (pairs_join notes xs (take g.made ys))
        (g.fails start (samples ++ flat_map sample_of xs) (notes ++ map pair_of xs) (h.writes start samples notes w))));
  }

pub fails_front : (kind : Kind) (xs ys : List Out) (old : Line) (before now : Outside) → FailsTelling kind xs old before now → FailsTelling kind (xs ++ ys) old before now
fails_front kind xs ys old before now h = record {
  made = h.made;
  some = h.some;
  within = omega (arith, h.within, length-append xs ys);
  fails = λ start samples notes w. subst (λ z. FailsInLine kind start (samples ++ flat_map sample_of z) (notes ++ map pair_of z) now) (sym (take-append-le h.made xs ys h.within)) (h.fails start samples notes w);
}

took_one : {X : Type 0} (xs : List X) (k : ℕ) (x : X) → slice_get xs k ≡ Some x → take (k + 1) xs ≡ take k xs ++ x ∷ []
took_one xs k x at = ap (λ n. take n xs) (let e : k + 1 ≡ suc k = omega arith in e) ∙ took xs k x at
  where
    took : {X : Type 0} (xs : List X) (k : ℕ) (x : X) → slice_get xs k ≡ Some x → take (suc k) xs ≡ take k xs ++ x ∷ []
    took [] k x at = absurd (omega (arith, slice_get_within [] k x at))
    took (y ∷ xs) zero x at = ap (λ z. z ∷ []) (same_Some y x at)
    took (y ∷ xs) (suc k) x at = ap (λ l. y ∷ l) (took xs k x at)

-- one clock more
module _ (kind : Kind) (outs : List Out) (k : ℕ) (o : Out) (old between : Line) (before half now : Outside) (at : slice_get outs k ≡ Some o) where
  pub tells_more : (new : Line) → Tells kind (take k outs) old between before half → Tells kind (o ∷ []) between new half now → Tells kind (take (k + 1) outs) old new before now
  tells_more new h g = subst (λ z. Tells kind z old new before now) (sym (took_one outs k o at)) (tells_join kind (take k outs) (o ∷ []) old between before half now new h g)

  pub fails_next : Tells kind (take k outs) old between before half → FailsTelling kind (o ∷ []) between half now → FailsTelling kind outs old before now
  fails_next h g =
      subst (λ z. FailsTelling kind z old before now) (take-append-drop (k + 1) outs)
      (fails_front kind (take (k + 1) outs) (drop (k + 1) outs) old before now
      (subst (λ z. FailsTelling kind z old before now) (sym (took_one outs k o at)) (fails_later kind (take k outs) (o ∷ []) old between before half now h g)))

-- ---- what a run shows

abbrev pub Shown : List Snapshot → List Out → Type 0
Shown shots outs = AllZip (λ s out. IsShown s 0 out) shots outs

pub shown_samples : (shots : List Snapshot) (outs : List Out) → Shown shots outs → picture 0 shots ≡ flat_map sample_of outs
shown_samples [] [] h = refl
shown_samples [] (o ∷ outs) h = absurd h
shown_samples (s ∷ shots) [] h = absurd h
shown_samples (s ∷ shots) (o ∷ outs) h =
    picture_join 0 (s ∷ []) shots ∙ ap (λ z. z ++ picture 0 shots) (sym (picture_one s 0 o h.0)) ∙ ap (λ z. sample_of o ++ z) (shown_samples shots outs h.1)

pair_is : (s : Snapshot) (out : Out) → IsShown s 0 out → note_of s ≡ pair_of out
pair_is s out h = ap (λ v. (v, net_value s (dout_net 0))) (sym h.valid) ∙ ap (λ d. (out.valid, d)) (sym h.dout)

pub shown_notes : (shots : List Snapshot) (outs : List Out) → Shown shots outs → map note_of shots ≡ map pair_of outs
shown_notes [] [] h = refl
shown_notes [] (o ∷ outs) h = absurd h
shown_notes (s ∷ shots) [] h = absurd h
shown_notes (s ∷ shots) (o ∷ outs) h = ap (λ z. z ∷ map note_of shots) (pair_is s o h.0) ∙ ap (λ z. pair_of o ∷ z) (shown_notes shots outs h.1)

pub shown_first : (n : ℕ) (shots : List Snapshot) (outs : List Out) → Shown shots outs → Shown (take n shots) (take n outs)
shown_first zero shots outs h = tt
shown_first (suc n) [] [] h = tt
shown_first (suc n) [] (o ∷ outs) h = absurd h
shown_first (suc n) (s ∷ shots) [] h = absurd h
shown_first (suc n) (s ∷ shots) (o ∷ outs) h = (h.0, shown_first n shots outs h.1)

pub shown_length : (shots : List Snapshot) (outs : List Out) → Shown shots outs → length shots ≡ length outs
shown_length [] [] h = refl
shown_length [] (o ∷ outs) h = absurd h
shown_length (s ∷ shots) [] h = absurd h
shown_length (s ∷ shots) (o ∷ outs) h = ap suc (shown_length shots outs h.1)

pub runs_length : (m : Netlist) (cs : List Clock) (from to : Contents) (shots : List Snapshot) → Runs m from cs shots to → length cs ≡ length shots
runs_length m [] from to [] h = refl
runs_length m [] from to (t ∷ shots) h = absurd h
runs_length m (c ∷ cs) from to [] h = absurd h
runs_length m (c ∷ cs) from to (t ∷ shots) h = ap suc (runs_length m cs h.0 to shots h.2)

-- the first n clocks
pub runs_first : (m : Netlist) (n : ℕ) (cs : List Clock) (from to : Contents) (shots : List Snapshot) → Runs m from cs shots to → (mid : Contents) × Runs m from (take n cs) (take n shots) mid
runs_first m zero cs from to shots h = (from, refl)
runs_first m (suc n) [] from to [] h = (from, refl)
runs_first m (suc n) [] from to (t ∷ shots) h = absurd h
runs_first m (suc n) (c ∷ cs) from to [] h = absurd h
runs_first m (suc n) (c ∷ cs) from to (t ∷ shots) h = let r = runs_first m n cs h.0 to shots h.2 in (r.0, (h.0, h.1, r.1))

module _ (kind : Kind) (m : Netlist) (cs : List Clock) (from to : Contents) (old : Line) (before now : Outside) (shots : List Snapshot) (outs : List Out) (runs : Runs m from cs shots to) (shown : Shown shots outs) where
  pub goes_told : (new : Line) → Tells kind outs old new before now → Goes kind m cs from to old new before now
  goes_told new h = record {
    shots = shots;
    runs = runs;
    writes = λ start samples notes w.
        subst (λ z. Writes kind start (samples ++ z) (notes ++ map note_of shots) new now) (sym (shown_samples shots outs shown))
        (subst (λ z. Writes kind start (samples ++ flat_map sample_of outs) (notes ++ z) new now) (sym (shown_notes shots outs shown)) (h.writes start samples notes w));
  }

  pub fails_told : FailsTelling kind outs old before now → Fails kind m cs from old before now
  fails_told h =
      let first = runs_first m h.made cs from to shots runs in
      let part = shown_first h.made shots outs shown in
      record {
        made = h.made;
        within = omega (arith, h.within, runs_length m cs from to shots runs, shown_length shots outs shown);
        some = h.some;
        shots = take h.made shots;
        to = first.0;
        runs = first.1;
        fails = λ start samples notes w.
            subst (λ z. FailsInLine kind start (samples ++ z) (notes ++ map note_of (take h.made shots)) now) (sym (shown_samples (take h.made shots) (take h.made outs) part))
            (subst (λ z. FailsInLine kind start (samples ++ flat_map sample_of (take h.made outs)) (notes ++ z) now) (sym (shown_notes (take h.made shots) (take h.made outs) part)) (h.fails start samples notes w));
      }

-- ---- the outputs of a batch

-- the output of each clock in its place
placed : {X : Type 0} (outs : List X) (k : ℕ) (o : X) → slice_get outs k ≡ Some o → slice_get (take 1 (drop k outs)) 0 ≡ Some o
placed [] k o at = absurd (omega (arith, slice_get_within [] k o at))
placed (x ∷ outs) zero o at = at
placed (x ∷ outs) (suc k) o at = placed outs k o at

zipped : (shots : List Snapshot) (outs : List Out) → length outs ≡ length shots → ((k : ℕ) (s : Snapshot) (o : Out) → slice_get shots k ≡ Some s → slice_get outs k ≡ Some o → IsShown s 0 o) → Shown shots outs
zipped [] [] n h = tt
zipped [] (o ∷ outs) n h = absurd (omega (arith, n))
zipped (s ∷ shots) [] n h = absurd (omega (arith, n))
zipped (s ∷ shots) (o ∷ outs) n h = (h 0 s o refl refl, zipped shots outs (omega (arith, n)) (λ k t p a b. h (suc k) t p a b))

pub batch_shown : (m : Netlist) (shots : List Snapshot) (outs : List Out) → length m.outputs ≡ 2 → length outs ≡ length shots → AllShown m shots outs → Shown shots outs
batch_shown m shots outs two n h =
    let one : output_count m ≡ 1 = ap (λ z. z / 2) two in
    zipped shots outs n (λ k s o at here.
    (subst (λ z. AreShown s (take z (drop (k * z) outs))) one (h k s at)).each 0 o (placed outs (k * 1) o (ap (λ z. slice_get outs z) (let e : k * 1 ≡ k = omega arith in e) ∙ here)))
