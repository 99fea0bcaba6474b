-- One clock of a stream, and clocks that follow one another.
use Rattle.std.proofs.Common.{◌≡◌, ℕ, ◌+◌, ◌-◌, ◌^◌, ◌<◌, ◌≤◌, Bool, List, [], ◌∷◌, ◌++◌, length, take, map, refl, ap, sym, subst, ◌∙◌, arith, append_assoc, append-nil, length-append, Some, None, Option}
use Rattle.std.specs.Prelude.{◌==◌}
use Rattle.std.specs.Option.{option_map}
use Rattle.std.proofs.lemmas.List.{map-append, take-append-le}
use Rattle.std.proofs.Math.Seq.{take-append-add}
use Rattle.dk_desk.specs.Outside.{Outside}
use Rattle.dk_desk.specs.Calls.{IsIfTold}
use Rattle.wiring.specs.declared.netlist.Net.{Net}
use Rattle.wiring.specs.Netlist.{Netlist, net_width, valid_net, dout_net, IsDeclared}
use Rattle.wiring.specs.Order.{IsEvaluationOrder}
use Rattle.wiring.specs.Rules.{KeepsRules}
use Rattle.wiring.specs.Snapshot.{Contents, Snapshot, net_value, FitsContents, Fit, IsSettled}
use Rattle.wiring.specs.Clock.{Clock, given, Steps}
use Rattle.wiring.specs.Runs.{Runs, picture}
use Rattle.cycle_sim.specs.declared.ports.Out.{Out}
use Rattle.cycle_sim.specs.Ports.{din_widths, IsShown}
use Rattle.cycle_sim.proofs.Given.{given_fit}
use Rattle.row_stream.specs.declared.line.Line.{Line}
use Rattle.row_stream.specs.Lines.{Kind}
use Rattle.row_stream.specs.Moving.{Gains}
use Rattle.row_stream.specs.Standing.{note_of, IsOneToOne}
use Rattle.row_stream.specs.Progress.{Writes, FailsInLine, Goes, Fails}

abbrev NetsFit : Type 0
NetsFit = (m : Netlist) (order : List ℕ) → KeepsRules m → IsEvaluationOrder m.assigns order → (s : Snapshot) → IsSettled m s → FitsContents m s.contents → Fit m.inputs s.inputs → (n : Net) → IsDeclared m n → net_value s n < 2 ^ net_width m n

pub below_top : (x w top : ℕ) → top ≡ 2 ^ w - 1 → x < 2 ^ w → x ≤ top
below_top x w top e h = omega (arith, e, h)

-- what is shown is a sample of the images
pub dout_fits : NetsFit → (kind : Kind) (m : Netlist) → IsOneToOne kind m → (c : Clock) (from to : Contents) (s : Snapshot) (out : Out) → FitsContents m from → Fit (din_widths m) c.dins → Steps m from (given m c) s to → IsShown s 0 out → out.dout ≤ kind.maxval
dout_fits fit kind m one c from to s out contents dins step shown =
    let bound : net_value s (dout_net 0) < 2 ^ net_width m (dout_net 0) =
    fit m one.order one.rules one.ordered s step.snapshot.settled (subst (λ z. FitsContents m z) (sym step.snapshot.contents) contents)
    (subst (λ z. Fit m.inputs z) (sym step.snapshot.inputs) (given_fit m one.rules c dins)) (dout_net 0) (let l : 1 < length m.outputs = omega (arith, one.one) in l) in
    below_top out.dout (net_width m (dout_net 0)) kind.maxval one.maxval (subst (λ z. z < 2 ^ net_width m (dout_net 0)) (sym shown.dout) bound)

-- notes that go on
told_more : (a b c : Option (List (Bool × ℕ))) (xs ys : List (Bool × ℕ)) → IsIfTold b (option_map (λ l. l ++ xs) a) → IsIfTold c (option_map (λ l. l ++ ys) b) → IsIfTold c (option_map (λ l. l ++ (xs ++ ys)) a)
told_more a b None xs ys f g = tt
told_more None None (Some n) xs ys f g = absurd (let e : ⊥ = cc in e)
told_more None (Some x) (Some n) xs ys f g = absurd (let e : ⊥ = cc in e)
told_more (Some l) None (Some n) xs ys f g = absurd (let e : ⊥ = cc in e)
told_more (Some l) (Some x) (Some n) xs ys f g = joined l x n f g
  where
    taken : (p q : List (Bool × ℕ)) → ◌≡◌ {A = Option (List (Bool × ℕ))} (Some p) (Some q) → p ≡ q
    taken p q e = cc

    joined : (l x n : List (Bool × ℕ)) → ◌≡◌ {A = Option (List (Bool × ℕ))} (Some (l ++ xs)) (Some x) → ◌≡◌ {A = Option (List (Bool × ℕ))} (Some (x ++ ys)) (Some n) → ◌≡◌ {A = Option (List (Bool × ℕ))} (Some (l ++ (xs ++ ys))) (Some n)
    joined l x n a b = ap (λ z. Some z) (sym (append_assoc l xs ys) ∙ ap (λ z. z ++ ys) (taken (l ++ xs) x a)) ∙ b

gains_note : (start now next : Outside) (w : List ℕ) (notes more : List (Bool × ℕ)) → Gains start w notes now → next ≡ record now { notes = next.notes } → IsIfTold next.notes (option_map (λ l. l ++ more) now.notes) → Gains start w (notes ++ more) next
gains_note start now next w notes more h e told = record {
  only = e ∙ ap (λ (o : Outside). record o { notes = next.notes }) h.only
      ∙ ap (λ (o : Outside). record start { image = record start.image { rest = o.image.rest }; file = record start.file { bytes = o.file.bytes }; files = o.files; notes = next.notes }) (sym e);
  grows = subst (λ z. IsIfTold z (Rattle.dk_desk.specs.Calls.grown start.file.bytes w)) (sym (ap (λ (o : Outside). o.file.bytes) e)) h.grows;
  files = subst (λ z. IsIfTold z (Rattle.dk_desk.specs.Calls.grow_created start.files start.file.name w)) (sym (ap (λ (o : Outside). o.files) e)) h.files;
  told = told_more start.notes now.notes next.notes notes more h.told told;
}

-- a clock was noted
pub noted : (kind : Kind) (start before mid : Outside) (samples : List ℕ) (notes : List (Bool × ℕ)) (line : Line) (v : Bool) (d : ℕ) → Writes kind start samples notes line before → mid ≡ record before { notes = mid.notes } →
    IsIfTold mid.notes (option_map (λ l. l ++ (v, d) ∷ []) before.notes) → Writes kind start samples (notes ++ (v, d) ∷ []) line mid
noted kind start before mid samples notes line v d h e told = record { pending = h.pending; gained = gains_note start before mid (Rattle.row_stream.specs.Lines.lines kind samples line.rows) notes ((v, d) ∷ []) h.gained e told }

-- ---- clocks that follow one another

pub picture_join : (k : ℕ) (shots more : List Snapshot) → picture k (shots ++ more) ≡ picture k shots ++ picture k more
picture_join k shots more =
    ap (λ (l : List Snapshot). map (λ t. net_value t (dout_net k)) l) (Rattle.std.proofs.lemmas.List.Elements.filter-append (λ t. net_value t (valid_net k) == 1) shots more)
    ∙ map-append (λ t. net_value t (dout_net k)) (Rattle.std.specs.Prelude.filter (λ t. net_value t (valid_net k) == 1) shots) (Rattle.std.specs.Prelude.filter (λ t. net_value t (valid_net k) == 1) more)

pub runs_join : (m : Netlist) (cs ds : List Clock) (from mid to : Contents) (shots more : List Snapshot) → Runs m from cs shots mid → Runs m mid ds more to → Runs m from (cs ++ ds) (shots ++ more) to
runs_join m [] ds from mid to [] more h g = subst (λ (x : Contents). Runs m x ds more to) (sym h) g
runs_join m [] ds from mid to (t ∷ shots) more h g = absurd h
runs_join m (c ∷ cs) ds from mid to [] more h g = absurd h
runs_join m (c ∷ cs) ds from mid to (t ∷ shots) more h g = (h.0, h.1, runs_join m cs ds h.0 mid to shots more h.2 g)

pub shown_join : (samples : List ℕ) (shots more : List Snapshot) → (samples ++ picture 0 shots) ++ picture 0 more ≡ samples ++ picture 0 (shots ++ more)
shown_join samples shots more = append_assoc samples (picture 0 shots) (picture 0 more) ∙ ap (λ z. samples ++ z) (sym (picture_join 0 shots more))

pub notes_join : (notes : List (Bool × ℕ)) (shots more : List Snapshot) → (notes ++ map note_of shots) ++ map note_of more ≡ notes ++ map note_of (shots ++ more)
notes_join notes shots more = append_assoc notes (map note_of shots) (map note_of more) ∙ ap (λ z. notes ++ z) (sym (map-append note_of shots more))

pub goes_none : (kind : Kind) (m : Netlist) (at : Contents) (line : Line) (o : Outside) → Goes kind m [] at at line line o o
goes_none kind m at line o = record {
  shots = [];
  runs = refl;
  writes = λ start samples notes w. subst (λ z. Writes kind start z (notes ++ []) line o) (sym (append-nil samples)) (subst (λ z. Writes kind start samples z line o) (sym (append-nil notes)) w);
}

module _ (kind : Kind) (m : Netlist) (cs ds : List Clock) (from mid : Contents) (old between : Line) (before half now : Outside) where
  pub goes_join : (to : Contents) (new : Line) → Goes kind m cs from mid old between before half → Goes kind m ds mid to between new half now → Goes kind m (cs ++ ds) from to old new before now
  goes_join to new h g = record {
    shots = h.shots ++ g.shots;
    runs = runs_join m cs ds from mid to h.shots g.shots h.runs g.runs;
    writes = λ start samples notes w.
        subst (λ z. Writes kind start z (notes ++ map note_of (h.shots ++ g.shots)) new now) (shown_join samples h.shots g.shots)
        (subst (λ z. Writes kind start ((samples ++ picture 0 h.shots) ++ picture 0 g.shots) z new now) (notes_join notes h.shots g.shots)
        (g.writes start (samples ++ picture 0 h.shots) (notes ++ map note_of h.shots) (h.writes start samples notes w)));
  }

  pub fails_after : Goes kind m cs from mid old between before half → Fails kind m ds mid between half now → Fails kind m (cs ++ ds) from old before now
  fails_after h g = record {
    made = length cs + g.made;
    within = omega (arith, g.within, length-append cs ds);
    some = omega (arith, g.some);
    shots = h.shots ++ g.shots;
    to = g.to;
    runs = subst (λ z. Runs m from z (h.shots ++ g.shots) g.to) (sym (take-append-add cs ds g.made)) (runs_join m cs (take g.made ds) from mid g.to h.shots g.shots h.runs g.runs);
    fails = λ start samples notes w.
        subst (λ z. FailsInLine kind start z (notes ++ map note_of (h.shots ++ g.shots)) now) (shown_join samples h.shots g.shots)
        (subst (λ z. FailsInLine kind start ((samples ++ picture 0 h.shots) ++ picture 0 g.shots) z now) (notes_join notes h.shots g.shots)
        (g.fails start (samples ++ picture 0 h.shots) (notes ++ map note_of h.shots) (h.writes start samples notes w)));
  }

-- it is so of more clocks
pub fails_more : (kind : Kind) (m : Netlist) (cs ds : List Clock) (from : Contents) (old : Line) (before now : Outside) → Fails kind m cs from old before now → Fails kind m (cs ++ ds) from old before now
fails_more kind m cs ds from old before now h = record {
  made = h.made;
  within = omega (arith, h.within, length-append cs ds);
  some = h.some;
  shots = h.shots;
  to = h.to;
  runs = subst (λ z. Runs m from z h.shots h.to) (sym (take-append-le h.made cs ds h.within)) h.runs;
  fails = h.fails;
}
