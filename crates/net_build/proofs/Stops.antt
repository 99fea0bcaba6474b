-- No access is outside its array, as a netlist grows.
use Rattle.std.proofs.Common.{◌≡◌, ◌⊎◌, ℕ, suc, ◌<◌, Bool, true, false, List, [], ◌∷◌, ◌++◌, length, Some, refl, sym, ap, subst, ◌∙◌, inl, inr, arith, append_assoc, append-nil, ◌^◌}
use Rattle.std.specs.Prelude.{slice_get, IsTrue, All, if◌then◌else◌}
use Rattle.std.proofs.lemmas.Option.{same_Some}
use Rattle.std.proofs.lemmas.List.Elements.{All-nil, All-cons, All-head, All-tail, All-weaker, All-append}
use Rattle.wiring.specs.declared.right.Atom.{Atom}
use Rattle.wiring.specs.declared.right.Atom.TheVariants as atom
use Rattle.wiring.specs.declared.right.Right.{Right}
use Rattle.wiring.specs.declared.netlist.Net.{Net}
use Rattle.wiring.specs.declared.netlist.Net.TheVariants.{Wire}
use Rattle.wiring.specs.declared.netlist.Holder.{Holder}
use Rattle.wiring.specs.declared.netlist.Shape.{Shape}
use Rattle.wiring.specs.declared.netlist.Assign.{Assign}
use Rattle.wiring.specs.declared.netlist.Update.{Update}
use Rattle.wiring.specs.Netlist.{Netlist, depth, net_width}
use Rattle.wiring.specs.Snapshot.{Contents, Snapshot, FitsContents, IsInside, IsNext, net_value, accesses, accesses_of, right_accesses, update_accesses, HasOneSnapshot, HasPlaces}
use Rattle.wiring.specs.Clock.{Clock, Stops, given}
use Rattle.wiring.specs.History.{After, was_reset, is_held}
use Rattle.wiring.specs.Runs.{Runs, RunStops}
use Rattle.std.proofs.lemmas.Slice.Zip.{AllZip-long}
use Rattle.wiring.proofs.Valuation.{one_snapshot}
use Rattle.wiring.proofs.Settle.{some_snapshot}
use Rattle.wiring.proofs.Next.{has_one_next}
use Rattle.netlist.proofs.RunLaws.{run_some}
use Rattle.wiring.proofs.Lists.{All-at, All-left, All-right}
use Rattle.net_build.specs.Includes.{Includes}
use Rattle.net_build.specs.Draft.{IsNet, ValuesFit, with_wire, with_reg, with_array, with_update, output_assigns, with_outputs}
use Rattle.net_build.specs.Runs.{IsWhole, FitsPorts, IsClockOf, StaysBelow, StaysInside, NeverStops, BeginsWithReset, RunsOn, IsKept, IsReady, IsStill}
use Rattle.net_build.proofs.Grown.{depth_more, width_more}
use Rattle.net_build.proofs.Drafts.{includes_wire, includes_reg, includes_array, includes_update}
use Rattle.net_build.proofs.Runs.{InEachRun-more, clock_contents, clock_inputs}

pub stays_more : (b a : Netlist) (access : ℕ × Atom Net) → Includes b a → StaysInside a access → StaysInside b access
stays_more b a access f h = record { inside = InEachRun-more (λ m before c s. IsTrue (was_reset (c ∷ before)) → IsInside m s access) b a f h.inside }

pub below_more : (b a : Netlist) (n : ℕ) (net : Net) → Includes b a → StaysBelow a n net → StaysBelow b n net
below_more b a n net f h = record { below = InEachRun-more (λ m before c s. IsTrue (was_reset (c ∷ before)) → net_value s net < n) b a f h.below }

pub still_more : (b a : Netlist) (copies : List ℕ) (h : Holder) → Includes b a → IsStill a copies h → IsStill b copies h
still_more b a copies h f is = record { kept = InEachRun-more (λ m before c s. IsReady copies before → IsTrue (is_held m c) → (next : Contents) → IsNext m s next → IsKept s next h) b a f is.kept }

all_more : (b a : Netlist) (xs : List (ℕ × Atom Net)) → Includes b a → All (StaysInside a) xs → All (StaysInside b) xs
all_more b a xs f h = All-weaker (StaysInside a) (StaysInside b) (λ x. stays_more b a x f) xs h

-- the same accesses
pub same_stops : (b a : Netlist) → Includes b a → accesses b ≡ accesses a → NeverStops a → NeverStops b
same_stops b a f e h = record { inside = subst (All (StaysInside b)) (sym e) (all_more b a (accesses a) f h.inside) }

accesses-append : {X : Type 0} (f : X → List (ℕ × Atom Net)) (xs ys : List X) → accesses_of f (xs ++ ys) ≡ accesses_of f xs ++ accesses_of f ys
accesses-append f [] ys = refl
accesses-append f (x ∷ xs) ys = ap (λ l. f x ++ l) (accesses-append f xs ys) ∙ sym (append_assoc (f x) (accesses_of f xs) (accesses_of f ys))

-- each access of a list, and of one element more
push_stops : {X : Type 0} (P : ℕ × Atom Net → Type 0) (f : X → List (ℕ × Atom Net)) (xs : List X) (x : X) → All P (accesses_of f xs) → All P (f x) → All P (accesses_of f (xs ++ x ∷ []))
push_stops P f xs x old new = subst (All P) (sym (accesses-append f xs (x ∷ []))) (All-append P (accesses_of f xs) (f x ++ []) old (All-append P (f x) [] new (All-nil P)))

module _ (b : Netlist) where
  abbrev of : Assign → List (ℕ × Atom Net)
  of a = right_accesses a.right

  abbrev reads : List (ℕ × Atom Net)
  reads = accesses_of of b.assigns

  abbrev puts : List (ℕ × Atom Net)
  puts = accesses_of update_accesses b.updates

  pub wire_stops : (r : Right Net ℕ) → NeverStops b → All (StaysInside (with_wire b r)) (right_accesses r) → NeverStops (with_wire b r)
  wire_stops r old new =
      let n : Netlist = with_wire b r in
      let a : Assign = record { target = Wire (length b.wires); right = r } in
      let all : All (StaysInside n) (accesses b) = all_more n b (accesses b) (includes_wire b r) old.inside in
      record { inside = All-append (StaysInside n) (accesses_of of (b.assigns ++ a ∷ [])) puts (push_stops (StaysInside n) of b.assigns a (All-left (StaysInside n) reads puts all) new) (All-right (StaysInside n) reads puts all) }

  pub update_stops : (u : Update) → NeverStops b → All (StaysInside (with_update b u)) (update_accesses u) → NeverStops (with_update b u)
  update_stops u old new =
      let n : Netlist = with_update b u in
      let all : All (StaysInside n) (accesses b) = all_more n b (accesses b) (includes_update b u) old.inside in
      record { inside = All-append (StaysInside n) reads (accesses_of update_accesses (b.updates ++ u ∷ [])) (All-left (StaysInside n) reads puts all) (push_stops (StaysInside n) update_accesses b.updates u (All-right (StaysInside n) reads puts all) new) }

  pub reg_stops : (w : ℕ) → NeverStops b → NeverStops (with_reg b w)
  reg_stops w old = same_stops (with_reg b w) b (includes_reg b w) refl old

  pub array_stops : (s : Shape) → NeverStops b → NeverStops (with_array b s)
  array_stops s old = same_stops (with_array b s) b (includes_array b s) refl old

  no_reads : (k : ℕ) (ns : List Net) → accesses_of of (output_assigns k ns) ≡ []
  no_reads k [] = refl
  no_reads k (n ∷ ns) = no_reads (suc k) ns

  outputs_accesses : (sources : List Net) → accesses (with_outputs b sources) ≡ accesses b
  outputs_accesses sources = ap (λ l. l ++ puts) (accesses-append of b.assigns (output_assigns 0 sources) ∙ ap (λ l. reads ++ l) (no_reads 0 sources) ∙ append-nil reads)

pub op_stops : (old new : Netlist) (r : Right Net ℕ) → (new ≡ old) ⊎ (new ≡ with_wire old r) → NeverStops old → All (StaysInside new) (right_accesses r) → NeverStops new
op_stops old new r (inl e) h g = subst NeverStops (sym e) h
op_stops old new r (inr e) h g = subst NeverStops (sym e) (wire_stops old r h (subst (λ (n : Netlist). All (StaysInside n) (right_accesses r)) e g))

-- a run of a module whose accesses are those of a part that never stops
reset_on : (h : List Clock) (c : Clock) → IsTrue (was_reset h) → IsTrue (was_reset (c ∷ h))
reset_on h c is = by c.reset
  where
    by : (b : Bool) → IsTrue (if b then true else was_reset h)
    by true = refl
    by false = is

abbrev FirstIsSince : List Clock → List Clock → Type 0
FirstIsSince before [] = Unit {0}
FirstIsSince before (c ∷ clocks) = IsTrue (was_reset (c ∷ before))

module _ (part m : Netlist) (whole : IsWhole m part) (same : accesses m ≡ accesses part) (never : NeverStops part) (from : Contents) (start : FitsContents m from) where
  abbrev Fits : Clock → Type 0
  Fits = FitsPorts m

  no_stop : (mid : Contents) (before : List Clock) (c : Clock) (x i : ℕ) → After m from before mid → All Fits (c ∷ before) → IsTrue (was_reset (c ∷ before)) → Stops m mid (given m c) x i → ⊥
  no_stop mid before c x i after fit since stops =
      let is : IsClockOf part m from before c stops.shot = record { whole = whole; start = start; fit = fit; at = record { old = mid; after = after; snapshot = stops.snapshot } } in
      let there = subst (λ l. slice_get l stops.stops.place ≡ Some (x, stops.stops.access)) same stops.stops.at in
      let inside : IsInside m stops.shot (x, stops.stops.access) = (All-at (StaysInside part) (accesses part) stops.stops.place (x, stops.stops.access) never.inside there).inside m from before c stops.shot is since in
      omega (arith, inside, stops.stops.value, stops.stops.outside)

  no_stop_from : (mid : Contents) (before clocks : List Clock) (shots : List Snapshot) (x i : ℕ) → After m from before mid → All Fits before → All Fits clocks → FirstIsSince before clocks → RunStops m mid clocks shots x i → ⊥
  no_stop_from mid before [] shots x i after old fit since stops = stops
  no_stop_from mid before (c ∷ clocks) [] x i after old fit since stops = no_stop mid before c x i after (All-cons Fits c before (All-head Fits c clocks fit) old) since stops
  no_stop_from mid before (c ∷ clocks) (s ∷ shots) x i after old fit since (next, steps, stops) =
      no_stop_from next (c ∷ before) clocks shots x i (mid, s, after, steps) (All-cons Fits c before (All-head Fits c clocks fit) old) (All-tail Fits c clocks fit) (later clocks) stops
    where
      later : (clocks : List Clock) → FirstIsSince (c ∷ before) clocks
      later [] = tt
      later (d ∷ clocks) = reset_on (c ∷ before) d since

  pub no_run_stops : (clocks : List Clock) (shots : List Snapshot) (x i : ℕ) → All Fits clocks → BeginsWithReset clocks → RunStops m from clocks shots x i → ⊥
  no_run_stops [] shots x i fit reset stops = stops
  no_run_stops (c ∷ clocks) shots x i fit (d, at, on) stops =
      let on_c : c.reset ≡ true = ap (λ (y : Clock). y.reset) (same_Some c d at) ∙ on in
      no_stop_from from [] (c ∷ clocks) shots x i refl (All-nil Fits) fit (first c.reset on_c) stops
    where
      first : (b : Bool) → b ≡ true → IsTrue (if b then true else false)
      first b e = subst (λ (x : Bool). IsTrue (if x then true else false)) (sym e) refl

-- the module of a draft that never stops runs on
pub finished_runs : (b : Netlist) (sources : List Net) → IsWhole (with_outputs b sources) b → NeverStops b → RunsOn (with_outputs b sources)
finished_runs b sources whole never = record { no_stop = λ from clocks shots x i start fit reset stops. no_run_stops b (with_outputs b sources) whole (outputs_accesses b sources) never from start clocks shots x i fit reset stops }

-- an index below the depth of its array is inside it
pub inside_below : (b : Netlist) (x : ℕ) (net : Net) → x < length b.arrays → StaysBelow b (depth b x) net → StaysInside b (x, atom.Net net)
inside_below b x net within below = record { inside = λ m from before c s is since. omega (arith, below.below m from before c s is since, depth_more m b is.whole.includes x within) }

-- where no run stops each list of clocks has its run
abbrev HasRun : Netlist → Contents → List Clock → Type 0
HasRun m from clocks = (shots : List Snapshot) × (to : Contents) × Runs m from clocks shots to

pub run_goes_on : (m part : Netlist) (from : Contents) (clocks : List Clock) → IsWhole m part → RunsOn m → FitsContents m from → All (FitsPorts m) clocks → BeginsWithReset clocks → HasRun m from clocks
run_goes_on m part from clocks whole on start fit reset =
    let one : HasOneSnapshot m = record { some = some_snapshot m whole.rules whole.order whole.ordered; one = one_snapshot m whole.rules whole.order whole.ordered } in
    let places : HasPlaces m from = record { regs = AllZip-long (λ w v. v < 2 ^ w) m.regs from.regs start.regs; arrays = AllZip-long (λ (s : Shape) words. (length words ≡ s.depth) × All (λ w. w < 2 ^ s.width) words) m.arrays from.arrays start.arrays } in
    elim (run_some m one (has_one_next m whole.rules) from clocks places) as (λ _. HasRun m from clocks) [
      | inl r ↦ r
      | inr r ↦ absurd (on.no_stop from clocks r.0 r.1 r.2 start fit reset r.3)
    ]

-- a net of a draft is below 2 to its width
pub width_below : (b : Netlist) (n : Net) → ValuesFit b → IsNet b n → StaysBelow b (2 ^ net_width b n) n
width_below b n fits net = record {
  below = λ m from before c s is since.
      subst (λ (w : ℕ). net_value s n < 2 ^ w) (width_more m b is.whole.includes n net.declared) (fits m s is.whole.includes is.at.snapshot.settled (clock_contents b m from before c s is) (clock_inputs b m from before c s is) n net);
}
