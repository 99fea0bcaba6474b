-- Streams that keep the equations are a run.
use Rattle.std.proofs.Common.{◌≡◌, ℕ, zero, suc, ◌<◌, List, [], ◌∷◌, length, get_or, refl, ap, sym, subst, ◌∙◌, arith, Some}
use Rattle.std.specs.Prelude.{All, slice_get, slice_index, slice_index_or}
use Rattle.std.proofs.lemmas.List.Elements.{All-contains, All-nil, All-cons, All-append}
use Rattle.std.proofs.lemmas.Option.{slice_get_within}
use Rattle.wiring.specs.declared.right.Atom.{Atom}
use Rattle.wiring.specs.declared.right.Right.{Right}
use Rattle.wiring.specs.declared.right.Right.TheVariants as right
use Rattle.wiring.specs.declared.netlist.Net.{Net}
use Rattle.wiring.specs.declared.netlist.Net.TheVariants.{Input, Output, Wire, Reg}
use Rattle.wiring.specs.declared.netlist.Assign.{Assign}
use Rattle.wiring.specs.declared.netlist.Update.{Update}
use Rattle.wiring.specs.declared.netlist.Update.TheVariants.{Set, Put}
use Rattle.wiring.specs.Rights.{atom_value, atom_nets, right_value, nets_of}
use Rattle.wiring.specs.Netlist.{Netlist, net_width, depth, IsDeclared}
use Rattle.wiring.specs.Snapshot.{net_value, word_value, TakesPlace, IsInRange, IsInside, accesses, accesses_of, right_accesses, update_accesses}
use Rattle.wiring.specs.Clock.{Clock, given, Steps}
use Rattle.wiring.specs.Runs.{Runs}
use Rattle.wiring.specs.Rules.{KeepsRules, AssignIsSound, UpdateIsSound, ArrayIsDeclared}
use Rattle.wiring.proofs.Lists.{All-at, All-from_at}
use Rattle.wiring.proofs.Local.{right_local, atom_local}
use Rattle.wiring.proofs.Nets.{driven_declared}
use Rattle.batch_code.specs.Batch.{firsts}
use Rattle.batch_code.specs.Streams.{Streams, contents_at, shot_at, AreStreams}
use Rattle.batch_code.proofs.BatchRuns.{runs_of}

pub length-firsts : {X : Type 0} (f : ℕ → X) (n : ℕ) → length (firsts f n) ≡ n
length-firsts f zero = refl
length-firsts f (suc n) = ap (λ k. suc k) (length-firsts (λ k. f (suc k)) n)

pub firsts-at : {X : Type 0} (f : ℕ → X) (n k : ℕ) (d : X) → k < n → get_or (firsts f n) k d ≡ f k
firsts-at f zero k d l = absurd (omega (arith, l))
firsts-at f (suc n) zero d l = refl
firsts-at f (suc n) (suc k) d l = firsts-at (λ j. f (suc j)) n k d (omega (arith, l))

pub firsts-get : {X : Type 0} (f : ℕ → X) (n k : ℕ) → k < n → slice_get (firsts f n) k ≡ Some (f k)
firsts-get f zero k l = absurd (omega (arith, l))
firsts-get f (suc n) zero l = refl
firsts-get f (suc n) (suc k) l = firsts-get (λ j. f (suc j)) n k (omega (arith, l))

module _ (m : Netlist) (s : Streams) (t : ℕ) where
  -- a declared net has in the snapshot what its stream has
  pub net_at : (n : Net) → IsDeclared m n → net_value (shot_at m s t) n ≡ s.value t n
  net_at (Input i) d = firsts-at (λ j. s.value t (Input j)) (length m.inputs) i 0 d
  net_at (Output i) d = firsts-at (λ j. s.value t (Output j)) (length m.outputs) i 0 d
  net_at (Wire i) d = firsts-at (λ j. s.value t (Wire j)) (length m.wires) i 0 d
  net_at (Reg i) d = firsts-at (λ j. s.value t (Reg j)) (length m.regs) i 0 d

  pub words_at : (x : ℕ) → x < length m.arrays → slice_index_or (contents_at m s t).arrays x [] ≡ s.words t x
  words_at x d = firsts-at (s.words t) (length m.arrays) x [] d

  pub atom_at : (a : Atom Net) → All (IsDeclared m) (atom_nets a) → atom_value (net_value (shot_at m s t)) a ≡ atom_value (s.value t) a
  atom_at a h = atom_local (net_value (shot_at m s t)) (s.value t) a (λ n c. net_at n (All-contains (IsDeclared m) (atom_nets a) n h c))

-- the index of an access is of declared nets
pub accesses_all : {X : Type 0} (P : ℕ × Atom Net → Type 0) (f : X → List (ℕ × Atom Net)) (xs : List X) → ((k : ℕ) (x : X) → slice_get xs k ≡ Some x → All P (f x)) → All P (accesses_of f xs)
accesses_all P f [] h = All-nil P
accesses_all P f (x ∷ xs) h = All-append P (f x) (accesses_of f xs) (h 0 x refl) (accesses_all P f xs (λ k y at. h (suc k) y at))

abbrev IsOver : Netlist → ℕ × Atom Net → Type 0
IsOver m p = All (IsDeclared m) (atom_nets p.1)

of_right : (m : Netlist) (r : Right Net ℕ) → All (IsDeclared m) (nets_of r) → All (IsOver m) (right_accesses r)
of_right m (right.Copy a) h = All-nil (IsOver m)
of_right m (right.Not a) h = All-nil (IsOver m)
of_right m (right.Binary o a b) h = All-nil (IsOver m)
of_right m (right.Choose c a b) h = All-nil (IsOver m)
of_right m (right.Join a b) h = All-nil (IsOver m)
of_right m (right.Repeat n a) h = All-nil (IsOver m)
of_right m (right.Bit n k) h = All-nil (IsOver m)
of_right m (right.Slice n a l) h = All-nil (IsOver m)
of_right m (right.Word x i) h = All-cons (IsOver m) (x, i) [] h (All-nil (IsOver m))

of_update : (m : Netlist) (u : Update) → UpdateIsSound m u → All (IsOver m) (update_accesses u)
of_update m (Set r a) h = All-nil (IsOver m)
of_update m (Put x i a) h = All-cons (IsOver m) (x, i) [] h.1.nets (All-nil (IsOver m))

declared_access : (m : Netlist) → KeepsRules m → (k : ℕ) (access : ℕ × Atom Net) → slice_get (accesses m) k ≡ Some access → All (IsDeclared m) (atom_nets access.1)
declared_access m rules k access at =
    let reads = accesses_all (IsOver m) (λ (a : Assign). right_accesses a.right) m.assigns (λ j a e. of_right m a.right (All-at (AssignIsSound m) m.assigns j a rules.assigns e).right.nets) in
    let puts = accesses_all (IsOver m) update_accesses m.updates (λ j u e. of_update m u (All-at (UpdateIsSound m) m.updates j u rules.updates e)) in
    All-at (IsOver m) (accesses m) k access (All-append (IsOver m) (accesses_of (λ (a : Assign). right_accesses a.right) m.assigns) (accesses_of update_accesses m.updates) reads puts) at

module _ (m : Netlist) (rules : KeepsRules m) (clocks : List Clock) (s : Streams) (streams : AreStreams m clocks s) where
  sound : (k : ℕ) (a : Assign) → slice_get m.assigns k ≡ Some a → AssignIsSound m a
  sound k a at = All-at (AssignIsSound m) m.assigns k a rules.assigns at

  -- only the words of a declared array are read
  words_same : (t : ℕ) (v : Net → ℕ) (r : Right Net ℕ) → ArrayIsDeclared m r → right_value (net_width m) (word_value (shot_at m s t)) v r ≡ right_value (net_width m) (λ x i. slice_index (s.words t x) i) v r
  words_same t v (right.Copy a) d = refl
  words_same t v (right.Not a) d = refl
  words_same t v (right.Binary o a b) d = refl
  words_same t v (right.Choose c a b) d = refl
  words_same t v (right.Join a b) d = refl
  words_same t v (right.Repeat n a) d = refl
  words_same t v (right.Bit n k) d = refl
  words_same t v (right.Slice n h l) d = refl
  words_same t v (right.Word x i) d = ap (λ (ws : List ℕ). slice_index ws (atom_value v i)) (words_at m s t x d)

  holds_at : (t : ℕ) → t < length clocks → (k : ℕ) (a : Assign) → slice_get m.assigns k ≡ Some a → net_value (shot_at m s t) a.target ≡ right_value (net_width m) (word_value (shot_at m s t)) (net_value (shot_at m s t)) a.right
  holds_at t l k a at =
      let ok = sound k a at in
      let target = net_at m s t a.target (driven_declared m a.target ok.target) in
      let local = right_local (net_value (shot_at m s t)) (s.value t) (net_width m) (word_value (shot_at m s t)) a.right (λ n c. net_at m s t n (All-contains (IsDeclared m) (nets_of a.right) n ok.right.nets c)) in
      target ∙ streams.assigns t l k a at ∙ sym (words_same t (s.value t) a.right ok.right.array) ∙ sym local

  takes_at : (t : ℕ) → t < length clocks → (k : ℕ) (u : Update) → slice_get m.updates k ≡ Some u → TakesPlace (shot_at m s t) (contents_at m s (suc t)) u
  takes_at t l k (Set r a) at =
      let ok = All-at (UpdateIsSound m) m.updates k (Set r a) rules.updates at in
      firsts-get (λ j. s.value (suc t) (Reg j)) (length m.regs) r ok.0 ∙ ap (λ x. Some x) (streams.updates t l k (Set r a) at ∙ sym (atom_at m s t a ok.1.nets))
  takes_at t l k (Put x i a) at =
      let ok = All-at (UpdateIsSound m) m.updates k (Put x i a) rules.updates at in
      let index = atom_at m s t i ok.1.nets in
      let value = atom_at m s t a ok.2.nets in
      let words = words_at m s t x ok.0 in
      firsts-get (s.words (suc t)) (length m.arrays) x ok.0 ∙ ap (λ ws. Some ws) (streams.updates t l k (Put x i a) at ∙ rw (index, value, words) refl)

  inside_at : (t : ℕ) → t < length clocks → IsInRange m (shot_at m s t)
  inside_at t l = All-from_at (IsInside m (shot_at m s t)) (accesses m) (λ k access at. subst (λ (v : ℕ). v < depth m access.0) (sym (atom_at m s t access.1 (declared_access m rules k access at))) (All-at (λ access. atom_value (s.value t) access.1 < depth m access.0) (accesses m) k access (streams.inside t l) at))

  steps_at : (t : ℕ) (c : Clock) → slice_get clocks t ≡ Some c → Steps m (contents_at m s t) (given m c) (shot_at m s t) (contents_at m s (suc t))
  steps_at t c at =
      let l = slice_get_within clocks t c at in
      record {
        snapshot = record {
          inputs = streams.given_are t c at;
          contents = refl;
          settled = record {
            outputs = length-firsts (λ i. s.value t (Output i)) (length m.outputs);
            wires = length-firsts (λ i. s.value t (Wire i)) (length m.wires);
            assigns = All-from_at (λ (a : Assign). net_value (shot_at m s t) a.target ≡ right_value (net_width m) (word_value (shot_at m s t)) (net_value (shot_at m s t)) a.right) m.assigns (holds_at t l);
          };
        };
        in_range = inside_at t l;
        next = record {
          regs = length-firsts (λ i. s.value (suc t) (Reg i)) (length m.regs) ∙ sym (length-firsts (λ i. s.value t (Reg i)) (length m.regs));
          arrays = length-firsts (s.words (suc t)) (length m.arrays) ∙ sym (length-firsts (s.words t) (length m.arrays));
          updates = All-from_at (TakesPlace (shot_at m s t) (contents_at m s (suc t))) m.updates (takes_at t l);
        };
      }

pub run_is : (m : Netlist) → KeepsRules m → (clocks : List Clock) (s : Streams) → AreStreams m clocks s → Runs m (contents_at m s 0) clocks (firsts (shot_at m s) (length clocks)) (contents_at m s (length clocks))
run_is m rules clocks s streams = runs_of m clocks (shot_at m s) (contents_at m s) (steps_at m rules clocks s streams)
