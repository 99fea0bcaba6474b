-- Evaluating the assigns in an evaluation order settles a snapshot.
use Rattle.std.proofs.Common.{◌≡◌, ◌≢◌, ℕ, zero, suc, ◌+◌, ◌<◌, ◌≤◌, List, length, get_or, refl, ap, subst, sym, ◌∙◌, arith, add-one, inl, inr, Some}
use Rattle.std.specs.Prelude.{Contains, slice_get, slice_set, replicate}
use Rattle.std.proofs.lemmas.List.{get_or-set_same, get_or-set_other, length-set, length-replicate}
use Rattle.std.proofs.lemmas.Option.{slice_get_within, slice_get-get_or, slice_get_cases}
use Rattle.std.proofs.lemmas.Bool.{cases_lt}
use Rattle.wiring.specs.declared.netlist.Net.{Net}
use Rattle.wiring.specs.declared.netlist.Net.TheVariants.{Input, Output, Wire, Reg}
use Rattle.wiring.specs.declared.netlist.Assign.{Assign}
use Rattle.wiring.specs.Rights.{nets_of, right_value}
use Rattle.wiring.specs.Netlist.{Netlist, net_width, IsDriven}
use Rattle.wiring.specs.Snapshot.{Contents, Snapshot, net_value, word_value, IsSettled, SnapshotOf}
use Rattle.wiring.specs.Order.{Feeds, IsEvaluationOrder}
use Rattle.wiring.specs.Rules.{KeepsRules, AssignIsSound}
use Rattle.wiring.proofs.Lists.{All-at, All-from_at, at_one}
use Rattle.wiring.proofs.Local.{right_local}

-- the lists of outputs and of wires after a value was given to a net
abbrev pub put_output : Net → ℕ → List ℕ → List ℕ
put_output (Input i) x xs = xs
put_output (Output i) x xs = slice_set xs i x
put_output (Wire i) x xs = xs
put_output (Reg i) x xs = xs

abbrev pub put_wire : Net → ℕ → List ℕ → List ℕ
put_wire (Input i) x xs = xs
put_wire (Output i) x xs = xs
put_wire (Wire i) x xs = slice_set xs i x
put_wire (Reg i) x xs = xs

-- the snapshot with another value of one driven net
abbrev pub put_net : Snapshot → Net → ℕ → Snapshot
put_net s n x = record { inputs = s.inputs; outputs = put_output n x s.outputs; wires = put_wire n x s.wires; contents = s.contents }

-- it has room for the driven nets
pub record HasRoom (m : Netlist) (s : Snapshot) : Type 0 where
  pub outputs : length s.outputs ≡ length m.outputs
  pub wires : length s.wires ≡ length m.wires

pub room-put_net : (m : Netlist) (s : Snapshot) (n : Net) (x : ℕ) → HasRoom m s → HasRoom m (put_net s n x)
room-put_net m s (Input i) x h = record { outputs = h.outputs; wires = h.wires }
room-put_net m s (Output i) x h = record { outputs = length-set s.outputs i x ∙ h.outputs; wires = h.wires }
room-put_net m s (Wire i) x h = record { outputs = h.outputs; wires = length-set s.wires i x ∙ h.wires }
room-put_net m s (Reg i) x h = record { outputs = h.outputs; wires = h.wires }

pub put_net_same : (m : Netlist) (s : Snapshot) (n : Net) (x : ℕ) → HasRoom m s → IsDriven m n → net_value (put_net s n x) n ≡ x
put_net_same m s (Input i) x h d = absurd d
put_net_same m s (Output i) x h d = get_or-set_same s.outputs i x 0 (omega (arith, h.outputs))
put_net_same m s (Wire i) x h d = get_or-set_same s.wires i x 0 (omega (arith, h.wires))
put_net_same m s (Reg i) x h d = absurd d

pub put_net_other : (s : Snapshot) (n k : Net) (x : ℕ) → k ≢ n → net_value (put_net s n x) k ≡ net_value s k
put_net_other s (Input i) k x ne = refl
put_net_other s (Reg i) k x ne = refl
put_net_other s (Output i) (Input j) x ne = refl
put_net_other s (Output i) (Output j) x ne = get_or-set_other s.outputs i j x 0 (λ e. ne (ap (λ z. Output z) e))
put_net_other s (Output i) (Wire j) x ne = refl
put_net_other s (Output i) (Reg j) x ne = refl
put_net_other s (Wire i) (Input j) x ne = refl
put_net_other s (Wire i) (Output j) x ne = refl
put_net_other s (Wire i) (Wire j) x ne = get_or-set_other s.wires i j x 0 (λ e. ne (ap (λ z. Wire z) e))
put_net_other s (Wire i) (Reg j) x ne = refl

-- an assign holds
abbrev pub Holds : Netlist → Snapshot → Assign → Type 0
Holds m s a = net_value s a.target ≡ right_value (net_width m) (word_value s) (net_value s) a.right

-- the assigns at the first places of the order hold
abbrev pub SettledUpTo : Netlist → List ℕ → ℕ → Snapshot → Type 0
SettledUpTo m order p s = (q k : ℕ) (a : Assign) → q < p → slice_get order q ≡ Some k → slice_get m.assigns k ≡ Some a → Holds m s a

module _ (m : Netlist) (rules : KeepsRules m) (order : List ℕ) (ordered : IsEvaluationOrder m.assigns order) where
  pub settled_none : (s : Snapshot) → SettledUpTo m order 0 s
  settled_none s q k a lt at_q at_k = absurd (omega (arith, lt))

  -- no assign reads what one at its own place or a later one drives
  not_read : (q j p k : ℕ) (b a : Assign) → q ≤ p → slice_get order q ≡ Some j → slice_get m.assigns j ≡ Some b → slice_get order p ≡ Some k → slice_get m.assigns k ≡ Some a →
      (n : Net) → Contains (nets_of b.right) n → n ≢ a.target
  not_read q j p k b a le at_q at_j at_p at_k n read e =
      let feeds : Feeds m.assigns k j = record { from = a; to = b; from_at = at_k; to_at = at_j; read = subst (λ (x : Net). Contains (nets_of b.right) x) e read } in
      let before = ordered.behind q k j at_q feeds in
      let same : before.0 ≡ p = ordered.once before.0 p k before.2 at_p in
      absurd (omega (arith, before.1, same))

  -- an assign keeps its meaning when a net gets a value that it doesn't read
  kept_right : (s : Snapshot) (q j p k : ℕ) (b a : Assign) (x : ℕ) → q ≤ p → slice_get order q ≡ Some j → slice_get m.assigns j ≡ Some b → slice_get order p ≡ Some k → slice_get m.assigns k ≡ Some a →
      right_value (net_width m) (word_value (put_net s a.target x)) (net_value (put_net s a.target x)) b.right ≡ right_value (net_width m) (word_value s) (net_value s) b.right
  kept_right s q j p k b a x le at_q at_j at_p at_k =
      right_local (net_value (put_net s a.target x)) (net_value s) (net_width m) (word_value s) b.right
      (λ n read. put_net_other s a.target n x (not_read q j p k b a le at_q at_j at_p at_k n read))

  -- one place further
  pub settled_more : (s : Snapshot) (p k : ℕ) (a : Assign) (x : ℕ) → HasRoom m s → slice_get order p ≡ Some k → slice_get m.assigns k ≡ Some a →
      x ≡ right_value (net_width m) (word_value s) (net_value s) a.right → SettledUpTo m order p s → SettledUpTo m order (p + 1) (put_net s a.target x)
  settled_more s p k a x room at_p at_k value before q j b lt at_q at_j =
      let kept = kept_right s q j p k b a x (omega (arith, lt)) at_q at_j at_p at_k in
      elim (cases_lt q p) as (λ _. Holds m (put_net s a.target x) b) [
        | inl l ↦
            let apart : b.target ≢ a.target = λ e.
            let same : j ≡ k = rules.driven.one j k b a at_j at_k e in
            let again : q ≡ p = ordered.once q p k (subst (λ (z : ℕ). slice_get order q ≡ Some z) same at_q) at_p in
            absurd (omega (arith, l, again)) in
            put_net_other s a.target b.target x apart ∙ before q j b l at_q at_j ∙ sym kept
        | inr g ↦
            let here : q ≡ p = omega (arith, lt, g) in
            let same : j ≡ k = at_one order p j k (subst (λ (z : ℕ). slice_get order z ≡ Some j) here at_q) at_p in
            let one : b ≡ a = at_one m.assigns k b a (subst (λ (z : ℕ). slice_get m.assigns z ≡ Some b) same at_j) at_k in
            let driven : IsDriven m a.target = (All-at (AssignIsSound m) m.assigns k a rules.assigns at_k).target in
            let kept_a = kept_right s p k p k a a x (omega arith) at_p at_k at_p at_k in
            let holds_a : Holds m (put_net s a.target x) a = put_net_same m s a.target x room driven ∙ value ∙ sym kept_a in
            subst (λ (y : Assign). Holds m (put_net s a.target x) y) (sym one) holds_a
      ]

  -- at the end all hold
  pub settled_all : (s : Snapshot) (n : ℕ) → HasRoom m s → length order ≤ n → SettledUpTo m order n s → IsSettled m s
  settled_all s n room long upto = record {
    outputs = room.outputs;
    wires = room.wires;
    assigns = All-from_at (Holds m s) m.assigns (λ k a at_k.
        let place = ordered.all k (slice_get_within m.assigns k a at_k) in
        upto place.0 k a (omega (arith, slice_get_within order place.0 k place.1, long)) place.1 at_k);
  }

  -- a snapshot in which the assigns at the first places hold
  record PartlySettled (c : Contents) (given : List ℕ) (p : ℕ) : Type 0 where
    partly : Snapshot
    room : HasRoom m partly
    inputs : partly.inputs ≡ given
    contents : partly.contents ≡ c
    upto : SettledUpTo m order p partly

  partly_settled : (c : Contents) (given : List ℕ) (p : ℕ) → p ≤ length order → PartlySettled c given p
  partly_settled c given zero le =
      let empty : Snapshot = record { inputs = given; outputs = replicate (length m.outputs) 0; wires = replicate (length m.wires) 0; contents = c } in
      record {
        partly = empty;
        room = record { outputs = length-replicate (length m.outputs) 0; wires = length-replicate (length m.wires) 0 };
        inputs = refl;
        contents = refl;
        upto = settled_none empty;
      }
  partly_settled c given (suc p) le =
      let before = partly_settled c given p (omega arith) in
      let at_p : slice_get order p ≡ Some (get_or order p 0) = slice_get-get_or order p 0 (omega arith) in
      let k = get_or order p 0 in
      elim (slice_get_cases m.assigns k).1 as (λ _. PartlySettled c given (suc p)) [
        | inl found ↦
            let a = found.0 in
            let x = right_value (net_width m) (word_value before.partly) (net_value before.partly) a.right in
            record {
              partly = put_net before.partly a.target x;
              room = room-put_net m before.partly a.target x before.room;
              inputs = before.inputs;
              contents = before.contents;
              upto = rw (← add-one) (settled_more before.partly p k a x before.room at_p found.2 refl before.upto);
            }
        | inr past ↦ absurd (omega (arith, past.0, ordered.within p k at_p))
      ]

  -- each contents and inputs have a snapshot
  pub some_snapshot : (c : Contents) (given : List ℕ) → (s : Snapshot) × SnapshotOf m c given s
  some_snapshot c given =
      let all = partly_settled c given (length order) (omega arith) in (
        all.partly,
        record {
          inputs = all.inputs;
          contents = all.contents;
          settled = settled_all all.partly (length order) all.room (omega arith) all.upto;
        },
      )
