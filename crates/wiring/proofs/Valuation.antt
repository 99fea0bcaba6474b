-- A netlist with an evaluation order has one snapshot for each contents and inputs.
use Rattle.std.proofs.Common.{◌≡◌, ℕ, zero, suc, ◌<◌, List, refl, subst, sym, ◌∙◌, arith, Some}
use Rattle.std.specs.Prelude.{Contains, slice_get}
use Rattle.std.proofs.lemmas.List.{ext_get_or}
use Rattle.std.proofs.lemmas.List.Elements.{All-contains}
use Rattle.std.proofs.lemmas.Option.{slice_get_within}
use Rattle.wiring.specs.declared.netlist.Net.{Net}
use Rattle.wiring.specs.declared.netlist.Net.TheVariants.{Input, Output, Wire, Reg}
use Rattle.wiring.specs.declared.netlist.Assign.{Assign}
use Rattle.wiring.specs.Rights.{nets_of, right_value}
use Rattle.wiring.specs.Netlist.{Netlist, net_width, IsDeclared, IsDriven}
use Rattle.wiring.specs.Snapshot.{Contents, Snapshot, net_value, word_value, IsSettled, SnapshotOf}
use Rattle.wiring.specs.Order.{Feeds, IsEvaluationOrder}
use Rattle.wiring.specs.Rules.{KeepsRules, AssignIsSound}
use Rattle.wiring.proofs.Lists.{All-at}
use Rattle.wiring.proofs.Local.{right_local}

-- the snapshot with these values
abbrev pub shot : List ℕ → Contents → List ℕ → List ℕ → Snapshot
shot given c outs wires = record { inputs = given; outputs = outs; wires = wires; contents = c }

module _ (m : Netlist) (rules : KeepsRules m) (order : List ℕ) (ordered : IsEvaluationOrder m.assigns order) where
  -- a net that is read is declared
  pub read_declared : (k : ℕ) (a : Assign) (n : Net) → slice_get m.assigns k ≡ Some a → Contains (nets_of a.right) n → IsDeclared m n
  read_declared k a n at read = All-contains (IsDeclared m) (nets_of a.right) n (All-at (AssignIsSound m) m.assigns k a rules.assigns at).right.nets read

  -- two snapshots of one clock agree on what the assign at each place of the order drives
  module _ (c : Contents) (given outs outs' wires wires' : List ℕ)
      (s : IsSettled m (shot given c outs wires)) (t : IsSettled m (shot given c outs' wires')) where
    abbrev SameAt : Net → Type 0
    SameAt n = net_value (shot given c outs wires) n ≡ net_value (shot given c outs' wires') n

    abbrev AgreeBelow : ℕ → Type 0
    AgreeBelow b = (p k : ℕ) (a : Assign) → p < b → slice_get order p ≡ Some k → slice_get m.assigns k ≡ Some a → SameAt a.target

    -- a net that an assign drives, read by the assign at place p
    driven_read : (p k : ℕ) (a : Assign) (n : Net) → AgreeBelow p → slice_get order p ≡ Some k → slice_get m.assigns k ≡ Some a → Contains (nets_of a.right) n → IsDriven m n → SameAt n
    driven_read p k a n below at_p at_k read driven =
        let d = rules.driven.some n driven in
        let feeds : Feeds m.assigns d.0 k = record { from = d.1; to = a; from_at = d.2; to_at = at_k; read = subst (λ (x : Net). Contains (nets_of a.right) x) (sym d.3) read } in
        let before = ordered.behind p d.0 k at_p feeds in
        subst (λ (x : Net). SameAt x) d.3 (below before.0 d.0 d.1 before.1 before.2 d.2)

    same_read : (p k : ℕ) (a : Assign) (n : Net) → AgreeBelow p → slice_get order p ≡ Some k → slice_get m.assigns k ≡ Some a → Contains (nets_of a.right) n → SameAt n
    same_read p k a (Input i) below at_p at_k read = refl
    same_read p k a (Reg i) below at_p at_k read = refl
    same_read p k a (Output i) below at_p at_k read = driven_read p k a (Output i) below at_p at_k read (read_declared k a (Output i) at_k read)
    same_read p k a (Wire i) below at_p at_k read = driven_read p k a (Wire i) below at_p at_k read (read_declared k a (Wire i) at_k read)

    same_at : (p k : ℕ) (a : Assign) → AgreeBelow p → slice_get order p ≡ Some k → slice_get m.assigns k ≡ Some a → SameAt a.target
    same_at p k a below at_p at_k =
        let holds_s = All-at (λ (a : Assign). net_value (shot given c outs wires) a.target ≡ right_value (net_width m) (word_value (shot given c outs wires)) (net_value (shot given c outs wires)) a.right) m.assigns k a s.assigns at_k in
        let holds_t = All-at (λ (a : Assign). net_value (shot given c outs' wires') a.target ≡ right_value (net_width m) (word_value (shot given c outs' wires')) (net_value (shot given c outs' wires')) a.right) m.assigns k a t.assigns at_k in
        let local = right_local (net_value (shot given c outs wires)) (net_value (shot given c outs' wires')) (net_width m) (word_value (shot given c outs wires)) a.right (λ n read. same_read p k a n below at_p at_k read) in
        holds_s ∙ local ∙ sym holds_t

    agree_below : (b : ℕ) → AgreeBelow b
    agree_below zero p k a lt at_p at_k = absurd (omega (arith, lt))
    agree_below (suc b) p k a lt at_p at_k = same_at p k a (λ q j x below at_q at_j. agree_below b q j x (omega arith) at_q at_j) at_p at_k

    agree_driven : (n : Net) → IsDriven m n → SameAt n
    agree_driven n driven =
        let d = rules.driven.some n driven in
        let place = ordered.all d.0 (slice_get_within m.assigns d.0 d.1 d.2) in
        subst (λ (x : Net). SameAt x) d.3 (agree_below (suc place.0) place.0 d.0 d.1 (omega arith) place.1 d.2)

    same_outputs : outs ≡ outs'
    same_outputs = ext_get_or 0 outs outs' (s.outputs ∙ sym t.outputs) (λ i l. agree_driven (Output i) (omega (arith, s.outputs)))

    same_wires : wires ≡ wires'
    same_wires = ext_get_or 0 wires wires' (s.wires ∙ sym t.wires) (λ i l. agree_driven (Wire i) (omega (arith, s.wires)))

    same_shot : shot given c outs wires ≡ shot given c outs' wires'
    same_shot = rw (same_outputs, same_wires) refl

  pub one_snapshot : (c : Contents) (given : List ℕ) (s t : Snapshot) → SnapshotOf m c given s → SnapshotOf m c given t → s ≡ t
  one_snapshot c given s t of_s of_t =
      let es : s ≡ shot given c s.outputs s.wires = rw (← of_s.inputs, ← of_s.contents) refl in
      let et : t ≡ shot given c t.outputs t.wires = rw (← of_t.inputs, ← of_t.contents) refl in
      let settled_s : IsSettled m (shot given c s.outputs s.wires) = subst (λ (x : Snapshot). IsSettled m x) es of_s.settled in
      let settled_t : IsSettled m (shot given c t.outputs t.wires) = subst (λ (x : Snapshot). IsSettled m x) et of_t.settled in
      es ∙ same_shot c given s.outputs t.outputs s.wires t.wires settled_s settled_t ∙ sym et
