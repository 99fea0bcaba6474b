-- The code of a netlist settles its snapshot.
use Rattle.std.proofs.Common.{◌≡◌, ℕ, suc, ◌+◌, ◌^◌, ◌<◌, List, [], ◌∷◌, length, refl, ap, sym, subst, ◌∙◌, inl, inr, arith, Some}
use Rattle.std.specs.Prelude.{Contains, slice_get, slice_index, slice_set}
use Rattle.std.proofs.lemmas.List.Elements.{All-contains}
use Rattle.std.proofs.Math.Pow.{pow_mono}
use Rattle.wiring.specs.declared.netlist.Net.{Net}
use Rattle.wiring.specs.declared.netlist.Assign.{Assign}
use Rattle.wiring.specs.Rights.{nets_of, right_value}
use Rattle.wiring.specs.Netlist.{Netlist, net_width, word_width, IsDeclared}
use Rattle.wiring.specs.Snapshot.{Snapshot, net_value, word_value}
use Rattle.wiring.specs.Order.{IsEvaluationOrder}
use Rattle.wiring.specs.Rules.{KeepsRules, AssignIsSound}
use Rattle.wiring.proofs.Lists.{All-at}
use Rattle.wiring.proofs.Fits.{right_lt}
use Rattle.wiring.proofs.Nets.{net_cases, width_within, driven_declared}
use Rattle.wiring.proofs.Settle.{put_net, put_net_same, put_net_other, HasRoom, room-put_net, SettledUpTo, settled_more}
use Rattle.cycle_sim.specs.declared.settle.Instruction.{Instruction}
use Rattle.cycle_sim.specs.Slots.{slot, all_values, all_widths}
use Rattle.cycle_sim.specs.Ready.{HasShape, IsReady}
use Rattle.cycle_sim.specs.Code.{instruction, instruction_value, run_code, IsSafe, CodeIsSafe, IsCode}
use Rattle.cycle_sim.proofs.Flat.{flat_at, flat_width_at, flat_put, slot_within}
use Rattle.cycle_sim.proofs.Renamed.{right_renamed, agree_renamed, narrow_renamed, constants_renamed, divisor_renamed}

module _ (m : Netlist) (rules : KeepsRules m) where
  module _ (s : Snapshot) (ready : IsReady m s) (k : ℕ) (a : Assign) (at : slice_get m.assigns k ≡ Some a) where
    sound : AssignIsSound m a
    sound = All-at (AssignIsSound m) m.assigns k a rules.assigns at

    same_names : (n : Net) → Contains (nets_of a.right) n → (slice_index (all_values s) (slot m n) ≡ net_value s n) × (slice_index (all_widths m) (slot m n) ≡ net_width m n)
    same_names n c =
        let declared = All-contains (IsDeclared m) (nets_of a.right) n sound.right.nets c in
        (flat_at m s n ready.shape declared, flat_width_at m n declared)

    -- the instruction returns the value of the assign
    pub instruction_is : instruction_value (all_widths m) s.contents.arrays (all_values s) (instruction m a) ≡ right_value (net_width m) (word_value s) (net_value s) a.right
    instruction_is = right_renamed (slot m) (net_value s) (net_width m) (λ x. slice_index (all_values s) x) (λ x. slice_index (all_widths m) x) (word_value s) a.right same_names

    value_fits : right_value (net_width m) (word_value s) (net_value s) a.right < 2 ^ net_width m a.target
    value_fits =
        let lt = right_lt (net_width m) (word_width m) (word_value s) (net_value s) ready.words a.right
        (λ n c. ready.nets n (All-contains (IsDeclared m) (nets_of a.right) n sound.right.nets c)) sound.right.constants sound.right.widths in
        subst (λ (w : ℕ). right_value (net_width m) (word_value s) (net_value s) a.right < 2 ^ w) sound.width lt

    pub is_safe : IsSafe (all_widths m) s.contents.arrays (all_values s) (instruction m a)
    is_safe =
        let wide = (width_within m a.target rules (driven_declared m a.target sound.target)).1 in
        record {
          target = slot_within m s a.target ready.shape sound.target;
          agree = agree_renamed (slot m) (net_value s) (net_width m) (λ x. slice_index (all_values s) x) (λ x. slice_index (all_widths m) x) (word_width m) (λ (_ : ℕ). 0) a.right same_names sound.right.widths;
          divisor = divisor_renamed (slot m) a.right sound.right.divisor;
          narrow = narrow_renamed (slot m) (net_value s) (net_width m) (λ x. slice_index (all_values s) x) (λ x. slice_index (all_widths m) x) a.right same_names
              (λ n c. (width_within m n rules (All-contains (IsDeclared m) (nets_of a.right) n sound.right.nets c)).1) sound.right.constants;
          constants = rw (constants_renamed (slot m) a.right) sound.right.constants;
          fits = rw instruction_is (omega (arith, value_fits, pow_mono wide));
        }

    -- the snapshot after it
    abbrev pub after : Snapshot
    after = put_net s a.target (right_value (net_width m) (word_value s) (net_value s) a.right)

    room : HasRoom m s
    room = record { outputs = ready.shape.outputs; wires = ready.shape.wires }

    after_nets : (n : Net) → IsDeclared m n → net_value after n < 2 ^ net_width m n
    after_nets n declared =
        elim (net_cases n a.target) as (λ _. net_value after n < 2 ^ net_width m n) [
          | inl e ↦
              let here : net_value after a.target < 2 ^ net_width m a.target = rw (put_net_same m s a.target (right_value (net_width m) (word_value s) (net_value s) a.right) room sound.target) value_fits in
              subst (λ (x : Net). net_value after x < 2 ^ net_width m x) (sym e) here
          | inr ne ↦ rw (put_net_other s a.target n (right_value (net_width m) (word_value s) (net_value s) a.right) ne) (ready.nets n declared)
        ]

    after_shape : HasShape m after
    after_shape =
        let more = room-put_net m s a.target (right_value (net_width m) (word_value s) (net_value s) a.right) room in
        record { inputs = ready.shape.inputs; regs = ready.shape.regs; wires = more.wires; outputs = more.outputs }

    pub after_ready : IsReady m after
    after_ready = record { shape = after_shape; nets = after_nets; words = ready.words }

    pub after_flat : all_values after ≡ slice_set (all_values s) (slot m a.target) (instruction_value (all_widths m) s.contents.arrays (all_values s) (instruction m a))
    after_flat = rw instruction_is (sym (flat_put m s a.target (right_value (net_width m) (word_value s) (net_value s) a.right) ready.shape sound.target))

  module _ (order : List ℕ) (ordered : IsEvaluationOrder m.assigns order) where
    -- running the code from here settles the places that it is for
    pub record Settles (ks : List ℕ) (code : List Instruction) (p : ℕ) (s : Snapshot) : Type 0 where
      pub safe : CodeIsSafe (all_widths m) s.contents.arrays code (all_values s)
      pub settled : Snapshot
      pub run : run_code (all_widths m) s.contents.arrays code (all_values s) ≡ all_values settled
      pub ready : IsReady m settled
      pub inputs : settled.inputs ≡ s.inputs
      pub contents : settled.contents ≡ s.contents
      pub upto : SettledUpTo m order (p + length ks) settled

    pub code_settles : (ks : List ℕ) (code : List Instruction) (p : ℕ) (s : Snapshot) → IsReady m s → IsCode m ks code →
        ((i : ℕ) → slice_get ks i ≡ slice_get order (p + i)) → SettledUpTo m order p s → Settles ks code p s
    code_settles [] [] p s ready code at upto = record {
      safe = tt;
      settled = s;
      run = refl;
      ready = ready;
      inputs = refl;
      contents = refl;
      upto = subst (λ (q : ℕ). SettledUpTo m order q s) (let e : p ≡ p + 0 = omega arith in e) upto;
    }
    code_settles [] (i ∷ code) p s ready h at upto = absurd h
    code_settles (k ∷ ks) [] p s ready h at upto = absurd h
    code_settles (k ∷ ks) (i ∷ code) p s ready h at upto =
        let a = h.0.0 in
        let at_k : slice_get m.assigns k ≡ Some a = h.0.1 in
        let at_p : slice_get order p ≡ Some k = subst (λ (q : ℕ). slice_get order q ≡ Some k) (let e : p + 0 ≡ p = omega arith in e) (sym (at 0)) in
        let s' = after s ready k a at_k in
        let more : SettledUpTo m order (p + 1) s' = settled_more m rules order ordered s p k a (right_value (net_width m) (word_value s) (net_value s) a.right) (room s ready k a at_k) at_p at_k refl upto in
        let rest = code_settles ks code (p + 1) s' (after_ready s ready k a at_k) h.1
        (λ j. at (suc j) ∙ ap (λ (q : ℕ). slice_get order q) (let e : p + suc j ≡ p + 1 + j = omega arith in e)) more in
        let flat_is = after_flat s ready k a at_k in
        let whole : Settles (k ∷ ks) (instruction m a ∷ code) p s = record {
          safe = (is_safe s ready k a at_k, subst (λ (vs : List ℕ). CodeIsSafe (all_widths m) s.contents.arrays code vs) flat_is rest.safe);
          settled = rest.settled;
          run = subst (λ (vs : List ℕ). run_code (all_widths m) s.contents.arrays code vs ≡ all_values rest.settled) flat_is rest.run;
          ready = rest.ready;
          inputs = rest.inputs;
          contents = rest.contents;
          upto = subst (λ (q : ℕ). SettledUpTo m order q rest.settled) (let e : p + 1 + length ks ≡ p + suc (length ks) = omega arith in e) rest.upto;
        } in
        subst (λ (x : Instruction). Settles (k ∷ ks) (x ∷ code) p s) (sym h.0.2) whole
