-- The parts together are the code of a module.
use Rattle.std.proofs.Common.{◌≡◌, ℕ, ◌+◌, ◌*◌, ◌<◌, ◌≤◌, List, [], ◌∷◌, ◌++◌, length, refl, ap, sym, subst, ◌∙◌, arith, Some, lit<}
use Rattle.std.specs.Prelude.{All, None, Contains, slice_get, slice_index}
use Rattle.std.proofs.lemmas.List.Elements.{All-contains, All-nil, All-cons, All-append, Contains-append_left, Contains-append_right}
use Rattle.std.proofs.lemmas.Option.{slice_get_within}
use Rattle.wiring.specs.Sizes.{IsConstant}
use Rattle.wiring.specs.declared.right.Atom.{Atom}
use Rattle.wiring.specs.declared.right.Atom.TheVariants as atom
use Rattle.wiring.specs.declared.right.Right.{Right}
use Rattle.wiring.specs.declared.right.Right.TheVariants as right
use Rattle.wiring.specs.declared.netlist.Net.{Net}
use Rattle.wiring.specs.declared.netlist.Net.TheVariants.{Input, Output, Wire, Reg}
use Rattle.wiring.specs.declared.netlist.Assign.{Assign}
use Rattle.wiring.specs.declared.netlist.Update.TheVariants.{Set, Put}
use Rattle.wiring.specs.Rights.{array_of, nets_of, atom_nets, atom_width, operator_width, right_width}
use Rattle.wiring.specs.Netlist.{Netlist, net_width, word_width, IsDeclared, IsDriven}
use Rattle.wiring.specs.Rules.{KeepsRules, AssignIsSound}
use Rattle.wiring.proofs.Lists.{All-at, All-from_at}
use Rattle.wiring.proofs.Nets.{driven_declared, width_within}
use Rattle.cycle_sim.specs.declared.build.Layout.{Layout}
use Rattle.cycle_sim.specs.Simulated.{IsLayout}
use Rattle.cycle_sim.specs.Slots.{slot, rename, rename_atom, all_widths}
use Rattle.cycle_sim.proofs.Flat.{flat_width_at, length-all_widths}
use Rattle.cycle_sim.proofs.Renamed.{agree_renamed, constants_renamed}
use Rattle.batch_rows.specs.declared.code.Instruction.{Instruction}
use Rattle.batch_rows.specs.Code.{IsSound, IsOrdered}
use Rattle.batch_rows.specs.declared.module_code.BatchCode.{BatchCode}
use Rattle.batch_code.specs.Code.{IsBatchCode, IsWithin, ReadIsWithin, PutIsWithin, IsPlain, instruction}
use Rattle.batch_code.specs.Parts.{HasInstructions, HasReads, AreNexts, ArePuts}
use Rattle.batch_code.proofs.Left.{declared_within}

-- ---- right sides under other names

module _ {N M : Type 0} (f : N → M) where
  pub plain_renamed : {A : Type 0} (r : Right N A) → array_of (rename f r) ≡ array_of r
  plain_renamed (right.Copy a) = refl
  plain_renamed (right.Not a) = refl
  plain_renamed (right.Binary o a b) = refl
  plain_renamed (right.Choose c a b) = refl
  plain_renamed (right.Join a b) = refl
  plain_renamed (right.Repeat n a) = refl
  plain_renamed (right.Bit v k) = refl
  plain_renamed (right.Slice v h l) = refl
  plain_renamed (right.Word x i) = refl

  module _ (P : M → Type 0) where
    abbrev Each : List N → Type 0
    Each ns = (n : N) → Contains ns n → P (f n)

    front : (ns ms : List N) → Each (ns ++ ms) → Each ns
    front ns ms h n c = h n (Contains-append_left ns ms n c)

    back : (ns ms : List N) → Each (ns ++ ms) → Each ms
    back ns ms h n c = h n (Contains-append_right ns ms n c)

    one : (n : N) → Each (n ∷ []) → All P (f n ∷ [])
    one n h = All-cons P (f n) [] (h n (0, lit< tt, refl)) (All-nil P)

    atom_all : (a : Atom N) → Each (atom_nets a) → All P (atom_nets (rename_atom f a))
    atom_all (atom.Net n) h = one n h
    atom_all (atom.Constant c) h = All-nil P

    two_all : (a b : Atom N) → Each (atom_nets a ++ atom_nets b) → All P (atom_nets (rename_atom f a) ++ atom_nets (rename_atom f b))
    two_all a b h = All-append P (atom_nets (rename_atom f a)) (atom_nets (rename_atom f b)) (atom_all a (front (atom_nets a) (atom_nets b) h)) (atom_all b (back (atom_nets a) (atom_nets b) h))

    pub nets_all : {A : Type 0} (r : Right N A) → Each (nets_of r) → All P (nets_of (rename f r))
    nets_all (right.Copy a) h = atom_all a h
    nets_all (right.Not a) h = atom_all a h
    nets_all (right.Binary o a b) h = two_all a b h
    nets_all (right.Choose c a b) h =
        All-append P (atom_nets (rename_atom f c) ++ atom_nets (rename_atom f a)) (atom_nets (rename_atom f b)) (two_all c a (front (atom_nets c ++ atom_nets a) (atom_nets b) h)) (atom_all b (back (atom_nets c ++ atom_nets a) (atom_nets b) h))
    nets_all (right.Join a b) h = two_all a b h
    nets_all (right.Repeat n a) h = atom_all a h
    nets_all (right.Bit v k) h = one v h
    nets_all (right.Slice v m l) h = one v h
    nets_all (right.Word x i) h = atom_all i h

  module _ (w : N → ℕ) (w' : M → ℕ) where
    abbrev AsWide : List N → Type 0
    AsWide ns = (n : N) → Contains ns n → w' (f n) ≡ w n

    wide_atom : (a : Atom N) → AsWide (atom_nets a) → atom_width w' (rename_atom f a) ≡ atom_width w a
    wide_atom (atom.Net n) h = h n (0, lit< tt, refl)
    wide_atom (atom.Constant c) h = refl

    wide_front : (a : Atom N) (ms : List N) → AsWide (atom_nets a ++ ms) → atom_width w' (rename_atom f a) ≡ atom_width w a
    wide_front a ms h = wide_atom a (λ n c. h n (Contains-append_left (atom_nets a) ms n c))

    wide_back : (a : Atom N) (ns : List N) → AsWide (ns ++ atom_nets a) → atom_width w' (rename_atom f a) ≡ atom_width w a
    wide_back a ns h = wide_atom a (λ n c. h n (Contains-append_right ns (atom_nets a) n c))

    pub right_wide : {A : Type 0} (ww ww' : A → ℕ) (r : Right N A) → array_of r ≡ None → AsWide (nets_of r) → right_width w' ww' (rename f r) ≡ right_width w ww r
    right_wide ww ww' (right.Copy a) e h = wide_atom a h
    right_wide ww ww' (right.Not a) e h = wide_atom a h
    right_wide ww ww' (right.Binary o a b) e h = ap (λ n. operator_width o n) (wide_front a (atom_nets b) h)
    right_wide ww ww' (right.Choose c a b) e h = wide_back a (atom_nets c) (λ n i. h n (Contains-append_left (atom_nets c ++ atom_nets a) (atom_nets b) n i))
    right_wide ww ww' (right.Join a b) e h = ap (λ n. n + atom_width w' (rename_atom f b)) (wide_front a (atom_nets b) h) ∙ ap (λ n. atom_width w a + n) (wide_back b (atom_nets a) h)
    right_wide ww ww' (right.Repeat n a) e h = ap (λ k. n * k) (wide_atom a h)
    right_wide ww ww' (right.Bit v k) e h = refl
    right_wide ww ww' (right.Slice v m l) e h = refl
    right_wide ww ww' (right.Word x i) e h = absurd (cc e)

-- ---- instructions

driven_place : (m : Netlist) (n : Net) → IsDriven m n → (length m.inputs ≤ slot m n) × (slot m n < length m.inputs + length m.outputs + length m.wires)
driven_place m (Input i) d = absurd d
driven_place m (Output i) d = (omega arith, omega (arith, d))
driven_place m (Wire i) d = (omega arith, omega (arith, d))
driven_place m (Reg i) d = absurd d

module _ (m : Netlist) (rules : KeepsRules m) where
  module _ (k : ℕ) (a : Assign) (at : slice_get m.assigns k ≡ Some a) where
    pub assign_sound : AssignIsSound m a
    assign_sound = All-at (AssignIsSound m) m.assigns k a rules.assigns at

    declared : (n : Net) → Contains (nets_of a.right) n → IsDeclared m n
    declared n c = All-contains (IsDeclared m) (nets_of a.right) n assign_sound.right.nets c

    target_declared : IsDeclared m a.target
    target_declared = driven_declared m a.target assign_sound.target

    target_wide : slice_index (all_widths m) (slot m a.target) ≡ net_width m a.target
    target_wide = flat_width_at m a.target target_declared

    pub instruction_sound : array_of a.right ≡ None → IsSound (all_widths m) (instruction m a)
    instruction_sound plain = record {
      target = declared_within m a.target target_declared;
      slots = λ n c. All-contains (λ (s : ℕ). s < length (all_widths m)) (nets_of (rename (slot m) a.right)) n (nets_all (slot m) (λ (s : ℕ). s < length (all_widths m)) a.right (λ d inside. declared_within m d (declared d inside))) c;
      constants = subst (λ cs. All IsConstant cs) (sym (constants_renamed (slot m) a.right)) assign_sound.right.constants;
      agree = agree_renamed (slot m) (λ (_ : Net). 0) (net_width m) (λ (_ : ℕ). 0) (λ n. slice_index (all_widths m) n) (word_width m) (λ (_ : ℕ). 0) a.right (λ n c. (refl, flat_width_at m n (declared n c))) assign_sound.right.widths;
      plain = plain_renamed (slot m) a.right ∙ plain;
      narrow = let wide = (width_within m a.target rules target_declared).1 in omega (arith, wide, target_wide);
      width = right_wide (slot m) (net_width m) (λ n. slice_index (all_widths m) n) (word_width m) (λ (_ : ℕ). 0) a.right plain (λ n c. flat_width_at m n (declared n c)) ∙ assign_sound.width ∙ sym target_wide;
    }

  plain_sound : (i : Instruction) → IsPlain m i → IsSound (all_widths m) i
  plain_sound i of = subst (λ (j : Instruction). IsSound (all_widths m) j) (sym of.4) (instruction_sound of.0 of.1 of.2 of.3)

  plain_target : (i : Instruction) → IsPlain m i → (length m.inputs ≤ i.target) × (i.target < length m.inputs + length m.outputs + length m.wires)
  plain_target i of =
      subst (λ (s : ℕ). (length m.inputs ≤ s) × (s < length m.inputs + length m.outputs + length m.wires)) (sym (ap (λ (j : Instruction). j.target) of.4)) (driven_place m of.1.target (assign_sound of.0 of.1 of.2).target)

  module _ (c : BatchCode) (l : Layout) (layout : IsLayout m l) (widths : c.widths.items ≡ all_widths m) (first_output : c.first_output ≡ l.first_output) (first_reg : c.first_reg ≡ l.first_reg)
      (instructions : HasInstructions m c.instructions.items) (ordered : IsOrdered c.instructions.items) (reads : HasReads m c.reads.items) (puts : ArePuts m (length m.updates) c.puts.items) (nexts : AreNexts m (length m.updates) c.nexts.items) where
    target_at : (k : ℕ) (i : Instruction) → slice_get c.instructions.items k ≡ Some i → (length m.inputs ≤ i.target) × (i.target < length m.inputs + length m.outputs + length m.wires)
    target_at k i at = plain_target i (All-at (IsPlain m) c.instructions.items k i instructions.plain at)

    count_is : length c.widths.items ≡ length (all_widths m)
    count_is = ap (λ (ws : List ℕ). length ws) widths

    pub batch_code_is : IsBatchCode m c
    batch_code_is = record {
      slots = record {
        widths = widths;
        first_output = first_output ∙ layout.first_output;
        first_reg = first_reg ∙ layout.first_reg;
        all = omega (arith, count_is, length-all_widths m, first_reg, layout.first_reg);
      };
      code = record {
        assigns = instructions.all;
        reads = reads.each;
        puts = λ k x i a at. puts.each k x i a (slice_get_within m.updates k (Put x i a) at) at;
        nexts = λ k r a at. nexts.each k r a (slice_get_within m.updates k (Set r a) at) at;
        plain = instructions.plain;
        some_read = reads.some;
      };
      runnable = record {
        sound = subst (λ (ws : List ℕ). All (IsSound ws) c.instructions.items) (sym widths) (All-from_at (IsSound (all_widths m)) c.instructions.items (λ k i at. plain_sound i (All-at (IsPlain m) c.instructions.items k i instructions.plain at)));
        ordered = ordered;
        inputs = λ n below k i at e. let target = target_at k i at in omega (arith, below, e, target.0, first_output, layout.first_output);
        regs = λ n above k i at e. let target = target_at k i at in omega (arith, above, e, target.1, first_reg, layout.first_reg);
        read_count = reads.places;
        put_count = puts.places;
        next_count = nexts.places;
        reads = subst (λ (n : ℕ). All (ReadIsWithin n) c.reads.items) (sym count_is) reads.within;
        puts = subst (λ (n : ℕ). All (PutIsWithin n) c.puts.items) (sym count_is) puts.within;
        nexts = subst (λ (n : ℕ). All (IsWithin n) c.nexts.items) (sym count_is) nexts.within;
      };
    }
