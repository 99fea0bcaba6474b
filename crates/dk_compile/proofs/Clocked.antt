-- Packing adds no operator to a clock path.
use Rattle.std.proofs.Common.{◌≡◌, ℕ, ◌+◌, ◌<◌, ◌≤◌, Bool, List, [], length, refl, sym, subst, arith}
use Rattle.std.specs.Prelude.{All, Contains}
use Rattle.std.proofs.lemmas.List.Elements.{All-nil, All-cons, All-head, All-append, All-contains}
use Rattle.wiring.specs.declared.right.Atom.{Atom}
use Rattle.wiring.specs.declared.right.Atom.TheVariants as atom
use Rattle.wiring.specs.declared.right.Right.TheVariants.{Join}
use Rattle.wiring.specs.declared.netlist.Net.{Net}
use Rattle.wiring.specs.declared.netlist.Net.TheVariants.{Output, Reg}
use Rattle.wiring.specs.declared.netlist.Holder.TheVariants.{OfNet}
use Rattle.wiring.specs.declared.netlist.Update.{Update}
use Rattle.wiring.specs.declared.netlist.Update.TheVariants.{Set, Put}
use Rattle.wiring.specs.Netlist.{Netlist, valid_net, update_target}
use Rattle.wiring.specs.BufferBits.{atom_reads, update_reads}
use Rattle.wiring.specs.Rules.{KeepsRules, UpdateIsSound}
use Rattle.wiring.proofs.Lists.{All-left, All-right, Contains-at}
use Rattle.net_build.specs.Depth.{IsWithin, is_start, control_levels, SetsWithin, AreClockPathsWithin}
use Rattle.net_build.proofs.Depth.{within_wire, within_deeper}
use Rattle.pointwise_ir.specs.Programs.{Program}
use Rattle.buffer_plan.specs.Plans.{Plan}
use Rattle.circuit.specs.Forms.{Form}
use Rattle.line_buffer.specs.Depths.{line_operators}
use Rattle.circuit.specs.Ends.{valid_levels}
use Rattle.circuit.specs.Paths.{BoundsLevels, HasClockPaths}
use Rattle.circuit.proofs.Netted.{only_update}
use Rattle.array_packing.specs.declared.slots.Slot.{Slot}
use Rattle.array_packing.specs.Packing.{IsPacked, IsUpdated, IsPutOf, IsJoinedOf, one, more, PutsJoined}
use Rattle.dk_compile.proofs.Deep.{packed_within}

module _ (new old : Netlist) (slots : List Slot) (is : IsPacked new old slots) (rules : KeepsRules new) (old_rules : KeepsRules old) where
  net_within : (n : ℕ) (x : Net) → IsWithin old is_start n (OfNet x) → IsWithin new is_start n (OfNet x)
  net_within n x h = packed_within new old slots is is_start is_start (λ y s. s) (λ y k at s. refl) n x h

  atom_within : (n : ℕ) (a : Atom Net) → All (IsWithin old is_start n) (atom_reads a) → All (IsWithin new is_start n) (atom_reads a)
  atom_within n (atom.Net x) h = All-cons (IsWithin new is_start n) (OfNet x) [] (net_within n x (All-head (IsWithin old is_start n) (OfNet x) [] h)) (All-nil (IsWithin new is_start n))
  atom_within n (atom.Constant c) h = All-nil (IsWithin new is_start n)

  -- a register takes in the module what it took
  set_within : (n r : ℕ) (a : Atom Net) (u : Update) → ((j : ℕ) (b : Atom Net) → Contains old.updates (Set j b) → All (IsWithin old is_start n) (atom_reads b)) → Contains new.updates (Set r a) → Contains old.updates u → update_target u ≡ OfNet (Reg r) → All (IsWithin new is_start n) (atom_reads a)
  set_within n r a (Put x i v) short at has e = absurd (let f : ⊥ = cc in f)
  set_within n r a (Set j b) short at has e =
      let there : Contains new.updates (Set j b) = All-contains (IsUpdated new slots) old.updates (Set j b) is.updates has in
      let same : Set r a ≡ Set j b = only_update new rules.updated (Set r a) (Set j b) at there (sym e) in
      subst (λ (u : Update). All (IsWithin new is_start n) (update_reads u)) (sym same) (atom_within n b (short j b has))

  sets_within : (n r : ℕ) (a : Atom Net) → ((j : ℕ) (b : Atom Net) → Contains old.updates (Set j b) → All (IsWithin old is_start n) (atom_reads b)) → Contains new.updates (Set r a) → All (IsWithin new is_start n) (atom_reads a)
  sets_within n r a short at =
      let low : r < length new.regs = (All-contains (UpdateIsSound new) new.updates (Set r a) rules.updates at).0 in
      let had = old_rules.updated.some (OfNet (Reg r)) (subst (λ (rs : List ℕ). r < length rs) is.regs low) in
      set_within n r a had.1 short at (Contains-at old.updates had.0 had.1 had.2) had.3

  -- a put is at the index of one of its parts
  index_within : (n g : ℕ) (i v : Atom Net) → ((x : ℕ) (a : Atom Net) → Contains old.updates (Put x i a) → All (IsWithin old is_start n) (atom_reads i)) → Contains new.updates (Put g i v) → All (IsWithin new is_start n) (atom_reads i)
  index_within n g i v short at = (let part = All-contains (IsPutOf old slots) new.updates (Put g i v) is.puts at in atom_within n i (short part.0 part.2 part.5))

  module _ (n : ℕ) (paths : AreClockPathsWithin old n) where
    -- what is put, part by part
    put_part : (x : ℕ) (i a : Atom Net) → Contains old.updates (Put x i a) → All (IsWithin new is_start n) (atom_reads a)
    put_part x i a at = atom_within n a (All-right (IsWithin old is_start n) (atom_reads i) (atom_reads a) (paths.updates (Put x i a) at))

    joined_within : (i v : Atom Net) → IsJoinedOf new old i v → All (IsWithin new is_start n) (atom_reads v)
    joined_within i v (one {a} (x, at)) = put_part x i a at
    joined_within i v (more {whole} a rest (m, whole_is, join) (x, at) below) =
        subst (λ (w : Atom Net). All (IsWithin new is_start n) (atom_reads w)) (sym whole_is)
        (All-cons (IsWithin new is_start n) (OfNet m) []
        (within_deeper (let g : 0 + n ≤ n = omega arith in g) (within_wire new m (Join a rest) is_start n join (All-append (IsWithin new is_start n) (atom_reads a) (atom_reads rest) (put_part x i a at) (joined_within i rest below)))) (All-nil (IsWithin new is_start n)))

    update_within : (u : Update) → Contains new.updates u → All (IsWithin new is_start n) (update_reads u)
    update_within (Set r a) at = sets_within n r a (λ j b has. paths.updates (Set j b) has) at
    update_within (Put g i v) at =
        All-append (IsWithin new is_start n) (atom_reads i) (atom_reads v) (index_within n g i v (λ x a has. All-left (IsWithin old is_start n) (atom_reads i) (atom_reads a) (paths.updates (Put x i a) has)) at)
        (joined_within i v (All-contains (PutsJoined new old) new.updates (Put g i v) is.joined at))

    packed_paths : AreClockPathsWithin new n
    packed_paths = record { updates = update_within; outputs = λ k lt. net_within n (Output k) (paths.outputs k (subst (λ (os : List ℕ). k < length os) is.outputs lt)) }

  -- the same numbers bound the circuit and the module
  pub paths_alike : (p : Program) (plan : Plan) (form : Form) → HasClockPaths old p plan form → HasClockPaths new p plan form
  paths_alike p plan form paths = record {
    registers = registers;
    indices = λ g i v at. index_within line_operators g i v (λ x a has. paths.indices x i a has) at;
    valids = λ k low. net_within valid_levels (valid_net k) (paths.valids k low);
    all = λ aged n bound. packed_paths n (paths.all aged n (subst (λ (e : Bool). BoundsLevels p plan form e n) is.enable bound));
  }
    where
      registers : (u : Update) → Contains new.updates u → SetsWithin new u
      registers (Set r a) at = subst (λ (e : Bool). All (IsWithin new is_start (control_levels e)) (atom_reads a)) (sym is.enable) (sets_within (control_levels old.enable) r a (λ j b has. paths.registers (Set j b) has) at)
      registers (Put g i v) at = tt
