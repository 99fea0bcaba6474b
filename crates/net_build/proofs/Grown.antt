-- What is sound in a part of a netlist is sound in the whole.
use Rattle.std.proofs.Common.{◌≡◌, ℕ, ◌*◌, ◌<◌, ◌≤◌, List, [], ◌∷◌, ◌++◌, length, get_or, refl, ap, subst, sym, ◌∙◌, inl, inr, arith, lit<, Some, length-append}
use Rattle.std.specs.Prelude.{All, Contains, slice_get, slice_index, unwrap_or}
use Rattle.std.specs.Option.{option_map}
use Rattle.std.proofs.lemmas.List.{get_or_append_left}
use Rattle.std.proofs.lemmas.List.Elements.{All-weaker, All-contains, Contains-append_left, Contains-append_right}
use Rattle.std.proofs.lemmas.Option.{slice_get_cases}
use Rattle.wiring.specs.declared.right.Atom.{Atom}
use Rattle.wiring.specs.declared.right.Atom.TheVariants as atom
use Rattle.wiring.specs.declared.right.Right.{Right}
use Rattle.wiring.specs.declared.right.Right.TheVariants.{Copy, Not, Binary, Choose, Join, Repeat, Bit, Slice, Word}
use Rattle.wiring.specs.declared.netlist.Net.{Net}
use Rattle.wiring.specs.declared.netlist.Net.TheVariants.{Input, Output, Wire, Reg}
use Rattle.wiring.specs.declared.netlist.Shape.{Shape}
use Rattle.wiring.specs.declared.netlist.Assign.{Assign}
use Rattle.wiring.specs.Rights.{nets_of, atom_nets, atom_width, right_width, operator_width}
use Rattle.wiring.specs.Netlist.{Netlist, net_width, word_width, depth, IsDeclared, IsDriven}
use Rattle.wiring.specs.Rules.{RightIsSound, AssignIsSound, AtomIsSound, UpdateIsSound, WidthsAgree, ArrayIsDeclared}
use Rattle.wiring.specs.declared.netlist.Update.{Update}
use Rattle.wiring.specs.declared.netlist.Update.TheVariants.{Set, Put}
use Rattle.wiring.specs.Sizes.{IsWidth}
use Rattle.net_build.specs.Includes.{Begins, Includes}
use Rattle.net_build.specs.Draft.{IsNet, IsOperation}
use Rattle.wiring.proofs.Lists.{slice_get-append}

pub length_begins : {X : Type 0} (xs ys : List X) → Begins xs ys → length xs ≤ length ys
length_begins xs ys b = omega (arith, ap length b.1, length-append xs b.0)

pub contains_begins : {X : Type 0} (xs ys : List X) (x : X) → Begins xs ys → Contains xs x → Contains ys x
contains_begins xs ys x b c = subst (λ l. Contains l x) (sym b.1) (Contains-append_left xs b.0 x c)

index_begins : (xs ys : List ℕ) (i : ℕ) → Begins xs ys → i < length xs → slice_index ys i ≡ slice_index xs i
index_begins xs ys i b l = ap (λ (zs : List ℕ). get_or zs i 0) b.1 ∙ get_or_append_left xs b.0 0 i l

module _ (m b : Netlist) (f : Includes m b) where
  pub declared_more : (n : Net) → IsDeclared b n → IsDeclared m n
  declared_more (Input i) d = omega (arith, d, ap length f.inputs)
  declared_more (Output i) d = omega (arith, d, ap length f.outputs)
  declared_more (Wire i) d = omega (arith, d, length_begins b.wires m.wires f.wires)
  declared_more (Reg i) d = omega (arith, d, length_begins b.regs m.regs f.regs)

  pub width_more : (n : Net) → IsDeclared b n → net_width m n ≡ net_width b n
  width_more (Input i) d = ap (λ (xs : List ℕ). slice_index xs i) f.inputs
  width_more (Output i) d = ap (λ (xs : List ℕ). slice_index xs i) f.outputs
  width_more (Wire i) d = index_begins b.wires m.wires i f.wires d
  width_more (Reg i) d = index_begins b.regs m.regs i f.regs d

  pub array_more : (x : ℕ) → x < length b.arrays → word_width m x ≡ word_width b x
  array_more x l =
      elim (slice_get_cases b.arrays x).1 as (λ _. word_width m x ≡ word_width b x) [
        | inl h ↦
            let there : slice_get m.arrays x ≡ Some h.0 = ap (λ (ss : List Shape). slice_get ss x) f.arrays.1 ∙ slice_get-append b.arrays f.arrays.0 x h.0 h.2 in
            ap (λ o. unwrap_or (option_map (λ (s : Shape). s.width) o) 0) (there ∙ sym h.2)
        | inr h ↦ absurd (omega (arith, h.0, l))
      ]

  pub depth_more : (x : ℕ) → x < length b.arrays → depth m x ≡ depth b x
  depth_more x l =
      elim (slice_get_cases b.arrays x).1 as (λ _. depth m x ≡ depth b x) [
        | inl h ↦
            let there : slice_get m.arrays x ≡ Some h.0 = ap (λ (ss : List Shape). slice_get ss x) f.arrays.1 ∙ slice_get-append b.arrays f.arrays.0 x h.0 h.2 in
            ap (λ o. unwrap_or (option_map (λ (s : Shape). s.depth) o) 0) (there ∙ sym h.2)
        | inr h ↦ absurd (omega (arith, h.0, l))
      ]

  abbrev Known : List Net → Type 0
  Known ns = (n : Net) → Contains ns n → net_width m n ≡ net_width b n

  left : (ns ms : List Net) → Known (ns ++ ms) → Known ns
  left ns ms h n c = h n (Contains-append_left ns ms n c)

  right : (ns ms : List Net) → Known (ns ++ ms) → Known ms
  right ns ms h n c = h n (Contains-append_right ns ms n c)

  one : (n : Net) → Known (n ∷ []) → net_width m n ≡ net_width b n
  one n h = h n (0, lit< tt, refl)

  atom_same : (a : Atom Net) → Known (atom_nets a) → atom_width (net_width m) a ≡ atom_width (net_width b) a
  atom_same (atom.Net n) h = one n h
  atom_same (atom.Constant c) h = refl

  agree_more : (r : Right Net ℕ) → Known (nets_of r) → WidthsAgree (net_width b) (word_width b) r → WidthsAgree (net_width m) (word_width m) r
  agree_more (Copy a) h g = tt
  agree_more (Not a) h g = tt
  agree_more (Binary o a x) h g = rw (atom_same a (left (atom_nets a) (atom_nets x) h), atom_same x (right (atom_nets a) (atom_nets x) h)) g
  agree_more (Choose c a x) h g =
      let front = left (atom_nets c ++ atom_nets a) (atom_nets x) h in
      rw (atom_same c (left (atom_nets c) (atom_nets a) front), atom_same a (right (atom_nets c) (atom_nets a) front), atom_same x (right (atom_nets c ++ atom_nets a) (atom_nets x) h)) g
  agree_more (Join a x) h g = tt
  agree_more (Repeat n a) h g = g
  agree_more (Bit n k) h g = rw (one n h) g
  agree_more (Slice n k l) h g = rw (one n h) g
  agree_more (Word x i) h g = tt

  array_declared : (r : Right Net ℕ) → ArrayIsDeclared b r → ArrayIsDeclared m r
  array_declared (Copy a) g = tt
  array_declared (Not a) g = tt
  array_declared (Binary o a x) g = tt
  array_declared (Choose c a x) g = tt
  array_declared (Join a x) g = tt
  array_declared (Repeat n a) g = tt
  array_declared (Bit n k) g = tt
  array_declared (Slice n k l) g = tt
  array_declared (Word x i) g = omega (arith, g, length_begins b.arrays m.arrays f.arrays)

  known : (r : Right Net ℕ) → All (IsDeclared b) (nets_of r) → Known (nets_of r)
  known r d n c = width_more n (All-contains (IsDeclared b) (nets_of r) n d c)

  pub right_more : (r : Right Net ℕ) → RightIsSound b r → RightIsSound m r
  right_more r s = record {
    nets = All-weaker (IsDeclared b) (IsDeclared m) declared_more (nets_of r) s.nets;
    constants = s.constants;
    array = array_declared r s.array;
    divisor = s.divisor;
    widths = agree_more r (known r s.nets) s.widths;
  }

  width_same : (r : Right Net ℕ) → Known (nets_of r) → ArrayIsDeclared b r → right_width (net_width m) (word_width m) r ≡ right_width (net_width b) (word_width b) r
  width_same (Copy a) h g = atom_same a h
  width_same (Not a) h g = atom_same a h
  width_same (Binary o a x) h g = ap (λ (w : ℕ). operator_width o w) (atom_same a (left (atom_nets a) (atom_nets x) h))
  width_same (Choose c a x) h g = atom_same a (right (atom_nets c) (atom_nets a) (left (atom_nets c ++ atom_nets a) (atom_nets x) h))
  width_same (Join a x) h g = rw (atom_same a (left (atom_nets a) (atom_nets x) h), atom_same x (right (atom_nets a) (atom_nets x) h))
  width_same (Repeat n a) h g = ap (λ (w : ℕ). n * w) (atom_same a h)
  width_same (Bit n k) h g = refl
  width_same (Slice n k l) h g = refl
  width_same (Word x i) h g = array_more x g

  pub right_width_more : (r : Right Net ℕ) → RightIsSound b r → right_width (net_width m) (word_width m) r ≡ right_width (net_width b) (word_width b) r
  right_width_more r s = width_same r (known r s.nets) s.array

  driven_more : (n : Net) → IsDriven b n → IsDriven m n
  driven_more (Input i) d = absurd d
  driven_more (Output i) d = omega (arith, d, ap length f.outputs)
  driven_more (Wire i) d = omega (arith, d, length_begins b.wires m.wires f.wires)
  driven_more (Reg i) d = absurd d

  driven_width : (n : Net) → IsDriven b n → net_width m n ≡ net_width b n
  driven_width (Input i) d = absurd d
  driven_width (Output i) d = width_more (Output i) d
  driven_width (Wire i) d = width_more (Wire i) d
  driven_width (Reg i) d = absurd d

  pub assign_more : (a : Assign) → AssignIsSound b a → AssignIsSound m a
  assign_more a s = record {
    target = driven_more a.target s.target;
    right = right_more a.right s.right;
    width = right_width_more a.right s.right ∙ s.width ∙ sym (driven_width a.target s.target);
  }

  atom_more : (a : Atom Net) → AtomIsSound b a → AtomIsSound m a
  atom_more a s = record { nets = All-weaker (IsDeclared b) (IsDeclared m) declared_more (atom_nets a) s.nets; constants = s.constants }

  atom_width_more : (a : Atom Net) → AtomIsSound b a → atom_width (net_width m) a ≡ atom_width (net_width b) a
  atom_width_more a s = atom_same a (λ n c. width_more n (All-contains (IsDeclared b) (atom_nets a) n s.nets c))

  pub update_more : (u : Update) → UpdateIsSound b u → UpdateIsSound m u
  update_more (Set r a) s =
      (omega (arith, s.0, length_begins b.regs m.regs f.regs), atom_more a s.1, atom_width_more a s.1 ∙ s.2 ∙ sym (width_more (Reg r) s.0))
  update_more (Put x i a) s =
      (omega (arith, s.0, length_begins b.arrays m.arrays f.arrays), atom_more i s.1, atom_more a s.2, atom_width_more a s.2 ∙ s.3 ∙ sym (array_more x s.0))

  -- what may go into a part may go into the whole
  pub net_more : (n : Net) → IsNet b n → IsNet m n
  net_more n h = record { declared = declared_more n h.declared; no_output = h.no_output }

  pub operation_more : (r : Right Net ℕ) → IsOperation b r → IsOperation m r
  operation_more r h = record { sound = right_more r h.sound; readable = h.readable; wide = subst IsWidth (sym (right_width_more r h.sound)) h.wide }
