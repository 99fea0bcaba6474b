-- Instructions in lanes that hold their slots and constants.
use Rattle.std.proofs.Common.{◌≡◌, ℕ, ◌+◌, ◌≤◌, List, [], ◌∷◌, ◌++◌, length, get_or, Some, sym, ap, subst, ◌∙◌, inl, inr, arith}
use Rattle.std.specs.Prelude.{All, slice_index, slice_get}
use Rattle.std.proofs.lemmas.List.Elements.{All-contains, All-nil, All-cons, All-append}
use Rattle.std.proofs.lemmas.List.{length-append}
use Rattle.std.proofs.lemmas.Bool.{cases_lt}
use Rattle.std.proofs.lemmas.Option.{same_Some, slice_get_within, slice_get-get_or}
use Rattle.std.proofs.Math.Seq.{get_or-append_seam}
use Rattle.wiring.proofs.Lists.{slice_get-append}
use Rattle.wiring.specs.Sizes.{SizedNumber}
use Rattle.wiring.specs.declared.right.Atom.{Atom}
use Rattle.wiring.specs.declared.right.Atom.TheVariants as atom
use Rattle.wiring.specs.declared.right.Right.{Right}
use Rattle.wiring.specs.declared.right.Right.TheVariants.{Copy, Not, Binary, Choose, Join, Repeat, Bit, Slice, Word}
use Rattle.wiring.specs.Rights.{atom_nets, nets_of, atom_constants, constants_of}
use Rattle.batch_rows.specs.declared.code.Instruction.{Instruction}
use Rattle.batch_rows.specs.LaneSizes.{AtomIsIn, RightIsIn, IsSized}
use Rattle.lane_rows.specs.Values.{bits_of}
use Rattle.lane_rows.specs.declared.row.Size.{Size}

module _ (widths : List ℕ) (bits : ℕ) where
  abbrev HasNet : ℕ → Type 0
  HasNet n = slice_index widths n ≤ bits

  abbrev HasConstant : SizedNumber → Type 0
  HasConstant c = c.width ≤ bits

  atom_in : (a : Atom ℕ) → AtomIsIn widths bits a → All HasNet (atom_nets a)
  atom_in (atom.Net n) h = All-cons HasNet n [] h (All-nil HasNet)
  atom_in (atom.Constant c) h = All-nil HasNet

  constant_in : (a : Atom ℕ) → AtomIsIn widths bits a → All HasConstant (atom_constants a)
  constant_in (atom.Net n) h = All-nil HasConstant
  constant_in (atom.Constant c) h = All-cons HasConstant c [] h (All-nil HasConstant)

  nets_in : (r : Right ℕ ℕ) → RightIsIn widths bits r → All HasNet (nets_of r)
  nets_in (Copy a) h = atom_in a h
  nets_in (Not a) h = atom_in a h
  nets_in (Binary o a b) h = All-append HasNet (atom_nets a) (atom_nets b) (atom_in a h.0) (atom_in b h.1)
  nets_in (Choose c a b) h = All-append HasNet (atom_nets c ++ atom_nets a) (atom_nets b) (All-append HasNet (atom_nets c) (atom_nets a) (atom_in c h.0) (atom_in a h.1)) (atom_in b h.2)
  nets_in (Join a b) h = All-append HasNet (atom_nets a) (atom_nets b) (atom_in a h.0) (atom_in b h.1)
  nets_in (Repeat n a) h = atom_in a h
  nets_in (Bit v k) h = All-cons HasNet v [] h (All-nil HasNet)
  nets_in (Slice v m l) h = All-cons HasNet v [] h (All-nil HasNet)
  nets_in (Word m i) h = atom_in i h

  constants_in : (r : Right ℕ ℕ) → RightIsIn widths bits r → All HasConstant (constants_of r)
  constants_in (Copy a) h = constant_in a h
  constants_in (Not a) h = constant_in a h
  constants_in (Binary o a b) h = All-append HasConstant (atom_constants a) (atom_constants b) (constant_in a h.0) (constant_in b h.1)
  constants_in (Choose c a b) h = All-append HasConstant (atom_constants c ++ atom_constants a) (atom_constants b) (All-append HasConstant (atom_constants c) (atom_constants a) (constant_in c h.0) (constant_in a h.1)) (constant_in b h.2)
  constants_in (Join a b) h = All-append HasConstant (atom_constants a) (atom_constants b) (constant_in a h.0) (constant_in b h.1)
  constants_in (Repeat n a) h = constant_in a h
  constants_in (Bit v k) h = All-nil HasConstant
  constants_in (Slice v m l) h = All-nil HasConstant
  constants_in (Word m i) h = constant_in i h

atom_wider : (widths : List ℕ) (w bits : ℕ) → w ≤ bits → (a : Atom ℕ) → AtomIsIn widths w a → AtomIsIn widths bits a
atom_wider widths w bits l (atom.Net n) h = omega (arith, l, h)
atom_wider widths w bits l (atom.Constant c) h = omega (arith, l, h)

right_wider : (widths : List ℕ) (w bits : ℕ) → w ≤ bits → (r : Right ℕ ℕ) → RightIsIn widths w r → RightIsIn widths bits r
right_wider widths w bits l (Copy a) h = atom_wider widths w bits l a h
right_wider widths w bits l (Not a) h = atom_wider widths w bits l a h
right_wider widths w bits l (Binary o a b) h = (atom_wider widths w bits l a h.0, atom_wider widths w bits l b h.1)
right_wider widths w bits l (Choose c a b) h = (atom_wider widths w bits l c h.0, atom_wider widths w bits l a h.1, atom_wider widths w bits l b h.2)
right_wider widths w bits l (Join a b) h = (atom_wider widths w bits l a h.0, atom_wider widths w bits l b h.1)
right_wider widths w bits l (Repeat n a) h = atom_wider widths w bits l a h
right_wider widths w bits l (Bit v k) h = omega (arith, l, h)
right_wider widths w bits l (Slice v m k) h = omega (arith, l, h)
right_wider widths w bits l (Word m i) h = atom_wider widths w bits l i h

-- an instruction whose operands and target have no more bits than some width, which a lane holds
pub sized_is : (widths : List ℕ) (w bits : ℕ) (i : Instruction) → w ≤ bits → slice_index widths i.target ≤ w → RightIsIn widths w i.right → IsSized widths bits i
sized_is widths w bits i l target right =
    let wide : RightIsIn widths bits i.right = right_wider widths w bits l i.right right in
    record {
      slots = λ n c. All-contains (HasNet widths bits) (nets_of i.right) n (nets_in widths bits i.right wide) c;
      constants = constants_in widths bits i.right wide;
      target = omega (arith, l, target);
    }

-- one instruction more has its lane
pub sized_more : (widths : List ℕ) (code : List Instruction) (sizes : List Size) (k : ℕ) (s : Size) (i : Instruction) → length sizes ≡ k → slice_get code k ≡ Some i → IsSized widths (bits_of s) i →
    ((j : ℕ) (i : Instruction) (s : Size) → slice_get code j ≡ Some i → slice_get sizes j ≡ Some s → IsSized widths (bits_of s) i) →
    (j : ℕ) (i : Instruction) (t : Size) → slice_get code j ≡ Some i → slice_get (sizes ++ s ∷ []) j ≡ Some t → IsSized widths (bits_of t) i
sized_more widths code sizes k s i long at is before j other t there got = elim (cases_lt j k) [
  | inl low ↦
      let old : Size = get_or sizes j s in
      let was : slice_get sizes j ≡ Some old = slice_get-get_or sizes j s (omega (arith, low, long)) in
      let same : old ≡ t = same_Some old t (sym (slice_get-append sizes (s ∷ []) j old was) ∙ got) in
      subst (λ (u : Size). IsSized widths (bits_of u) other) same (before j other old there was)
  | inr high ↦
      let end : length (sizes ++ s ∷ []) ≡ length sizes + 1 = length-append sizes (s ∷ []) in
      let here : j ≡ length sizes = omega (arith, high, long, end, slice_get_within (sizes ++ s ∷ []) j t got) in
      let seam : slice_get (sizes ++ s ∷ []) (length sizes) ≡ Some s = slice_get-get_or (sizes ++ s ∷ []) (length sizes) s (omega (arith, end)) ∙ ap (λ (u : Size). Some u) (get_or-append_seam sizes s [] s) in
      let same : s ≡ t = same_Some s t (sym seam ∙ ap (λ n. slice_get (sizes ++ s ∷ []) n) (sym here) ∙ got) in
      let it : i ≡ other = same_Some i other (sym at ∙ ap (λ n. slice_get code n) (sym long ∙ sym here) ∙ there) in
      subst (λ (u : Size). IsSized widths (bits_of u) other) same (subst (λ (x : Instruction). IsSized widths (bits_of s) x) it is)
]
