-- Arrays that are read once and put once, as a netlist grows.
use Rattle.std.proofs.Common.{◌≡◌, ◌⊎◌, ℕ, ◌+◌, ◌<◌, Bool, true, false, Some, None, List, [], ◌∷◌, ◌++◌, length, refl, sym, ap, subst, ◌∙◌, inl, inr, arith, append-nil, length-append}
use Rattle.std.specs.Prelude.{Contains, nat_le, not, IsTrue, Option, slice_get, unwrap_or}
use Rattle.std.specs.Option.{option_map}
use Rattle.std.proofs.lemmas.Bool.{cases_lt}
use Rattle.std.proofs.lemmas.List.Elements.{All-contains}
use Rattle.wiring.specs.declared.right.Atom.{Atom}
use Rattle.wiring.specs.declared.right.Atom.TheVariants as atom
use Rattle.wiring.specs.declared.right.Right.TheVariants.{Word}
use Rattle.wiring.specs.declared.netlist.Net.{Net}
use Rattle.wiring.specs.declared.netlist.Holder.TheVariants.{OfArray}
use Rattle.wiring.specs.declared.netlist.Shape.{Shape}
use Rattle.wiring.specs.declared.netlist.Assign.{Assign}
use Rattle.wiring.specs.declared.netlist.Update.{Update}
use Rattle.wiring.specs.declared.netlist.Update.TheVariants.{Put}
use Rattle.wiring.specs.Netlist.{Netlist, IsState, depth}
use Rattle.wiring.specs.Rules.{AssignIsSound}
use Rattle.wiring.specs.Snapshot.{right_accesses, update_accesses, accesses_of}
use Rattle.net_build.specs.Draft.{IsDraft, IsFree, AddsWires, with_wire, with_array, with_update}
use Rattle.net_build.specs.Includes.{Includes}
use Rattle.net_build.specs.Control.{AddsNoReads}
use Rattle.net_build.specs.Logic.{AddsLogic}
use Rattle.net_build.specs.Indices.{indices_of, read_indices, put_indices}
use Rattle.net_build.proofs.Indexed.{reads_last, unread, read_more, unput, put_more, puts_behind}
use Rattle.line_buffer.specs.Buffers.{AddsBuffer, is_new}
use Rattle.net_build.proofs.Grown.{depth_more}
use Rattle.net_build.proofs.Drafts.{last_push}
use Rattle.line_buffer.specs.Indices.{IsReadOnce, AreReadOnce, IsReadAndPut, is_long, is_direct, AreReadAndPut}

no_le : (a b : ℕ) → b < a → nat_le a b ≡ false
no_le a b h = grind arith

-- of an array that a draft does not have yet: one wire reads it, and one update puts it, at the same index
module _ (b0 b1 b2 b3 b4 b5 : Netlist) (shape : Shape) (x : ℕ) (index stored word : Net) (counted : AddsBuffer b1 b0 [] []) (draft : IsDraft b1) (numbered : x ≡ length b1.arrays) (made : b2 ≡ with_array b1 shape) (free : IsFree b2 (OfArray x))
    (there : Contains b3.assigns (record { target = word; right = Word x (atom.Net index) })) (ok : (b3 ≡ b2) ⊎ (b3 ≡ with_wire b2 (Word x (atom.Net index)))) (wires : AddsWires b3 b2) (logic : AddsLogic b4 b3) (put : b5 ≡ with_update b4 (Put x (atom.Net index) (atom.Net stored))) where
  not_there : Contains b1.assigns (record { target = word; right = Word x (atom.Net index) }) → ⊥
  not_there c = (let low : x < length b1.arrays = (All-contains (AssignIsSound b1) b1.assigns (record { target = word; right = Word x (atom.Net index) }) draft.sound c).right.array in omega (arith, low, numbered))

  read2 : read_indices b2 x ≡ []
  read2 = ap (λ (b : Netlist). read_indices b x) made ∙ unread b1 x draft (omega (arith, numbered))

  read3 : read_indices b3 x ≡ atom.Net index ∷ []
  read3 = elim ok as (λ _. read_indices b3 x ≡ atom.Net index ∷ []) [
    | inl e ↦ absurd (not_there (subst (λ (b : Netlist). Contains b.assigns (record { target = word; right = Word x (atom.Net index) })) (e ∙ made) there))
    | inr e ↦ ap (λ (b : Netlist). read_indices b x) e ∙ read_more b2 x (atom.Net index) ∙ ap (λ (l : List (Atom Net)). l ++ atom.Net index ∷ []) read2
  ]

  put4 : put_indices b4 x ≡ []
  put4 = ap (λ (us : List Update). indices_of x (accesses_of update_accesses us)) (logic.wires.updates ∙ wires.updates) ∙ unput b2 x free

  here : IsReadOnce (read_indices b5 x) (put_indices b5 x)
  here = record {
    index = atom.Net index;
    read = ap (λ (b : Netlist). read_indices b x) put ∙ reads_last b4 b3 (λ y. false) x logic.includes logic.reads refl ∙ read3;
    put = ap (λ (b : Netlist). put_indices b x) put ∙ put_more b4 x (atom.Net index) (atom.Net stored) ∙ ap (λ (l : List (Atom Net)). l ++ atom.Net index ∷ []) put4;
  }

  arrays_before : length b1.arrays ≡ length b0.arrays
  arrays_before = ap length (counted.arrays ∙ append-nil b0.arrays)

  arrays_after : length b5.arrays ≡ length b1.arrays + 1
  arrays_after = ap (λ (b : Netlist). length b.arrays) put ∙ ap length (logic.wires.arrays ∙ wires.arrays) ∙ ap (λ (b : Netlist). length b.arrays) made ∙ length-append b1.arrays (shape ∷ [])

  pub line_once : AreReadOnce b5 b0
  line_once y low high = subst (λ (z : ℕ). IsReadOnce (read_indices b5 z) (put_indices b5 z)) (let e : x ≡ y = omega (arith, numbered, arrays_before, arrays_after, low, high) in e) here

-- what is added later neither reads nor puts it
same_reads : (c b : Netlist) (shapes : List Shape) (copies : List ℕ) (x : ℕ) → AddsBuffer c b shapes copies → x < length b.arrays → read_indices c x ≡ read_indices b x
same_reads c b shapes copies x adds there = reads_last c b (is_new b) x adds.includes adds.reads (no_le (length b.arrays) x there)

same_puts : (c b : Netlist) (shapes : List Shape) (copies : List ℕ) (x : ℕ) → AddsBuffer c b shapes copies → x < length b.arrays → put_indices c x ≡ put_indices b x
same_puts c b shapes copies x adds there = puts_behind c b x adds.includes (λ k u low at e. adds.only k u low at (subst (IsState b) (sym e) there))

once_later : (c b : Netlist) (shapes : List Shape) (copies : List ℕ) (x : ℕ) → AddsBuffer c b shapes copies → x < length b.arrays → IsReadOnce (read_indices b x) (put_indices b x) → IsReadOnce (read_indices c x) (put_indices c x)
once_later c b shapes copies x adds there is = record { index = is.index; read = same_reads c b shapes copies x adds there ∙ is.read; put = same_puts c b shapes copies x adds there ∙ is.put }

pub once_joined : (c b a : Netlist) (after : List Shape) (copies : List ℕ) → AddsBuffer c b after copies → AreReadOnce c b → AreReadOnce b a → AreReadOnce c a
once_joined c b a after copies adds later earlier x low high =
    elim (cases_lt x (length b.arrays)) as (λ _. IsReadOnce (read_indices c x) (put_indices c x)) [
      | inl there ↦ once_later c b after copies x adds there (earlier x low there)
      | inr new ↦ later x new high
    ]

-- the same of arrays that are read and put at two indices if they are long
pub both_none : (long : (words : ℕ) → Bool) (c b : Netlist) → AddsBuffer c b [] [] → AreReadAndPut long c b
both_none long c b adds x low high = absurd (omega (arith, low, high, ap length (adds.arrays ∙ append-nil b.arrays)))

both_later : (long : (words : ℕ) → Bool) (c b : Netlist) (shapes : List Shape) (copies : List ℕ) (x : ℕ) → AddsBuffer c b shapes copies → x < length b.arrays → IsReadAndPut (is_direct long b x) (read_indices b x) (put_indices b x) → IsReadAndPut (is_direct long c x) (read_indices c x) (put_indices c x)
both_later long c b shapes copies x adds there is = record {
  read_at = is.read_at;
  put_at = is.put_at;
  read = same_reads c b shapes copies x adds there ∙ is.read;
  put = same_puts c b shapes copies x adds there ∙ is.put;
  one = λ short. is.one (subst (λ (d : ℕ). IsTrue (not (long d))) (depth_more c b adds.includes x there) short);
}

pub both_joined : (long : (words : ℕ) → Bool) (c b a : Netlist) (after : List Shape) (copies : List ℕ) → AddsBuffer c b after copies → AreReadAndPut long c b → AreReadAndPut long b a → AreReadAndPut long c a
both_joined long c b a after copies adds later earlier x low high =
    elim (cases_lt x (length b.arrays)) as (λ _. IsReadAndPut (is_direct long c x) (read_indices c x) (put_indices c x)) [
      | inl there ↦ both_later long c b after copies x adds there (earlier x low there)
      | inr new ↦ later x new high
    ]

-- an array that is read and put at one index
pub both_once : (long : (words : ℕ) → Bool) (c a : Netlist) → AreReadOnce c a → AreReadAndPut long c a
both_once long c a is x low high = (let here = is x low high in record { read_at = here.index; put_at = here.index; read = here.read; put = here.put; one = λ short. refl })

pub once_both : (c a : Netlist) → AreReadAndPut (is_long None) c a → AreReadOnce c a
once_both c a is x low high = (let here = is x low high in record { index = here.read_at; read = here.read; put = here.put ∙ ap (λ (i : Atom Net). i ∷ []) (sym (here.one refl)) })

-- of an array that a draft does not have yet, a long one: one wire reads it, and one update puts it
module _ (b1 b2 b3 b4 b5 b6 : Netlist) (long : (words : ℕ) → Bool) (shape : Shape) (x : ℕ) (index now stored word : Net) (draft : IsDraft b1) (numbered : x ≡ length b1.arrays) (made : b2 ≡ with_array b1 shape) (free : IsFree b2 (OfArray x)) (assigns : b3.assigns ≡ b2.assigns) (updates : b3.updates ≡ b2.updates) (arrays : b3.arrays ≡ b2.arrays)
    (there : Contains b4.assigns (record { target = word; right = Word x (atom.Net index) })) (ok : (b4 ≡ b3) ⊎ (b4 ≡ with_wire b3 (Word x (atom.Net index)))) (wires : AddsWires b4 b3) (later : Includes b5 b4) (unread_more : AddsNoReads b5 b4) (unput_more : put_indices b5 x ≡ put_indices b4 x) (arrays_same : b5.arrays ≡ b4.arrays)
    (put : b6 ≡ with_update b5 (Put x (atom.Net now) (atom.Net stored))) (at_least : long shape.depth ≡ true) where
  block_not_there : Contains b1.assigns (record { target = word; right = Word x (atom.Net index) }) → ⊥
  block_not_there c = (let low : x < length b1.arrays = (All-contains (AssignIsSound b1) b1.assigns (record { target = word; right = Word x (atom.Net index) }) draft.sound c).right.array in omega (arith, low, numbered))

  reads3 : read_indices b3 x ≡ []
  reads3 = ap (λ (list : List Assign). indices_of x (accesses_of (λ (a : Assign). right_accesses a.right) list)) (assigns ∙ ap (λ (b : Netlist). b.assigns) made) ∙ unread b1 x draft (omega (arith, numbered))

  reads4 : read_indices b4 x ≡ atom.Net index ∷ []
  reads4 = elim ok as (λ _. read_indices b4 x ≡ atom.Net index ∷ []) [
    | inl e ↦ absurd (block_not_there (subst (λ (list : List Assign). Contains list (record { target = word; right = Word x (atom.Net index) })) (ap (λ (b : Netlist). b.assigns) e ∙ assigns ∙ ap (λ (b : Netlist). b.assigns) made) there))
    | inr e ↦ ap (λ (b : Netlist). read_indices b x) e ∙ read_more b3 x (atom.Net index) ∙ ap (λ (l : List (Atom Net)). l ++ atom.Net index ∷ []) reads3
  ]

  puts5 : put_indices b5 x ≡ []
  puts5 = unput_more ∙ ap (λ (us : List Update). indices_of x (accesses_of update_accesses us)) (wires.updates ∙ updates) ∙ unput b2 x free

  arrays_are : b6.arrays ≡ b1.arrays ++ shape ∷ []
  arrays_are = ap (λ (b : Netlist). b.arrays) put ∙ arrays_same ∙ wires.arrays ∙ arrays ∙ ap (λ (b : Netlist). b.arrays) made

  block_here : IsReadAndPut (is_direct long b6 x) (read_indices b6 x) (put_indices b6 x)
  block_here = record {
    read_at = atom.Net index;
    put_at = atom.Net now;
    read = ap (λ (b : Netlist). read_indices b x) put ∙ reads_last b5 b4 (λ y. false) x later unread_more refl ∙ reads4;
    put = ap (λ (b : Netlist). put_indices b x) put ∙ put_more b5 x (atom.Net now) (atom.Net stored) ∙ ap (λ (l : List (Atom Net)). l ++ atom.Net now ∷ []) puts5;
    one = λ short. absurd (never (subst (λ (t : Bool). IsTrue (not t)) (ap long deep ∙ at_least) short));
  }
    where
      deep : depth b6 x ≡ shape.depth
      deep = ap (λ (l : List Shape). unwrap_or (option_map (λ (s : Shape). s.depth) (slice_get l x)) 0) arrays_are ∙ ap (λ (o : Option Shape). unwrap_or (option_map (λ (s : Shape). s.depth) o) 0) (subst (λ (i : ℕ). slice_get (b1.arrays ++ shape ∷ []) i ≡ Some shape) (sym numbered) (last_push b1.arrays shape))

      never : IsTrue false → ⊥
      never h = cc

  pub block_once : AreReadAndPut long b6 b1
  block_once y low high =
      subst (λ (z : ℕ). IsReadAndPut (is_direct long b6 z) (read_indices b6 z) (put_indices b6 z))
      (let e : x ≡ y = omega (arith, numbered, ap length arrays_are, length-append b1.arrays (shape ∷ []), low, high) in e) block_here
