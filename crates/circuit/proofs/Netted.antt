-- The nets of the kept images, in the module.
use Rattle.std.proofs.Common.{◌≡◌, ℕ, zero, suc, ◌+◌, ◌-◌, ◌*◌, ◌<◌, ◌≤◌, Bool, true, false, List, [], ◌∷◌, length, Some, refl, sym, ap, subst, ◌∙◌, inl, inr, arith}
use Rattle.std.specs.Prelude.{IsTrue, not, nat_le, nat_lt, All, Contains, slice_get}
use Rattle.std.proofs.Math.Nat.{mul-pos}
use Rattle.std.proofs.lemmas.Bool.{cases_lt}
use Rattle.std.proofs.lemmas.Option.{same_Some}
use Rattle.std.proofs.lemmas.List.Elements.{All-nil, All-cons, Contains-append_right}
use Rattle.wiring.specs.declared.right.Atom.TheVariants as atom
use Rattle.wiring.specs.declared.right.Right.TheVariants.{Copy, Choose, Word}
use Rattle.wiring.specs.declared.netlist.Net.{Net}
use Rattle.wiring.specs.declared.netlist.Net.TheVariants.{Output, Reg}
use Rattle.wiring.specs.declared.netlist.Shape.{Shape}
use Rattle.wiring.specs.declared.netlist.Holder.{Holder}
use Rattle.wiring.specs.declared.netlist.Holder.TheVariants.{OfNet, OfArray}
use Rattle.wiring.specs.declared.netlist.Assign.{Assign}
use Rattle.wiring.specs.declared.netlist.Update.{Update}
use Rattle.wiring.specs.declared.netlist.Update.TheVariants.{Put}
use Rattle.wiring.specs.BufferBits.{array_bits, update_reads}
use Rattle.wiring.specs.Rules.{DrivenOnce, UpdatedOnce}
use Rattle.wiring.specs.Netlist.{Netlist, enable_net, update_target}
use Rattle.net_build.specs.Draft.{output_assign, output_assigns, with_outputs}
use Rattle.net_build.specs.Control.{IsMadeOf, by_itself, is_control}
use Rattle.net_build.specs.Depth.{IsWithin}
use Rattle.net_build.proofs.Depth.{within_made}
use Rattle.line_buffer.specs.Depths.{line_operators}
use Rattle.net_build.proofs.Control.{made_wider, made_wire}
use Rattle.buffer_plan.specs.Plans.{Plan}
use Rattle.line_buffer.specs.Fills.{HasRight, IsUnlessHeld, ShowsWord, by_read, by_copy, Takes, IsFilled, AreFilled}
use Rattle.line_buffer.proofs.More.{le_is, lt_is, and_both}
use Rattle.circuit.specs.Taps.{HasControl}
use Rattle.circuit.specs.Forms.{Form, first_array, end_array}
use Rattle.circuit.specs.Images.{is_array_of, words_in, reads_directly}
use Rattle.circuit.specs.Nets.{Shows, Stores, PassesOn}
use Rattle.circuit.specs.Modules.{HasCopy}

-- the place of an entry
pub place_of : {X : Type 0} (xs : List X) (x : X) → Contains xs x → (k : ℕ) × (slice_get xs k ≡ Some x)
place_of [] x (k, l, e) = absurd (let f : ⊥ = omega (arith, l) in f)
place_of (y ∷ xs) x (zero, l, e) = (zero, ap (λ z. Some z) e)
place_of (y ∷ xs) x (suc k, l, e) = (let r = place_of xs x (k, (let h : k < length xs = omega (arith, l) in h), e) in (suc r.0, r.1))

-- an assign that drives a net, and an update of an array, is the only one
only_assign : (m : Netlist) → DrivenOnce m → (a z : Assign) → Contains m.assigns a → Contains m.assigns z → a.target ≡ z.target → a ≡ z
only_assign m driven a z at_a at_z e =
    let i = place_of m.assigns a at_a in
    let j = place_of m.assigns z at_z in
    let same : i.0 ≡ j.0 = driven.one i.0 j.0 a z i.1 j.1 e in
    same_Some a z (sym i.1 ∙ ap (λ (k : ℕ). slice_get m.assigns k) same ∙ j.1)

pub only_update : (m : Netlist) → UpdatedOnce m → (u v : Update) → Contains m.updates u → Contains m.updates v → update_target u ≡ update_target v → u ≡ v
only_update m updated u v at_u at_v e =
    let i = place_of m.updates u at_u in
    let j = place_of m.updates v at_v in
    let same : i.0 ≡ j.0 = updated.one i.0 j.0 u v i.1 j.1 e in
    same_Some u v (sym i.1 ∙ ap (λ (k : ℕ). slice_get m.updates k) same ∙ j.1)

pub shows_only : (m : Netlist) → DrivenOnce m → (output net : Net) → HasRight m output (Copy (atom.Net net)) → Shows m output net
shows_only m driven output net is = record {
  assign = is;
  only = λ a at e. ap (λ (z : Assign). z.right) (only_assign m driven a (record { target = output; right = Copy (atom.Net net) }) at is e);
}

pub stores_only : (m : Netlist) (direct : ℕ → Bool) (copies : List ℕ) → UpdatedOnce m → (x : ℕ) (net : Net) → Takes m direct copies x net → Stores m direct copies x net
stores_only m direct copies updated x net is = record {
  takes = is;
  only = λ u at e. only_update m updated u (Put x (atom.Net is.index) (atom.Net is.stored)) at is.put e;
}

-- the assign of an output
output_in : (k : ℕ) (ns : List Net) (i : ℕ) (n : Net) → slice_get ns i ≡ Some n → Contains (output_assigns k ns) (output_assign (k + i) n)
output_in k [] i n at = absurd (let f : ⊥ = cc in f)
output_in k (x ∷ ns) zero n at = (0, (let h : 0 < length (output_assigns k (x ∷ ns)) = omega arith in h), ap (λ (y : Net). output_assign k y) (same_Some x n at) ∙ ap (λ (j : ℕ). output_assign j n) (let h : k ≡ k + 0 = omega arith in h))
output_in k (x ∷ ns) (suc i) n at =
    let rest : Contains (output_assigns (suc k) ns) (output_assign (k + suc i) n) = subst (λ (j : ℕ). Contains (output_assigns (suc k) ns) (output_assign j n)) (let h : suc k + i ≡ k + suc i = omega arith in h) (output_in (suc k) ns i n at) in
    (suc rest.0, (let low = rest.1 in let h : suc rest.0 < length (output_assigns k (x ∷ ns)) = omega (arith, low) in h), rest.2)

pub output_right : (m last : Netlist) (sources : List Net) (k : ℕ) (n : Net) → m ≡ with_outputs last sources → slice_get sources k ≡ Some n → HasRight m (Output k) (Copy (atom.Net n))
output_right m last sources k n is at =
    subst (λ (b : Netlist). Contains b.assigns (output_assign k n)) (sym is)
    (Contains-append_right last.assigns (output_assigns 0 sources) (output_assign k n) (subst (λ (j : ℕ). Contains (output_assigns 0 sources) (output_assign j n)) (let h : 0 + k ≡ k = omega arith in h) (output_in 0 sources k n at)))

-- an image of a width and a depth has an array
pub some_array : (arrays : List Shape) (width depth : ℕ) → array_bits arrays ≡ width * depth → 1 ≤ width → 0 < depth → 0 < length arrays
some_array [] width depth e wide deep = absurd (let some : 0 < width * depth = mul-pos wide deep in let none : 0 ≡ width * depth = e in let f : ⊥ = omega (arith, some, none) in f)
some_array (s ∷ arrays) width depth e wide deep = omega arith

-- What an image's own arrays take. The base has rst, en, the registers, and those of the image's arrays that are not long.
module _ (m : Netlist) (form : Form) (plan : Plan) (copies : List ℕ) (f : ℕ) (net : Net) (fills : AreFilled m (reads_directly form plan) copies (first_array form.shapes plan f) (end_array form.shapes plan f) net) where
  module _ (base : Holder → Bool) (control : HasControl m.enable base) (own : (x : ℕ) → IsTrue (is_array_of form.shapes plan f x) → IsTrue (reads_directly form plan x) → IsTrue (base (OfArray x))) where
    among : (x : ℕ) → first_array form.shapes plan f ≤ x → x < end_array form.shapes plan f → IsTrue (is_array_of form.shapes plan f x)
    among x low high = and_both (nat_le (first_array form.shapes plan f) x) (nat_lt x (end_array form.shapes plan f)) (le_is (first_array form.shapes plan f) x low) (lt_is x (end_array form.shapes plan f) high)

    enable_own : (e : Bool) → e ≡ true → IsTrue (is_control e (OfNet enable_net))
    enable_own true e = refl
    enable_own false e = absurd (let f : ⊥ = cc in f)

    index_made : (n : Net) → IsWithin m (is_control m.enable) line_operators (OfNet n) → IsMadeOf m base (OfNet n)
    index_made n is = made_wider m (is_control m.enable) base control (within_made is)

    -- a word is read from an array that is not long, or is a register
    word_made : (x : ℕ) (index word : Net) → first_array form.shapes plan f ≤ x → x < end_array form.shapes plan f → IsWithin m (is_control m.enable) line_operators (OfNet index) → ShowsWord m (reads_directly form plan) copies x index word → IsMadeOf m base (OfNet word)
    word_made x index word low high is (by_read short read) =
        made_wire m word (Word x (atom.Net index)) base read
        (All-cons (IsMadeOf m base) (OfArray x) (OfNet index ∷ []) (by_itself (own x (among x low high) short)) (All-cons (IsMadeOf m base) (OfNet index) [] (index_made index is) (All-nil (IsMadeOf m base))))
    word_made x index word low high is (by_copy r has copy) = by_itself (control (OfNet (Reg r)) refl)

    value_made : (word from stored : Net) → IsUnlessHeld m word from stored → IsMadeOf m base (OfNet word) → IsMadeOf m base (OfNet from) → IsMadeOf m base (OfNet stored)
    value_made word from stored is of_word of_from = by m.enable refl
      where
        by : (e : Bool) → m.enable ≡ e → IsMadeOf m base (OfNet stored)
        by false off = subst (λ (n : Net). IsMadeOf m base (OfNet n)) (sym (is.plain off)) of_from
        by true on =
            made_wire m stored (Choose (atom.Net enable_net) (atom.Net from) (atom.Net word)) base (is.held on)
            (All-cons (IsMadeOf m base) (OfNet enable_net) (OfNet from ∷ (OfNet word ∷ [])) (by_itself (control (OfNet enable_net) (enable_own m.enable on)))
            (All-cons (IsMadeOf m base) (OfNet from) (OfNet word ∷ []) of_from (All-cons (IsMadeOf m base) (OfNet word) [] of_word (All-nil (IsMadeOf m base)))))

    from_made : IsMadeOf m base (OfNet net) → (x : ℕ) → first_array form.shapes plan f ≤ x → x < end_array form.shapes plan f → (is : IsFilled m (reads_directly form plan) copies (first_array form.shapes plan f) net x) → IsMadeOf m base (OfNet is.from)
    from_made made x low high is =
        elim (cases_lt (first_array form.shapes plan f) x) as (λ _. IsMadeOf m base (OfNet is.from)) [
          | inl later ↦ (let w = is.word later in word_made (x - 1) w.index is.from (let h : first_array form.shapes plan f ≤ x - 1 = omega (arith, later) in h) (let h : x - 1 < end_array form.shapes plan f = omega (arith, high) in h) w.control w.shown)
          | inr most ↦ (let same : x ≡ first_array form.shapes plan f = omega (arith, low, most) in subst (λ (n : Net). IsMadeOf m base (OfNet n)) (sym (is.net same)) made)
        ]

    -- what a put of one of them reads
    pub put_made : UpdatedOnce m → IsMadeOf m base (OfNet net) → (x : ℕ) (u : Update) → first_array form.shapes plan f ≤ x → x < end_array form.shapes plan f → Contains m.updates u → update_target u ≡ OfArray x → All (IsMadeOf m base) (update_reads u)
    put_made updated made x u low high at e =
        let is : IsFilled m (reads_directly form plan) copies (first_array form.shapes plan f) net x = fills x low high in
        let t : Takes m (reads_directly form plan) copies x is.from = is.takes in
        let same : u ≡ Put x (atom.Net t.index) (atom.Net t.stored) = only_update m updated u (Put x (atom.Net t.index) (atom.Net t.stored)) at t.put e in
        subst (λ (v : Update). All (IsMadeOf m base) (update_reads v)) (sym same)
        (All-cons (IsMadeOf m base) (OfNet t.index) (OfNet t.stored ∷ []) (index_made t.index t.control)
        (All-cons (IsMadeOf m base) (OfNet t.stored) [] (value_made t.word is.from t.stored t.value (word_made x t.index t.word low high t.control t.shown) (from_made made x low high is)) (All-nil (IsMadeOf m base))))

  -- the first takes the image's net, each later one a word of the one before it
  pub first_stores : UpdatedOnce m → first_array form.shapes plan f < end_array form.shapes plan f → Stores m (reads_directly form plan) copies (first_array form.shapes plan f) net
  first_stores updated some =
      let is : IsFilled m (reads_directly form plan) copies (first_array form.shapes plan f) net (first_array form.shapes plan f) = fills (first_array form.shapes plan f) (omega arith) some in
      subst (λ (n : Net). Stores m (reads_directly form plan) copies (first_array form.shapes plan f) n) (is.net refl) (stores_only m (reads_directly form plan) copies updated (first_array form.shapes plan f) is.from is.takes)

  pub later_stores : UpdatedOnce m → (x : ℕ) → first_array form.shapes plan f < x → x < end_array form.shapes plan f → PassesOn m (reads_directly form plan) copies x
  later_stores updated x low high =
      let is : IsFilled m (reads_directly form plan) copies (first_array form.shapes plan f) net x = fills x (omega (arith, low)) high in
      record { from = is.from; word = is.word low; stores = stores_only m (reads_directly form plan) copies updated x is.from is.takes }

  -- a long array has its copy
  pub long_copied : (x : ℕ) → first_array form.shapes plan f ≤ x → x < end_array form.shapes plan f → IsTrue (form.long (words_in form.shapes plan x)) → HasCopy m copies x
  long_copied x low high long = (let t : Takes m (reads_directly form plan) copies x (fills x low high).from = (fills x low high).takes in by t.word t.shown)
    where
      never : (t : Bool) → IsTrue t → IsTrue (not t) → ⊥
      never true on off = absurd (let e : false ≡ true = off in let f : ⊥ = cc in f)
      never false on off = absurd (let e : false ≡ true = on in let f : ⊥ = cc in f)

      by : (word : Net) → ShowsWord m (reads_directly form plan) copies x (fills x low high).takes.index word → HasCopy m copies x
      by word (by_read short read) = absurd (never (form.long (words_in form.shapes plan x)) long short)
      by word (by_copy r has copy) = record { copy = r; among = has; copies_word = copy }
