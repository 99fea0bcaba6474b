-- How a delay line is made.
use Rattle.std.proofs.Common.{◌≡◌, ◌⊎◌, ℕ, ◌+◌, ◌<◌, Bool, true, false, List, [], ◌∷◌, ◌++◌, length, Some, refl, sym, ap, subst, ◌∙◌, arith, append-nil}
use Rattle.std.specs.Prelude.{IsTrue, All, Contains, ◌&&◌, nat_le, nat_lt, slice_get, slice_set, slice_index_or}
use Rattle.std.proofs.lemmas.List.Elements.{All-nil, All-cons, Contains-append_right}
use Rattle.wiring.specs.declared.right.Atom.TheVariants as atom
use Rattle.wiring.specs.declared.right.Right.{Right}
use Rattle.wiring.specs.declared.right.Right.TheVariants.{Word}
use Rattle.wiring.specs.declared.netlist.Net.{Net}
use Rattle.wiring.specs.declared.netlist.Holder.{Holder}
use Rattle.wiring.specs.declared.netlist.Holder.TheVariants.{OfNet, OfArray}
use Rattle.wiring.specs.declared.netlist.Shape.{Shape}
use Rattle.wiring.specs.declared.netlist.Update.TheVariants.{Put}
use Rattle.wiring.specs.Netlist.{Netlist}
use Rattle.wiring.specs.Snapshot.{net_value, word_value, right_accesses}
use Rattle.net_build.specs.Includes.{Includes, InEach, AtEachEdge}
use Rattle.net_build.specs.Draft.{AddsWires, with_wire, with_array, with_update}
use Rattle.net_build.specs.Runs.{StaysInside}
use Rattle.net_build.specs.Control.{is_control, AddsReads}
use Rattle.net_build.specs.Depth.{IsWithin, by_itself}
use Rattle.net_build.proofs.Depth.{within_more, within_wider, within_wire}
use Rattle.net_build.proofs.Parts.{Includes-trans, at_Begins, InEach-more}
use Rattle.net_build.proofs.Reading.{reads_word, reads_joined, none_reads}
use Rattle.net_build.proofs.Updating.{wires_joined}
use Rattle.net_build.specs.Logic.{AddsLogic, Computes}
use Rattle.net_build.specs.Counters.{control_nets, unless_held}
use Rattle.line_buffer.specs.Lines.{IsIndex, IsDelayLine}
use Rattle.line_buffer.specs.Added.{EachAdded}
use Rattle.line_buffer.specs.Fills.{IsWordAt, IsUnlessHeld}
use Rattle.line_buffer.specs.Depths.{line_operators}
use Rattle.line_buffer.specs.Buffers.{AddsBuffer, ReadsInside, is_new, is_buffer}
use Rattle.line_buffer.proofs.More.{added_weaker, added_joined, inside_more, none_inside, op_inside_in}
use Rattle.line_buffer.proofs.Depth.{index_within_more}
use Rattle.line_buffer.proofs.Filling.{right_more, unless_held_more}
use Rattle.line_buffer.proofs.Adding.{adds_joined}
use Rattle.line_buffer.proofs.More.{le_is}
use Rattle.line_buffer.proofs.States.{adds_array}
use Rattle.line_buffer.proofs.Turning.{index_more, line_inside, line_still}

pub control_buffer : (enable : Bool) (first end : ℕ) (h : Holder) → IsTrue (is_control enable h) → IsTrue (is_buffer enable first end h)
control_buffer enable first end (OfNet n) is = is
control_buffer enable first end (OfArray x) is = (let f : IsTrue false = is in cc)

pub own_array : (enable : Bool) (first x : ℕ) → x ≡ first → IsTrue (is_buffer enable first (first + 1) (OfArray x))
own_array enable first x e = both (nat_le first x) (nat_lt x (first + 1)) (le_is first x (omega (arith, e))) (lt_is x (first + 1) (omega (arith, e)))
  where
    lt_is : (a b : ℕ) → a < b → IsTrue (nat_lt a b)
    lt_is a b h = grind arith

    both : (p q : Bool) → IsTrue p → IsTrue q → IsTrue (p && q)
    both true true p q = refl
    both true false p q = q
    both false q p r = p

module _ (b0 b1 b2 b3 b4 b5 : Netlist) (width words x : ℕ) (index value word stored : Net) (counted : AddsBuffer b1 b0 [] []) (counter : IsIndex b1 words index) (index_within : IsWithin b1 (is_control b1.enable) line_operators (OfNet index)) (some : 0 < words)
    (made : b2 ≡ with_array b1 (record { width = width; depth = words })) (numbered : x ≡ length b1.arrays) (there : slice_get b2.arrays x ≡ Some (record { width = width; depth = words })) (f21 : Includes b2 b1) (f32 : Includes b3 b2) (read : (b3 ≡ b2) ⊎ (b3 ≡ with_wire b2 (Word x (atom.Net index)))) (wired : AddsWires b3 b2)
    (word_is : InEach b3 (λ m s. net_value s word ≡ word_value s x (net_value s index))) (logic : AddsLogic b4 b3) (stored_is : Computes b4 b3 (control_nets b3.enable ++ word ∷ (value ∷ [])) width (λ s. unless_held b3.enable (net_value s word) (net_value s value) s) stored)
    (f54 : Includes b5 b4) (put : b5 ≡ with_update b4 (Put x (atom.Net index) (atom.Net stored))) (edge : AtEachEdge b5 (λ s next. slice_get next.arrays x ≡ Some (slice_set (slice_index_or s.contents.arrays x []) (net_value s index) (net_value s stored))))
    (word_read : IsWordAt b3 x index word) (right : IsUnlessHeld b4 word value stored) where
  abbrev shape : Shape
  shape = record { width = width; depth = words }

  f53 : Includes b5 b3
  f53 = Includes-trans b5 b4 b3 f54 logic.includes

  f52 : Includes b5 b2
  f52 = Includes-trans b5 b3 b2 f53 f32

  f51 : Includes b5 b1
  f51 = Includes-trans b5 b2 b1 f52 f21

  pub first_is : x ≡ length b0.arrays
  first_is = numbered ∙ ap (λ (l : List Shape). length l) (counted.arrays ∙ append-nil b0.arrays)

  here_is : IsDelayLine b5 x words value word
  here_is = record {
    shape = shape;
    there = at_Begins b2.arrays b5.arrays x shape f52.arrays there;
    deep = refl;
    index = index;
    counter = index_more b5 b1 words index f51 counter;
    control = index_within_more b5 b1 line_operators index f51 index_within;
    read = right_more b5 b3 word (Word x (atom.Net index)) f53 word_read;
    gives = InEach-more (λ m s. net_value s word ≡ word_value s x (net_value s index)) b5 b3 f53 word_is;
    stored = stored;
    value = unless_held_more b5 b4 word value stored f54 right;
    put = subst (λ (b : Netlist). Contains b.updates (Put x (atom.Net index) (atom.Net stored))) (sym put) (Contains-append_right b4.updates (Put x (atom.Net index) (atom.Net stored) ∷ []) (Put x (atom.Net index) (atom.Net stored)) (0, omega arith, refl));
    takes = λ m s part settled. stored_is.value m s (Includes-trans m b5 b4 part f54) settled ∙ ap (λ (e : Bool). unless_held e (net_value s word) (net_value s value) s) (sym f53.enable);
    edge = edge;
  }

  pub line_is : IsDelayLine b5 (length b0.arrays) words value word
  line_is = subst (λ (y : ℕ). IsDelayLine b5 y words value word) first_is here_is

  pub inside_is : (b : Netlist) → Includes b b2 → StaysInside b (x, atom.Net index)
  inside_is b f = line_inside b x words shape index some (at_Begins b2.arrays b.arrays x shape f.arrays there) refl (index_more b b1 words index (Includes-trans b b2 b1 f f21) counter)

  reads_are : AddsReads b4 b2 (is_new b1)
  reads_are = reads_joined b4 b3 b2 (is_new b1) logic.includes (none_reads b4 b3 (is_new b1) logic.reads) (reads_word b2 b3 x (atom.Net index) (is_new b1) read (le_is (length b1.arrays) x (omega (arith, numbered))))

  read_inside : All (StaysInside b5) (right_accesses (let r : Right Net ℕ = Word x (atom.Net index) in r))
  read_inside = All-cons (StaysInside b5) (x, atom.Net index) [] (inside_is b5 f52) (All-nil (StaysInside b5))

  reads_inside : EachAdded (ReadsInside b5) b4.assigns b2.assigns
  reads_inside =
      let f43 : Includes b4 b3 = logic.includes in
      added_joined (ReadsInside b5) b4.assigns b3.assigns b2.assigns f43.assigns
      (added_weaker (ReadsInside b4) (ReadsInside b5) b4.assigns b3.assigns (λ a. inside_more b5 b4 f54 (right_accesses a.right)) (none_inside b4 b3 logic.reads))
      (op_inside_in b5 b3 b2 (Word x (atom.Net index)) read read_inside)

  pub line_adds : AddsBuffer b5 b0 (shape ∷ []) []
  line_adds =
      adds_joined b5 b1 b0 (shape ∷ []) [] [] [] (adds_array b1 b2 b4 b5 shape x index stored made (Includes-trans b4 b3 b2 logic.includes f32) (wires_joined b4 b3 b2 logic.wires wired) reads_are put numbered reads_inside (inside_is b5 f52) (line_still b5 x words value word here_is)) counted

  -- what the word is made of
  pub word_made : IsWithin b5 (is_buffer b5.enable (length b0.arrays) (length b0.arrays + 1)) line_operators (OfNet word)
  word_made =
      let first : ℕ = length b0.arrays in
      let base : Holder → Bool = is_buffer b5.enable first (first + 1) in
      let index1 : IsWithin b1 (is_control b5.enable) line_operators (OfNet index) = subst (λ (e : Bool). IsWithin b1 (is_control e) line_operators (OfNet index)) (sym f51.enable) index_within in
      let index3 : IsWithin b3 base line_operators (OfNet index) = within_wider b3 (is_control b5.enable) base (control_buffer b5.enable first (first + 1)) (within_more b3 b1 (is_control b5.enable) (Includes-trans b3 b2 b1 f32 f21) index1) in
      within_more b5 b3 base f53
      (within_wire b3 word (Word x (atom.Net index)) base line_operators word_read
      (All-cons (IsWithin b3 base line_operators) (OfArray x) (OfNet index ∷ []) (by_itself (own_array b5.enable first x first_is)) (All-cons (IsWithin b3 base line_operators) (OfNet index) [] index3 (All-nil (IsWithin b3 base line_operators)))))
