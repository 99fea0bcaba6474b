-- Clock paths: to what is put into the arrays of an image, and to the outputs.
use Rattle.std.proofs.Common.{◌≡◌, ◌⊎◌, ℕ, zero, suc, ◌+◌, ◌-◌, ◌*◌, ◌<◌, ◌≤◌, Bool, true, false, List, [], ◌∷◌, refl, sym, subst, inl, inr, arith}
use Rattle.std.specs.Prelude.{All, Contains, IsTrue}
use Rattle.std.proofs.lemmas.Bool.{cases_lt}
use Rattle.std.proofs.lemmas.List.Elements.{All-cons}
use Rattle.wiring.specs.declared.right.Atom.{Atom}
use Rattle.wiring.specs.declared.right.Atom.TheVariants as atom
use Rattle.wiring.specs.declared.right.Right.TheVariants.{Copy, Choose, Word}
use Rattle.wiring.specs.declared.netlist.Net.{Net}
use Rattle.wiring.specs.declared.netlist.Net.TheVariants.{Input, Output, Wire, Reg}
use Rattle.wiring.specs.declared.netlist.Holder.{Holder}
use Rattle.wiring.specs.declared.netlist.Holder.TheVariants.{OfNet, OfArray}
use Rattle.wiring.specs.declared.netlist.Update.{Update}
use Rattle.wiring.specs.declared.netlist.Update.TheVariants.{Set, Put}
use Rattle.wiring.specs.BufferBits.{atom_reads, update_reads}
use Rattle.wiring.specs.Rules.{UpdatedOnce}
use Rattle.wiring.specs.Netlist.{Netlist, enable_net, update_target}
use Rattle.net_build.specs.Control.{is_control}
use Rattle.net_build.specs.Depth.{IsWithin, by_itself, is_start, hold_levels}
use Rattle.net_build.proofs.Depth.{within_deeper, within_wire, within_net}
use Rattle.net_build.proofs.Levels.{control_path}
use Rattle.buffer_plan.specs.Plans.{Plan}
use Rattle.line_buffer.specs.Depths.{line_operators}
use Rattle.line_buffer.specs.Fills.{HasRight, IsUnlessHeld, ShowsWord, by_read, by_copy, Takes, IsFilled, AreFilled}
use Rattle.circuit.specs.Forms.{Form, first_array, end_array}
use Rattle.circuit.specs.Images.{reads_directly, source_of}
use Rattle.circuit.proofs.Netted.{only_update}

-- what an image's net is made of begins clock paths
pub source_start : (form : Form) (plan : Plan) (f : ℕ) (e : Bool) (h : Holder) → IsTrue (source_of form plan f e h) → IsTrue (is_start h)
source_start form plan f e (OfNet (Input k)) is = refl
source_start form plan f e (OfNet (Output k)) is = is
source_start form plan f e (OfNet (Wire k)) is = is
source_start form plan f e (OfNet (Reg k)) is = refl
source_start form plan f e (OfArray x) is = refl

-- an output that copies a net
pub copied_within : (m : Netlist) (output net : Net) (n : ℕ) → HasRight m output (Copy (atom.Net net)) → IsWithin m is_start n (OfNet net) → IsWithin m is_start n (OfNet output)
copied_within m output net n right is = within_deeper (let g : 0 + n ≤ n = omega arith in g) (within_wire m output (Copy (atom.Net net)) is_start n right (within_net m is_start n net is))

-- an output is a valid or a dout
pub is_pair : (k : ℕ) → (i : ℕ) × ((k ≡ 2 * i) ⊎ (k ≡ 2 * i + 1))
is_pair zero = (0, inl refl)
is_pair (suc zero) = (0, inr refl)
is_pair (suc (suc k)) = next k (is_pair k)
  where
    next : (k : ℕ) → (i : ℕ) × ((k ≡ 2 * i) ⊎ (k ≡ 2 * i + 1)) → (i : ℕ) × ((suc (suc k) ≡ 2 * i) ⊎ (suc (suc k) ≡ 2 * i + 1))
    next k (i, inl e) = (suc i, inl (omega (arith, e)))
    next k (i, inr e) = (suc i, inr (omega (arith, e)))

-- what the index of a put reads
abbrev index_reads : Update → List Holder
index_reads (Set r a) = []
index_reads (Put x i a) = atom_reads i

-- What an image's own arrays take, where the image's net is within j.
module _ (m : Netlist) (form : Form) (plan : Plan) (copies : List ℕ) (f : ℕ) (net : Net) (fills : AreFilled m (reads_directly form plan) copies (first_array form.shapes plan f) (end_array form.shapes plan f) net) where
  word_within : (x : ℕ) (index word : Net) → IsWithin m (is_control m.enable) line_operators (OfNet index) → ShowsWord m (reads_directly form plan) copies x index word → IsWithin m is_start line_operators (OfNet word)
  word_within x index word is (by_read short read) =
      within_wire m word (Word x (atom.Net index)) is_start line_operators read
      (All-cons (IsWithin m is_start line_operators) (OfArray x) (OfNet index ∷ []) (by_itself refl) (within_net m is_start line_operators index (control_path m line_operators line_operators index (omega arith) is)))
  word_within x index word is (by_copy r has copy) = by_itself refl

  value_within : (j n : ℕ) (word from stored : Net) → j + hold_levels m.enable ≤ n → 2 ≤ n → IsUnlessHeld m word from stored → IsWithin m is_start line_operators (OfNet word) → IsWithin m is_start j (OfNet from) → IsWithin m is_start n (OfNet stored)
  value_within j n word from stored low some is of_word of_from = by m.enable refl
    where
      by : (e : Bool) → m.enable ≡ e → IsWithin m is_start n (OfNet stored)
      by false off = subst (λ (x : Net). IsWithin m is_start n (OfNet x)) (sym (is.plain off)) (within_deeper (omega (arith, low)) of_from)
      by true on =
          let less : j + hold_levels true ≤ n = subst (λ (e : Bool). j + hold_levels e ≤ n) on low in
          let below : IsWithin m is_start (n - 1) (OfNet from) = within_deeper (omega (arith, less)) of_from in
          let held : IsWithin m is_start (n - 1) (OfNet word) = within_deeper (omega (arith, some)) of_word in
          within_deeper (let g : 1 + (n - 1) ≤ n = omega (arith, some) in g)
          (within_wire m stored (Choose (atom.Net enable_net) (atom.Net from) (atom.Net word)) is_start (n - 1) (is.held on)
          (All-cons (IsWithin m is_start (n - 1)) (OfNet enable_net) (OfNet from ∷ (OfNet word ∷ [])) (by_itself refl) (All-cons (IsWithin m is_start (n - 1)) (OfNet from) (OfNet word ∷ []) below (within_net m is_start (n - 1) word held))))

  from_within : (j : ℕ) → line_operators ≤ j → IsWithin m is_start j (OfNet net) → (x : ℕ) → first_array form.shapes plan f ≤ x → (is : IsFilled m (reads_directly form plan) copies (first_array form.shapes plan f) net x) → IsWithin m is_start j (OfNet is.from)
  from_within j some within x low is =
      elim (cases_lt (first_array form.shapes plan f) x) as (λ _. IsWithin m is_start j (OfNet is.from)) [
        | inl later ↦ (let w = is.word later in within_deeper some (word_within (x - 1) w.index is.from w.control w.shown))
        | inr most ↦ (let same : x ≡ first_array form.shapes plan f = omega (arith, low, most) in subst (λ (n : Net). IsWithin m is_start j (OfNet n)) (sym (is.net same)) within)
      ]

  -- the index of a put of one of them
  pub index_within : UpdatedOnce m → (x : ℕ) (i a : Atom Net) → first_array form.shapes plan f ≤ x → x < end_array form.shapes plan f → Contains m.updates (Put x i a) → All (IsWithin m is_start line_operators) (atom_reads i)
  index_within updated x i a low high at =
      let t : Takes m (reads_directly form plan) copies x (fills x low high).from = (fills x low high).takes in
      let same : Put x i a ≡ Put x (atom.Net t.index) (atom.Net t.stored) = only_update m updated (Put x i a) (Put x (atom.Net t.index) (atom.Net t.stored)) at t.put refl in
      subst (λ (v : Update). All (IsWithin m is_start line_operators) (index_reads v)) (sym same) (within_net m is_start line_operators t.index (control_path m line_operators line_operators t.index (omega arith) t.control))

  -- what a put of one of them reads
  pub put_within : (j n : ℕ) → line_operators ≤ j → j + hold_levels m.enable ≤ n → 2 ≤ n → UpdatedOnce m → IsWithin m is_start j (OfNet net) → (x : ℕ) (u : Update) → first_array form.shapes plan f ≤ x → x < end_array form.shapes plan f → Contains m.updates u → update_target u ≡ OfArray x → All (IsWithin m is_start n) (update_reads u)
  put_within j n some less two updated within x u low high at e =
      let is : IsFilled m (reads_directly form plan) copies (first_array form.shapes plan f) net x = fills x low high in
      let t : Takes m (reads_directly form plan) copies x is.from = is.takes in
      let same : u ≡ Put x (atom.Net t.index) (atom.Net t.stored) = only_update m updated u (Put x (atom.Net t.index) (atom.Net t.stored)) at t.put e in
      subst (λ (v : Update). All (IsWithin m is_start n) (update_reads v)) (sym same)
      (All-cons (IsWithin m is_start n) (OfNet t.index) (OfNet t.stored ∷ []) (control_path m line_operators n t.index (omega (arith, two)) t.control)
      (within_net m is_start n t.stored (value_within j n t.word is.from t.stored less two t.value (word_within x t.index t.word t.control t.shown) (from_within j some within x low is))))
