-- How a delay line in block memory is made.
use Rattle.std.proofs.Common.{◌≡◌, ◌≢◌, ◌⊎◌, ℕ, suc, ◌-◌, ◌<◌, ◌≤◌, Bool, true, false, List, [], ◌∷◌, ◌++◌, length, Some, refl, sym, ap, subst, ◌∙◌, inl, inr, arith}
use Rattle.std.specs.Prelude.{All, Contains, Option, slice_get, slice_set, slice_index_or, unwrap_or}
use Rattle.std.specs.Option.{option_map}
use Rattle.std.proofs.lemmas.List.{length_push}
use Rattle.std.proofs.lemmas.Option.{slice_get_within}
use Rattle.std.proofs.lemmas.List.Elements.{All-nil, All-cons, Contains-append_right}
use Rattle.wiring.specs.declared.right.Atom.TheVariants as atom
use Rattle.wiring.specs.declared.right.Right.{Right}
use Rattle.wiring.specs.declared.right.Right.TheVariants.{Word}
use Rattle.wiring.specs.declared.netlist.Net.{Net}
use Rattle.wiring.specs.declared.netlist.Net.TheVariants.{Reg}
use Rattle.wiring.specs.declared.netlist.Holder.{Holder}
use Rattle.wiring.specs.declared.netlist.Holder.TheVariants.{OfNet, OfArray}
use Rattle.wiring.specs.declared.netlist.Shape.{Shape}
use Rattle.wiring.specs.declared.netlist.Assign.{Assign}
use Rattle.wiring.specs.declared.netlist.Update.{Update}
use Rattle.wiring.specs.declared.netlist.Update.TheVariants.{Set, Put}
use Rattle.wiring.specs.Netlist.{Netlist, depth, IsState, update_target}
use Rattle.wiring.specs.Snapshot.{net_value, word_value, right_accesses}
use Rattle.wiring.proofs.Search.{at_push}
use Rattle.net_build.specs.Includes.{Includes, InEach, AtEachEdge}
use Rattle.net_build.specs.Draft.{IsDraft, IsFree, AddsWires, UpdatedBut, number, with_wire, with_array, with_reg, with_update}
use Rattle.net_build.specs.Runs.{StaysBelow, StaysInside, IsStill, StillBut}
use Rattle.net_build.specs.Control.{is_control, AddsReads, AddsNoReads}
use Rattle.net_build.specs.Depth.{IsWithin, IsOver, by_itself, is_start, control_levels, SetsWithin}
use Rattle.net_build.proofs.Depth.{within_more, within_deeper, within_wire, within_net}
use Rattle.net_build.proofs.Levels.{control_path, choice_within, starts_at, register_starts}
use Rattle.net_build.specs.Indices.{put_indices}
use Rattle.net_build.proofs.Indexed.{puts_behind}
use Rattle.net_build.specs.Logic.{AddsLogic, Computes}
use Rattle.net_build.specs.declared.counters.Indices.{Indices}
use Rattle.net_build.specs.Counters.{control_nets, unless_held, loaded, IsLoaded, IsIndexNet, Cycles}
use Rattle.net_build.proofs.Parts.{Includes-refl, Includes-trans, at_Begins, InEach-more}
use Rattle.net_build.proofs.Grown.{net_more}
use Rattle.net_build.proofs.Runs.{AtEachEdge-more, clock_more}
use Rattle.net_build.proofs.Stops.{inside_below, below_more}
use Rattle.net_build.proofs.Reading.{reads_none, reads_joined, none_reads, reads_word}
use Rattle.net_build.proofs.Standing.{still_array, still_reg, still_wires, still_update, still_said, still_copies, still_ready, ready_last}
use Rattle.net_build.proofs.Updating.{but_array, but_reg, but_wires, but_update}
use Rattle.line_buffer.specs.Added.{EachAdded}
use Rattle.line_buffer.specs.Fills.{IsWordAt, IsUnlessHeld}
use Rattle.line_buffer.specs.Lines.{AreIndices, IsBlockLine}
use Rattle.line_buffer.specs.Buffers.{AddsBuffer, ReadsInside, PutsInside, is_new, TakesAdded, IsAdded}
use Rattle.line_buffer.proofs.More.{added_as, added_last, added_weaker, added_joined, inside_more, none_inside, op_inside_in, le_is}
use Rattle.line_buffer.proofs.Depth.{index_within_more}
use Rattle.line_buffer.specs.Depths.{line_operators, ahead_operators}
use Rattle.line_buffer.proofs.Filling.{contains_more, right_more, unless_held_more, loaded_more}
use Rattle.line_buffer.specs.Indices.{AreReadAndPut}
use Rattle.line_buffer.proofs.Indexed.{block_once}
use Rattle.line_buffer.proofs.Blocking.{block_still, copy_still}

-- indices as the netlist grows
pub cycles_more : (b a : Netlist) (last : ℕ) (now next : Net) → Includes b a → Cycles a last now next → Cycles b last now next
cycles_more b a last now next f is = record {
  now_is = λ m from before c s clock. is.now_is m from before c s (clock_more b a m from before c s f clock);
  next_is = λ m from before c s clock. is.next_is m from before c s (clock_more b a m from before c s f clock);
}

pub indices_more : (b a : Netlist) (words : ℕ) (at : Indices) → Includes b a → AreIndices a words at → AreIndices b words at
indices_more b a words at f is = record {
  cycles = cycles_more b a _ at.now at.next f is.cycles;
  now_net = net_more b a f at.now is.now_net;
  next_net = net_more b a f at.next is.next_net;
  now_below = below_more b a words at.now f is.now_below;
  next_below = below_more b a words at.next f is.next_below;
  now_control = index_within_more b a line_operators at.now f is.now_control;
  next_control = index_within_more b a ahead_operators at.next f is.next_control;
}

-- those of a cycle
pub made_indices : (b : Netlist) (register bits last words : ℕ) (at : Indices) → 0 < words → last ≡ words - 1 → IsIndexNet b register bits last at.now → IsIndexNet b register bits last at.next → Cycles b last at.now at.next → IsWithin b (is_control b.enable) line_operators (OfNet at.now) → IsWithin b (is_control b.enable) ahead_operators (OfNet at.next) → AreIndices b words at
made_indices b register bits last words at some e now next cycles now_depth next_depth = record {
  cycles = subst (λ (n : ℕ). Cycles b n at.now at.next) e cycles;
  now_net = now.there;
  next_net = next.there;
  now_below = subst (λ (n : ℕ). StaysBelow b n at.now) all now.below;
  next_below = subst (λ (n : ℕ). StaysBelow b n at.next) all next.below;
  now_control = now_depth;
  next_control = next_depth;
}
  where
    all : suc last ≡ words
    all = omega (arith, some, e)

-- a new array waits while a register is added and set
pub still_free : (b2 b3 b4 b5 b6 b7 : Netlist) (x width : ℕ) (copy taken : Net) → IsFree b2 (OfArray x) → b3 ≡ with_reg b2 width → AddsWires b4 b3 → AddsLogic b5 b4 → AddsLogic b6 b5 → b7 ≡ with_update b6 (Set (number copy) (atom.Net taken)) → IsFree b7 (OfArray x)
still_free b2 b3 b4 b5 b6 b7 x width copy taken free made wired logic5 logic6 set k v at e =
    let u : Update = Set (number copy) (atom.Net taken) in
    let same : b7.updates ≡ b2.updates ++ u ∷ [] =
    ap (λ (b : Netlist). b.updates) set
    ∙ ap (λ (us : List Update). us ++ Set (number copy) (atom.Net taken) ∷ []) (logic6.wires.updates ∙ logic5.wires.updates ∙ wired.updates ∙ ap (λ (b : Netlist). b.updates) made) in
    elim (at_push b2.updates u v k (subst (λ (us : List Update). slice_get us k ≡ Some v) same at)) as (λ _. ⊥) [
      | inl earlier ↦ free k v earlier e
      | inr last ↦ (let f : OfNet (Reg (number copy)) ≡ OfArray x = subst (λ (y : Update). update_target y ≡ OfArray x) (sym last.1) e in cc)
    ]

-- two updates
two_added : {X : Type 0} (P : X → Type 0) (old : List X) (u v : X) → P u → P v → EachAdded P ((old ++ u ∷ []) ++ v ∷ []) old
two_added P old u v p q k y low at =
    elim (at_push (old ++ u ∷ []) v y k at) as (λ _. P y) [
      | inl earlier ↦ added_last P old u p k y low earlier
      | inr last ↦ subst P last.1 q
    ]

module _ (b1 b2 b3 b4 b5 b6 b7 b8 : Netlist) (width words x : ℕ) (value copy ahead taken stored : Net) (at : Indices) (indices : AreIndices b1 words at) (some : 2 ≤ words)
    (made2 : b2 ≡ with_array b1 (record { width = width; depth = words })) (numbered : x ≡ length b1.arrays) (there : slice_get b2.arrays x ≡ Some (record { width = width; depth = words })) (f21 : Includes b2 b1) (made3 : b3 ≡ with_reg b2 width) (copy_is : copy ≡ Reg (length b2.regs)) (f32 : Includes b3 b2)
    (f43 : Includes b4 b3) (read : (b4 ≡ b3) ⊎ (b4 ≡ with_wire b3 (Word x (atom.Net at.next)))) (wired : AddsWires b4 b3) (ahead_is : InEach b4 (λ m s. net_value s ahead ≡ word_value s x (net_value s at.next))) (ahead_read : IsWordAt b4 x at.next ahead)
    (logic5 : AddsLogic b5 b4) (taken_is : Computes b5 b4 (control_nets b4.enable ++ copy ∷ (ahead ∷ [])) width (λ s. loaded b4.enable (net_value s copy) (net_value s ahead) s) taken) (taken_right : IsLoaded b5 copy ahead taken)
    (logic6 : AddsLogic b6 b5) (stored_is : Computes b6 b5 (control_nets b5.enable ++ copy ∷ (value ∷ [])) width (λ s. unless_held b5.enable (net_value s copy) (net_value s value) s) stored) (stored_right : IsUnlessHeld b6 copy value stored)
    (f76 : Includes b7 b6) (set : b7 ≡ with_update b6 (Set (number copy) (atom.Net taken))) (set_edge : AtEachEdge b7 (λ s next. slice_get next.regs (number copy) ≡ Some (net_value s taken)))
    (f87 : Includes b8 b7) (put : b8 ≡ with_update b7 (Put x (atom.Net at.now) (atom.Net stored))) (put_edge : AtEachEdge b8 (λ s next. slice_get next.arrays x ≡ Some (slice_set (slice_index_or s.contents.arrays x []) (net_value s at.now) (net_value s stored)))) where
  abbrev shape : Shape
  shape = record { width = width; depth = words }

  abbrev r : ℕ
  r = length b1.regs

  abbrev u : Update
  u = Set (number copy) (atom.Net taken)

  abbrev w : Update
  w = Put x (atom.Net at.now) (atom.Net stored)

  regs2 : length b2.regs ≡ r
  regs2 = ap (λ (b : Netlist). length b.regs) made2

  pub copy_reg : copy ≡ Reg r
  copy_reg = copy_is ∙ ap (λ (k : ℕ). Reg k) regs2

  number_is : number copy ≡ r
  number_is = ap number copy_reg

  f86 : Includes b8 b6
  f86 = Includes-trans b8 b7 b6 f87 f76

  f85 : Includes b8 b5
  f85 = Includes-trans b8 b6 b5 f86 logic6.includes

  f84 : Includes b8 b4
  f84 = Includes-trans b8 b5 b4 f85 logic5.includes

  f83 : Includes b8 b3
  f83 = Includes-trans b8 b4 b3 f84 f43

  f82 : Includes b8 b2
  f82 = Includes-trans b8 b3 b2 f83 f32

  pub f81 : Includes b8 b1
  f81 = Includes-trans b8 b2 b1 f82 f21

  there8 : slice_get b8.arrays x ≡ Some shape
  there8 = at_Begins b2.arrays b8.arrays x shape f82.arrays there

  set_there : Contains b8.updates (Set r (atom.Net taken))
  set_there =
      contains_more b7.updates b8.updates (Set r (atom.Net taken)) f87.updates
      (subst (λ (b : Netlist). Contains b.updates (Set r (atom.Net taken))) (sym set)
      (Contains-append_right b6.updates (u ∷ []) (Set r (atom.Net taken)) (0, omega arith, ap (λ (k : ℕ). Set k (atom.Net taken)) number_is)))

  put_there : Contains b8.updates w
  put_there = subst (λ (b : Netlist). Contains b.updates w) (sym put) (Contains-append_right b7.updates (w ∷ []) w (0, omega arith, refl))

  block_is : IsBlockLine b8 x words value r
  block_is = record {
    shape = shape;
    there = there8;
    deep = refl;
    some = some;
    at = at;
    indices = indices_more b8 b1 words at f81 indices;
    ahead = ahead;
    read = right_more b8 b4 ahead (Word x (atom.Net at.next)) f84 ahead_read;
    reads = InEach-more (λ m s. net_value s ahead ≡ word_value s x (net_value s at.next)) b8 b4 f84 ahead_is;
    taken = taken;
    loads = subst (λ (n : Net). IsLoaded b8 n ahead taken) copy_reg (loaded_more b8 b5 copy ahead taken f85 taken_right);
    takes = λ m s part settled.
        taken_is.value m s (Includes-trans m b8 b5 part f85) settled
        ∙ ap (λ (n : Net). loaded b4.enable (net_value s n) (net_value s ahead) s) copy_reg
        ∙ ap (λ (e : Bool). loaded e (net_value s (Reg r)) (net_value s ahead) s) (sym f84.enable);
    set = set_there;
    copies = subst (λ (k : ℕ). AtEachEdge b8 (λ s next. slice_get next.regs k ≡ Some (net_value s taken))) number_is (AtEachEdge-more (λ s next. slice_get next.regs (number copy) ≡ Some (net_value s taken)) b8 b7 f87 set_edge);
    stored = stored;
    value = subst (λ (n : Net). IsUnlessHeld b8 n value stored) copy_reg (unless_held_more b8 b6 copy value stored f86 stored_right);
    stores = λ m s part settled.
        stored_is.value m s (Includes-trans m b8 b6 part f86) settled
        ∙ ap (λ (n : Net). unless_held b5.enable (net_value s n) (net_value s value) s) copy_reg
        ∙ ap (λ (e : Bool). unless_held e (net_value s (Reg r)) (net_value s value) s) (sym f85.enable);
    put = put_there;
    edge = put_edge;
  }

  pub block_line_is : IsBlockLine b8 (length b1.arrays) words value r
  block_line_is = subst (λ (y : ℕ). IsBlockLine b8 y words value r) numbered block_is

  -- its indices are inside it
  deep_in : (b : Netlist) → Includes b b2 → depth b x ≡ words
  deep_in b f = ap (λ (o : Option Shape). unwrap_or (option_map (λ (s : Shape). s.depth) o) 0) (at_Begins b2.arrays b.arrays x shape f.arrays there)

  index_inside : (b : Netlist) (n : Net) → Includes b b2 → StaysBelow b1 words n → StaysInside b (x, atom.Net n)
  index_inside b n f below =
      inside_below b x n (slice_get_within b.arrays x shape (at_Begins b2.arrays b.arrays x shape f.arrays there))
      (subst (λ (d : ℕ). StaysBelow b d n) (sym (deep_in b f)) (below_more b b1 words n (Includes-trans b b2 b1 f f21) below))

  pub next_inside : (b : Netlist) → Includes b b2 → StaysInside b (x, atom.Net at.next)
  next_inside b f = index_inside b at.next f indices.next_below

  pub now_inside : (b : Netlist) → Includes b b2 → StaysInside b (x, atom.Net at.now)
  now_inside b f = index_inside b at.now f indices.now_below

  -- what is added
  arrays_are : b8.arrays ≡ b1.arrays ++ shape ∷ []
  arrays_are = ap (λ (b : Netlist). b.arrays) put ∙ ap (λ (b : Netlist). b.arrays) set ∙ logic6.wires.arrays ∙ logic5.wires.arrays ∙ wired.arrays ∙ ap (λ (b : Netlist). b.arrays) made3 ∙ ap (λ (b : Netlist). b.arrays) made2

  regs_are : b8.regs ≡ b1.regs ++ width ∷ []
  regs_are =
      ap (λ (b : Netlist). b.regs) put ∙ ap (λ (b : Netlist). b.regs) set ∙ logic6.wires.regs ∙ logic5.wires.regs ∙ wired.regs ∙ ap (λ (b : Netlist). b.regs) made3
      ∙ ap (λ (l : List ℕ). l ++ width ∷ []) (ap (λ (b : Netlist). b.regs) made2)

  updates_are : b8.updates ≡ (b1.updates ++ u ∷ []) ++ w ∷ []
  updates_are =
      ap (λ (b : Netlist). b.updates) put
      ∙ ap (λ (us : List Update). us ++ w ∷ [])
      (ap (λ (b : Netlist). b.updates) set
      ∙ ap (λ (us : List Update). us ++ u ∷ []) (logic6.wires.updates ∙ logic5.wires.updates ∙ wired.updates ∙ ap (λ (b : Netlist). b.updates) made3 ∙ ap (λ (b : Netlist). b.updates) made2))

  abbrev ga : Holder
  ga = OfArray (length b1.arrays)

  abbrev gr : Holder
  gr = OfNet (Reg (length b2.regs))

  updated_all : (free : List Holder) → UpdatedBut b1 free → UpdatedBut b8 free
  updated_all free but =
      let with2 : UpdatedBut b2 (ga ∷ free) = subst (λ (b : Netlist). UpdatedBut b (ga ∷ free)) (sym made2) (but_array b1 shape free but) in
      let with3 : UpdatedBut b3 (gr ∷ (ga ∷ free)) = subst (λ (b : Netlist). UpdatedBut b (gr ∷ (ga ∷ free))) (sym made3) (but_reg b2 width (ga ∷ free) with2) in
      let with6 : UpdatedBut b6 (gr ∷ (ga ∷ free)) = but_wires b6 b5 (gr ∷ (ga ∷ free)) logic6.wires (but_wires b5 b4 (gr ∷ (ga ∷ free)) logic5.wires (but_wires b4 b3 (gr ∷ (ga ∷ free)) wired with3)) in
      let with7 : UpdatedBut b7 (ga ∷ free) = subst (λ (b : Netlist). UpdatedBut b (ga ∷ free)) (sym set) (but_update b6 u gr (ga ∷ free) (ap (λ (n : Net). OfNet (Reg (number n))) copy_is) with6) in
      subst (λ (b : Netlist). UpdatedBut b free) (sym put) (but_update b7 w ga free (ap (λ (j : ℕ). OfArray j) numbered) with7)

  only_new : (k : ℕ) (v : Update) → length b1.updates ≤ k → slice_get b8.updates k ≡ Some v → IsState b1 (update_target v) → ⊥
  only_new k v low at_v state =
      elim (at_push (b1.updates ++ u ∷ []) w v k (subst (λ (us : List Update). slice_get us k ≡ Some v) updates_are at_v)) as (λ _. ⊥) [
        | inl earlier ↦ (
            elim (at_push b1.updates u v k earlier) as (λ _. ⊥) [
              | inl old ↦ omega (arith, low, slice_get_within b1.updates k v old)
              | inr last ↦ (let s : IsState b1 (update_target u) = subst (λ (y : Update). IsState b1 (update_target y)) (sym last.1) state in omega (arith, s, number_is))
            ])
        | inr last ↦ (let s : IsState b1 (update_target w) = subst (λ (y : Update). IsState b1 (update_target y)) (sym last.1) state in omega (arith, s, numbered))
      ]

  still_all : (others : List ℕ) (free : List Holder) → StillBut b1 others free → StillBut b8 (others ++ r ∷ []) free
  still_all others free is =
      let all : List Holder = gr ∷ (ga ∷ free) in
      let with2 : StillBut b2 others (ga ∷ free) = subst (λ (b : Netlist). StillBut b others (ga ∷ free)) (sym made2) (still_array b1 shape others free is) in
      let with3 : StillBut b3 others all = subst (λ (b : Netlist). StillBut b others (gr ∷ (ga ∷ free))) (sym made3) (still_reg b2 width others (ga ∷ free) with2) in
      let with6 : StillBut b6 others all = still_wires b6 b5 others all logic6.includes logic6.wires (still_wires b5 b4 others all logic5.includes logic5.wires (still_wires b4 b3 others all f43 wired with3)) in
      let with7 : StillBut b7 others all = subst (λ (b : Netlist). StillBut b others (gr ∷ (ga ∷ free))) (sym set) (still_update b6 u others all with6) in
      let with8 : StillBut b8 others all = subst (λ (b : Netlist). StillBut b others (gr ∷ (ga ∷ free))) (sym put) (still_update b7 w others all with7) in
      let copies : List ℕ = others ++ r ∷ [] in
      let own : IsStill b8 copies ga = still_ready b8 (r ∷ []) copies ga (ready_last others (r ∷ [])) (subst (λ (y : ℕ). IsStill b8 (r ∷ []) (OfArray y)) numbered (block_still b8 x words value r block_is)) in
      let held : IsStill b8 copies gr = still_ready b8 [] copies gr (λ before ready. tt) (subst (λ (k : ℕ). IsStill b8 [] (OfNet (Reg k))) (sym regs2) (copy_still b8 x words value r block_is)) in
      still_said b8 copies ga free own (still_said b8 copies gr (ga ∷ free) held (still_copies b8 others (r ∷ []) all with8))

  controlled : EachAdded (TakesAdded b8 b1 (r ∷ [])) b8.updates b1.updates
  controlled = added_as (TakesAdded b8 b1 (r ∷ [])) ((b1.updates ++ u ∷ []) ++ w ∷ []) b8.updates b1.updates updates_are (two_added (TakesAdded b8 b1 (r ∷ [])) b1.updates u w (inl (0, omega arith, sym number_is)) tt)

  puts_in : EachAdded (PutsInside b8) b8.updates b1.updates
  puts_in = added_as (PutsInside b8) ((b1.updates ++ u ∷ []) ++ w ∷ []) b8.updates b1.updates updates_are
      (two_added (PutsInside b8) b1.updates u w (All-nil (StaysInside b8)) (All-cons (StaysInside b8) (x, atom.Net at.now) [] (now_inside b8 f82) (All-nil (StaysInside b8))))

  read_inside : All (StaysInside b8) (right_accesses (let q : Right Net ℕ = Word x (atom.Net at.next) in q))
  read_inside = All-cons (StaysInside b8) (x, atom.Net at.next) [] (next_inside b8 f82) (All-nil (StaysInside b8))

  reads_in : EachAdded (ReadsInside b8) b8.assigns b1.assigns
  reads_in =
      let six : EachAdded (ReadsInside b8) b6.assigns b3.assigns =
      added_joined (ReadsInside b8) b6.assigns b5.assigns b3.assigns logic6.includes.assigns
      (added_weaker (ReadsInside b6) (ReadsInside b8) b6.assigns b5.assigns (λ a. inside_more b8 b6 f86 (right_accesses a.right)) (none_inside b6 b5 logic6.reads))
      (added_joined (ReadsInside b8) b5.assigns b4.assigns b3.assigns logic5.includes.assigns
      (added_weaker (ReadsInside b5) (ReadsInside b8) b5.assigns b4.assigns (λ a. inside_more b8 b5 f85 (right_accesses a.right)) (none_inside b5 b4 logic5.reads))
      (op_inside_in b8 b4 b3 (Word x (atom.Net at.next)) read read_inside)) in
      added_as (ReadsInside b8) b6.assigns b8.assigns b1.assigns (ap (λ (b : Netlist). b.assigns) put ∙ ap (λ (b : Netlist). b.assigns) set)
      (subst (λ (xs : List Assign). EachAdded (ReadsInside b8) b6.assigns xs) (ap (λ (b : Netlist). b.assigns) made3 ∙ ap (λ (b : Netlist). b.assigns) made2) six)

  reads_are : AddsReads b8 b1 (is_new b1)
  reads_are =
      let new : ℕ → Bool = is_new b1 in
      let r2 = reads_none b2 b1 new (ap (λ (b : Netlist). b.assigns) made2) in
      let r3 = reads_joined b3 b2 b1 new f32 (reads_none b3 b2 new (ap (λ (b : Netlist). b.assigns) made3)) r2 in
      let r4 = reads_joined b4 b3 b1 new f43 (reads_word b3 b4 x (atom.Net at.next) new read (le_is (length b1.arrays) x (omega (arith, numbered)))) r3 in
      let r5 = reads_joined b5 b4 b1 new logic5.includes (none_reads b5 b4 new logic5.reads) r4 in
      let r6 = reads_joined b6 b5 b1 new logic6.includes (none_reads b6 b5 new logic6.reads) r5 in
      let r7 = reads_joined b7 b6 b1 new f76 (reads_none b7 b6 new (ap (λ (b : Netlist). b.assigns) set)) r6 in
      reads_joined b8 b7 b1 new f87 (reads_none b8 b7 new (ap (λ (b : Netlist). b.assigns) put)) r7

  -- what the copy takes
  abbrev IsTakenOver : Type 0
  IsTakenOver = IsOver b5 b4 2 (control_nets b4.enable ++ copy ∷ (ahead ∷ [])) taken

  ahead_within : IsWithin b4 is_start ahead_operators (OfNet ahead)
  ahead_within =
      let f41 : Includes b4 b1 = Includes-trans b4 b3 b1 f43 (Includes-trans b3 b2 b1 f32 f21) in
      within_wire b4 ahead (Word x (atom.Net at.next)) is_start ahead_operators ahead_read
      (All-cons (IsWithin b4 is_start ahead_operators) (OfArray x) (OfNet at.next ∷ []) (by_itself refl) (within_net b4 is_start ahead_operators at.next (within_more b4 b1 is_start f41 (control_path b1 ahead_operators ahead_operators at.next (omega arith) indices.next_control))))

  taken_within : IsTakenOver → IsWithin b8 is_start (control_levels b8.enable) (OfNet taken)
  taken_within over =
      within_more b8 b5 is_start f85
      (within_deeper (omega arith) (over is_start ahead_operators (choice_within b4 b4 is_start 0 ahead_operators copy ahead (omega arith) (Includes-refl b4) (starts_at b4 0) (register_starts b4 ahead_operators r copy copy_reg) ahead_within)))

  levels_are : IsTakenOver → EachAdded (SetsWithin b8) b8.updates b1.updates
  levels_are over = added_as (SetsWithin b8) ((b1.updates ++ u ∷ []) ++ w ∷ []) b8.updates b1.updates updates_are (two_added (SetsWithin b8) b1.updates u w (within_net b8 is_start (control_levels b8.enable) taken (taken_within over)) tt)

  pub block_adds : IsTakenOver → AddsBuffer b8 b1 (shape ∷ []) (r ∷ [])
  block_adds over = record {
    includes = f81;
    arrays = arrays_are;
    added = All-cons (IsAdded b8 b1) r [] (record { beyond = omega arith; there = omega (arith, ap length regs_are, length_push b1.regs width) }) (All-nil (IsAdded b8 b1));
    updated = updated_all;
    only = only_new;
    still = still_all;
    control = controlled;
    levels = levels_are over;
    reads_inside = reads_in;
    puts_inside = puts_in;
    reads = reads_are;
  }

  -- it is read once and put once
  unput_more : put_indices b7 x ≡ put_indices b4 x
  unput_more = puts_behind b7 b4 x (Includes-trans b7 b6 b4 f76 (Includes-trans b6 b5 b4 logic6.includes logic5.includes)) apart
    where
      updates7 : b7.updates ≡ b4.updates ++ u ∷ []
      updates7 = ap (λ (b : Netlist). b.updates) set ∙ ap (λ (us : List Update). us ++ u ∷ []) (logic6.wires.updates ∙ logic5.wires.updates)

      apart : (k : ℕ) (v : Update) → length b4.updates ≤ k → slice_get b7.updates k ≡ Some v → update_target v ≢ OfArray x
      apart k v low at_v e =
          elim (at_push b4.updates u v k (subst (λ (us : List Update). slice_get us k ≡ Some v) updates7 at_v)) as (λ _. ⊥) [
            | inl old ↦ omega (arith, low, slice_get_within b4.updates k v old)
            | inr last ↦ (let f : OfNet (Reg (number copy)) ≡ OfArray x = subst (λ (y : Update). update_target y ≡ OfArray x) (sym last.1) e in cc)
          ]

  pub made_once : IsDraft b1 → IsFree b2 (OfArray x) → (long : (words : ℕ) → Bool) → long words ≡ true → AreReadAndPut long b8 b1
  made_once draft free long at_least =
      let f74 : Includes b7 b4 = Includes-trans b7 b6 b4 f76 (Includes-trans b6 b5 b4 logic6.includes logic5.includes) in
      let none : ℕ → Bool = λ y. false in
      let unread : AddsNoReads b7 b4 = reads_joined b7 b6 b4 none f76 (reads_none b7 b6 none (ap (λ (b : Netlist). b.assigns) set)) (reads_joined b6 b5 b4 none logic6.includes logic6.reads logic5.reads) in
      block_once b1 b2 b3 b4 b7 b8 long shape x at.next at.now stored ahead draft numbered made2 free (ap (λ (b : Netlist). b.assigns) made3) (ap (λ (b : Netlist). b.updates) made3) (ap (λ (b : Netlist). b.arrays) made3) ahead_read read wired f74 unread unput_more
      (ap (λ (b : Netlist). b.arrays) set ∙ logic6.wires.arrays ∙ logic5.wires.arrays) put at_least
