-- What the module of a circuit does, once all its images are built.
use Rattle.std.proofs.Common.{◌≡◌, ◌⊎◌, ℕ, suc, ◌+◌, ◌-◌, ◌*◌, ◌<◌, ◌≤◌, Bool, true, false, List, [], ◌∷◌, ◌++◌, length, map, Some, refl, sym, ap, subst, ◌∙◌, inl, inr, arith, take, length-append}
use Rattle.std.specs.Prelude.{pos, IsTrue, All, max, Contains, slice_get, slice_index, slice_index_or, unwrap_or}
use Rattle.std.specs.Option.{option_map}
use Rattle.std.proofs.lemmas.Int.{ints}
use Rattle.std.proofs.lemmas.List.Elements.{All-weaker, All-contains}
use Rattle.std.proofs.Math.Nat.{le-max_left}
use Rattle.std.proofs.lemmas.Bool.{cases_lt}
use Rattle.std.proofs.lemmas.Option.{slice_get_within, slice_get-get_or}
use Rattle.std.proofs.lemmas.List.{get_or-map, length-map, take_all}
use Rattle.dk_base.specs.declared.stencils.Image.{Image}
use Rattle.dk_base.specs.declared.stencils.LiveRead.{LiveRead}
use Rattle.dk_base.specs.Types.{width_of as bits_of_type}
use Rattle.dk_base.specs.Stencils.{IsRead, place}
use Rattle.dk_base.proofs.Orders.{number_at, at_place, place_at, kept_at}
use Rattle.raster_delay.specs.Systems.{depth}
use Rattle.wiring.specs.declared.right.Atom.{Atom}
use Rattle.wiring.specs.declared.right.Atom.TheVariants as atom
use Rattle.wiring.specs.declared.right.Right.TheVariants.{Copy}
use Rattle.wiring.specs.declared.netlist.Net.{Net}
use Rattle.wiring.specs.declared.netlist.Net.TheVariants.{Input, Output}
use Rattle.wiring.specs.declared.netlist.Shape.{Shape}
use Rattle.wiring.specs.declared.netlist.Update.{Update}
use Rattle.wiring.specs.declared.netlist.Update.TheVariants.{Set, Put}
use Rattle.wiring.specs.declared.netlist.Holder.{Holder}
use Rattle.wiring.specs.declared.netlist.Holder.TheVariants.{OfNet, OfArray}
use Rattle.wiring.specs.Netlist.{Netlist, net_width, din_net, valid_net, dout_net, depth as array_depth}
use Rattle.wiring.specs.BufferBits.{array_bits, chosen_bits, atom_reads, update_reads, IsBufferBits}
use Rattle.wiring.specs.Rules.{UpdateIsSound}
use Rattle.wiring.specs.Snapshot.{Contents, Snapshot, net_value}
use Rattle.wiring.specs.Clock.{Clock, bit}
use Rattle.wiring.specs.History.{was_reset, counted}
use Rattle.net_build.specs.Includes.{Includes, InEach}
use Rattle.net_build.specs.Draft.{IsNet, UpdatesDiffer, flat}
use Rattle.net_build.specs.Runs.{IsClockOf, InEachRun, IsWhole, RunsOn}
use Rattle.net_build.specs.Control.{FedOnly, IsMadeOf, is_control, is_control_but, IsControlBut, TakesControl, IsControlled, AddsReads}
use Rattle.net_build.specs.Indices.{read_indices, put_indices}
use Rattle.net_build.proofs.Parts.{Includes-refl, Includes-trans}
use Rattle.net_build.proofs.Runs.{clock_more}
use Rattle.net_build.proofs.Grown.{net_more, width_more}
use Rattle.net_build.specs.Depth.{IsWithin, by_itself, is_start, hold_levels, control_levels, SetsWithin}
use Rattle.net_build.proofs.Depth.{within_more, within_wider, within_made, within_deeper, within_wire, within_net}
use Rattle.net_build.proofs.Levels.{control_path}
use Rattle.circuit.specs.Paths.{HasLevelsWithin, BoundsLevels, HasClockPaths}
use Rattle.circuit.proofs.Clocked.{source_start, copied_within, is_pair, index_within, put_within}
use Rattle.net_build.proofs.Control.{made_more, made_wider, made_wire, made_net, outputs_control}
use Rattle.net_build.proofs.Reading.{outputs_read}
use Rattle.net_build.proofs.Indexed.{reads_last, puts_last}
use Rattle.net_build.proofs.Updating.{all_updated}
use Rattle.net_build.proofs.Finished.{output_shown}
use Rattle.net_build.proofs.Standing.{held_same}
use Rattle.pointwise_ir.specs.Programs.{Program, IsBody}
use Rattle.pointwise_ir.specs.Trees.{Tree}
use Rattle.pointwise_ir.specs.Stencils.{AreStencilsOf}
use Rattle.buffer_plan.specs.Plans.{Plan, IsPlan, place_in, ages_of, read_age, delay_of, width_of, depth_of, latency_of, bits_of}
use Rattle.buffer_plan.proofs.Aged.{are_ages}
use Rattle.line_buffer.specs.Streams.{BufferIsRight}
use Rattle.line_buffer.specs.Places.{word_at}
use Rattle.line_buffer.specs.Chains.{AreCopies}
use Rattle.line_buffer.proofs.Ages.{age_within}
use Rattle.circuit.specs.Rounds.{Rounds, AreRounds, Feeds, type_at, pixel_bits, pixel_count}
use Rattle.circuit.specs.Taps.{Keeps, taps_at, HaveTaps, IsTapOf, AreTapsOf, HasControl, size_in}
use Rattle.line_buffer.specs.Fills.{HasRight, AreFilled}
use Rattle.line_buffer.proofs.Filling.{fills_more}
use Rattle.line_buffer.proofs.Depth.{index_within_more}
use Rattle.line_buffer.specs.Depths.{line_operators}
use Rattle.circuit.specs.Forms.{Shapes, Form, HasProperty, shapes_of, first_array, end_array}
use Rattle.edge_select.specs.declared.frame_tests.FrameTests.{FrameTests}
use Rattle.circuit.specs.Images.{IsLine, IsOverReads, HasTapsOf, AreBuilt, AreBuiltWith, words_in, reads_directly, tap_source_of, source_of, direct_source, image_levels}
use Rattle.circuit.proofs.Keeping.{adds_for}
use Rattle.circuit.specs.Behaviour.{net_of, is_valid, ShowsPixels, read_net, AreReadNets, Behaves, HasPorts}
use Rattle.circuit.specs.Nets.{AreNetsOf, IsApart, kept_source_of, HasReadNets, IsComputed, AreComputed}
use Rattle.circuit.specs.Modules.{CopyLongArrays, AddsCopies, HasBits, ReadsOnly, IsModuleOf}
use Rattle.circuit.specs.Ends.{valid_levels, output_in, CanEnd, IsClosed}
use Rattle.circuit.specs.Registers.{CountsRegisters, HasRegisters}
use Rattle.net_build.specs.Registers.{register_bits, distinct}
use Rattle.line_buffer.specs.declared.sharing.Turns.{Turns}
use Rattle.line_buffer.specs.SharedCounters.{line_words, block_words, index_bits, long_words, short_words, copy_bits}
use Rattle.edge_select.proofs.Framed.{tests_more}
use Rattle.circuit.proofs.Streamed.{Line, Streams, AreImages}
use Rattle.circuit.proofs.Horizons.{horizon}
use Rattle.circuit.proofs.Feeding.{feeds_earlier, input_right, whole_nets, whole_taps}
use Rattle.circuit.proofs.Bits.{shapes_bits}
use Rattle.circuit.proofs.Sourced.{source_kept, control_kept, own_kept, control_direct, but_direct, copies_last}
use Rattle.circuit.proofs.Building.{place_of_entry, entry_kept, built_lasts}
use Rattle.circuit.proofs.Typing.{entry_or, plan_width}
use Rattle.circuit.proofs.Forming.{plan_depth, plan_wide}
use Rattle.circuit.specs.Depths.{ChoosesAmong, test_levels}
use Rattle.circuit.proofs.BodyNets.{read_of}
use Rattle.circuit.proofs.Computed.{one_tap}
use Rattle.circuit.proofs.Netted.{place_of, shows_only, output_right, some_array, put_made, first_stores, later_stores, long_copied}
use Rattle.wiring.proofs.Search.{at_push}
use Rattle.circuit.proofs.Leaving.{flat_at, valids_long}
use Rattle.circuit.proofs.Registered.{none_asked}

-- the buffer bits are those of the arrays and of the copies that a din reaches, where no other register is reached
with_copies : (m : Netlist) (n : ℕ) (copies : List ℕ) → array_bits m.arrays ≡ n → FedOnly m copies → (k : ℕ) → IsBufferBits m k → AddsCopies m n copies k
with_copies m n copies arrays fed k is = record {
  fed = is.fed;
  size = is.size;
  each = λ r lt. (λ t. (fed r ((is.each r lt).0 t), (is.each r lt).0 t), λ both. (is.each r lt).1 both.1);
  bits = is.bits ∙ ap (λ (a : ℕ). a + chosen_bits m.regs is.fed) arrays;
}

-- the arrays of an image that has this one among them
record Owns (shapes : Shapes) (plan : Plan) (images : List Image) (x : ℕ) : Type 0 where
  pub number : ℕ
  pub image : Image
  pub at : slice_get images number ≡ Some image
  pub low : length (shapes_of shapes plan (take number images)) ≤ x
  pub high : x < length (shapes_of shapes plan (take number images)) + length (shapes plan image.number)

owner : (shapes : Shapes) (plan : Plan) (images : List Image) (x : ℕ) → x < length (shapes_of shapes plan images) → Owns shapes plan images x
owner shapes plan [] x lt = absurd (let f : ⊥ = omega (arith, lt) in f)
owner shapes plan (i ∷ images) x lt =
    elim (cases_lt x (length (shapes plan i.number))) as (λ _. Owns shapes plan (i ∷ images) x) [
      | inl less ↦ record { number = 0; image = i; at = refl; low = omega arith; high = omega (arith, less) }
      | inr most ↦
          let long = length-append (shapes plan i.number) (shapes_of shapes plan images) in
          let rest = owner shapes plan images (x - length (shapes plan i.number)) (omega (arith, lt, long, most)) in
          let before = length-append (shapes plan i.number) (shapes_of shapes plan (take rest.number images)) in
          let low = rest.low in
          let high = rest.high in
          record {
            number = suc rest.number;
            image = rest.image;
            at = rest.at;
            low = omega (arith, before, low, most);
            high = omega (arith, before, high, most);
          }
    ]

-- what was built for a kept image
line_at : (b : Netlist) (p : Program) (plan : Plan) (form : Form) (nets : List Net) (taps : List (List Net)) → (built : AreBuilt b p plan form (length plan.system.stencils.images) nets taps) →
    (g : ℕ) → Keeps plan g → IsLine b p plan form built.copies taps g (net_of plan nets g)
line_at b p plan form nets taps built g kept =
    let images = plan.system.stencils.images in
    let none : Image = record { number = 0; width = 0 } in
    let number : (slice_index_or images (place_in plan g) none).number ≡ g = at_place images g none kept in
    subst (λ (j : ℕ). IsLine b p plan form built.copies taps j (net_of plan nets g)) number (built.line (place_in plan g) (slice_index_or images (place_in plan g) none) kept (slice_get-get_or images (place_in plan g) none kept))

-- each kept image has its taps
pub have_taps : (b : Netlist) (p : Program) (plan : Plan) (form : Form) (nets : List Net) (taps : List (List Net)) → AreBuilt b p plan form (length plan.system.stencils.images) nets taps → HaveTaps plan taps
have_taps b p plan form nets taps built g kept =
    (subst (λ (n : ℕ). place_in plan g < n) (sym built.tap_count) kept, (line_at b p plan form nets taps built g kept).buffer.one_each)

-- the image of a live read has its taps
pub tap_room : (plan : Plan) (taps : List (List Net)) (items : List LiveRead) (k : ℕ) (d : LiveRead) → IsPlan plan → HaveTaps plan taps → items ≡ plan.system.stencils.reads → k < length items →
    (place_in plan (slice_index_or items k d).g < length taps) × (length (taps_at plan taps (slice_index_or items k d).g) ≡ length (ages_of plan (slice_index_or items k d).g))
tap_room plan taps items k d is have same lt =
    let at : k < length plan.system.stencils.reads = subst (λ (xs : List LiveRead). k < length xs) same lt in
    subst (λ (xs : List LiveRead). (place_in plan (slice_index_or xs k d).g < length taps) × (length (taps_at plan taps (slice_index_or xs k d).g) ≡ length (ages_of plan (slice_index_or xs k d).g))) (sym same)
    (have (slice_index_or plan.system.stencils.reads k d).g (is.system.stencils.reads.between k d at).source_kept)

-- one tap more
pub next_tap : (plan : Plan) (taps : List (List Net)) (items : List LiveRead) (k : ℕ) (d : LiveRead) (reads : List Net) (tap : Net) → AreTapsOf plan taps k reads → items ≡ plan.system.stencils.reads → k < length items → IsTapOf plan taps (slice_index_or items k d) tap →
    AreTapsOf plan taps (suc k) (reads ++ tap ∷ [])
next_tap plan taps items k d reads tap are same lt is = record {
  one_each = length-append reads (tap ∷ []) ∙ (let e = are.one_each in omega (arith, e));
  each = λ j r t at on. elim (at_push reads tap t j on) as (λ _. IsTapOf plan taps r t) [
    | inl old ↦ are.each j r t at old
    | inr new ↦
        let here : j ≡ k = new.0 ∙ are.one_each in
        let is_read : slice_index_or items k d ≡ r = subst (λ (xs : List LiveRead). slice_index_or xs k d ≡ r) (sym same) (entry_or plan.system.stencils.reads k r d (subst (λ (i : ℕ). slice_get plan.system.stencils.reads i ≡ Some r) here at)) in
        subst (λ (z : Net). IsTapOf plan taps r z) new.1 (subst (λ (q : LiveRead). IsTapOf plan taps q tap) is_read is)
  ];
}

-- the images of outputs are kept
output_kept : (plan : Plan) (k : ℕ) → IsPlan plan → k < length plan.system.stencils.outputs → Keeps plan (output_in plan k)
output_kept plan k is lt = is.system.stencils.outputs.outputs_kept k 0 lt

-- the outputs of what is built can be driven
pub can_end : (b : Netlist) (p : Program) (plan : Plan) (form : Form) (nets : List Net) (taps : List (List Net)) → IsPlan plan → AreStencilsOf p plan.system.stencils →
    AreBuilt b p plan form (length plan.system.stencils.images) nets taps → CanEnd b plan nets
can_end b p plan form nets taps is stencils built = record {
  count = built.net_count;
  widths = map (λ (g : ℕ). bits_of_type (type_at p g)) p.outputs;
  outputs = built.ports.outputs;
  one_each = length-map p.outputs (λ (g : ℕ). bits_of_type (type_at p g)) ∙ sym (ap length stencils.outputs);
  net = λ k lt. (line_of k lt).there;
  width = λ k lt. (line_of k lt).width ∙ plan_width p plan (output_in plan k) stencils (output_kept plan k is lt) ∙ width_at k lt;
  updated = built.updated;
}
  where
    line_of : (k : ℕ) → k < length plan.system.stencils.outputs → IsLine b p plan form built.copies taps (output_in plan k) (net_of plan nets (output_in plan k))
    line_of k lt = line_at b p plan form nets taps built (output_in plan k) (output_kept plan k is lt)

    width_at : (k : ℕ) → k < length plan.system.stencils.outputs → bits_of_type (type_at p (output_in plan k)) ≡ slice_index (map (λ (g : ℕ). bits_of_type (type_at p g)) p.outputs) k
    width_at k lt =
        let within : k < length p.outputs = omega (arith, lt, ap length stencils.outputs) in
        ap (λ (os : List ℕ). bits_of_type (type_at p (slice_index os k))) stencils.outputs ∙ sym (get_or-map (λ (g : ℕ). bits_of_type (type_at p g)) p.outputs k 0 0 within)

module _ (m b : Netlist) (p : Program) (plan : Plan) (form : Form) (nets : List Net) (taps : List (List Net)) (tests : FrameTests)
    (is : IsPlan plan) (stencils : AreStencilsOf p plan.system.stencils) (has : AreBuiltWith b p plan form (length plan.system.stencils.images) nets taps tests) (closed : IsClosed m b plan nets tests) where
  abbrev built : AreBuilt b p plan form (length plan.system.stencils.images) nets taps
  built = has.built

  abbrev images : List Image
  images = plan.system.stencils.images

  abbrev last : Netlist
  last = closed.last

  all_built : AreBuilt last p plan form (length images) nets taps
  all_built = built_lasts last b p plan form (length images) nets taps is (omega arith) closed.draft built (adds_for last b tests tests built.copies closed.adds built.control has.apart)

  grows : Includes m last
  grows = closed.whole.includes

  abbrev copies : List ℕ
  copies = all_built.copies

  line : (g : ℕ) → Keeps plan g → IsLine last p plan form copies taps g (net_of plan nets g)
  line g kept = line_at last p plan form nets taps all_built g kept

  -- the images as streams
  abbrev lines : ℕ → Line
  lines g = record { net = net_of plan nets g; ages = ages_of plan g; taps = taps_at plan taps g; place = form.places plan g }

  abbrev streams : Rounds → Streams
  streams rounds = record { pixel = pixel_bits p rounds; count = pixel_count p rounds; delay = delay_of plan }

  abbrev IsInput : ℕ → Type 0
  IsInput g = g < length p.inputs

  no_input : (g : ℕ) → length p.inputs ≤ g → IsInput g → ⊥
  no_input g high low = omega (arith, low, high)

  input_or : (g : ℕ) → IsInput g ⊎ (IsInput g → ⊥)
  input_or g = elim (cases_lt g (length p.inputs)) as (λ _. IsInput g ⊎ (IsInput g → ⊥)) [
    | inl low ↦ inl low
    | inr high ↦ inr (no_input g high)
  ]

  past_inputs : (g : ℕ) → (IsInput g → ⊥) → length p.inputs ≤ g
  past_inputs g other = elim (cases_lt g (length p.inputs)) as (λ _. length p.inputs ≤ g) [
    | inl low ↦ absurd (other low)
    | inr high ↦ high
  ]

  -- inputs are kept, in their places, and not delayed
  abbrev none : Image
  none = record { number = 0; width = 0 }

  input_low : (g : ℕ) → IsInput g → g < plan.system.stencils.inputs
  input_low g low = omega (arith, low, stencils.inputs)

  input_within : (g : ℕ) → IsInput g → g < length images
  input_within g low = (let few = is.system.stencils.images.inputs_kept in let l = input_low g low in omega (arith, l, few))

  input_number : (g : ℕ) → IsInput g → (slice_index_or images g none).number ≡ g
  input_number g low = sym (number_at images g none (input_within g low)) ∙ is.system.stencils.images.inputs_first g (input_low g low)

  input_kept : (g : ℕ) → IsInput g → Keeps plan g
  input_kept g low = kept_at images g g none (input_within g low) (input_number g low)

  input_place : (g : ℕ) → IsInput g → place_in plan g ≡ g
  input_place g low = ap (place images) (sym (input_number g low)) ∙ place_at images g none is.system.stencils.images.ascending (input_within g low)

  input_delay : (g : ℕ) → IsInput g → delay_of plan g ≡ 0
  input_delay g low = ap (λ (k : ℕ). slice_index plan.delays k) (input_place g low) ∙ is.causal.inputs_at_once g (input_low g low)

  -- all that the induction over clocks and images asks for
  parts : (n : Netlist) (from : Contents) (rounds : Rounds) → AreRounds p rounds → AreImages last n copies from (streams rounds) lines (Keeps plan) IsInput (Feeds n p rounds)
  parts n from rounds are = record {
    buffer = λ g kept. (line g kept).buffer;
    within = λ g k age kept at. age_within (ages_of plan g) (are_ages plan g).ascending k age at;
    earlier = λ before c off feeds. feeds_earlier n p rounds before c off feeds;
    input = λ before c s run feeds g low.
        input_right last n from p rounds (streams rounds) lines before c s run feeds g low
        ((line g (input_kept g low)).input low ∙ ap (λ (e : Bool). din_net (record last { enable = e }) g) (sym run.clock.whole.includes.enable)) (input_delay g low) (λ q. refl) refl;
    body = λ before c s run f kept other right. (line f kept).body (past_inputs f other) n from before c s run rounds are right;
  }

  shown : (g : ℕ) → Keeps plan g → ShowsPixels m p (delay_of plan g) g (net_of plan nets g)
  shown g kept n from before c s run rounds are feeds = whole_nets m last n grows copies from (streams rounds) lines (Keeps plan) IsInput (Feeds n p rounds) input_or (parts n from rounds are) before c s run feeds g kept

  horizons : (n : Netlist) (from : Contents) (before : List Clock) (c : Clock) (s : Snapshot) → IsClockOf m n from before c s → IsTrue (was_reset before) → (rounds : Rounds) → AreRounds p rounds → Feeds n p rounds before → (g : ℕ) → Keeps plan g →
      BufferIsRight (λ age t. word_at s.contents (form.places plan g age t)) (pixel_bits p rounds g) (pixel_count p rounds) (delay_of plan g) (depth_of plan g) (length (counted n before))
  horizons n from before c s clock since rounds are feeds g kept =
      subst (λ (d : ℕ). BufferIsRight (λ age t. word_at s.contents (form.places plan g age t)) (pixel_bits p rounds g) (pixel_count p rounds) (delay_of plan g) d (length (counted n before))) (plan_depth plan g)
      (horizon last n copies from (streams rounds) lines (Keeps plan) IsInput (Feeds n p rounds) input_or (parts n from rounds are) before c s (clock_more m last n from before c s grows clock) since feeds g kept)

  -- what the outputs show
  outs_count : length closed.outs ≡ length p.outputs
  outs_count = closed.are_outs.count ∙ ap length stencils.outputs

  abbrev out : ℕ → Net × Net
  out k = slice_index_or closed.outs k (Input 0, Input 0)

  out_at : (k : ℕ) → k < length p.outputs → slice_get closed.outs k ≡ Some (out k)
  out_at k lt = slice_get-get_or closed.outs k (Input 0, Input 0) (omega (arith, lt, outs_count))

  drives : (k : ℕ) (n : Net) → slice_get (flat closed.outs) k ≡ Some n → InEach m (λ w s. net_value s (Output k) ≡ net_value s n)
  drives k n at = subst (λ (x : Netlist). InEach x (λ w s. net_value s (Output k) ≡ net_value s n)) (sym closed.driven) (output_shown last (flat closed.outs) k n at)

  douts : (k g : ℕ) → slice_get p.outputs k ≡ Some g → ShowsPixels m p (latency_of plan k) g (dout_net k)
  douts k g at n from before c s run rounds are feeds q due low =
      let within : k < length p.outputs = slice_get_within p.outputs k g at in
      let listed : k < length plan.system.stencils.outputs = omega (arith, within, ap length stencils.outputs) in
      let same : output_in plan k ≡ g = ap (λ (os : List ℕ). slice_index os k) stencils.outputs ∙ entry_or p.outputs k g 0 at in
      let kept : Keeps plan g = subst (Keeps plan) same (output_kept plan k is listed) in
      let net : (out k).1 ≡ net_of plan nets g = closed.are_outs.dout k (out k) (out_at k within) ∙ ap (net_of plan nets) same in
      let here : q + delay_of plan g ≡ length (counted n before) = subst (λ (f : ℕ). q + delay_of plan f ≡ length (counted n before)) same due in
      drives (2 * k + 1) (out k).1 (flat_at closed.outs k (out k) (out_at k within)).1 n s run.clock.whole.includes run.clock.at.snapshot.settled ∙ ap (net_value s) net ∙ shown g kept n from before c s run rounds are feeds q here low

  valids : (k : ℕ) → k < length p.outputs → InEachRun m (λ n before c s. IsTrue (was_reset (c ∷ before)) → net_value s (valid_net k) ≡ bit (is_valid n (latency_of plan k) before c))
  valids k lt n from before c s clock since =
      drives (2 * k) (out k).0 (flat_at closed.outs k (out k) (out_at k lt)).0 n s clock.whole.includes clock.at.snapshot.settled ∙ (closed.are_outs.valid k (out k) (out_at k lt)).started n from before c s (clock_more m last n from before c s grows clock) since

  behaves : Behaves m p plan form.places copies nets
  behaves = record {
    one_each = built.net_count;
    net = shown;
    dout = douts;
    valid = valids;
    horizon = horizons;
    held = λ n from before c s clock same ready held next goes. held_same m n copies from before c s next (closed.still copies all_built.still) clock same ready held goes;
  }

  -- the ports, and what every module keeps
  pub ports : HasPorts m p b.enable
  ports = record {
    enable_is = grows.enable ∙ closed.adds.includes.enable;
    inputs = grows.inputs ∙ closed.adds.includes.inputs ∙ built.ports.inputs;
    outputs = grows.outputs ∙ closed.adds.includes.outputs ∙ built.ports.outputs;
  }

  pub whole : IsWhole m m
  whole = record { includes = Includes-refl m; rules = closed.whole.rules; order = closed.whole.order; ordered = closed.whole.ordered }

  pub runs : RunsOn m
  runs = closed.runs all_built.stops

  -- the arrays are those of the kept images, and their bits the plan's
  last_arrays : last.arrays ≡ shapes_of form.shapes plan images
  last_arrays = all_built.arrays ∙ ap (shapes_of form.shapes plan) (take_all (length images) images (omega arith))

  pub arrays : m.arrays ≡ shapes_of form.shapes plan images
  arrays = ap (λ (x : Netlist). x.arrays) closed.driven ∙ last_arrays

  image_bits : (k : ℕ) (i : Image) → slice_get images k ≡ Some i → array_bits (form.shapes plan i.number) ≡ i.width * depth plan.system plan.delays (0 + k)
  image_bits k i at =
      let lt = slice_get_within images k i at in
      let there : place_in plan i.number ≡ k = place_of_entry images k i is.system.stencils.images.ascending at in
      let wide : width_of plan i.number ≡ i.width = ap (slice_index (map (λ (j : Image). j.width) images)) there ∙ get_or-map (λ (j : Image). j.width) images k none 0 lt ∙ ap (λ (j : Image). j.width) (entry_or images k i none at) in
      let deep : depth_of plan i.number ≡ depth plan.system plan.delays (0 + k) = ap (depth plan.system plan.delays) (let e : place_in plan i.number ≡ 0 + k = omega (arith, there) in e) in
      (all_built.line k i lt at).bits ∙ ap (λ (w : ℕ). w * depth_of plan i.number) wide ∙ ap (λ (d : ℕ). i.width * d) deep

  last_bits : array_bits last.arrays ≡ bits_of plan
  last_bits = ap array_bits last_arrays ∙ shapes_bits form.shapes plan (depth plan.system plan.delays) 0 images image_bits

  own_bits : array_bits m.arrays ≡ bits_of plan
  own_bits = ap (λ (x : Netlist). array_bits x.arrays) closed.driven ∙ last_bits

  bits : HasBits m (bits_of plan) copies
  bits = record {
    arrays = own_bits;
    fed = closed.fed copies all_built.control;
    plain = λ none. subst (IsBufferBits m) last_bits (closed.bits (subst (IsControlled last) none all_built.control));
    exact = with_copies m (bits_of plan) copies own_bits (closed.fed copies all_built.control);
  }

  -- the image of an array
  owns : (x : ℕ) → x < length m.arrays → Owns form.shapes plan images x
  owns x lt = owner form.shapes plan images x (let here = ap length arrays in omega (arith, lt, here))

  owner_kept : (x : ℕ) (lt : x < length m.arrays) → Keeps plan (owns x lt).image.number
  owner_kept x lt = entry_kept images (owns x lt).number (owns x lt).image (owns x lt).at

  owner_first : (x : ℕ) (lt : x < length m.arrays) → first_array form.shapes plan (owns x lt).image.number ≡ length (shapes_of form.shapes plan (take (owns x lt).number images))
  owner_first x lt = ap (λ (k : ℕ). length (shapes_of form.shapes plan (take k images))) (place_of_entry images (owns x lt).number (owns x lt).image is.system.stencils.images.ascending (owns x lt).at)

  owner_low : (x : ℕ) (lt : x < length m.arrays) → first_array form.shapes plan (owns x lt).image.number ≤ x
  owner_low x lt = (let low = (owns x lt).low in omega (arith, low, owner_first x lt))

  owner_high : (x : ℕ) (lt : x < length m.arrays) → x < end_array form.shapes plan (owns x lt).image.number
  owner_high x lt = (let high = (owns x lt).high in omega (arith, high, owner_first x lt))

  words : (x : ℕ) → array_depth m x ≡ words_in form.shapes plan x
  words x = ap (λ (ss : List Shape). unwrap_or (option_map (λ (s : Shape). s.depth) (slice_get ss x)) 0) arrays

  -- each array keeps its form's property
  pub properties : HasProperty m form.property
  properties x lt =
      let here : length m.arrays ≡ length (shapes_of form.shapes plan images) = ap length arrays in
      let below : x < length last.arrays = omega (arith, lt, here, ap length last_arrays) in
      let w : ℕ = words_in form.shapes plan x in
      let each : form.property w (read_indices last x) (put_indices last x) = (line (owns x lt).image.number (owner_kept x lt)).each x (owner_low x lt) (owner_high x lt) in
      let no_reads : AddsReads m last (λ y. false) = subst (λ (n : Netlist). AddsReads n last (λ y. false)) (sym closed.driven) (outputs_read last (flat closed.outs)) in
      let differ : UpdatesDiffer m.updates = subst (λ (n : Netlist). UpdatesDiffer n.updates) (sym closed.driven) closed.draft.once in
      let read = reads_last m last (λ y. false) x grows no_reads refl in
      let put = puts_last m last x grows differ (all_updated last all_built.updated (OfArray x) below) in
      subst (λ (d : ℕ). form.property d (read_indices m x) (put_indices m x)) (sym (words x))
      (subst (λ ps. form.property w (read_indices m x) ps) (sym put) (subst (λ rs. form.property w rs (put_indices last x)) (sym read) each))

  -- the nets of the images in the module
  net_in : (g : ℕ) → Keeps plan g → IsNet m (net_of plan nets g)
  net_in g kept = net_more m last grows (net_of plan nets g) (line g kept).there

  filled : (g : ℕ) → Keeps plan g → AreFilled m (reads_directly form plan) copies (first_array form.shapes plan g) (end_array form.shapes plan g) (net_of plan nets g)
  filled g kept = fills_more m last (reads_directly form plan) copies (first_array form.shapes plan g) (end_array form.shapes plan g) (net_of plan nets g) grows (line g kept).fills

  some_there : (g : ℕ) → Keeps plan g → 0 < depth_of plan g → first_array form.shapes plan g < end_array form.shapes plan g
  some_there g kept deep =
      let wide = plan_wide plan g (width_of plan g) is kept refl in
      let some = some_array (form.shapes plan g) (width_of plan g) (depth_of plan g) (line g kept).bits wide.0 deep in
      omega (arith, some)

  dout_right : (k g : ℕ) → slice_get p.outputs k ≡ Some g → HasRight m (dout_net k) (Copy (atom.Net (net_of plan nets g)))
  dout_right k g at =
      let within : k < length p.outputs = slice_get_within p.outputs k g at in
      let same : output_in plan k ≡ g = ap (λ (os : List ℕ). slice_index os k) stencils.outputs ∙ entry_or p.outputs k g 0 at in
      let net : (out k).1 ≡ net_of plan nets g = closed.are_outs.dout k (out k) (out_at k within) ∙ ap (net_of plan nets) same in
      subst (λ (n : Net). HasRight m (dout_net k) (Copy (atom.Net n))) net (output_right m last (flat closed.outs) (2 * k + 1) (out k).1 closed.driven (flat_at closed.outs k (out k) (out_at k within)).1)

  nets_of_images : AreNetsOf m p plan form copies nets
  nets_of_images = record {
    there = net_in;
    width = λ g kept. width_more m last grows (net_of plan nets g) (line g kept).there.declared ∙ (line g kept).width ∙ plan_width p plan g stencils kept;
    input = λ g kept low. (line g kept).input low ∙ ap (λ (e : Bool). din_net (record last { enable = e }) g) (sym grows.enable);
    driven = λ k g at. shows_only m closed.whole.rules.driven (dout_net k) (net_of plan nets g) (dout_right k g at);
    stored = λ g kept deep. first_stores m form plan copies g (net_of plan nets g) (filled g kept) closed.whole.rules.updated (some_there g kept deep);
    passed_on = λ g x kept low high. later_stores m form plan copies g (net_of plan nets g) (filled g kept) closed.whole.rules.updated x low high;
  }

  -- the nets of live reads, in the module
  module _ (reads : List Net) (are : AreTapsOf plan taps (length plan.system.stencils.reads) reads) where
    abbrev no_read : LiveRead
    no_read = record { f = 0; g = 0; dx = pos 0; dy = pos 0 }

    read_at : (k : ℕ) (r : LiveRead) → slice_get plan.system.stencils.reads k ≡ Some r → IsTapOf plan taps r (read_net reads k)
    read_at k r at =
        let within : k < length plan.system.stencils.reads = slice_get_within plan.system.stencils.reads k r at in
        are.each k r (read_net reads k) at (slice_get-get_or reads k (Input 0) (subst (λ (n : ℕ). k < n) (sym are.one_each) within))

    read_source : (k : ℕ) (r : LiveRead) → slice_get plan.system.stencils.reads k ≡ Some r → Keeps plan r.g
    read_source k r at =
        let between : IsRead plan.system.stencils.width plan.system.stencils.height plan.system.stencils.inputs images r = subst (IsRead plan.system.stencils.width plan.system.stencils.height plan.system.stencils.inputs images) (entry_or plan.system.stencils.reads k r r at) (is.system.stencils.reads.between k r (slice_get_within plan.system.stencils.reads k r at)) in
        between.source_kept

    there_at : (k : ℕ) (r : LiveRead) → slice_get plan.system.stencils.reads k ≡ Some r → IsNet last (read_net reads k)
    there_at k r at = let tap = read_at k r at in (line r.g (read_source k r at)).buffer.net tap.place (read_net reads k) tap.there

    read_there : (k : ℕ) → k < length reads → IsNet m (read_net reads k)
    read_there k lt =
        let at = slice_get-get_or plan.system.stencils.reads k no_read (subst (λ (n : ℕ). k < n) are.one_each lt) in
        net_more m last grows (read_net reads k) (there_at k (slice_index_or plan.system.stencils.reads k no_read) at)

    read_width : (k : ℕ) (r : LiveRead) → slice_get plan.system.stencils.reads k ≡ Some r → net_width m (read_net reads k) ≡ bits_of_type (type_at p r.g)
    read_width k r at =
        let tap = read_at k r at in
        let kept = read_source k r at in
        width_more m last grows (read_net reads k) (there_at k r at).declared ∙ (line r.g kept).buffer.width tap.place (read_net reads k) tap.there ∙ (line r.g kept).width ∙ plan_width p plan r.g stencils kept

    read_shows : (k age : ℕ) (r : LiveRead) → slice_get plan.system.stencils.reads k ≡ Some r → pos age ≡ read_age plan r → ShowsPixels m p (delay_of plan r.g + age) r.g (read_net reads k)
    read_shows k age r at aged n from before c s run rounds ok feeds q due low =
        let tap = read_at k r at in
        let same : pos age ≡ pos tap.age = aged ∙ sym tap.is_age in
        let here : q + tap.age + delay_of plan r.g ≡ length (counted n before) = omega (arith, ints, same, due) in
        whole_taps m last n grows copies from (streams rounds) lines (Keeps plan) IsInput (Feeds n p rounds) input_or (parts n from rounds ok) before c s run feeds r.g (read_source k r at) tap.place tap.age q (read_net reads k) tap.aged tap.there here low

    pub read_nets : AreReadNets m p plan reads
    read_nets = record { one_each = are.one_each; there = read_there; width = read_width; shows = read_shows }

    -- each image is computed from the nets of its live reads
    taps_in : (f : ℕ) (base : Holder → Bool) → HasReadNets plan reads f base → HasTapsOf plan taps f base
    taps_in f base has r tap among tapped =
        let (listed, of_f) = read_of plan f r among in
        let (k, at) = place_of plan.system.stencils.reads r listed in
        subst (λ (n : Net). IsTrue (base (OfNet n))) (one_tap plan taps r (read_net reads k) tap (read_at k r at) tapped) (has k r at of_f)

    computed_image : (f : ℕ) → Keeps plan f → length p.inputs ≤ f → IsComputed m p plan reads f (net_of plan nets f)
    computed_image f kept past =
        let over : IsOverReads last p plan taps f (net_of plan nets f) = (line f kept).over past in
        record {
          made = λ base has own. made_more m last base grows (over.made base (subst (λ (e : Bool). HasControl e base) grows.enable has) (taps_in f base own));
          levels = λ e n is_body among base has own. within_more m last base grows (over.levels e n is_body among base (subst (λ (e : Bool). HasControl e base) grows.enable has) (taps_in f base own));
        }

    computed_now : (k : ℕ) (r : LiveRead) → slice_get plan.system.stencils.reads k ≡ Some r → read_age plan r ≡ pos 0 → read_net reads k ≡ net_of plan nets r.g
    computed_now k r at aged =
        let tap = read_at k r at in
        let same : pos tap.age ≡ pos 0 = tap.is_age ∙ aged in
        let zero_age : tap.age ≡ 0 = omega (arith, ints, same) in
        (line r.g (read_source k r at)).buffer.now tap.place (read_net reads k) (subst (λ (a : ℕ). slice_get (ages_of plan r.g) tap.place ≡ Some a) zero_age tap.aged) tap.there

    computed_later : (k age : ℕ) (r : LiveRead) → slice_get plan.system.stencils.reads k ≡ Some r → read_age plan r ≡ pos age → 0 < age → IsWithin m (tap_source_of form plan r.g m.enable) form.tap_levels (OfNet (read_net reads k))
    computed_later k age r at aged some =
        let tap = read_at k r at in
        let same : pos tap.age ≡ pos age = tap.is_age ∙ aged in
        let positive : 0 < tap.age = omega (arith, ints, same, some) in
        subst (λ (e : Bool). IsWithin m (tap_source_of form plan r.g e) form.tap_levels (OfNet (read_net reads k))) (sym grows.enable)
        (within_more m last (tap_source_of form plan r.g last.enable) grows ((line r.g (read_source k r at)).made tap.place tap.age (read_net reads k) tap.aged positive tap.there))

    pub computed : AreComputed m p plan form nets reads
    computed = record { image = computed_image; now = computed_now; later = computed_later }

  -- no path passes through two images
  pub apart : IsApart m p plan form nets
  apart aged f kept past =
      let base : Holder → Bool = source_of form plan f m.enable in
      let kept_base : Holder → Bool = kept_source_of form plan f m.enable in
      let made : IsMadeOf m base (OfNet (net_of plan nets f)) = subst (λ (e : Bool). IsMadeOf m (source_of form plan f e) (OfNet (net_of plan nets f))) (sym grows.enable) (made_more m last (source_of form plan f last.enable) grows ((line f kept).apart aged past)) in
      let deep : (e : Tree) (n : ℕ) → IsBody p f e → ChoosesAmong plan f e n → IsWithin m base (image_levels form e n) (OfNet (net_of plan nets f)) =
      λ e n is_body among. subst (λ (b : Bool). IsWithin m (source_of form plan f b) (image_levels form e n) (OfNet (net_of plan nets f))) (sym grows.enable) (within_more m last (source_of form plan f last.enable) grows ((line f kept).levels aged e n is_body among)) in
      record {
        net = made;
        levels = deep;
        dout_levels = λ k e n at is_body among. within_deeper (let g : 0 + image_levels form e n ≤ image_levels form e n = omega arith in g) (within_wire m (dout_net k) (Copy (atom.Net (net_of plan nets f))) base (image_levels form e n) (dout_right k f at) (within_net m base (image_levels form e n) (net_of plan nets f) (deep e n is_body among)));
        dout = λ k at. made_wire m (dout_net k) (Copy (atom.Net (net_of plan nets f))) base (dout_right k f at) (made_net m base (net_of plan nets f) made);
        put = λ x u low high at e.
            put_made m form plan copies f (net_of plan nets f) (filled f kept) kept_base (control_kept form plan f m.enable) (own_kept form plan f m.enable) closed.whole.rules.updated
            (made_wider m base kept_base (source_kept form plan f m.enable) made) x u low high at e;
      }

  -- the registers that it has
  pub registers : (turns : Turns) → CountsRegisters b p plan form.long turns tests → HasRegisters m p plan form.long
  registers turns are = record {
    tests = tests;
    tests_are = tests_more m b (size_in plan) tests (Includes-trans m last b grows closed.adds.includes) has.tests_are;
    asked = are.asked;
    none = none_asked b p plan tests is has.tests_are are.asked;
    bits =
        let here : m.arrays ≡ b.arrays = ap (λ (n : Netlist). n.arrays) closed.driven ∙ closed.adds.arrays in
        let regs : register_bits m ≡ register_bits last = ap register_bits closed.driven in
        let all = closed.starts in
        let lines : index_bits (line_words turns) ≡ index_bits (distinct (short_words form.long m.arrays)) = ap index_bits (are.lines ∙ ap (λ (ss : List Shape). distinct (short_words form.long ss)) (sym here)) in
        let blocks : index_bits (block_words turns) ≡ index_bits (distinct (long_words form.long m.arrays)) = ap index_bits (are.blocks ∙ ap (λ (ss : List Shape). distinct (long_words form.long ss)) (sym here)) in
        let copied_bits : copy_bits form.long b.arrays ≡ copy_bits form.long m.arrays = ap (copy_bits form.long) (sym here) in
        let were = are.bits in
        omega (arith, regs, all, lines, blocks, copied_bits, were);
  }

  -- no path leads from a long array but into its copy
  direct_net : (g : ℕ) → Keeps plan g → IsMadeOf m (direct_source form plan) (OfNet (net_of plan nets g))
  direct_net g kept = made_more m last (direct_source form plan) grows (line g kept).direct

  direct_dout : (k : ℕ) → k < length p.outputs → IsMadeOf m (direct_source form plan) (OfNet (dout_net k))
  direct_dout k lt =
      let g : ℕ = slice_index p.outputs k in
      let at : slice_get p.outputs k ≡ Some g = slice_get-get_or p.outputs k 0 lt in
      let listed : k < length plan.system.stencils.outputs = omega (arith, lt, ap length stencils.outputs) in
      let kept : Keeps plan g = subst (Keeps plan) (ap (λ (os : List ℕ). slice_index os k) stencils.outputs) (output_kept plan k is listed) in
      made_wire m (dout_net k) (Copy (atom.Net (net_of plan nets g))) (direct_source form plan) (dout_right k g at) (made_net m (direct_source form plan) (net_of plan nets g) (direct_net g kept))

  valid_within : (k : ℕ) → k < length p.outputs → IsWithin m (is_control m.enable) valid_levels (OfNet (out k).0)
  valid_within k lt = index_within_more m last valid_levels (out k).0 grows (closed.are_outs.valid k (out k) (out_at k lt)).depth

  direct_valid : (k : ℕ) → k < length p.outputs → IsMadeOf m (direct_source form plan) (OfNet (valid_net k))
  direct_valid k lt =
      let base : Holder → Bool = direct_source form plan in
      let net : Net = (out k).0 in
      let control : IsMadeOf m (is_control m.enable) (OfNet net) = within_made (valid_within k lt) in
      made_wire m (valid_net k) (Copy (atom.Net net)) base (output_right m last (flat closed.outs) (2 * k) net closed.driven (flat_at closed.outs k (out k) (out_at k lt)).0)
      (made_net m base net (made_wider m (is_control m.enable) base (control_direct form plan m.enable) control))

  controlled : IsControlled m copies
  controlled = subst (λ (n : Netlist). IsControlled n copies) (sym closed.driven) (outputs_control last (flat closed.outs) copies all_built.control)

  direct_update : (u : Update) → Contains m.updates u → ReadsOnly m (direct_source form plan) copies u
  direct_update (Set r a) at = set_direct (All-contains (TakesControl m copies) m.updates (Set r a) controlled.each at)
    where
      set_direct : TakesControl m copies (Set r a) → ReadsOnly m (direct_source form plan) copies (Set r a)
      set_direct (inl copy) = inl copy
      set_direct (inr made) = inr (All-weaker (IsControlBut m copies) (IsMadeOf m (direct_source form plan)) (λ h is. made_wider m (is_control_but m.enable copies) (direct_source form plan) (but_direct form plan m.enable copies) is) (atom_reads a) made)
  direct_update (Put x i a) at =
      let there : x < length m.arrays = (All-contains (UpdateIsSound m) m.updates (Put x i a) closed.whole.rules.updates at).0 in
      let g : ℕ = (owns x there).image.number in
      let kept : Keeps plan g = owner_kept x there in
      put_made m form plan copies g (net_of plan nets g) (filled g kept) (direct_source form plan) (control_direct form plan m.enable) (λ y own short. short) closed.whole.rules.updated (direct_net g kept) x (Put x i a) (owner_low x there) (owner_high x there) at refl

  valid_path : (k : ℕ) → k < length p.outputs → IsWithin m is_start valid_levels (OfNet (valid_net k))
  valid_path k low = copied_within m (valid_net k) (out k).0 valid_levels (output_right m last (flat closed.outs) (2 * k) (out k).0 closed.driven (flat_at closed.outs k (out k) (out_at k low)).0) (control_path m valid_levels valid_levels (out k).0 (omega arith) (valid_within k low))

  -- the clock paths
  module _ (aged : 1 ≤ plan.system.age) (n : ℕ) (bound : BoundsLevels p plan form m.enable n) where
    -- an image's net, with what it leaves over
    net_within : (g : ℕ) → Keeps plan g → (j : ℕ) × (line_operators ≤ j) × (j + hold_levels m.enable ≤ n) × IsWithin m is_start j (OfNet (net_of plan nets g))
    net_within g kept =
        elim (cases_lt g (length p.inputs)) as (λ _. (j : ℕ) × (line_operators ≤ j) × (j + hold_levels m.enable ≤ n) × IsWithin m is_start j (OfNet (net_of plan nets g))) [
          | inl low ↦ (1, omega arith, few m.enable, subst (λ (x : Net). IsWithin m is_start 1 (OfNet x)) (sym ((line g kept).input low)) (by_itself refl))
          | inr past ↦
              let has : HasLevelsWithin p plan form m.enable g n = bound.image g kept past in
              let j : ℕ = image_levels form has.body has.choices in
              let deep : IsWithin last (source_of form plan g last.enable) j (OfNet (net_of plan nets g)) = (line g kept).levels aged has.body has.choices has.is_body has.among in
              (j, some has.body has.choices, has.within, within_more m last is_start grows (within_wider last (source_of form plan g last.enable) is_start (source_start form plan g last.enable) deep))
        ]
      where
        few : (e : Bool) → 1 + hold_levels e ≤ n
        few true = (let h = bound.control in omega (arith, h))
        few false = (let h = bound.control in omega (arith, h))

        some : (e : Tree) (k : ℕ) → line_operators ≤ image_levels form e k
        some e k = (let l : test_levels ≤ max test_levels form.tap_levels = le-max_left test_levels form.tap_levels in omega (arith, l))

    update_within : (u : Update) → Contains m.updates u → All (IsWithin m is_start n) (update_reads u)
    update_within (Set r a) at = All-weaker (IsWithin m is_start (control_levels m.enable)) (IsWithin m is_start n) (λ h is. within_deeper bound.control is) (atom_reads a) (All-contains (SetsWithin m) m.updates (Set r a) controlled.levels at)
    update_within (Put x i a) at =
        let there : x < length m.arrays = (All-contains (UpdateIsSound m) m.updates (Put x i a) closed.whole.rules.updates at).0 in
        let g : ℕ = (owns x there).image.number in
        let kept : Keeps plan g = owner_kept x there in
        let net = net_within g kept in
        put_within m form plan copies g (net_of plan nets g) (filled g kept) net.0 n net.1 net.2 (let h = bound.control in omega (arith, h)) closed.whole.rules.updated net.3 x (Put x i a) (owner_low x there) (owner_high x there) at refl

    output_within : (k : ℕ) → k < length m.outputs → IsWithin m is_start n (OfNet (Output k))
    output_within k lt = by (is_pair k)
      where
        count : length m.outputs ≡ 2 * length p.outputs
        count = ap length ports.outputs ∙ valids_long (map (λ (g : ℕ). bits_of_type (type_at p g)) p.outputs) ∙ ap (λ (l : ℕ). 2 * l) (length-map p.outputs (λ (g : ℕ). bits_of_type (type_at p g)))

        is_valid_net : (i : ℕ) → i < length p.outputs → IsWithin m is_start n (OfNet (valid_net i))
        is_valid_net i low = within_deeper (let h = bound.control in omega (arith, h)) (valid_path i low)

        is_dout_net : (i : ℕ) → i < length p.outputs → IsWithin m is_start n (OfNet (dout_net i))
        is_dout_net i low =
            let g : ℕ = slice_index p.outputs i in
            let at : slice_get p.outputs i ≡ Some g = slice_get-get_or p.outputs i 0 low in
            let listed : i < length plan.system.stencils.outputs = omega (arith, low, ap length stencils.outputs) in
            let kept : Keeps plan g = subst (Keeps plan) (ap (λ (os : List ℕ). slice_index os i) stencils.outputs) (output_kept plan i is listed) in
            let net = net_within g kept in
            copied_within m (dout_net i) (net_of plan nets g) n (dout_right i g at) (within_deeper (let h = net.2 in omega (arith, h)) net.3)

        by : (i : ℕ) × ((k ≡ 2 * i) ⊎ (k ≡ 2 * i + 1)) → IsWithin m is_start n (OfNet (Output k))
        by (i, inl e) = subst (λ (j : ℕ). IsWithin m is_start n (OfNet (Output j))) (sym e) (is_valid_net i (omega (arith, e, lt, count)))
        by (i, inr e) = subst (λ (j : ℕ). IsWithin m is_start n (OfNet (Output j))) (sym e) (is_dout_net i (omega (arith, e, lt, count)))

  put_index : (x : ℕ) (i a : Atom Net) → Contains m.updates (Put x i a) → All (IsWithin m is_start line_operators) (atom_reads i)
  put_index x i a at =
      let there : x < length m.arrays = (All-contains (UpdateIsSound m) m.updates (Put x i a) closed.whole.rules.updates at).0 in
      let g : ℕ = (owns x there).image.number in
      index_within m form plan copies g (net_of plan nets g) (filled g (owner_kept x there)) closed.whole.rules.updated x i a (owner_low x there) (owner_high x there) at

  pub clock_paths : HasClockPaths m p plan form
  clock_paths = record {
    registers = λ u at. All-contains (SetsWithin m) m.updates u controlled.levels at;
    indices = put_index;
    valids = valid_path;
    all = λ aged n bound. record { updates = update_within aged n bound; outputs = output_within aged n bound };
  }

  copied : CopyLongArrays m form.long copies
  copied = record {
    widths = subst (AreCopies form.long m copies) (ap (λ (n : Netlist). n.arrays) (sym closed.driven)) (copies_last form.long m last copies last.arrays grows all_built.control.there all_built.copied);
    each = λ x lt long.
        let g : ℕ = (owns x lt).image.number in
        long_copied m form plan copies g (net_of plan nets g) (filled g (owner_kept x lt)) x (owner_low x lt) (owner_high x lt) (subst (λ (d : ℕ). IsTrue (form.long d)) (words x) long);
  }

  pub module_is : IsModuleOf m p plan form nets
  module_is = record {
    copies = copies;
    copied = copied;
    behaves = behaves;
    bits = bits;
    nets_are = nets_of_images;
    direct = record { net = direct_net; dout = direct_dout; valid = direct_valid; updates = direct_update };
  }
