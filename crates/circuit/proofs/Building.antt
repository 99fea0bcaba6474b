-- One image more is built.
use Rattle.std.proofs.Common.{◌≡◌, ℕ, zero, suc, ◌+◌, ◌-◌, ◌<◌, ◌≤◌, nat_le, Bool, true, false, List, [], ◌∷◌, ◌++◌, length, Some, refl, sym, ap, subst, ◌∙◌, inl, inr, arith, take, append_assoc, append-nil}
use Rattle.std.specs.Prelude.{pos, ◌≤ℤ◌, max, Contains, IsTrue, slice_get, slice_index_or}
use Rattle.std.proofs.Math.ListN.{get_or-eq_default}
use Rattle.std.proofs.Math.Nat.{le-max_left, le-max_right}
use Rattle.std.proofs.lemmas.Bool.{cases_eq, cases_lt}
use Rattle.std.proofs.lemmas.Int.{ints}
use Rattle.std.proofs.lemmas.Option.{same_Some}
use Rattle.std.proofs.lemmas.List.{get_or_append_left, get_or-append_right, length-append}
use Rattle.std.proofs.lemmas.List.Elements.{Contains-append_left, Contains-append_right}
use Rattle.dk_base.specs.declared.stencils.Image.{Image}
use Rattle.dk_base.specs.declared.stencils.LiveRead.{LiveRead}
use Rattle.dk_base.specs.Stencils.{place, IsKept, Ascends}
use Rattle.dk_base.proofs.Orders.{at_place, place_at, kept_at}
use Rattle.raster_delay.proofs.Places.{place_less}
use Rattle.wiring.specs.declared.netlist.Net.{Net}
use Rattle.wiring.specs.declared.netlist.Net.TheVariants.{Input}
use Rattle.wiring.specs.declared.netlist.Shape.{Shape}
use Rattle.wiring.specs.declared.netlist.Holder.{Holder}
use Rattle.wiring.specs.declared.netlist.Holder.TheVariants.{OfNet, OfArray}
use Rattle.wiring.specs.Netlist.{Netlist, din_net, depth}
use Rattle.net_build.specs.Includes.{Includes}
use Rattle.wiring.specs.Clock.{Clock}
use Rattle.net_build.specs.Draft.{IsDraft, UpdatesDiffer, UpdatedBut}
use Rattle.net_build.specs.Runs.{IsReady}
use Rattle.net_build.specs.Control.{IsMadeOf, by_itself, AddsReads}
use Rattle.net_build.specs.Indices.{read_indices, put_indices}
use Rattle.net_build.proofs.Parts.{Includes-refl, Includes-trans}
use Rattle.net_build.proofs.Grown.{net_more, width_more}
use Rattle.net_build.proofs.Control.{made_more, made_wider}
use Rattle.net_build.specs.Depth.{IsWithin, by_itself as at_once}
use Rattle.net_build.proofs.Depth.{within_more, within_wider, within_deeper, within_made}
use Rattle.circuit.specs.Depths.{ChoosesAmong, test_levels}
use Rattle.net_build.proofs.Standing.{ready_first, ready_last}
use Rattle.net_build.proofs.Reading.{reads_joined, none_reads}
use Rattle.net_build.proofs.Indexed.{reads_last, puts_last}
use Rattle.net_build.proofs.Updating.{all_updated}
use Rattle.pointwise_ir.specs.Programs.{Program, IsBody}
use Rattle.pointwise_ir.specs.Trees.{Tree}
use Rattle.buffer_plan.specs.Plans.{Plan, IsPlan, place_in, ages_of, read_age}
use Rattle.line_buffer.specs.Buffers.{is_new, IsBuffer}
use Rattle.line_buffer.specs.Indices.{is_direct}
use Rattle.line_buffer.specs.Chains.{AreCopies, is_short}
use Rattle.line_buffer.specs.Fills.{AreFilled}
use Rattle.line_buffer.proofs.More.{is_le, buffer_stops, buffer_control}
use Rattle.line_buffer.proofs.Filling.{fills_wider}
use Rattle.line_buffer.proofs.Lasting.{buffer_more, buffer_ready}
use Rattle.line_buffer.proofs.Chaining.{copies_joined}
use Rattle.circuit.specs.Taps.{Keeps, taps_at, IsTapOf, HasControl, size_in}
use Rattle.circuit.specs.Reads.{reads_in}
use Rattle.circuit.specs.Forms.{Shapes, Form, IsBuffered, shapes_of, first_array, end_array}
use Rattle.circuit.specs.Images.{IsBodyNet, IsImageNet, IsOverReads, IsLine, AreBuilt, words_in, reads_directly, tap_source_of, source_of, direct_source, image_levels, ports_of, AreBuiltWith}
use Rattle.circuit.proofs.Lasting.{running_more}
use Rattle.edge_select.specs.declared.frame_tests.FrameTests.{FrameTests}
use Rattle.edge_select.specs.FrameTests.{AreFrameTests, IsApart}
use Rattle.edge_select.proofs.Framed.{tests_more}
use Rattle.circuit.proofs.Keeping.{AddsFor, apart_more}
use Rattle.circuit.proofs.Sourced.{words_are, direct_is, short_tap, control_source, tap_in_source, control_direct, tap_in_direct, copies_last}

-- entries of a list with one more
pub at_old : {X : Type 0} (xs : List X) (y d : X) (k : ℕ) → k < length xs → slice_index_or (xs ++ y ∷ []) k d ≡ slice_index_or xs k d
at_old xs y d k lt = get_or_append_left xs (y ∷ []) d k lt

pub at_last : {X : Type 0} (xs : List X) (y d : X) (k : ℕ) → length xs ≡ k → slice_index_or (xs ++ y ∷ []) k d ≡ y
at_last xs y d k e =
    let first : k - length xs ≡ 0 = omega (arith, e) in
    get_or-append_right xs (y ∷ []) (length xs) k d refl (omega (arith, e)) ∙ ap (λ (j : ℕ). slice_index_or (y ∷ []) j d) first

-- an entry of a list by its number
entry_at : {X : Type 0} (xs : List X) (k : ℕ) (x : X) → slice_get xs k ≡ Some x → (k < length xs) × (slice_index_or xs k x ≡ x)
entry_at [] k x at = absurd (let f : ⊥ = cc in f)
entry_at (y ∷ xs) zero x at = (omega arith, same_Some y x at)
entry_at (y ∷ xs) (suc k) x at = (let r = entry_at xs k x at in ((let h : suc k < length (y ∷ xs) = omega (arith, r.0) in h), r.1))

slice_get_at : {X : Type 0} (xs : List X) (k : ℕ) (d : X) → k < length xs → slice_get xs k ≡ Some (slice_index_or xs k d)
slice_get_at [] k d lt = absurd (let f : ⊥ = omega (arith, lt) in f)
slice_get_at (y ∷ xs) zero d lt = refl
slice_get_at (y ∷ xs) (suc k) d lt = slice_get_at xs k d (let h : k < length xs = omega (arith, lt) in h)

-- an image's place, from its entry
pub place_of_entry : (images : List Image) (k : ℕ) (i : Image) → Ascends images → slice_get images k ≡ Some i → place images i.number ≡ k
place_of_entry images k i up at = from (entry_at images k i at)
  where
    from : (k < length images) × (slice_index_or images k i ≡ i) → place images i.number ≡ k
    from (lt, e) = ap (λ (j : Image). place images j.number) (sym e) ∙ place_at images k i up lt

-- and that it is kept
pub entry_kept : (images : List Image) (k : ℕ) (i : Image) → slice_get images k ≡ Some i → IsKept images i.number
entry_kept images k i at = from (entry_at images k i at)
  where
    from : (k < length images) × (slice_index_or images k i ≡ i) → IsKept images i.number
    from (lt, e) = kept_at images k i.number i lt (ap (λ (j : Image). j.number) e)

-- the number of a new array is none of the old ones
old_array : (old : Netlist) (x : ℕ) → x < length old.arrays → is_new old x ≡ false
old_array old x lt = by (is_new old x) refl
  where
    by : (t : Bool) → is_new old x ≡ t → is_new old x ≡ false
    by false e = e
    by true e = absurd (let h : length old.arrays ≤ x = is_le (length old.arrays) x e in let f : ⊥ = omega (arith, h, lt) in f)

-- a tap is still that of its read among more taps
tap_stays : (plan : Plan) (taps more : List (List Net)) → ((g : ℕ) → place_in plan g < length taps → taps_at plan more g ≡ taps_at plan taps g) → (r : LiveRead) (tap : Net) → IsTapOf plan taps r tap → IsTapOf plan more r tap
tap_stays plan taps more same r tap is = record {
  place = is.place;
  age = is.age;
  is_age = is.is_age;
  aged = is.aged;
  there = subst (λ (ts : List Net). slice_get ts is.place ≡ Some tap) (sym (same r.g within)) is.there;
}
  where
    within : place_in plan r.g < length taps
    within = elim (cases_lt (place_in plan r.g) (length taps)) as (λ _. place_in plan r.g < length taps) [
      | inl low ↦ low
      | inr most ↦
          let none : taps_at plan taps r.g ≡ [] = get_or-eq_default taps [] most in
          let at : slice_get {X = Net} [] is.place ≡ Some tap = subst (λ (ts : List Net). slice_get ts is.place ≡ Some tap) none is.there in
          absurd (let f : ⊥ = cc in f)
    ]

-- what is in the base is within any number
within_itself : {b : Netlist} {base : Holder → Bool} {n : ℕ} {h : Holder} → IsTrue (base h) → IsWithin b base n h
within_itself is = at_once is

-- What has been built lasts, as more is built after it with more copies, and the taps of these images stay.
module _ (new old : Netlist) (p : Program) (plan : Plan) (form : Form) (copies more_copies : List ℕ) (taps more : List (List Net)) (same_taps : (g : ℕ) → place_in plan g < length taps → taps_at plan more g ≡ taps_at plan taps g) (ready : (before : List Clock) → IsReady more_copies before → IsReady copies before) (among : (r : ℕ) → Contains copies r → Contains more_copies r)
    (grows : Includes new old) (reads : AddsReads new old (is_new old)) (differ : UpdatesDiffer new.updates) (updated : UpdatedBut old []) where
  module _ (g : ℕ) (net : Net) (there : place_in plan g < length taps) (end : end_array form.shapes plan g ≤ length old.arrays)
      (earlier : (h : ℕ) → h < g → Keeps plan h → place_in plan h < length taps) (is : IsLine old p plan form copies taps g net) where
    body_lasts : length p.inputs ≤ g → IsBodyNet new p plan more g net
    body_lasts low m from before c s run rounds are right =
        is.body low m from before c s (running_more new old grows m from before c s run) rounds are
        (λ h less kept k age q tap ea et e lt. right h less kept k age q tap ea (subst (λ (ts : List Net). slice_get ts k ≡ Some tap) (sym (same_taps h (earlier h less kept))) et) e lt)

    over_lasts : length p.inputs ≤ g → IsOverReads new p plan more g net
    over_lasts low =
        let was : IsOverReads old p plan taps g net = is.over low in
        record {
          made = λ base has own. made_more new old base grows (was.made base (subst (λ (e : Bool). HasControl e base) grows.enable has) (λ r tap among on. own r tap among (tap_stays plan taps more same_taps r tap on)));
          levels = λ e n is_body among base has own.
              within_more new old base grows (was.levels e n is_body among base (subst (λ (e : Bool). HasControl e base) grows.enable has) (λ r tap having on. own r tap having (tap_stays plan taps more same_taps r tap on)));
        }

    each_lasts : (x : ℕ) → first_array form.shapes plan g ≤ x → x < end_array form.shapes plan g → form.property (words_in form.shapes plan x) (read_indices new x) (put_indices new x)
    each_lasts x low high =
        let lt : x < length old.arrays = omega (arith, high, end) in
        let words : ℕ = words_in form.shapes plan x in
        let read = reads_last new old (is_new old) x grows reads (old_array old x lt) in
        let put = puts_last new old x grows differ (all_updated old updated (OfArray x) lt) in
        subst (λ ps. form.property words (read_indices new x) ps) (sym put) (subst (λ rs. form.property words rs (put_indices old x)) (sym read) (is.each x low high))

    buffer_lasts : IsBuffer new more_copies (form.places plan g) (ages_of plan g) (taps_at plan taps g) net
    buffer_lasts = buffer_ready new copies more_copies (form.places plan g) (ages_of plan g) (taps_at plan taps g) net ready (buffer_more new old copies (form.places plan g) (ages_of plan g) (taps_at plan taps g) net grows is.there is.buffer)

    pub line_lasts : IsLine new p plan form more_copies more g net
    line_lasts = record {
      there = net_more new old grows net is.there;
      width = width_more new old grows net is.there.declared ∙ is.width;
      input = λ low. is.input low ∙ ap (λ (e : Bool). din_net (record old { enable = e }) g) (sym grows.enable);
      body = body_lasts;
      over = over_lasts;
      apart = λ aged low. subst (λ (e : Bool). IsMadeOf new (source_of form plan g e) (OfNet net)) (sym grows.enable) (made_more new old (source_of form plan g old.enable) grows (is.apart aged low));
      levels = λ aged e n is_body among.
          subst (λ (b : Bool). IsWithin new (source_of form plan g b) (image_levels form e n) (OfNet net)) (sym grows.enable) (within_more new old (source_of form plan g old.enable) grows (is.levels aged e n is_body among));
      direct = made_more new old (direct_source form plan) grows is.direct;
      buffer = subst (λ (ts : List Net). IsBuffer new more_copies (form.places plan g) (ages_of plan g) ts net) (sym (same_taps g there)) buffer_lasts;
      bits = is.bits;
      made = λ k age tap ea some et.
          subst (λ (e : Bool). IsWithin new (tap_source_of form plan g e) form.tap_levels (OfNet tap)) (sym grows.enable)
          (within_more new old (tap_source_of form plan g old.enable) grows (is.made k age tap ea some (subst (λ (ts : List Net). slice_get ts k ≡ Some tap) (same_taps g there) et)));
      fills = fills_wider new old (reads_directly form plan) (reads_directly form plan) copies more_copies (first_array form.shapes plan g) (end_array form.shapes plan g) net grows (λ x l h is. is) among is.fills;
      each = each_lasts;
    }

-- arrays of images one after another
pub shapes_push : (shapes : Shapes) (plan : Plan) (images : List Image) (k : ℕ) (i : Image) → slice_get images k ≡ Some i → shapes_of shapes plan (take (suc k) images) ≡ shapes_of shapes plan (take k images) ++ shapes plan i.number
shapes_push shapes plan [] k i at = absurd (let f : ⊥ = cc in f)
shapes_push shapes plan (j ∷ images) zero i at =
    let same : j ≡ i = cc in
    append-nil (shapes plan j.number) ∙ ap (λ (x : Image). shapes plan x.number) same
shapes_push shapes plan (j ∷ images) (suc k) i at = ap (λ ss. shapes plan j.number ++ ss) (shapes_push shapes plan images k i at) ∙ sym (append_assoc (shapes plan j.number) (shapes_of shapes plan (take k images)) (shapes plan i.number))

ends_within : (shapes : Shapes) (plan : Plan) (images : List Image) (j k : ℕ) (i : Image) → slice_get images j ≡ Some i → j < k → length (shapes_of shapes plan (take j images)) + length (shapes plan i.number) ≤ length (shapes_of shapes plan (take k images))
ends_within shapes plan [] j k i at lt = absurd (let f : ⊥ = cc in f)
ends_within shapes plan (x ∷ images) j zero i at lt = absurd (let f : ⊥ = omega (arith, lt) in f)
ends_within shapes plan (x ∷ images) zero (suc k) i at lt =
    let same : x ≡ i = cc in
    let here = ap (λ (y : Image). length (shapes plan y.number)) same in
    let whole = length-append (shapes plan x.number) (shapes_of shapes plan (take k images)) in
    omega (arith, here, whole)
ends_within shapes plan (x ∷ images) (suc j) (suc k) i at lt =
    let low = length-append (shapes plan x.number) (shapes_of shapes plan (take j images)) in
    let high = length-append (shapes plan x.number) (shapes_of shapes plan (take k images)) in
    let rest = ends_within shapes plan images j k i at (let h : j < k = omega (arith, lt) in h) in
    omega (arith, low, high, rest)

-- The next image, whose net and then buffer are added.
module _ (b2 b1 b0 : Netlist) (p : Program) (plan : Plan) (form : Form) (k : ℕ) (nets : List Net) (taps : List (List Net)) (i : Image) (net : Net) (own : List Net)
    (is_plan : IsPlan plan) (at : slice_get plan.system.stencils.images k ≡ Some i) (low : (h : ℕ) → h < i.number → Keeps plan h → place_in plan h < k) (reader : (r : LiveRead) → Contains (reads_in plan i.number) r → Keeps plan r.g × (r.g < i.number))
    (aged : (r : LiveRead) → Contains (reads_in plan i.number) r → pos plan.system.age ≤ℤ read_age plan r)
    (built : AreBuilt b0 p plan form k nets taps) (adds : AddsFor b1 b0 built.copies) (image : IsImageNet b1 b0 p plan taps i.number net) (buffered : IsBuffered b2 b1 plan i.number form net own) (drafted : IsDraft b1) (draft : IsDraft b2) where
  abbrev g : ℕ
  g = i.number

  abbrev images : List Image
  images = plan.system.stencils.images

  abbrev taps' : List (List Net)
  taps' = taps ++ own ∷ []

  abbrev copies' : List ℕ
  copies' = built.copies ++ buffered.copies

  here : place_in plan g ≡ k
  here = place_of_entry images k i is_plan.system.stencils.images.ascending at

  grown : Includes b2 b0
  grown = Includes-trans b2 b1 b0 buffered.adds.includes adds.includes

  same_enable : b1.enable ≡ b0.enable
  same_enable = adds.includes.enable

  first_is : length b1.arrays ≡ first_array form.shapes plan g
  first_is = ap length adds.arrays ∙ ap length built.arrays ∙ ap (λ (n : ℕ). length (shapes_of form.shapes plan (take n images))) (sym here)

  arrays_are : b2.arrays ≡ b0.arrays ++ form.shapes plan g
  arrays_are = buffered.adds.arrays ∙ ap (λ (ss : List Shape). ss ++ form.shapes plan g) adds.arrays

  all_arrays : b2.arrays ≡ shapes_of form.shapes plan (take (suc k) images)
  all_arrays = arrays_are ∙ ap (λ (ss : List Shape). ss ++ form.shapes plan g) built.arrays ∙ sym (shapes_push form.shapes plan images k i at)

  -- the image's own arrays are there, with the words that the plan gives them
  end_is : end_array form.shapes plan g ≡ length b2.arrays
  end_is = (let long = length-append b1.arrays (form.shapes plan g) in let whole = ap length buffered.adds.arrays in omega (arith, first_is, long, whole))

  words_here : (x : ℕ) → x < length b2.arrays → depth b2 x ≡ words_in form.shapes plan x
  words_here x lt = words_are form.shapes plan b2 (suc k) all_arrays x lt

  own_taps : taps_at plan taps' g ≡ own
  own_taps = at_last taps own [] (place_in plan g) (built.tap_count ∙ sym here)

  earlier_taps : (h : ℕ) → h < g → Keeps plan h → taps_at plan taps' h ≡ taps_at plan taps h
  earlier_taps h less kept = let lt = low h less kept in at_old taps own [] (place_in plan h) (omega (arith, lt, built.tap_count))

  body_is : length p.inputs ≤ g → IsBodyNet b2 p plan taps' g net
  body_is no_input m from before c s run rounds are right =
      image.body no_input m from before c s (running_more b2 b1 buffered.adds.includes m from before c s run) rounds are
      (λ h less kept k age q tap ea et e lt. right h less kept k age q tap ea (subst (λ (ts : List Net). slice_get ts k ≡ Some tap) (sym (earlier_taps h less kept)) et) e lt)

  line_of : (h : ℕ) → h < g → Keeps plan h → IsLine b0 p plan form built.copies taps h (slice_index_or nets (place_in plan h) (Input 0))
  line_of h less kept =
      let none : Image = record { number = 0; width = 0 } in
      let entry : Image = slice_index_or images (place_in plan h) none in
      let number : entry.number ≡ h = at_place images h none kept in
      subst (λ (j : ℕ). IsLine b0 p plan form built.copies taps j (slice_index_or nets (place_in plan h) (Input 0))) number (built.line (place_in plan h) entry (low h less kept) (slice_get_at images (place_in plan h) none kept))

  tap_within : 1 ≤ plan.system.age → (r : LiveRead) (tap : Net) → Contains (reads_in plan g) r → IsTapOf plan taps r tap → IsWithin b0 (source_of form plan g b0.enable) form.tap_levels (OfNet tap)
  tap_within some r tap has is =
      let (kept, less) = reader r has in
      let least = aged r has in
      let positive : 0 < is.age = (let e = is.is_age in omega (arith, ints, some, least, e)) in
      within_wider b0 (tap_source_of form plan r.g b0.enable) (source_of form plan g b0.enable) (tap_in_source form plan g b0.enable r has) ((line_of r.g less kept).made is.place is.age tap is.aged positive is.there)

  apart_is : 1 ≤ plan.system.age → length p.inputs ≤ g → IsMadeOf b2 (source_of form plan g b2.enable) (OfNet net)
  apart_is some no_input =
      let base = source_of form plan g b0.enable in
      subst (λ (e : Bool). IsMadeOf b2 (source_of form plan g e) (OfNet net)) (sym grown.enable)
      (made_more b2 b1 base buffered.adds.includes (image.made no_input base (control_source form plan g b0.enable) (λ r tap has is. within_made (tap_within some r tap has is))))

  levels_are : 1 ≤ plan.system.age → (e : Tree) (n : ℕ) → IsBody p g e → ChoosesAmong plan g e n → IsWithin b2 (source_of form plan g b2.enable) (image_levels form e n) (OfNet net)
  levels_are some e n is_body among =
      let base = source_of form plan g b0.enable in
      subst (λ (b : Bool). IsWithin b2 (source_of form plan g b) (image_levels form e n) (OfNet net)) (sym grown.enable)
      (within_more b2 b1 base buffered.adds.includes (image.levels e n is_body among base (max test_levels form.tap_levels) (control_source form plan g b0.enable) (le-max_left test_levels form.tap_levels)
      (λ r tap has is. within_deeper (le-max_right test_levels form.tap_levels) (tap_within some r tap has is))))

  -- over the taps of its reads themselves
  over_is : length p.inputs ≤ g → IsOverReads b2 p plan taps' g net
  over_is no_input = record {
    made = λ base has given.
        made_more b2 b1 base buffered.adds.includes (image.made no_input base (subst (λ (e : Bool). HasControl e base) grown.enable has) (λ r tap among is. by_itself (given r tap among (tap_stays plan taps taps' (λ h lt. at_old taps own [] (place_in plan h) lt) r tap is))));
    levels = λ e n is_body among base has given.
        within_more b2 b1 base buffered.adds.includes (image.levels e n is_body among base test_levels (subst (λ (e : Bool). HasControl e base) grown.enable has) (omega arith)
        (λ r tap having is. within_itself (given r tap having (tap_stays plan taps taps' (λ h lt. at_old taps own [] (place_in plan h) lt) r tap is))));
  }

  -- no path leads from a long array to a tap of an earlier image, at any age
  tap_direct : (r : LiveRead) (tap : Net) → Contains (reads_in plan g) r → IsTapOf plan taps r tap → IsMadeOf b0 (direct_source form plan) (OfNet tap)
  tap_direct r tap has is =
      let (kept, less) = reader r has in
      let line = line_of r.g less kept in
      elim (cases_eq is.age 0) as (λ _. IsMadeOf b0 (direct_source form plan) (OfNet tap)) [
        | inl now ↦
            let same : tap ≡ slice_index_or nets (place_in plan r.g) (Input 0) = line.buffer.now is.place tap (subst (λ (a : ℕ). slice_get (ages_of plan r.g) is.place ≡ Some a) now is.aged) is.there in
            subst (λ (n : Net). IsMadeOf b0 (direct_source form plan) (OfNet n)) (sym same) line.direct
        | inr later ↦
            let positive : 0 < is.age = omega (arith, later) in
            made_wider b0 (tap_source_of form plan r.g b0.enable) (direct_source form plan) (tap_in_direct form plan r.g b0.enable) (within_made (line.made is.place is.age tap is.aged positive is.there))
      ]

  direct_net : IsMadeOf b2 (direct_source form plan) (OfNet net)
  direct_net = elim (cases_lt g (length p.inputs)) as (λ _. IsMadeOf b2 (direct_source form plan) (OfNet net)) [
    | inl input ↦ subst (λ (n : Net). IsMadeOf b2 (direct_source form plan) (OfNet n)) (sym (image.input input)) (by_itself refl)
    | inr beyond ↦ made_more b2 b1 (direct_source form plan) buffered.adds.includes (image.made beyond (direct_source form plan) (control_direct form plan b0.enable) tap_direct)
  ]

  each_is : (x : ℕ) → first_array form.shapes plan g ≤ x → x < end_array form.shapes plan g → form.property (words_in form.shapes plan x) (read_indices b2 x) (put_indices b2 x)
  each_is x from to =
      let there : x < length b2.arrays = omega (arith, to, end_is) in
      subst (λ (w : ℕ). form.property w (read_indices b2 x) (put_indices b2 x)) (words_here x there) (buffered.each x (omega (arith, from, first_is)) there)

  own_made : (j age : ℕ) (tap : Net) → slice_get (ages_of plan g) j ≡ Some age → 0 < age → slice_get own j ≡ Some tap → IsWithin b2 (tap_source_of form plan g b2.enable) form.tap_levels (OfNet tap)
  own_made j age tap ea some et =
      let first = length b1.arrays in
      let end = length b1.arrays + length (form.shapes plan g) in
      within_wider b2 (is_short form.long b2 first end) (tap_source_of form plan g b2.enable)
      (short_tap form plan g b2 first end first_is (ap (λ (n : ℕ). n + length (form.shapes plan g)) first_is) (λ x lt. words_here x (omega (arith, lt, end_is, first_is))))
      (buffered.made j age tap ea some et)

  own_fills : AreFilled b2 (reads_directly form plan) copies' (first_array form.shapes plan g) (end_array form.shapes plan g) net
  own_fills =
      fills_wider b2 b2 (is_direct form.long b2) (reads_directly form plan) buffered.copies copies' (first_array form.shapes plan g) (end_array form.shapes plan g) net (Includes-refl b2)
      (λ x l h is. direct_is form plan b2 x (words_here x (omega (arith, h, end_is))) is) (λ r c. Contains-append_right built.copies buffered.copies r c)
      (subst (λ (n : ℕ). AreFilled b2 (is_direct form.long b2) buffered.copies n (n + length (form.shapes plan g)) net) first_is buffered.fills)

  own_buffer : IsBuffer b2 copies' (form.places plan g) (ages_of plan g) own net
  own_buffer = buffer_ready b2 buffered.copies copies' (form.places plan g) (ages_of plan g) own net (ready_last built.copies buffered.copies) buffered.buffer

  line_new : IsLine b2 p plan form copies' taps' g net
  line_new = record {
    there = net_more b2 b1 buffered.adds.includes net image.there;
    width = width_more b2 b1 buffered.adds.includes net image.there.declared ∙ image.width;
    input = λ is_input. image.input is_input ∙ ap (λ (e : Bool). din_net (record b1 { enable = e }) g) (sym buffered.adds.includes.enable);
    body = body_is;
    over = over_is;
    apart = apart_is;
    levels = levels_are;
    direct = direct_net;
    buffer = subst (λ (ts : List Net). IsBuffer b2 copies' (form.places plan g) (ages_of plan g) ts net) (sym own_taps) own_buffer;
    bits = buffered.bits;
    made = λ j age tap ea some et. own_made j age tap ea some (subst (λ (ts : List Net). slice_get ts j ≡ Some tap) own_taps et);
    fills = own_fills;
    each = each_is;
  }

  reads_new : AddsReads b2 b0 (is_new b0)
  reads_new = reads_joined b2 b1 b0 (is_new b0) buffered.adds.includes (subst (λ (ss : List Shape). AddsReads b2 b1 (λ x. nat_le (length ss) x)) adds.arrays buffered.adds.reads) (none_reads b1 b0 (is_new b0) adds.reads)

  old_line : (j : ℕ) (o : Image) → j < k → slice_get images j ≡ Some o → IsLine b2 p plan form copies' taps' o.number (slice_index_or (nets ++ net ∷ []) j (Input 0))
  old_line j o lt on =
      let there : place_in plan o.number ≡ j = place_of_entry images j o is_plan.system.stencils.images.ascending on in
      let within : length (shapes_of form.shapes plan (take j images)) + length (form.shapes plan o.number) ≤ length b0.arrays = (let w = ends_within form.shapes plan images j k o on lt in omega (arith, w, ap length built.arrays)) in
      let end : end_array form.shapes plan o.number ≤ length b0.arrays = subst (λ (n : ℕ). length (shapes_of form.shapes plan (take n images)) + length (form.shapes plan o.number) ≤ length b0.arrays) (sym there) within in
      subst (IsLine b2 p plan form copies' taps' o.number) (sym (at_old nets net (Input 0) j (omega (arith, lt, built.net_count))))
      (line_lasts b2 b0 p plan form built.copies copies' taps taps' (λ h lt. at_old taps own [] (place_in plan h) lt) (ready_first built.copies buffered.copies) (λ r c. Contains-append_left built.copies buffered.copies r c)
      grown reads_new draft.once built.updated o.number (slice_index_or nets j (Input 0)) (omega (arith, there, lt, built.tap_count)) end
      (λ h less kept. let l = place_less images is_plan.system.stencils.images.ascending h o.number kept (entry_kept images j o on) less in omega (arith, l, there, lt, built.tap_count)) (built.line j o lt on))

  copied_all : AreCopies form.long b2 copies' b2.arrays
  copied_all = subst (AreCopies form.long b2 copies') (sym arrays_are) (copies_joined form.long b2 b0 built.copies buffered.copies b0.arrays (form.shapes plan g) grown built.control.there built.copied buffered.copied)

  pub built_more : AreBuilt b2 p plan form (suc k) (nets ++ net ∷ []) taps'
  built_more = record {
    ports = subst (λ (e : Bool). Includes b2 (ports_of p e)) (sym grown.enable) (Includes-trans b2 b0 (ports_of p b0.enable) grown built.ports);
    net_count = (let l = length-append nets (net ∷ []) in omega (arith, l, built.net_count));
    tap_count = (let l = length-append taps (own ∷ []) in omega (arith, l, built.tap_count));
    arrays = all_arrays;
    copies = copies';
    copied = copied_all;
    updated = buffered.adds.updated [] (adds.updated [] built.updated);
    still = buffered.adds.still built.copies [] (adds.still built.copies [] built.still);
    stops = buffer_stops b2 b1 (form.shapes plan g) buffered.copies buffered.adds (adds.stops built.stops);
    control = buffer_control b2 b1 (form.shapes plan g) buffered.copies built.copies drafted buffered.adds adds.control;
    line = λ j o lt on. elim (cases_lt j k) [
      | inl less ↦ old_line j o less on
      | inr most ↦
          let same : j ≡ k = omega (arith, lt, most) in
          last_line j o same on
    ];
  }
    where
      last_line : (j : ℕ) (o : Image) → j ≡ k → slice_get images j ≡ Some o → IsLine b2 p plan form copies' taps' o.number (slice_index_or (nets ++ net ∷ []) j (Input 0))
      last_line j o e on =
          let there : slice_get images k ≡ Some o = subst (λ (n : ℕ). slice_get images n ≡ Some o) e on in
          let same : i ≡ o = same_Some i o (sym at ∙ there) in
          subst (λ (x : Image). IsLine b2 p plan form copies' taps' x.number (slice_index_or (nets ++ net ∷ []) j (Input 0))) same
          (subst (IsLine b2 p plan form copies' taps' g) (sym (at_last nets net (Input 0) j (built.net_count ∙ sym e))) line_new)

  -- and the frame tests
  pub built_with : (tests : FrameTests) → IsApart built.copies tests → AreFrameTests b1 (size_in plan) tests → AreBuiltWith b2 p plan form (suc k) (nets ++ net ∷ []) taps' tests
  unfolding built_more
  built_with tests apart are = record {
    built = built_more;
    apart = apart_more b2 b1 (size_in plan) built.copies buffered.copies buffered.adds.added tests are apart;
    tests_are = tests_more b2 b1 (size_in plan) tests buffered.adds.includes are;
  }

-- all that is built lasts where what controls it is added
pub built_lasts : (new old : Netlist) (p : Program) (plan : Plan) (form : Form) (k : ℕ) (nets : List Net) (taps : List (List Net)) → IsPlan plan → k ≤ length plan.system.stencils.images → IsDraft new →
    (built : AreBuilt old p plan form k nets taps) → AddsFor new old built.copies → AreBuilt new p plan form k nets taps
built_lasts new old p plan form k nets taps is_plan few draft built adds = record {
  ports = subst (λ (e : Bool). Includes new (ports_of p e)) (sym adds.includes.enable) (Includes-trans new old (ports_of p old.enable) adds.includes built.ports);
  net_count = built.net_count;
  tap_count = built.tap_count;
  arrays = adds.arrays ∙ built.arrays;
  copies = built.copies;
  copied = subst (AreCopies form.long new built.copies) (sym adds.arrays) (copies_last form.long new old built.copies old.arrays adds.includes built.control.there built.copied);
  updated = adds.updated [] built.updated;
  still = adds.still built.copies [] built.still;
  stops = adds.stops built.stops;
  control = adds.control;
  line = λ j o lt on.
      let images = plan.system.stencils.images in
      let there : place_in plan o.number ≡ j = place_of_entry images j o is_plan.system.stencils.images.ascending on in
      let within : length (shapes_of form.shapes plan (take j images)) + length (form.shapes plan o.number) ≤ length old.arrays = (let w = ends_within form.shapes plan images j k o on lt in omega (arith, w, ap length built.arrays)) in
      let end : end_array form.shapes plan o.number ≤ length old.arrays = subst (λ (n : ℕ). length (shapes_of form.shapes plan (take n images)) + length (form.shapes plan o.number) ≤ length old.arrays) (sym there) within in
      line_lasts new old p plan form built.copies built.copies taps taps (λ h low. refl) (λ before set. set) (λ r c. c) adds.includes (none_reads new old (is_new old) adds.reads) draft.once built.updated o.number (slice_index_or nets j (Input 0)) (omega (arith, there, lt, built.tap_count)) end
      (λ h less kept. let l = place_less images is_plan.system.stencils.images.ascending h o.number kept (entry_kept images j o on) less in omega (arith, l, there, lt, built.tap_count)) (built.line j o lt on);
}
