-- What a form of buffers has done for an image.
use Rattle.std.proofs.Common.{◌≡◌, ℕ, ◌+◌, ◌*◌, ◌<◌, ◌≤◌, true, false, List, [], ◌∷◌, length, refl, sym, ap, subst, ◌∙◌, arith}
use Rattle.std.specs.Prelude.{All, IsTrue, ◌&&◌, nat_le, nat_lt, slice_index_or}
use Rattle.std.specs.List.Sorted.{IsStrictlyIncreasing}
use Rattle.std.proofs.lemmas.List.{get_or-map}
use Rattle.dk_base.specs.declared.TheConstants.{MAX_BUFFER_BITS}
use Rattle.dk_base.specs.declared.stencils.Image.{Image}
use Rattle.dk_base.specs.Stencils.{place, HasWidth}
use Rattle.wiring.specs.declared.netlist.Net.{Net}
use Rattle.wiring.specs.declared.netlist.Shape.{Shape}
use Rattle.wiring.specs.declared.netlist.Holder.{Holder}
use Rattle.wiring.specs.declared.netlist.Holder.TheVariants.{OfNet, OfArray}
use Rattle.wiring.specs.Netlist.{Netlist, net_width, depth}
use Rattle.wiring.specs.Sizes.{IsWidth}
use Rattle.wiring.specs.BufferBits.{array_bits}
use Rattle.net_build.specs.Draft.{IsNet}
use Rattle.net_build.specs.Indices.{read_indices, put_indices}
use Rattle.net_build.proofs.Depth.{within_wider}
use Rattle.buffer_plan.specs.Plans.{Plan, IsPlan, ages_of, width_of, depth_of, last_of}
use Rattle.buffer_plan.proofs.Aged.{are_ages, last_age, depth_most}
use Rattle.line_buffer.specs.Places as L
use Rattle.line_buffer.specs.Places.{Place}
use Rattle.line_buffer.specs.Fills.{AreFilled}
use Rattle.line_buffer.specs.Buffers.{CanBeBuffered, IsBuffer, AddsBuffer, AreMadeOfBuffer, is_buffer}
use Rattle.line_buffer.specs.Chains.{AreCopies, is_short, AreMadeOfShort, IsChain}
use Rattle.line_buffer.proofs.Building.{ages_deep}
use Rattle.line_buffer.proofs.Bits.{chain_bits}
use Rattle.line_buffer.proofs.More.{and_both}
use Rattle.circuit.specs.Taps.{Keeps}
use Rattle.circuit.specs.Splits.{split_ages, IsFiner, AreTapsAmong}
use Rattle.circuit.specs.Forms.{Shapes, Places, Property, Form, IsBuffered, shapes_before, first_array, block_form}
use Rattle.circuit.proofs.Splitting.{split_finer, finer_of, finer_buffer, finer_made}

-- the greatest age of an image is its depth
last_same : (low : ℕ) (xs : List ℕ) → L.last_of low xs ≡ last_of low xs
last_same low [] = refl
last_same low (x ∷ xs) = last_same x xs

pub plan_depth : (plan : Plan) (g : ℕ) → L.depth_of (ages_of plan g) ≡ depth_of plan g
plan_depth plan g = last_same 0 (ages_of plan g) ∙ last_age plan g

pub ages_ascend : (plan : Plan) (g : ℕ) (ages : List ℕ) → ages ≡ ages_of plan g → IsStrictlyIncreasing ages
ages_ascend plan g ages e = subst IsStrictlyIncreasing (sym e) (are_ages plan g).ascending

pub ages_most : (plan : Plan) (g : ℕ) (ages : List ℕ) → IsPlan plan → Keeps plan g → ages ≡ ages_of plan g → All (λ age. age ≤ MAX_BUFFER_BITS) ages
ages_most plan g ages is kept e k d l =
    let deep = ages_deep ages (L.depth_of ages) (ages_ascend plan g ages e) refl k d l in
    let most = depth_most plan is g kept in
    let depth = ap L.depth_of e ∙ plan_depth plan g in
    omega (arith, deep, most, depth)

-- the width of an image is one of a word
pub plan_wide : (plan : Plan) (g width : ℕ) → IsPlan plan → Keeps plan g → width ≡ width_of plan g → IsWidth width
plan_wide plan g width is kept e =
    let images = plan.system.stencils.images in
    let none : Image = record { number = 0; width = 0 } in
    let here : width_of plan g ≡ (slice_index_or images (place images g) none).width = get_or-map (λ (j : Image). j.width) images (place images g) none 0 kept in
    let has : HasWidth (slice_index_or images (place images g) none) = is.system.stencils.images.widths (place images g) none kept in
    subst IsWidth (sym (e ∙ here)) (has.some, has.most)

-- a kept image can have a buffer over the ages at which it is read
pub image_buffered : (b : Netlist) (plan : Plan) (g : ℕ) (value : Net) (width : ℕ) (ages : List ℕ) → IsPlan plan → Keeps plan g → IsNet b value → net_width b value ≡ width_of plan g → width ≡ width_of plan g → ages ≡ ages_of plan g → CanBeBuffered b value width ages
image_buffered b plan g value width ages is kept there wide own aged = record {
  ascending = ages_ascend plan g ages aged;
  most = ages_most plan g ages is kept aged;
  bits = plan_wide plan g width is kept own;
  there = there;
  wide = wide ∙ sym own;
}

-- where no array is long, the taps are made of any array of the buffer
none_long : (b : Netlist) (first end : ℕ) (h : Holder) → IsTrue (is_buffer b.enable first end h) → IsTrue (is_short (λ words. false) b first end h)
none_long b first end (OfNet n) is = is
none_long b first end (OfArray x) is = and_both (nat_le first x && nat_lt x end) true is refl

all_short : (b : Netlist) (most first end : ℕ) (ages : List ℕ) (taps : List Net) → AreMadeOfBuffer b most first end ages taps → AreMadeOfShort (λ words. false) b most first end ages taps
all_short b most first end ages taps is k age tap ea some et = within_wider b (is_buffer b.enable first end) (is_short (λ words. false) b first end) (none_long b first end) (is k age tap ea some et)

no_copies : (b : Netlist) (shapes : List Shape) → AreCopies (λ words. false) b [] shapes
no_copies b [] = refl
no_copies b (s ∷ shapes) = no_copies b shapes

-- a form that has its shapes and places by widths and ages, and no long arrays
module _ (shapes_by : (width : ℕ) → List ℕ → List Shape) (place_by : (first : ℕ) → List ℕ → (age t : ℕ) → Place) (levels : ℕ) (property : Property) where
  abbrev shapes : Shapes
  shapes plan g = shapes_by (width_of plan g) (ages_of plan g)

  abbrev places : Places
  places plan g age t = place_by (first_array shapes plan g) (ages_of plan g) age t

  abbrev form : Form
  form = record { shapes = shapes; places = places; long = λ words. false; tap_levels = levels; property = property }

  module _ (b old : Netlist) (plan : Plan) (g width : ℕ) (ages : List ℕ) (value : Net) (nets taps : List Net) (aged : ages ≡ ages_of plan g) (wide : width ≡ width_of plan g) (same : taps ≡ nets) (arrays : old.arrays ≡ shapes_before shapes plan g) where
    pub form_buffered : array_bits (shapes_by (width_of plan g) (ages_of plan g)) ≡ width_of plan g * L.depth_of (ages_of plan g) → AddsBuffer b old (shapes_by width ages) [] → IsBuffer b [] (place_by (length old.arrays) ages) ages nets value →
        AreMadeOfBuffer b levels (length old.arrays) (length old.arrays + length (shapes_by width ages)) ages nets → AreFilled b (λ x. true) [] (length old.arrays) (length old.arrays + length (shapes_by width ages)) value →
        ((x : ℕ) → length old.arrays ≤ x → x < length b.arrays → property (depth b x) (read_indices b x) (put_indices b x)) → IsBuffered b old plan g form value taps
    form_buffered bits adds buffer made fills each = record {
      copies = [];
      buffer = subst (λ (n : ℕ). IsBuffer b [] (place_by n (ages_of plan g)) (ages_of plan g) taps value) (ap length arrays)
          (subst (λ (ns : List Net). IsBuffer b [] (place_by (length old.arrays) (ages_of plan g)) (ages_of plan g) ns value) (sym same)
          (subst (λ (list : List ℕ). IsBuffer b [] (place_by (length old.arrays) list) list nets value) aged buffer));
      adds = subst (λ (w : ℕ). AddsBuffer b old (shapes_by w (ages_of plan g)) []) wide (subst (λ (list : List ℕ). AddsBuffer b old (shapes_by width list) []) aged adds);
      copied = no_copies b (shapes plan g);
      bits = bits ∙ ap (λ (d : ℕ). width_of plan g * d) (plan_depth plan g);
      made = all_short b levels (length old.arrays) (length old.arrays + length (shapes plan g)) (ages_of plan g) taps
          (subst (λ (ns : List Net). AreMadeOfBuffer b levels (length old.arrays) (length old.arrays + length (shapes plan g)) (ages_of plan g) ns) (sym same)
          (subst (λ (w : ℕ). AreMadeOfBuffer b levels (length old.arrays) (length old.arrays + length (shapes_by w (ages_of plan g))) (ages_of plan g) nets) wide
          (subst (λ (list : List ℕ). AreMadeOfBuffer b levels (length old.arrays) (length old.arrays + length (shapes_by width list)) list nets) aged made)));
      fills = subst (λ (w : ℕ). AreFilled b (λ x. true) [] (length old.arrays) (length old.arrays + length (shapes_by w (ages_of plan g))) value) wide
          (subst (λ (list : List ℕ). AreFilled b (λ x. true) [] (length old.arrays) (length old.arrays + length (shapes_by width list)) value) aged fills);
      each = each;
    }

-- a chain over the ages of a split, of which the long arrays have at least this number of words
module _ (least : ℕ) (proposed : List (List ℕ)) (b old : Netlist) (plan : Plan) (g : ℕ) (value : Net) where
  abbrev split : List ℕ
  split = split_ages proposed plan g

  abbrev Chained : (width : ℕ) → List ℕ → List Net → Type 0
  Chained width ages nets = IsChain b old width (block_form least proposed).long value ages nets

  chain_buffered : (nets taps : List Net) → IsNet b value → old.arrays ≡ shapes_before (block_form least proposed).shapes plan g → Chained (width_of plan g) split nets → AreTapsAmong (ages_of plan g) split nets value taps → IsBuffered b old plan g (block_form least proposed) value taps
  chain_buffered nets taps own arrays is among =
      let finer : IsFiner (ages_of plan g) split = split_finer proposed plan g in
      record {
        copies = is.copies;
        buffer = finer_buffer b is.copies ((block_form least proposed).places plan g) (ages_of plan g) split nets taps value finer among own
            (subst (λ (n : ℕ). IsBuffer b is.copies (L.chain_place n split) split nets value) (ap length arrays) is.buffer);
        adds = is.adds;
        copied = is.copied;
        bits = chain_bits (width_of plan g) split finer.ascending ∙ ap (λ (d : ℕ). width_of plan g * d) (finer.last ∙ plan_depth plan g);
        made = finer_made b is.copies ((block_form least proposed).places plan g) (ages_of plan g) split nets taps value finer among (block_form least proposed).long (block_form least proposed).tap_levels (length old.arrays) (length old.arrays + length ((block_form least proposed).shapes plan g)) is.made;
        fills = is.fills;
        each = is.once;
      }

  pub block_buffered : (width : ℕ) (ages given : List ℕ) (nets taps : List Net) → IsNet b value → ages ≡ ages_of plan g → given ≡ split → width ≡ width_of plan g → old.arrays ≡ shapes_before (block_form least proposed).shapes plan g → Chained width given nets → AreTapsAmong ages given nets value taps → IsBuffered b old plan g (block_form least proposed) value taps
  block_buffered width ages given nets taps own aged same wide arrays is among =
      chain_buffered nets taps own arrays
      (subst (λ (w : ℕ). Chained w split nets) wide (subst (λ (list : List ℕ). Chained width list nets) same is))
      (subst (λ (list : List ℕ). AreTapsAmong list split nets value taps) aged (subst (λ (list : List ℕ). AreTapsAmong ages list nets value taps) same among))

-- the ages of a split are within the limit
pub split_most : (proposed : List (List ℕ)) (plan : Plan) (g : ℕ) (split : List ℕ) → IsPlan plan → Keeps plan g → split ≡ split_ages proposed plan g → All (λ age. age ≤ MAX_BUFFER_BITS) split
split_most proposed plan g split is kept e k d l =
    let finer : IsFiner (ages_of plan g) split = finer_of proposed plan g split e in
    let deep = ages_deep split (L.depth_of split) finer.ascending refl k d l in
    let most = depth_most plan is g kept in
    let depth = finer.last ∙ plan_depth plan g in
    omega (arith, deep, most, depth)
