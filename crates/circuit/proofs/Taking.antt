-- The taps of live reads, as nets of the right width.
use Rattle.net_build.proofs.Depth.{within_deeper}
use Rattle.std.proofs.Common.{◌≡◌, ℕ, ◌<◌, List, length, Option, Some, None, sym, subst, ◌∙◌, arith, ◌+◌, ◌≤◌}
use Rattle.std.specs.Prelude.{Contains, IfSome, slice_index, slice_index_or, map}
use Rattle.std.proofs.lemmas.List.{get_or-map}
use Rattle.dk_base.specs.declared.stencils.Image.{Image}
use Rattle.dk_base.specs.declared.stencils.LiveRead.{LiveRead}
use Rattle.dk_base.specs.Types.{width_of as bits_of_type}
use Rattle.dk_base.specs.Frames.{column, row}
use Rattle.dk_base.specs.Stencils.{place}
use Rattle.wiring.specs.declared.netlist.Net.{Net}
use Rattle.wiring.specs.Netlist.{Netlist, net_width}
use Rattle.wiring.specs.Sizes.{IsWidth}
use Rattle.net_build.specs.Includes.{Includes}
use Rattle.net_build.specs.Draft.{IsNet}
use Rattle.net_build.proofs.Grown.{net_more, width_more}
use Rattle.pointwise_ir.specs.Programs.{Program, IsProgram, types_of}
use Rattle.buffer_plan.specs.Plans.{Plan, IsPlan, place_in, ages_of, width_of}
use Rattle.circuit.specs.Rounds.{type_at}
use Rattle.circuit.specs.Leaves.{LeafRead}
use Rattle.circuit.specs.Taps.{Keeps, size_in, taps_at, IsTapOf, IsReading}
use Rattle.circuit.specs.Reads.{reads_in, IsChoice, IsChosen, IsNetOf, IsReadNet}
use Rattle.circuit.proofs.Typing.{plan_width}
use Rattle.circuit.proofs.BodyNets.{read_of, read_is_between, type_typed}
use Rattle.circuit.proofs.Lasting.{choice_more}

-- what is known of a live read by image f
pub record IsOwnRead (b : Netlist) (p : Program) (plan : Plan) (taps : List (List Net)) (r : LiveRead) : Type 0 where
  pub among : Contains plan.system.stencils.reads r
  pub kept : Keeps plan r.g
  pub there : place_in plan r.g < length taps
  pub one_each : length (taps_at plan taps r.g) ≡ length (ages_of plan r.g)
  pub net : (tap : Net) → IsTapOf plan taps r tap → IsNet b tap
  pub width : (tap : Net) → IsTapOf plan taps r tap → net_width b tap ≡ bits_of_type (type_at p r.g)
  pub bits : width_of plan r.g ≡ bits_of_type (type_at p r.g)
  pub wide : IsWidth (width_of plan r.g)

pub own_read : (b : Netlist) (p : Program) (plan : Plan) (taps : List (List Net)) (f : ℕ) (r : LiveRead) → IsPlan plan → IsReading b p plan taps f → Contains (reads_in plan f) r → IsOwnRead b p plan taps r
own_read b p plan taps f r is_plan reading has =
    let (among, of_f) = read_of plan f r has in
    let between = read_is_between plan is_plan r among in
    let less : r.g < f = (let lt = between.earlier in omega (arith, lt, of_f)) in
    let kept = between.source_kept in
    let bits = plan_width p plan r.g reading.stencils kept in
    let images = plan.system.stencils.images in
    let none : Image = record { number = 0; width = 0 } in
    let is = is_plan.system.stencils.images.widths (place images r.g) none kept in
    let here : slice_index (map (λ (j : Image). j.width) images) (place images r.g) ≡ (slice_index_or images (place images r.g) none).width = get_or-map (λ (j : Image). j.width) images (place images r.g) none 0 kept in
    record {
      among = among;
      kept = kept;
      there = reading.taps_are.there r.g kept less;
      one_each = reading.taps_are.one_each r.g kept less;
      net = λ tap tapped. reading.taps_are.net r.g kept less tapped.place tap tapped.there;
      width = λ tap tapped. reading.taps_are.width r.g kept less tapped.place tap tapped.there ∙ bits;
      bits = bits;
      wide = subst IsWidth (sym here) (is.some, is.most);
    }

-- what is chosen, as the netlist grows
pub chosen_net_more : (c b : Netlist) (o : Option Net) → Includes c b → IfSome o (IsNet b) → IfSome o (IsNet c)
chosen_net_more c b None f h = h
chosen_net_more c b (Some n) f h = net_more c b f n h

pub chosen_width_more : (c b : Netlist) (o : Option Net) (bits : ℕ) → Includes c b → IfSome o (IsNet b) → IfSome o (λ n. net_width b n ≡ bits) → IfSome o (λ n. net_width c n ≡ bits)
chosen_width_more c b None bits f there h = h
chosen_width_more c b (Some n) bits f there h = width_more c b f n there.declared ∙ h

-- the net of a choice among all reads is the net of the read
pub chosen_is_read : (new mid first : Netlist) (plan : Plan) (taps : List (List Net)) (f : ℕ) (leaf : LeafRead) (bits : ℕ) (o : Option Net) (n : Net) → Includes new mid → IsChoice mid first plan taps f (reads_in plan f) leaf bits o → IsNetOf new mid bits o n → IsReadNet new first plan taps f leaf bits n
chosen_is_read new mid first plan taps f leaf bits (Some m) n grows is net =
    let now : IsChoice new first plan taps f (reads_in plan f) leaf bits (Some m) = choice_more new mid grows first plan taps f (reads_in plan f) leaf bits (Some m) is in
    subst (IsReadNet new first plan taps f leaf bits) net.there (record { there = now.there; width = now.width; value = now.value; made = now.made; levels = now.levels })
chosen_is_read new mid first plan taps f leaf bits None n grows is net =
    let now : IsChoice new first plan taps f (reads_in plan f) leaf bits None = choice_more new mid grows first plan taps f (reads_in plan f) leaf bits None is in
    let zero = net.zero in
    record {
      there = zero.net;
      width = zero.width;
      value = λ m from before c s run q e. subst (λ (v : ℕ). IsChosen (size_in plan) plan taps (reads_in plan f) leaf (column (size_in plan) q) (row (size_in plan) q) s v) (sym (zero.value m s run.clock.whole.includes run.clock.at.snapshot.settled)) (now.value m from before c s run q e);
      made = λ base has own. zero.made_of base (λ x (k, lt, e). absurd (let f : ⊥ = omega (arith, lt) in f));
      levels = λ k most base j has least own. within_deeper (let g : 0 + j ≤ k + j = omega arith in g) (net.levels base j (λ x (i, lt, e). absurd (let f : ⊥ = omega (arith, lt) in f)));
    }

-- the type of an image is a width
pub type_wide : (p : Program) → IsProgram p → (g : ℕ) → g < length (types_of p) → IsWidth (bits_of_type (type_at p g))
type_wide p is g lt = (let t = type_typed p is g lt in (t.some, t.most))
