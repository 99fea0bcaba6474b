-- The outputs of a circuit.
use Rattle.std.proofs.Common.{◌≡◌, ℕ, zero, suc, ◌+◌, ◌*◌, ◌<◌, List, [], ◌∷◌, ◌++◌, length, Some, refl, sym, ap, subst, ◌∙◌, inl, inr, arith}
use Rattle.std.specs.Prelude.{slice_get, slice_index}
use Rattle.std.proofs.lemmas.Option.{same_Some, slice_get_within}
use Rattle.wiring.specs.declared.netlist.Net.{Net}
use Rattle.wiring.specs.Netlist.{Netlist, net_width}
use Rattle.wiring.specs.Rules.{with_valids}
use Rattle.wiring.proofs.Search.{at_push}
use Rattle.net_build.specs.Includes.{Includes}
use Rattle.net_build.specs.Draft.{IsNet, AreSources, AllUpdated, flat}
use Rattle.edge_select.specs.declared.frame_tests.FrameTests.{FrameTests}
use Rattle.edge_select.specs.FrameTests.{AddsTests}
use Rattle.net_build.proofs.Grown.{net_more, width_more}
use Rattle.net_build.proofs.Runs.{clock_more}
use Rattle.net_build.proofs.Updating.{all_updated}
use Rattle.buffer_plan.specs.Plans.{Plan, latency_of}
use Rattle.line_buffer.proofs.Depth.{index_within_more}
use Rattle.circuit.specs.Behaviour.{net_of}
use Rattle.circuit.specs.Ends.{valid_levels, IsStarted, AreOuts, output_in, IsValidOf, AreValids, IsOut, IsSharedBy, AreShared, CanEnd}

-- a valid lasts
started_more : (new old : Netlist) (latency : ℕ) (n : Net) → Includes new old → IsStarted old latency n → IsStarted new latency n
started_more new old latency n grows is = record { depth = index_within_more new old valid_levels n grows is.depth; started = λ m from before c s clock since. is.started m from before c s (clock_more new old m from before c s grows clock) since }

out_more : (new old : Netlist) (plan : Plan) (nets : List Net) (k : ℕ) (out : Net × Net) → Includes new old → IsOut old plan nets k out → IsOut new plan nets k out
out_more new old plan nets k out grows is = record {
  valid = record {
    there = net_more new old grows out.0 is.valid.there;
    width = width_more new old grows out.0 is.valid.there.declared ∙ is.valid.width;
    started = started_more new old (latency_of plan k) out.0 grows is.valid.started;
  };
  dout = is.dout;
}

-- each by its place
pub valids_of : (b : Netlist) (plan : Plan) (nets : List Net) (n : ℕ) (outs : List (Net × Net)) → AreOuts b plan nets n outs → AreValids b plan outs
valids_of b plan nets n outs are k out at = record { there = are.there k out at; width = are.width k out at; started = are.valid k out at }

out_of : (b : Netlist) (plan : Plan) (nets : List Net) (n : ℕ) (outs : List (Net × Net)) → AreOuts b plan nets n outs → (k : ℕ) (out : Net × Net) → slice_get outs k ≡ Some out → IsOut b plan nets k out
out_of b plan nets n outs are k out at = record { valid = valids_of b plan nets n outs are k out at; dout = are.dout k out at }

outs_by : (b : Netlist) (plan : Plan) (nets : List Net) (n : ℕ) (outs : List (Net × Net)) → length outs ≡ n → ((k : ℕ) (out : Net × Net) → slice_get outs k ≡ Some out → IsOut b plan nets k out) → AreOuts b plan nets n outs
outs_by b plan nets n outs long each = record {
  count = long;
  dout = λ k out at. (each k out at).dout;
  there = λ k out at. (each k out at).valid.there;
  width = λ k out at. (each k out at).valid.width;
  valid = λ k out at. (each k out at).valid.started;
}

-- outputs of one latency have one valid
pub valid_shared : (b : Netlist) (plan : Plan) (j k : ℕ) (n : Net) → latency_of plan j ≡ latency_of plan k → IsValidOf b plan j n → IsValidOf b plan k n
valid_shared b plan j k n same is = record { there = is.there; width = is.width; started = subst (λ (l : ℕ). IsStarted b l n) same is.started }

-- none, and one more
pub outs_none : (b : Netlist) (plan : Plan) (nets : List Net) (outs : List (Net × Net)) → outs ≡ [] → AreOuts b plan nets (length outs) outs
outs_none b plan nets outs e = outs_by b plan nets (length outs) outs refl (λ k out at. absurd (none k out (subst (λ (os : List (Net × Net)). slice_get os k ≡ Some out) e at)))
  where
    none : (k : ℕ) (out : Net × Net) → slice_get [] k ≡ Some out → ⊥
    none k out at = cc

pub outs_more : (new old : Netlist) (plan : Plan) (nets : List Net) (outs more : List (Net × Net)) (out : Net × Net) → Includes new old → more ≡ outs ++ out ∷ [] → AreOuts old plan nets (length outs) outs → IsOut new plan nets (length outs) out → AreOuts new plan nets (length more) more
outs_more new old plan nets outs more out grows e are is =
    subst (λ (os : List (Net × Net)). AreOuts new plan nets (length os) os) (sym e)
    (outs_by new plan nets (length (outs ++ out ∷ [])) (outs ++ out ∷ []) refl (λ k o at. elim (at_push outs out o k at) [
      | inl old_one ↦ out_more new old plan nets k o grows (out_of old plan nets (length outs) outs are k o old_one)
      | inr last ↦ subst (λ (j : ℕ). IsOut new plan nets j o) (sym last.0) (subst (IsOut new plan nets (length outs)) last.1 is)
    ]))

-- outputs of one latency share their valid
pub shared_none : (plan : Plan) (outs : List (Net × Net)) → outs ≡ [] → AreShared plan outs
shared_none plan outs e k out at j o on same = absurd (none j o (subst (λ (os : List (Net × Net)). slice_get os j ≡ Some o) e on))
  where
    none : (j : ℕ) (o : Net × Net) → slice_get [] j ≡ Some o → ⊥
    none j o on = cc

pub shared_more : (plan : Plan) (outs more : List (Net × Net)) (out : Net × Net) → more ≡ outs ++ out ∷ [] → AreShared plan outs → IsSharedBy plan outs (length outs) out.0 → AreShared plan more
shared_more plan outs more out e old is = subst (AreShared plan) (sym e) (λ k o at j q on same. elim (at_push outs out o k at) as (λ _. q.0 ≡ o.0) [
  | inl first ↦ elim (at_push outs out q j on) as (λ _. q.0 ≡ o.0) [
    | inl other ↦ old k o first j q other same
    | inr last ↦ ap (λ (p : Net × Net). p.0) (sym last.1) ∙ sym (is k o first (sym same ∙ ap (latency_of plan) last.0))
  ]
  | inr last ↦ elim (at_push outs out q j on) as (λ _. q.0 ≡ o.0) [
    | inl other ↦ is j q other (same ∙ ap (latency_of plan) last.0) ∙ ap (λ (p : Net × Net). p.0) last.1
    | inr both ↦ ap (λ (p : Net × Net). p.0) (sym both.1 ∙ last.1)
  ]
])

-- where the valids and douts are among all nets
pub flat_at : (outs : List (Net × Net)) (k : ℕ) (o : Net × Net) → slice_get outs k ≡ Some o → (slice_get (flat outs) (2 * k) ≡ Some o.0) × (slice_get (flat outs) (2 * k + 1) ≡ Some o.1)
flat_at [] k o at = absurd (let f : ⊥ = cc in f)
flat_at (p ∷ outs) zero o at =
    let same : p ≡ o = same_Some p o at in
    (ap (λ (q : Net × Net). Some q.0) same, ap (λ (q : Net × Net). Some q.1) same)
flat_at (p ∷ outs) (suc k) o at =
    let rest = flat_at outs k o at in (
      subst (λ (j : ℕ). slice_get (flat (p ∷ outs)) j ≡ Some o.0) (let e : suc (suc (2 * k)) ≡ 2 * suc k = omega arith in e) rest.0,
      subst (λ (j : ℕ). slice_get (flat (p ∷ outs)) j ≡ Some o.1) (let e : suc (suc (2 * k + 1)) ≡ 2 * suc k + 1 = omega arith in e) rest.1,
    )

pub flat_long : (outs : List (Net × Net)) → length (flat outs) ≡ 2 * length outs
flat_long [] = refl
flat_long (o ∷ outs) = (let rest = flat_long outs in omega (arith, rest))

pub valids_long : (ws : List ℕ) → length (with_valids ws) ≡ 2 * length ws
valids_long [] = refl
valids_long (w ∷ ws) = (let rest = valids_long ws in omega (arith, rest))

-- a valid of one bit, and a dout of this many
record IsPair (b : Netlist) (o : Net × Net) (w : ℕ) : Type 0 where
  pub valid : IsNet b o.0
  pub one : net_width b o.0 ≡ 1
  pub dout : IsNet b o.1
  pub wide : net_width b o.1 ≡ w

flat_each : (b : Netlist) (outs : List (Net × Net)) (ws : List ℕ) → length outs ≡ length ws → ((j : ℕ) (o : Net × Net) → slice_get outs j ≡ Some o → IsPair b o (slice_index ws j)) → (k : ℕ) (n : Net) → slice_get (flat outs) k ≡ Some n →
    IsNet b n × (net_width b n ≡ slice_index (with_valids ws) k)
flat_each b [] ws long each k n at = absurd (let f : ⊥ = cc in f)
flat_each b (o ∷ outs) [] long each k n at = absurd (let f : ⊥ = omega (arith, long) in f)
flat_each b (o ∷ outs) (w ∷ ws) long each zero n at =
    let same : o.0 ≡ n = same_Some o.0 n at in
    let is = each 0 o refl in
    (subst (IsNet b) same is.valid, ap (net_width b) (sym same) ∙ is.one)
flat_each b (o ∷ outs) (w ∷ ws) long each (suc zero) n at =
    let same : o.1 ≡ n = same_Some o.1 n at in
    let is = each 0 o refl in
    (subst (IsNet b) same is.dout, ap (net_width b) (sym same) ∙ is.wide)
flat_each b (o ∷ outs) (w ∷ ws) long each (suc (suc k)) n at = flat_each b outs ws (omega (arith, long)) (λ j p on. each (suc j) p on) k n at

-- the outputs can take them
pub can_take : (last b : Netlist) (plan : Plan) (nets : List Net) (tests : FrameTests) (outs : List (Net × Net)) → CanEnd b plan nets → AddsTests last b tests tests → AreOuts last plan nets (length plan.system.stencils.outputs) outs → AreSources last (flat outs)
can_take last b plan nets tests outs can adds are = record {
  one_each = flat_long outs ∙ ap (λ (n : ℕ). 2 * n) long ∙ sym (valids_long can.widths) ∙ sym (ap length outputs);
  each = λ k n at. (let is = flat_each last outs can.widths long pair k n at in record { net = is.0; width_is = is.1 ∙ sym (ap (λ (ws : List ℕ). slice_index ws k) outputs) });
}
  where
    outputs : last.outputs ≡ with_valids can.widths
    outputs = adds.includes.outputs ∙ can.outputs

    long : length outs ≡ length can.widths
    long = are.count ∙ sym can.one_each

    pair : (j : ℕ) (o : Net × Net) → slice_get outs j ≡ Some o → IsPair last o (slice_index can.widths j)
    pair j o at =
        let within : j < length plan.system.stencils.outputs = (let lt = slice_get_within outs j o at in omega (arith, lt, are.count)) in
        let net = can.net j within in
        let same : net_of plan nets (output_in plan j) ≡ o.1 = sym (are.dout j o at) in
        record {
          valid = are.there j o at;
          one = are.width j o at;
          dout = subst (IsNet last) same (net_more last b adds.includes (net_of plan nets (output_in plan j)) net);
          wide = ap (net_width last) (sym same) ∙ width_more last b adds.includes (net_of plan nets (output_in plan j)) net.declared ∙ can.width j within;
        }

pub can_update : (last b : Netlist) (plan : Plan) (nets : List Net) (tests : FrameTests) → CanEnd b plan nets → AddsTests last b tests tests → AllUpdated last
can_update last b plan nets tests can adds = all_updated last (adds.updated [] can.updated)
