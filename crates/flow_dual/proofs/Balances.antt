-- What a flow brings to the nodes and takes from them, summed constraint by constraint.
use Rattle.std.proofs.Common.{◌≡◌, ◌≢◌, ◌<◌, ◌≤◌, ℕ, pos, List, [], ◌∷◌, length, get_or, set, take, map, slice_index, ◌+◌, eqb, cond, refl, ap, sym, arith, inl, inr, get_or-set_other, get_or-set_same}
use Rattle.std.specs.List.{zip, AllByRecursion}
use Rattle.std.proofs.lemmas.List.{length-map, take_all}
use Rattle.std.proofs.lemmas.List.Sums.{sum_by-cons, sum_by_more}
use Rattle.std.proofs.lemmas.Slice.Zip.{get_or-zip, length-zip}
use Rattle.std.proofs.lemmas.Bool.{cases_eq, cases_lt, eq-eqb, ne_eqb}
use Rattle.std.specs.Prelude.{◌-ℤ◌}
use Rattle.std.proofs.Math.ListN.{get_or-eq_default}
use Rattle.std.proofs.lemmas.List.Elements.{recursion_from_All}
use Rattle.std.proofs.lemmas.Int.{ints}
use Rattle.raster_delay.specs.Network.{Buffer, amount_at, brought, taken, inflow, outflow, begins, ends, constraint_at}
use Rattle.raster_delay.specs.Systems.{System, IsSystem, IsBalanced, image_count, nodes, widths, placed_reads, buffers, constraints_in, coefficient_in}
use Rattle.raster_delay.proofs.Within.{within_all}
use Rattle.raster_delay.proofs.Places.{system_form}
use Rattle.raster_delay.specs.declared.network.Constraint.{Constraint}
use Rattle.raster_delay.proofs.Amounts.{spot}
use Rattle.flow_dual.proofs.Pushes.{target_at, source_at}

spot_here : (k a v : ℕ) → v ≡ k → spot k a v ≡ a
spot_here k a v e = ap (λ t. cond t a 0) (eq-eqb k v (sym e))

spot_elsewhere : (k a v : ℕ) → v ≢ k → spot k a v ≡ 0
spot_elsewhere k a v ne = ap (λ t. cond t a 0) (ne_eqb k v (λ e. ne (sym e)))

-- one more of a list of amounts
one_more : (ns xs : List ℕ) (i v : ℕ) → i < length ns → i < length xs
    → amount_at (take (i + 1) (zip ns xs)) v ≡ amount_at (take i (zip ns xs)) v + spot (get_or ns i 0) (get_or xs i 0) v
one_more ns xs i v h k =
    let f : ℕ × ℕ → ℕ = λ a. cond (eqb a.0 v) a.1 0 in
    omega (arith, sum_by_more f (zip ns xs) i (0, 0) (omega (arith, length-zip ns xs)), ap f (get_or-zip ns xs i (0, 0) h k))

-- an amount that is added to what is at a node
pub added : (p : List ℕ) (t a v : ℕ) → t < length p → slice_index (set p t (slice_index p t + a)) v ≡ slice_index p v + spot t a v
added p t a v h = elim (cases_eq v t) [
  | inl e ↦ omega (arith, get_or-set_same p t (slice_index p t + a) 0 h, ap (slice_index p) e, ap (slice_index (set p t (slice_index p t + a))) e, spot_here t a v e)
  | inr ne ↦ omega (arith, get_or-set_other p t v (slice_index p t + a) 0 ne, spot_elsewhere t a v ne)
]

pub spot_most : (k a v : ℕ) → spot k a v ≤ a
spot_most k a v = elim (cases_eq v k) [ inl e ↦ omega (arith, spot_here k a v e) | inr ne ↦ omega (arith, spot_elsewhere k a v ne) ]

pub brought_more : (cs : List Constraint) (flow : List ℕ) (i v : ℕ) → i < length cs → length flow ≡ length cs
    → amount_at (take (i + 1) (brought cs flow)) v ≡ amount_at (take i (brought cs flow)) v + spot (constraint_at cs i).target (slice_index flow i) v
brought_more cs flow i v h e =
    let target : Constraint → ℕ = λ c. c.target in
    let short : i < length (map target cs) = omega (arith, length-map cs target) in
    omega (arith, one_more (map target cs) flow i v short (omega arith), ap (λ k. spot k (get_or flow i 0) v) (target_at cs i))

pub taken_more : (cs : List Constraint) (flow : List ℕ) (i v : ℕ) → i < length cs → length flow ≡ length cs
    → amount_at (take (i + 1) (taken cs flow)) v ≡ amount_at (take i (taken cs flow)) v + spot (constraint_at cs i).source (slice_index flow i) v
taken_more cs flow i v h e =
    let source : Constraint → ℕ = λ c. c.source in
    let short : i < length (map source cs) = omega (arith, length-map cs source) in
    omega (arith, one_more (map source cs) flow i v short (omega arith), ap (λ k. spot k (get_or flow i 0) v) (source_at cs i))

pub brought_all : (cs : List Constraint) (flow : List ℕ) (n v : ℕ) → length cs ≤ n → amount_at (take n (brought cs flow)) v ≡ amount_at (brought cs flow) v
brought_all cs flow n v h =
    let target : Constraint → ℕ = λ c. c.target in
    ap (λ xs. amount_at xs v) (take_all n (brought cs flow) (omega (arith, length-zip (map target cs) flow, length-map cs target)))

pub taken_all : (cs : List Constraint) (flow : List ℕ) (n v : ℕ) → length cs ≤ n → amount_at (take n (taken cs flow)) v ≡ amount_at (taken cs flow) v
taken_all cs flow n v h =
    let source : Constraint → ℕ = λ c. c.source in
    ap (λ xs. amount_at xs v) (take_all n (taken cs flow) (omega (arith, length-zip (map source cs) flow, length-map cs source)))

-- no buffer ends or begins at a node that there is not
amount_at-cons : (k a : ℕ) (xs : List (ℕ × ℕ)) (v : ℕ) → amount_at ((k, a) ∷ xs) v ≡ spot k a v + amount_at xs v
amount_at-cons k a xs v = sum_by-cons (λ (b : ℕ × ℕ). cond (eqb b.0 v) b.1 0) (k, a) xs

pub no_ends : (n v : ℕ) (bs : List Buffer) → n ≤ v → AllByRecursion (λ b. b.end < n) bs → amount_at (ends bs) v ≡ 0
no_ends n v [] le all = refl
no_ends n v (b ∷ bs) le all = omega (arith, amount_at-cons b.end b.width (ends bs) v, spot_elsewhere b.end b.width v (omega (arith, all.0)), no_ends n v bs le all.1)

pub no_begins : (n v : ℕ) (bs : List Buffer) → n ≤ v → AllByRecursion (λ b. b.begin < n) bs → amount_at (begins bs) v ≡ 0
no_begins n v [] le all = refl
no_begins n v (b ∷ bs) le all = omega (arith, amount_at-cons b.begin b.width (begins bs) v, spot_elsewhere b.begin b.width v (omega (arith, all.0)), no_begins n v bs le all.1)

-- inflow less outflow need be looked at only at the nodes that there are
pub balanced_from : (s : System) (flow brought_in taken_out : List ℕ) → IsSystem s → length flow ≡ length (constraints_in s)
    → length brought_in ≡ nodes s → length taken_out ≡ nodes s
    → ((v : ℕ) → slice_index brought_in v ≡ inflow (constraints_in s) flow v)
    → ((v : ℕ) → slice_index taken_out v ≡ outflow (constraints_in s) flow v)
    → ((v : ℕ) → v < nodes s → pos (slice_index brought_in v) -ℤ pos (slice_index taken_out v) ≡ coefficient_in s v)
    → IsBalanced s flow
balanced_from s flow brought_in taken_out system one_each count_in count_out into out same =
    let within = within_all s.stencils.width s.age s.stencils.inputs (image_count s) (widths s) (placed_reads s) (system_form s system) in
    record {
      one_each = one_each;
      balanced = λ v. elim (cases_lt v (nodes s)) [
        | inl h ↦ omega (arith, ints, same v h, into v, out v)
        | inr h ↦ omega (
          arith,
          ints,
          into v,
          out v,
          get_or-eq_default brought_in 0 {n = v} (omega (arith, h, count_in)),
          get_or-eq_default taken_out 0 {n = v} (omega (arith, h, count_out)),
          no_ends (nodes s) v (buffers s) h (recursion_from_All (λ (b : Buffer). b.end < nodes s) (buffers s) within.ends),
          no_begins (nodes s) v (buffers s) h (recursion_from_All (λ (b : Buffer). b.begin < nodes s) (buffers s) within.begins),
        )
      ];
    }
