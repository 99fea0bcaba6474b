-- What a report's values keep when one more line is read.
use Rattle.std.proofs.Common.{◌≡◌, ◌<◌, ◌≤◌, ◌+◌, ◌^◌, ◌∙◌, ◌⊎◌, inl, inr, ℕ, List, [], ◌∷◌, ◌++◌, length, get_or, refl, sym, subst, arith, true, false}
use Rattle.std.specs.Prelude.{nat_eq}
use Rattle.std.specs.List.{AllByRecursion}
use Rattle.std.proofs.lemmas.Bool.{eqb-false, cases_order}
use Rattle.std.proofs.lemmas.Bool.Decides.{nat_tests}
use Rattle.std.proofs.lemmas.List.{length_push, get_or_push, get_or_append_left, map_push, length-map, get_or-map}
use Rattle.std.proofs.lemmas.List.Sums.{fails_before_first}
use Rattle.report_text.specs.declared.report.ImageLine.{ImageLine}
use Rattle.report_text.specs.declared.report.FlowLine.{FlowLine}
use Rattle.std.specs.Str.{bytes_eq}
use Rattle.report_text.specs.Reports.{Report, Meets, IsBare, IsImageLine, IsFlowLine, AreDistinct, names_of, Ascend, most_images, most_latencies}
use Rattle.report_text.specs.Reading.{follows, place_of}
use Rattle.report_text.proofs.Orders.{Decides-line}
use Rattle.report_text.proofs.Words.{some_image, same_self}
use Rattle.report_text.proofs.Automaton.{with_latency, with_image, with_size, IsLater}

-- lists with one item more
pub all_push : {A : Type 0} (P : A → Type 0) (xs : List A) (x : A) → AllByRecursion P xs → P x → AllByRecursion P (xs ++ x ∷ [])
all_push P [] x a h = (h, tt)
all_push P (y ∷ xs) x a h = (a.0, all_push P xs x a.1 h)

pub ascend_push : (xs : List FlowLine) (x : FlowLine) → Ascend xs → follows xs x ≡ true → Ascend (xs ++ x ∷ [])
ascend_push [] x a h = tt
ascend_push (y ∷ []) x a h = ((Decides-line y x).0 h, tt)
ascend_push (y ∷ z ∷ xs) x a h = (a.0, ascend_push (z ∷ xs) x a.1 h)

distinct_push : (names : List (List ℕ)) (n : List ℕ) → AreDistinct names → ((k : ℕ) → k < length names → get_or names k [] ≡ n → ⊥) → AreDistinct (names ++ n ∷ [])
distinct_push names n d new a b h l e = by (cases_order b (length names))
  where
    many : length (names ++ n ∷ []) ≡ length names + 1
    many = length_push names n

    first : a < length names → get_or (names ++ n ∷ []) a [] ≡ get_or names a []
    first less = get_or_append_left names (n ∷ []) [] a less

    by : (b ≡ length names) ⊎ ((b < length names) ⊎ (length names < b)) → ⊥
    by (inl at) =
        let less : a < length names = omega arith in
        new a less (sym (first less) ∙ e ∙ get_or_push names n [] b (sym at))
    by (inr (inl less)) = d a b h less (sym (first (omega arith)) ∙ e ∙ get_or_append_left names (n ∷ []) [] b less)
    by (inr (inr more)) = let m = many in absurd (omega arith)

new_name : (images : List ImageLine) (name : List ℕ) (k : ℕ) → place_of images name ≡ length images → k < length images → get_or (names_of images) k [] ≡ name → ⊥
new_name images name k p h e =
    let same = sym (get_or-map (λ i. i.name) images k some_image [] h) ∙ e in
    let f = fails_before_first (λ i. bytes_eq i.name name) images k some_image (subst (λ n. k < n) (sym p) h) in
    let t = subst (λ x. bytes_eq x name ≡ true) (sym same) (same_self name) in
    absurd (cc (f, t))

pub distinct_more : (images : List ImageLine) (i : ImageLine) → AreDistinct (names_of images) → place_of images i.name ≡ length images → AreDistinct (names_of (images ++ i ∷ []))
distinct_more images i d p = subst AreDistinct (sym (map_push (λ i. i.name) images i)) (distinct_push (names_of images) i.name d (λ k h e. new_name images i.name k p (subst (λ n. k < n) (length-map images (λ i. i.name)) h) e))

-- what version 1 lacks is kept by a report with the same version and the same of these values, and is nothing to a later version
abbrev Bare : Report → Type 0
Bare r = r.version ≡ 1 → IsBare r

bare : (s r : Report) → Meets s → s.version ≡ r.version → s.bits_limit ≡ r.bits_limit → s.latency_limit ≡ r.latency_limit → s.age ≡ r.age → s.reads ≡ r.reads → Bare r
bare s r m v b l a n e = let c = m.bare (v ∙ e) in record { bits_limit = sym b ∙ c.bits_limit; latency_limit = sym l ∙ c.latency_limit; age = sym a ∙ c.age; reads = sym n ∙ c.reads }

never : (r : Report) → IsLater r → Bare r
never r l e = absurd (eqb-false r.version 1 l e)

-- one line more
some_fit : (v : ℕ) → 1 ≤ most_images v
some_fit v = grind (arith, nat_tests)

one_fits : (v : ℕ) → 1 ≤ most_latencies v
one_fits v = grind (arith, nat_tests)

pub plan_meets : (r : Report) (v : ℕ) → Meets (with_size r) → nat_eq v 1 ≡ false → 1 ≤ v → v ≤ 3 → Meets (with_size (record r { version = v }))
plan_meets r v m l a b =
    let i : length (some_image ∷ []) ≤ most_images v = some_fit v in
    let n : length {A = ℕ} (0 ∷ []) ≤ most_latencies v = one_fits v in
    let lacks : Bare (with_size (record r { version = v })) = never (with_size (record r { version = v })) l in
    assumption (m, lacks, i, n, a, b)

pub limits_meets : (r : Report) (b n : ℕ) → Meets (with_size r) → IsLater r → b < 2 ^ 64 → n < 2 ^ 64 → Meets (with_size (record r { bits_limit = b; latency_limit = n }))
limits_meets r b n m l c d =
    let lacks : Bare (with_size (record r { bits_limit = b; latency_limit = n })) = never (with_size (record r { bits_limit = b; latency_limit = n })) l in
    assumption (m, lacks, c, d)

pub age_meets : (r : Report) (n : ℕ) → Meets (with_size r) → IsLater r → n ≤ 64 → Meets (with_size (record r { age = n }))
age_meets r n m l h =
    let lacks : Bare (with_size (record r { age = n })) = never (with_size (record r { age = n })) l in
    assumption (m, lacks, h)

pub sized_meets : (r : Report) (w h : ℕ) → Meets (with_size r) → 1 ≤ w → w ≤ 4096 → 1 ≤ h → h ≤ 4096 → Meets (with_image (record r { width = w; height = h }))
sized_meets r w h m a b c d =
    let lacks : Bare (with_image (record r { width = w; height = h })) = bare (with_size r) (with_image (record r { width = w; height = h })) m refl refl refl refl refl in
    assumption (m, lacks, a, b, c, d)

pub imaged_meets : (r : Report) (images : List ImageLine) (i : ImageLine) → Meets (with_latency (record r { images = images })) → AllByRecursion IsImageLine r.images → AreDistinct (names_of r.images) → r.flow ≡ []
    → IsImageLine i → length r.images < most_images r.version → place_of r.images i.name ≡ length r.images → Meets (with_latency (record r { images = r.images ++ i ∷ [] }))
imaged_meets r images i m a d none h room new =
    let many = length_push r.images i in
    let some : 1 ≤ length (r.images ++ i ∷ []) = omega arith in
    let most : length (r.images ++ i ∷ []) ≤ most_images r.version = omega arith in
    let all = all_push IsImageLine r.images i a h in
    let distinct = distinct_more r.images i d new in
    let flow = subst (λ f. AllByRecursion (IsFlowLine (length (r.images ++ i ∷ []))) f) (sym none) tt in
    let lacks : Bare (with_latency (record r { images = r.images ++ i ∷ [] })) = bare (with_latency (record r { images = images })) (with_latency (record r { images = r.images ++ i ∷ [] })) m refl refl refl refl refl in
    assumption (m, lacks, some, most, all, distinct, flow)

pub delayed_meets : (r : Report) (latencies : List ℕ) (n : ℕ) → Meets (record r { latencies = latencies }) → AllByRecursion (λ n. n < 2 ^ 64) r.latencies
    → n < 2 ^ 64 → length r.latencies < most_latencies r.version → Meets (record r { latencies = r.latencies ++ n ∷ [] })
delayed_meets r latencies n m a h room =
    let many = length_push r.latencies n in
    let some : 1 ≤ length (r.latencies ++ n ∷ []) = omega arith in
    let most : length (r.latencies ++ n ∷ []) ≤ most_latencies r.version = omega arith in
    let all = all_push (λ n. n < 2 ^ 64) r.latencies n a h in
    let lacks : Bare (record r { latencies = r.latencies ++ n ∷ [] }) = bare (record r { latencies = latencies }) (record r { latencies = r.latencies ++ n ∷ [] }) m refl refl refl refl refl in
    assumption (m, lacks, some, most, all)

pub clocks_meets : (r : Report) (n : ℕ) → Meets r → n < 2 ^ 64 → Meets (record r { clocks = n })
clocks_meets r n m h =
    let lacks : Bare (record r { clocks = n }) = bare r (record r { clocks = n }) m refl refl refl refl refl in
    assumption (m, lacks, h)

pub bits_meets : (r : Report) (n : ℕ) → Meets r → n < 2 ^ 64 → Meets (record r { bits = n })
bits_meets r n m h =
    let lacks : Bare (record r { bits = n }) = bare r (record r { bits = n }) m refl refl refl refl refl in
    assumption (m, lacks, h)

pub reads_meets : (r : Report) (n : ℕ) → Meets r → IsLater r → n < 2 ^ 64 → Meets (record r { reads = n })
reads_meets r n m l h =
    let lacks : Bare (record r { reads = n }) = never (record r { reads = n }) l in
    assumption (m, lacks, h)

pub flow_meets : (r : Report) (x : FlowLine) → Meets r → IsFlowLine (length r.images) x → follows r.flow x ≡ true → Meets (record r { flow = r.flow ++ x ∷ [] })
flow_meets r x m h f =
    let all = all_push (IsFlowLine (length r.images)) r.flow x m.flow h in
    let ascending = ascend_push r.flow x m.ascending f in
    let lacks : Bare (record r { flow = r.flow ++ x ∷ [] }) = bare r (record r { flow = r.flow ++ x ∷ [] }) m refl refl refl refl refl in
    assumption (m, lacks, all, ascending)
