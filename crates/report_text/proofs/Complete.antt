-- The lines of a report are read as that report.
use Rattle.std.proofs.Common.{◌≡◌, ◌<◌, ◌≤◌, ◌^◌, ◌∙◌, ℕ, zero, suc, List, [], ◌∷◌, ◌++◌, length, get_or, map, codes, refl, ap, sym, subst, arith, append_assoc, Bool, true, false, Ok, Err}
use Rattle.std.specs.Prelude.{Some, None, nat_eq, nat_lt, ◌&&◌, ◌||◌, if◌then◌else◌}
use Rattle.std.specs.List.{AllByRecursion}
use Rattle.std.proofs.lemmas.Bool.{eqb-true, eq-eqb, lt-ltb, le-ltb, and_from}
use Rattle.std.proofs.lemmas.List.{append-nil, length-append, length-map, get_or_append_left, get_or_at, get_or-map}
use Rattle.std.proofs.lemmas.List.Sums.{position_or_len_is}
use Rattle.report_text.specs.declared.report.ImageLine.{ImageLine}
use Rattle.report_text.specs.declared.report.FlowLine.{FlowLine}
use Rattle.report_text.specs.declared.step.Stage.{Stage}
use Rattle.report_text.specs.declared.step.Stage.TheVariants.{Start, Plan, Limits, Age, Size, Images, Latencies, Clocks, Bits, Reads, Flow, End}
use Rattle.std.specs.Str.{bytes_eq}
use Rattle.report_text.specs.Reports.{Report, Meets, IsImageLine, IsFlowLine, AreDistinct, names_of, Ascend, most_images, most_latencies}
use Rattle.report_text.specs.Layout.{plan_line, limits_line, age_line, size_line, image_line, latency_line, clocks_line, bits_line, reads_line, flow_line, end_line, lines}
use Rattle.report_text.specs.Reading.{◌>>=◌, or_else, number_line_at, image_at, flow_at, place_of, within, follows, sized, imaged, delayed, counted, flowing, ended, next, is_final, nothing, reading_on, reading}
use Rattle.report_text.proofs.Fields.{line_again, pair_again}
use Rattle.report_text.proofs.ImageLines.{is_within, image_again}
use Rattle.report_text.proofs.Orders.{Decides-line}
use Rattle.report_text.proofs.FlowLines.{flow_again}
use Rattle.report_text.proofs.Words.{some_image, same_not}
use Rattle.report_text.proofs.Automaton.{ending, from_flow, from_reads, from_clocks, from_latencies, from_images, from_size, IsLater}

-- whatever their first number is, these lines and the end of the text are read as the report
abbrev pub AreRead : Stage → Report → List (List ℕ) → Report → Type 0
AreRead stage s ls r = (k : ℕ) → reading k stage s (ls ++ [] ∷ []) ≡ Ok r

read_end : (stage : Stage) (r : Report) → is_final stage r.version ≡ true → AreRead stage r [] r
unfolding reading
read_end stage r e k = ap (λ t. if t then Ok r else Err k) e

read_more : (stage : Stage) (s : Report) (line : List ℕ) (ls : List (List ℕ)) (x : Stage × Report) (r : Report) → next stage s line ≡ Some x → AreRead x.0 x.1 ls r → AreRead stage s (line ∷ ls) r
unfolding reading
read_more stage s line [] x r e h k = ap (λ o. reading_on k o (λ x. reading (suc k) x.0 x.1 ([] ∷ []))) e ∙ h (suc k)
read_more stage s line (l ∷ ls) x r e h k = ap (λ o. reading_on k o (λ x. reading (suc k) x.0 x.1 (l ∷ (ls ++ [] ∷ [])))) e ∙ h (suc k)

-- the report up to the last line of a kind
abbrev at_flow : Report → List FlowLine → Report
at_flow r flow = record r { flow = flow }

abbrev at_bits : Report → Report
at_bits r = record r { reads = 0; flow = [] }

abbrev at_clocks : Report → Report
at_clocks r = record r { bits = 0; reads = 0; flow = [] }

abbrev at_latencies : Report → List ℕ → Report
at_latencies r latencies = record r { latencies = latencies; clocks = 0; bits = 0; reads = 0; flow = [] }

abbrev at_images : Report → List ImageLine → Report
at_images r images = record r { images = images; latencies = []; clocks = 0; bits = 0; reads = 0; flow = [] }

abbrev at_age : Report → Report
at_age r = record nothing { version = r.version; bits_limit = r.bits_limit; latency_limit = r.latency_limit; age = r.age }

abbrev at_limits : Report → Report
at_limits r = record nothing { version = r.version; bits_limit = r.bits_limit; latency_limit = r.latency_limit }

abbrev at_plan : Report → Report
at_plan r = record nothing { version = r.version }

-- parts of lists
all_mid : {A : Type 0} (P : A → Type 0) (done : List A) (x : A) (rest : List A) → AllByRecursion P (done ++ x ∷ rest) → P x
all_mid P [] x rest a = a.0
all_mid P (y ∷ done) x rest a = all_mid P done x rest a.1

follows_in : (done : List FlowLine) (x : FlowLine) (rest : List FlowLine) → Ascend (done ++ x ∷ rest) → follows done x ≡ true
follows_in [] x rest a = refl
follows_in (y ∷ []) x rest a = (Decides-line y x).1 a.0
follows_in (y ∷ z ∷ done) x rest a = follows_in (z ∷ done) x rest a.1

push_rest : {A : Type 0} (all done : List A) (x : A) (rest : List A) → all ≡ done ++ x ∷ rest → all ≡ (done ++ x ∷ []) ++ rest
push_rest all done x rest e = e ∙ sym (append_assoc done (x ∷ []) rest)

-- flow lines and the end
ended_again : (r : Report) → IsLater r → ended r end_line ≡ Some (End, r)
ended_again r l = rw l refl

flow_none : (images : List ImageLine) → flow_at images end_line ≡ None
unfolding flow_at
flow_none images = refl

flowing_none : (r : Report) → flowing r end_line ≡ None
flowing_none r = ap (λ o. o >>= λ x. if follows r.flow x then Some (Flow, record r { flow = r.flow ++ x ∷ [] }) else None) (flow_none r.images)

-- a stage at which a flow line or the end may come
record MayFlow (stage : Stage) (version : ℕ) : Type 0 where
  flows : (s : Report) (line : List ℕ) (x : Stage × Report) → s.version ≡ version → flowing s line ≡ Some x → next stage s line ≡ Some x
  ends : (r : Report) → r.version ≡ version → AreRead stage r (ending r) r

read_final : (stage : Stage) (r : Report) → nat_eq r.version 1 ≡ true → is_final stage r.version ≡ true → AreRead stage r (ending r) r
read_final stage r h f = subst (λ t. AreRead stage r (if t then [] else end_line ∷ []) r) (sym h) (read_end stage r f)

read_last : (stage : Stage) (r : Report) → IsLater r → next stage r end_line ≡ Some (End, r) → AreRead stage r (ending r) r
read_last stage r h e = subst (λ t. AreRead stage r (if t then [] else end_line ∷ []) r) (sym h) (read_more stage r end_line [] (End, r) r e (read_end End r refl))

last_again : (r : Report) → IsLater r → or_else (flowing r end_line) (ended r end_line) ≡ Some (End, r)
last_again r h = ap (λ o. or_else o (ended r end_line)) (flowing_none r) ∙ ended_again r h

flow_may : (version : ℕ) → MayFlow Flow version
flow_may version = record {
  flows = λ s line x v e. ap (λ o. or_else o (ended s line)) e;
  ends = λ r v. by r (nat_eq r.version 1) refl;
}
  where
    by : (r : Report) (t : Bool) → nat_eq r.version 1 ≡ t → AreRead Flow r (ending r) r
    by r true h = read_final Flow r h h
    by r false h = read_last Flow r h (last_again r h)

reads_may : (version : ℕ) → nat_eq version 1 ≡ false → MayFlow Reads version
reads_may version l = record {
  flows = λ s line x v e. ap (λ o. or_else o (ended s line)) e;
  ends = λ r v. let h = ap (λ n. nat_eq n 1) v ∙ l in read_last Reads r h (last_again r h);
}

bits_may : (version : ℕ) → nat_eq version 1 ≡ true → MayFlow Bits version
bits_may version l = record {
  flows = λ s line x v e. ap (λ t. if t then flowing s line else counted s line) (ap (λ n. nat_eq n 1) v ∙ l) ∙ e;
  ends = λ r v. let h = ap (λ n. nat_eq n 1) v ∙ l in read_final Bits r h h;
}

flowing_again : (r : Report) (done : List FlowLine) (x : FlowLine) (rest : List FlowLine) → Meets r → r.flow ≡ done ++ x ∷ rest
    → flowing (at_flow r done) (flow_line r.images x) ≡ Some (Flow, at_flow r (done ++ x ∷ []))
flowing_again r done x rest m e =
    ap (λ o. o >>= λ x. if follows done x then Some (Flow, at_flow r (done ++ x ∷ [])) else None) (flow_again r.images x m.images m.distinct (all_mid (IsFlowLine (length r.images)) done x rest (subst (AllByRecursion (IsFlowLine (length r.images))) e m.flow)))
    ∙ ap (λ t. if t then Some (Flow, at_flow r (done ++ x ∷ [])) else None) (follows_in done x rest (subst Ascend e m.ascending))

flow_lines : (r : Report) (stage : Stage) (done rest : List FlowLine) → Meets r → MayFlow stage r.version → r.flow ≡ done ++ rest → AreRead stage (at_flow r done) (map (flow_line r.images) rest ++ ending r) r
flow_lines r stage done [] m f e = subst (λ l. AreRead stage (at_flow r l) (ending r) r) (e ∙ append-nil done) (f.ends r refl)
flow_lines r stage done (x ∷ rest) m f e =
    read_more stage (at_flow r done) (flow_line r.images x) (map (flow_line r.images) rest ++ ending r) (Flow, at_flow r (done ++ x ∷ [])) r
    (f.flows (at_flow r done) (flow_line r.images x) (Flow, at_flow r (done ++ x ∷ [])) refl (flowing_again r done x rest m e))
    (flow_lines r Flow (done ++ x ∷ []) rest m (flow_may r.version) (push_rest r.flow done x rest e))

-- the number of reads
counted_again : (r : Report) → Meets r → counted (at_bits r) (reads_line r.reads) ≡ Some (Reads, at_flow r [])
counted_again r m = ap (λ o. o >>= λ n. Some (Reads, record (at_bits r) { reads = n })) (line_again (codes "reads ") r.reads m.reads)

reads_lines : (r : Report) → Meets r → AreRead Bits (at_bits r) (from_reads r) r
reads_lines r m = by (nat_eq r.version 1) refl
  where
    by : (t : Bool) → nat_eq r.version 1 ≡ t → AreRead Bits (at_bits r) ((if t then [] else reads_line r.reads ∷ []) ++ from_flow r) r
    by true h = subst (λ n. AreRead Bits (record r { reads = n; flow = [] }) (from_flow r) r) ((m.bare (eqb-true r.version 1 h)).reads) (flow_lines r Bits [] r.flow m (bits_may r.version h) refl)
    by false h = read_more Bits (at_bits r) (reads_line r.reads) (from_flow r) (Reads, at_flow r []) r
        (ap (λ t. if t then flowing (at_bits r) (reads_line r.reads) else counted (at_bits r) (reads_line r.reads)) h ∙ counted_again r m)
        (flow_lines r Reads [] r.flow m (reads_may r.version h) refl)

-- clocks and bits
bits_lines : (r : Report) → Meets r → AreRead Clocks (at_clocks r) (bits_line r.bits ∷ from_reads r) r
bits_lines r m = read_more Clocks (at_clocks r) (bits_line r.bits) (from_reads r) (Bits, at_bits r) r
    (ap (λ o. o >>= λ n. Some (Bits, record (at_clocks r) { bits = n })) (line_again (codes "bits ") r.bits m.bits))
    (reads_lines r m)

not_latency : (n : ℕ) → number_line_at (codes "latency ") (clocks_line n) ≡ None
unfolding number_line_at
not_latency n = refl

clocks_again : (r : Report) → Meets r → next Latencies (at_latencies r r.latencies) (clocks_line r.clocks) ≡ Some (Clocks, at_clocks r)
clocks_again r m =
    ap (λ o. or_else (o >>= λ n. if nat_lt (length r.latencies) (most_latencies r.version) then Some (Latencies, at_latencies r (r.latencies ++ n ∷ [])) else None) (number_line_at (codes "clocks ") (clocks_line r.clocks) >>= λ n. Some (Clocks, record (at_latencies r r.latencies) { clocks = n }))) (not_latency r.clocks)
    ∙ ap (λ o. o >>= λ n. Some (Clocks, record (at_latencies r r.latencies) { clocks = n })) (line_again (codes "clocks ") r.clocks m.clocks)

clocks_lines : (r : Report) → Meets r → AreRead Latencies (at_latencies r r.latencies) (from_clocks r) r
clocks_lines r m = read_more Latencies (at_latencies r r.latencies) (clocks_line r.clocks) (bits_line r.bits ∷ from_reads r) (Clocks, at_clocks r) r (clocks_again r m) (bits_lines r m)

-- latencies
room : {A : Type 0} (all done : List A) (x : A) (rest : List A) (most : ℕ) → all ≡ done ++ x ∷ rest → length all ≤ most → nat_lt (length done) most ≡ true
room all done x rest most e h = let n = ap length e ∙ length-append done (x ∷ rest) in lt-ltb (length done) most (omega arith)

delayed_again : (r : Report) (done : List ℕ) (n : ℕ) (rest : List ℕ) → Meets r → r.latencies ≡ done ++ n ∷ rest → delayed (at_latencies r done) (latency_line n) ≡ Some (Latencies, at_latencies r (done ++ n ∷ []))
delayed_again r done n rest m e =
    ap (λ o. o >>= λ n. if nat_lt (length done) (most_latencies r.version) then Some (Latencies, at_latencies r (done ++ n ∷ [])) else None) (line_again (codes "latency ") n (all_mid (λ n. n < 2 ^ 64) done n rest (subst (AllByRecursion (λ n. n < 2 ^ 64)) e m.latencies)))
    ∙ ap (λ t. if t then Some (Latencies, at_latencies r (done ++ n ∷ [])) else None) (room r.latencies done n rest (most_latencies r.version) e m.latency_count)

latency_lines : (r : Report) (done rest : List ℕ) → Meets r → r.latencies ≡ done ++ rest → AreRead Latencies (at_latencies r done) (map latency_line rest ++ from_clocks r) r
latency_lines r done [] m e = subst (λ l. AreRead Latencies (at_latencies r l) (from_clocks r) r) (e ∙ append-nil done) (clocks_lines r m)
latency_lines r done (n ∷ rest) m e =
    read_more Latencies (at_latencies r done) (latency_line n) (map latency_line rest ++ from_clocks r) (Latencies, at_latencies r (done ++ n ∷ [])) r
    (ap (λ o. or_else o (number_line_at (codes "clocks ") (latency_line n) >>= λ n. Some (Clocks, record (at_latencies r done) { clocks = n }))) (delayed_again r done n rest m e))
    (latency_lines r (done ++ n ∷ []) rest m (push_rest r.latencies done n rest e))

not_image : (n : ℕ) → image_at (latency_line n) ≡ None
unfolding image_at
not_image n = refl

first_latency : (r : Report) (all : List ℕ) → Meets r → r.latencies ≡ all → 1 ≤ length all → AreRead Images (at_images r r.images) (map latency_line all ++ from_clocks r) r
first_latency r [] m e some = absurd (omega arith)
first_latency r (n ∷ rest) m e some =
    read_more Images (at_images r r.images) (latency_line n) (map latency_line rest ++ from_clocks r) (Latencies, at_latencies r (n ∷ [])) r
    (ap (λ o. or_else (o >>= λ i. if nat_lt (length r.images) (most_images r.version) && nat_eq (place_of r.images i.name) (length r.images) then Some (Images, at_images r (r.images ++ i ∷ [])) else None) (delayed (at_latencies r []) (latency_line n))) (not_image n)
    ∙ delayed_again r [] n rest m e)
    (latency_lines r (n ∷ []) rest m e)

-- images
name_before : (done : List ImageLine) (i : ImageLine) (rest : List ImageLine) (k : ℕ) → k < length done → get_or (names_of (done ++ i ∷ rest)) k [] ≡ (get_or done k some_image).name
name_before done i rest k h =
    let n = length-append done (i ∷ rest) in
    get_or-map (λ i. i.name) (done ++ i ∷ rest) k some_image [] (omega arith) ∙ ap (λ j. j.name) (get_or_append_left done (i ∷ rest) some_image k h)

name_there : (done : List ImageLine) (i : ImageLine) (rest : List ImageLine) → get_or (names_of (done ++ i ∷ rest)) (length done) [] ≡ i.name
name_there done i rest =
    let n = length-append done (i ∷ rest) in
    get_or-map (λ i. i.name) (done ++ i ∷ rest) (length done) some_image [] (omega arith) ∙ ap (λ j. j.name) (get_or_at done i rest some_image (length done) refl)

place_is : (done : List ImageLine) (i : ImageLine) (rest : List ImageLine) → AreDistinct (names_of (done ++ i ∷ rest)) → place_of done i.name ≡ length done
place_is done i rest d =
    let n = length-append done (i ∷ rest) in
    let many : length (names_of (done ++ i ∷ rest)) ≡ length (done ++ i ∷ rest) = length-map (done ++ i ∷ rest) (λ i. i.name) in
    position_or_len_is (λ j. bytes_eq j.name i.name) done (length done) some_image (omega arith)
    (λ k h. same_not (get_or done k some_image).name i.name (λ e. d k (length done) h (omega arith) (name_before done i rest k h ∙ e ∙ sym (name_there done i rest))))
    (λ h. absurd (omega arith))

imaged_again : (r : Report) (done : List ImageLine) (i : ImageLine) (rest : List ImageLine) → Meets r → r.images ≡ done ++ i ∷ rest → imaged (at_images r done) (image_line i) ≡ Some (Images, at_images r (done ++ i ∷ []))
imaged_again r done i rest m e =
    ap (λ o. o >>= λ i. if nat_lt (length done) (most_images r.version) && nat_eq (place_of done i.name) (length done) then Some (Images, at_images r (done ++ i ∷ [])) else None) (image_again i (all_mid IsImageLine done i rest (subst (AllByRecursion IsImageLine) e m.images)))
    ∙ ap (λ t. if t then Some (Images, at_images r (done ++ i ∷ [])) else None)
    (and_from _ _ (room r.images done i rest (most_images r.version) e m.image_limit) (eq-eqb _ _ (place_is done i rest (subst (λ l. AreDistinct (names_of l)) e m.distinct))))

image_lines : (r : Report) (done rest : List ImageLine) → Meets r → r.images ≡ done ++ rest → AreRead Images (at_images r done) (map image_line rest ++ from_latencies r) r
image_lines r done [] m e = subst (λ l. AreRead Images (at_images r l) (from_latencies r) r) (e ∙ append-nil done) (first_latency r r.latencies m refl m.some_latencies)
image_lines r done (i ∷ rest) m e =
    read_more Images (at_images r done) (image_line i) (map image_line rest ++ from_latencies r) (Images, at_images r (done ++ i ∷ [])) r
    (ap (λ o. or_else o (delayed (at_images r done) (image_line i))) (imaged_again r done i rest m e))
    (image_lines r (done ++ i ∷ []) rest m (push_rest r.images done i rest e))

first_image : (r : Report) (all : List ImageLine) → Meets r → r.images ≡ all → 1 ≤ length all → AreRead Size (at_images r []) (map image_line all ++ from_latencies r) r
first_image r [] m e some = absurd (omega arith)
first_image r (i ∷ rest) m e some =
    read_more Size (at_images r []) (image_line i) (map image_line rest ++ from_latencies r) (Images, at_images r (i ∷ [])) r (imaged_again r [] i rest m e) (image_lines r (i ∷ []) rest m e)

images_lines : (r : Report) → Meets r → AreRead Size (at_images r []) (from_images r) r
images_lines r m = first_image r r.images m refl m.some_images

-- the size
sized_again : (r : Report) → Meets r → sized (at_age r) (size_line r.width r.height) ≡ Some (Size, at_images r [])
sized_again r m =
    let columns : r.width < 2 ^ 64 = let h = m.most_columns in omega arith in
    let rows : r.height < 2 ^ 64 = let h = m.most_rows in omega arith in
    ap (λ o. o >>= λ x. if within 4096 x.0 && within 4096 x.1 then Some (Size, record (at_age r) { width = x.0; height = x.1 }) else None) (pair_again (codes "size ") r.width r.height columns rows)
    ∙ ap (λ t. if t then Some (Size, at_images r []) else None) (and_from _ _ (is_within 4096 r.width m.some_columns m.most_columns) (is_within 4096 r.height m.some_rows m.most_rows))

not_plan : (m n : ℕ) → number_line_at (codes "plan ") (size_line m n) ≡ None
unfolding number_line_at
not_plan m n = refl

-- version 1 begins with the size
first_start : (r : Report) → Meets r → r.version ≡ 1 → AreRead Start (at_age r) (from_size r) r
first_start r m e =
    read_more Start (at_age r) (size_line r.width r.height) (from_images r) (Size, at_images r []) r
    (ap (λ o. or_else (o >>= λ v. if nat_eq v 2 || nat_eq v 3 then Some (Plan, record (at_age r) { version = v }) else None) (sized (at_age r) (size_line r.width r.height))) (not_plan r.width r.height) ∙ sized_again r m)
    (images_lines r m)

bare_is : (r : Report) → Meets r → r.version ≡ 1 → at_age r ≡ nothing
bare_is r m e =
    let b = m.bare e in
    ap (λ v. record nothing { version = v; bits_limit = r.bits_limit; latency_limit = r.latency_limit; age = r.age }) e
    ∙ ap (λ x. record nothing { bits_limit = x; latency_limit = r.latency_limit; age = r.age }) b.bits_limit
    ∙ ap (λ x. record nothing { latency_limit = x; age = r.age }) b.latency_limit
    ∙ ap (λ x. record nothing { age = x }) b.age

-- the head of a later version
age_lines : (r : Report) → Meets r → AreRead Limits (at_limits r) (age_line r.age ∷ from_size r) r
age_lines r m =
    let small : r.age < 2 ^ 64 = let h = m.age in omega arith in
    read_more Limits (at_limits r) (age_line r.age) (from_size r) (Age, at_age r) r
    (ap (λ o. o >>= λ n. if nat_lt 64 n then None else Some (Age, record (at_limits r) { age = n })) (line_again (codes "age ") r.age small)
    ∙ ap (λ t. if t then None else Some (Age, at_age r)) (le-ltb 64 r.age m.age))
    (read_more Age (at_age r) (size_line r.width r.height) (from_images r) (Size, at_images r []) r (sized_again r m) (images_lines r m))

limits_lines : (r : Report) → Meets r → AreRead Plan (at_plan r) (limits_line r.bits_limit r.latency_limit ∷ age_line r.age ∷ from_size r) r
limits_lines r m =
    read_more Plan (at_plan r) (limits_line r.bits_limit r.latency_limit) (age_line r.age ∷ from_size r) (Limits, at_limits r) r
    (ap (λ o. o >>= λ x. Some (Limits, record (at_plan r) { bits_limit = x.0; latency_limit = x.1 })) (pair_again (codes "limits ") r.bits_limit r.latency_limit m.bits_limit m.latency_limit))
    (age_lines r m)

is_two_or_three : (v : ℕ) → nat_eq v 1 ≡ false → 1 ≤ v → v ≤ 3 → (nat_eq v 2 || nat_eq v 3) ≡ true
is_two_or_three zero l a b = absurd (omega arith)
is_two_or_three (suc zero) l a b = absurd (cc l)
is_two_or_three (suc (suc zero)) l a b = refl
is_two_or_three (suc (suc (suc zero))) l a b = refl
is_two_or_three (suc (suc (suc (suc n)))) l a b = absurd (omega arith)

later_start : (r : Report) → Meets r → IsLater r → AreRead Start nothing (plan_line r.version ∷ limits_line r.bits_limit r.latency_limit ∷ age_line r.age ∷ from_size r) r
later_start r m l =
    let small : r.version < 2 ^ 64 = let h = m.last_version in omega arith in
    read_more Start nothing (plan_line r.version) (limits_line r.bits_limit r.latency_limit ∷ age_line r.age ∷ from_size r) (Plan, at_plan r) r
    (ap (λ o. or_else (o >>= λ v. if nat_eq v 2 || nat_eq v 3 then Some (Plan, record nothing { version = v }) else None) (sized nothing (plan_line r.version))) (line_again (codes "plan ") r.version small)
    ∙ ap (λ t. or_else (if t then Some (Plan, at_plan r) else None) (sized nothing (plan_line r.version))) (is_two_or_three r.version l m.first_version m.last_version))
    (limits_lines r m)

pub complete : (r : Report) → Meets r → AreRead Start nothing (lines r) r
complete r m = by (nat_eq r.version 1) refl
  where
    by : (t : Bool) → nat_eq r.version 1 ≡ t → AreRead Start nothing ((if t then [] else plan_line r.version ∷ limits_line r.bits_limit r.latency_limit ∷ age_line r.age ∷ []) ++ from_size r) r
    by true h = let e = eqb-true r.version 1 h in subst (λ s. AreRead Start s (from_size r) r) (bare_is r m e) (first_start r m e)
    by false h = later_start r m h
