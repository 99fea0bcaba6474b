-- What the lines so far are, and how they go on.
use Rattle.std.proofs.Common.{◌≡◌, ◌∙◌, ℕ, List, [], ◌∷◌, ◌++◌, map, refl, ap, sym, append_assoc, true, false}
use Rattle.std.specs.Prelude.{nat_eq, if◌then◌else◌}
use Rattle.std.proofs.lemmas.List.{append-nil}
use Rattle.report_text.specs.declared.step.Stage.{Stage}
use Rattle.report_text.specs.declared.step.Stage.TheVariants.{Start, Plan, Limits, Age, Size, Images, Latencies, Clocks, Bits, Reads, Flow, End}
use Rattle.report_text.specs.Reports.{Report}
use Rattle.report_text.specs.Layout.{plan_line, limits_line, age_line, size_line, image_line, latency_line, clocks_line, bits_line, reads_line, flow_line, end_line, head_lines, unless_first, lines}
use Rattle.report_text.proofs.Words.{some_image}

-- the lines up to the last one of a kind
abbrev pub upto_size : Report → List (List ℕ)
upto_size r = head_lines r ++ (size_line r.width r.height ∷ [])

abbrev pub upto_images : Report → List (List ℕ)
upto_images r = head_lines r ++ (size_line r.width r.height ∷ map image_line r.images)

abbrev pub upto_latencies : Report → List (List ℕ)
upto_latencies r = upto_images r ++ map latency_line r.latencies

abbrev pub upto_bits : Report → List (List ℕ)
upto_bits r = upto_latencies r ++ (clocks_line r.clocks ∷ bits_line r.bits ∷ [])

abbrev pub upto_reads : Report → List (List ℕ)
upto_reads r = upto_bits r ++ unless_first r.version (reads_line r.reads ∷ [])

abbrev pub upto_flow : Report → List (List ℕ)
upto_flow r = upto_reads r ++ map (flow_line r.images) r.flow

abbrev pub upto : Stage → Report → List (List ℕ)
upto Start r = []
upto Plan r = plan_line r.version ∷ []
upto Limits r = plan_line r.version ∷ limits_line r.bits_limit r.latency_limit ∷ []
upto Age r = head_lines r
upto Size r = upto_size r
upto Images r = upto_images r
upto Latencies r = upto_latencies r
upto Clocks r = upto_latencies r ++ (clocks_line r.clocks ∷ [])
upto Bits r = upto_bits r
upto Reads r = upto_reads r
upto Flow r = upto_flow r
upto End r = upto_flow r ++ (end_line ∷ [])

-- the lines from the first one of a kind on
abbrev pub ending : Report → List (List ℕ)
ending r = unless_first r.version (end_line ∷ [])

abbrev pub from_flow : Report → List (List ℕ)
from_flow r = map (flow_line r.images) r.flow ++ ending r

abbrev pub from_reads : Report → List (List ℕ)
from_reads r = unless_first r.version (reads_line r.reads ∷ []) ++ from_flow r

abbrev pub from_clocks : Report → List (List ℕ)
from_clocks r = clocks_line r.clocks ∷ bits_line r.bits ∷ from_reads r

abbrev pub from_latencies : Report → List (List ℕ)
from_latencies r = map latency_line r.latencies ++ from_clocks r

abbrev pub from_images : Report → List (List ℕ)
from_images r = map image_line r.images ++ from_latencies r

abbrev pub from_size : Report → List (List ℕ)
from_size r = size_line r.width r.height ∷ from_images r

-- the report with what is missing after a line of a kind
abbrev pub with_latency : Report → Report
with_latency r = record r { latencies = 0 ∷ [] }

abbrev pub with_image : Report → Report
with_image r = with_latency (record r { images = some_image ∷ [] })

abbrev pub with_size : Report → Report
with_size r = with_image (record r { width = 1; height = 1 })

abbrev pub finished : Stage → Report → Report
finished Start r = with_size r
finished Plan r = with_size r
finished Limits r = with_size r
finished Age r = with_size r
finished Size r = with_image r
finished Images r = with_latency r
finished Latencies r = r
finished Clocks r = r
finished Bits r = r
finished Reads r = r
finished Flow r = r
finished End r = r

-- what was not read yet, and what is known of the version
abbrev pub NoLatencies : Report → Type 0
NoLatencies r = (r.latencies ≡ []) × (r.flow ≡ [])

abbrev pub NoImages : Report → Type 0
NoImages r = (r.images ≡ []) × (r.latencies ≡ []) × (r.flow ≡ [])

abbrev pub IsLater : Report → Type 0
IsLater r = nat_eq r.version 1 ≡ false

abbrev pub Ready : Stage → Report → Type 0
Ready Start r = (r.version ≡ 1) × NoImages r
Ready Plan r = IsLater r × NoImages r
Ready Limits r = IsLater r × NoImages r
Ready Age r = NoImages r
Ready Size r = NoImages r
Ready Images r = NoLatencies r
Ready Latencies r = r.flow ≡ []
Ready Clocks r = r.flow ≡ []
Ready Bits r = r.flow ≡ []
Ready Reads r = r.flow ≡ []
Ready Flow r = Unit {0}
Ready End r = IsLater r

-- the lines of a report are those up to a kind and the others
pub images_split : (r : Report) → lines r ≡ upto_images r ++ from_latencies r
images_split r = sym (append_assoc (head_lines r) (size_line r.width r.height ∷ map image_line r.images) (from_latencies r))

pub latencies_split : (r : Report) → lines r ≡ upto_latencies r ++ from_clocks r
latencies_split r = images_split r ∙ sym (append_assoc (upto_images r) (map latency_line r.latencies) (from_clocks r))

pub bits_split : (r : Report) → lines r ≡ upto_bits r ++ from_reads r
bits_split r = latencies_split r ∙ sym (append_assoc (upto_latencies r) (clocks_line r.clocks ∷ bits_line r.bits ∷ []) (from_reads r))

pub reads_split : (r : Report) → lines r ≡ upto_reads r ++ from_flow r
reads_split r = bits_split r ∙ sym (append_assoc (upto_bits r) (unless_first r.version (reads_line r.reads ∷ [])) (from_flow r))

pub flow_split : (r : Report) → lines r ≡ upto_flow r ++ ending r
flow_split r = reads_split r ∙ sym (append_assoc (upto_reads r) (map (flow_line r.images) r.flow) (ending r))

pub end_split : (r : Report) → IsLater r → lines r ≡ upto End r
end_split r l = flow_split r ∙ ap (λ t. upto_flow r ++ (if t then [] else end_line ∷ [])) l

pub first_split : (r : Report) → nat_eq r.version 1 ≡ true → lines r ≡ upto_flow r
first_split r l = flow_split r ∙ ap (λ t. upto_flow r ++ (if t then [] else end_line ∷ [])) l ∙ append-nil (upto_flow r)

pub bits_whole : (r : Report) → nat_eq r.version 1 ≡ true → r.flow ≡ [] → lines r ≡ upto_bits r
bits_whole r l none = bits_split r
    ∙ ap (λ t. upto_bits r ++ ((if t then [] else reads_line r.reads ∷ []) ++ (map (flow_line r.images) r.flow ++ (if t then [] else end_line ∷ [])))) l
    ∙ ap (λ f. upto_bits r ++ (map (flow_line r.images) f ++ [])) none ∙ append-nil (upto_bits r)

pub later_head : (r : Report) → IsLater r → head_lines r ≡ plan_line r.version ∷ limits_line r.bits_limit r.latency_limit ∷ age_line r.age ∷ []
later_head r l = ap (λ t. if t then [] else plan_line r.version ∷ limits_line r.bits_limit r.latency_limit ∷ age_line r.age ∷ []) l

-- what a kind of line leaves
pub live : (stage : Stage) (r : Report) → Ready stage r → (more : List (List ℕ)) × (lines (finished stage r) ≡ upto stage r ++ more)
live Start r k = (lines (with_size r), refl)
live Plan r k = (limits_line r.bits_limit r.latency_limit ∷ age_line r.age ∷ from_size (with_size r), ap (λ h. h ++ from_size (with_size r)) (later_head r k.0))
live Limits r k = (age_line r.age ∷ from_size (with_size r), ap (λ h. h ++ from_size (with_size r)) (later_head r k.0))
live Age r k = (from_size (with_size r), refl)
live Size r k = (from_images (with_image r), sym (append_assoc (head_lines r) (size_line r.width r.height ∷ []) (from_images (with_image r))))
live Images r k = (from_latencies (with_latency r), images_split (with_latency r))
live Latencies r k = (from_clocks r, latencies_split r)
live Clocks r k = (bits_line r.bits ∷ from_reads r, latencies_split r ∙ sym (append_assoc (upto_latencies r) (clocks_line r.clocks ∷ []) (bits_line r.bits ∷ from_reads r)))
live Bits r k = (from_reads r, bits_split r)
live Reads r k = (from_flow r, reads_split r)
live Flow r k = (ending r, flow_split r)
live End r k = ([], end_split r k ∙ sym (append-nil (upto End r)))
