-- The lines of a report, byte for byte.
use Rattle.std.specs.Prelude.{ℕ, ℤ, List, [], ◌∷◌, ◌++◌, map, nat_eq, if◌then◌else◌, slice_index_or, codes}
use Rattle.std.specs.Fmt.{decimal, signed_decimal}
use Rattle.report_text.specs.declared.report.ImageLine.{ImageLine}
use Rattle.report_text.specs.declared.report.FlowLine.{FlowLine}
use Rattle.report_text.specs.declared.report.FlowLine.TheVariants.{Hold, Start, Read, Keep}
use Rattle.report_text.specs.Reports.{Report, names_of}

-- a word with a blank after it, and a number or two
abbrev pub number_line : List ℕ → ℕ → List ℕ
number_line word n = word ++ (decimal n ++ codes "\n")

abbrev pub pair_line : List ℕ → ℕ → ℕ → List ℕ
pair_line word m n = word ++ (decimal m ++ (codes " " ++ (decimal n ++ codes "\n")))

abbrev pub plan_line : ℕ → List ℕ
plan_line version = number_line (codes "plan ") version

abbrev pub limits_line : ℕ → ℕ → List ℕ
limits_line bits latency = pair_line (codes "limits ") bits latency

abbrev pub age_line : ℕ → List ℕ
age_line age = number_line (codes "age ") age

abbrev pub size_line : ℕ → ℕ → List ℕ
size_line width height = pair_line (codes "size ") width height

abbrev pub image_line : ImageLine → List ℕ
image_line i = codes "image " ++ (i.name ++ (codes " " ++ (decimal i.width ++ (codes " " ++ (decimal i.delay ++ (codes " " ++ (decimal i.depth ++ codes "\n")))))))

abbrev pub latency_line : ℕ → List ℕ
latency_line n = number_line (codes "latency ") n

abbrev pub clocks_line : ℕ → List ℕ
clocks_line n = number_line (codes "clocks ") n

abbrev pub bits_line : ℕ → List ℕ
bits_line n = number_line (codes "bits ") n

abbrev pub reads_line : ℕ → List ℕ
reads_line n = number_line (codes "reads ") n

abbrev pub name_at : List ImageLine → ℕ → List ℕ
name_at images k = slice_index_or (names_of images) k []

-- a name, a blank, and a number
abbrev pub image_flow : List ℕ → List ImageLine → ℕ → ℕ → List ℕ
image_flow word images g n = word ++ (name_at images g ++ (codes " " ++ (decimal n ++ codes "\n")))

-- a read, a blank, and a number
abbrev pub read_flow : List ℕ → List ImageLine → (f g : ℕ) → (dx dy : ℤ) → ℕ → List ℕ
read_flow word images f g dx dy n =
    word ++ (name_at images f ++ (codes " " ++ (name_at images g ++ (codes " " ++ (signed_decimal dx ++ (codes " " ++ (signed_decimal dy ++ (codes " " ++ (decimal n ++ codes "\n")))))))))

abbrev pub flow_line : List ImageLine → FlowLine → List ℕ
flow_line images (Hold g n) = image_flow (codes "flow hold ") images g n
flow_line images (Start f n) = image_flow (codes "flow start ") images f n
flow_line images (Read f g dx dy n) = read_flow (codes "flow read ") images f g dx dy n
flow_line images (Keep f g dx dy n) = read_flow (codes "flow keep ") images f g dx dy n

-- lines that version 1 lacks
abbrev pub unless_first : (version : ℕ) → List (List ℕ) → List (List ℕ)
unless_first version lines = if nat_eq version 1 then [] else lines

abbrev pub end_line : List ℕ
end_line = codes "end\n"

abbrev pub head_lines : Report → List (List ℕ)
head_lines r = unless_first r.version (plan_line r.version ∷ limits_line r.bits_limit r.latency_limit ∷ age_line r.age ∷ [])

-- all lines, each with the LF at its end
abbrev pub lines : Report → List (List ℕ)
lines r =
    head_lines r
    ++ (size_line r.width r.height ∷ (map image_line r.images
    ++ (map latency_line r.latencies
    ++ (clocks_line r.clocks ∷ bits_line r.bits ∷ (unless_first r.version (reads_line r.reads ∷ [])
    ++ (map (flow_line r.images) r.flow
    ++ unless_first r.version (end_line ∷ [])))))))

-- one after another
abbrev pub joined : List (List ℕ) → List ℕ
joined [] = []
joined (line ∷ lines) = line ++ joined lines

abbrev pub layout : Report → List ℕ
layout r = joined (lines r)
