-- The lines that name the nets of a program's circuit.
use Rattle.std.specs.Prelude.{ℕ, suc, zero, pos, List, [], ◌++◌, length, slice_index, slice_index_or, codes, decimal}
use Rattle.std.specs.Fmt.{signed_decimal}
use Rattle.sha2.specs.Sha256.{sha256}
use Rattle.hex.specs.Hex.{encode_lower}
use Rattle.dk_base.specs.declared.stencils.Image.{Image}
use Rattle.dk_base.specs.declared.stencils.LiveRead.{LiveRead}
use Rattle.wiring.specs.declared.netlist.Net.{Net}
use Rattle.wiring.specs.declared.netlist.Net.TheVariants.{Input}
use Rattle.wiring.specs.Netlist.{valid_net, dout_net}
use Rattle.netlist.specs.Names.{NamedNetlist}
use Rattle.verilog_layout.specs.Layout.{net_name}
use Rattle.pointwise_ir.specs.Programs.{Program, names_of}
use Rattle.buffer_plan.specs.Plans.{Plan, delay_of, read_age}

-- the name of the image of this number
abbrev pub name_of : Program → ℕ → List ℕ
name_of p g = slice_index_or (names_of p) g []

-- the net at a place
abbrev pub net_at : List Net → ℕ → Net
net_at nets k = slice_index_or nets k (Input 0)

-- a blank and a word
abbrev pub field : List ℕ → List ℕ
field word = codes " " ++ word

-- the kept image at a place, and the live read
abbrev pub image_at : Plan → ℕ → Image
image_at plan k = slice_index_or plan.system.stencils.images k (record { number = 0; width = 0 })

abbrev pub read_at : Plan → ℕ → LiveRead
read_at plan k = slice_index_or plan.system.stencils.reads k (record { f = 0; g = 0; dx = pos 0; dy = pos 0 })

-- `image NAME NET WIDTH DELAY`: the kept image at place k, its net, its bits, and its delay in clocks
abbrev pub image_line : Program → Plan → NamedNetlist → List Net → (k : ℕ) → List ℕ
image_line p plan m nets k =
    codes "image" ++ (field (name_of p (image_at plan k).number)
    ++ (field (net_name m (net_at nets k))
    ++ (field (decimal (image_at plan k).width)
    ++ (field (decimal (delay_of plan (image_at plan k).number)) ++ codes "\n"))))

-- `read READER NAME DX DY`: who reads which image, and where
abbrev pub read_place : Program → LiveRead → List ℕ
read_place p r = codes "read" ++ (field (name_of p r.f) ++ (field (name_of p r.g) ++ (field (signed_decimal r.dx) ++ field (signed_decimal r.dy))))

-- `read READER NAME DX DY NET AGE`: the live read at place k, by READER of the image NAME, its net, and its age in clocks, without a sign in a causal plan
abbrev pub read_line : Program → Plan → NamedNetlist → List Net → (k : ℕ) → List ℕ
read_line p plan m reads k =
    read_place p (read_at plan k) ++ (field (net_name m (net_at reads k))
    ++ (field (signed_decimal (read_age plan (read_at plan k))) ++ codes "\n"))

-- `output NAME VALID DOUT`: the image of output k, and its ports
abbrev pub output_line : Program → Plan → NamedNetlist → (k : ℕ) → List ℕ
output_line p plan m k =
    codes "output" ++ (field (name_of p (slice_index plan.system.stencils.outputs k))
    ++ (field (net_name m (valid_net k))
    ++ (field (net_name m (dout_net k)) ++ codes "\n")))

-- `text sha256 DIGEST`: the SHA-256 of the Verilog text, in 64 digits of lowercase hex
abbrev pub digest_line : (text : List ℕ) → List ℕ
digest_line text = codes "text sha256" ++ (field (encode_lower (sha256 text)) ++ codes "\n")

-- the lines of the places from 0 on, this many, one after another
abbrev pub lines_to : (line : ℕ → List ℕ) → ℕ → List ℕ
lines_to line zero = []
lines_to line (suc n) = lines_to line n ++ line n

-- the line of the module's text, and then a line for each kept image, for each live read and for each output, each in order
abbrev pub net_lines : Program → Plan → NamedNetlist → (nets reads : List Net) → (text : List ℕ) → List ℕ
net_lines p plan m nets reads text =
    digest_line text
    ++ (lines_to (image_line p plan m nets) (length plan.system.stencils.images)
    ++ (lines_to (read_line p plan m reads) (length plan.system.stencils.reads)
    ++ lines_to (output_line p plan m) (length plan.system.stencils.outputs)))
