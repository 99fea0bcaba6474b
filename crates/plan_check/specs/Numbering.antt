-- At which line of a report's text each of its parts is. Lines are counted from 1.
use Rattle.std.specs.Prelude.{ℕ, ◌+◌, [], ◌∷◌, length}
use Rattle.report_text.specs.Reports.{Report}
use Rattle.report_text.specs.Layout.{head_lines, unless_first, reads_line, lines}

abbrev pub size_number : Report → ℕ
size_number r = length (head_lines r) + 1

-- of the image at place k
abbrev pub image_number : Report → ℕ → ℕ
image_number r k = size_number r + 1 + k

-- of the output at place k
abbrev pub latency_number : Report → ℕ → ℕ
latency_number r k = size_number r + length r.images + 1 + k

abbrev pub clocks_number : Report → ℕ
clocks_number r = size_number r + length r.images + length r.latencies + 1

abbrev pub bits_number : Report → ℕ
bits_number r = clocks_number r + 1

-- of the flow line at place k, after the reads where the version has them
abbrev pub flow_number : Report → ℕ → ℕ
flow_number r k = bits_number r + length (unless_first r.version (reads_line r.reads ∷ [])) + 1 + k

abbrev pub last_number : Report → ℕ
last_number r = length (lines r)
