-- The lines that endings write to Fault, and their exit statuses.
use Rattle.std.specs.Prelude.{ℕ, ℤ, List, [], ◌++◌, codes, decimal}
use Rattle.std.specs.Fmt.{signed_decimal}
use Rattle.dk_base.specs.declared.TheConstants.{MAX_HEADER_BYTES, MAX_FILE_IMAGES, MAX_PGM_BYTES, MAX_VERILOG_BYTES, MAX_REPORT_BYTES}
use Rattle.dk_base.specs.declared.span.Span.{Span}
use Rattle.pgm_rounds.specs.declared.fault.FileFault.{FileFault}
use Rattle.pgm_rounds.specs.declared.fault.FileFault.TheVariants as file
use Rattle.verilog_text.specs.declared.token.LexKind.{LexKind as TokenKind}
use Rattle.verilog_text.specs.declared.token.LexKind.TheVariants as token
use Rattle.verilog_text.specs.declared.fault.LimitKind.{LimitKind}
use Rattle.verilog_text.specs.declared.fault.LimitKind.TheVariants as limit
use Rattle.stimulus.specs.declared.stop.Stop.{Stop}
use Rattle.stimulus.specs.declared.stop.Stop.TheVariants as stop
use Rattle.dk_endings.specs.declared.ending.Ending.{Ending}
use Rattle.dk_endings.specs.declared.ending.Ending.TheVariants as ending
use Rattle.source_fault.specs.declared.fault.SourceFault.{SourceFault}
use Rattle.source_fault.specs.declared.fault.Subject.{Subject}
use Rattle.source_fault.specs.declared.fault.Subject.TheVariants as subject
use Rattle.source_fault.specs.Faults.{word_of, subject_of}
use Rattle.source_fault.specs.declared.widen.WidenFault.{WidenFault}
use Rattle.source_fault.specs.declared.widen.WidenFault.TheVariants as widen
use Rattle.dk_endings.specs.declared.ending.ImageFault.{ImageFault}
use Rattle.dk_endings.specs.declared.ending.ImageFault.TheVariants as image
use Rattle.dk_endings.specs.declared.ending.ReportFault.{ReportFault}
use Rattle.dk_endings.specs.declared.ending.ReportFault.TheVariants as report
use Rattle.dk_endings.specs.declared.verilog.VerilogFault.{VerilogFault}
use Rattle.dk_endings.specs.declared.verilog.VerilogFault.TheVariants as verilog
use Rattle.dk_endings.specs.declared.verilog.VerilogKind.{VerilogKind}
use Rattle.dk_endings.specs.declared.verilog.VerilogKind.TheVariants as kind

-- a line that ends in a number, or in two
abbrev pub numbered : List ℕ → ℕ → List ℕ
numbered front number = front ++ decimal number ++ codes "\n"

abbrev pub twice_numbered : List ℕ → (first second : ℕ) → List ℕ
twice_numbered front first second = front ++ decimal first ++ codes " " ++ decimal second ++ codes "\n"

-- a fault of a text at these bytes
abbrev pub spanned : List ℕ → Span → List ℕ → List ℕ
spanned front span kind = front ++ decimal span.start ++ codes "-" ++ decimal span.stop ++ codes ": " ++ kind ++ codes "\n"

-- a number of a whole program, which is over a limit
abbrev pub counted : List ℕ → ℕ → List ℕ
counted word number = codes "program: " ++ word ++ codes " " ++ decimal number ++ codes "\n"

-- the line of a fault of a program's text: its word, after the bytes at fault or before the number that is over a limit
abbrev pub subject_line : List ℕ → Subject → List ℕ
subject_line word (subject.Bytes span) = spanned (codes "program ") span word
subject_line word (subject.Number number) = counted word number

abbrev pub source_line : SourceFault → List ℕ
source_line fault = subject_line (word_of fault) (subject_of fault)

abbrev pub file_line : FileFault → List ℕ
file_line (file.Magic offset) = numbered (codes "image: Magic ") offset
file_line file.LongHeader = numbered (codes "image: LongHeader ") MAX_HEADER_BYTES
file_line (file.Number offset) = numbered (codes "image: Number ") offset
file_line (file.Range offset) = numbered (codes "image: Range ") offset
file_line (file.Size width height) = twice_numbered (codes "image: Size ") width height
file_line (file.Maxval maxval) = numbered (codes "image: Maxval ") maxval
file_line (file.SampleTooGreat index) = numbered (codes "image: SampleTooGreat ") index
file_line (file.Short held need) = twice_numbered (codes "image: Short ") held need
file_line file.Count = numbered (codes "image: Count ") MAX_FILE_IMAGES
file_line (file.Round held need) = twice_numbered (codes "image: Round ") held need

abbrev pub image_line : ImageFault → List ℕ
image_line image.TooLong = numbered (codes "image: TooLong ") MAX_PGM_BYTES
image_line (image.File fault) = file_line fault

-- what is wrong with a token of a Verilog text
abbrev pub token_kind : TokenKind → List ℕ
token_kind token.BadByte = codes "BadByte"
token_kind token.BadConstant = codes "BadConstant"
token_kind token.NumberTooGreat = codes "NumberTooGreat"
token_kind token.NameTooLong = codes "NameTooLong"

-- the limit that a Verilog text passes
abbrev pub limit_kind : LimitKind → List ℕ
limit_kind limit.Width = codes "Width"
limit_kind limit.Words = codes "Words"
limit_kind limit.ArrayBits = codes "ArrayBits"
limit_kind limit.Repeat = codes "Repeat"

-- what is wrong with a Verilog text
abbrev pub verilog_kind : VerilogKind → List ℕ
verilog_kind (kind.Token fault) = token_kind fault
verilog_kind kind.Syntax = codes "Syntax"
verilog_kind kind.NotInSubset = codes "NotInSubset"
verilog_kind (kind.Limit passed) = limit_kind passed
verilog_kind kind.Duplicate = codes "Duplicate"
verilog_kind kind.Ports = codes "Ports"
verilog_kind kind.Unknown = codes "Unknown"
verilog_kind kind.WrongSort = codes "WrongSort"
verilog_kind kind.Divisor = codes "Divisor"
verilog_kind kind.Width = codes "Width"
verilog_kind kind.DrivenTwice = codes "DrivenTwice"
verilog_kind kind.Undriven = codes "Undriven"
verilog_kind kind.Cycle = codes "Cycle"

abbrev pub verilog_line : VerilogFault → List ℕ
verilog_line verilog.TooLong = numbered (codes "verilog: TooLong ") MAX_VERILOG_BYTES
verilog_line (verilog.At span fault) = spanned (codes "verilog ") span (verilog_kind fault)

-- a clock with its sign, and two numbers
abbrev pub index_line : ℤ → (array index : ℕ) → List ℕ
index_line clock array index = codes "stopped: clock " ++ signed_decimal clock ++ codes " array " ++ decimal array ++ codes " index " ++ decimal index ++ codes "\n"

abbrev pub count_line : (shown wanted : ℕ) → List ℕ
count_line shown wanted = codes "stopped: count " ++ decimal shown ++ codes " of " ++ decimal wanted ++ codes "\n"

abbrev pub stop_line : Stop → List ℕ
stop_line (stop.Index clock array index) = index_line clock array index
stop_line (stop.Count shown wanted) = count_line shown wanted

abbrev pub report_line : ReportFault → List ℕ
report_line report.TooLong = numbered (codes "report: TooLong ") MAX_REPORT_BYTES
report_line (report.Line number) = numbered (codes "report: line ") number

abbrev pub widen_fault_line : WidenFault → List ℕ
widen_fault_line (widen.Width width) = numbered (codes "widen: Width ") width
widen_fault_line (widen.Inputs count) = numbered (codes "widen: Inputs ") count
widen_fault_line (widen.Outputs count) = numbered (codes "widen: Outputs ") count
widen_fault_line widen.Limits = codes "widen: Limits\n"

-- the line that an ending writes to Fault
abbrev pub fault_line : Ending → List ℕ
fault_line ending.Done = []
fault_line ending.Usage =
    codes "usage: run [--age K] PROG IN OUT | compile [--enable] [--age K] [--block N] PROG OUT | nets [--enable] [--age K] [--block N] PROG | plan [--age K] PROG | sim VERILOG CLOCKS IN OUT [--fill FILL] [--hold K] | eval PROG IN OUT | make N | check PROG REPORT | trace VERILOG CLOCKS IN VCD | cut N PROG OUT | narrow PROG OUT | widen P PROG OUT | explain PROG\n"
fault_line (ending.Source fault) = source_line fault
fault_line (ending.Image fault) = image_line fault
fault_line (ending.Verilog fault) = verilog_line fault
fault_line (ending.Stopped stop) = stop_line stop
fault_line (ending.Rejected fault) = report_line fault
fault_line (ending.Unable fault) = widen_fault_line fault
fault_line ending.ReadFault = codes "cannot read\n"
fault_line ending.WriteFault = codes "cannot write\n"
fault_line ending.Memory = codes "out of memory\n"

-- the exit status of an ending
abbrev pub status_of : Ending → ℕ
status_of ending.Done = 0
status_of ending.Usage = 2
status_of (ending.Source _) = 3
status_of (ending.Image _) = 4
status_of (ending.Verilog _) = 5
status_of (ending.Stopped _) = 6
status_of ending.ReadFault = 7
status_of ending.WriteFault = 8
status_of ending.Memory = 9
status_of (ending.Rejected _) = 10
status_of (ending.Unable _) = 11

-- the line that `check` writes of a report that holds
abbrev pub holds_line : (bits latency : ℕ) → List ℕ
holds_line bits latency = codes "report holds: bits " ++ decimal bits ++ codes " latency " ++ decimal latency ++ codes "\n"
