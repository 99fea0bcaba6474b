-- The word of a fault, and what it is about.
use Rattle.std.specs.Prelude.{ℕ, List, codes}
use Rattle.dk_base.specs.declared.TheConstants.{MAX_SOURCE_BYTES}
use Rattle.dk_lexer.specs.Words.{word_of as lexical_word}
use Rattle.dk_types.specs.Words.{word_of as type_word}
use Rattle.source_fault.specs.declared.fault.SourceFault.{SourceFault}
use Rattle.source_fault.specs.declared.fault.SourceFault.TheVariants.{TooLong, Lex, Nest, Syntax, Depth, Types, Nodes, InlineDepth, Reads, Bits, Latency}
use Rattle.source_fault.specs.declared.fault.Subject.{Subject}
use Rattle.source_fault.specs.declared.fault.Subject.TheVariants.{Bytes, Number}

-- the word of a fault, in its line and in messages
abbrev pub word_of : SourceFault → List ℕ
word_of TooLong = codes "TooLong"
word_of (Lex fault) = lexical_word fault.kind
word_of (Nest _) = codes "Nest"
word_of (Syntax _) = codes "Syntax"
word_of (Depth _) = codes "Depth"
word_of (Types fault) = type_word fault.kind
word_of (Nodes _) = codes "Nodes"
word_of (InlineDepth _) = codes "InlineDepth"
word_of (Reads _) = codes "Reads"
word_of (Bits _) = codes "Bits"
word_of (Latency _) = codes "Latency"

-- the bytes at fault, or the number of the whole program that is over a limit; of a text that is too long the limit
abbrev pub subject_of : SourceFault → Subject
subject_of TooLong = Number MAX_SOURCE_BYTES
subject_of (Lex fault) = Bytes fault.span
subject_of (Nest span) = Bytes span
subject_of (Syntax span) = Bytes span
subject_of (Depth span) = Bytes span
subject_of (Types fault) = Bytes fault.span
subject_of (Nodes count) = Number count
subject_of (InlineDepth span) = Bytes span
subject_of (Reads count) = Number count
subject_of (Bits least) = Number least
subject_of (Latency clocks) = Number clocks
