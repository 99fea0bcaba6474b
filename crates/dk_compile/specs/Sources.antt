-- Texts as programs within the limits, and the first fault of the other texts.
use Rattle.std.specs.Prelude.{◌≡◌, ◌⊎◌, ◌↔◌, ⊤, ℕ, ◌+◌, ◌<◌, ◌≤◌, List, length, Contains}
use Rattle.dk_base.specs.declared.TheConstants.{MAX_SOURCE_BYTES, MAX_LIVE_READS, MAX_COUNTED_READS}
use Rattle.dk_base.specs.declared.stencils.LiveRead.{LiveRead}
use Rattle.dk_base.specs.Stencils.{AreInOrder}
use Rattle.dk_lexer.specs.declared.token.Token.{Token}
use Rattle.dk_lexer.specs.Lexis.{HasTokens, HasFault}
use Rattle.dk_parser.specs.declared.whole.ParseError.TheVariants as parser
use Rattle.dk_parser.specs.Programs.{Source}
use Rattle.dk_parser.specs.Judged.{Accepted, Faults}
use Rattle.dk_types.specs.Typed.{Typing}
use Rattle.dk_types.specs.Types.{IsTyping}
use Rattle.dk_types.specs.Faults.{IsFirstFault}
use Rattle.dk_types.specs.Reads.{IsLive, IsKept}
use Rattle.dk_inline.specs.declared.inlining.InlineFault.TheVariants as inlining
use Rattle.dk_inline.specs.Answers.{IsWithin}
use Rattle.dk_inline.specs.Answers as I
use Rattle.source_fault.specs.declared.fault.SourceFault.{SourceFault}
use Rattle.source_fault.specs.declared.fault.SourceFault.TheVariants.{TooLong, Lex, Nest, Syntax, Depth, Types, Nodes, InlineDepth, Reads, Bits, Latency}
use Rattle.dk_compile.specs.declared.fault.SourceError.{SourceError}
use Rattle.dk_compile.specs.declared.fault.SourceError.TheVariants.{Fault, OutOfMemory}

-- the text is not too long, and has these tokens
pub record IsCut (text : List ℕ) (tokens : List Token) : Type 0 where
  pub within : length text ≤ MAX_SOURCE_BYTES
  pub are : HasTokens text tokens

-- the text has this tree
pub record HasTree (text : List ℕ) (tree : Source) : Type 0 where
  pub tokens : List Token
  pub cut : IsCut text tokens
  pub parsed : Accepted tokens tree

-- the text is that of this program
pub record IsText (text : List ℕ) (p : Typing) : Type 0 where
  pub tree : Source
  pub parsed : HasTree text tree
  pub typed : IsTyping tree p

-- a live read by a kept image
pub record IsKeptRead (p : Typing) (r : LiveRead) : Type 0 where
  pub kept : IsKept p r.f
  pub live : IsLive p r.f r.g r.dx r.dy

-- they are the live reads of the kept images, in order, each once
pub record AreReadsOf (p : Typing) (reads : List LiveRead) : Type 0 where
  pub in_order : AreInOrder reads
  pub exact : (r : LiveRead) → Contains reads r ↔ IsKeptRead p r

-- the text is that of this program, which is within all limits: on nodes, on depth after inlining, and on live reads
pub record IsAccepted (text : List ℕ) (p : Typing) : Type 0 where
  pub program : IsText text p
  pub within : IsWithin p
  pub reads : List LiveRead
  pub are_reads : AreReadsOf p reads
  pub few : length reads ≤ MAX_LIVE_READS

-- the number of live reads of kept images, if it is at most MAX_COUNTED_READS
pub record HasReads (p : Typing) (count : ℕ) : Type 0 where
  pub reads : List LiveRead
  pub are_reads : AreReadsOf p reads
  pub count_is : count ≡ length reads
  pub few : count ≤ MAX_COUNTED_READS

-- the number of more live reads, which saturates at one more than that
pub record HasManyReads (p : Typing) (count : ℕ) : Type 0 where
  pub reads : List LiveRead
  pub in_order : AreInOrder reads
  pub sound : (r : LiveRead) → Contains reads r → IsKeptRead p r
  pub many : MAX_COUNTED_READS < length reads
  pub count_is : count ≡ MAX_COUNTED_READS + 1

-- the number of live reads of kept images, if it is above the limit
pub record HasTooMany (p : Typing) (count : ℕ) : Type 0 where
  pub more : MAX_LIVE_READS < count
  pub counted : HasReads p count ⊎ HasManyReads p count

-- The first fault of a text: its length, tokens, brackets, grammar, depth, types, nodes, depth after inlining, live reads. Each is reported if all before it is in order. Bits and latency are not judged.
abbrev pub IsSourceFault : List ℕ → SourceFault → Type 0
IsSourceFault text TooLong = MAX_SOURCE_BYTES < length text
IsSourceFault text (Lex fault) = (length text ≤ MAX_SOURCE_BYTES) × HasFault text fault
IsSourceFault text (Nest span) = (tokens : List Token) × IsCut text tokens × Faults tokens (parser.Nest span)
IsSourceFault text (Syntax span) = (tokens : List Token) × IsCut text tokens × Faults tokens (parser.Syntax span)
IsSourceFault text (Depth span) = (tokens : List Token) × IsCut text tokens × Faults tokens (parser.Depth span)
IsSourceFault text (Types fault) = (tree : Source) × HasTree text tree × IsFirstFault tree fault
IsSourceFault text (Nodes count) = (p : Typing) × IsText text p × I.IsFault p (inlining.Nodes count)
IsSourceFault text (InlineDepth span) = (p : Typing) × IsText text p × I.IsFault p (inlining.InlineDepth span)
IsSourceFault text (Reads count) = (p : Typing) × IsText text p × IsWithin p × HasTooMany p count
IsSourceFault text (Bits least) = ⊥
IsSourceFault text (Latency clocks) = ⊥

-- an error is such a fault, or out of memory, which no text determines
abbrev pub IsErrorBy : (SourceFault → Type 0) → SourceError → Type 0
IsErrorBy is (Fault fault) = is fault
IsErrorBy is OutOfMemory = ⊤
