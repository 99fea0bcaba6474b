-- A text that is not read whole, for the laws of `OfText`.
use Rattle.std.specs.Prelude.{ℕ, ◌<◌, List, length}
use Rattle.dk_base.specs.declared.TheConstants.{MAX_SOURCE_BYTES}
use Rattle.source_fault.specs.declared.fault.SourceFault.{SourceFault}
use Rattle.source_fault.specs.declared.fault.SourceFault.TheVariants as source
use Rattle.dk_endings.specs.declared.ending.Ending.{Ending}
use Rattle.dk_endings.specs.declared.ending.Ending.TheVariants as ending
use Rattle.dk_compile.specs.Limits.{IsFaultAt}
use Rattle.dk_words.specs.declared.command.Rewriting.{Rewriting}
use Rattle.dk_words.specs.declared.command.Rewriting.TheVariants.{Cut, Narrow, Widen}
use Rattle.dk_top.specs.Reading.{IsUnreadText, IsSourceEnding, IsRewriteEnding}

-- a text that was not read, as the ending of a text with faults, of which one is its length
pub unread_text : (is : SourceFault → Type 0) (text : List ℕ) (e : Ending) → (MAX_SOURCE_BYTES < length text → is source.TooLong) → IsUnreadText text e → IsSourceEnding is e
unread_text is text (ending.Source source.TooLong) long h = long h
unread_text is text ending.ReadFault long h = tt
unread_text is text ending.Memory long h = tt
unread_text is text ending.Done long h = absurd h
unread_text is text ending.Usage long h = absurd h
unread_text is text ending.WriteFault long h = absurd h
unread_text is text (ending.Image f) long h = absurd h
unread_text is text (ending.Verilog f) long h = absurd h
unread_text is text (ending.Stopped f) long h = absurd h
unread_text is text (ending.Rejected f) long h = absurd h
unread_text is text (ending.Unable f) long h = absurd h
unread_text is text (ending.Source (source.Lex x)) long h = absurd h
unread_text is text (ending.Source (source.Nest x)) long h = absurd h
unread_text is text (ending.Source (source.Syntax x)) long h = absurd h
unread_text is text (ending.Source (source.Depth x)) long h = absurd h
unread_text is text (ending.Source (source.Types x)) long h = absurd h
unread_text is text (ending.Source (source.Nodes x)) long h = absurd h
unread_text is text (ending.Source (source.InlineDepth x)) long h = absurd h
unread_text is text (ending.Source (source.Reads x)) long h = absurd h
unread_text is text (ending.Source (source.Bits x)) long h = absurd h
unread_text is text (ending.Source (source.Latency x)) long h = absurd h

-- a text that is no program within its limits is not rewritten
pub source_ended : (how : Rewriting) (text : List ℕ) (e : Ending) → IsSourceEnding (IsFaultAt text 0) e → IsRewriteEnding how text e
source_ended (Cut levels) text e h = h
source_ended Narrow text e h = h
source_ended (Widen phases) text (ending.Unable f) h = absurd h
source_ended (Widen phases) text (ending.Source f) h = h
source_ended (Widen phases) text ending.ReadFault h = h
source_ended (Widen phases) text ending.Memory h = h
source_ended (Widen phases) text ending.Done h = absurd h
source_ended (Widen phases) text ending.Usage h = absurd h
source_ended (Widen phases) text ending.WriteFault h = absurd h
source_ended (Widen phases) text (ending.Image f) h = absurd h
source_ended (Widen phases) text (ending.Verilog f) h = absurd h
source_ended (Widen phases) text (ending.Stopped f) h = absurd h
source_ended (Widen phases) text (ending.Rejected f) h = absurd h

-- nor is one that was not read
pub unread_rewrite : (how : Rewriting) (text : List ℕ) (e : Ending) → IsUnreadText text e → IsRewriteEnding how text e
unread_rewrite how text e h = source_ended how text e (unread_text (IsFaultAt text 0) text e (λ long. long) h)
