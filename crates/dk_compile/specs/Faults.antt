-- The errors of the lower crates as errors of a text.
use Rattle.dk_lexer.specs.declared.fault.LexError.{LexError}
use Rattle.dk_lexer.specs.declared.fault.LexError.TheVariants as lexer
use Rattle.dk_parser.specs.declared.whole.ParseError.{ParseError}
use Rattle.dk_parser.specs.declared.whole.ParseError.TheVariants as parser
use Rattle.dk_types.specs.declared.fault.TypeError.{TypeError}
use Rattle.dk_types.specs.declared.fault.TypeError.TheVariants as types
use Rattle.dk_inline.specs.declared.inlining.InlineFault.{InlineFault}
use Rattle.dk_inline.specs.declared.inlining.InlineFault.TheVariants as inlining
use Rattle.stencil_sets.specs.declared.live.StencilFault.{StencilFault}
use Rattle.stencil_sets.specs.declared.live.StencilFault.TheVariants as stencils
use Rattle.buffer_plan.specs.declared.fault.PlanFault.{PlanFault}
use Rattle.buffer_plan.specs.declared.fault.PlanFault.TheVariants as plan
use Rattle.source_fault.specs.declared.fault.SourceFault.TheVariants.{Lex, Nest, Syntax, Depth, Types, Nodes, InlineDepth, Reads, Bits, Latency}
use Rattle.dk_compile.specs.declared.fault.SourceError.{SourceError}
use Rattle.dk_compile.specs.declared.fault.SourceError.TheVariants.{Fault, OutOfMemory}

abbrev pub of_lexer : LexError → SourceError
of_lexer (lexer.Fault fault) = Fault (Lex fault)
of_lexer lexer.OutOfMemory = OutOfMemory

abbrev pub of_parser : ParseError → SourceError
of_parser (parser.Nest span) = Fault (Nest span)
of_parser (parser.Syntax span) = Fault (Syntax span)
of_parser (parser.Depth span) = Fault (Depth span)
of_parser parser.OutOfMemory = OutOfMemory

abbrev pub of_types : TypeError → SourceError
of_types (types.Fault fault) = Fault (Types fault)
of_types types.OutOfMemory = OutOfMemory

abbrev pub of_inlining : InlineFault → SourceError
of_inlining (inlining.Nodes count) = Fault (Nodes count)
of_inlining (inlining.InlineDepth span) = Fault (InlineDepth span)
of_inlining inlining.OutOfMemory = OutOfMemory

abbrev pub of_stencils : StencilFault → SourceError
of_stencils (stencils.Reads count) = Fault (Reads count)
of_stencils stencils.OutOfMemory = OutOfMemory

abbrev pub of_plan : PlanFault → SourceError
of_plan (plan.Bits least) = Fault (Bits least)
of_plan (plan.Latency clocks) = Fault (Latency clocks)
of_plan plan.OutOfMemory = OutOfMemory
