-- A text that is the layout of a printable module denotes it.
use Rattle.std.proofs.Common.{◌≡◌, ℕ}
use Rattle.std.specs.Global.{Vec}
use Rattle.netlist.specs.Names.{NamedNetlist}
use Rattle.verilog_text.specs.Stands.{StandsFor}
use Rattle.verilog_layout.specs.Layout.{layout}
use Rattle.verilog_layout.specs.Printable.{IsPrintable}
use Rattle.verilog_layout.proofs.Written.{has_source}
use Rattle.verilog_layout.proofs.Held.{layout_held}

pub layout_is_module : (m : NamedNetlist) (text : Vec ℕ) → IsPrintable m → text.items ≡ layout m → StandsFor text.items m
layout_is_module m text h is =
    let s = has_source m h.rules h.names h.bits in
    layout_held m text is s.0 s.1 h.rules h.names
