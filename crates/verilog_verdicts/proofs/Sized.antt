-- What is written in a text has fewer items than the text has tokens.
use Rattle.std.proofs.Common.{ℕ, ◌+◌, ◌<◌, ◌≤◌, List, length, Option, arith}
use Rattle.dk_base.specs.declared.span.Span.{Span}
use Rattle.verilog_text.specs.declared.written.Range.{Range}
use Rattle.verilog_text.specs.declared.written.WrittenPort.{WrittenPort}
use Rattle.verilog_text.specs.declared.written.WrittenDeclaration.{WrittenDeclaration}
use Rattle.verilog_text.specs.declared.written.WrittenRight.{WrittenRight}
use Rattle.verilog_text.specs.declared.written.WrittenAssign.{WrittenAssign}
use Rattle.verilog_text.specs.declared.written.WrittenUpdate.{WrittenUpdate}
use Rattle.verilog_text.specs.Grammar.{Tokens, Bits, bits, Ranged, one_bit, wide, Port, plain, wire as wire_port, Ports, last, more, Right, copy, complement, two, choose, join, repeat, bit, slice, word, Assign, assign, Update, set, put, Declares, wire, reg, array, Each, none, more as further, Block, left_out, always, Source, Module, whole}

bits_shorter : {ts rest : Tokens} {r : Range} → Bits ts r rest → length rest < length ts
bits_shorter (bits o a c b e) = omega arith

ranged_shorter : {ts rest : Tokens} {r : Option Range} {n : Span} → Ranged ts r n rest → length rest < length ts
ranged_shorter (one_bit n) = omega arith
ranged_shorter (wide b n) = let h = bits_shorter b in omega (arith, h)

port_shorter : {ts rest : Tokens} {p : WrittenPort} → Port ts p rest → length rest < length ts
port_shorter (plain d r) = let h = ranged_shorter r in omega (arith, h)
port_shorter (wire_port d w r) = let h = ranged_shorter r in omega (arith, h)

ports_long : {ts rest : Tokens} {ps : List WrittenPort} → Ports ts ps rest → length ps + length rest ≤ length ts
ports_long (last p c) = let h = port_shorter p in omega (arith, h)
ports_long (more p c ps) = let h = port_shorter p in let i = ports_long ps in omega (arith, h, i)

right_shorter : {ts rest : Tokens} {r : WrittenRight} → Right ts r rest → length rest < length ts
right_shorter (copy a s) = omega arith
right_shorter (complement o a s) = omega arith
right_shorter (two a o b s) = omega arith
right_shorter (choose c q a o b s) = omega arith
right_shorter (join o a c b e s) = omega arith
right_shorter (repeat o k i a e f s) = omega arith
right_shorter (bit v o k e s) = omega arith
right_shorter (slice v o k m l e s) = omega arith
right_shorter (word v o i e s) = omega arith

assign_shorter : {ts rest : Tokens} {a : WrittenAssign} → Assign ts a rest → length rest < length ts
assign_shorter (assign k n e r) = let h = right_shorter r in omega (arith, h)

update_shorter : {ts rest : Tokens} {u : WrittenUpdate} → Update ts u rest → length rest < length ts
update_shorter (set n e a s) = omega arith
update_shorter (put n o i c e a s) = omega arith

declares_shorter : {ts rest : Tokens} {d : WrittenDeclaration} → Declares ts d rest → length rest < length ts
declares_shorter (wire k r s) = let h = ranged_shorter r in omega (arith, h)
declares_shorter (reg k r s) = let h = ranged_shorter r in omega (arith, h)
declares_shorter (array k r w s) = let h = ranged_shorter r in let i = bits_shorter w in omega (arith, h, i)

each_long : {X : Type 0} {One : Tokens → X → Tokens → Type 0} → ((ts rest : Tokens) (x : X) → One ts x rest → length rest < length ts) → {ts rest : Tokens} {xs : List X} → Each One ts xs rest → length xs + length rest ≤ length ts
each_long shorter none = omega arith
each_long shorter (further x xs) = let h = shorter _ _ _ x in let i = each_long shorter xs in omega (arith, h, i)

block_long : {ts rest : Tokens} {us : List WrittenUpdate} → Block ts us rest → length us + length rest ≤ length ts
block_long (left_out e) = omega arith
block_long (always a t o p c d b us e f) = let h = each_long (λ ts rest x o. update_shorter o) us in omega (arith, h)

pub record FitIn (n : ℕ) (s : Source) : Type 0 where
  pub ports : length s.ports < n
  pub declarations : length s.declarations < n
  pub assigns : length s.assigns < n
  pub updates : length s.updates < n

pub fit_in : {ts : Tokens} {s : Source} → Module ts s → FitIn (length ts) s
fit_in (whole m n o ps c ds as' us e) =
    let p = ports_long ps in
    let d = each_long (λ ts rest x o. declares_shorter o) ds in
    let a = each_long (λ ts rest x o. assign_shorter o) as' in
    let u = block_long us in
    record { ports = omega (arith, p, d, a, u); declarations = omega (arith, p, d, a, u); assigns = omega (arith, p, d, a, u); updates = omega (arith, p, d, a, u) }
