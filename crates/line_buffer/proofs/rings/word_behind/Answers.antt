use Rattle.std.proofs.Common.{◌≡◌, ◌∙◌, ap, sym, subst, Some}
use Rattle.std.specs.Prelude.{slice_get, unwrap_or}
use Rattle.std.specs.Option.{option_map}
use Rattle.wiring.specs.declared.right.Atom.TheVariants as atom
use Rattle.wiring.specs.declared.netlist.Shape.{Shape}
use Rattle.net_build.proofs.Parts.{includes_on, at_Begins}
use Rattle.net_build.proofs.Grown.{width_more}
use Rattle.net_build.proofs.Operands.{net_operand, word_operation}
use Rattle.line_buffer.specs.Rings.{AddsTaps}
use Rattle.line_buffer.proofs.Tapping.{behind_taps, behind_tap, taps_logic}
use Rattle.line_buffer.proofs.rings.word_behind.Goals as goal

pub returns-in_err-place-clause-taps : goal.returns-in_err-place-clause-taps
returns-in_err-place-clause-taps c = taps_logic c.index_behind.new.b c.args.b.now c.args.ring.line.array c.index_behind.ensures.logic

pub op-requires : goal.op-requires
op-requires c =
    let r = c.requires.ring in
    let b1 = c.index_behind.new.b in
    word_operation b1 c.args.ring.line.array (atom.Net c.in_ok-place.place) c.args.ring.bits r.shape (at_Begins c.args.b.now.arrays b1.arrays c.args.ring.line.array r.shape c.index_behind.ensures.logic.includes.arrays r.there) r.wide (net_operand b1 c.in_ok-place.place c.args.ring.bits c.in_ok-place.ensures.net.net c.in_ok-place.ensures.net.width)

pub returns-in_err-word-clause-taps : goal.returns-in_err-word-clause-taps
returns-in_err-word-clause-taps c = subst (λ n. AddsTaps n c.args.b.now c.args.ring.line.array) (sym c.in_err-word.ensures.err) (taps_logic c.index_behind.new.b c.args.b.now c.args.ring.line.array c.index_behind.ensures.logic)

pub returns-clause-taps : goal.returns-clause-taps
returns-clause-taps c =
    let r = c.requires.ring in
    behind_taps c.args.b.now c.index_behind.new.b c.op.new.self c.args.ring.line.array c.args.ring.words c.args.age c.args.ring.bits r.shape.width c.args.ring.line.index c.in_ok-place.place c.in_ok-word.word c.args.ring.value r.shape c.index_behind.ensures.logic c.op.ensures.includes c.op.ensures.wires c.requires.some c.requires.short r.fits r.there r.deep r.counter r.control c.in_ok-place.ensures.net c.in_ok-word.ensures.ok c.in_ok-word.ensures.value

pub returns-clause-tap : goal.returns-clause-tap
returns-clause-tap c =
    let r = c.requires.ring in
    let b1 = c.index_behind.new.b in
    let f20 = includes_on _ _ _ c.index_behind.ensures.logic.includes c.op.ensures.includes in
    let there : slice_get b1.arrays c.args.ring.line.array ≡ Some r.shape = at_Begins c.args.b.now.arrays b1.arrays c.args.ring.line.array r.shape c.index_behind.ensures.logic.includes.arrays r.there in
    behind_tap c.args.b.now c.index_behind.new.b c.op.new.self c.args.ring.line.array c.args.ring.words c.args.age c.args.ring.bits r.shape.width c.args.ring.line.index c.in_ok-place.place c.in_ok-word.word c.args.ring.value r.shape c.index_behind.ensures.logic c.op.ensures.includes c.op.ensures.wires c.requires.some c.requires.short r.fits r.there r.deep r.counter r.control c.in_ok-place.ensures.net c.in_ok-word.ensures.ok c.in_ok-word.ensures.value
    c.in_ok-word.ensures.net (c.in_ok-word.ensures.width ∙ ap (λ o. unwrap_or (option_map (λ (s : Shape). s.width) o) 0) there ∙ sym (width_more c.op.new.self c.args.b.now f20 c.args.ring.value r.value_net.declared ∙ r.value_wide)) c.in_ok-place.ensures.depth c.in_ok-word.ensures.made

pub index_behind-requires : goal.index_behind-requires
index_behind-requires c = record {
  there = c.requires.ring.index_net;
  width = c.requires.ring.index_wide;
  wide = c.requires.ring.bits_wide;
  fits = c.requires.ring.fits;
  some = c.requires.some;
  short = c.requires.short;
}
