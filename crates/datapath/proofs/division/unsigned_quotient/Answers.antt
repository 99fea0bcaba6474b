use Rattle.std.proofs.Common.{◌≤◌, ◌^◌, ap, arith, refl, sym, subst}
use Rattle.datapath.specs.Nets.{bits_of, atom_of}
use Rattle.datapath.proofs.Divided.{zero_quotient_carries, unsigned_quotient_carries, at_type}
use Rattle.datapath.proofs.Growth.{grows_itself}
use Rattle.datapath.proofs.Over.{then_two, itself_over, nothing_over}
use Rattle.wiring.specs.Rules.{IsDivisor}
use Rattle.datapath.proofs.division.unsigned_quotient.Goals as goal

pub returns-then-by-greatest : goal.returns-then-by-greatest
returns-then-by-greatest c = record {
  grows = grows_itself _;
  value = let big : 2 ^ c.args.width ≤ c.args.by = omega (arith, c.if-by-greatest.true, c.greatest.ensures) in zero_quotient_carries _ c.args.x c.constant.result _ c.args.by c.requires.operand.ty c.requires.operand.x (c.constant.ensures.width _) (λ nets. ap (bits_of nets) c.constant.ensures.is) big;
  made = nothing_over (c.constant.ensures.made _);
  folds = λ h. (c.constant.ensures.known, refl);
}

pub returns : goal.returns
returns c = record {
  grows = c.in_ok-atom.ensures.grows;
  value = unsigned_quotient_carries _ _ c.args.x c.constant-2.result _ _ c.args.by c.requires.operand.ty c.requires.operand.x c.in_ok-atom.ensures.grows.includes (λ nets. ap (bits_of nets) c.constant-2.ensures.is) c.in_ok-atom.ensures.word;
  made = then_two 0 c.in_ok-atom.ensures.made itself_over (nothing_over (c.constant-2.ensures.made _));
  folds = λ h. c.in_ok-atom.ensures.folds (h.0, (c.constant-2.ensures.known, tt));
}

pub greatest-requires : goal.greatest-requires
greatest-requires c = (at_type _ c.args.x _ c.requires.operand.ty c.requires.operand.x).ty

pub constant-requires-clause-width : goal.constant-requires-clause-width
constant-requires-clause-width c = let ok = (at_type _ c.args.x _ c.requires.operand.ty c.requires.operand.x).ty in (ok.some, ok.most)

pub constant-requires-2-clause-width : goal.constant-requires-2-clause-width
constant-requires-2-clause-width c = let ok = (at_type _ c.args.x _ c.requires.operand.ty c.requires.operand.x).ty in (ok.some, ok.most)

pub operated-requires : goal.operated-requires
operated-requires c =
    let x = at_type _ c.args.x _ c.requires.operand.ty c.requires.operand.x in
    record { width = (x.ty.some, x.ty.most); x = x.width; y = c.constant-2.ensures.width _; divisor = subst (λ z. IsDivisor (atom_of z)) (sym c.constant-2.ensures.is) c.requires.by }
