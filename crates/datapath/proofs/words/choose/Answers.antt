use Rattle.std.proofs.Common.{refl, arith}
use Rattle.datapath.proofs.Made.{choose_is_operation, choose_made}
use Rattle.datapath.proofs.Growth.{signal_of, grows_itself}
use Rattle.datapath.proofs.Known.{first_word, other_word, known_fits}
use Rattle.datapath.proofs.Over.{choose_over, middle_over, last_over}
use Rattle.datapath.proofs.Failing.{at_err}
use Rattle.datapath.proofs.words.choose.Goals as goal

pub returns : goal.returns
returns c = record {
  grows = c.net_for.ensures.grows;
  word = choose_made _ _ _ c.args.c c.args.x c.args.y _ _ _ _ c.atom-condition.ensures c.atom-left.ensures c.atom-right.ensures c.requires.x c.in_ok-net.ensures.net;
  made = choose_over _ _ _ c.args.c c.args.x c.args.y _ _ _ c.atom-condition.ensures c.atom-left.ensures c.atom-right.ensures c.in_ok-net.ensures.net;
  folds = λ h. absurd (c.in-None.ensures h.0);
}

pub returns-then-bit-eq1 : goal.returns-then-bit-eq1
returns-then-bit-eq1 c = record {
  grows = grows_itself _;
  word = first_word _ c.args.c c.args.x c.args.y _ _ (c.in-Some.ensures) (omega (arith, c.if-bit-eq1.true)) c.requires.x;
  made = middle_over;
  folds = λ h. (h.1.0, refl);
}

pub returns-in-Some : goal.returns-in-Some
returns-in-Some c = record {
  grows = grows_itself _;
  word = let known = c.in-Some.ensures in let fits = known_fits _ c.args.c 1 _ c.requires.c known in other_word _ c.args.c c.args.x c.args.y _ _ known (omega (arith, c.if-bit-eq1.false, fits)) c.requires.y;
  made = last_over;
  folds = λ h. (h.1.1.0, refl);
}

pub atom-condition-requires : goal.atom-condition-requires
atom-condition-requires c = signal_of _ _ _ c.requires.c

pub atom-left-requires : goal.atom-left-requires
atom-left-requires c = signal_of _ _ _ c.requires.x

pub atom-right-requires : goal.atom-right-requires
atom-right-requires c = signal_of _ _ _ c.requires.y

pub net_for-requires-clause-operation : goal.net_for-requires-clause-operation
net_for-requires-clause-operation c = choose_is_operation _ c.args.c c.args.x c.args.y _ _ _ _ c.atom-condition.ensures c.atom-left.ensures c.atom-right.ensures c.requires.width c.requires.c c.requires.x c.requires.y

pub returns-in_err-net : goal.returns-in_err-net
returns-in_err-net c = at_err _ _ c.from_residual.result c.from_residual.ensures.1 c.net_for.ensures.grows
