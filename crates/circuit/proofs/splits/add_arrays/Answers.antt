use Rattle.std.proofs.Common.{◌-◌, ◌∷◌, [], append-nil, replicate, sym, arith}
use Rattle.circuit.proofs.Dividing.{first_within, no_arrays}
use Rattle.circuit.proofs.splits.add_arrays.Goals as goal

pub add_segment-requires : goal.add_segment-requires
add_segment-requires c =
    let within = first_within c.args.least c.requires.long.0 (c.args.high - c.args.low) c.first_words-first.result (c.first_words-first.ensures c.requires.long.0 c.requires.long.1 c.requires.long.2) in
    omega (arith, within, c.requires.up)

pub returns : goal.returns
returns c = λ all are has. record {
  arrays = c.first_words-first.result ∷ replicate (c.args.high - c.args.low - c.first_words-first.result) 1;
  are = c.first_words-first.ensures all are has;
  added = c.in_ok-add_segment.ensures;
}

pub returns-then-low-high : goal.returns-then-low-high
returns-then-low-high c = λ all are has. record {
  arrays = [];
  are = no_arrays c.args.least all (c.args.high - c.args.low) (omega arith);
  added = sym (append-nil c.args.split.now.items);
}
