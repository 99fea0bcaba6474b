use Rattle.std.proofs.Common.{◌+◌, arith}
use Rattle.circuit.specs.Divided.{by_memory, by_registers, by_array}
use Rattle.circuit.proofs.Dividing.{long_is, short_is, whole_is}
use Rattle.circuit.proofs.splits.first_words.Goals as goal

pub returns-then-words-from : goal.returns-then-words-from
returns-then-words-from c = λ all are has. by_memory (c.array_words.result + 1) (omega arith) (c.array_words.ensures c.args.least all are has (omega arith)) (long_is c.args.words c.array_words.result)

pub returns-then-words-le-MAX_REGISTERS : goal.returns-then-words-le-MAX_REGISTERS
returns-then-words-le-MAX_REGISTERS c = λ all are has. by_registers (omega arith) c.if-words-le-MAX_REGISTERS.true (short_is c.args.words c.requires.some)

pub returns : goal.returns
returns c = λ all are has. by_array (omega arith) (omega arith) (whole_is c.args.words)
