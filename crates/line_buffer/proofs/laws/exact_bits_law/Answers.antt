use Rattle.line_buffer.proofs.Bits.{ring_bits, chain_bits}
use Rattle.line_buffer.proofs.laws.exact_bits_law.Goals as goal

pub returns-clause-ring : goal.returns-clause-ring
returns-clause-ring c = ring_bits

pub returns-clause-chain : goal.returns-clause-chain
returns-clause-chain c = chain_bits
