use Rattle.std.proofs.Common.{◌≤◌, take, arith, Ok, Err, length, subst, List, ℕ}
use Rattle.std.proofs.lemmas.List.{take_all}
use Rattle.pgm_codec.specs.declared.header.HeaderFault.{HeaderFault}
use Rattle.pgm_codec.specs.declared.scan.Scan.TheVariants.{Done, Fault}
use Rattle.pgm_codec.specs.Answers.{Answers, Reads, Refuses}
use Rattle.pgm_codec.proofs.Scanning.{answered, done_not_more, fault_not_more}
use Rattle.pgm_codec.proofs.Unique.{one_answer}
use Rattle.pgm_codec.proofs.read.read_header.Goals as goal

refused_all : (bytes : List ℕ) (i : ℕ) (f : HeaderFault) → length bytes ≤ i → Refuses (take i bytes) f → Refuses bytes f
refused_all bytes i f l r = subst (λ x. Refuses x f) (take_all i bytes l) r

pub returns-in-Done-clause-judged : goal.returns-in-Done-clause-judged
returns-in-Done-clause-judged c = answered c.args.bytes.now c.loop-byte.byte-index (Done c.in-Done.header) (omega arith) (c.in-Done.ensures.answer _ c.loop-byte.invariant.scanned) (done_not_more c.in-Done.header)

pub returns-in-Done-clause-only : goal.returns-in-Done-clause-only
returns-in-Done-clause-only c =
    let is : Reads c.args.bytes.now c.in-Done.header = answered c.args.bytes.now c.loop-byte.byte-index (Done c.in-Done.header) (omega arith) (c.in-Done.ensures.answer _ c.loop-byte.invariant.scanned) (done_not_more c.in-Done.header) in
    λ other j. one_answer c.args.bytes.now other (Ok c.in-Done.header) j is

pub returns-in-Fault-clause-judged : goal.returns-in-Fault-clause-judged
returns-in-Fault-clause-judged c =
    let is : Answers c.args.bytes.now (Fault c.in-Fault.fault) = answered c.args.bytes.now c.loop-byte.byte-index (Fault c.in-Fault.fault) (omega arith) (c.in-Fault.ensures.answer _ c.loop-byte.invariant.scanned) (fault_not_more c.in-Fault.fault) in
    is.0

pub returns-in-Fault-clause-only : goal.returns-in-Fault-clause-only
returns-in-Fault-clause-only c =
    let is : Answers c.args.bytes.now (Fault c.in-Fault.fault) = answered c.args.bytes.now c.loop-byte.byte-index (Fault c.in-Fault.fault) (omega arith) (c.in-Fault.ensures.answer _ c.loop-byte.invariant.scanned) (fault_not_more c.in-Fault.fault) in
    λ other j. one_answer c.args.bytes.now other (Err c.in-Fault.fault) j is.0

pub returns-clause-judged : goal.returns-clause-judged
returns-clause-judged c = refused_all c.args.bytes.now c.loop-byte.byte-index c.end.result (omega arith) (c.end.ensures _ c.loop-byte.invariant.scanned)

pub returns-clause-only : goal.returns-clause-only
returns-clause-only c =
    let is : Refuses c.args.bytes.now c.end.result = refused_all c.args.bytes.now c.loop-byte.byte-index c.end.result (omega arith) (c.end.ensures _ c.loop-byte.invariant.scanned) in
    λ other j. one_answer c.args.bytes.now other (Err c.end.result) j is
