use Rattle.pgm_codec.specs.declared.scan.Scan.TheVariants.{Done, Fault}
use Rattle.pgm_codec.proofs.Scanning.{pushed, pushed_on, stayed, stayed_on, done_not_more, fault_not_more}
use Rattle.pgm_codec.proofs.scan.HeaderScan.push.Goals as goal

pub returns-in-More-clause-answer : goal.returns-in-More-clause-answer
returns-in-More-clause-answer c = λ bytes s. pushed c.args.self.now c.step-reading.result c.answer_of-answer.result bytes c.args.byte s c.in-More.is c.step-reading.ensures c.answer_of-answer.ensures.is

pub returns-in-More-clause-scanned : goal.returns-in-More-clause-scanned
returns-in-More-clause-scanned c = λ bytes s. pushed_on c.args.self.now _ bytes c.args.byte s c.in-More.is c.step-reading.ensures c.answer_of-answer.ensures.is

pub returns-in-Fault-clause-answer : goal.returns-in-Fault-clause-answer
returns-in-Fault-clause-answer c = λ bytes s. stayed c.args.self.now (Fault c.in-Fault.fault) bytes c.args.byte s c.in-Fault.is (fault_not_more c.in-Fault.fault)

pub returns-in-Fault-clause-scanned : goal.returns-in-Fault-clause-scanned
returns-in-Fault-clause-scanned c = λ bytes s. stayed_on c.args.self.now (Fault c.in-Fault.fault) bytes c.args.byte s c.in-Fault.is (fault_not_more c.in-Fault.fault)

pub returns-in-Done-clause-answer : goal.returns-in-Done-clause-answer
returns-in-Done-clause-answer c = λ bytes s. stayed c.args.self.now (Done c.in-Done.header) bytes c.args.byte s c.in-Done.is (done_not_more c.in-Done.header)

pub returns-in-Done-clause-scanned : goal.returns-in-Done-clause-scanned
returns-in-Done-clause-scanned c = λ bytes s. stayed_on c.args.self.now (Done c.in-Done.header) bytes c.args.byte s c.in-Done.is (done_not_more c.in-Done.header)
