use Rattle.fault_messages.proofs.Messages.{Few}
use Rattle.fault_messages.proofs.listing.messages.Given as goal

abbrev pub invariant-loop-other : goal.invariant-loop-other
invariant-loop-other l = Few l.name l.source.text.now l.fn.first l.other-index l.bytes.items
