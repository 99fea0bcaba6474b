use Rattle.fault_messages.proofs.Messages.{lone}
use Rattle.fault_messages.proofs.listing.lone_message.Goals as goal

pub returns : goal.returns
returns c = lone c.args.name.now c.args.source.now.text.now c.args.fault c.in_ok-bytes.bytes.items c.in_ok-bytes.ensures
