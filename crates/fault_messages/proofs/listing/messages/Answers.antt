use Rattle.fault_messages.proofs.Messages.{first_message, few_more}
use Rattle.fault_messages.proofs.listing.messages.Goals as goal

pub loop-other-init : goal.loop-other-init
loop-other-init c = first_message c.args.name.now c.args.source.now.text.now c.args.first c.in_ok-bytes.bytes.items c.in_ok-bytes.ensures

pub loop-other-preserved : goal.loop-other-preserved
loop-other-preserved c =
    few_more c.args.name.now c.args.source.now.text.now c.args.first _ c.loop-other.other-index c.loop-other.bytes.items c.push_message.new.to.items
    c.loop-other.invariant c.in_ok-push_message.ensures
