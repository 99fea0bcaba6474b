use Rattle.std.proofs.Common.{◌≡◌, ◌∷◌, ◌++◌, [], List, ℕ, sym, subst}
use Rattle.source_fault.specs.declared.fault.SourceFault.TheVariants as fault
use Rattle.fault_messages.specs.Explanations.{AreMessages}
use Rattle.fault_messages.proofs.Messages.{more_messages}
use Rattle.fault_messages.proofs.listing.push_message.Goals as goal

pub returns : goal.returns
returns c = λ faults before.
    let grown : c.extend_from_slice.new.self.items ≡ c.args.to.now.items ++ c.in_ok-bytes.bytes.items =
    cc (c.in_ok-extend_from_slice.ensures.items, c.deref.ensures.value) in
    let P : List ℕ → Type 0 = λ bytes. AreMessages c.args.name.now c.args.source.now.text.now (faults ++ fault.Types c.args.found.fault ∷ []) bytes in
    subst P (sym grown)
    (more_messages c.args.name.now c.args.source.now.text.now faults (fault.Types c.args.found.fault) c.args.to.now.items c.in_ok-bytes.bytes.items
    before c.in_ok-bytes.ensures)
