use Rattle.std.proofs.Common.{ℕ, List, ap, ◌∙◌}
use Rattle.circuit.specs.Splits.{Splits, lists_of}
use Rattle.circuit.specs.Forms.{block_places}
use Rattle.circuit.proofs.forms.BlockChainBufferForm.place.Goals as goal

pub returns : goal.returns
returns c = record {
  array = c.block_slot.ensures.array ∙ ap (λ (proposed : List (List ℕ)). (block_places proposed c.args.plan.now c.args.image c.args.age c.args.clock).array) (ap lists_of c.deref.ensures.value ∙ ap (λ (form : Splits). form.proposed) c.self.view_is);
  word = c.block_slot.ensures.word ∙ ap (λ (proposed : List (List ℕ)). (block_places proposed c.args.plan.now c.args.image c.args.age c.args.clock).word) (ap lists_of c.deref.ensures.value ∙ ap (λ (form : Splits). form.proposed) c.self.view_is);
}
