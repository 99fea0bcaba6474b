use Rattle.std.proofs.Common.{◌≡◌, ℕ, List, subst}
use Rattle.net_lines.specs.Lines.{net_lines}
use Rattle.dk_top.proofs.commands.listing.NetsWordsOfText.make.Goals as goal

pub returns-in-Ok-clause-made : goal.returns-in-Ok-clause-made
returns-in-Ok-clause-made c =
    let circuit = c.in_ok-circuit.circuit in
    let lines : List ℕ = c.in-Ok.lines.items in
    record {
      compiled = circuit;
      from = c.in_ok-circuit.ensures.compiled;
      are = subst (λ reads. lines ≡ net_lines circuit.ir circuit.plan circuit.«module» circuit.nets.items reads circuit.text.items) c.deref-3.ensures.value
          (subst (λ nets. lines ≡ net_lines circuit.ir circuit.plan circuit.«module» nets c.deref-3.result.now circuit.text.items) c.deref-2.ensures.value
          (subst (λ text. lines ≡ net_lines circuit.ir circuit.plan circuit.«module» c.deref-2.result.now c.deref-3.result.now text) c.deref.ensures.value c.in-Ok.ensures));
    }
