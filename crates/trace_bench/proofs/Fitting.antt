-- What the dins are given, and the values of all variables, fit their widths.
use Rattle.std.proofs.Common.{◌≡◌, ℕ, suc, ◌^◌, ◌<◌, List, [], ◌∷◌, ◌++◌, length, ap, sym, subst, ◌∙◌, arith}
use Rattle.std.specs.Prelude.{slice_index}
use Rattle.dk_base.specs.Frames.{Size, area}
use Rattle.wiring.specs.declared.netlist.Net.{Net}
use Rattle.wiring.specs.declared.netlist.Net.TheVariants.{Output, Wire}
use Rattle.wiring.specs.Netlist.{Netlist, net_width, IsDeclared}
use Rattle.wiring.specs.Order.{IsEvaluationOrder}
use Rattle.wiring.specs.Rules.{KeepsRules}
use Rattle.wiring.specs.Snapshot.{Contents, Snapshot, net_value, FitsContents, Fit, IsSettled}
use Rattle.wiring.specs.Clock.{Clock, given, Steps}
use Rattle.cycle_sim.specs.Slots.{all_values, all_widths}
use Rattle.cycle_sim.specs.Ports.{din_widths}
use Rattle.cycle_sim.proofs.Given.{given_fit}
use Rattle.pgm_rounds.specs.declared.round.Round.{Round}
use Rattle.stimulus.specs.Stimulus.{dins_at}
use Rattle.stimulus.specs.Given.{rounds_of, AreBenchFrames}
use Rattle.stimulus.proofs.Stimuli.{fit_dins}

fit_append : (ws us vs xs : List ℕ) → Fit ws vs → Fit us xs → Fit (ws ++ us) (vs ++ xs)
fit_append [] us [] xs h g = g
fit_append [] us (v ∷ vs) xs h g = absurd h
fit_append (w ∷ ws) us [] xs h g = absurd h
fit_append (w ∷ ws) us (v ∷ vs) xs h g = (h.0, fit_append ws us vs xs h.1 g)

fit_places : (ws vs : List ℕ) → length vs ≡ length ws → ((k : ℕ) → k < length ws → slice_index vs k < 2 ^ slice_index ws k) → Fit ws vs
fit_places [] [] e h = tt
fit_places [] (v ∷ vs) e h = absurd (omega (arith, e))
fit_places (w ∷ ws) [] e h = absurd (omega (arith, e))
fit_places (w ∷ ws) (v ∷ vs) e h = (h 0 (omega arith), fit_places ws vs (omega (arith, e)) (λ k l. h (suc k) (omega (arith, l))))

abbrev NetsFit : Type 0
NetsFit = (m : Netlist) (order : List ℕ) → KeepsRules m → IsEvaluationOrder m.assigns order → (s : Snapshot) → IsSettled m s → FitsContents m s.contents → Fit m.inputs s.inputs → (n : Net) → IsDeclared m n → net_value s n < 2 ^ net_width m n

pub values_fit : NetsFit → (m : Netlist) (order : List ℕ) → KeepsRules m → IsEvaluationOrder m.assigns order → (c : Clock) (from to : Contents) (s : Snapshot) → FitsContents m from → Fit (din_widths m) c.dins → Steps m from (given m c) s to → Fit (all_widths m) (all_values s)
values_fit fit m order rules ordered c from to s contents dins step =
    let held : FitsContents m s.contents = subst (λ z. FitsContents m z) (sym step.snapshot.contents) contents in
    let inputs : Fit m.inputs s.inputs = subst (λ z. Fit m.inputs z) (sym step.snapshot.inputs) (given_fit m rules c dins) in
    let settled = step.snapshot.settled in
    fit_append (m.inputs ++ m.outputs ++ m.wires) m.regs (s.inputs ++ s.outputs ++ s.wires) s.contents.regs
    (fit_append (m.inputs ++ m.outputs) m.wires (s.inputs ++ s.outputs) s.wires
    (fit_append m.inputs m.outputs s.inputs s.outputs inputs
    (fit_places m.outputs s.outputs settled.outputs (λ k l. fit m order rules ordered s settled held inputs (Output k) l)))
    (fit_places m.wires s.wires settled.wires (λ k l. fit m order rules ordered s settled held inputs (Wire k) l)))
    held.regs

-- the pixels of a number
pub pixels_fit : (ws : List ℕ) (size : Size) (rounds : List Round) (number pixels count : ℕ) (dins : List ℕ) → AreBenchFrames ws size rounds → pixels ≡ area size → 0 < pixels → count ≡ length ws → dins ≡ dins_at count (rounds_of rounds) number → Fit ws dins
pixels_fit ws size rounds number pixels count dins frames e some n is =
    subst (λ z. Fit ws z) (sym (is ∙ ap (λ k. dins_at k (rounds_of rounds) number) n)) (fit_dins ws size rounds frames (subst (λ z. 0 < z) e some) number)
