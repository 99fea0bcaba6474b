-- What a simulator holds fits its netlist.
use Rattle.std.proofs.Common.{◌≡◌, ℕ, suc, ◌^◌, ◌<◌, List, [], ◌∷◌, length, ap, sym, subst, ◌∙◌, arith}
use Rattle.std.specs.Prelude.{All, slice_get, slice_index, slice_index_or, unwrap_or}
use Rattle.std.specs.Option.{option_map}
use Rattle.std.specs.List.{AllZip}
use Rattle.std.proofs.lemmas.Option.{get_or_from_slice_get}
use Rattle.wiring.specs.declared.netlist.Shape.{Shape}
use Rattle.wiring.specs.declared.netlist.Net.TheVariants.{Reg}
use Rattle.wiring.specs.Netlist.{Netlist}
use Rattle.wiring.specs.Snapshot.{Contents, FitsContents, HasPlaces}
use Rattle.wiring.proofs.Lists.{All-from_at}
use Rattle.cycle_sim.specs.declared.machine.Program.{Program}
use Rattle.cycle_sim.specs.Slots.{all_values, depth_at}
use Rattle.cycle_sim.specs.Simulated.{contents_of, IsCircuit}
use Rattle.cycle_sim.proofs.Pieces.{fit_from}
use Rattle.cycle_sim.proofs.Simulates.{contents_flat}

arrays_fit : (shapes : List Shape) (arrays : List (List ℕ)) → length arrays ≡ length shapes →
    ((a : ℕ) → depth_at arrays a ≡ unwrap_or (option_map (λ (s : Shape). s.depth) (slice_get shapes a)) 0) →
    ((a i : ℕ) → slice_index (slice_index_or arrays a []) i < 2 ^ unwrap_or (option_map (λ (s : Shape). s.width) (slice_get shapes a)) 0) →
    AllZip (λ (s : Shape) (words : List ℕ). (length words ≡ s.depth) × All (λ w. w < 2 ^ s.width) words) shapes arrays
arrays_fit [] [] e deep below = tt
arrays_fit [] (words ∷ arrays) e deep below = absurd (omega (arith, e))
arrays_fit (s ∷ shapes) [] e deep below = absurd (omega (arith, e))
arrays_fit (s ∷ shapes) (words ∷ arrays) e deep below =
    let all : All (λ w. w < 2 ^ s.width) words =
    All-from_at (λ (w : ℕ). w < 2 ^ s.width) words (λ i w at. subst (λ (x : ℕ). x < 2 ^ s.width) (get_or_from_slice_get words i w 0 at) (below 0 i)) in
    ((deep 0, all), arrays_fit shapes arrays (omega (arith, e)) (λ a. deep (suc a)) (λ a i. below (suc a) i))

module _ (m : Netlist) (order : List ℕ) (p : Program) (values staged : List ℕ) (words : List (List ℕ)) (sim : IsCircuit m order p values staged words) where
  same : contents_of m values words ≡ sim.shot.contents
  same =
      ap (λ (v : List ℕ). contents_of m v words) sim.slots_are
      ∙ ap (λ (l : List (List ℕ)). contents_of m (all_values sim.shot) l) sim.words
      ∙ contents_flat m sim.shot sim.ready.shape

  pub contents_fit : FitsContents m (contents_of m values words)
  contents_fit = subst (λ (c : Contents). FitsContents m c) (sym same) (record {
    regs = fit_from m.regs sim.shot.contents.regs sim.ready.shape.regs (λ r l. sim.ready.nets (Reg r) l);
    arrays = arrays_fit m.arrays sim.shot.contents.arrays (ap length (sym sim.words) ∙ sim.fit.count)
        (λ a. ap (λ (l : List (List ℕ)). depth_at l a) (sym sim.words) ∙ sim.fit.deep a) sim.ready.words;
  })

  pub contents_placed : HasPlaces m (contents_of m values words)
  contents_placed = subst (λ (c : Contents). HasPlaces m c) (sym same) (record { regs = sim.ready.shape.regs; arrays = ap length (sym sim.words) ∙ sim.fit.count })
