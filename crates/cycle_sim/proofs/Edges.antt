-- The clock edge over slots is the netlist's.
use Rattle.std.proofs.Common.{◌≡◌, ◌≢◌, ℕ, zero, suc, ◌<◌, List, [], ◌∷◌, length, get_or, map, refl, ap, sym, subst, ◌∙◌, arith, Some}
use Rattle.std.specs.Prelude.{slice_get, slice_set}
use Rattle.std.proofs.lemmas.List.{length-set, get_or-set_other}
use Rattle.std.proofs.lemmas.Option.{same_Some}
use Rattle.wiring.specs.declared.right.Atom.{Atom}
use Rattle.wiring.specs.declared.netlist.Net.{Net}
use Rattle.wiring.specs.declared.netlist.Update.{Update}
use Rattle.wiring.specs.declared.netlist.Update.TheVariants as update
use Rattle.wiring.specs.Netlist.{Netlist, update_target}
use Rattle.wiring.proofs.Search.{get_set_same, get_set_other}
use Rattle.wiring.specs.declared.netlist.Holder.TheVariants.{OfNet, OfArray}
use Rattle.wiring.specs.declared.netlist.Net.TheVariants.{Reg}
use Rattle.cycle_sim.specs.Slots.{slot, rename_atom, put_at}
use Rattle.cycle_sim.specs.Edge.{slot_value, run_sets, run_puts, edge}

-- no two of these updates have one target
abbrev pub OnceEach : List Update → Type 0
OnceEach us = (j k : ℕ) (u v : Update) → slice_get us j ≡ Some u → slice_get us k ≡ Some v → update_target u ≡ update_target v → j ≡ k

once_tail : (u : Update) (us : List Update) → OnceEach (u ∷ us) → OnceEach us
once_tail u us once j k v w at_j at_k same = omega (arith, once (suc j) (suc k) v w at_j at_k same)

-- no update of these has this target
abbrev Spares : Update → List Update → Type 0
Spares u us = (k : ℕ) (v : Update) → slice_get us k ≡ Some v → update_target u ≡ update_target v → ⊥

once_spares : (u : Update) (us : List Update) → OnceEach (u ∷ us) → Spares u us
once_spares u us once k v at same = let e : 0 ≡ suc k = once 0 (suc k) u v refl at same in absurd (omega (arith, e))

spares_tail : (u v : Update) (us : List Update) → Spares u (v ∷ us) → Spares u us
spares_tail u v us h k w at same = h (suc k) w at same

module _ (m : Netlist) (values : List ℕ) where
  abbrev worth : Atom Net → ℕ
  worth a = slot_value values (rename_atom (slot m) a)

  pub length-run_sets : (us : List Update) (regs : List ℕ) → length (run_sets values (map (edge m) us) regs) ≡ length regs
  length-run_sets [] regs = refl
  length-run_sets (update.Set r a ∷ us) regs = length-run_sets us (slice_set regs r (worth a)) ∙ length-set regs r (worth a)
  length-run_sets (update.Put x i a ∷ us) regs = length-run_sets us regs

  sets_kept : (r : ℕ) (b : Atom Net) (us : List Update) (regs : List ℕ) → Spares (update.Set r b) us → slice_get (run_sets values (map (edge m) us) regs) r ≡ slice_get regs r
  sets_kept r b [] regs spares = refl
  sets_kept r b (update.Set q a ∷ us) regs spares =
      let ne : r ≢ q = λ e. spares 0 (update.Set q a) refl (ap (λ (z : ℕ). OfNet (Reg z)) e) in
      sets_kept r b us (slice_set regs q (worth a)) (spares_tail (update.Set r b) (update.Set q a) us spares) ∙ get_set_other regs q r (worth a) ne
  sets_kept r b (update.Put x i a ∷ us) regs spares = sets_kept r b us regs (spares_tail (update.Set r b) (update.Put x i a) us spares)

  -- a register takes its value
  pub set_taken : (us : List Update) (regs : List ℕ) (k r : ℕ) (a : Atom Net) → OnceEach us → slice_get us k ≡ Some (update.Set r a) → r < length regs →
      slice_get (run_sets values (map (edge m) us) regs) r ≡ Some (worth a)
  set_taken [] regs k r a once at l = cc
  set_taken (u ∷ us) regs zero r a once at l =
      let same : u ≡ update.Set r a = same_Some u (update.Set r a) at in
      let whole : OnceEach (update.Set r a ∷ us) → slice_get (run_sets values (map (edge m) (update.Set r a ∷ us)) regs) r ≡ Some (worth a) =
      λ o. sets_kept r a us (slice_set regs r (worth a)) (once_spares (update.Set r a) us o) ∙ get_set_same regs r (worth a) l in
      subst (λ (v : Update). OnceEach (v ∷ us) → slice_get (run_sets values (map (edge m) (v ∷ us)) regs) r ≡ Some (worth a)) (sym same) whole once
  set_taken (update.Set q b ∷ us) regs (suc k) r a once at l = set_taken us (slice_set regs q (worth b)) k r a (once_tail (update.Set q b) us once) at (omega (arith, l, length-set regs q (worth b)))
  set_taken (update.Put x i b ∷ us) regs (suc k) r a once at l = set_taken us regs k r a (once_tail (update.Put x i b) us once) at l

  pub length-run_puts : (us : List Update) (arrays : List (List ℕ)) → length (run_puts values (map (edge m) us) arrays) ≡ length arrays
  length-run_puts [] arrays = refl
  length-run_puts (update.Set r a ∷ us) arrays = length-run_puts us arrays
  length-run_puts (update.Put x i a ∷ us) arrays = length-run_puts us (put_at arrays x (worth i) (worth a)) ∙ length-set arrays x (slice_set (get_or arrays x []) (worth i) (worth a))

  puts_kept : (x : ℕ) (j b : Atom Net) (us : List Update) (arrays : List (List ℕ)) → Spares (update.Put x j b) us → slice_get (run_puts values (map (edge m) us) arrays) x ≡ slice_get arrays x
  puts_kept x j b [] arrays spares = refl
  puts_kept x j b (update.Set q a ∷ us) arrays spares = puts_kept x j b us arrays (spares_tail (update.Put x j b) (update.Set q a) us spares)
  puts_kept x j b (update.Put y i a ∷ us) arrays spares =
      let ne : x ≢ y = λ e. spares 0 (update.Put y i a) refl (ap (λ (z : ℕ). OfArray z) e) in
      puts_kept x j b us (put_at arrays y (worth i) (worth a)) (spares_tail (update.Put x j b) (update.Put y i a) us spares) ∙ get_set_other arrays y x (slice_set (get_or arrays y []) (worth i) (worth a)) ne

  -- an array takes its word
  pub put_taken : (us : List Update) (arrays : List (List ℕ)) (k x : ℕ) (i a : Atom Net) → OnceEach us → slice_get us k ≡ Some (update.Put x i a) → x < length arrays →
      slice_get (run_puts values (map (edge m) us) arrays) x ≡ Some (slice_set (get_or arrays x []) (worth i) (worth a))
  put_taken [] arrays k x i a once at l = cc
  put_taken (u ∷ us) arrays zero x i a once at l =
      let same : u ≡ update.Put x i a = same_Some u (update.Put x i a) at in
      let whole : OnceEach (update.Put x i a ∷ us) → slice_get (run_puts values (map (edge m) (update.Put x i a ∷ us)) arrays) x ≡ Some (slice_set (get_or arrays x []) (worth i) (worth a)) =
      λ o. puts_kept x i a us (put_at arrays x (worth i) (worth a)) (once_spares (update.Put x i a) us o) ∙ get_set_same arrays x (slice_set (get_or arrays x []) (worth i) (worth a)) l in
      subst (λ (v : Update). OnceEach (v ∷ us) → slice_get (run_puts values (map (edge m) (v ∷ us)) arrays) x ≡ Some (slice_set (get_or arrays x []) (worth i) (worth a))) (sym same) whole once
  put_taken (update.Set q b ∷ us) arrays (suc k) x i a once at l = put_taken us arrays k x i a (once_tail (update.Set q b) us once) at l
  put_taken (update.Put y j b ∷ us) arrays (suc k) x i a once at l =
      let ne : x ≢ y = λ e. let z : suc k ≡ 0 = once (suc k) 0 (update.Put x i a) (update.Put y j b) at refl (ap (λ (w : ℕ). OfArray w) e) in absurd (omega (arith, z)) in
      let rest = put_taken us (put_at arrays y (worth j) (worth b)) k x i a (once_tail (update.Put y j b) us once) at (omega (arith, l, length-set arrays y (slice_set (get_or arrays y []) (worth j) (worth b)))) in
      rest ∙ ap (λ (ws : List ℕ). Some (slice_set ws (worth i) (worth a))) (get_or-set_other arrays y x (slice_set (get_or arrays y []) (worth j) (worth b)) [] ne)
