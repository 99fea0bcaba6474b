-- What is left after a batch fits.
use Rattle.std.proofs.Common.{◌≡◌, ℕ, zero, suc, ◌^◌, ◌<◌, ◌≤◌, List, [], ◌∷◌, length, refl, ap, sym, subst, ◌∙◌, arith, Some, lit<, length-set}
use Rattle.std.specs.Prelude.{All, slice_get, slice_index, slice_index_or, unwrap_or}
use Rattle.std.specs.Option.{option_map}
use Rattle.std.specs.List.{AllZip}
use Rattle.std.proofs.lemmas.Option.{slice_get_within, same_Some}
use Rattle.std.proofs.lemmas.List.Elements.{All-contains, All-set}
use Rattle.wiring.specs.Sizes.{IsConstant}
use Rattle.wiring.specs.declared.right.Atom.{Atom}
use Rattle.wiring.specs.declared.right.Atom.TheVariants as atom
use Rattle.wiring.specs.declared.netlist.Net.{Net}
use Rattle.wiring.specs.declared.netlist.Net.TheVariants.{Input, Output, Wire, Reg}
use Rattle.wiring.specs.declared.netlist.Holder.TheVariants.{OfArray}
use Rattle.wiring.specs.declared.netlist.Shape.{Shape}
use Rattle.wiring.specs.declared.netlist.Update.{Update}
use Rattle.wiring.specs.declared.netlist.Update.TheVariants.{Set, Put}
use Rattle.wiring.specs.Rights.{atom_width}
use Rattle.wiring.specs.Netlist.{Netlist, net_width, IsDeclared, update_target}
use Rattle.wiring.specs.Snapshot.{Contents, FitsContents}
use Rattle.wiring.specs.Rules.{KeepsRules, UpdateIsSound, AtomIsSound}
use Rattle.wiring.proofs.Lists.{All-at}
use Rattle.cycle_sim.specs.Slots.{slot, rename_atom, all_widths}
use Rattle.cycle_sim.proofs.Flat.{flat_width_at, length-all_widths}
use Rattle.cycle_sim.proofs.Pieces.{fit_from}
use Rattle.lane_rows.specs.Values.{value_at}
use Rattle.batch_rows.specs.Code.{AreRows}
use Rattle.batch_rows.specs.declared.module_code.WordPut.{WordPut}
use Rattle.batch_rows.specs.declared.module_code.BatchCode.{BatchCode}
use Rattle.batch_code.specs.Code.{IsBatchCode, put_of}
use Rattle.batch_code.specs.Rows.{atom_at, words_put, AreLeft}

abbrev AreWords : Shape → List ℕ → Type 0
AreWords s words = (length words ≡ s.depth) × All (λ w. w < 2 ^ s.width) words

-- ---- lists of arrays by place

words_at : (shapes : List Shape) (arrays : List (List ℕ)) (x : ℕ) (s : Shape) → AllZip AreWords shapes arrays → slice_get shapes x ≡ Some s → AreWords s (slice_index_or arrays x [])
words_at [] arrays x s h at = absurd (cc at)
words_at (z ∷ shapes) [] x s h at = absurd h
words_at (z ∷ shapes) (ws ∷ arrays) zero s h at = subst (λ (y : Shape). AreWords y ws) (same_Some z s at) h.0
words_at (z ∷ shapes) (ws ∷ arrays) (suc x) s h at = words_at shapes arrays x s h.1 at

words_from : (shapes : List Shape) (arrays : List (List ℕ)) → length arrays ≡ length shapes → ((x : ℕ) (s : Shape) → slice_get shapes x ≡ Some s → AreWords s (slice_index_or arrays x [])) → AllZip AreWords shapes arrays
words_from [] [] e h = tt
words_from [] (ws ∷ arrays) e h = absurd (omega (arith, e))
words_from (s ∷ shapes) [] e h = absurd (omega (arith, e))
words_from (s ∷ shapes) (ws ∷ arrays) e h = (h 0 s refl, words_from shapes arrays (omega (arith, e)) (λ x z at. h (suc x) z at))

-- ---- the slots of declared nets

pub declared_within : (m : Netlist) (n : Net) → IsDeclared m n → slot m n < length (all_widths m)
declared_within m (Input i) d = omega (arith, length-all_widths m, d)
declared_within m (Output i) d = omega (arith, length-all_widths m, d)
declared_within m (Wire i) d = omega (arith, length-all_widths m, d)
declared_within m (Reg i) d = omega (arith, length-all_widths m, d)

same_array : (x y : ℕ) → OfArray y ≡ OfArray x → y ≡ x
same_array x y e = cc e

put_in : (m : Netlist) (x : ℕ) (k : ℕ) (u : Update) → slice_get m.updates k ≡ Some u → update_target u ≡ OfArray x → (i : Atom Net) × (a : Atom Net) × (slice_get m.updates k ≡ Some (Put x i a))
put_in m x k (Set r a) at e = absurd (cc e)
put_in m x k (Put y i a) at e = (i, a, subst (λ (z : ℕ). slice_get m.updates k ≡ Some (Put z i a)) (same_array x y e) at)

module _ (m : Netlist) (c : BatchCode) (rules : KeepsRules m) (is : IsBatchCode m c) (from to : Contents) (rows : List (List ℕ)) (long count : ℕ) (room : count < long)
    (fitting : FitsContents m from) (are : AreRows c.widths.items long rows) (left : AreLeft m c rows count from to) where
  net_fits : (t : ℕ) → t < long → (n : Net) → IsDeclared m n → value_at rows t (slot m n) < 2 ^ net_width m n
  net_fits t l n d =
      let within : slot m n < length rows = let inside = declared_within m n d in let wide = ap (λ (ws : List ℕ). length ws) is.slots.widths in omega (arith, inside, wide, are.slots) in
      subst (λ (w : ℕ). value_at rows t (slot m n) < 2 ^ w) (ap (λ (ws : List ℕ). slice_index ws (slot m n)) is.slots.widths ∙ flat_width_at m n d) (are.fit (slot m n) t within l)

  atom_fits : (t : ℕ) → t < long → (a : Atom Net) → AtomIsSound m a → atom_at rows t (rename_atom (slot m) a) < 2 ^ atom_width (net_width m) a
  atom_fits t l (atom.Net n) ok = net_fits t l n (All-contains (IsDeclared m) (n ∷ []) n ok.nets (0, lit< tt, refl))
  atom_fits t l (atom.Constant k) ok = (All-contains IsConstant (k ∷ []) k ok.constants (0, lit< tt, refl)).fits

  put_fits : (x : ℕ) (s : Shape) (p : WordPut) (words : List ℕ) (t : ℕ) → t ≤ count → ((j : ℕ) → j < count → atom_at rows j p.value < 2 ^ s.width) → AreWords s words → AreWords s (words_put rows p words t)
  put_fits x s p words zero l fit h = h
  put_fits x s p words (suc t) l fit h =
      let before = put_fits x s p words t (omega (arith, l)) fit h in (
        length-set (words_put rows p words t) (atom_at rows t p.index) (atom_at rows t p.value) ∙ before.0,
        All-set (λ w. w < 2 ^ s.width) (words_put rows p words t) (atom_at rows t p.index) (atom_at rows t p.value) (fit t (omega (arith, l))) before.1,
      )

  array_fits : (x : ℕ) (s : Shape) → slice_get m.arrays x ≡ Some s → AreWords s (slice_index_or to.arrays x [])
  array_fits x s at =
      let update = rules.updated.some (OfArray x) (slice_get_within m.arrays x s at) in
      let put = put_in m x update.0 update.1 update.2 update.3 in
      let ok = All-at (UpdateIsSound m) m.updates update.0 (Put x put.0 put.1) rules.updates put.2 in
      let width : atom_width (net_width m) put.1 ≡ s.width = ok.3 ∙ ap (λ o. unwrap_or (option_map (λ (z : Shape). z.width) o) 0) at in
      let p = put_of m put.0 put.1 in
      subst (λ (ws : List ℕ). AreWords s ws) (sym (left.arrays x p (is.code.puts update.0 x put.0 put.1 put.2)))
      (put_fits x s p (slice_index_or from.arrays x []) count (omega arith)
      (λ j l. subst (λ (w : ℕ). atom_at rows j p.value < 2 ^ w) width (atom_fits j (omega (arith, l, room)) put.1 ok.2))
      (words_at m.arrays from.arrays x s fitting.arrays at))

  pub left_fits : FitsContents m to
  left_fits = record {
    regs = fit_from m.regs to.regs left.reg_count (λ r l. subst (λ (v : ℕ). v < 2 ^ slice_index m.regs r) (sym (left.regs r l)) (net_fits count room (Reg r) l));
    arrays = words_from m.arrays to.arrays left.array_count array_fits;
  }
