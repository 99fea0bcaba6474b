-- There is room for each update.
use Rattle.std.proofs.Common.{◌≡◌, ℕ, ◌+◌, ◌<◌, ◌≤◌, length, Option, Some, None, sym, ap, ◌∙◌, inl, inr, arith}
use Rattle.std.specs.Prelude.{slice_get}
use Rattle.std.proofs.lemmas.Option.{slice_get_cases}
use Rattle.std.proofs.lemmas.List.{length_push}
use Rattle.indexmap.proofs.IndexTableLemmas.Probe.{pigeonhole}
use Rattle.wiring.specs.declared.netlist.Net.TheVariants.{Reg}
use Rattle.wiring.specs.declared.netlist.Holder.TheVariants.{OfNet, OfArray}
use Rattle.wiring.specs.declared.netlist.Update.{Update}
use Rattle.wiring.specs.declared.netlist.Update.TheVariants.{Set, Put}
use Rattle.wiring.specs.Netlist.{Netlist, update_target}
use Rattle.wiring.specs.Rules.{UpdateIsSound}
use Rattle.wiring.proofs.Lists.{All-at}
use Rattle.net_build.specs.Draft.{IsDraft, IsFree, with_update}
use Rattle.net_build.proofs.Drafts.{draft_update}

-- a number for each register, and one after those for each array
abbrev code : ℕ → Update → ℕ
code regs (Set r a) = r
code regs (Put x i a) = regs + x

abbrev code_at : ℕ → Option Update → ℕ
code_at regs None = 0
code_at regs (Some u) = code regs u

module _ (b : Netlist) (draft : IsDraft b) where
  abbrev place : ℕ → ℕ
  place k = code_at (length b.regs) (slice_get b.updates k)

  code_within : (u : Update) → UpdateIsSound b u → code (length b.regs) u < length b.regs + length b.arrays
  code_within (Set r a) s = omega (arith, s.0)
  code_within (Put x i a) s = omega (arith, s.0)

  same_code : (u v : Update) → UpdateIsSound b u → UpdateIsSound b v → code (length b.regs) u ≡ code (length b.regs) v → update_target u ≡ update_target v
  same_code (Set r a) (Set q c) s t e = ap (λ z. OfNet (Reg z)) e
  same_code (Set r a) (Put x i c) s t e = absurd (omega (arith, s.0, e))
  same_code (Put x i a) (Set r c) s t e = absurd (omega (arith, t.0, e))
  same_code (Put x i a) (Put y j c) s t e = ap (λ z. OfArray z) (let h : length b.regs + x ≡ length b.regs + y = e in let g : x ≡ y = omega (arith, h) in g)

  abbrev At : ℕ → Type 0
  At k = (u : Update) × (slice_get b.updates k ≡ Some u)

  at : (k : ℕ) → k < length b.updates → At k
  at k l = elim (slice_get_cases b.updates k).1 as (λ _. At k) [ inl h ↦ (h.0, h.2) | inr h ↦ absurd (omega (arith, h.0, l)) ]

  sound_at : (k : ℕ) (u : Update) → slice_get b.updates k ≡ Some u → UpdateIsSound b u
  sound_at k u e = All-at (UpdateIsSound b) b.updates k u draft.updates e

  place_is : (k : ℕ) (u : Update) → slice_get b.updates k ≡ Some u → place k ≡ code (length b.regs) u
  place_is k u e = ap (code_at (length b.regs)) e

  into : (k : ℕ) → k < length b.updates → place k < length b.regs + length b.arrays
  into k l = let h = at k l in omega (arith, place_is k h.0 h.1, code_within h.0 (sound_at k h.0 h.1))

  one : (j k : ℕ) → j < length b.updates → k < length b.updates → place j ≡ place k → j ≡ k
  one j k l m e =
      let h = at j l in
      let g = at k m in
      draft.once j k h.0 g.0 h.1 g.1 (same_code h.0 g.0 (sound_at j h.0 h.1) (sound_at k g.0 g.1) (sym (place_is j h.0 h.1) ∙ e ∙ place_is k g.0 g.1))

  pub updates_bound : length b.updates ≤ length b.regs + length b.arrays
  updates_bound = pigeonhole (length b.updates) (length b.regs + length b.arrays) place into one

-- a register or an array with no update leaves room for one
pub has_room : (b : Netlist) (u : Update) → IsDraft b → UpdateIsSound b u → IsFree b (update_target u) → length b.updates < length b.regs + length b.arrays
has_room b u draft sound free = omega (arith, updates_bound (with_update b u) (draft_update b u draft sound free), length_push b.updates u)
