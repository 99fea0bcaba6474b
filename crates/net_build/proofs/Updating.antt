-- Which registers and arrays still need an update.
use Rattle.std.proofs.Common.{◌≡◌, ◌≢◌, ◌⊎◌, ℕ, zero, suc, List, [], ◌∷◌, length, Some, ◌∙◌, ap, refl, sym, subst, inl, inr, arith}
use Rattle.std.specs.Prelude.{slice_get, Contains}
use Rattle.std.proofs.lemmas.List.{length_push, get_or_push}
use Rattle.std.proofs.lemmas.Bool.{cases_eq}
use Rattle.wiring.specs.declared.right.Right.{Right}
use Rattle.wiring.specs.declared.netlist.Net.{Net}
use Rattle.wiring.specs.declared.netlist.Net.TheVariants.{Input, Output, Wire, Reg}
use Rattle.wiring.specs.declared.netlist.Holder.{Holder}
use Rattle.wiring.specs.declared.netlist.Holder.TheVariants.{OfNet, OfArray}
use Rattle.wiring.specs.declared.netlist.Shape.{Shape}
use Rattle.wiring.specs.declared.netlist.Update.{Update}
use Rattle.wiring.specs.declared.netlist.Update.TheVariants.{Set, Put}
use Rattle.wiring.specs.Netlist.{Netlist, net_width, IsState, update_target}
use Rattle.wiring.specs.Rules.{UpdateIsSound}
use Rattle.wiring.proofs.Lists.{All-at, slice_get-append}
use Rattle.net_build.specs.Draft.{IsNet, IsRegister, IsDraft, IsFree, HasUpdate, UpdatedBut, AllUpdated, AddsWires, with_wire, with_reg, with_array, with_update}
use Rattle.net_build.proofs.Drafts.{last_push}

abbrev Waits : Netlist → List Holder → Holder → Type 0
Waits b free h = Contains free h ⊎ HasUpdate b h

-- no update of a draft is of a register or an array that there is not
pub reg_free : (b : Netlist) (w : ℕ) → IsDraft b → IsFree (with_reg b w) (OfNet (Reg (length b.regs)))
reg_free b w draft k u at e = by u (All-at (UpdateIsSound b) b.updates k u draft.updates at) e
  where
    by : (u : Update) → UpdateIsSound b u → update_target u ≢ OfNet (Reg (length b.regs))
    by (Set r a) s e = (let f : r ≡ length b.regs = cc in omega (arith, f, s.0))
    by (Put x i a) s e = (let f : OfArray x ≡ OfNet (Reg (length b.regs)) = e in cc)

pub array_free : (b : Netlist) (s : Shape) → IsDraft b → IsFree (with_array b s) (OfArray (length b.arrays))
array_free b s draft k u at e = by u (All-at (UpdateIsSound b) b.updates k u draft.updates at) e
  where
    by : (u : Update) → UpdateIsSound b u → update_target u ≢ OfArray (length b.arrays)
    by (Set r a) s e = (let f : OfNet (Reg r) ≡ OfArray (length b.arrays) = e in cc)
    by (Put x i a) s e = (let f : x ≡ length b.arrays = cc in omega (arith, f, s.0))

-- wires more change nothing of this
pub wires_none : (b : Netlist) → AddsWires b b
wires_none b = record { regs = refl; arrays = refl; updates = refl }

pub wires_same : (new old : Netlist) → new ≡ old → AddsWires new old
wires_same new old e = subst (λ (n : Netlist). AddsWires n old) (sym e) (wires_none old)

pub wires_joined : (c b a : Netlist) → AddsWires c b → AddsWires b a → AddsWires c a
wires_joined c b a f g = record { regs = f.regs ∙ g.regs; arrays = f.arrays ∙ g.arrays; updates = f.updates ∙ g.updates }

pub wires_op : (old new : Netlist) (r : Right Net ℕ) → (new ≡ old) ⊎ (new ≡ with_wire old r) → AddsWires new old
wires_op old new r (inl e) = wires_same new old e
wires_op old new r (inr e) = subst (λ (n : Netlist). AddsWires n old) (sym e) (record { regs = refl; arrays = refl; updates = refl })

pub free_wires : (new old : Netlist) (h : Holder) → AddsWires new old → IsFree old h → IsFree new h
free_wires new old h adds free k u at = free k u (subst (λ l. slice_get l k ≡ Some u) adds.updates at)

pub but_wires : (new old : Netlist) (free : List Holder) → AddsWires new old → UpdatedBut old free → UpdatedBut new free
but_wires new old free adds but h d = by h d
  where
    here : (h : Holder) → Waits old free h → Waits new free h
    here h (inl c) = inl c
    here h (inr (k, u, at, e)) = inr (k, u, subst (λ l. slice_get l k ≡ Some u) (sym adds.updates) at, e)

    by : (h : Holder) → IsState new h → Waits new free h
    by (OfNet (Input k)) d = absurd d
    by (OfNet (Output k)) d = absurd d
    by (OfNet (Wire k)) d = absurd d
    by (OfNet (Reg k)) d = here (OfNet (Reg k)) (but (OfNet (Reg k)) (omega (arith, d, ap length adds.regs)))
    by (OfArray x) d = here (OfArray x) (but (OfArray x) (omega (arith, d, ap length adds.arrays)))

later : (g : Holder) (free : List Holder) (h : Holder) → Contains free h → Contains (g ∷ free) h
later g free h (k, l, e) = (suc k, omega (arith, l), e)

first : (g : Holder) (free : List Holder) → Contains (g ∷ free) g
first g free = (zero, omega arith, refl)

more : (b : Netlist) (free : List Holder) (g h : Holder) → Waits b free h → Waits b (g ∷ free) h
more b free g h (inl c) = inl (later g free h c)
more b free g h (inr u) = inr u

-- a register or an array more needs its update
pub but_reg : (b : Netlist) (w : ℕ) (free : List Holder) → UpdatedBut b free → UpdatedBut (with_reg b w) (OfNet (Reg (length b.regs)) ∷ free)
but_reg b w free h (OfNet (Input k)) d = absurd d
but_reg b w free h (OfNet (Output k)) d = absurd d
but_reg b w free h (OfNet (Wire k)) d = absurd d
but_reg b w free h (OfNet (Reg k)) d =
    elim (cases_eq k (length b.regs)) as (λ _. Waits (with_reg b w) (OfNet (Reg (length b.regs)) ∷ free) (OfNet (Reg k))) [
      | inl e ↦ subst (λ (j : ℕ). Waits (with_reg b w) (OfNet (Reg (length b.regs)) ∷ free) (OfNet (Reg j))) (sym e) (inl (first (OfNet (Reg (length b.regs))) free))
      | inr ne ↦ more b free (OfNet (Reg (length b.regs))) (OfNet (Reg k)) (h (OfNet (Reg k)) (omega (arith, d, ne, length_push b.regs w)))
    ]
but_reg b w free h (OfArray x) d = more b free (OfNet (Reg (length b.regs))) (OfArray x) (h (OfArray x) d)

pub but_array : (b : Netlist) (s : Shape) (free : List Holder) → UpdatedBut b free → UpdatedBut (with_array b s) (OfArray (length b.arrays) ∷ free)
but_array b s free h (OfNet (Input k)) d = absurd d
but_array b s free h (OfNet (Output k)) d = absurd d
but_array b s free h (OfNet (Wire k)) d = absurd d
but_array b s free h (OfNet (Reg k)) d = more b free (OfArray (length b.arrays)) (OfNet (Reg k)) (h (OfNet (Reg k)) d)
but_array b s free h (OfArray x) d =
    elim (cases_eq x (length b.arrays)) as (λ _. Waits (with_array b s) (OfArray (length b.arrays) ∷ free) (OfArray x)) [
      | inl e ↦ subst (λ (j : ℕ). Waits (with_array b s) (OfArray (length b.arrays) ∷ free) (OfArray j)) (sym e) (inl (first (OfArray (length b.arrays)) free))
      | inr ne ↦ more b free (OfArray (length b.arrays)) (OfArray x) (h (OfArray x) (omega (arith, d, ne, length_push b.arrays s)))
    ]

-- and an update is of the first that needs one
module _ (b : Netlist) (u : Update) (g : Holder) (free : List Holder) (of : update_target u ≡ g) where
  kept : (h : Holder) → HasUpdate b h → HasUpdate (with_update b u) h
  kept h (k, v, at, e) = (k, v, slice_get-append b.updates (u ∷ []) k v at, e)

  given : (h : Holder) → Waits b (g ∷ free) h → Waits (with_update b u) free h
  given h (inr has) = inr (kept h has)
  given h (inl (zero, l, e)) = inr (length b.updates, u, last_push b.updates u, of ∙ e)
  given h (inl (suc k, l, e)) = inl (k, omega (arith, l), e)

  pub but_update : UpdatedBut b (g ∷ free) → UpdatedBut (with_update b u) free
  but_update h (OfNet (Input k)) d = absurd d
  but_update h (OfNet (Output k)) d = absurd d
  but_update h (OfNet (Wire k)) d = absurd d
  but_update h (OfNet (Reg k)) d = given (OfNet (Reg k)) (h (OfNet (Reg k)) d)
  but_update h (OfArray x) d = given (OfArray x) (h (OfArray x) d)

-- those that need one, in another order or among others
pub but_among : (b : Netlist) (free more : List Holder) → ((h : Holder) → Contains free h → Contains more h) → UpdatedBut b free → UpdatedBut b more
but_among b free more among but h d = elim (but h d) as (λ _. Waits b more h) [ inl c ↦ inl (among h c) | inr u ↦ inr u ]

pub but_swap : (b : Netlist) (g k : Holder) (free : List Holder) → UpdatedBut b (g ∷ (k ∷ free)) → UpdatedBut b (k ∷ (g ∷ free))
but_swap b g k free but = but_among b (g ∷ (k ∷ free)) (k ∷ (g ∷ free)) swapped but
  where
    swapped : (h : Holder) → Contains (g ∷ (k ∷ free)) h → Contains (k ∷ (g ∷ free)) h
    swapped h (zero, l, e) = (suc zero, omega arith, e)
    swapped h (suc zero, l, e) = (zero, omega arith, e)
    swapped h (suc (suc n), l, e) = (suc (suc n), omega (arith, l), e)

pub all_updated : (b : Netlist) → UpdatedBut b [] → AllUpdated b
all_updated b h g d = elim (h g d) as (λ _. HasUpdate b g) [ inl c ↦ absurd (none c) | inr u ↦ u ]
  where
    none : Contains [] g → ⊥
    none (k, l, e) = absurd (omega (arith, l))

-- the last register and the last array
pub last_net : (b : Netlist) (w : ℕ) → IsNet (with_reg b w) (Reg (length b.regs))
last_net b w = record { declared = omega (arith, length_push b.regs w); no_output = λ k e. (let f : Reg (length b.regs) ≡ Output k = e in cc) }

pub last_register : (b : Netlist) (w : ℕ) → IsRegister (with_reg b w) (Reg (length b.regs))
last_register b w = (refl, omega (arith, length_push b.regs w))

pub last_width : (b : Netlist) (w : ℕ) → net_width (with_reg b w) (Reg (length b.regs)) ≡ w
last_width b w = get_or_push b.regs w 0 (length b.regs) refl

pub last_shape : (b : Netlist) (s : Shape) → slice_get (with_array b s).arrays (length b.arrays) ≡ Some s
last_shape b s = last_push b.arrays s

-- what a fresh register or array is
pub record IsFresh (b : Netlist) (n : Net) (w : ℕ) : Type 0 where
  pub net : IsNet b n
  pub register : IsRegister b n
  pub width_is : net_width b n ≡ w
  pub free : IsFree b (OfNet n)

pub fresh : (old new : Netlist) (n : Net) (k w : ℕ) → IsDraft old → new ≡ with_reg old w → n ≡ Reg k → k ≡ length old.regs → IsFresh new n w
fresh old new n k w draft e is at =
    let here : IsFresh (with_reg old w) (Reg (length old.regs)) w = record { net = last_net old w; register = last_register old w; width_is = last_width old w; free = reg_free old w draft } in
    subst (λ (b : Netlist). IsFresh b n w) (sym e) (subst (λ (x : Net). IsFresh (with_reg old w) x w) (sym (is ∙ ap (λ z. Reg z) at)) here)
