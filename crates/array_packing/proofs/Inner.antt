-- One step into a join.
use Rattle.std.proofs.Common.{◌≡◌, ℕ, ◌+◌, ◌-◌, ◌≤◌, subst, sym, arith}
use Rattle.std.specs.Prelude.{Contains}
use Rattle.wiring.specs.declared.right.Atom.{Atom}
use Rattle.wiring.specs.declared.right.Atom.TheVariants as atom
use Rattle.wiring.specs.declared.right.Right.{Right}
use Rattle.wiring.specs.declared.right.Right.TheVariants.{Join}
use Rattle.wiring.specs.declared.netlist.Net.{Net}
use Rattle.wiring.specs.Rights.{atom_width}
use Rattle.wiring.specs.Netlist.{Netlist, net_width}
use Rattle.array_packing.specs.Packing.{assign, HoldsPart, IsInner, above, below, itself}

module _ (m : Netlist) (n : Net) (r : Right Net ℕ) (a b outer : Atom Net) (low : ℕ) (there : Contains m.assigns (assign n r)) (is_join : r ≡ Join a b) (is_net : outer ≡ atom.Net n) where
  join_there : Contains m.assigns (assign n (Join a b))
  join_there = subst (λ (x : Right Net ℕ). Contains m.assigns (assign n x)) is_join there

  pub inner_below : IsInner m outer low b low
  inner_below part h = subst (λ (w : Atom Net). HoldsPart m part w low) (sym is_net) (below n a b low join_there h)

  pub inner_above : (bits : ℕ) → atom_width (net_width m) b ≡ bits → bits ≤ low → IsInner m outer low a (low - bits)
  inner_above bits width l part h =
      let e : low - bits + atom_width (net_width m) b ≡ low = omega (arith, width, l) in
      subst (λ (w : Atom Net). HoldsPart m part w low) (sym is_net) (subst (λ (k : ℕ). HoldsPart m part (atom.Net n) k) e (above n a b (low - bits) join_there h))

-- the part itself is reached
pub reached : (m : Netlist) (part whole outer : Atom Net) (low rest : ℕ) → IsInner m outer low whole rest → rest ≡ 0 → whole ≡ part → HoldsPart m part outer low
reached m part whole outer low rest inner zero same =
    inner part (subst (λ (k : ℕ). HoldsPart m part whole k) (sym zero) (subst (λ (w : Atom Net). HoldsPart m part w 0) (sym same) itself))
