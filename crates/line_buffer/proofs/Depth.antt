-- Logic depth of an index, and of a place before it.
use Rattle.std.proofs.Common.{◌≡◌, ℕ, ◌+◌, Bool, List, [], ◌∷◌, ◌++◌, sym, subst, arith}
use Rattle.std.specs.Prelude.{All}
use Rattle.std.proofs.lemmas.List.Elements.{All-append}
use Rattle.wiring.specs.Sizes.{SizedNumber}
use Rattle.wiring.specs.declared.right.Atom.{Atom}
use Rattle.wiring.specs.declared.right.Atom.TheVariants as atom
use Rattle.wiring.specs.declared.right.Operator.TheVariants.{Add, Subtract, Less}
use Rattle.wiring.specs.declared.right.Right.TheVariants.{Binary, Choose}
use Rattle.wiring.specs.declared.netlist.Net.{Net}
use Rattle.wiring.specs.declared.netlist.Holder.{Holder}
use Rattle.wiring.specs.declared.netlist.Holder.TheVariants.{OfNet}
use Rattle.wiring.specs.BufferBits.{atom_reads}
use Rattle.wiring.specs.Netlist.{Netlist}
use Rattle.net_build.specs.Includes.{Includes}
use Rattle.net_build.specs.Control.{is_control}
use Rattle.net_build.specs.Depth.{IsWithin, AreWithin, IsOver}
use Rattle.net_build.specs.Logic.{IsGate}
use Rattle.net_build.proofs.Parts.{Includes-trans}
use Rattle.net_build.proofs.Depth.{within_more, within_deeper, within_net, within_constant}
use Rattle.net_build.proofs.Logic.{first_in}

-- as the netlist grows
pub index_within_more : (b a : Netlist) (k : ℕ) (n : Net) → Includes b a → IsWithin a (is_control a.enable) k (OfNet n) → IsWithin b (is_control b.enable) k (OfNet n)
index_within_more b a k n f is = subst (λ (e : Bool). IsWithin b (is_control e) k (OfNet n)) (sym f.enable) (within_more b a (is_control a.enable) f is)

-- the place of an age: the sum or the difference, by a comparison
module _ (b0 b1 b2 b3 b4 : Netlist) (index low up down place : Net) (aged rest again : Atom Net) (age more less : SizedNumber) (f1 : Includes b1 b0) (f2 : Includes b2 b1) (f3 : Includes b3 b2) (f4 : Includes b4 b3) (aged_is : aged ≡ atom.Constant age) (rest_is : rest ≡ atom.Constant more) (again_is : again ≡ atom.Constant less) where
  index_reads : (b : Netlist) (base : Holder → Bool) (j : ℕ) → Includes b b0 → AreWithin b0 base j (index ∷ []) → All (IsWithin b base j) (atom_reads (atom.Net index))
  index_reads b base j f all = within_net b base j index (within_more b b0 base f (all index (first_in index [])))

  f20 : Includes b2 b0
  f20 = Includes-trans b2 b1 b0 f2 f1

  f30 : Includes b3 b0
  f30 = Includes-trans b3 b2 b0 f3 f20

  pub place_over : IsGate b1 b0 (Binary Less (atom.Net index) aged) low → IsGate b2 b1 (Binary Add (atom.Net index) rest) up → IsGate b3 b2 (Binary Subtract (atom.Net index) again) down → IsGate b4 b3 (Choose (atom.Net low) (atom.Net up) (atom.Net down)) place → IsOver b4 b0 2 (index ∷ []) place
  place_over g1 g2 g3 g4 base j all =
      let low_is : IsWithin b1 base (1 + j) (OfNet low) = g1.within base j (All-append (IsWithin b1 base j) (atom_reads (atom.Net index)) (atom_reads aged) (index_reads b1 base j f1 all) (within_constant b1 base j aged age aged_is)) in
      let up_is : IsWithin b2 base (1 + j) (OfNet up) = g2.within base j (All-append (IsWithin b2 base j) (atom_reads (atom.Net index)) (atom_reads rest) (index_reads b2 base j f20 all) (within_constant b2 base j rest more rest_is)) in
      let down_is : IsWithin b3 base (1 + j) (OfNet down) = g3.within base j (All-append (IsWithin b3 base j) (atom_reads (atom.Net index)) (atom_reads again) (index_reads b3 base j f30 all) (within_constant b3 base j again less again_is)) in
      let reads : Net → List Holder = λ n. atom_reads (atom.Net n) in
      within_deeper (omega arith)
      (g4.within base (1 + j) (All-append (IsWithin b4 base (1 + j)) (reads low ++ reads up) (reads down)
      (All-append (IsWithin b4 base (1 + j)) (reads low) (reads up) (within_net b4 base (1 + j) low (within_more b4 b1 base f41 low_is)) (within_net b4 base (1 + j) up (within_more b4 b2 base f42 up_is)))
      (within_net b4 base (1 + j) down (within_more b4 b3 base f4 down_is))))
    where
      f42 : Includes b4 b2
      f42 = Includes-trans b4 b3 b2 f4 f3

      f41 : Includes b4 b1
      f41 = Includes-trans b4 b2 b1 f42 f2
