-- How many live reads a leaf may mean, and what lies over the taps of reads.
use Rattle.std.proofs.Common.{◌≡◌, ◌⊎◌, ℕ, zero, suc, ◌<◌, ◌≤◌, Bool, List, [], ◌∷◌, ◌++◌, Option, Some, None, IfSome, refl, sym, subst, arith, inl, inr}
use Rattle.std.specs.Prelude.{Contains, All}
use Rattle.std.proofs.lemmas.List.Elements.{All-append}
use Rattle.dk_base.specs.declared.stencils.LiveRead.{LiveRead}
use Rattle.dk_base.specs.Frames.{Size}
use Rattle.wiring.specs.declared.right.Atom.{Atom}
use Rattle.wiring.specs.declared.right.Atom.TheVariants as atom
use Rattle.wiring.specs.declared.right.Right.TheVariants.{Choose}
use Rattle.wiring.specs.declared.netlist.Net.{Net}
use Rattle.wiring.specs.declared.netlist.Holder.{Holder}
use Rattle.wiring.specs.declared.netlist.Holder.TheVariants.{OfNet}
use Rattle.wiring.specs.Netlist.{Netlist}
use Rattle.wiring.specs.BufferBits.{atom_reads}
use Rattle.net_build.specs.Includes.{Includes}
use Rattle.net_build.specs.Depth.{IsWithin, AreWithin, IsOver}
use Rattle.net_build.specs.Logic.{IsGate}
use Rattle.net_build.proofs.Depth.{within_more, within_net, within_constant}
use Rattle.buffer_plan.specs.Plans.{Plan}
use Rattle.circuit.specs.Leaves.{LeafRead}
use Rattle.circuit.specs.Reads.{atom_of_choice, choice_nets}
use Rattle.circuit.specs.Depths.{MayMean, MeansAtMost, IsOverTaps}

module _ (size : Size) (leaf : LeafRead) where
  pub most_more : (reads : List LiveRead) (n m : ℕ) → n ≤ m → MeansAtMost size leaf reads n → MeansAtMost size leaf reads m
  most_more [] n m le is = tt
  most_more (q ∷ reads) n m le (inl (other, rest)) = inl (other, most_more reads n m le rest)
  most_more (q ∷ reads) n m le (inr (k, less, rest)) = inr (k, (let g : k < m = omega (arith, le, less) in g), rest)

  -- of reads and a last one
  pub most_last : (reads : List LiveRead) (r : LiveRead) (n : ℕ) → MeansAtMost size leaf (reads ++ r ∷ []) n → ((MayMean size leaf r → ⊥) × MeansAtMost size leaf reads n) ⊎ ((k : ℕ) × (k < n) × MeansAtMost size leaf reads k)
  most_last [] r n is = is
  most_last (q ∷ reads) r n (inl (other, rest)) = elim (most_last reads r n rest) [
    | inl (last, more) ↦ inl (last, inl (other, more))
    | inr (k, less, more) ↦ inr (k, less, inl (other, more))
  ]
  most_last (q ∷ reads) r n (inr (j, less, rest)) = elim (most_last reads r j rest) [
    | inl (last, more) ↦ inl (last, inr (j, less, more))
    | inr (k, below, more) ↦ inr (suc k, (let g : suc k < n = omega (arith, less, below) in g), inr (k, omega arith, more))
  ]

  pub most_fewer : (reads : List LiveRead) (r : LiveRead) (n : ℕ) → MeansAtMost size leaf (reads ++ r ∷ []) n → MeansAtMost size leaf reads n
  most_fewer reads r n is = elim (most_last reads r n is) [
    | inl (last, more) ↦ more
    | inr (k, less, more) ↦ most_more reads k n (omega (arith, less)) more
  ]

-- as the netlist grows
pub over_taps_more : (c b first : Netlist) (plan : Plan) (taps : List (List Net)) (reads : List LiveRead) (k : ℕ) (n : Net) → Includes c b → IsOverTaps b first plan taps reads k n → IsOverTaps c first plan taps reads k n
over_taps_more c b first plan taps reads k n f is base j has least own = within_more c b base f (is base j has least own)

-- the gate of a choice between a tap and what was chosen before
pub chosen_over : (new b : Netlist) (test tap : Net) (o : Option Net) (bits : ℕ) (rest : Atom Net) (n : Net) → Includes new b → rest ≡ atom_of_choice bits o → IsGate new b (Choose (atom.Net test) (atom.Net tap) rest) n → IsOver new b 1 (test ∷ (tap ∷ choice_nets o)) n
chosen_over new b test tap o bits rest n grows e g base j all =
    g.within base j (All-append (IsWithin new base j) (OfNet test ∷ (OfNet tap ∷ [])) (atom_reads rest)
    (All-append (IsWithin new base j) (OfNet test ∷ []) (OfNet tap ∷ []) (within_net new base j test (later test (0, omega arith, refl))) (within_net new base j tap (later tap (1, omega arith, refl))))
    (of_rest o rest e later))
  where
    later : (x : Net) → Contains (test ∷ (tap ∷ choice_nets o)) x → IsWithin new base j (OfNet x)
    later x has = within_more new b base grows (all x has)

    of_rest : (o : Option Net) (rest : Atom Net) → rest ≡ atom_of_choice bits o → ((x : Net) → Contains (test ∷ (tap ∷ choice_nets o)) x → IsWithin new base j (OfNet x)) → All (IsWithin new base j) (atom_reads rest)
    of_rest None rest e each = within_constant new base j rest (record { width = bits; value = 0 }) e
    of_rest (Some m) rest e each = subst (λ (a : Atom Net). All (IsWithin new base j) (atom_reads a)) (sym e) (within_net new base j m (each m (2, omega arith, refl)))

-- a test, a tap and a choice that are within some number
pub all_within : (b : Netlist) (base : Holder → Bool) (j : ℕ) (test tap : Net) (o : Option Net) → IsWithin b base j (OfNet test) → IsWithin b base j (OfNet tap) → IfSome o (λ n. IsWithin b base j (OfNet n)) → AreWithin b base j (test ∷ (tap ∷ choice_nets o))
all_within b base j test tap o t p rest n (zero, lt, e) = subst (λ (x : Net). IsWithin b base j (OfNet x)) e t
all_within b base j test tap o t p rest n (suc zero, lt, e) = subst (λ (x : Net). IsWithin b base j (OfNet x)) e p
all_within b base j test tap None t p rest n (suc (suc k), lt, e) = absurd (let f : ⊥ = omega (arith, lt) in f)
all_within b base j test tap (Some x) t p rest n (suc (suc zero), lt, e) = subst (λ (y : Net). IsWithin b base j (OfNet y)) e rest
all_within b base j test tap (Some x) t p rest n (suc (suc (suc k)), lt, e) = absurd (let f : ⊥ = omega (arith, lt) in f)
