-- The logic depth of a counter.
use Rattle.std.proofs.Common.{◌≡◌, ℕ, Bool, List, [], ◌∷◌, ◌++◌, sym, subst}
use Rattle.std.specs.Prelude.{Contains}
use Rattle.std.proofs.lemmas.List.Elements.{All-append, Contains-append_right}
use Rattle.wiring.specs.Sizes.{SizedNumber}
use Rattle.wiring.specs.declared.right.Atom.{Atom}
use Rattle.wiring.specs.declared.right.Atom.TheVariants as atom
use Rattle.wiring.specs.declared.right.Right.TheVariants.{Choose}
use Rattle.wiring.specs.declared.netlist.Net.{Net}
use Rattle.wiring.specs.declared.netlist.Net.TheVariants.{Reg}
use Rattle.wiring.specs.declared.netlist.Holder.TheVariants.{OfNet}
use Rattle.wiring.specs.BufferBits.{atom_reads}
use Rattle.wiring.specs.Netlist.{Netlist, reset_net}
use Rattle.net_build.specs.Includes.{Includes}
use Rattle.net_build.specs.Control.{is_control}
use Rattle.net_build.specs.Counters.{control_nets}
use Rattle.net_build.specs.Depth.{IsWithin, AreWithin, IsOver, by_itself}
use Rattle.net_build.specs.Logic.{IsGate}
use Rattle.net_build.proofs.Control.{in_control}
use Rattle.net_build.proofs.Counting.{reset_in}
use Rattle.net_build.proofs.Depth.{within_more, within_net, within_constant, over_more}
use Rattle.net_build.proofs.Logic.{first_in}

-- the choice of a number in a reset clock, and else of what the register holds
pub index_over : (c b old : Netlist) (register reset index : Net) (start : Atom Net) (number : SizedNumber) → Includes b old → Includes c b → reset ≡ reset_net → start ≡ atom.Constant number → IsGate b old (Choose (atom.Net reset) start (atom.Net register)) index → IsOver c old 1 (control_nets old.enable ++ register ∷ []) index
index_over c b old register reset index start number f more reset_is start_is g = over_more c b old 1 from index more over
  where
    from : List Net
    from = control_nets old.enable ++ register ∷ []

    over : IsOver b old 1 from index
    over base j all =
        let test = within_net b base j reset (within_more b old base f (all reset (subst (Contains from) (sym reset_is) (reset_in old.enable (register ∷ []))))) in
        let held = within_net b base j register (within_more b old base f (all register (Contains-append_right (control_nets old.enable) (register ∷ []) register (first_in register [])))) in
        g.within base j (All-append (IsWithin b base j) (atom_reads (atom.Net reset) ++ atom_reads start) (atom_reads (atom.Net register)) (All-append (IsWithin b base j) (atom_reads (atom.Net reset)) (atom_reads start) test (within_constant b base j start number start_is)) held)

-- and of a register, in a netlist that grows
pub counter_depth : (c b old : Netlist) (register index : Net) (k : ℕ) → register ≡ Reg k → Includes b old → Includes c b → IsOver b old 1 (control_nets old.enable ++ register ∷ []) index → IsWithin c (is_control c.enable) 1 (OfNet index)
counter_depth c b old register index k at f more is =
    subst (λ (e : Bool). IsWithin c (is_control e) 1 (OfNet index)) (sym more.enable)
    (within_more c b (is_control b.enable) more (subst (λ (e : Bool). IsWithin b (is_control e) 1 (OfNet index)) (sym f.enable) (is (is_control old.enable) 0 each)))
  where
    each : AreWithin old (is_control old.enable) 0 (control_nets old.enable ++ register ∷ [])
    each x there = by_itself (in_control old.enable k x (subst (λ (r : Net). Contains (control_nets old.enable ++ r ∷ []) x) at there))
