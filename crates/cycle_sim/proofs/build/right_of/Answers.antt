use Rattle.std.proofs.Common.{◌≡◌, ℕ, ◌++◌, refl, sym, subst}
use Rattle.std.specs.Prelude.{All}
use Rattle.wiring.specs.declared.netlist.Net.{Net}
use Rattle.wiring.specs.declared.right.Right.{Right}
use Rattle.wiring.specs.declared.right.Right.TheVariants.{Binary, Choose, Join}
use Rattle.wiring.specs.Rights.{nets_of, atom_nets}
use Rattle.wiring.specs.Netlist.{IsDeclared}
use Rattle.wiring.proofs.Lists.{All-left, All-right}
use Rattle.cycle_sim.specs.Slots.{slot, rename}
use Rattle.cycle_sim.proofs.build.right_of.Goals as goal

pub returns-in-Binary : goal.returns-in-Binary
returns-in-Binary c m layout declared =
    let d : All (IsDeclared m) (atom_nets c.in-Binary.a ++ atom_nets c.in-Binary.b) = subst (λ (r : Right Net ℕ). All (IsDeclared m) (nets_of r)) c.in-Binary.is declared in
    let ea = c.atom_of-in-Binary.ensures m layout (All-left (IsDeclared m) (atom_nets c.in-Binary.a) (atom_nets c.in-Binary.b) d) in
    let eb = c.atom_of-in-Binary-2.ensures m layout (All-right (IsDeclared m) (atom_nets c.in-Binary.a) (atom_nets c.in-Binary.b) d) in
    subst (λ (r : Right Net ℕ). ◌≡◌ {A = Right ℕ ℕ} (Binary c.in-Binary.o c.atom_of-in-Binary.result c.atom_of-in-Binary-2.result) (rename (slot m) r)) (sym c.in-Binary.is) (rw (ea, eb) refl)

pub returns-in-Choose : goal.returns-in-Choose
returns-in-Choose c m layout declared =
    let d : All (IsDeclared m) (atom_nets c.in-Choose.c ++ atom_nets c.in-Choose.a ++ atom_nets c.in-Choose.b) = subst (λ (r : Right Net ℕ). All (IsDeclared m) (nets_of r)) c.in-Choose.is declared in
    let front = All-left (IsDeclared m) (atom_nets c.in-Choose.c ++ atom_nets c.in-Choose.a) (atom_nets c.in-Choose.b) d in
    let ec = c.atom_of-in-Choose.ensures m layout (All-left (IsDeclared m) (atom_nets c.in-Choose.c) (atom_nets c.in-Choose.a) front) in
    let ea = c.atom_of-in-Choose-2.ensures m layout (All-right (IsDeclared m) (atom_nets c.in-Choose.c) (atom_nets c.in-Choose.a) front) in
    let eb = c.atom_of-in-Choose-3.ensures m layout (All-right (IsDeclared m) (atom_nets c.in-Choose.c ++ atom_nets c.in-Choose.a) (atom_nets c.in-Choose.b) d) in
    subst (λ (r : Right Net ℕ). ◌≡◌ {A = Right ℕ ℕ} (Choose c.atom_of-in-Choose.result c.atom_of-in-Choose-2.result c.atom_of-in-Choose-3.result) (rename (slot m) r)) (sym c.in-Choose.is) (rw (ec, ea, eb) refl)

pub returns-in-Join : goal.returns-in-Join
returns-in-Join c m layout declared =
    let d : All (IsDeclared m) (atom_nets c.in-Join.a ++ atom_nets c.in-Join.b) = subst (λ (r : Right Net ℕ). All (IsDeclared m) (nets_of r)) c.in-Join.is declared in
    let ea = c.atom_of-in-Join.ensures m layout (All-left (IsDeclared m) (atom_nets c.in-Join.a) (atom_nets c.in-Join.b) d) in
    let eb = c.atom_of-in-Join-2.ensures m layout (All-right (IsDeclared m) (atom_nets c.in-Join.a) (atom_nets c.in-Join.b) d) in
    subst (λ (r : Right Net ℕ). ◌≡◌ {A = Right ℕ ℕ} (Join c.atom_of-in-Join.result c.atom_of-in-Join-2.result) (rename (slot m) r)) (sym c.in-Join.is) (rw (ea, eb) refl)
