use Rattle.std.proofs.Common.{◌≡◌, refl, length, ◌++◌, arith, true}
use Rattle.std.proofs.lemmas.Option.{slice_get_read}
use Rattle.net_names.specs.Words.{is_name}
use Rattle.netlist.specs.declared.parts.Declaration.{Declaration}
use Rattle.netlist.specs.Scopes.{declared_entries}
use Rattle.netlist.specs.Entries.{names_in, meaning_of, IsSecondDeclaration}
use Rattle.netlist.specs.Faults.{IsErrorBy}
use Rattle.netlist.proofs.Declaring.{if_err, declaration_taken, declaration_grows, length_grows, wires_few, regs_few, arrays_few}
use Rattle.netlist.proofs.Resolving.{before_step, before_end}
use Rattle.netlist.proofs.declare.add_declarations.Goals as goal

pub returns-in_err-add-clause-fault : goal.returns-in_err-add-clause-fault
returns-in_err-add-clause-fault c =
    let at = slice_get_read c.args.declarations.now (length c.args.declarations.now) c.loop-k.k c.index-declarations-k.result refl c.loop-k-test.true c.index-declarations-k.is in
    if_err (IsErrorBy (IsSecondDeclaration (names_in (c.args.scope.now ++ declared_entries 0 0 0 c.args.declarations.now)) (length c.args.scope.now))) c.from_residual.result c.in_err-add.field-0.0 c.from_residual.ensures.1
    (declaration_taken c.loop-k.scope (c.args.scope.now ++ declared_entries 0 0 0 c.args.declarations.now) c.as_bytes.result.now c.args.declarations.now (length c.args.scope.now) c.loop-k.k c.loop-k.counts.wires c.loop-k.counts.regs c.loop-k.counts.arrays c.index-declarations-k.result at c.as_bytes.ensures.bytes c.loop-k.invariant.whole c.loop-k.invariant.size c.in_err-add.field-0.0 c.in_err-add.ensures)

pub loop-k-preserved : goal.loop-k-preserved
loop-k-preserved c =
    let at = slice_get_read c.args.declarations.now (length c.args.declarations.now) c.loop-k.k c.index-declarations-k.result refl c.loop-k-test.true c.index-declarations-k.is in
    record {
      whole = declaration_grows c.loop-k.scope c.add.new.self (c.args.scope.now ++ declared_entries 0 0 0 c.args.declarations.now) c.as_bytes.result.now (meaning_of c.sort_stands-stands.result) c.args.declarations.now c.loop-k.k
          c.loop-k.counts.wires c.loop-k.counts.regs c.loop-k.counts.arrays c.counts_after-counts.result.wires c.counts_after-counts.result.regs c.counts_after-counts.result.arrays c.index-declarations-k.result at c.as_bytes.ensures.bytes c.sort_stands-stands.ensures
          c.counts_after-counts.ensures.wires c.counts_after-counts.ensures.regs c.counts_after-counts.ensures.arrays c.loop-k.invariant.whole c.in_ok-add.ensures;
      size = length_grows c.loop-k.scope c.add.new.self _ (length c.args.scope.now) c.loop-k.k c.in_ok-add.ensures c.loop-k.invariant.size;
      wires = wires_few c.index-declarations-k.result.sort c.loop-k.counts.wires c.counts_after-counts.result.wires c.loop-k.k c.counts_after-counts.ensures.wires c.loop-k.invariant.wires;
      regs = regs_few c.index-declarations-k.result.sort c.loop-k.counts.regs c.counts_after-counts.result.regs c.loop-k.k c.counts_after-counts.ensures.regs c.loop-k.invariant.regs;
      arrays = arrays_few c.index-declarations-k.result.sort c.loop-k.counts.arrays c.counts_after-counts.result.arrays c.loop-k.k c.counts_after-counts.ensures.arrays c.loop-k.invariant.arrays;
      names = before_step (λ (d : Declaration). is_name d.name ≡ true) c.args.declarations.now c.loop-k.k c.index-declarations-k.result at c.as_bytes.ensures.name c.loop-k.invariant.names;
    }

pub returns-clause-names : goal.returns-clause-names
returns-clause-names c = before_end (λ (d : Declaration). is_name d.name ≡ true) c.args.declarations.now c.loop-k.k (omega arith) c.loop-k.invariant.names
