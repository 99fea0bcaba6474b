use Rattle.std.proofs.Common.{◌∙◌, ◌≡◌, ◌++◌, ◌∷◌, [], List, length, length-append, sym, ap, subst, arith}
use Rattle.type_faults.specs.declared.found.FoundFault.{FoundFault}
use Rattle.type_faults.proofs.Ordered.{AreUpTo, more}
use Rattle.type_faults.proofs.faults.type_faults.Goals as goal

pub faults-preserved : goal.faults-preserved
faults-preserved c =
    let old = c.faults.found.items in
    let items : c.push-in-faults.new.self.items ≡ old ++ c.in-Some.next.found ∷ [] = c.in_ok-push-2.ensures.items in
    let count = c.len.ensures ∙ c.faults.found.ok.0 in
    let test = c.faults-test.true in
    let long : length c.push-in-faults.new.self.items ≡ length (old ++ c.in-Some.next.found ∷ []) = ap (λ (x : List FoundFault). length x) items in
    let one = length-append old (c.in-Some.next.found ∷ []) in
    record {
      few = omega (arith, count, test, long, one);
      upto = subst (λ (x : List FoundFault). AreUpTo c.args.first c.in-Some.next.found.fault.span.start x) (sym items)
          (more c.args.first c.faults.last old c.in-Some.next.found c.faults.invariant.upto (rw c.in-Some.is at c.in_ok-next.ensures));
    }
