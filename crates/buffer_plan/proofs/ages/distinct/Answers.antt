use Rattle.std.proofs.Common.{◌≡◌, Contains, eqb, sym, subst}
use Rattle.std.specs.List.{dedup}
use Rattle.std.specs.List.Sorted.{IsStrictlyIncreasing}
use Rattle.std.proofs.lemmas.List.Filters.{dedup_is}
use Rattle.std.proofs.lemmas.List.Kept.{Contains-dedup_nat, Contains-from_dedup}
use Rattle.std.proofs.lemmas.List.Sorted.{Contains-permutation, IsPermutation-sym}
use Rattle.std.proofs.lemmas.Map.Keys.{IsStrictlyIncreasing-dedup}
use Rattle.buffer_plan.proofs.ages.distinct.Goals as goal

pub returns : goal.returns
returns c =
    let sorted = c.sort_unstable.new.self.items in
    let is : c.dedup.new.self.items ≡ dedup eqb sorted = dedup_is eqb sorted c.dedup.new.self.items c.dedup.ensures.filtered in
    let perm = c.sort_unstable.ensures.permutation in
    let all = c.args.numbers.items in
    record {
      ascending = subst IsStrictlyIncreasing (sym is) (IsStrictlyIncreasing-dedup sorted c.sort_unstable.ensures.sorted);
      same = λ a. (
        λ has. Contains-permutation sorted all a (IsPermutation-sym all sorted perm) (Contains-from_dedup eqb sorted a (subst (λ xs. Contains xs a) is has)),
        λ has. subst (λ xs. Contains xs a) (sym is) (Contains-dedup_nat sorted a (Contains-permutation all sorted a perm has)),
      );
    }
