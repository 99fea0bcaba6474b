use Rattle.std.proofs.Common.{◌<◌, ◌≤◌, ◌*◌, ◌+◌, ◌^◌, pos, length, arith, sym, ◌∙◌}
use Rattle.std.proofs.lemmas.List.Elements.{All-from_get_or}
use Rattle.raster_delay.specs.Network.{Holds, constraint_at}
use Rattle.raster_delay.proofs.Relaxing.{at_other, relax_more, relax_near, relax_holds, relax_least}
use Rattle.raster_delay.proofs.numbers.relax.Goals as goal

pub loop-i-preserved : goal.loop-i-preserved
loop-i-preserved c =
    let cs = c.args.constraints.now in
    let p = c.loop-i.numbers in
    let old = c.args.numbers.now in
    let i = c.loop-i.i in
    let y = c.max.result in
    let least = c.needed-least.result in
    let h : i < length cs = omega arith in
    let within : (constraint_at cs i).target < length p = omega (arith, c.requires.bounds.targets i (record { source = 0; target = 0; cost = pos 0 }) h, c.loop-i.auto.numbers) in
    let invariant = c.loop-i.invariant in
    let told = c.needed-least.ensures in
    record {
      near = λ m below v. omega (
        arith,
        relax_near cs p old i least y h within c.max.ensures told.enough told.least c.requires.bounds.no_return (m + i * 2 ^ 25) (invariant.near m below)
            (omega (arith, told.near, invariant.near m below (constraint_at cs i).source)) v,
      );
      holds = relax_holds cs p old i least y h within c.max.ensures told.enough told.least c.requires.bounds.no_return invariant.holds;
      least = λ d holds below. relax_least cs p old i least y h within c.max.ensures told.enough told.least c.requires.bounds.no_return d holds (invariant.least d holds below);
      more = λ v. omega (arith, relax_more cs p old i least y h within c.max.ensures told.enough told.least c.requires.bounds.no_return v, invariant.more v);
      others = λ v differs. at_other cs p old i least y h within c.max.ensures told.enough told.least c.requires.bounds.no_return v (λ e. differs i (omega arith) (sym e))
          ∙ invariant.others v (λ k le. differs k (omega arith));
    }

pub needed-least-requires-clause-number : goal.needed-least-requires-clause-number
needed-least-requires-clause-number c =
    let i : c.loop-i.i ≤ 2 ^ 14 = omega arith in
    omega (arith, i, c.loop-i.invariant.near (2 ^ 41) c.requires.numbers (constraint_at c.args.constraints.now c.loop-i.i).source)

pub returns : goal.returns
returns c =
    let end : length c.args.constraints.now ≤ c.loop-i.i = omega arith in
    record {
      holds = All-from_get_or (Holds c.loop-i.numbers) c.args.constraints.now (record { source = 0; target = 0; cost = pos 0 }) (λ k h. c.loop-i.invariant.holds k (omega arith));
      least = c.loop-i.invariant.least;
      more = c.loop-i.invariant.more;
      others = λ v differs. c.loop-i.invariant.others v (λ k le. differs k (omega arith));
      near = λ m below v. omega (arith, c.loop-i.invariant.near m below v);
    }
