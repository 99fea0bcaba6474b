use Rattle.std.proofs.Common.{◌≡◌, length, drop, sym, subst, rules}
use Rattle.std.proofs.lemmas.List.{take_at}
use Rattle.raster_delay.specs.Systems.{AreEarliestNumbers}
use Rattle.raster_delay.proofs.numbers.earliest_numbers.Goals as goal

pub returns : goal.returns
returns c =
    let new = c.raise_numbers.new.numbers in
    let size : length new ≡ c.in_ok-numbers.numbers.len = search rules in
    subst (AreEarliestNumbers c.args.system.now) (sym (take_at new (drop (length new) c.in_ok-numbers.numbers.items) c.in_ok-numbers.numbers.len size)) c.raise_numbers.ensures
