use Rattle.std.proofs.Common.{◌≡◌, ◌++◌, drop}
use Rattle.net_build.specs.Draft.{flat}
use Rattle.net_build.proofs.finish.sources.Given as goal

-- the nets so far with those to come
abbrev pub invariant-loop-valid : goal.invariant-loop-valid
invariant-loop-valid l = l.nets.items ++ flat (drop l.valid-index l.outs) ≡ flat l.outs
