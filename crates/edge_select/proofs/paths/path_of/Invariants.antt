use Rattle.std.proofs.Common.{drop}
use Rattle.dk_base.specs.FrameSizes.{size_of}
use Rattle.frame_paths.specs.Paths.{IsPath}
use Rattle.edge_select.proofs.Walks.{IsSoFar}
use Rattle.edge_select.proofs.paths.path_of.Given as goal

-- the path so far, with the steps to come
abbrev pub invariant-loop-step : goal.invariant-loop-step
invariant-loop-step l = record {
  path : IsPath (size_of l.size) l.path;
  so_far : IsSoFar (size_of l.size) l.path (drop l.step-index l.steps) l.steps;
}
