-- What a solution of a system is.
use Rattle.std.specs.Prelude.{◌≡◌, ℕ, pos, ◌+◌, ◌^◌, ◌<◌, ◌≤◌, List, length, slice_index, All}
use Rattle.raster_delay.specs.Network.{Holds, IsComplementary}
use Rattle.raster_delay.specs.Delays.{AreNear}
use Rattle.raster_delay.specs.Systems.{System, IsCausal, IsBalanced, image_count, nodes, constraints_in, bits, depth, worth_of}
use Rattle.flow_dual.specs.declared.solution.Solution.{Solution}

-- Causal delays of least bits, of which each is as small as in any other of least bits.
pub record IsLeastVector (s : System) (d : List ℕ) : Type 0 where
  pub causal : IsCausal s d
  pub least_bits : (e : List ℕ) → IsCausal s e → bits s d ≤ bits s e
  pub least : (e : List ℕ) → IsCausal s e → bits s e ≡ bits s d → (k : ℕ) → k < image_count s → slice_index d k ≤ slice_index e k

-- the least vector, each delay with its depth as an end, and a flow whose worth is the bits
pub record IsSolution (s : System) (x : Solution) : Type 0 where
  pub vector : IsLeastVector s x.delays
  pub ends_are : (k : ℕ) → k < image_count s → slice_index x.ends k ≡ slice_index x.delays k + depth s x.delays k
  pub one_end_each : length x.ends ≡ image_count s
  pub balanced : IsBalanced s x.flow
  pub worth_is : worth_of s x.flow ≡ pos (bits s x.delays)
  pub near : AreNear x.delays

-- Numbers of the nodes that keep the constraints of a system, and a flow of nothing.
pub record IsStart (s : System) (p flow : List ℕ) : Type 0 where
  -- there is a number of each node
  pub nodes_are : length p ≡ nodes s
  -- there is a flow on each constraint
  pub flows : length flow ≡ length (constraints_in s)
  -- all are 0
  pub empty : (i : ℕ) → slice_index flow i ≡ 0
  -- no number is great
  pub numbers : (v : ℕ) → slice_index p v ≤ 2 ^ 41
  -- they keep each constraint
  pub holds : All (Holds p) (constraints_in s)

-- Numbers of the nodes that show a flow to be of the greatest worth.
pub record IsGreatest (s : System) (p flow : List ℕ) : Type 0 where
  -- no number is great
  pub numbers : (v : ℕ) → slice_index p v < 2 ^ 60
  -- they keep each constraint
  pub holds : All (Holds p) (constraints_in s)
  -- the flow is only on tight constraints
  pub carries : IsComplementary (constraints_in s) flow p
  -- the flow is balanced
  pub balanced : IsBalanced s flow

-- numbers of the nodes and a flow: the numbers keep the constraints, the flow is balanced and only on tight constraints, and the numbers are the least that suit it
pub record IsOptimum (s : System) (p flow : List ℕ) : Type 0 where
  pub one_each : length p ≡ nodes s
  pub inputs_at_once : slice_index p 0 ≡ 0
  pub holds : All (Holds p) (constraints_in s)
  pub carries : IsComplementary (constraints_in s) flow p
  pub balanced : IsBalanced s flow
  pub least : (d : List ℕ) → All (Holds d) (constraints_in s) → IsComplementary (constraints_in s) flow d → (v : ℕ) → v < nodes s → slice_index p v ≤ slice_index d v
  pub near : AreNear p
