use Rattle.std.proofs.Common.{◌≡◌, ℕ, ◌<◌, Some}
use Rattle.std.specs.Prelude.{slice_get}
use Rattle.edge_select.specs.declared.frame_tests.Test.{Test}
use Rattle.edge_select.proofs.frame_tests.test_in.Given as goal

-- none of the tests so far is the one
abbrev pub invariant-loop-k : goal.invariant-loop-k
invariant-loop-k l = (j : ℕ) (t : Test) → j < l.k → slice_get l.tests j ≡ Some t → t.start ≡ l.start → t.band ≡ l.band → ⊥
