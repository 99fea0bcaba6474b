-- Frame tests that grow with a module.
use Rattle.wiring.specs.Netlist.{Netlist}
use Rattle.net_build.specs.Logic.{AddsLogic}
use Rattle.edge_select.specs.declared.frame_tests.FrameTests.{FrameTests}
use Rattle.edge_select.specs.FrameTests.{AreFrameTests}
use Rattle.edge_select.proofs.Framed.{tests_more}
use Rattle.buffer_plan.specs.Plans.{Plan}
use Rattle.circuit.specs.Taps.{size_in}
use Rattle.circuit.specs.Registers.{Condition}
use Rattle.circuit.specs.Growing.{GrowFor}
use Rattle.circuit.proofs.Placing.{tests_none, tests_logic, tests_on}
use Rattle.circuit.proofs.Registered.{needed_none, needed_by, needed_on, needed_then}

-- nothing is added
pub grow_none : (b : Netlist) (t : FrameTests) (plan : Plan) (P : Condition → Type 0) → AreFrameTests b (size_in plan) t → GrowFor b b t t plan P
grow_none b t plan P is = record { adds = tests_none b t; tests = is; needed = needed_none b t plan P }

-- for more conditions
pub grow_by : (b a : Netlist) (j i : FrameTests) (plan : Plan) (P Q : Condition → Type 0) → ((c : Condition) → P c → Q c) → GrowFor b a j i plan P → GrowFor b a j i plan Q
grow_by b a j i plan P Q more is = record { adds = is.adds; tests = is.tests; needed = needed_by b a j i plan P Q more is.needed }

-- and then wires
pub grow_then : (c b a : Netlist) (j i : FrameTests) (plan : Plan) (P : Condition → Type 0) → GrowFor b a j i plan P → AddsLogic c b → GrowFor c a j i plan P
grow_then c b a j i plan P is logic = record {
  adds = tests_logic c b a j i is.adds logic;
  tests = tests_more c b (size_in plan) j logic.includes is.tests;
  needed = needed_then c b a j i plan P is.needed logic;
}

-- one after another
pub grow_on : (c b a : Netlist) (k j i : FrameTests) (plan : Plan) (P Q R : Condition → Type 0) → GrowFor b a j i plan P → GrowFor c b k j plan Q → ((d : Condition) → P d → R d) → ((d : Condition) → Q d → R d) → GrowFor c a k i plan R
grow_on c b a k j i plan P Q R one other first second = record {
  adds = tests_on a b c i j k one.adds other.adds;
  tests = other.tests;
  needed = needed_on c b a k j i plan P Q R one.needed other.needed first second;
}
