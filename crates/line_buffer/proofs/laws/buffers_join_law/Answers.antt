use Rattle.line_buffer.proofs.Adding.{adds_none, adds_logic, adds_joined}
use Rattle.line_buffer.proofs.States.{adds_register}
use Rattle.line_buffer.proofs.More.{buffer_stops, buffer_control, plain_control}
use Rattle.line_buffer.proofs.Indexed.{once_joined}
use Rattle.line_buffer.proofs.laws.buffers_join_law.Goals as goal

pub returns-clause-none : goal.returns-clause-none
returns-clause-none c = adds_none

pub returns-clause-logic : goal.returns-clause-logic
returns-clause-logic c = adds_logic

pub returns-clause-register : goal.returns-clause-register
returns-clause-register c = adds_register

pub returns-clause-joined : goal.returns-clause-joined
returns-clause-joined c = λ x b a before after copies more f g. adds_joined x b a after before more copies g f

pub returns-clause-stops : goal.returns-clause-stops
returns-clause-stops c = buffer_stops

pub returns-clause-control : goal.returns-clause-control
returns-clause-control c = buffer_control

pub returns-clause-plain : goal.returns-clause-plain
returns-clause-plain c = plain_control

pub returns-clause-once : goal.returns-clause-once
returns-clause-once c = λ x b a after copies earlier adds later. once_joined x b a after copies adds later earlier
