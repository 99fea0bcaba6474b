-- Which calls of a desk fail, if it specifies that.
use Rattle.std.specs.Prelude.{ℕ, ◌+◌, ◌-◌, ◌^◌, ◌==◌, ◌||◌, Bool, false, List, length, Option, None, Some, is_none, min, nat_le, nat_lt, if◌then◌else◌}
use Rattle.std.specs.Option.{option_map}
use Rattle.std.specs.List.{list_any}
use Rattle.dk_desk.specs.Outside.{Outside}
use Rattle.dk_desk.specs.Calls.{Call, opening, reading, creating, writing}

-- When calls are to fail.
pub record Schedule : Type 0 where
  -- the numbers of the calls that are to fail, counted from 0 over those that can fail
  pub failing : List ℕ
  -- how many such calls were made; it stays at its last value
  pub calls : ℕ
  -- the most bytes in one call
  pub piece : ℕ
  -- the room that is left for names and outputs
  pub room : ℕ
  -- how many notes there is room for, with those that are kept
  pub most_notes : ℕ

-- What a desk specifies of its failures: nothing, that no call fails, or by which schedule.
pub data Failures : Type 0 where
  unknown : Failures
  never : Failures
  scheduled : Schedule → Failures

-- the number of this call is in the list
abbrev pub is_listed : Schedule → Bool
is_listed s = list_any (λ n. n == s.calls) s.failing

-- the call asks for more than there is, where the files are specified or it opens none
abbrev pub lacks : Schedule → Outside → Call → Option Bool
lacks s o (opening name) = option_map (λ (files : List ℕ → Option (List ℕ)). is_none (files name) || nat_lt s.room (length name)) o.files
lacks s o reading = Some false
lacks s o (creating name) = Some (nat_lt s.room (length name))
lacks s o (writing count) = Some (nat_lt s.room (min count s.piece))

-- whether the call fails if it is made now, if that is specified
abbrev pub fails_now : Failures → Outside → Call → Option Bool
fails_now unknown o call = None
fails_now never o call = Some false
fails_now (scheduled s) o call = option_map (λ lacking. is_listed s || lacking) (lacks s o call)

-- the room that is left once so much is kept; what finds no room is not kept
abbrev pub spend : ℕ → ℕ → ℕ
spend count room = if nat_le count room then room - count else room

-- the room that is left after a call: an asked name is kept also where the call fails, bytes only where it answers Ok
abbrev pub room_after : Schedule → Call → Bool → ℕ
room_after s (opening name) ok = spend (length name) s.room
room_after s reading ok = s.room
room_after s (creating name) ok = spend (length name) s.room
room_after s (writing count) ok = if ok then spend (min count s.piece) s.room else s.room

-- what is specified after a call that answered Ok or not
abbrev pub after : Failures → Call → Bool → Failures
after unknown call ok = unknown
after never call ok = never
after (scheduled s) call ok = scheduled (record s { calls = min (s.calls + 1) (2 ^ 64 - 1); room = room_after s call ok })

-- the most bytes in one call, if that is specified
abbrev pub piece_of : Failures → Option ℕ
piece_of unknown = None
piece_of never = None
piece_of (scheduled s) = Some s.piece

-- whether an asked name finds room and is specified from then on, if that is specified
abbrev pub keeps_name : Failures → List ℕ → Option Bool
keeps_name unknown name = None
keeps_name never name = None
keeps_name (scheduled s) name = Some (nat_le (length name) s.room)

-- whether one note more is kept, if that is specified
abbrev pub keeps_note : Failures → Option (List (Bool × ℕ)) → Option Bool
keeps_note unknown notes = None
keeps_note never notes = None
keeps_note (scheduled s) None = Some false
keeps_note (scheduled s) (Some notes) = Some (nat_lt (length notes) s.most_notes)
