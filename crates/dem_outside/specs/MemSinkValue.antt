-- A sink over memory: which of its puts fail, and how much of its piece each put takes.
use Rattle.std.specs.Prelude.{ℕ, List, length, min, ◌+◌, ◌-◌, ◌≤◌, ◌==◌, ◌++◌, find, take, Option, None, Some, nat_le, if◌then◌else◌, IsNone, Bool}
use Rattle.dem_outside.specs.Faults.{next_of}
use Rattle.dem_outside.specs.declared.mem_sink.Fail.{Fail}

-- a sink over memory, as callers see it
pub record MemSinkValue : Type 0 where
  -- the bytes that it holds
  pub held : List ℕ
  -- how many bytes it may hold
  pub room : ℕ
  -- the puts that fail, with the most that each takes
  pub fails : List Fail
  -- how many puts were made
  pub made : ℕ
  pub faults : ℕ

-- the failure that the next put was told of, if any: the first entry with its number
abbrev pub failure_of : MemSinkValue → Option Fail
failure_of s = find (λ f. f.call == next_of s.made) s.fails

-- how many more bytes the sink may hold
abbrev pub left_in : MemSinkValue → ℕ
left_in s = s.room - length s.held

-- how many bytes of a piece of this length a put takes that was told of this failure
abbrev pub prefix_of : MemSinkValue → Option Fail → ℕ → ℕ
prefix_of s (Some f) n = min (min f.take n) (left_in s)
prefix_of s None n = if nat_le n (left_in s) then n else 0

-- how many bytes of this piece the next put takes
abbrev pub taken_of : MemSinkValue → List ℕ → ℕ
taken_of s piece = prefix_of s (failure_of s) (length piece)

-- the next put is Ok: no failure was told of it, and there is room
abbrev pub TakesNext : MemSinkValue → List ℕ → Type 0
TakesNext s piece = IsNone (failure_of s) × (length piece ≤ left_in s)

-- the sink after a put that took the whole piece
abbrev pub after_put : MemSinkValue → List ℕ → MemSinkValue
after_put s piece = record s { held = s.held ++ piece; made = next_of s.made }

-- the sink after a put that failed
abbrev pub after_fault : MemSinkValue → List ℕ → MemSinkValue
after_fault s piece = record s { held = s.held ++ take (taken_of s piece) piece; made = next_of s.made; faults = next_of s.faults }
