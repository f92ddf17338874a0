-- A source over memory: which of its reads fail, and what a read that doesn't fail gives.
use Rattle.std.specs.Prelude.{ℕ, List, length, min, Contains, drop}
use Rattle.dem_outside.specs.Faults.{next_of}

-- a source over memory, as callers see it
pub record MemSourceValue : Type 0 where
  -- the bytes that are left
  pub left : List ℕ
  -- the most that one read gives
  pub piece : ℕ
  -- the numbers of the reads that fail
  pub fails : List ℕ
  -- how many reads were made
  pub made : ℕ
  pub faults : ℕ

-- the next read is one of those that fail
abbrev pub FailsNext : MemSourceValue → Type 0
FailsNext s = Contains s.fails (next_of s.made)

-- how many bytes a read into this room gives
abbrev pub given_of : MemSourceValue → ℕ → ℕ
given_of s room = min (min (length s.left) room) s.piece

-- the source after a read that gave this many bytes
abbrev pub after_read : MemSourceValue → ℕ → MemSourceValue
after_read s n = record s { left = drop n s.left; made = next_of s.made }

-- the source after a read that failed
abbrev pub after_fault : MemSourceValue → MemSourceValue
after_fault s = record s { made = next_of s.made; faults = next_of s.faults }
