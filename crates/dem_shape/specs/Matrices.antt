-- The matrices of all bodies, by clump.
use Rattle.std.specs.Prelude.{ℕ, pos, ◌≡◌, ◌<◌, ◌^◌, List, length, slice_index_or}
use Rattle.dem_num.specs.Vectors.{narrowed, no_vector}
use Rattle.dem_num.specs.Rotations.{matrix_of, EntriesWithin}
use Rattle.dem_model.specs.SceneValue.{SceneValue}
use Rattle.dem_model.specs.Centers.{body_at}
use Rattle.dem_model.specs.declared.state.Body.{Body}
use Rattle.dem_shape.specs.declared.matrices.Turn.{Turn}

-- zeros in the place of a quaternion and its matrix
abbrev pub no_turn : Turn
no_turn = record {
  q = record { a = pos 0; b = pos 0; c = pos 0; d = pos 0 };
  rows = record { x = narrowed no_vector; y = narrowed no_vector; z = narrowed no_vector };
}

-- the rows are those of the quaternion's matrix, and no entry is greater than one
pub record IsTurn (t : Turn) : Type 0 where
  pub rows : t.rows ≡ matrix_of t.q
  pub entries : EntriesWithin t.rows (2 ^ 30)

-- there is a matrix for each clump, it is that of the clump's body, and no entry is greater than one
pub record AreMatrices (s : SceneValue) (bodies : List Body) (turns : List Turn) : Type 0 where
  pub count : length turns ≡ length s.clumps
  pub each : (k : ℕ) → k < length s.clumps → (slice_index_or turns k no_turn).rows ≡ matrix_of (body_at bodies k).q
  pub small : (k : ℕ) → k < length s.clumps → EntriesWithin (slice_index_or turns k no_turn).rows (2 ^ 30)
