-- Inputs that a line parts: a scene before the mark, and what is read beside it behind the mark.
use Rattle.std.specs.Prelude.{ℕ, ◌+◌, ◌-◌, ◌==◌, ◌&&◌, ◌||◌, Bool, List, length, take, drop, get_or, find, nat_lt, nat_le, Option, None, Some, if◌then◌else◌}
use Rattle.std.specs.List.{range_with_len}
use Rattle.std.specs.Str.{bytes_eq}
use Rattle.dem_model.specs.SceneValue.{SceneValue}
use Rattle.dem_model.specs.ReadingScene.{scene_from}
use Rattle.dem_jobs.specs.declared.reading.TheConstants.{MAX_INPUT}
use Rattle.dem_jobs.specs.Verdicts.{Verdict, Refused, on_scene, too_long_text}

-- ---- the mark

-- whether a line begins at this place: at the beginning, or behind a newline
unfoldable pub begins_line : List ℕ → ℕ → Bool
begins_line bytes i = (i == 0) || (get_or bytes (i - 1) 0 == 10)

-- whether a line ends at this place: at a newline, or at the end
unfoldable pub ends_line : List ℕ → ℕ → Bool
ends_line bytes i = nat_le (length bytes) i || (get_or bytes i 0 == 10)

-- whether the line at this place is exactly the mark
unfoldable pub is_mark_at : (mark bytes : List ℕ) → ℕ → Bool
is_mark_at mark bytes i = begins_line bytes i && (bytes_eq mark (take (length mark) (drop i bytes)) && ends_line bytes (i + length mark))

-- the place of the first line that is the mark, where there is one
unfoldable pub mark_in : (mark bytes : List ℕ) → Option ℕ
mark_in mark bytes = find (is_mark_at mark bytes) (range_with_len 0 (length bytes + 1))

-- what stands behind the line of the mark at this place; nothing where the input ends with it
abbrev pub behind : (mark bytes : List ℕ) → ℕ → List ℕ
behind mark bytes i = drop (i + (length mark + 1)) bytes

-- ---- the whole

-- what the text of a scene and what is read beside it come to
abbrev pub Meaning : Type 0
Meaning = (text beside : List ℕ) → SceneValue → Verdict

-- an input without the mark is refused with this line; else the scene is what stands before the mark, and beside it is read what stands behind it
abbrev pub by_mark : (mark missing : List ℕ) → Meaning → List ℕ → Option ℕ → Verdict
by_mark mark missing f bytes None = Refused 2 missing
by_mark mark missing f bytes (Some i) = on_scene (f (take i bytes) (behind mark bytes i)) (scene_from (take i bytes))

-- what an input comes to that this mark parts
unfoldable pub parted : (mark missing : List ℕ) → Meaning → List ℕ → Verdict
parted mark missing f bytes = if nat_lt MAX_INPUT (length bytes) then Refused 2 too_long_text else by_mark mark missing f bytes (mark_in mark bytes)
