-- What `pack` makes of its input: the scene before the mark, with the clumps that the row behind it asks for.
use Rattle.std.specs.Prelude.{ℕ, List, [], ◌++◌, codes, Option, None, Some, Result, Ok, Err}
use Rattle.serde_json.specs.Data.{Data}
use Rattle.serde_json.specs.Written.{compact_text}
use Rattle.dem_model.specs.SceneValue.{SceneValue}
use Rattle.dem_model.specs.ReadingScene.{json_of}
use Rattle.dem_model.specs.declared.fault.SceneFault.{SceneFault}
use Rattle.dem_model.specs.declared.state.Stand.{Stand}
use Rattle.dem_scene.specs.Stands.{with_clumps_of}
use Rattle.dem_pack.specs.Asks.{answer_of}
use Rattle.dem_pack.specs.Rows.{ask_of}
use Rattle.dem_pack.specs.declared.ask.Ask.{Ask}
use Rattle.dem_pack.specs.declared.ask.PackFault.{PackFault}
use Rattle.dem_pack.specs.declared.ask.PackFault.TheVariants as faults
use Rattle.dem_jobs.specs.Verdicts.{Verdict, Refused, Written, no_rows, numbered}
use Rattle.dem_jobs.specs.Marks.{parted}

-- the line between a scene and its row
abbrev pub pack_mark : List ℕ
pack_mark = codes "--pack--"

-- ---- the lines

-- the line of an input without a line between its scene and its row
abbrev pub no_pack_text : List ℕ
no_pack_text = codes "pack: missing\n"

-- the line of a row that is none
abbrev pub no_row_text : List ℕ
no_row_text = codes "pack: row\n"

-- the line of a region with too few cells
abbrev pub room_text : ℕ → List ℕ
room_text cells = numbered (codes "pack: room ") cells

-- the line of a packing that is refused; want of memory is no fault of the input and has none
abbrev pub pack_text : PackFault → List ℕ
pack_text faults.Index = codes "pack: index\n"
pack_text faults.Region = codes "pack: region\n"
pack_text faults.Shape = codes "pack: shape\n"
pack_text faults.Spheres = codes "pack: spheres\n"
pack_text (faults.Room cells) = room_text cells
pack_text faults.OutOfMemory = []

-- ---- the scene

-- the text of a value tree with these stands in the place of its clumps
abbrev pub text_with : List Stand → Result Data SceneFault → List ℕ
text_with stands (Ok d) = compact_text (with_clumps_of stands d)
text_with stands (Err fault) = []

-- a scene's text with these stands in the place of its clumps, or why there are none
abbrev pub by_stands : List ℕ → Result (List Stand) PackFault → Verdict
by_stands text (Ok stands) = Written 0 (text_with stands (json_of text) ++ codes "\n") no_rows
by_stands text (Err fault) = Refused 2 (pack_text fault)

-- what is asked for, or that the row is none
abbrev pub by_ask : List ℕ → SceneValue → Option Ask → Verdict
by_ask text s None = Refused 2 no_row_text
by_ask text s (Some ask) = by_stands text (answer_of s ask)

-- what a row comes to that asks for so many clumps
unfoldable pub packed : ℕ → (text row : List ℕ) → SceneValue → Verdict
packed count text row s = by_ask text s (ask_of count row)

-- what an input of `pack` comes to
abbrev pub pack_verdict : ℕ → List ℕ → Verdict
pack_verdict count = parted pack_mark no_pack_text (packed count)
