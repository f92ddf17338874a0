-- What `gen` writes of the run of a made scene: its numbers, what its last state comes to, and how the run ends.
use Rattle.std.specs.Prelude.{◌≡◌, ℕ, ◌-◌, Bool, List, ◌++◌, length, filter, fold, codes, decimal, is_some}
use Rattle.std.specs.Fmt.{signed_decimal}
use Rattle.dem_num.specs.declared.vector.Vec3.{Vec3}
use Rattle.dem_num.specs.declared.vector.Wide3.{Wide3}
use Rattle.dem_num.specs.Vectors.{widened, sum_of, no_vector}
use Rattle.dem_model.specs.SceneValue.{SceneValue}
use Rattle.dem_model.specs.Centers.{centers_of, touch_of}
use Rattle.dem_model.specs.Frames.{last_text}
use Rattle.dem_model.specs.Made.{made_of}
use Rattle.dem_model.specs.Motion.{AreSound}
use Rattle.dem_model.specs.Pairs.{all_pairs}
use Rattle.dem_model.specs.Plain.{last_of}
use Rattle.dem_model.specs.declared.state.Body.{Body}
use Rattle.dem_model.specs.declared.state.Last.{Last}
use Rattle.dem_model.specs.declared.state.Last.TheVariants.{Done, Passed}
use Rattle.dem_model.specs.declared.state.Pair.{Pair}
use Rattle.dem_shape.specs.declared.snapshot.Snapshot.{Snapshot}
use Rattle.dem_bins.specs.Bins.{grid_of, cells_across}
use Rattle.dem_step.specs.Stepper.{state_at}
use Rattle.dem_words.specs.Orders.{OrderValue}
use Rattle.dem_jobs.specs.Verdicts.{Verdict, Written, no_rows, on_grid, run_status}
use Rattle.dem_jobs.specs.declared.summary.Summary.{Summary}

-- ---- the last state

-- the number of the last state of a run that ends so: no state follows the one from which a step passes a limit
unfoldable pub last_number : Last → ℕ
last_number (Done step) = step
last_number (Passed e) = e.step - 1

-- the bodies in the last state that the run of a scene reaches
unfoldable pub last_bodies : SceneValue → List Body
last_bodies s = (state_at s (last_number (last_of s))).bodies

-- ---- what it comes to

-- the sum of the positions of bodies
unfoldable pub position_sum : List Body → Wide3
position_sum bodies = fold (λ sum (b : Body). sum_of sum (widened b.p)) no_vector bodies

-- whether a pair touches, where the centers are these
unfoldable pub touches : SceneValue → List Vec3 → Pair → Bool
touches s centers p = is_some (touch_of s centers p)

-- how many of all pairs touch, where the bodies stand so
unfoldable pub touch_count : SceneValue → List Body → ℕ
touch_count s bodies = length (filter (touches s (centers_of s bodies)) (all_pairs s))

-- ---- the rows

-- the row of the numbers that a scene was made from
unfoldable pub made_row : (seed count : ℕ) → List ℕ
made_row seed count = codes "gen," ++ decimal seed ++ codes "," ++ decimal count ++ codes "\n"

-- the row of a sum of positions
unfoldable pub sum_row : Wide3 → List ℕ
sum_row sum = codes "sum," ++ signed_decimal sum.x ++ codes "," ++ signed_decimal sum.y ++ codes "," ++ signed_decimal sum.z ++ codes "\n"

-- the row of a number of pairs that touch
unfoldable pub touch_row : ℕ → List ℕ
touch_row n = codes "touch," ++ decimal n ++ codes "\n"

-- the four rows of the run of a scene that was made from these numbers
unfoldable pub gen_text : (seed count : ℕ) → SceneValue → List ℕ
gen_text seed count s = made_row seed count ++ (sum_row (position_sum (last_bodies s)) ++ (touch_row (touch_count s (last_bodies s)) ++ last_text (last_of s)))

-- ---- the whole

-- what a scene comes to that was made for an order: its grid, and then the four rows
unfoldable pub gen_of : OrderValue → SceneValue → Verdict
gen_of o s = on_grid (cells_across s (grid_of s o.drift o.bin)) (Written (run_status (last_of s)) (gen_text o.seed o.count s) no_rows)

-- what an order of `gen` comes to, whatever the source has
unfoldable pub gen_verdict : OrderValue → Verdict
gen_verdict o = gen_of o (made_of o.seed o.count)

-- ---- what the code has in hand

-- the last state of a run, as a snapshot, and how the run ended
pub record IsLastState (s : SceneValue) (last : Last) (snap : Snapshot) : Type 0 where
  pub last_is : last ≡ last_of s
  pub bodies : snap.bodies ≡ last_bodies s
  pub sound : AreSound s snap.bodies

-- a summary is that of the run of this scene
pub record IsSummaryOf (s : SceneValue) (x : Summary) : Type 0 where
  pub last_is : x.last ≡ last_of s
  pub sum : widened x.sum ≡ position_sum (last_bodies s)
  pub touching : x.touching ≡ touch_count s (last_bodies s)

-- the four rows, from a summary
abbrev pub summary_text : (seed count : ℕ) → Summary → List ℕ
summary_text seed count x = made_row seed count ++ (sum_row (widened x.sum) ++ (touch_row x.touching ++ last_text x.last))
