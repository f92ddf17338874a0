-- Reading the clumps one after the other, with the spheres of those before counted.
use Rattle.std.proofs.Common.{◌≡◌, ℕ, Bool, suc, ◌+◌, ◌<◌, List, [], ◌∷◌, ◌++◌, length, get_or, drop, Result, Ok, Err, refl, ap, sym, ◌∙◌, append-nil, add-one, drop-cons}
use Rattle.std.proofs.Math.Seq.{drop-length}
use Rattle.std.proofs.lemmas.List.{length-append, length-map}
use Rattle.serde_json.specs.declared.value.Value.{Value}
use Rattle.serde_json.specs.View.{view, items_view}
use Rattle.dem_model.specs.declared.fault.SceneFault.{SceneFault}
use Rattle.dem_model.specs.declared.shape.Template.{Template}
use Rattle.dem_model.specs.declared.state.Clump.{Clump}
use Rattle.dem_model.specs.Spheres.{balls_of, sphere_of, spheres_of_clump, spheres_from}
use Rattle.dem_model.specs.Reading.{◌>>=◌}
use Rattle.dem_model.specs.ReadingKinds.{ball_count, clump_of, clumps_from}
use Rattle.dem_model.proofs.SphereFacts.{spheres_from-push}
use Rattle.dem_scene.proofs.Elements.{put_before, push_before}

module _ (later : Bool) (templates : List Template) where
  -- what is still to be read, from place i on, after so many spheres
  unfoldable pub clumps_rest : List Clump → ℕ → ℕ → List Value → Result (List Clump) SceneFault
  clumps_rest found before i vs = put_before found (clumps_from later templates before i (items_view (drop i vs)))

  -- nothing was read yet
  pub clumps_start : (vs : List Value) → clumps_rest [] 0 0 vs ≡ clumps_from later templates 0 0 (items_view vs)
  unfolding clumps_rest
  clumps_start vs = elim (clumps_from later templates 0 0 (items_view vs)) as (λ r. put_before [] r ≡ r) [ Ok xs ↦ refl | Err e ↦ refl ]

  -- what is read at a place, and then the others
  clumps_step : (found : List Clump) (before i : ℕ) (vs : List Value) (v : Value) → i < length vs → v ≡ get_or vs i v → clumps_rest found before i vs ≡ put_before found (clump_of later templates before i (view v) >>= λ c. clumps_from later templates (before + ball_count templates c.t) (i + 1) (items_view (drop (i + 1) vs)) >>= λ cs. Ok (c ∷ cs))
  unfolding clumps_rest clumps_from
  clumps_step found before i vs v h e =
      let d : drop i vs ≡ v ∷ drop (i + 1) vs = rw add-one (drop-cons vs i v h ∙ ap (λ w. w ∷ drop (suc i) vs) (sym e)) in
      ap (λ ws. put_before found (clumps_from later templates before i (items_view ws))) d

  -- one more was read
  pub clumps_go_on : (found : List Clump) (before i : ℕ) (vs : List Value) (v : Value) (c : Clump) → i < length vs → v ≡ get_or vs i v → clump_of later templates before i (view v) ≡ Ok c → clumps_rest found before i vs ≡ clumps_rest (found ++ c ∷ []) (before + ball_count templates c.t) (i + 1) vs
  unfolding clumps_rest
  clumps_go_on found before i vs v c h e r =
      clumps_step found before i vs v h e ∙ ap (λ s. put_before found (s >>= λ x. clumps_from later templates (before + ball_count templates x.t) (i + 1) (items_view (drop (i + 1) vs)) >>= λ cs. Ok (x ∷ cs))) r ∙ push_before found c _

  -- a fault ends the reading
  pub clumps_end : (found : List Clump) (before i : ℕ) (vs : List Value) (v : Value) (fault : SceneFault) → i < length vs → v ≡ get_or vs i v → clump_of later templates before i (view v) ≡ Err fault → clumps_rest found before i vs ≡ Err fault
  clumps_end found before i vs v fault h e r =
      clumps_step found before i vs v h e ∙ ap (λ s. put_before found (s >>= λ x. clumps_from later templates (before + ball_count templates x.t) (i + 1) (items_view (drop (i + 1) vs)) >>= λ cs. Ok (x ∷ cs))) r

  -- all were read
  pub clumps_done : (found : List Clump) (before i : ℕ) (vs : List Value) → i ≡ length vs → clumps_rest found before i vs ≡ Ok found
  unfolding clumps_rest clumps_from
  clumps_done found before i vs e =
      let d : drop i vs ≡ [] = rw e (drop-length vs) in
      ap (λ ws. put_before found (clumps_from later templates before i (items_view ws))) d ∙ ap Ok (append-nil found)

-- one clump more adds the spheres of its template
pub spheres_more : (templates : List Template) (found : List Clump) (c : Clump) → length (spheres_from templates 0 (found ++ c ∷ [])) ≡ length (spheres_from templates 0 found) + ball_count templates c.t
unfolding ball_count spheres_of_clump
spheres_more templates found c =
    ap length (spheres_from-push templates 0 found c) ∙ length-append (spheres_from templates 0 found) (spheres_of_clump templates (0 + length found) c.t) ∙ ap (λ n. length (spheres_from templates 0 found) + n) (length-map (balls_of templates c.t) (sphere_of (0 + length found)))
