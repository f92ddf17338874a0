-- One more pair of the list among the meetings.
use Rattle.std.proofs.Common.{◌≡◌, ℕ, ◌+◌, ◌<◌, false, get_or, List, [], ◌∷◌, ◌++◌, length, take, map, refl, sym, ap, ◌∙◌, arith, subst, Option, Some, None, replicate}
use Rattle.std.specs.Prelude.{All, slice_get, slice_set}
use Rattle.std.specs.List.{cons_option}
use Rattle.std.specs.Option.{option_map}
use Rattle.std.proofs.lemmas.List.{append-nil, map-append, length-take-le}
use Rattle.std.proofs.lemmas.List.Elements.{All-push, All-nil}
use Rattle.std.proofs.lemmas.Option.{slice_get_within, slice_get-get_or}
use Rattle.dem_num.specs.declared.vector.Vec3.{Vec3}
use Rattle.dem_model.specs.SceneValue.{SceneValue}
use Rattle.dem_model.specs.Carry.{held_of, kept_of}
use Rattle.dem_model.specs.Centers.{touch_of}
use Rattle.dem_model.specs.Pairs.{pair_of}
use Rattle.dem_model.specs.Ranges.{IsSmall}
use Rattle.dem_model.specs.Step.{Meeting, meeting, meetings, held_at, held_in, no_load, loads_of}
use Rattle.dem_model.specs.declared.law.Load.{Load}
use Rattle.dem_model.specs.declared.state.Body.{Body}
use Rattle.dem_model.specs.declared.state.Held.{Held}
use Rattle.dem_model.specs.declared.state.Pair.{Pair}
use Rattle.dem_model.proofs.LoadFacts.{loads_of-push}
use Rattle.dem_force.specs.Loads.{AreLoads}
use Rattle.dem_plain.proofs.HoldsFacts.{meetings-push, sums-within, loads_none}
use Rattle.dem_step.specs.Contacts.{ArePairs}
use Rattle.dem_step.specs.Marks.{is_met, AreMarked}
use Rattle.dem_step.specs.declared.marks.Marks.{Marks}
use Rattle.dem_step.specs.Inside.{loads_after, displacement_of, IsSmallMeeting, HaveMet}
use Rattle.dem_step.proofs.RoomFacts.{take-next}
use Rattle.dem_step.proofs.ListFacts.{kept_of-set, pair_count-take, entry-held, meeting-none}

-- nothing has met
pub HaveMet-none : (s : SceneValue) (bodies : List Body) (centers : List Vec3) (held : List Held) (n : ℕ) (loads : List Load) (fresh : List (Option Vec3)) →
    loads ≡ replicate n no_load → n ≡ length s.clumps → HaveMet s bodies centers held [] loads fresh
unfolding meetings loads_of kept_of
HaveMet-none s bodies centers held n loads fresh e count = record {
  sums = e ∙ ap (λ k. replicate k no_load) count ∙ loads_none s (length s.clumps);
  kept = refl;
  small = All-nil (λ (m : Meeting). IsSmall m.push);
}

-- the loads with what may be one more meeting are the sums over all of them
pub loads_after-is : (s : SceneValue) (ms : List Meeting) (o : Option Meeting) → loads_after s (loads_of s ms) o ≡ loads_of s (ms ++ cons_option o [])
loads_after-is s ms None = ap (loads_of s) (sym (append-nil ms))
loads_after-is s ms (Some m) = sym (loads_of-push s ms m)

-- what is held in what may be one more meeting
held-more : (ms : List Meeting) (o : Option Meeting) → map held_in (ms ++ cons_option o []) ≡ map held_in ms ++ cons_option (option_map held_in o) []
held-more ms None = map-append held_in ms []
held-more ms (Some m) = map-append held_in ms (m ∷ [])

-- the pushes stay small
pub small-more : (ms : List Meeting) (o : Option Meeting) → All (λ (m : Meeting). IsSmall m.push) ms → IsSmallMeeting o → All (λ (m : Meeting). IsSmall m.push) (ms ++ cons_option o [])
small-more ms None all small = subst (λ xs. All (λ (m : Meeting). IsSmall m.push) xs) (sym (append-nil ms)) all
small-more ms (Some m) all small = All-push (λ (m : Meeting). IsSmall m.push) ms m all small

-- one more pair has met
pub HaveMet-more : (s : SceneValue) (bodies : List Body) (centers : List Vec3) (held : List Held) (ps : List Pair) (i : ℕ) (p : Pair) (h : Option Vec3)
    (old new : List Load) (fresh : List (Option Vec3)) (e : Option Vec3) →
    slice_get ps i ≡ Some p → held_at held p ≡ h → i < length fresh →
    new ≡ loads_after s old (meeting s bodies centers p h) → e ≡ displacement_of (meeting s bodies centers p h) → IsSmallMeeting (meeting s bodies centers p h) →
    HaveMet s bodies centers held (take i ps) old fresh → HaveMet s bodies centers held (take (i + 1) ps) new (slice_set fresh i e)
HaveMet-more s bodies centers held ps i p h old new fresh e there is room loads entry small met =
    let lt : i < length ps = slice_get_within ps i p there in
    let o : Option Meeting = meeting s bodies centers p h in
    let ms : List Meeting = meetings s bodies centers held (take i ps) in
    let same : cons_option (meeting s bodies centers p (held_at held p)) [] ≡ cons_option (meeting s bodies centers p h) [] = ap (λ x. cons_option (meeting s bodies centers p x) []) is in
    let more : meetings s bodies centers held (take i ps) ++ cons_option (meeting s bodies centers p h) [] ≡ meetings s bodies centers held (take (i + 1) ps) =
    ap (λ xs. meetings s bodies centers held (take i ps) ++ xs) (sym same)
    ∙ sym (meetings-push s bodies centers held (take i ps) p)
    ∙ ap (meetings s bodies centers held) (sym (take-next ps i p there)) in
    let count : length (take i ps) ≡ i = length-take-le i ps (omega arith) in
    record {
      sums = loads ∙ ap (λ ws. loads_after s ws (meeting s bodies centers p h)) met.sums ∙ loads_after-is s (meetings s bodies centers held (take i ps)) (meeting s bodies centers p h) ∙ ap (loads_of s) more;
      kept =
          ap (λ qs. kept_of qs (slice_set fresh i e)) (take-next ps i p there)
          ∙ kept_of-set (take i ps) fresh i p e count room
          ∙ ap (λ xs. xs ++ cons_option (option_map (held_of p) e) []) met.kept
          ∙ ap (λ x. map held_in (meetings s bodies centers held (take i ps)) ++ cons_option (option_map (held_of p) x) []) entry
          ∙ ap (λ x. map held_in (meetings s bodies centers held (take i ps)) ++ cons_option x []) (entry-held s bodies centers p h)
          ∙ sym (held-more (meetings s bodies centers held (take i ps)) (meeting s bodies centers p h))
          ∙ ap (map held_in) more;
      small = subst (λ xs. All (λ (m : Meeting). IsSmall m.push) xs) more (small-more (meetings s bodies centers held (take i ps)) (meeting s bodies centers p h) met.small small);
    }

-- one more pair has met, which doesn't touch
HaveMet-apart : (s : SceneValue) (bodies : List Body) (centers : List Vec3) (held : List Held) (ps : List Pair) (i : ℕ) (p : Pair) (loads : List Load) (fresh : List (Option Vec3)) →
    slice_get ps i ≡ Some p → touch_of s centers p ≡ None → i < length fresh →
    HaveMet s bodies centers held (take i ps) loads fresh → HaveMet s bodies centers held (take (i + 1) ps) loads (slice_set fresh i None)
HaveMet-apart s bodies centers held ps i p loads fresh there apart room met =
    let none : meeting s bodies centers p (held_at held p) ≡ None = meeting-none s bodies centers p (held_at held p) apart in
    HaveMet-more s bodies centers held ps i p (held_at held p) loads loads fresh None there refl room
    (ap (loads_after s loads) (sym none)) (ap displacement_of (sym none)) (subst IsSmallMeeting (sym none) tt) met

-- one more pair has met, which isn't looked at
pub HaveMet-unmet : (s : SceneValue) (bodies : List Body) (centers : List Vec3) (held : List Held) (ps : List Pair) (marks : Marks) (i : ℕ) (loads : List Load) (fresh : List (Option Vec3)) →
    AreMarked s centers ps marks → is_met marks i ≡ false → i < length ps → i < length fresh →
    HaveMet s bodies centers held (take i ps) loads fresh → HaveMet s bodies centers held (take (i + 1) ps) loads (slice_set fresh i None)
HaveMet-unmet s bodies centers held ps marks i loads fresh marked unmet there room met =
    let is : slice_get ps i ≡ Some (get_or ps i (pair_of 0 0)) = slice_get-get_or ps i (pair_of 0 0) there in
    HaveMet-apart s bodies centers held ps i (get_or ps i (pair_of 0 0)) loads fresh is (marked i (get_or ps i (pair_of 0 0)) is unmet) room met

-- the loads at any place of the list are within the bounds
pub loads-met : (s : SceneValue) (bodies : List Body) (centers : List Vec3) (held : List Held) (ps : List Pair) (i : ℕ) (loads : List Load) (fresh : List (Option Vec3)) →
    ArePairs s ps → HaveMet s bodies centers held (take i ps) loads fresh → AreLoads s loads
loads-met s bodies centers held ps i loads fresh pairs met =
    sums-within s bodies centers held (take i ps) loads (λ c. omega (arith, pair_count-take s c i ps, pairs.few c)) met.sums met.small

-- the loads of the whole list are within the bounds
pub loads-met-all : (s : SceneValue) (bodies : List Body) (centers : List Vec3) (held : List Held) (ps : List Pair) (loads : List Load) (fresh : List (Option Vec3)) →
    ArePairs s ps → HaveMet s bodies centers held ps loads fresh → AreLoads s loads
loads-met-all s bodies centers held ps loads fresh pairs met = sums-within s bodies centers held ps loads pairs.few met.sums met.small
