-- One more pair among the meetings, and how large the loads are.
use Rattle.std.proofs.Common.{◌≡◌, ℕ, zero, suc, ◌+◌, ◌*◌, ◌^◌, ◌<◌, ◌≤◌, List, [], ◌∷◌, ◌++◌, length, get_or, map, replicate, refl, sym, ap, ◌∙◌, arith, subst, zero-add, true, false, Some, None}
use Rattle.std.specs.Prelude.{All}
use Rattle.std.specs.List.{cons_option, range_with_len}
use Rattle.std.proofs.lemmas.List.{append-nil, append_assoc, map_push, ext_get_or, length-replicate, get_or-replicate}
use Rattle.std.proofs.lemmas.List.FromFn.{get_or-map-range_with_len, length-map-range_with_len}
use Rattle.std.proofs.lemmas.List.Elements.{filter_map-append, All-push, All-nil}
use Rattle.dem_num.specs.declared.vector.Vec3.{Vec3}
use Rattle.dem_num.proofs.VectorSizes.{within_wider}
use Rattle.dem_model.specs.SceneValue.{SceneValue}
use Rattle.dem_model.specs.Sound.{IsSound}
use Rattle.dem_model.specs.Pairs.{sphere_count, limit_of, pair_of, apart, row_below, pairs_below, all_pairs}
use Rattle.dem_model.specs.Ranges.{IsSmall}
use Rattle.dem_model.specs.Step.{Meeting, meeting, meetings, held_at, held_in, no_load, load_on, loads_of}
use Rattle.dem_model.specs.declared.law.Load.{Load}
use Rattle.dem_model.specs.declared.law.Push.{Push}
use Rattle.dem_model.specs.declared.state.Body.{Body}
use Rattle.dem_model.specs.declared.state.Held.{Held}
use Rattle.dem_model.specs.declared.state.Pair.{Pair}
use Rattle.dem_model.proofs.PairFacts.{row_below-more, row_below-start, pairs_below-more}
use Rattle.dem_model.proofs.CountFacts.{pair_count-visited, pair_count-all}
use Rattle.dem_model.specs.Counts.{pair_count, most_pairs}
use Rattle.dem_model.proofs.LoadFacts.{loads_of-push, length-loads_of, IsLoadOf, meetings_count, load_on-within}
use Rattle.dem_model.specs.Step.{loads_with}
use Rattle.dem_force.specs.Loads.{CanGrow, AreLoads}
use Rattle.dem_plain.specs.declared.met.Met.{Met}
use Rattle.dem_plain.specs.Inside.{Holds, one_apart}
use Rattle.dem_force.specs.Places.{meeting_with}

-- the meetings of some pairs and one more
pub meetings-push : (s : SceneValue) (bodies : List Body) (centers : List Vec3) (held : List Held) (ps : List Pair) (p : Pair) →
    meetings s bodies centers held (ps ++ p ∷ []) ≡ meetings s bodies centers held ps ++ cons_option (meeting s bodies centers p (held_at held p)) []
unfolding meetings
meetings-push s bodies centers held ps p = filter_map-append (λ q. meeting s bodies centers q (held_at held q)) ps (p ∷ [])

-- a pair that isn't apart changes nothing
pub Holds-skipped : (s : SceneValue) (bodies : List Body) (centers : List Vec3) (held : List Held) (p : Pair) (met : Met) → apart s p ≡ false →
    (ps : List Pair) → Holds s bodies centers held ps met → Holds s bodies centers held (ps ++ one_apart s p) met
Holds-skipped s bodies centers held p met e ps h =
    rw e (subst (λ qs. Holds s bodies centers held qs met) (sym (append-nil ps)) h)

-- a pair that is apart and doesn't touch changes nothing
pub Holds-missed : (s : SceneValue) (bodies : List Body) (centers : List Vec3) (held : List Held) (p : Pair) (met : Met) → apart s p ≡ true →
    meeting s bodies centers p (held_at held p) ≡ None →
    (ps : List Pair) → Holds s bodies centers held ps met → Holds s bodies centers held (ps ++ one_apart s p) met
Holds-missed s bodies centers held p met e none ps h =
    let same : meetings s bodies centers held ps ≡ meetings s bodies centers held (ps ++ p ∷ []) =
    sym (append-nil (meetings s bodies centers held ps))
    ∙ ap (λ o. meetings s bodies centers held ps ++ cons_option o []) (sym none)
    ∙ sym (meetings-push s bodies centers held ps p) in
    rw e (record {
      sums = h.sums ∙ ap (loads_of s) same;
      kept = h.kept ∙ ap (map held_in) same;
      small = subst (λ ms. All (λ (m : Meeting). IsSmall m.push) ms) same h.small;
    })

-- a pair that touches adds its push and what is held of it
pub Holds-more : (s : SceneValue) (bodies : List Body) (centers : List Vec3) (held : List Held) (p : Pair) (push : Push) (old new : Met) → apart s p ≡ true →
    meeting s bodies centers p (held_at held p) ≡ Some (meeting_with p push) → IsSmall push →
    new.loads.items ≡ loads_with s old.loads.items (meeting_with p push) →
    new.held ≡ old.held ++ held_in (meeting_with p push) ∷ [] →
    (ps : List Pair) → Holds s bodies centers held ps old → Holds s bodies centers held (ps ++ one_apart s p) new
Holds-more s bodies centers held p push old new e some small loads kept ps h =
    let more : meetings s bodies centers held ps ++ meeting_with p push ∷ [] ≡ meetings s bodies centers held (ps ++ p ∷ []) =
    ap (λ o. meetings s bodies centers held ps ++ cons_option o []) (sym some) ∙ sym (meetings-push s bodies centers held ps p) in
    rw e (record {
      sums = loads ∙ ap (λ ws. loads_with s ws (meeting_with p push)) h.sums ∙ sym (loads_of-push s (meetings s bodies centers held ps) (meeting_with p push)) ∙ ap (loads_of s) more;
      kept = kept ∙ ap (λ es. es ++ held_in (meeting_with p push) ∷ []) h.kept ∙ sym (map_push held_in (meetings s bodies centers held ps) (meeting_with p push)) ∙ ap (map held_in) more;
      small = subst (λ ms. All (λ (m : Meeting). IsSmall m.push) ms) more (All-push (λ (m : Meeting). IsSmall m.push) (meetings s bodies centers held ps) (meeting_with p push) h.small small);
    })

-- a load of at most so many contacts is within the bounds
can_grow : (w : Load) → IsLoadOf most_pairs w → CanGrow w
can_grow w h = record {
  force = within_wider w.force (most_pairs * 2 ^ 63) (2 ^ 84) h.force (omega arith);
  torque = within_wider w.torque (most_pairs * 2 ^ 93) (2 ^ 114) h.torque (omega arith);
}

-- the load of a clump, by its number
load_at : (s : SceneValue) (ms : List Meeting) (c : ℕ) → c < length s.clumps → get_or (loads_of s ms) c no_load ≡ load_on s ms c
unfolding loads_of
load_at s ms c lt = get_or-map-range_with_len (load_on s ms) 0 (length s.clumps) c c no_load lt (zero-add c)

-- where no clump has too many of the pairs, the sums over their meetings are within the bounds
pub sums-within : (s : SceneValue) (bodies : List Body) (centers : List Vec3) (held : List Held) (ps : List Pair) (ws : List Load) →
    ((c : ℕ) → pair_count s c ps ≤ most_pairs) → ws ≡ loads_of s (meetings s bodies centers held ps) →
    All (λ (m : Meeting). IsSmall m.push) (meetings s bodies centers held ps) → AreLoads s ws
sums-within s bodies centers held ps ws few sums small =
    record {
      count = ap length sums ∙ length-loads_of s (meetings s bodies centers held ps);
      each = λ c lt.
          let here : get_or ws c no_load ≡ load_on s (meetings s bodies centers held ps) c =
          ap (λ xs. get_or xs c no_load) sums ∙ load_at s (meetings s bodies centers held ps) c lt in
          subst CanGrow (sym here) (can_grow (load_on s (meetings s bodies centers held ps) c)
          (load_on-within s c (meetings s bodies centers held ps) small (omega (arith, meetings_count s bodies centers held c ps, few c))));
    }

loads-within : (s : SceneValue) (bodies : List Body) (centers : List Vec3) (held : List Held) (ps : List Pair) (met : Met) →
    ((c : ℕ) → pair_count s c ps ≤ most_pairs) → Holds s bodies centers held ps met → AreLoads s met.loads.items
loads-within s bodies centers held ps met few h = sums-within s bodies centers held ps met.loads.items few h.sums h.small

-- the loads before some place of all pairs are within the bounds
pub loads-visited : (s : SceneValue) (bodies : List Body) (centers : List Vec3) (held : List Held) (a b : ℕ) (met : Met) → IsSound s → a < sphere_count s → b ≤ limit_of s →
    Holds s bodies centers held (pairs_below s a ++ row_below s a b) met → AreLoads s met.loads.items
loads-visited s bodies centers held a b met sound lt le h =
    loads-within s bodies centers held (pairs_below s a ++ row_below s a b) met (λ c. pair_count-visited s c a b sound lt le) h

-- the loads of all pairs are within the bounds
pub loads-all : (s : SceneValue) (bodies : List Body) (centers : List Vec3) (held : List Held) (met : Met) → IsSound s →
    Holds s bodies centers held (all_pairs s) met → AreLoads s met.loads.items
loads-all s bodies centers held met sound h = loads-within s bodies centers held (all_pairs s) met (λ c. pair_count-all s c sound) h

-- a row begins empty
pub Holds-row : (s : SceneValue) (bodies : List Body) (centers : List Vec3) (held : List Held) (a : ℕ) (met : Met) →
    Holds s bodies centers held (pairs_below s a) met → Holds s bodies centers held (pairs_below s a ++ row_below s a (a + 1)) met
Holds-row s bodies centers held a met h =
    let e : pairs_below s a ≡ pairs_below s a ++ row_below s a (a + 1) =
    sym (append-nil (pairs_below s a)) ∙ ap (λ xs. pairs_below s a ++ xs) (sym (row_below-start s a (a + 1) (omega arith))) in
    subst (λ ps. Holds s bodies centers held ps met) e h

-- a row goes on
pub Holds-place : (s : SceneValue) (bodies : List Body) (centers : List Vec3) (held : List Held) (a b : ℕ) (met : Met) →
    Holds s bodies centers held ((pairs_below s a ++ row_below s a b) ++ one_apart s (pair_of a b)) met →
    Holds s bodies centers held (pairs_below s a ++ row_below s a (b + 1)) met
Holds-place s bodies centers held a b met h =
    let e : (pairs_below s a ++ row_below s a b) ++ one_apart s (pair_of a b) ≡ pairs_below s a ++ row_below s a (b + 1) =
    append_assoc (pairs_below s a) (row_below s a b) (one_apart s (pair_of a b)) ∙ ap (λ xs. pairs_below s a ++ xs) (sym (row_below-more s a b)) in
    subst (λ ps. Holds s bodies centers held ps met) e h

-- a row ends
pub Holds-rows : (s : SceneValue) (bodies : List Body) (centers : List Vec3) (held : List Held) (a b : ℕ) (met : Met) → b ≡ limit_of s →
    Holds s bodies centers held (pairs_below s a ++ row_below s a b) met → Holds s bodies centers held (pairs_below s (a + 1)) met
Holds-rows s bodies centers held a b met e h =
    let whole : pairs_below s a ++ row_below s a b ≡ pairs_below s (a + 1) = ap (λ n. pairs_below s a ++ row_below s a n) e ∙ sym (pairs_below-more s a) in
    subst (λ ps. Holds s bodies centers held ps met) whole h

-- all rows are all pairs
pub Holds-whole : (s : SceneValue) (bodies : List Body) (centers : List Vec3) (held : List Held) (a : ℕ) (met : Met) → a ≡ sphere_count s →
    Holds s bodies centers held (pairs_below s a) met → Holds s bodies centers held (all_pairs s) met
unfolding all_pairs
Holds-whole s bodies centers held a met e h = subst (λ n. Holds s bodies centers held (pairs_below s n) met) e h

-- nothing has met
pub Holds-none : (s : SceneValue) (bodies : List Body) (centers : List Vec3) (held : List Held) (met : Met) → met.loads.items ≡ loads_of s [] → met.held ≡ [] →
    Holds s bodies centers held [] met
unfolding meetings
Holds-none s bodies centers held met loads kept = record { sums = loads; kept = kept; small = All-nil (λ (m : Meeting). IsSmall m.push) }

-- the loads of no meetings
pub loads_none : (s : SceneValue) (n : ℕ) → replicate n no_load ≡ map (load_on s []) (range_with_len 0 n)
unfolding load_on
loads_none s zero = refl
loads_none s (suc n) = ext_get_or no_load (replicate (suc n) no_load) (map (λ c. no_load) (range_with_len 0 (suc n)))
    (length-replicate (suc n) no_load ∙ sym (length-map-range_with_len (λ (c : ℕ). no_load) 0 (suc n)))
    (λ i lt.
    let within : i < suc n = omega (arith, length-replicate (suc n) no_load) in
    get_or-replicate (suc n) i no_load no_load within ∙ sym (get_or-map-range_with_len (λ (c : ℕ). no_load) 0 (suc n) i i no_load within (zero-add i)))

pub Holds-nothing : (s : SceneValue) (n : ℕ) (met : Met) → n ≡ length s.clumps → met.loads.items ≡ replicate n no_load → met.held ≡ [] →
    (bodies : List Body) (centers : List Vec3) (held : List Held) → Holds s bodies centers held [] met
Holds-nothing s n met e loads kept bodies centers held =
    Holds-none s bodies centers held met (loads ∙ ap (λ k. replicate k no_load) e ∙ unfold loads_of in loads_none s (length s.clumps)) kept
