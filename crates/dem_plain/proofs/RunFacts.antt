-- Steps of the run: the bodies one by one, the next state, the first state.
use Rattle.std.proofs.Common.{◌≡◌, ℕ, suc, ◌+◌, ◌<◌, ◌≤◌, List, [], ◌∷◌, ◌++◌, length, get_or, map, drop, refl, sym, ap, ◌∙◌, arith, subst, Bool, true, false, cond, inl, inr, Some, None, Result, Ok, Err, add-one}
use Rattle.std.specs.Prelude.{All, IfOk, find}
use Rattle.std.specs.Option.{option_map}
use Rattle.std.proofs.lemmas.Bool.{lt-ltb, cases_lt}
use Rattle.std.proofs.lemmas.List.Elements.{All-map, All-nil}
use Rattle.std.proofs.lemmas.List.{append-nil, append_assoc, get_or_default, drop_more, drop_all, length-map, get_or-map, get_or_push, get_or_append_left, length_push}
use Rattle.dem_num.specs.declared.vector.Vec3.{Vec3}
use Rattle.dem_num.specs.Vectors.{widened, Within}
use Rattle.dem_model.specs.SceneValue.{SceneValue}
use Rattle.dem_model.specs.Sound.{IsSound, IsBodyOf}
use Rattle.dem_model.specs.Centers.{body_at, still_body, centers_of, placed}
use Rattle.dem_model.specs.Motion.{AreSound}
use Rattle.dem_model.specs.Pairs.{all_pairs, sphere_count}
use Rattle.dem_model.specs.Advance.{advance_of}
use Rattle.dem_model.specs.Plain.{first_state, state_after, run_after, plain_at}
use Rattle.dem_model.specs.Ranges.{IsSmall}
use Rattle.dem_model.specs.Step.{Meeting, meetings, held_in, no_clump, clump_at, ended, joined, advanced_from, state_with, step_with, step_of, loads_of, same_pair, held_at}
use Rattle.dem_model.specs.declared.law.Load.{Load}
use Rattle.dem_model.specs.declared.state.Body.{Body}
use Rattle.dem_model.specs.declared.state.Clump.{Clump}
use Rattle.dem_model.specs.declared.state.End.{End}
use Rattle.dem_model.specs.declared.state.EndKind.{EndKind}
use Rattle.dem_model.specs.declared.state.Held.{Held}
use Rattle.dem_model.specs.declared.state.Pair.{Pair}
use Rattle.dem_model.specs.declared.state.State.{State}
use Rattle.dem_shape.specs.Matrices.{AreMatrices}
use Rattle.dem_force.specs.Places.{HasPlaces}
use Rattle.dem_force.specs.Sides.{AreSides}
use Rattle.dem_force.specs.declared.pushing.spheres.Spheres.{Spheres}
use Rattle.dem_plain.specs.declared.met.Met.{Met}
use Rattle.dem_plain.specs.Run.{Run}
use Rattle.dem_plain.specs.Inside.{Advances, Holds, IsAfter, IsNext, IsRun}
use Rattle.dem_plain.specs.declared.stop.Stop.{Stop}
use Rattle.dem_plain.specs.declared.stop.Stop.TheVariants.{Ended, OutOfMemory}
use Rattle.dem_model.specs.Spheres.{spheres_of}
use Rattle.dem_model.specs.declared.limits.TheConstants.{MAX_DISPLACEMENT}
use Rattle.dem_force.specs.Stored.{AreStored}

-- some bodies before those of a result
abbrev pub with_prefix : List Body → Result (List Body) End → Result (List Body) End
with_prefix xs (Ok ys) = Ok (xs ++ ys)
with_prefix xs (Err e) = Err e

-- the bodies so far, each sound for its clump, are a prefix of the result
pub record AreAdvanced (s : SceneValue) (step : ℕ) (bodies : List Body) (loads : List Load) (k : ℕ) (next : List Body) : Type 0 where
  pub count : length next ≡ k
  pub prefix : with_prefix next (advanced_from s step k (drop k s.clumps) (drop k bodies) (drop k loads)) ≡ advanced_from s step 0 s.clumps bodies loads
  pub each : (j : ℕ) → j < k → IsBodyOf s (clump_at s j) (body_at next j)

prefix_nil : (r : Result (List Body) End) → with_prefix [] r ≡ r
prefix_nil (Ok ys) = refl
prefix_nil (Err e) = refl

prefix_joined : (xs : List Body) (b : Body) (r : Result (List Body) End) → with_prefix xs (joined (Ok b) r) ≡ with_prefix (xs ++ b ∷ []) r
unfolding joined
prefix_joined xs b (Ok ys) = ap Ok (sym (append_assoc xs (b ∷ []) ys))
prefix_joined xs b (Err e) = refl

-- nothing has advanced yet
pub AreAdvanced-none : (s : SceneValue) (step : ℕ) (bodies : List Body) (loads : List Load) (next : List Body) → next ≡ [] → AreAdvanced s step bodies loads 0 next
AreAdvanced-none s step bodies loads next e = record {
  count = ap length e;
  prefix = ap (λ xs. with_prefix xs (advanced_from s step 0 s.clumps bodies loads)) e ∙ prefix_nil (advanced_from s step 0 s.clumps bodies loads);
  each = λ j lt. absurd (omega arith);
}

-- the body that is read for a clump is sound for it
pub body_sound : (s : SceneValue) (bodies : List Body) (k : ℕ) (d : Body) → AreSound s bodies → k < length s.clumps → IsBodyOf s (clump_at s k) (get_or bodies k d)
unfolding body_at
body_sound s bodies k d sound lt =
    subst (IsBodyOf s (clump_at s k)) (get_or_default bodies k still_body d (omega (arith, sound.count))) (sound.each k lt)

-- the rest begins with clump k
rest_from : (s : SceneValue) (step k : ℕ) (bodies : List Body) (loads : List Load) (b : Body) (w : Load) → k < length s.clumps →
    length bodies ≡ length s.clumps → length loads ≡ length s.clumps →
    advanced_from s step k (drop k s.clumps) (drop k bodies) (drop k loads)
    ≡ joined (ended step k (advance_of s (clump_at s k) (get_or bodies k b) (get_or loads k w))) (advanced_from s step (k + 1) (drop (k + 1) s.clumps) (drop (k + 1) bodies) (drop (k + 1) loads))
rest_from s step k bodies loads b w lt lb lw =
    let cs : drop k s.clumps ≡ clump_at s k ∷ drop (k + 1) s.clumps = unfold clump_at in drop_more s.clumps k no_clump lt in
    let bs : drop k bodies ≡ get_or bodies k b ∷ drop (k + 1) bodies = drop_more bodies k b (omega arith) in
    let ws : drop k loads ≡ get_or loads k w ∷ drop (k + 1) loads = drop_more loads k w (omega arith) in
    rw (cs, bs, ws) (unfold advanced_from in refl)

-- the bodies so far stay, and the new one is sound
each_more : (s : SceneValue) (k : ℕ) (old new : List Body) (x : Body) → new ≡ old ++ x ∷ [] → length old ≡ k → IsBodyOf s (clump_at s k) x →
    ((j : ℕ) → j < k → IsBodyOf s (clump_at s j) (body_at old j)) → (j : ℕ) → j < k + 1 → IsBodyOf s (clump_at s j) (body_at new j)
unfolding body_at
each_more s k old new x push count sound each j below =
    elim (cases_lt j k) [
      | inl lt ↦
          let e : get_or new j still_body ≡ get_or old j still_body = ap (λ xs. get_or xs j still_body) push ∙ get_or_append_left old (x ∷ []) still_body j (omega arith) in
          subst (IsBodyOf s (clump_at s j)) (sym e) (each j lt)
      | inr ge ↦
          let same : k ≡ j = omega arith in
          let e : get_or new j still_body ≡ x = ap (λ xs. get_or xs j still_body) push ∙ get_or_push old x still_body j (omega arith) in
          subst (IsBodyOf s (clump_at s j)) (sym e) (subst (λ n. IsBodyOf s (clump_at s n) x) same sound)
    ]

-- one more clump has advanced
pub AreAdvanced-more : (s : SceneValue) (step : ℕ) (bodies : List Body) (loads : List Load) (k : ℕ) (old new : List Body) (b : Body) (w : Load) (x : Body) →
    k < length s.clumps → length bodies ≡ length s.clumps → length loads ≡ length s.clumps →
    advance_of s (clump_at s k) (get_or bodies k b) (get_or loads k w) ≡ Ok x → IsBodyOf s (clump_at s k) x → new ≡ old ++ x ∷ [] →
    AreAdvanced s step bodies loads k old → AreAdvanced s step bodies loads (k + 1) new
AreAdvanced-more s step bodies loads k old new b w x lt lb lw ok sound push h =
    let rest = rest_from s step k bodies loads b w lt lb lw in
    let here : ended step k (advance_of s (clump_at s k) (get_or bodies k b) (get_or loads k w)) ≡ Ok x = ap (ended step k) ok ∙ unfold ended in refl in
    record {
      count = ap length push ∙ length_push old x ∙ omega (arith, h.count);
      prefix =
          ap (λ xs. with_prefix xs (advanced_from s step (k + 1) (drop (k + 1) s.clumps) (drop (k + 1) bodies) (drop (k + 1) loads))) push
          ∙ sym (prefix_joined old x (advanced_from s step (k + 1) (drop (k + 1) s.clumps) (drop (k + 1) bodies) (drop (k + 1) loads)))
          ∙ ap (λ r. with_prefix old (joined r (advanced_from s step (k + 1) (drop (k + 1) s.clumps) (drop (k + 1) bodies) (drop (k + 1) loads)))) (sym here)
          ∙ ap (with_prefix old) (sym rest)
          ∙ h.prefix;
      each = λ j below. each_more s k old new x push h.count sound h.each j below;
    }

-- a clump that passes a limit ends the step
pub advanced_ends : (s : SceneValue) (step : ℕ) (bodies : List Body) (loads : List Load) (k : ℕ) (next : List Body) (b : Body) (w : Load) (kind : EndKind) →
    k < length s.clumps → length bodies ≡ length s.clumps → length loads ≡ length s.clumps →
    advance_of s (clump_at s k) (get_or bodies k b) (get_or loads k w) ≡ Err kind → AreAdvanced s step bodies loads k next →
    advanced_from s step 0 s.clumps bodies loads ≡ Err (record { step = step; kind = kind; clump = k })
advanced_ends s step bodies loads k next b w kind lt lb lw err h =
    let here : ended step k (advance_of s (clump_at s k) (get_or bodies k b) (get_or loads k w)) ≡ Err (record { step = step; kind = kind; clump = k }) = ap (ended step k) err ∙ unfold ended in refl in
    sym h.prefix
    ∙ ap (with_prefix next) (rest_from s step k bodies loads b w lt lb lw)
    ∙ ap (λ r. with_prefix next (joined r (advanced_from s step (k + 1) (drop (k + 1) s.clumps) (drop (k + 1) bodies) (drop (k + 1) loads)))) here
    ∙ unfold joined in refl

-- all clumps have advanced
pub advanced_all : (s : SceneValue) (step : ℕ) (bodies : List Body) (loads : List Load) (k : ℕ) (next : List Body) →
    k ≡ length s.clumps → AreAdvanced s step bodies loads k next → (advanced_from s step 0 s.clumps bodies loads ≡ Ok next) × AreSound s next
advanced_all s step bodies loads k next e h =
    let none : drop k s.clumps ≡ [] = drop_all k s.clumps (omega arith) in
    let rest : advanced_from s step k (drop k s.clumps) (drop k bodies) (drop k loads) ≡ Ok [] = rw none (unfold advanced_from in refl) in
    (sym h.prefix ∙ ap (with_prefix next) rest ∙ ap Ok (append-nil next), record { count = h.count ∙ e; each = λ j lt. h.each j (omega arith) })

-- what is held of small pushes is within its range
pub stored_from : (ms : List Meeting) → All (λ (m : Meeting). IsSmall m.push) ms → AreStored (map held_in ms)
unfolding held_in
stored_from ms small = All-map (λ (e : Held). Within (widened e.h) MAX_DISPLACEMENT) held_in ms (λ k d lt. (small k d lt).h)

-- the plain step is the step of all meetings
step_is : (s : SceneValue) (st : State) (met : Met) (r : Result (List Body) End) (centers : List Vec3) → centers ≡ centers_of s st.bodies →
    Holds s st.bodies centers st.held (all_pairs s) met →
    advanced_from s (st.step + 1) 0 s.clumps st.bodies met.loads.items ≡ r →
    step_of s st ≡ state_with (st.step + 1) (meetings s st.bodies centers st.held (all_pairs s)) r
unfolding step_of step_with
step_is s st met r centers e h adv =
    ap (λ cs. state_with (st.step + 1) (meetings s st.bodies cs st.held (all_pairs s)) (advanced_from s (st.step + 1) 0 s.clumps st.bodies (loads_of s (meetings s st.bodies cs st.held (all_pairs s))))) (sym e)
    ∙ ap (λ ws. state_with (st.step + 1) (meetings s st.bodies centers st.held (all_pairs s)) (advanced_from s (st.step + 1) 0 s.clumps st.bodies ws)) (sym h.sums)
    ∙ ap (state_with (st.step + 1) (meetings s st.bodies centers st.held (all_pairs s))) adv

-- the step with all meetings
pub step_made : (s : SceneValue) (st : State) (met : Met) (next : List Body) (centers : List Vec3) → centers ≡ centers_of s st.bodies →
    Holds s st.bodies centers st.held (all_pairs s) met →
    advanced_from s (st.step + 1) 0 s.clumps st.bodies met.loads.items ≡ Ok next → AreSound s next →
    IsNext s st (record { step = st.step + 1; bodies = next; held = met.held })
step_made s st met next centers e h ok sound = record {
  step = step_is s st met (Ok next) centers e h ok
      ∙ unfold state_with in ap (λ es. Ok (record { step = st.step + 1; bodies = next; held = es })) (sym h.kept);
  number = refl;
  bodies = sound;
  held = subst AreStored (sym h.kept) (stored_from (meetings s st.bodies centers st.held (all_pairs s)) h.small);
}

-- the step ends where a clump passes a limit
pub step_ends : (s : SceneValue) (st : State) (met : Met) (end : End) (centers : List Vec3) → centers ≡ centers_of s st.bodies →
    Holds s st.bodies centers st.held (all_pairs s) met →
    advanced_from s (st.step + 1) 0 s.clumps st.bodies met.loads.items ≡ Err end → step_of s st ≡ Err end
step_ends s st met end centers e h err = step_is s st met (Err end) centers e h err ∙ unfold state_with in refl

-- the next state is that of the plain run
pub plain_next : (s : SceneValue) (st next : State) → plain_at s st.step ≡ Some st → st.step < s.steps → IsNext s st next → plain_at s next.step ≡ Some next
unfolding plain_at run_after state_after
plain_next s st next plain lt h =
    let e : next.step ≡ suc st.step = h.number ∙ add-one st.step in
    let here : plain_at s (suc st.step) ≡ Some next = rw (plain, lt-ltb st.step s.steps lt, h.step) refl in
    subst (λ n. plain_at s n ≡ Some next) (sym e) here

-- the first state is that of the plain run
pub plain_first : (s : SceneValue) → plain_at s 0 ≡ Some (first_state s)
unfolding plain_at run_after
plain_first s = refl

-- the bodies of the first state are sound
pub first_sound : (s : SceneValue) → IsSound s → AreSound s (first_state s).bodies
unfolding first_state body_at clump_at
first_sound s sound = record {
  count = length-map s.clumps (λ (c : Clump). c.body);
  each = λ k lt.
      let e : get_or (map (λ (c : Clump). c.body) s.clumps) k still_body ≡ (get_or s.clumps k no_clump).body = get_or-map (λ (c : Clump). c.body) s.clumps k no_clump still_body lt in
      subst (IsBodyOf s (get_or s.clumps k no_clump)) (sym e) (sound.clumps k no_clump lt).body;
}

-- ---- what is held for a pair

held_at-cons : (e : Held) (es : List Held) (p : Pair) (b : Bool) → same_pair e.pair p ≡ b → held_at (e ∷ es) p ≡ cond b (Some e.h) (held_at es p)
unfolding held_at
held_at-cons e es p true same = rw same refl
held_at-cons e es p false same = rw same refl

held_at-drop : (es : List Held) (i : ℕ) (p : Pair) (d : Held) (b : Bool) → i < length es → same_pair (get_or es i d).pair p ≡ b →
    held_at (drop i es) p ≡ cond b (Some (get_or es i d).h) (held_at (drop (i + 1) es) p)
held_at-drop es i p d b lt same =
    ap (λ xs. held_at xs p) (drop_more es i d lt) ∙ held_at-cons (get_or es i d) (drop (i + 1) es) p b same

-- the entry is that of the pair
pub held_found : (es : List Held) (i : ℕ) (p : Pair) (d : Held) → i < length es → same_pair (get_or es i d).pair p ≡ true →
    held_at (drop i es) p ≡ held_at es p → Some (get_or es i d).h ≡ held_at es p
held_found es i p d lt same h = sym (sym h ∙ held_at-drop es i p d true lt same)

-- the entry is that of another pair
pub held_passed : (es : List Held) (i : ℕ) (p : Pair) (d : Held) → i < length es → same_pair (get_or es i d).pair p ≡ false →
    held_at (drop i es) p ≡ held_at es p → held_at (drop (i + 1) es) p ≡ held_at es p
held_passed es i p d lt same h = sym (held_at-drop es i p d false lt same) ∙ h

-- no entry is that of the pair
pub held_none : (es : List Held) (i : ℕ) (p : Pair) → length es ≤ i → held_at (drop i es) p ≡ held_at es p →
    None ≡ held_at es p
unfolding held_at
held_none es i p le h =
    let none : drop i es ≡ [] = drop_all i es le in
    sym (sym h ∙ ap (λ xs. option_map (λ (e : Held). e.h) (find (λ (e : Held). same_pair e.pair p) xs)) none)

-- ---- what a run keeps

pub length-centers_of : (s : SceneValue) (bodies : List Body) → length (centers_of s bodies) ≡ sphere_count s
unfolding centers_of sphere_count
length-centers_of s bodies = length-map (spheres_of s) (placed bodies)

-- where all is filled there is a matrix for each clump, and a center and a side for each sphere
pub filled_places : (s : SceneValue) (bodies : List Body) (spheres : Spheres) → AreMatrices s bodies spheres.matrices → spheres.centers ≡ centers_of s bodies → AreSides s bodies spheres.sides → HasPlaces s spheres
filled_places s bodies spheres matrices e sides = record { matrices = matrices.count; centers = ap length e ∙ length-centers_of s bodies; sides = sides.count }

-- a run with room is a run
pub run_kept : (s : SceneValue) (old new : Spheres) (st : State) (from_first : Bool) → IsRun s old st from_first → HasPlaces s new → IsRun s new st from_first
run_kept s old new st from_first run room = record {
  scene = run.scene;
  room = room;
  plain = run.plain;
  bodies = run.bodies;
  held = run.held;
}

-- a run goes on with the next state
pub run_next : (s : SceneValue) (old new : Spheres) (st next : State) (from_first : Bool) → IsRun s old st from_first → HasPlaces s new →
    st.step < s.steps → IsNext s st next → IsRun s new next from_first
run_next s old new st next from_first run room lt h = record {
  scene = run.scene;
  room = room;
  plain = λ e. plain_next s st next (run.plain e) lt h;
  bodies = h.bodies;
  held = h.held;
}

-- the first state, put together
pub first_is : (s : SceneValue) (bodies : List Body) (held : List Held) → bodies ≡ (first_state s).bodies → held ≡ [] →
    ◌≡◌ {A = State} (record { step = 0; bodies = bodies; held = held }) (first_state s)
unfolding first_state
first_is s bodies held e none =
    ap (λ (b : List Body). let st : State = record { step = 0; bodies = b; held = held } in st) e
    ∙ ap (λ (h : List Held). let st : State = record { step = 0; bodies = map (λ (c : Clump). c.body) s.clumps; held = h } in st) none

-- the bodies of the first state are sound, it is that of the plain run, and its displacements are stored
pub begins_sound : (s shapes : SceneValue) (bodies : List Body) → shapes ≡ s → IsSound shapes → bodies ≡ (first_state s).bodies → AreSound shapes bodies
begins_sound s shapes bodies same sound e =
    subst (AreSound shapes) (sym (e ∙ ap (λ x. (first_state x).bodies) (sym same))) (first_sound shapes sound)

pub begins_plain : (s shapes : SceneValue) (bodies : List Body) (held : List Held) → shapes ≡ s → bodies ≡ (first_state s).bodies → held ≡ [] →
    plain_at shapes 0 ≡ Some (record { step = 0; bodies = bodies; held = held })
begins_plain s shapes bodies held same e none =
    plain_first shapes ∙ ap Some (sym (first_is shapes bodies held (e ∙ ap (λ x. (first_state x).bodies) (sym same)) none))

-- the run that stands at the first state
pub begins_run : {E : Type 0} (s shapes : SceneValue) (bodies : List Body) (held : List Held) (r : Result Run E) → shapes ≡ s → bodies ≡ (first_state s).bodies → held ≡ [] →
    IfOk r (λ run. run ≡ record { scene = shapes; state = record { step = 0; bodies = bodies; held = held }; from_first = true }) →
    IfOk r (λ run. run ≡ record { scene = s; state = first_state s; from_first = true })
begins_run s shapes bodies held r same e none made =
    let begun : SceneValue → State → Run = λ x st. record { scene = x; state = st; from_first = true } in
    let first : State = record { step = 0; bodies = bodies; held = held } in
    subst (λ (st : State). IfOk r (λ run. run ≡ begun s st)) (first_is s bodies held e none)
    (subst (λ (x : SceneValue). IfOk r (λ run. run ≡ begun x first)) same made)

pub begins_stored : (held : List Held) → held ≡ [] → AreStored held
begins_stored held none = subst AreStored (sym none) (All-nil (λ (x : Held). Within (widened x.h) MAX_DISPLACEMENT))

-- the meetings, over the state that their lists are of
holds_of : (s : SceneValue) (st : State) (met : Met) (bodies : List Body) (held : List Held) (centers : List Vec3) → bodies ≡ st.bodies → held ≡ st.held →
    Holds s bodies centers held (all_pairs s) met → Holds s st.bodies centers st.held (all_pairs s) met
holds_of s st met bodies held centers b e h =
    subst (λ xs. Holds s xs centers st.held (all_pairs s) met) b (subst (λ es. Holds s bodies centers es (all_pairs s) met) e h)

-- the next state is made of the meetings and the bodies
pub next_made : (s : SceneValue) (st : State) (met : Met) (bodies next : List Body) (held : List Held) (loads : List Load) (centers : List Vec3) →
    bodies ≡ st.bodies → held ≡ st.held → loads ≡ met.loads.items → centers ≡ centers_of s st.bodies →
    Holds s bodies centers held (all_pairs s) met → Advances s (st.step + 1) bodies loads (Ok next) →
    IsNext s st (record { step = st.step + 1; bodies = next; held = met.held })
next_made s st met bodies next held loads centers b e l filled h a =
    step_made s st met next centers filled (holds_of s st met bodies held centers b e h)
    (subst (λ xs. advanced_from s (st.step + 1) 0 s.clumps xs met.loads.items ≡ Ok next) b
    (subst (λ ws. advanced_from s (st.step + 1) 0 s.clumps bodies ws ≡ Ok next) l a.0))
    a.1

-- the step stops where the bodies stop
pub next_stops : (s : SceneValue) (st : State) (met : Met) (stop : Stop) (bodies : List Body) (held : List Held) (loads : List Load) (centers : List Vec3) →
    bodies ≡ st.bodies → held ≡ st.held → loads ≡ met.loads.items → centers ≡ centers_of s st.bodies →
    Holds s bodies centers held (all_pairs s) met → Advances s (st.step + 1) bodies loads (Err stop) → IsAfter s st (Err stop)
next_stops s st met (Ended end) bodies held loads centers b e l filled h a =
    step_ends s st met end centers filled (holds_of s st met bodies held centers b e h)
    (subst (λ xs. advanced_from s (st.step + 1) 0 s.clumps xs met.loads.items ≡ Err end) b
    (subst (λ ws. advanced_from s (st.step + 1) 0 s.clumps bodies ws ≡ Err end) l a))
next_stops s st met OutOfMemory bodies held loads centers b e l filled h a = tt
