-- Each step of a seat keeps the rule of the table.
use Rattle.std.proofs.Common.{◌≡◌, ℕ, zero, suc, true, false, List, [], ◌∷◌, ◌++◌, ◌==◌, Option, Some, None, refl, sym, ap, ◌∙◌, subst, arith, ne_eqb}
use Rattle.std.specs.Prelude.{slice_index, slice_set}
use mathlib.Core.Option.{Option as Home, none, some, some-injective, some-ne-none}
use mathlib.Core.Logic.{dite}
use native.Mathlib.Decide.{ℕ_discrete}
use prog.Atomic.{either}
use lib.ListN.{get_elem?}
use Rattle.atomic_table.specs.Table.{State, Act, keeps, takes, gives, stepped, carried_after, Valid, Allows, Splits, step}
use Rattle.dem_swap.specs.declared.known.View.{View}
use Rattle.dem_swap.specs.declared.known.View.TheVariants.{OfDynamics, OfKinematics}
use Rattle.dem_swap.specs.declared.parcel.Parcel.{Parcel}
use Rattle.dem_model.specs.World.{Snap}
use Rattle.dem_model.specs.Exchange.{Terms, Slot, Away, Empty, Full, DynamicsView, KinematicsView, IsSoundFor, IsAnswer, Follows}
use Rattle.dem_model.specs.ExchangeKinds.{HoldsHome, HoldsTaken, posting, taking, delivering, collecting, dynamics_looking, kinematics_looking, kinematics_checking, accompanied, beside, raising, beginning, newcomer}
use Rattle.dem_swap.specs.Cycle.{snap_of, cargo_of, slot_of, others, table_of, exchange_of, KeepsCycle, dynamics_in, kinematics_in, Side, held_with, Posts, Takes, Delivers, Collects, Checks, Raises, Begins, left_of, right_of}
use Rattle.dem_swap.proofs.KindFacts as kinds

abbrev Table : Type 0
Table = State (Option Parcel) View

-- what a step at a table owes
abbrev Goes : Table → ℕ → Side → ℕ → (ℕ → ℕ) → (ℕ → Side → Type 0) → Type 0
Goes s id m i f then =
    (w : View) × (a : Act (Option Parcel)) × Valid s.homes m.1 a × KeepsCycle (stepped s i (f (slice_index s.words i)) id m.1 w a) × then (slice_index s.words i) (w, carried_after m.1 a)

-- the table of an exchange that follows the rule keeps it
keeps_rule : (turn stop : ℕ) (home : Home (Option Parcel)) (d : DynamicsView) (k : Option KinematicsView) → Follows (exchange_of turn stop home d k) → KeepsCycle (table_of turn stop home d k)
keeps_rule turn stop home d k f = record { turn = turn; stop = stop; home = home; dynamics = d; kinematics = k; table = refl; follows = f }

-- a step of dynamics: at whatever exchange of its view follows the rule
by_dynamics : (slots : ℕ) (d : DynamicsView) (h : List (ℕ × Option Parcel)) (i : ℕ) (f : ℕ → ℕ) (then : ℕ → Side → Type 0)
    → ((turn stop : ℕ) (home : Home (Option Parcel)) (k : Option KinematicsView) → Follows (exchange_of turn stop home d k) → Goes (table_of turn stop home d k) 0 (OfDynamics d, h) i f then)
    → Allows KeepsCycle slots 0 (OfDynamics d, h) i f then
by_dynamics slots d h i f then goes s c _ seated _ =
    let there : some (OfDynamics c.dynamics) ≡ some (OfDynamics d) = subst (λ (x : Table). get_elem? x.views 0 ≡ some (OfDynamics d)) c.table seated in
    let same : c.dynamics ≡ d = ap dynamics_in (some-injective (OfDynamics c.dynamics) (OfDynamics d) there) in
    let table : s ≡ table_of c.turn c.stop c.home d c.kinematics = c.table ∙ ap (λ (x : DynamicsView). table_of c.turn c.stop c.home x c.kinematics) same in
    subst (λ (x : Table). Goes x 0 (OfDynamics d, h) i f then) (sym table)
    (goes c.turn c.stop c.home c.kinematics (subst (λ (x : DynamicsView). Follows (exchange_of c.turn c.stop c.home x c.kinematics)) same c.follows))

abbrev IsDynamics : View → Type 0
IsDynamics (OfDynamics d) = Unit {0}
IsDynamics (OfKinematics k) = ⊥

-- a seat with a view of kinematics is the second, and kinematics is there
second : (id : ℕ) (d : DynamicsView) (o : Option KinematicsView) (k : KinematicsView) → get_elem? (OfDynamics d ∷ others o) id ≡ some (OfKinematics k) → (id ≡ 1) × (o ≡ Some k)
second zero d o k e = absurd (subst IsDynamics (some-injective (OfDynamics d) (OfKinematics k) e) tt)
second (suc zero) d None k e = absurd (some-ne-none (OfKinematics k) (sym e))
second (suc zero) d (Some x) k e = (refl, ap (λ (v : View). Some (kinematics_in v)) (some-injective (OfKinematics x) (OfKinematics k) e))
second (suc (suc n)) d None k e = absurd (some-ne-none (OfKinematics k) (sym e))
second (suc (suc n)) d (Some x) k e = absurd (some-ne-none (OfKinematics k) (sym e))

-- a step of kinematics: at whatever exchange of its view follows the rule
by_kinematics : (slots id : ℕ) (k : KinematicsView) (h : List (ℕ × Option Parcel)) (i : ℕ) (f : ℕ → ℕ) (then : ℕ → Side → Type 0)
    → ((turn stop : ℕ) (home : Home (Option Parcel)) (d : DynamicsView) → Follows (exchange_of turn stop home d (Some k)) → Goes (table_of turn stop home d (Some k)) 1 (OfKinematics k, h) i f then)
    → Allows KeepsCycle slots id (OfKinematics k, h) i f then
by_kinematics slots id k h i f then goes s c _ seated _ =
    let there : get_elem? (OfDynamics c.dynamics ∷ others c.kinematics) id ≡ some (OfKinematics k) = subst (λ (x : Table). get_elem? x.views id ≡ some (OfKinematics k)) c.table seated in
    let w = second id c.dynamics c.kinematics k there in
    let table : s ≡ table_of c.turn c.stop c.home c.dynamics (Some k) = c.table ∙ ap (table_of c.turn c.stop c.home c.dynamics) w.1 in
    subst (λ (z : Table × ℕ). Goes z.0 z.1 (OfKinematics k, h) i f then) (λ j. (sym table j, sym w.0 j))
    (goes c.turn c.stop c.home c.dynamics (subst (λ (x : Option KinematicsView). Follows (exchange_of c.turn c.stop c.home c.dynamics x)) w.1 c.follows))

abbrev snap_carried : Option Parcel → Snap
snap_carried None = record { step = 0; bodies = [] }
snap_carried (Some p) = snap_of p.snap

abbrev snap_held : List (ℕ × Option Parcel) → Snap
snap_held [] = record { step = 0; bodies = [] }
snap_held (x ∷ xs) = snap_carried x.1

told : (d : DynamicsView) (p q : Parcel) → held_with (Some p) [] ≡ held_with (Some q) [] → Path Side (OfDynamics (posting d (snap_of p.snap)), []) (OfDynamics (posting d (snap_of q.snap)), [])
told d p q e = ap (λ l. (OfDynamics (posting d (snap_held l)), [])) e

-- 1
pub post_allowed : (slots : ℕ) (d : DynamicsView) (p : Parcel) → d.alone ≡ false → HoldsHome d → IsSoundFor d.terms (snap_of p.snap)
    → Allows KeepsCycle slots 0 (OfDynamics d, held_with (Some p) []) 0 (λ _. 1) (λ _. Posts (step slots 0 1 0 none) (OfDynamics d, held_with (Some p) []) 1)
post_allowed slots d p company home sound =
    by_dynamics slots d (held_with (Some p) []) 0 (λ _. 1) (λ _. Posts (step slots 0 1 0 none) (OfDynamics d, held_with (Some p) []) 1) (λ turn stop place k f. (
      OfDynamics (posting d (snap_of p.snap)),
      gives,
      tt,
      keeps_rule 1 stop (some (Some p)) (posting d (snap_of p.snap)) k (kinds.posts turn stop (slot_of place) d k (cargo_of p) company home sound f),
      told d p,
    ))

-- what a take finds where the word is 1
take_hit : (slots stop : ℕ) (place : Home (Option Parcel)) (d : DynamicsView) (k : KinematicsView) (h : List (ℕ × Option Parcel)) → Follows (exchange_of 1 stop place d (Some k))
    → Goes (table_of 1 stop place d (Some k)) 1 (OfKinematics k, h) 0 (λ n. either (n == 1) 2 n) (Takes (step slots 0 1 2 none) (OfKinematics k, h))
take_hit slots stop none d k h f = absurd f.sides.turns.1
take_hit slots stop (some None) d k h f = absurd f.sides.turns.1
take_hit slots stop (some (Some p)) d k h f =
    let n = f.sides.turns.0 in (
      OfKinematics (taking k (snap_of p.snap)),
      takes 0 (Some p),
      refl,
      keeps_rule 2 stop none d (Some (taking k (snap_of p.snap))) (kinds.takes stop d k (cargo_of p) f),
      (
        (λ e. (p, refl, n.1 ∙ sym n.2, subst (λ (o : Option Terms). IsSoundFor o (snap_of p.snap)) (sym f.sides.terms_are) f.sides.slot_sound)),
        λ ne. absurd (ne refl),
      ),
    )

-- 2
pub take_allowed : (slots id : ℕ) (k : KinematicsView) (h : List (ℕ × Option Parcel)) → Allows KeepsCycle slots id (OfKinematics k, h) 0 (λ n. either (n == 1) 2 n) (Takes (step slots 0 1 2 none) (OfKinematics k, h))
take_allowed slots id k h =
    let then : ℕ → Side → Type 0 = Takes (step slots 0 1 2 none) (OfKinematics k, h) in
    by_kinematics slots id k h 0 (λ n. either (n == 1) 2 n) then (λ turn stop place d f. dite (ℕ_discrete turn 1)
    (λ hit. subst (λ (n : ℕ). Goes (table_of n stop place d (Some k)) 1 (OfKinematics k, h) 0 (λ n. either (n == 1) 2 n) then) (sym hit)
    (take_hit slots stop place d k h (subst (λ (n : ℕ). Follows (exchange_of n stop place d (Some k))) hit f)))
    (λ miss. (
      OfKinematics (kinematics_looking k turn),
      keeps,
      tt,
      subst (λ b. KeepsCycle (stepped (table_of turn stop place d (Some k)) 0 (either b 2 turn) 1 h (OfKinematics (kinematics_looking k turn)) keeps)) (sym (ne_eqb turn 1 miss))
          (keeps_rule turn stop place d (Some (kinematics_looking k turn)) (kinds.kinematics_looks_at_turn turn stop (slot_of place) d k turn f)),
      ((λ hit. absurd (miss hit)), λ ne. refl),
    )))

-- 3
pub deliver_allowed : (slots id : ℕ) (k : KinematicsView) (p : Parcel) → HoldsTaken k (snap_of p.snap) → IsAnswer k.terms (cargo_of p)
    → Allows KeepsCycle slots id (OfKinematics k, held_with (Some p) []) 0 (λ _. 3) (λ _. Delivers (step slots 0 3 0 none) (OfKinematics k, held_with (Some p) []) 3)
deliver_allowed slots id k p taken answer =
    by_kinematics slots id k (held_with (Some p) []) 0 (λ _. 3) (λ _. Delivers (step slots 0 3 0 none) (OfKinematics k, held_with (Some p) []) 3) (λ turn stop place d f. (
      OfKinematics (delivering k),
      gives,
      tt,
      keeps_rule 3 stop (some (Some p)) d (Some (delivering k)) (kinds.delivers turn stop (slot_of place) d k (cargo_of p) taken answer f),
      refl,
    ))

-- what a collect finds where the word is 3
collect_hit : (slots stop : ℕ) (place : Home (Option Parcel)) (d : DynamicsView) (k : KinematicsView) (h : List (ℕ × Option Parcel)) → Follows (exchange_of 3 stop place d (Some k))
    → Goes (table_of 3 stop place d (Some k)) 0 (OfDynamics d, h) 0 (λ n. either (n == 3) 0 n) (Collects (step slots 0 3 0 none) (OfDynamics d, h))
collect_hit slots stop none d k h f = absurd f.sides.turns.1
collect_hit slots stop (some None) d k h f = absurd f.sides.turns.1
collect_hit slots stop (some (Some p)) d k h f = (
  OfDynamics (collecting d),
  takes 0 (Some p),
  refl,
  keeps_rule 0 stop none (collecting d) (Some k) (kinds.collects stop d k (cargo_of p) f),
  (
    (λ e. (p, refl, f.sides.turns.1.0, f.sides.turns.1.1)),
    λ ne. absurd (ne refl),
  ),
)

not_three : (n : ℕ) → n ≡ 3 → n ≡ 0 → ⊥
not_three n is zero_is = omega arith

-- where the word is 3, dynamics has company
collect_found : (slots stop : ℕ) (place : Home (Option Parcel)) (d : DynamicsView) (k : Option KinematicsView) (h : List (ℕ × Option Parcel)) → Follows (exchange_of 3 stop place d k)
    → Goes (table_of 3 stop place d k) 0 (OfDynamics d, h) 0 (λ n. either (n == 3) 0 n) (Collects (step slots 0 3 0 none) (OfDynamics d, h))
collect_found slots stop place d None h f = absurd (not_three 3 refl f.sides.turn_is)
collect_found slots stop place d (Some k) h f = collect_hit slots stop place d k h f

-- 4
pub collect_allowed : (slots : ℕ) (d : DynamicsView) (h : List (ℕ × Option Parcel)) → Allows KeepsCycle slots 0 (OfDynamics d, h) 0 (λ n. either (n == 3) 0 n) (Collects (step slots 0 3 0 none) (OfDynamics d, h))
collect_allowed slots d h =
    let then : ℕ → Side → Type 0 = Collects (step slots 0 3 0 none) (OfDynamics d, h) in
    by_dynamics slots d h 0 (λ n. either (n == 3) 0 n) then (λ turn stop place k f. dite (ℕ_discrete turn 3)
    (λ hit. subst (λ (n : ℕ). Goes (table_of n stop place d k) 0 (OfDynamics d, h) 0 (λ n. either (n == 3) 0 n) then) (sym hit)
    (collect_found slots stop place d k h (subst (λ (n : ℕ). Follows (exchange_of n stop place d k)) hit f)))
    (λ miss. (
      OfDynamics (dynamics_looking d turn),
      keeps,
      tt,
      subst (λ b. KeepsCycle (stepped (table_of turn stop place d k) 0 (either b 0 turn) 0 h (OfDynamics (dynamics_looking d turn)) keeps)) (sym (ne_eqb turn 3 miss))
          (keeps_rule turn stop place (dynamics_looking d turn) k (kinds.dynamics_looks turn stop (slot_of place) d k turn f)),
      ((λ hit. absurd (miss hit)), λ ne. refl),
    )))

-- 5
pub check_allowed : (slots id : ℕ) (k : KinematicsView) (h : List (ℕ × Option Parcel)) → Allows KeepsCycle slots id (OfKinematics k, h) 1 (λ n. n) (Checks (step slots 1 0 0 none) (OfKinematics k, h))
check_allowed slots id k h =
    by_kinematics slots id k h 1 (λ n. n) (Checks (step slots 1 0 0 none) (OfKinematics k, h)) (λ turn stop place d f. (
      OfKinematics (kinematics_checking k stop),
      keeps,
      tt,
      keeps_rule turn stop place d (Some (kinematics_checking k stop)) (kinds.kinematics_looks_at_stop turn stop (slot_of place) d k f),
      refl,
    ))

-- 7
pub raise_allowed : (slots : ℕ) (d : DynamicsView) (h : List (ℕ × Option Parcel)) → Allows KeepsCycle slots 0 (OfDynamics d, h) 1 (λ _. 1) (λ _. Raises (step slots 1 1 0 none) (OfDynamics d, h) 1)
raise_allowed slots d h =
    by_dynamics slots d h 1 (λ _. 1) (λ _. Raises (step slots 1 1 0 none) (OfDynamics d, h) 1) (λ turn stop place k f. (
      OfDynamics (raising d),
      keeps,
      tt,
      keeps_rule turn 1 place (raising d) k (kinds.raises turn stop (slot_of place) d k f),
      refl,
    ))

abbrev IsEmpty : Slot → Type 0
IsEmpty Away = ⊥
IsEmpty Empty = Unit {0}
IsEmpty (Full c) = ⊥

-- a slot that is at home without a parcel
empty_home : (place : Home (Option Parcel)) → slot_of place ≡ Empty → place ≡ some None
empty_home none e = absurd (subst IsEmpty (sym e) tt)
empty_home (some None) e = refl
empty_home (some (Some p)) e = absurd (subst IsEmpty (sym e) tt)

-- a beginning finds dynamics alone
begin_found : (slots turn stop : ℕ) (place : Home (Option Parcel)) (t : Terms) (k : Option KinematicsView) → Follows (exchange_of turn stop place newcomer k)
    → Goes (table_of turn stop place newcomer k) 0 (OfDynamics newcomer, []) 0 (λ n. n) (Begins t (step slots 0 0 0 none) (OfDynamics newcomer, []))
begin_found slots turn stop place t (Some k) f = absurd (kinds.one_of true f.sides.alone refl)
begin_found slots turn stop place t None f = (
  OfDynamics (beginning newcomer t),
  takes 0 None,
  ap some (empty_home place f.sides.slot_is),
  keeps_rule turn stop none (beginning newcomer t) None (kinds.begins turn stop (slot_of place) newcomer t f),
  refl,
)

-- 8
pub begin_allowed : (slots : ℕ) (t : Terms) → Allows KeepsCycle slots 0 (OfDynamics newcomer, []) 0 (λ n. n) (Begins t (step slots 0 0 0 none) (OfDynamics newcomer, []))
begin_allowed slots t = by_dynamics slots newcomer [] 0 (λ n. n) (Begins t (step slots 0 0 0 none) (OfDynamics newcomer, [])) (λ turn stop place k f. begin_found slots turn stop place t k f)

-- a split finds dynamics alone
split_found : (turn stop : ℕ) (place : Home (Option Parcel)) (t : Terms) (k : Option KinematicsView) → Follows (exchange_of turn stop place (beginning newcomer t) k)
    → KeepsCycle (record { words = turn ∷ stop ∷ []; homes = place ∷ []; views = OfDynamics (accompanied (beginning newcomer t)) ∷ (others k ++ OfKinematics (beside (beginning newcomer t)) ∷ []) })
split_found turn stop place t (Some k) f = absurd (kinds.one_of true f.sides.alone refl)
split_found turn stop place t None f =
    let d = beginning newcomer t in
    keeps_rule turn stop place (accompanied d) (Some (beside d)) (kinds.splits turn stop (slot_of place) d t refl f)

-- 6
pub split_allowed : (t : Terms) → let v : View = OfDynamics (beginning newcomer t) in Splits KeepsCycle 0 v (left_of v) (right_of v)
split_allowed t s c seated =
    let d : DynamicsView = beginning newcomer t in
    let there : some (OfDynamics c.dynamics) ≡ some (OfDynamics d) = subst (λ (x : Table). get_elem? x.views 0 ≡ some (OfDynamics d)) c.table seated in
    let same : c.dynamics ≡ d = ap dynamics_in (some-injective (OfDynamics c.dynamics) (OfDynamics d) there) in
    let table : s ≡ table_of c.turn c.stop c.home d c.kinematics = c.table ∙ ap (λ (x : DynamicsView). table_of c.turn c.stop c.home x c.kinematics) same in
    subst (λ (x : Table). KeepsCycle (record { words = x.words; homes = x.homes; views = slice_set x.views 0 (left_of (OfDynamics d)) ++ right_of (OfDynamics d) ∷ [] })) (sym table)
    (split_found c.turn c.stop c.home t c.kinematics (subst (λ (x : DynamicsView). Follows (exchange_of c.turn c.stop c.home x c.kinematics)) same c.follows))

-- the table as it opens
pub opens_table : KeepsCycle (record { words = 0 ∷ 0 ∷ []; homes = some None ∷ []; views = OfDynamics newcomer ∷ [] })
opens_table = keeps_rule 0 0 (some None) newcomer None kinds.opens
