-- What each call of a seat owes its table, and what the seat keeps.
use Rattle.std.proofs.Common.{◌≡◌, ℕ, ◌+◌, ◌==◌, false, List, [], ◌∷◌, Option, Some, None, refl, sym, ap, ◌∙◌, subst}
use mathlib.Core.Option.{none}
use prog.Atomic.{either}
use Rattle.atomic_table.specs.Table.{Allows, Splits, step, rest}
use Rattle.dem_swap.specs.declared.known.View.{View}
use Rattle.dem_swap.specs.declared.known.View.TheVariants.{OfDynamics, OfKinematics}
use Rattle.dem_swap.specs.declared.parcel.Parcel.{Parcel}
use Rattle.dem_model.specs.Exchange.{Terms, DynamicsView, KinematicsView, IsSoundFor, IsAnswer}
use Rattle.dem_model.specs.ExchangeKinds.{HoldsHome, HoldsTaken, beginning, newcomer}
use Rattle.dem_swap.specs.Cycle.{snap_of, cargo_of, KeepsCycle, dynamics_in, kinematics_in, Side, held_with, Posts, Takes, Delivers, Collects, Checks, Raises, Begins, left_of, right_of}
use Rattle.dem_swap.specs.Seats.{IsDynSeat, IsKinSeat}
use Rattle.dem_swap.proofs.CycleFacts.{post_allowed, take_allowed, deliver_allowed, collect_allowed, check_allowed, raise_allowed, begin_allowed, split_allowed}

-- a raise
pub raise_from : (slots id : ℕ) (m : Side) → IsDynSeat id m → Allows KeepsCycle slots id m 1 (λ _. 1) (λ _. Raises (step slots 1 1 0 none) m 1)
raise_from slots id m seat =
    subst (λ (z : ℕ × Side). Allows KeepsCycle slots z.0 z.1 1 (λ _. 1) (λ _. Raises (step slots 1 1 0 none) z.1 1)) (λ j. (sym seat.first j, (sym seat.view_is j, m.1)))
    (raise_allowed slots (dynamics_in m.0) m.1)

-- a collect
pub collect_from : (slots id : ℕ) (m : Side) → IsDynSeat id m → Allows KeepsCycle slots id m 0 (λ n. either (n == 3) 0 n) (Collects (step slots 0 3 0 none) m)
collect_from slots id m seat =
    subst (λ (z : ℕ × Side). Allows KeepsCycle slots z.0 z.1 0 (λ n. either (n == 3) 0 n) (Collects (step slots 0 3 0 none) z.1)) (λ j. (sym seat.first j, (sym seat.view_is j, m.1)))
    (collect_allowed slots (dynamics_in m.0) m.1)

-- a take
pub take_from : (slots id : ℕ) (m : Side) → IsKinSeat m → Allows KeepsCycle slots id m 0 (λ n. either (n == 1) 2 n) (Takes (step slots 0 1 2 none) m)
take_from slots id m seat =
    subst (λ (z : Side). Allows KeepsCycle slots id z 0 (λ n. either (n == 1) 2 n) (Takes (step slots 0 1 2 none) z)) (λ j. (sym seat.view_is j, m.1))
    (take_allowed slots id (kinematics_in m.0) m.1)

-- a look at the stop word
pub check_from : (slots id : ℕ) (m : Side) → IsKinSeat m → Allows KeepsCycle slots id m 1 (λ n. n) (Checks (step slots 1 0 0 none) m)
check_from slots id m seat =
    subst (λ (z : Side). Allows KeepsCycle slots id z 1 (λ n. n) (Checks (step slots 1 0 0 none) z)) (λ j. (sym seat.view_is j, m.1))
    (check_allowed slots id (kinematics_in m.0) m.1)

-- what a seat of dynamics that holds the parcel has once the parcel lies in the slot
pub filled_home : (id : ℕ) (m n : Side) (v : DynamicsView) (p : Parcel) → IsDynSeat id m → dynamics_in m.0 ≡ v → n ≡ (m.0, (0, Some p) ∷ rest m.1) → HoldsHome v
    → n ≡ (OfDynamics v, held_with (Some p) [])
filled_home id m n v p seat is new home =
    let held : m.1 ≡ held_with None [] = seat.home (subst HoldsHome (sym is) home) in
    new ∙ λ j. ((seat.view_is ∙ ap OfDynamics is) j, (0, Some p) ∷ rest (held j))

-- what a seat of kinematics that holds the parcel has once the parcel lies in the slot
pub filled_taken : (m n : Side) (v : KinematicsView) (p : Parcel) → IsKinSeat m → kinematics_in m.0 ≡ v → n ≡ (m.0, (0, Some p) ∷ rest m.1) → HoldsTaken v (snap_of p.snap)
    → n ≡ (OfKinematics v, held_with (Some p) [])
filled_taken m n v p seat is new taken =
    let held : m.1 ≡ held_with None [] = seat.one_held (subst (λ (k : KinematicsView). k.taken ≡ k.delivered + 1) (sym is) taken.one) in
    new ∙ λ j. ((seat.view_is ∙ ap OfKinematics is) j, (0, Some p) ∷ rest (held j))

-- a post
pub post_from : (slots id id' : ℕ) (n : Side) (v : DynamicsView) (p : Parcel) → id ≡ 0 → id' ≡ id → n ≡ (OfDynamics v, held_with (Some p) []) → v.alone ≡ false → HoldsHome v → IsSoundFor v.terms (snap_of p.snap)
    → Allows KeepsCycle slots id' n 0 (λ _. 1) (λ _. Posts (step slots 0 1 0 none) n 1)
post_from slots id id' n v p first same is company home sound =
    subst (λ (z : ℕ × Side). Allows KeepsCycle slots z.0 z.1 0 (λ _. 1) (λ _. Posts (step slots 0 1 0 none) z.1 1)) (λ j. (sym (same ∙ first) j, sym is j)) (post_allowed slots v p company home sound)

-- a delivery
pub deliver_from : (slots id : ℕ) (n : Side) (v : KinematicsView) (p : Parcel) → n ≡ (OfKinematics v, held_with (Some p) []) → HoldsTaken v (snap_of p.snap) → IsAnswer v.terms (cargo_of p)
    → Allows KeepsCycle slots id n 0 (λ _. 3) (λ _. Delivers (step slots 0 3 0 none) n 3)
deliver_from slots id n v p is taken answer =
    subst (λ (z : Side). Allows KeepsCycle slots id z 0 (λ _. 3) (λ _. Delivers (step slots 0 3 0 none) z 3)) (sym is) (deliver_allowed slots id v p taken answer)

-- a seat that has just taken the slot, with something in it
pub taken_slot : (v : View) (n : Side) (content : Option Parcel) (h : List (ℕ × Option Parcel)) → n ≡ (v, held_with content h) → n.1 ≡ (0, content) ∷ rest n.1
taken_slot v n content h is = subst (λ (z : Side). z.1 ≡ (0, content) ∷ rest z.1) (sym is) refl

-- the beginning
pub begin_from : (slots id : ℕ) (m : Side) (t : Terms) → id ≡ 0 → m ≡ (OfDynamics newcomer, []) → Allows KeepsCycle slots id m 0 (λ n. n) (Begins t (step slots 0 0 0 none) m)
begin_from slots id m t first fresh =
    subst (λ (z : ℕ × Side). Allows KeepsCycle slots z.0 z.1 0 (λ n. n) (Begins t (step slots 0 0 0 none) z.1)) (λ j. (sym first j, sym fresh j)) (begin_allowed slots t)

-- what the first seat knows once it has begun
pub begun : (m n : Side) (t : Terms) → m ≡ (OfDynamics newcomer, []) → n ≡ (OfDynamics (beginning (dynamics_in m.0) t), held_with None []) → n ≡ (OfDynamics (beginning newcomer t), held_with None [])
begun m n t fresh is = is ∙ ap (λ (z : Side). (OfDynamics (beginning (dynamics_in z.0) t), held_with None [])) fresh

-- the split
pub split_from : (id id' : ℕ) (n : Side) (t : Terms) → id ≡ 0 → id' ≡ id → n ≡ (OfDynamics (beginning newcomer t), held_with None []) → Splits KeepsCycle id' n.0 (left_of n.0) (right_of n.0)
split_from id id' n t first same is =
    subst (λ (z : ℕ × Side). Splits KeepsCycle z.0 z.1.0 (left_of z.1.0) (right_of z.1.0)) (λ j. (sym (same ∙ first) j, sym is j)) (split_allowed t)
