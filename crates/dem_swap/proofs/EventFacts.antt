-- Each atomic step is the event that it stands for.
use Rattle.std.proofs.Common.{◌≡◌, ℕ, zero, suc, ◌+◌, true, List, [], ◌∷◌, length, Option, Some, None, refl, sym, ap, ◌∙◌, subst, arith}
use Rattle.std.specs.Prelude.{slice_get, false, unwrap_or}
use Rattle.dem_model.specs.World.{Snap, Taken, Delivered, is_home, is_posted, is_taken, is_delivered, carried_by}
use Rattle.dem_model.specs.Exchange.{Slot, DynamicsView, KinematicsView, Exchange, Turns, Follows}
use Rattle.dem_model.specs.ExchangeKinds.{HoldsHome}
use Rattle.dem_model.specs.ExchangeSteps.{Kind, Post, Take, Deliver, Collect, DynamicsSeesTurn, DynamicsSeesStop, KinematicsSeesTurn, KinematicsSeesStop, Split, Raise, Begin, Leads}
use Rattle.dem_swap.specs.ExchangeEvents.{first_snap, place_by, place_of, Moves}
use Rattle.dem_swap.proofs.KindFacts as kinds

home_turn : (turn : ℕ) (slot : Slot) (d : DynamicsView) (k : KinematicsView) → Turns turn slot d k → HoldsHome d → turn ≡ 0
home_turn zero slot d k t home = refl
home_turn (suc zero) slot d k t home = let e = t.0.0 in let h : length d.posted ≡ d.collected = home in absurd (omega arith)
home_turn (suc (suc zero)) slot d k t home = let e = t.0.0 in let h : length d.posted ≡ d.collected = home in absurd (omega arith)
home_turn (suc (suc (suc zero))) slot d k t home = let e = t.0.0 in let h : length d.posted ≡ d.collected = home in absurd (omega arith)
home_turn (suc (suc (suc (suc n)))) slot d k t home = absurd t

held_turn : (turn : ℕ) (slot : Slot) (d : DynamicsView) (k : KinematicsView) → Turns turn slot d k → k.taken ≡ k.delivered + 1 → turn ≡ 2
held_turn zero slot d k t one = let a = t.0.1 in let b = t.0.2 in absurd (omega arith)
held_turn (suc zero) slot d k t one = let a = t.0.1 in let b = t.0.2 in absurd (omega arith)
held_turn (suc (suc zero)) slot d k t one = refl
held_turn (suc (suc (suc zero))) slot d k t one = let a = t.0.1 in let b = t.0.2 in absurd (omega arith)
held_turn (suc (suc (suc (suc n)))) slot d k t one = absurd t

last_is_first : (posted : List Snap) (s : Snap) → slice_get posted 0 ≡ Some s → first_snap posted ≡ s
last_is_first [] s e = ap (λ (o : Option Snap). unwrap_or o (first_snap [])) e
last_is_first (x ∷ xs) s e = ap (λ (o : Option Snap). unwrap_or o s) e

at_home : (turn : ℕ) (s : Snap) → turn ≡ 0 → is_home (place_by turn s) ≡ true
unfolding is_home
at_home turn s e = subst (λ n. is_home (place_by n s) ≡ true) (sym e) refl

at_posted : (turn : ℕ) (s : Snap) → turn ≡ 1 → (is_posted (place_by turn s) ≡ true) × (Taken s ≡ Taken (carried_by (place_by turn s)))
unfolding is_posted carried_by
at_posted turn s e = subst (λ n. (is_posted (place_by n s) ≡ true) × (Taken s ≡ Taken (carried_by (place_by n s)))) (sym e) (refl, refl)

at_taken : (turn : ℕ) (s : Snap) → turn ≡ 2 → (is_taken (place_by turn s) ≡ true) × (Delivered s ≡ Delivered (carried_by (place_by turn s))) × (carried_by (place_by turn s) ≡ s)
unfolding is_taken carried_by
at_taken turn s e = subst (λ n. (is_taken (place_by n s) ≡ true) × (Delivered s ≡ Delivered (carried_by (place_by n s))) × (carried_by (place_by n s) ≡ s)) (sym e) (refl, refl, refl)

at_delivered : (turn : ℕ) (s : Snap) → turn ≡ 3 → is_delivered (place_by turn s) ≡ true
unfolding is_delivered
at_delivered turn s e = subst (λ n. is_delivered (place_by n s) ≡ true) (sym e) refl

-- dynamics that holds the parcel in company: the turn word is 0
home_turn_any : (turn stop : ℕ) (slot : Slot) (d : DynamicsView) (k : Option KinematicsView) → Follows (kinds.at turn stop slot d k) → d.alone ≡ false → HoldsHome d → turn ≡ 0
home_turn_any turn stop slot d None f company home = f.sides.turn_is
home_turn_any turn stop slot d (Some k) f company home = home_turn turn slot d k f.sides.turns home

pub moves : (kind : Kind) (x y : Exchange) → Follows x → Leads kind x y → Moves kind (place_of x) (place_of y)
moves (Post c) x y f l = (at_home x.turn (first_snap x.dynamics.posted) (home_turn_any x.turn x.stop x.slot x.dynamics x.kinematics f l.in_company l.home), ap place_of l.becomes)
moves Take x y f l = let w = at_posted x.turn (first_snap x.dynamics.posted) l.turn_is in (w.0, ap place_of l.becomes ∙ w.1)
moves (Deliver c) x y f l =
    let g = subst (λ (o : Option KinematicsView). Follows (record x { kinematics = o })) l.kinematics_is f in
    let two = held_turn x.turn x.slot x.dynamics l.view g.sides.turns l.taken.one in
    let h = kinds.held_counts x.turn x.slot x.dynamics l.view g.sides.turns l.taken.one in
    let s = first_snap x.dynamics.posted in
    let same : s ≡ c.snap = last_is_first x.dynamics.posted c.snap (h.1.2 ∙ (sym h.1.1 ∙ l.taken.copy_is)) in
    let w = at_taken x.turn s two in
    (w.0, ap place_of l.becomes ∙ w.1, w.2 ∙ same)
moves Collect x y f l = (at_delivered x.turn (first_snap x.dynamics.posted) l.turn_is, ap place_of l.becomes)
moves DynamicsSeesTurn x y f l = ap place_of l
moves DynamicsSeesStop x y f l = ap place_of l
moves KinematicsSeesTurn x y f l = ap place_of l.2
moves KinematicsSeesStop x y f l = ap place_of l.2
moves Split x y f l = ap place_of l.becomes
moves Raise x y f l = ap place_of l
moves (Begin t) x y f l = ap place_of l.becomes
