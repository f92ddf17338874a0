-- The rule holds wherever atomic steps lead.
use Rattle.std.proofs.Common.{◌≡◌, ℕ, Option, Some, None, sym, ap, ◌∙◌, subst, arith}
use Rattle.dem_model.specs.Exchange.{Cargo, Slot, Away, Full, DynamicsView, KinematicsView, Exchange, IsSoundFor, IsAnswer, IsPostedLast, Follows}
use Rattle.dem_model.specs.ExchangeKinds.{beginning}
use Rattle.dem_model.specs.ExchangeSteps.{Kind, Post, Take, Deliver, Collect, DynamicsSeesTurn, DynamicsSeesStop, KinematicsSeesTurn, KinematicsSeesStop, Split, Raise, Begin, Leads, Reached, opened, made}
use Rattle.dem_swap.proofs.KindFacts as kinds

-- an exchange with some parts written anew follows the rule where the very exchange does
with_turn : (x : Exchange) (n : ℕ) → x.turn ≡ n → Follows x → Follows (record x { turn = n })
with_turn x n is f = subst (λ (m : ℕ). Follows (record x { turn = m })) is f

with_slot : (x : Exchange) (slot : Slot) → x.slot ≡ slot → Follows x → Follows (record x { slot = slot })
with_slot x slot is f = subst (λ (s : Slot). Follows (record x { slot = s })) is f

with_kinematics : (x : Exchange) (k : Option KinematicsView) → x.kinematics ≡ k → Follows x → Follows (record x { kinematics = k })
with_kinematics x k is f = subst (λ (o : Option KinematicsView). Follows (record x { kinematics = o })) is f

pub kept : (kind : Kind) (x y : Exchange) → Follows x → Leads kind x y → Follows y
kept (Post c) x y f l = subst Follows (sym l.becomes) (kinds.posts x.turn x.stop x.slot x.dynamics x.kinematics c l.in_company l.home l.sound f)
kept Take x y f l = subst Follows (sym l.becomes)
    (kinds.takes x.stop x.dynamics l.view l.cargo
    (with_kinematics (record x { turn = 1; slot = Full l.cargo }) (Some l.view) l.kinematics_is (with_slot (record x { turn = 1 }) (Full l.cargo) l.slot_is (with_turn x 1 l.turn_is f))))
kept (Deliver c) x y f l = subst Follows (sym l.becomes) (kinds.delivers x.turn x.stop x.slot x.dynamics l.view c l.taken l.answer (with_kinematics x (Some l.view) l.kinematics_is f))
kept Collect x y f l = subst Follows (sym l.becomes) (kinds.collects_any x.stop x.dynamics x.kinematics l.cargo (with_slot (record x { turn = 3 }) (Full l.cargo) l.slot_is (with_turn x 3 l.turn_is f)))
kept DynamicsSeesTurn x y f l = subst Follows (sym l) (kinds.dynamics_looks x.turn x.stop x.slot x.dynamics x.kinematics x.turn f)
kept DynamicsSeesStop x y f l = subst Follows (sym l) (kinds.dynamics_checks x.turn x.stop x.slot x.dynamics x.kinematics f)
kept KinematicsSeesTurn x y f l = subst Follows (sym l.2) (kinds.kinematics_looks_at_turn x.turn x.stop x.slot x.dynamics l.0 x.turn (with_kinematics x (Some l.0) l.1 f))
kept KinematicsSeesStop x y f l = subst Follows (sym l.2) (kinds.kinematics_looks_at_stop x.turn x.stop x.slot x.dynamics l.0 (with_kinematics x (Some l.0) l.1 f))
kept Split x y f l = subst Follows (sym l.becomes) (kinds.splits x.turn x.stop x.slot x.dynamics l.terms l.terms_are (with_kinematics x None l.alone f))
kept Raise x y f l = subst Follows (sym l) (kinds.raises x.turn x.stop x.slot x.dynamics x.kinematics f)
kept (Begin t) x y f l =
    let goal : y ≡ record x { slot = Away; dynamics = beginning x.dynamics t; kinematics = None } = l.becomes ∙ ap (λ (o : Option KinematicsView). record x { slot = Away; dynamics = beginning x.dynamics t; kinematics = o }) l.alone in
    subst Follows (sym goal) (kinds.begins x.turn x.stop x.slot x.dynamics t (with_kinematics x None l.alone f))

pub always : (x : Exchange) → Reached x → Follows x
always _ opened = kinds.opens
always _ (made kind x y r l) = kept kind x y (always x r) l

at_posted : (stop : ℕ) (d : DynamicsView) (k : Option KinematicsView) (c : Cargo) → Follows (kinds.at 1 stop (Full c) d k) → IsPostedLast d c.snap × IsSoundFor d.terms c.snap
at_posted stop d None c f = absurd (kinds.not_both 1 f.sides.turn_is (omega arith))
at_posted stop d (Some k) c f = (f.sides.turns.1, f.sides.slot_sound)

at_delivered : (stop : ℕ) (d : DynamicsView) (k : Option KinematicsView) (c : Cargo) → Follows (kinds.at 3 stop (Full c) d k) → IsPostedLast d c.snap × IsAnswer d.terms c
at_delivered stop d None c f = absurd (kinds.not_both 3 f.sides.turn_is (omega arith))
at_delivered stop d (Some k) c f = f.sides.turns.1

pub posted : (x : Exchange) (c : Cargo) → Follows x → x.turn ≡ 1 → x.slot ≡ Full c → IsPostedLast x.dynamics c.snap × IsSoundFor x.dynamics.terms c.snap
posted x c f turn slot = at_posted x.stop x.dynamics x.kinematics c (with_slot (record x { turn = 1 }) (Full c) slot (with_turn x 1 turn f))

pub delivered : (x : Exchange) (c : Cargo) → Follows x → x.turn ≡ 3 → x.slot ≡ Full c → IsPostedLast x.dynamics c.snap × IsAnswer x.dynamics.terms c
delivered x c f turn slot = at_delivered x.stop x.dynamics x.kinematics c (with_slot (record x { turn = 3 }) (Full c) slot (with_turn x 3 turn f))
