-- Each kind of step keeps the rule of the exchange.
use Rattle.std.proofs.Common.{◌≡◌, ℕ, zero, suc, ◌+◌, ◌<◌, Bool, true, false, length, Option, Some, None, refl, sym, ap, ◌∙◌, subst, arith}
use Rattle.std.specs.Prelude.{IfSome}
use Rattle.dem_model.specs.World.{Snap}
use Rattle.dem_model.specs.Exchange.{Terms, Cargo, Slot, Away, Full, Looks, DynamicsView, KinematicsView, Exchange, IsSoundFor, IsAnswer, AreSoundFor, IsSoundSlot, Counts, HasCopy, Turns, slot_alone, HasSeen, Follows}
use Rattle.dem_model.specs.ExchangeKinds.{HoldsHome, HoldsTaken, posting, taking, delivering, collecting, dynamics_looking, dynamics_checking, kinematics_looking, kinematics_checking, accompanied, beside, raising, beginning, opening_exchange}

-- an exchange by its parts
abbrev pub at : ℕ → ℕ → Slot → DynamicsView → Option KinematicsView → Exchange
at turn stop slot d k = record { turn = turn; stop = stop; slot = slot; dynamics = d; kinematics = k }

abbrev IsYes : Bool → Type 0
IsYes true = Unit {0}
IsYes false = ⊥

-- dynamics is alone or in company, not both
pub one_of : (b : Bool) → b ≡ false → b ≡ true → ⊥
one_of b company alone = subst IsYes (sym alone ∙ company) tt

-- where dynamics holds the parcel, kinematics has taken and delivered all that was collected
pub home_counts : (turn : ℕ) (slot : Slot) (d : DynamicsView) (k : KinematicsView) → Turns turn slot d k → HoldsHome d → Counts d k 0 0 0
home_counts zero slot d k t home = t.0
home_counts (suc zero) slot d k t home = let e = t.0.0 in let h : length d.posted ≡ d.collected = home in absurd (omega arith)
home_counts (suc (suc zero)) slot d k t home = let e = t.0.0 in let h : length d.posted ≡ d.collected = home in absurd (omega arith)
home_counts (suc (suc (suc zero))) slot d k t home = let e = t.0.0 in let h : length d.posted ≡ d.collected = home in absurd (omega arith)
home_counts (suc (suc (suc (suc n)))) slot d k t home = absurd t

-- where kinematics holds a parcel, it is the one posted last
pub held_counts : (turn : ℕ) (slot : Slot) (d : DynamicsView) (k : KinematicsView) → Turns turn slot d k → k.taken ≡ k.delivered + 1 → Counts d k 1 1 0 × HasCopy d k
held_counts zero slot d k t one = let a = t.0.1 in let b = t.0.2 in absurd (omega arith)
held_counts (suc zero) slot d k t one = let a = t.0.1 in let b = t.0.2 in absurd (omega arith)
held_counts (suc (suc zero)) slot d k t one = (t.0, t.2)
held_counts (suc (suc (suc zero))) slot d k t one = let a = t.0.1 in let b = t.0.2 in absurd (omega arith)
held_counts (suc (suc (suc (suc n)))) slot d k t one = absurd t

-- 1
pub posts : (turn stop : ℕ) (slot : Slot) (d : DynamicsView) (k : Option KinematicsView) (c : Cargo)
    → d.alone ≡ false → HoldsHome d → IsSoundFor d.terms c.snap → Follows (at turn stop slot d k) → Follows (at 1 stop (Full c) (posting d c.snap) k)
posts turn stop slot d None c company home sound f = absurd (one_of d.alone company f.sides.alone)
posts turn stop slot d (Some k) c company home sound f =
    let s = f.sides in
    let n = home_counts turn slot d k s.turns home in
    let e : length d.posted ≡ d.collected + 0 = n.0 in
    record {
      stop_is = f.stop_is;
      saw_stop = f.saw_stop;
      posted_sound = (sound, f.posted_sound);
      sides = record { alone = company; terms_are = s.terms_are; slot_sound = sound; copy_sound = s.copy_sound; no_copy = s.no_copy; saw_stop = s.saw_stop; turns = ((omega arith, n.1, n.2), refl) };
    }

-- 2
pub takes : (stop : ℕ) (d : DynamicsView) (k : KinematicsView) (c : Cargo) → Follows (at 1 stop (Full c) d (Some k)) → Follows (at 2 stop Away d (Some (taking k c.snap)))
takes stop d k c f =
    let s = f.sides in
    let n = s.turns.0 in
    let e : k.taken ≡ d.collected + 0 = n.1 in
    record {
      stop_is = f.stop_is;
      saw_stop = f.saw_stop;
      posted_sound = f.posted_sound;
      sides = record { alone = s.alone; terms_are = s.terms_are; slot_sound = tt; copy_sound = s.slot_sound; no_copy = λ (none : k.taken + 1 ≡ 0). absurd (omega arith); saw_stop = s.saw_stop; turns = ((n.0, omega arith, n.2), refl, (c.snap, refl, s.turns.1)) };
    }

-- 3
pub delivers : (turn stop : ℕ) (slot : Slot) (d : DynamicsView) (k : KinematicsView) (c : Cargo)
    → HoldsTaken k c.snap → IsAnswer k.terms c → Follows (at turn stop slot d (Some k)) → Follows (at 3 stop (Full c) d (Some (delivering k)))
delivers turn stop slot d k c taken answer f =
    let s = f.sides in
    let w = held_counts turn slot d k s.turns taken.one in
    let n = w.0 in
    let e : k.delivered ≡ d.collected + 0 = n.2 in
    record {
      stop_is = f.stop_is;
      saw_stop = f.saw_stop;
      posted_sound = f.posted_sound;
      sides = record {
        alone = s.alone;
        terms_are = s.terms_are;
        slot_sound = subst (λ (o : Option Snap). IfSome o (IsSoundFor d.terms)) taken.copy_is s.copy_sound;
        copy_sound = s.copy_sound;
        no_copy = s.no_copy;
        saw_stop = s.saw_stop;
        turns = ((n.0, n.1, omega arith), (w.1.2 ∙ (sym w.1.1 ∙ taken.copy_is), subst (λ (o : Option Terms). IsAnswer o c) s.terms_are answer));
      };
    }

-- 4
pub collects : (stop : ℕ) (d : DynamicsView) (k : KinematicsView) (c : Cargo) → Follows (at 3 stop (Full c) d (Some k)) → Follows (at 0 stop Away (collecting d) (Some k))
collects stop d k c f =
    let s = f.sides in
    let n = s.turns.0 in
    let a : length d.posted ≡ d.collected + 1 = n.0 in
    let b : k.taken ≡ d.collected + 1 = n.1 in
    let e : k.delivered ≡ d.collected + 1 = n.2 in
    record {
      stop_is = f.stop_is;
      saw_stop = f.saw_stop;
      posted_sound = f.posted_sound;
      sides = record { alone = s.alone; terms_are = s.terms_are; slot_sound = tt; copy_sound = s.copy_sound; no_copy = s.no_copy; saw_stop = s.saw_stop; turns = ((omega arith, omega arith, omega arith), refl) };
    }

-- a number that isn't 0
pub not_both : (n : ℕ) → n ≡ 0 → 0 < n → ⊥
not_both n zero_is some = omega arith

-- 4, where the turn word alone tells that dynamics has company
pub collects_any : (stop : ℕ) (d : DynamicsView) (k : Option KinematicsView) (c : Cargo) → Follows (at 3 stop (Full c) d k) → Follows (at 0 stop Away (collecting d) k)
collects_any stop d None c f = absurd (not_both 3 f.sides.turn_is (omega arith))
collects_any stop d (Some k) c f = collects stop d k c f

-- looks and the raised stop are nothing to where the parcel is
turns_keep : (turn : ℕ) (slot : Slot) (d : DynamicsView) (k : KinematicsView) (raised : Bool) (looks looks' : Looks)
    → Turns turn slot d k → Turns turn slot (record d { raised = raised; looks = looks }) (record k { looks = looks' })
turns_keep zero slot d k raised looks looks' t = t
turns_keep (suc zero) slot d k raised looks looks' t = t
turns_keep (suc (suc zero)) slot d k raised looks looks' t = t
turns_keep (suc (suc (suc zero))) slot d k raised looks looks' t = t
turns_keep (suc (suc (suc (suc n)))) slot d k raised looks looks' t = absurd t

-- 5 of dynamics
pub dynamics_looks : (turn stop : ℕ) (slot : Slot) (d : DynamicsView) (k : Option KinematicsView) (n : ℕ) → Follows (at turn stop slot d k) → Follows (at turn stop slot (dynamics_looking d n) k)
dynamics_looks turn stop slot d None n f = let s = f.sides in record {
  stop_is = f.stop_is;
  saw_stop = f.saw_stop;
  posted_sound = f.posted_sound;
  sides = record { alone = s.alone; turn_is = s.turn_is; none_posted = s.none_posted; none_collected = s.none_collected; slot_is = s.slot_is };
}
dynamics_looks turn stop slot d (Some k) n f = let s = f.sides in record {
  stop_is = f.stop_is;
  saw_stop = f.saw_stop;
  posted_sound = f.posted_sound;
  sides = record { alone = s.alone; terms_are = s.terms_are; slot_sound = s.slot_sound; copy_sound = s.copy_sound; no_copy = s.no_copy; saw_stop = s.saw_stop; turns = turns_keep turn slot d k d.raised (dynamics_looking d n).looks k.looks s.turns };
}

-- 5 of dynamics at the stop word
pub dynamics_checks : (turn stop : ℕ) (slot : Slot) (d : DynamicsView) (k : Option KinematicsView) → Follows (at turn stop slot d k) → Follows (at turn stop slot (dynamics_checking d stop) k)
dynamics_checks turn stop slot d None f = let s = f.sides in record {
  stop_is = f.stop_is;
  saw_stop = λ e. e;
  posted_sound = f.posted_sound;
  sides = record { alone = s.alone; turn_is = s.turn_is; none_posted = s.none_posted; none_collected = s.none_collected; slot_is = s.slot_is };
}
dynamics_checks turn stop slot d (Some k) f = let s = f.sides in record {
  stop_is = f.stop_is;
  saw_stop = λ e. e;
  posted_sound = f.posted_sound;
  sides = record { alone = s.alone; terms_are = s.terms_are; slot_sound = s.slot_sound; copy_sound = s.copy_sound; no_copy = s.no_copy; saw_stop = s.saw_stop; turns = turns_keep turn slot d k d.raised (dynamics_checking d stop).looks k.looks s.turns };
}

-- 5 of kinematics, where it reads what stands at the stop word, or leaves what it saw there
kinematics_looks : (turn stop : ℕ) (slot : Slot) (d : DynamicsView) (k : KinematicsView) (looks : Looks) → HasSeen looks stop → Follows (at turn stop slot d (Some k)) → Follows (at turn stop slot d (Some (record k { looks = looks })))
kinematics_looks turn stop slot d k looks seen f = let s = f.sides in record {
  stop_is = f.stop_is;
  saw_stop = f.saw_stop;
  posted_sound = f.posted_sound;
  sides = record { alone = s.alone; terms_are = s.terms_are; slot_sound = s.slot_sound; copy_sound = s.copy_sound; no_copy = s.no_copy; saw_stop = seen; turns = turns_keep turn slot d k d.raised d.looks looks s.turns };
}

-- 5 of kinematics at the turn word
pub kinematics_looks_at_turn : (turn stop : ℕ) (slot : Slot) (d : DynamicsView) (k : KinematicsView) (n : ℕ) → Follows (at turn stop slot d (Some k)) → Follows (at turn stop slot d (Some (kinematics_looking k n)))
kinematics_looks_at_turn turn stop slot d k n f = kinematics_looks turn stop slot d k (kinematics_looking k n).looks f.sides.saw_stop f

-- 5 of kinematics at the stop word
pub kinematics_looks_at_stop : (turn stop : ℕ) (slot : Slot) (d : DynamicsView) (k : KinematicsView) → Follows (at turn stop slot d (Some k)) → Follows (at turn stop slot d (Some (kinematics_checking k stop)))
kinematics_looks_at_stop turn stop slot d k f = kinematics_looks turn stop slot d k (kinematics_checking k stop).looks (λ e. e) f

-- 6
pub splits : (turn stop : ℕ) (slot : Slot) (d : DynamicsView) (t : Terms) → d.terms ≡ Some t → Follows (at turn stop slot d None) → Follows (at turn stop slot (accompanied d) (Some (beside d)))
splits turn stop slot d t known f =
    let s = f.sides in
    let away : slot ≡ Away = s.slot_is ∙ ap slot_alone known in
    let a : length d.posted ≡ 0 = ap length s.none_posted in
    let b : d.collected ≡ 0 = s.none_collected in
    record {
      stop_is = f.stop_is;
      saw_stop = f.saw_stop;
      posted_sound = f.posted_sound;
      sides = record {
        alone = refl;
        terms_are = refl;
        slot_sound = subst (IsSoundSlot d.terms) (sym away) tt;
        copy_sound = tt;
        no_copy = λ none. refl;
        saw_stop = λ (e : 0 ≡ 1). absurd (omega arith);
        turns = subst (λ (n : ℕ). Turns n slot (accompanied d) (beside d)) (sym s.turn_is) ((omega arith, omega arith, omega arith), away);
      };
    }

-- 7
pub raises : (turn stop : ℕ) (slot : Slot) (d : DynamicsView) (k : Option KinematicsView) → Follows (at turn stop slot d k) → Follows (at turn 1 slot (raising d) k)
raises turn stop slot d None f = let s = f.sides in record {
  stop_is = refl;
  saw_stop = λ e. refl;
  posted_sound = f.posted_sound;
  sides = record { alone = s.alone; turn_is = s.turn_is; none_posted = s.none_posted; none_collected = s.none_collected; slot_is = s.slot_is };
}
raises turn stop slot d (Some k) f = let s = f.sides in record {
  stop_is = refl;
  saw_stop = λ e. refl;
  posted_sound = f.posted_sound;
  sides = record { alone = s.alone; terms_are = s.terms_are; slot_sound = s.slot_sound; copy_sound = s.copy_sound; no_copy = s.no_copy; saw_stop = λ e. refl; turns = turns_keep turn slot d k true d.looks k.looks s.turns };
}

-- 8
pub begins : (turn stop : ℕ) (slot : Slot) (d : DynamicsView) (t : Terms) → Follows (at turn stop slot d None) → Follows (at turn stop Away (beginning d t) None)
begins turn stop slot d t f = let s = f.sides in record {
  stop_is = f.stop_is;
  saw_stop = f.saw_stop;
  posted_sound = subst (AreSoundFor (Some t)) (sym s.none_posted) tt;
  sides = record { alone = s.alone; turn_is = s.turn_is; none_posted = s.none_posted; none_collected = s.none_collected; slot_is = refl };
}

-- before it begins
pub opens : Follows opening_exchange
opens = record {
  stop_is = refl;
  saw_stop = λ (e : 0 ≡ 1). absurd (omega arith);
  posted_sound = tt;
  sides = record { alone = refl; turn_is = refl; none_posted = refl; none_collected = refl; slot_is = refl };
}
