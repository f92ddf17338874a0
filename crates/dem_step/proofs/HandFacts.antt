-- What a run on lists has met ahead: from the meetings, to the step, and to the next list.
use Rattle.std.proofs.Common.{◌≡◌, ℕ, ◌+◌, ◌≤◌, Bool, true, false, List, length, refl, sym, ap, ◌∙◌, subst, Option}
use Rattle.dem_num.specs.declared.vector.Vec3.{Vec3}
use Rattle.dem_model.specs.SceneValue.{SceneValue}
use Rattle.dem_model.specs.Carry.{kept_of, carried}
use Rattle.dem_model.specs.Centers.{centers_of}
use Rattle.dem_model.specs.Near.{Covers}
use Rattle.dem_model.specs.declared.law.Load.{Load}
use Rattle.dem_model.specs.declared.state.Body.{Body}
use Rattle.dem_model.specs.declared.state.Pair.{Pair}
use Rattle.dem_list.specs.Ascending.{Pairs, IsAscending}
use Rattle.dem_hist.specs.Carrying.{HeldByPlace}
use Rattle.dem_step.specs.Ahead.{IsMetAhead, CanHandOn}
use Rattle.dem_step.specs.Contacts.{held_by}
use Rattle.dem_step.specs.Inside.{IsStepper, HaveMet}
use Rattle.dem_step.specs.Marks.{is_met, AreMarked}
use Rattle.dem_step.specs.Stepper.{state_at, IsListOfRun}
use Rattle.dem_step.specs.declared.marks.Marks.{Marks}
use Rattle.dem_step.proofs.AheadFacts.{met-agreed}
use Rattle.dem_step.proofs.StepFacts.{list-covers}
use Rattle.dem_step.proofs.KeptFacts.{contacts_of, stepper-adopts}

-- where no marks are made each pair is looked at
pub unmarked : (s : SceneValue) (centers : List Vec3) (ps : List Pair) (marks : Marks) → marks.made ≡ false → AreMarked s centers ps marks
unmarked s centers ps marks none = λ i p there (unmet : is_met marks i ≡ false). let met : is_met marks i ≡ true = rw none refl in cc

-- what has met is met ahead
pub ahead-of : (s : SceneValue) (listed : Bool) (bodies unpacked : List Body) (centers : List Vec3) (contacts : HeldByPlace) (loads stored : List Load) (fresh entries : List (Option Vec3)) →
    listed ≡ true → unpacked ≡ bodies → centers ≡ centers_of s bodies → stored ≡ loads → entries ≡ fresh →
    HaveMet s unpacked centers (held_by contacts) contacts.list.pairs loads fresh → IsMetAhead s listed bodies contacts stored entries
ahead-of s listed bodies unpacked centers contacts loads stored fresh entries in_use bodies_are centers_are same_loads same_entries met =
    let here : HaveMet s bodies (centers_of s bodies) (held_by contacts) contacts.list.pairs loads fresh =
    subst (λ cs. HaveMet s bodies cs (held_by contacts) contacts.list.pairs loads fresh) centers_are
    (subst (λ bs. HaveMet s bs centers (held_by contacts) contacts.list.pairs loads fresh) bodies_are met) in
    record {
      in_use = in_use;
      met = subst (λ ws. HaveMet s bodies (centers_of s bodies) (held_by contacts) contacts.list.pairs ws entries) (sym same_loads)
          (subst (λ es. HaveMet s bodies (centers_of s bodies) (held_by contacts) contacts.list.pairs loads es) (sym same_entries) here);
    }

-- and what is met ahead has met
pub met-before : (s : SceneValue) (listed : Bool) (bodies unpacked : List Body) (centers : List Vec3) (contacts : HeldByPlace) (loads stored : List Load) (fresh entries : List (Option Vec3)) →
    unpacked ≡ bodies → centers ≡ centers_of s bodies → loads ≡ stored → fresh ≡ entries →
    IsMetAhead s listed bodies contacts stored entries → HaveMet s unpacked centers (held_by contacts) contacts.list.pairs loads fresh
met-before s listed bodies unpacked centers contacts loads stored fresh entries bodies_are centers_are same_loads same_entries ahead =
    let here : HaveMet s unpacked centers (held_by contacts) contacts.list.pairs stored entries =
    subst (λ cs. HaveMet s unpacked cs (held_by contacts) contacts.list.pairs stored entries) (sym centers_are)
    (subst (λ bs. HaveMet s bs (centers_of s bodies) (held_by contacts) contacts.list.pairs stored entries) (sym bodies_are) ahead.met) in
    subst (λ ws. HaveMet s unpacked centers (held_by contacts) contacts.list.pairs ws fresh) (sym same_loads)
    (subst (λ es. HaveMet s unpacked centers (held_by contacts) contacts.list.pairs stored es) (sym same_entries) here)

-- what is met ahead may be handed on to a list that is taken into use
hands-on : (s : SceneValue) (drift step : ℕ) (listed : Bool) (bodies unpacked : List Body) (centers : List Vec3) (old new : Pairs) (entries : List (Option Vec3)) (loads stored : List Load) (before fresh : List (Option Vec3)) →
    IsStepper s drift step listed bodies (contacts_of old entries) → IsListOfRun s drift new → IsAscending new.pairs → new.from ≤ step → step ≤ new.from + drift →
    unpacked ≡ bodies → centers ≡ centers_of s bodies → loads ≡ stored → before ≡ fresh → length old.pairs ≤ length before → IsMetAhead s listed bodies (contacts_of old entries) stored fresh →
    CanHandOn s drift unpacked centers old (contacts_of new (carried old.pairs entries new.pairs)) loads before
hands-on s drift step listed bodies unpacked centers old new entries loads stored before fresh h near ascends past young bodies_are centers_are same_loads same_entries room ahead =
    let after : IsStepper s drift step true bodies (contacts_of new (carried old.pairs entries new.pairs)) = stepper-adopts s drift step listed bodies old new entries h near ascends past young in
    let was : IsListOfRun s drift old = h.near ahead.in_use in
    let here : centers ≡ centers_of s (state_at s step).bodies = centers_are ∙ ap (centers_of s) h.bodies_are in
    let met : HaveMet s unpacked centers (kept_of old.pairs entries) old.pairs loads before =
    met-before s listed bodies unpacked centers (contacts_of old entries) loads stored before fresh bodies_are centers_are same_loads same_entries ahead in
    record {
      was = was;
      is = near;
      covers = subst (Covers s drift (centers_of s (state_at s new.from).bodies)) (sym here) (list-covers s drift step new h.scene h.plain near past young);
      met = met-agreed s drift (centers_of s (state_at s old.from).bodies) (state_at s step) unpacked centers (kept_of old.pairs entries) (kept_of new.pairs (carried old.pairs entries new.pairs)) old.pairs loads before
          here was.pairs h.agrees after.agrees met;
      room = room;
    }

-- and so it is where the lists are told by equations
pub can-hand-on : (s : SceneValue) (drift step : ℕ) (listed : Bool) (bodies unpacked : List Body) (centers : List Vec3) (contacts taken : HeldByPlace) (old new : Pairs) (loads stored : List Load) (before fresh : List (Option Vec3)) →
    IsStepper s drift step listed bodies contacts → IsListOfRun s drift new → IsAscending new.pairs → new.from ≤ step → step ≤ new.from + drift →
    unpacked ≡ bodies → centers ≡ centers_of s bodies → loads ≡ stored → before ≡ fresh → length contacts.list.pairs ≤ length before →
    old ≡ contacts.list → taken ≡ contacts_of new (carried contacts.list.pairs contacts.entries new.pairs) →
    IsMetAhead s listed bodies contacts stored fresh → CanHandOn s drift unpacked centers old taken loads before
can-hand-on s drift step listed bodies unpacked centers contacts taken old new loads stored before fresh h near ascends past young bodies_are centers_are same_loads same_entries room back carry ahead =
    subst (λ (l : Pairs). CanHandOn s drift unpacked centers l taken loads before) (sym back)
    (subst (λ (t : HeldByPlace). CanHandOn s drift unpacked centers contacts.list t loads before) (sym carry)
    (hands-on s drift step listed bodies unpacked centers contacts.list new contacts.entries loads stored before fresh h near ascends past young bodies_are centers_are same_loads same_entries room ahead))
