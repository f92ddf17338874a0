-- What an answer with stands says of an ask.
use Rattle.std.proofs.Common.{◌≡◌, ℕ, ◌*◌, ◌<◌, ◌≤◌, Bool, true, false, nat_lt, List, [], length, Option, Some, Result, Ok, Err, refl, sym, ap, ◌∙◌, ⊎_elim, subst}
use Rattle.std.specs.Prelude.{not, IfOk, is_ok, slice_get, if◌then◌else◌}
use Rattle.std.specs.Option.{option_map_or}
use Rattle.std.proofs.lemmas.Bool.{cases_lt, lt-ltb, le-ltb, false≢true}
use Rattle.dem_model.specs.SceneValue.{SceneValue}
use Rattle.dem_model.specs.Cells.{Lattice, cells_of, extent_of, region_between}
use Rattle.dem_model.specs.Packing.{first_stands}
use Rattle.dem_model.specs.Spheres.{balls_of}
use Rattle.dem_model.specs.declared.limits.TheConstants.{MAX_SPHERES}
use Rattle.dem_model.specs.declared.shape.Ball.{Ball}
use Rattle.dem_model.specs.declared.shape.Template.{Template}
use Rattle.dem_model.specs.declared.state.Stand.{Stand}
use Rattle.dem_pack.specs.Asks.{Answers, answer_of, fits_box, lattice_of, stands_in, stands_of, suits}
use Rattle.dem_pack.specs.declared.ask.Ask.{Ask}
use Rattle.dem_pack.specs.declared.ask.PackFault.{PackFault}
use Rattle.dem_pack.specs.declared.ask.PackFault.TheVariants.{Index, Region, Shape, Spheres, Room}

-- the lattice of an ask, for a template of these spheres
abbrev pub lattice_for : Ask → List Ball → Lattice
lattice_for a balls = lattice_of a.kind (extent_of balls) a.gap

-- what holds where stands are answered
pub record IsAnswered (s : SceneValue) (a : Ask) (stands : List Stand) : Type 0 where
  pub there : a.t < length s.templates
  pub box : fits_box s a ≡ true
  pub suited : suits a.kind (balls_of s.templates a.t) ≡ true
  pub few : a.count * length (balls_of s.templates a.t) ≤ MAX_SPHERES
  pub room : a.count ≤ length (cells_of (lattice_for a (balls_of s.templates a.t)) (region_between a.lo a.hi))
  pub are : stands ≡ first_stands (lattice_for a (balls_of s.templates a.t)) a.lo a.hi a.t a.count

-- an answer that isn't refused
kept : (b : Bool) (fault : PackFault) (answer : Result (List Stand) PackFault) (stands : List Stand) → (if b then Err fault else answer) ≡ Ok stands → (b ≡ false) × (answer ≡ Ok stands)
kept false fault answer stands is = (refl, is)
kept true fault answer stands is = absurd (false≢true (ap (λ (r : Result (List Stand) PackFault). is_ok r) is))

the-stands : (a b : List Stand) → ◌≡◌ {A = Result (List Stand) PackFault} (Ok a) (Ok b) → b ≡ a
the-stands a b is = sym (ap (λ (r : Result (List Stand) PackFault). stands-or a r) is)
  where
    stands-or : List Stand → Result (List Stand) PackFault → List Stand
    stands-or d (Ok x) = x
    stands-or d (Err e) = d

not-false : (b : Bool) → not b ≡ false → b ≡ true
not-false true is = refl
not-false false is = absurd (false≢true (sym is))

below-from : (a b : ℕ) → nat_lt a b ≡ true → a < b
below-from a b is = ⊎_elim (λ (lt : a < b). lt) (λ (le : b ≤ a). absurd (false≢true (sym (le-ltb a b le) ∙ is))) (cases_lt a b)

above-from : (a b : ℕ) → nat_lt a b ≡ false → b ≤ a
above-from a b is = ⊎_elim (λ (lt : a < b). absurd (false≢true (sym is ∙ lt-ltb a b lt))) (λ (le : b ≤ a). le) (cases_lt a b)

pub answered : (s : SceneValue) (a : Ask) (stands : List Stand) → answer_of s a ≡ Ok stands → IsAnswered s a stands
unfolding answer_of stands_of stands_in
answered s a stands is =
    let balls = balls_of s.templates a.t in
    let l = lattice_for a balls in
    let cells = length (cells_of l (region_between a.lo a.hi)) in
    let one = kept (not (nat_lt a.t (length s.templates))) Index _ stands is in
    let two = kept (not (fits_box s a)) Region _ stands one.1 in
    let three = kept (not (suits a.kind balls)) Shape _ stands two.1 in
    let four = kept (nat_lt MAX_SPHERES (a.count * length balls)) Spheres _ stands three.1 in
    let five = kept (nat_lt cells a.count) (Room cells) _ stands four.1 in
    record {
      there = below-from a.t (length s.templates) (not-false (nat_lt a.t (length s.templates)) one.0);
      box = not-false (fits_box s a) two.0;
      suited = not-false (suits a.kind balls) three.0;
      few = above-from MAX_SPHERES (a.count * length balls) four.0;
      room = above-from cells a.count five.0;
      are = the-stands (first_stands l a.lo a.hi a.t a.count) stands five.1;
    }

-- the answer by the template's spheres
pub answer-by-template : (s : SceneValue) (a : Ask) (balls : List Ball) (result : Result (List Stand) PackFault) → a.t < length s.templates → fits_box s a ≡ true → balls ≡ balls_of s.templates a.t
    → Answers (stands_of balls a) result → Answers (answer_of s a) result
unfolding answer_of
answer-by-template s a balls result there box is answers =
    let inside = lt-ltb a.t (length s.templates) there in
    rw (inside, box) (subst (λ b. Answers (stands_of b a) result) is answers)

-- the spheres of a template that was looked up
pub balls-found : (templates : List Template) (t : ℕ) (x : Template) → slice_get templates t ≡ Some x → x.balls ≡ balls_of templates t
unfolding balls_of
balls-found templates t x is = sym (ap (λ (o : Option Template). option_map_or (λ (y : Template). y.balls) o []) is)

-- what follows from an answer holds of the stands that a call gives
pub on-answer : (P : List Stand → Type 0) (s : SceneValue) (a : Ask) (result : Result (List Stand) PackFault) → Answers (answer_of s a) result
    → ((stands : List Stand) → IsAnswered s a stands → P stands) → IfOk result P
on-answer P s a (Ok stands) answers follows = follows stands (answered s a stands answers.ok)
on-answer P s a (Err fault) answers follows = tt
