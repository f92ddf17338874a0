-- The clumps that the pairs of a part don't push: their sums stay nothing, from pair to pair and where two parts are added.
use Rattle.std.proofs.Common.{◌≡◌, ◌≢◌, ◌==◌, ◌&&◌, inl, inr, Bool, ℕ, zero, suc, ◌<◌, ◌≤◌, true, false, List, length, get_or, replicate, refl, sym, ap, ap₂, ◌∙◌, arith, zero-add, Option, Some, None}
use Rattle.std.specs.Prelude.{IfSome, is_some, nat_lt}
use Rattle.std.proofs.lemmas.Bool.{cases_lt, ne_eqb, le-ltb}
use Rattle.std.proofs.lemmas.List.{get_or_past}
use Rattle.std.proofs.lemmas.List.FromFn.{get_or-map-range_with_len, length-map-range_with_len}
use Rattle.dem_num.specs.declared.vector.Vec3.{Vec3}
use Rattle.dem_model.specs.SceneValue.{SceneValue}
use Rattle.dem_model.specs.Centers.{touch_of}
use Rattle.dem_model.specs.Pairs.{sphere_at, sphere_count}
use Rattle.dem_model.specs.Step.{Meeting, meeting, first_clump, is_second, no_load, load_with, loads_with}
use Rattle.dem_model.specs.declared.law.Load.{Load}
use Rattle.dem_model.specs.declared.law.Touch.{Touch}
use Rattle.dem_model.specs.declared.state.Body.{Body}
use Rattle.dem_model.specs.declared.state.Pair.{Pair}
use Rattle.dem_step.specs.Felt.{IsOutside, IsUnpushed, AreFelt}
use Rattle.dem_step.specs.Inside.{loads_after, displacement_of}
use Rattle.dem_step.specs.Split.{both_loads, AreAdded}
use Rattle.dem_step.specs.declared.felt.Felt.{Felt}
use Rattle.dem_step.proofs.SplitFacts.{both-nothing}

-- ---- a pair

-- the clump of the first sphere is another
pub first-other : (s : SceneValue) (p : Pair) (c a : ℕ) → a ≡ (sphere_at s p.a).clump → a ≢ c → (first_clump s p == c) ≡ false
unfolding first_clump
first-other s p c a is ne = ap (λ n. n == c) (sym is) ∙ ne_eqb a c ne

-- both don't hold where the second doesn't
and-false : (a b : Bool) → b ≡ false → (a && b) ≡ false
and-false true b h = h
and-false false b h = refl

-- the clump of the second sphere is another
pub second-other : (s : SceneValue) (p : Pair) (c b : ℕ) → b ≡ (sphere_at s p.b).clump → b ≢ c → is_second s c p ≡ false
unfolding is_second
second-other s p c b is ne =
    and-false (nat_lt p.b (sphere_count s)) ((sphere_at s p.b).clump == c) (ap (λ n. n == c) (sym is) ∙ ne_eqb b c ne)

-- the second of the pair is a wall
pub second-wall : (s : SceneValue) (p : Pair) (c : ℕ) → sphere_count s ≤ p.b → is_second s c p ≡ false
unfolding is_second
second-wall s p c le = rw (le-ltb p.b (sphere_count s) le) refl

-- ---- its meeting

-- a meeting is of its pair
meeting-pair : (s : SceneValue) (bodies : List Body) (centers : List Vec3) (p : Pair) (h : Option Vec3) (o : Option Touch) → touch_of s centers p ≡ o →
    IfSome (meeting s bodies centers p h) (λ (m : Meeting). m.pair ≡ p)
unfolding meeting
meeting-pair s bodies centers p h None is = rw is tt
meeting-pair s bodies centers p h (Some t) is = rw is refl

-- a load that a meeting doesn't change
load-kept : (s : SceneValue) (c : ℕ) (w : Load) (m : Meeting) (p : Pair) → m.pair ≡ p → IsUnpushed s p c → load_with s c w m ≡ w
unfolding load_with
load-kept s c w m p is un =
    let first : (first_clump s m.pair == c) ≡ false = ap (λ q. first_clump s q == c) is ∙ un.0 in
    let second : is_second s c m.pair ≡ false = ap (is_second s c) is ∙ un.1 in
    rw (first, second) refl

-- of the loads with a meeting, one that it doesn't change
loads-kept : (s : SceneValue) (c : ℕ) (ws : List Load) (m : Meeting) (p : Pair) → m.pair ≡ p → IsUnpushed s p c → get_or ws c no_load ≡ no_load → get_or (loads_with s ws m) c no_load ≡ no_load
unfolding loads_with
loads-kept s c ws m p is un before =
    elim (cases_lt c (length ws)) [
      | inl lt ↦
          get_or-map-range_with_len (λ k. load_with s k (get_or ws k no_load) m) 0 (length ws) c c no_load lt (zero-add c)
          ∙ load-kept s c (get_or ws c no_load) m p is un
          ∙ before
      | inr past ↦
          let size = length-map-range_with_len (λ k. load_with s k (get_or ws k no_load) m) 0 (length ws) in
          get_or_past (loads_with s ws m) c no_load (omega (arith, past, size))
    ]

felt-by : (s : SceneValue) (p : Pair) (old new : List Load) (e : Option Vec3) (before after : Felt) (o : Option Meeting) → IfSome o (λ (m : Meeting). m.pair ≡ p) →
    new ≡ loads_after s old o → e ≡ displacement_of o → ((c : ℕ) → IsOutside after c → IsOutside before c × (is_some e ≡ true → IsUnpushed s p c)) → AreFelt before old → AreFelt after new
felt-by s p old new e before after None of loads entry outside felt =
    λ c out. ap (λ ws. get_or ws c no_load) loads ∙ felt c (outside c out).0
felt-by s p old new e before after (Some m) of loads entry outside felt =
    λ c out. ap (λ ws. get_or ws c no_load) loads ∙ loads-kept s c old m p of ((outside c out).1 (ap is_some entry)) (felt c (outside c out).0)

-- one more pair of a part has met
pub felt-more : (s : SceneValue) (bodies : List Body) (centers : List Vec3) (p : Pair) (h : Option Vec3) (old new : List Load) (e : Option Vec3) (before after : Felt) →
    new ≡ loads_after s old (meeting s bodies centers p h) → e ≡ displacement_of (meeting s bodies centers p h) →
    ((c : ℕ) → IsOutside after c → IsOutside before c × (is_some e ≡ true → IsUnpushed s p c)) → AreFelt before old → AreFelt after new
felt-more s bodies centers p h old new e before after loads entry outside felt =
    felt-by s p old new e before after (meeting s bodies centers p h) (meeting-pair s bodies centers p h (touch_of s centers p) refl) loads entry outside felt

-- no pair has met
pub felt-none : (felt : Felt) (n : ℕ) (ws : List Load) → ws ≡ replicate n no_load → AreFelt felt ws
felt-none felt n ws nothing = λ c out. ap (λ xs. get_or xs c no_load) nothing ∙ of-none n c
  where
    of-none : (n c : ℕ) → get_or (replicate n no_load) c no_load ≡ no_load
    of-none zero c = refl
    of-none (suc n) zero = refl
    of-none (suc n) (suc c) = of-none n c

-- ---- two parts

-- nothing is added yet, up to the first clump that is pushed
pub added-first : (old others : List Load) (felt : Felt) (from : ℕ) → length others ≡ length old → AreFelt felt others → from ≤ felt.first → AreAdded old others old from
added-first old others felt from size nothing le = record {
  size = refl;
  done = λ c lt below. sym (ap (both_loads (get_or old c no_load)) (nothing c (inl (omega (arith, lt, le)))) ∙ both-nothing (get_or old c no_load));
  rest = λ c past. refl;
}

-- all is added, from the last that is pushed on
pub added-last : (old others now : List Load) (felt : Felt) (i : ℕ) → AreFelt felt others → ((c : ℕ) → i ≤ c → c < length old → felt.last < c) → AreAdded old others now i → AreAdded old others now (length old)
added-last old others now felt i nothing past added = record {
  size = added.size;
  done = λ c lt below. elim (cases_lt c i) [
    | inl early ↦ added.done c early below
    | inr late ↦
        added.rest c late
        ∙ sym (ap (both_loads (get_or old c no_load)) (nothing c (inr (past c late below))) ∙ both-nothing (get_or old c no_load))
  ];
  rest = λ c le. get_or_past now c no_load (omega (arith, le, added.size)) ∙ sym (get_or_past old c no_load le);
}

-- what neither of two parts pushes isn't pushed where they are added
pub felt-both : (old others now : List Load) (here there both : Felt) → ((c : ℕ) → IsOutside both c → IsOutside here c × IsOutside there c) → AreFelt here old → AreFelt there others →
    AreAdded old others now (length old) → AreFelt both now
felt-both old others now here there both outside first second added = λ c out.
    elim (cases_lt c (length old)) [
      | inl lt ↦ added.done c lt lt ∙ ap₂ both_loads (first c (outside c out).0) (second c (outside c out).1) ∙ both-nothing no_load
      | inr past ↦ added.rest c past ∙ first c (outside c out).0
    ]
