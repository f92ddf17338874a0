-- A place beside a facet, the products of its sides with the ways to that place, and when these fit.
use Rattle.std.specs.Prelude.{pos, ◌^◌, ◌≡◌, ◌+ℤ◌, ◌-ℤ◌, ◌<ℤ◌}
use Rattle.dem_num.specs.declared.vector.Vec3.{Vec3}
use Rattle.dem_num.specs.declared.vector.Wide3.{Wide3}
use Rattle.dem_num.specs.Numbers.{AtMost}
use Rattle.dem_num.specs.Vectors.{Within, dot_of}
use Rattle.dem_model.specs.Facet.{way}
use Rattle.dem_facet.specs.declared.products.Products.{Products}

-- a place is close to each corner of a facet
pub record IsBeside (a b c s : Vec3) : Type 0 where
  pub from_a : Within (way a s) (2 ^ 27)
  pub from_b : Within (way b s) (2 ^ 27)
  pub from_c : Within (way c s) (2 ^ 27)

-- the six products of two sides with three ways
pub record AreProducts (ab ac from_a from_b from_c : Wide3) (p : Products) : Type 0 where
  pub d1 : p.d1 ≡ dot_of ab from_a
  pub d2 : p.d2 ≡ dot_of ac from_a
  pub d3 : p.d3 ≡ dot_of ab from_b
  pub d4 : p.d4 ≡ dot_of ac from_b
  pub d5 : p.d5 ≡ dot_of ab from_c
  pub d6 : p.d6 ≡ dot_of ac from_c

-- the products are small, and the three divisors made of them are greater than zero
pub record AreFit (p : Products) : Type 0 where
  pub d1 : AtMost p.d1 (2 ^ 55)
  pub d2 : AtMost p.d2 (2 ^ 55)
  pub d3 : AtMost p.d3 (2 ^ 55)
  pub d4 : AtMost p.d4 (2 ^ 55)
  pub d5 : AtMost p.d5 (2 ^ 55)
  pub d6 : AtMost p.d6 (2 ^ 55)
  pub first : pos 0 <ℤ (p.d1 -ℤ p.d3)
  pub second : pos 0 <ℤ (p.d2 -ℤ p.d6)
  pub third : pos 0 <ℤ ((p.d4 -ℤ p.d3) +ℤ (p.d5 -ℤ p.d6))

-- a point of a facet isn't far out
abbrev pub IsPoint : Wide3 → Type 0
IsPoint p = Within p (2 ^ 37)
