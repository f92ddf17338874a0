-- An order as contracts see it, and its ranges.
use Rattle.std.specs.Prelude.{ℕ, ◌≤◌, ◌<◌, ◌^◌, Bool, List}
use Rattle.dem_model.specs.declared.state.Turn.{Turn}
use Rattle.dem_words.specs.declared.order.Mode.{Mode}

-- all that a command line asks for
pub record OrderValue : Type 0 where
  pub mode : Mode
  pub drift : ℕ
  pub bin : ℕ
  pub turns : List Turn
  pub seed : ℕ
  pub count : ℕ
  pub report : Bool
  pub split : Bool

-- the numbers are in their ranges
pub record IsOrder (o : OrderValue) : Type 0 where
  pub drift : o.drift ≤ 1024
  pub bin : o.bin ≤ 2 ^ 38
  pub seed : o.seed < 2 ^ 64
  pub some : 1 ≤ o.count
  pub count : o.count ≤ 16384
