-- Counts of faults over several calls.
use Rattle.std.proofs.Common.{ℕ, ◌≤◌, arith}
use Rattle.dem_outside.specs.Faults.{next_of, Rose}

-- what rose stays so
pub Rose-later : (before mid now : ℕ) → Rose before mid → mid ≤ now → Rose before now
Rose-later before mid now rose later = record { no_less = omega arith; more = omega arith }

-- what rose since a later call rose since an earlier one
pub Rose-earlier : (before mid now : ℕ) → before ≤ mid → Rose mid now → Rose before now
Rose-earlier before mid now earlier rose = record { no_less = omega arith; more = omega arith }
