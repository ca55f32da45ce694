-- The numbers that a naming gives variables and locks.
use Rattle.std.specs.Prelude.{◌≡◌, length}
use Rattle.velo_events.specs.declared.config.Bounds.{Bounds}
use Rattle.velo_search.specs.declared.naming.Naming.{Naming}
use Rattle.velo_search.specs.Exchanges.{number_in}
use Rattle.velo_search.specs.Naming.{Numbers}

abbrev pub numbers_of : Naming → Numbers
numbers_of names = record { variable = number_in names.variables.to.items; lock = number_in names.locks.to.items }

-- and those that lead back
abbrev pub numbers_back : Naming → Numbers
numbers_back names = record { variable = number_in names.variables.back.items; lock = number_in names.locks.back.items }

-- it is of as many variables and locks
pub record IsNamingOf (bounds : Bounds) (names : Naming) : Type 0 where
  pub variables : length names.variables.to.items ≡ bounds.variables
  pub locks : length names.locks.to.items ≡ bounds.locks
