-- Text that is gathered in memory.
use Rattle.std.specs.Prelude.{◌≢◌, ℕ, List}
use Rattle.velo_events.specs.Refusals.{GrowthRefused}
use Rattle.velo_ffi.specs.declared.gathered.Gathered.TheInside.{Inside}

-- the bytes, and how many writes have failed
pub record GatheredText : Type 0 where
  pub bytes : List ℕ
  pub failures : ℕ

abbrev pub gathered_of : Inside → GatheredText
gathered_of g = record { bytes = g.bytes.items; failures = g.failures }

-- where a write failed, an allocation failed
abbrev pub FailsByGrowth : Inside → Type 0
FailsByGrowth g = g.failures ≢ 0 → GrowthRefused
