-- Scripts, and the part of each operation in what is left of a log.
use Rattle.std.specs.Prelude.{ℕ, List}
use Rattle.velo_events.specs.declared.event.Kind.{Kind}
use Rattle.velo_search.specs.declared.part.Part.{Part}

pub record Marked : Type 0 where
  -- the operations of each thread
  pub kinds : List (List Kind)
  -- so many locks are looked at as guards of free operations
  pub locks : ℕ
  -- the part of each operation of each thread
  pub parts : List (List Part)
