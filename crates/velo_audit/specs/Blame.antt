-- Which blocks of a log are to blame somewhere in it, and which of these have another one inside them that is, too.
use Rattle.std.specs.Prelude.{ℕ, ◌+◌, ◌<◌, List, take, length, Contains}
use Rattle.velo_events.specs.declared.event.Event.{Event}
use Rattle.velo_events.specs.Block.{open_blocks}
use Rattle.velo_events.specs.Reordering.{IsSelfSerializable}
use Rattle.velo_blame.specs.Blamed.{thread_at}

-- the block that begins at b is open after the event at position p, in the thread of this event
abbrev pub IsOpenAfter : List Event → ℕ → ℕ → Type 0
IsOpenAfter log p b = Contains (open_blocks (take (p + 1) log) (thread_at log p)) b

-- it is to blame there: it is open, and not self-serializable in the events up to this one
pub record IsToBlameAt (log : List Event) (p b : ℕ) : Type 0 where
  pub within : p < length log
  pub is_open : IsOpenAfter log p b
  pub not_self : ¬ IsSelfSerializable (take (p + 1) log) b

-- it is to blame somewhere
pub record IsToBlame (log : List Event) (b : ℕ) : Type 0 where
  pub at : ℕ
  pub there : IsToBlameAt log at b

-- a block inside it is to blame: one that begins later, at a position at which both are open
pub record IsAround (log : List Event) (b : ℕ) : Type 0 where
  pub at : ℕ
  pub inner : ℕ
  pub later : b < inner
  pub is_open : IsOpenAfter log at b
  pub there : IsToBlameAt log at inner
