-- What is held, and what is kept.
use base.Fml.{Fml, ftrue}
use base.Stored.{Coded}
use denote.RattleType.{RattleType}
use denote.RawPtr.{Ptr}
use Rattle.std.specs.Prelude.{Option, Some, None}
use Rattle.std.specs.Box.Ownership.{box_owns}
use Rattle.std.specs.Global.{Global}
use Rattle.std_heap.specs.contracts.GlobalAllocator.TheImpl.{ghosts}
use Rattle.velo_ffi.specs.contracts.watch.Watch.{the_row}

-- what a box owns
abbrev pub held_owns : (T : RattleType) → Global → Ptr → T.Denot → Fml
held_owns T alloc p x = box_owns (ghosts.dealloc_token alloc) T p x

-- nothing, or what a box owns
abbrev pub kept_owns : Global → Ptr → Option the_row.Denot → Fml
kept_owns alloc p None = ftrue
kept_owns alloc p (Some x) = held_owns the_row alloc p x

abbrev pub watch_coded : Coded the_row.Denot
watch_coded = the_row.coded
