use Rattle.std.proofs.Common.{◌-◌, [], Some, get_or}
use Rattle.std.specs.Prelude.{None}
use Rattle.velo_tables.specs.Others.{but_for}
use Rattle.velo_tables.proofs.OnReaders.{IsWalked}
use Rattle.velo_tables.proofs.cells.are_of.Given as goal

abbrev pub invariant-loop-left : goal.invariant-loop-left
invariant-loop-left l = record { walked : IsWalked l.readers (λ t. but_for (Some l.slot) (get_or l.reads t None)) [] l.left l.thread [] }

abbrev pub decreases-loop-left : goal.decreases-loop-left
decreases-loop-left l = 64 - l.thread
