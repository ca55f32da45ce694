use Rattle.std.proofs.Common.{◌≡◌, ◌-◌, get_or}
use Rattle.std.specs.Prelude.{None}
use Rattle.velo_tables.specs.Others.{but_for}
use Rattle.velo_tables.proofs.OnReaders.{IsWalked}
use Rattle.velo_tables.proofs.cells.push_reads_of.Given as goal

abbrev pub invariant-loop-rest : goal.invariant-loop-rest
invariant-loop-rest l = record {
  walked : IsWalked l.readers (λ t. but_for l.slot (get_or l.reads t None)) l.fn.list.items l.rest l.thread l.list.items;
  capacity : l.list.capacity ≡ l.fn.list.capacity;
}

abbrev pub decreases-loop-rest : goal.decreases-loop-rest
decreases-loop-rest l = 64 - l.thread
