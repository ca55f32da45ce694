-- Why a run ends out of memory.
use Rattle.std.specs.Prelude.{◌⊎◌, ⊤}
use Rattle.velo_events.specs.declared.refusal.Refusal.{Refusal}
use Rattle.velo_events.specs.declared.refusal.Refusal.TheVariants.{Memory, RuntimeMemory}
use Rattle.velo_events.specs.Refusals.{GrowthRefused}
use Rattle.velo_worker.specs.declared.ending.Ending.{Ending}
use Rattle.velo_worker.specs.declared.ending.Ending.TheVariants as run
use Rattle.velo_worker.specs.declared.outcome.Outcome.{Outcome}
use Rattle.velo_worker.specs.declared.outcome.Outcome.TheVariants as worker
pub use Rattle.velo_seal.specs.Start.{StartRefused}

-- of a refusal: an event is refused with `Memory` only if an allocation failed. A forked thread is
-- left without its worker only if an allocation or the start of a thread failed
abbrev pub HasCause : Refusal → Type 0
HasCause Memory = GrowthRefused
HasCause RuntimeMemory = GrowthRefused ⊎ StartRefused
HasCause r = ⊤

-- of a refusal where no thread is started
abbrev pub RefusedByGrowth : Refusal → Type 0
RefusedByGrowth Memory = GrowthRefused
RefusedByGrowth RuntimeMemory = GrowthRefused
RefusedByGrowth r = ⊤

-- of what a worker ended with
abbrev pub EndedWithCause : Outcome → Type 0
EndedWithCause (worker.Refused r) = HasCause r
EndedWithCause outcome = ⊤

-- of how a run ends
abbrev pub EndsWithCause : Ending → Type 0
EndsWithCause (run.Refused t r) = HasCause r
EndsWithCause ending = ⊤

-- of how a run ends that starts no thread
abbrev pub EndsByGrowth : Ending → Type 0
EndsByGrowth (run.Refused t r) = RefusedByGrowth r
EndsByGrowth ending = ⊤
