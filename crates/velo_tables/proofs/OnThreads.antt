-- The threads of an event that may come next are among those of the run.
use Rattle.std.specs.Prelude.{List}
use Rattle.velo_events.specs.declared.config.Bounds.{Bounds}
use Rattle.velo_events.specs.declared.event.Event.{Event}
use Rattle.velo_events.specs.declared.event.Kind.{Kind}
use Rattle.velo_events.specs.declared.event.Kind.TheVariants.{Fork}
use Rattle.velo_events.specs.Event.{access_of}
use Rattle.velo_events.specs.WellFormed.{MayFollow, NamesKnown}
use Rattle.velo_tables.specs.Clocks.{ForksOneOf, IsOfThreads}

others : (bounds : Bounds) (k : Kind) → NamesKnown bounds k → ForksOneOf bounds.threads (access_of k)
others bounds (Fork u) h = h
others bounds _ h = tt

pub IsOfThreads-follows : (bounds : Bounds) (trace : List Event) (e : Event) → MayFollow bounds trace e → IsOfThreads bounds.threads e
IsOfThreads-follows bounds trace e follows = record { own = follows.known_thread; forked = others bounds e.kind follows.known_names }
