use Rattle.std.proofs.Common.{ℕ, ◌<◌, length, List, ◌≡◌, ◌+◌, ◌*◌, get_or, Some, ap, sym, subst, ◌∙◌, arith}
use Rattle.std.specs.Prelude.{slice_set}
use Rattle.std.proofs.lemmas.Option.{slice_get-get_or}
use Rattle.velo_events.specs.declared.config.Bounds.{Bounds}
use Rattle.velo_events.specs.declared.event.Event.{Event}
use Rattle.velo_events.specs.declared.event.Kind.{Kind}
use Rattle.velo_events.specs.WellFormed.{NamesKnown, IsWellFormed}
use Rattle.velo_traces.proofs.Past.{past}
use Rattle.velo_tables.specs.Clocks.{IsOfThreads}
use Rattle.velo_thinning.specs.Sweep.{KnowsWrite, KnowsReads, IsJudged}
use Rattle.velo_thinning.proofs.OnSwept.{swept-count, kinds_left, block_kinds, of_threads, swept-read, swept-write, swept-block, swept-synchronizing}
use Rattle.velo_thinning.proofs.sweep.Sweep.take_in.Goals as goal
use Rattle.velo_thinning.proofs.sweep.Sweep.take_in.Goals.{in-Read, in-Write, in-Begin, in_default+in_ok-synchronize-in_default}

-- what the operation names is there
inside : (bounds : Bounds) (log : List Event) (n : ℕ) → n < length log → IsWellFormed bounds log → (k : Kind) → (get_or log n past).kind ≡ k → NamesKnown bounds k
inside bounds log n within well k is = subst (NamesKnown bounds) is (well.each n (get_or log n past) (slice_get-get_or log n past within)).known_names

pub read-requires-clause-count : goal.read-requires-clause-count
read-requires-clause-count c =
    let within = c.requires.within in
    let count = swept-count c.args.events.now c.args.position c.args.self.now (omega (arith, within)) c.requires.swept in
    omega (arith, count, within, c.requires.few)

pub read-requires-clause-thread : goal.read-requires-clause-thread
read-requires-clause-thread c =
    let log = c.args.events.now in
    let n = c.args.position in
    let known = (c.requires.well.each n (get_or log n past) (slice_get-get_or log n past c.requires.within)).known_thread in
    omega (arith, known, c.requires.swept.few)

pub read-requires-clause-writes : goal.read-requires-clause-writes
read-requires-clause-writes c =
    let known = inside c.args.self.now.bounds c.args.events.now c.args.position c.requires.within c.requires.well _ c.in-Read.is in
    omega (arith, known, c.from.ensures, c.requires.swept.write_count)

pub read-requires-clause-reads : goal.read-requires-clause-reads
read-requires-clause-reads c =
    let known = inside c.args.self.now.bounds c.args.events.now c.args.position c.requires.within c.requires.well _ c.in-Read.is in
    omega (arith, known, c.from.ensures, c.requires.swept.read_count)

pub read-requires-clause-ordered : goal.read-requires-clause-ordered
read-requires-clause-ordered c =
    let known = inside c.args.self.now.bounds c.args.events.now c.args.position c.requires.within c.requires.well _ c.in-Read.is in
    omega (arith, known, c.from.ensures, c.requires.swept.ordered_count)

pub write-requires-clause-count : goal.write-requires-clause-count
write-requires-clause-count c =
    let within = c.requires.within in
    let count = swept-count c.args.events.now c.args.position c.args.self.now (omega (arith, within)) c.requires.swept in
    omega (arith, count, within, c.requires.few)

pub write-requires-clause-writes : goal.write-requires-clause-writes
write-requires-clause-writes c =
    let known = inside c.args.self.now.bounds c.args.events.now c.args.position c.requires.within c.requires.well _ c.in-Write.is in
    omega (arith, known, c.from-in-Write.ensures, c.requires.swept.write_count)

pub write-requires-clause-reads : goal.write-requires-clause-reads
write-requires-clause-reads c =
    let known = inside c.args.self.now.bounds c.args.events.now c.args.position c.requires.within c.requires.well _ c.in-Write.is in
    omega (arith, known, c.from-in-Write.ensures, c.requires.swept.read_count)

pub write-requires-clause-ordered : goal.write-requires-clause-ordered
write-requires-clause-ordered c =
    let known = inside c.args.self.now.bounds c.args.events.now c.args.position c.requires.within c.requires.well _ c.in-Write.is in
    omega (arith, known, c.from-in-Write.ensures, c.requires.swept.ordered_count)

pub synchronize-requires : goal.synchronize-requires
synchronize-requires c =
    let log = c.args.events.now in
    let n = c.args.position in
    let e = get_or log n past in
    let within = c.requires.within in
    let count = swept-count log n c.args.self.now (omega (arith, within)) c.requires.swept in
    record {
      count = omega (arith, count, within, c.requires.few);
      threads = subst (λ k. IsOfThreads k e) (sym c.requires.swept.threads) (of_threads c.args.self.now.bounds log n e (c.requires.well.each n e (slice_get-get_or log n past within)));
    }

pub returns-clause-swept : goal.returns-clause-swept
returns-clause-swept c =
    let log = c.args.events.now in
    let n = c.args.position in
    let e = get_or log n past in
    let there = slice_get-get_or log n past c.requires.within in
    let old = c.args.self.now in
    elim c.match-event.branch [
      | in-Read w ↦
          let here = there ∙ ap (λ k. Some (record { thread = e.thread; kind = k })) w.in-Read.is in
          let new = w.read.new.self in
          let done = w.read.ensures in
          rw w.self-is (swept-read log n w.in-Read.x.0 _ e.thread here old new c.requires.well c.requires.swept done.bounds done.clocks done.count done.writes
          (subst (λ k. new.reads.items ≡ slice_set old.reads.items (k * 64 + e.thread.0) (old.count + 1)) w.from.ensures done.reads)
          (subst (λ k. IsJudged old.ordered.items new.ordered.items k (KnowsWrite old e.thread.0 k)) w.from.ensures done.ordered))
      | in-Write w ↦
          let here = there ∙ ap (λ k. Some (record { thread = e.thread; kind = k })) w.in-Write.is in
          let new = w.write.new.self in
          let done = w.write.ensures in
          rw w.self-is (swept-write log n w.in-Write.x.0 _ e.thread here old new c.requires.well c.requires.swept done.bounds done.clocks done.count
          (subst (λ k. new.writes.items ≡ slice_set old.writes.items k (record { by = e.thread; stamp = old.count + 1 })) w.from-in-Write.ensures done.writes)
          done.reads
          (subst (λ k. IsJudged old.ordered.items new.ordered.items k (KnowsWrite old e.thread.0 k × KnowsReads old e.thread.0 k)) w.from-in-Write.ensures done.ordered))
      | in-Begin w ↦
          let k = block_kinds e.kind w.in-Begin.is in
          rw w.self-is (swept-block log n e there k.0 k.1 old c.requires.swept)
      | in_default+in_ok-synchronize-in_default w ↦
          let done = w.in_ok-synchronize-in_default.ensures in
          let k = kinds_left e.kind w.in_default.not-Read w.in_default.not-Write w.in_default.not-Begin w.in_default.not-End in
          rw w.self-is (swept-synchronizing log n e there k.0 k.1 old w.synchronize.new.self c.requires.well c.requires.swept done.bounds done.noted done.count done.writes done.reads done.ordered)
    ]
