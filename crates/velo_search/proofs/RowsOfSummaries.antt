-- The summary at logs that are written out, as a check that it says what is meant.
use Rattle.std.proofs.Common.{◌≡◌, ℕ, true, false, List, [], ◌∷◌, ◌++◌, refl}
use Rattle.velo_events.specs.declared.event.Event.{Event}
use Rattle.velo_events.specs.declared.event.Kind.{Kind}
use Rattle.velo_events.specs.declared.event.Kind.TheVariants.{Read, Write, Acquire, Release, AcquireShared, ReleaseShared, Begin, End, Fork, Join, Exit}
use Rattle.velo_events.specs.Event.{variable_cell, lock_cell}
use Rattle.velo_events.specs.Heap.{times}
use Rattle.velo_search.specs.declared.group.Group.TheVariants.{WritesOf, ReadsOf}
use Rattle.velo_search.specs.Summary.{Summary, blank, is_inside, closes_cycle, step}

-- a proof that says `unfolding computed` computes with the definitions
computed : Unit {0}
unfolding times
computed = tt

-- the summary after the events that are left, where `log` has those before them
abbrev summary_from : List Event → Summary → List Event → Summary
summary_from log s [] = s
summary_from log s (e ∷ es) = summary_from (log ++ e ∷ []) (step (is_inside log e) s e) es

abbrev summary_of : List Event → Summary
summary_of log = summary_from [] blank log

abbrev by : ℕ → Kind → Event
by t k = record { thread = record { 0 = t }; kind = k }

abbrev read : ℕ → ℕ → ℕ → Event
read t x v = by t (Read (record { 0 = x }) v)

abbrev write : ℕ → ℕ → ℕ → Event
write t x v = by t (Write (record { 0 = x }) v)

abbrev acquire : ℕ → ℕ → Event
acquire t m = by t (Acquire (record { 0 = m }))

abbrev release : ℕ → ℕ → Event
release t m = by t (Release (record { 0 = m }))

abbrev share : ℕ → ℕ → Event
share t m = by t (AcquireShared (record { 0 = m }))

abbrev unshare : ℕ → ℕ → Event
unshare t m = by t (ReleaseShared (record { 0 = m }))

abbrev begin : ℕ → ℕ → Event
begin t l = by t (Begin (record { 0 = l }))

abbrev fork : ℕ → ℕ → Event
fork t u = by t (Fork (record { 0 = u }))

abbrev join : ℕ → ℕ → Event
join t u = by t (Join (record { 0 = u }))

-- ---- a lost update: thread 0 reads and writes in a block, and thread 1 writes between

abbrev lost_start : List Event
lost_start = fork 0 1 ∷ begin 0 7 ∷ read 0 0 0 ∷ write 1 0 5 ∷ []

-- thread 0's block reaches the write between, which is not its own
lost-reached : (summary_of lost_start).reached (WritesOf (variable_cell 0)) 0 ≡ true
unfolding computed
lost-reached = refl

lost-beyond : (summary_of lost_start).beyond (WritesOf (variable_cell 0)) 0 ≡ true
unfolding computed
lost-beyond = refl

-- the read is of its own block
lost-read : (summary_of lost_start).reached (ReadsOf (variable_cell 0)) 0 ≡ true
unfolding computed
lost-read = refl

lost-read_own : (summary_of lost_start).beyond (ReadsOf (variable_cell 0)) 0 ≡ false
unfolding computed
lost-read_own = refl

-- the second write closes a cycle
lost-closes : closes_cycle (summary_of lost_start) (write 0 0 1) ≡ true
unfolding computed
lost-closes = refl

lost-alarm : (summary_of (lost_start ++ write 0 0 1 ∷ [])).alarmed ≡ true
unfolding computed
lost-alarm = refl

-- ---- a write between a block's begin and its read closes none

abbrev shifted_start : List Event
shifted_start = fork 0 1 ∷ begin 0 1 ∷ write 1 0 2 ∷ []

shifted-none : closes_cycle (summary_of shifted_start) (read 0 0 2) ≡ false
unfolding computed
shifted-none = refl

-- ---- two blocks that read one another's writes

abbrev crossed_start : List Event
crossed_start = fork 0 1 ∷ begin 0 1 ∷ write 0 0 1 ∷ begin 1 2 ∷ write 1 1 1 ∷ read 0 1 1 ∷ []

-- thread 1's block reaches what thread 0's has done, and not the other way round
crossed-one_way : (summary_of crossed_start).reached (WritesOf (variable_cell 0)) 1 ≡ true
unfolding computed
crossed-one_way = refl

crossed-not_back : (summary_of crossed_start).reached (WritesOf (variable_cell 1)) 0 ≡ false
unfolding computed
crossed-not_back = refl

crossed-closes : closes_cycle (summary_of crossed_start) (read 1 0 1) ≡ true
unfolding computed
crossed-closes = refl

-- ---- a block that forks a thread and joins it

abbrev forked_start : List Event
forked_start = begin 0 1 ∷ fork 0 1 ∷ by 1 Exit ∷ []

forked-closes : closes_cycle (summary_of forked_start) (join 0 1) ≡ true
unfolding computed
forked-closes = refl

-- ---- a block that takes a lock twice, and another thread has it between

abbrev twice_start : List Event
twice_start =
    fork 0 1 ∷ begin 0 1 ∷ acquire 0 0 ∷ read 0 0 0 ∷ release 0 0 ∷ acquire 1 0 ∷ write 1 0 9 ∷ release 1 0 ∷ []

twice-closes : closes_cycle (summary_of twice_start) (acquire 0 0) ≡ true
unfolding computed
twice-closes = refl

-- ---- two blocks under one lock, one after the other: no cycle, and the first block is forgotten

abbrev locked : List Event
locked =
    fork 0 1 ∷ begin 0 1 ∷ acquire 0 0 ∷ read 0 0 0 ∷ write 0 0 1 ∷ release 0 0 ∷ by 0 End
    ∷ begin 1 1 ∷ acquire 1 0 ∷ read 1 0 1 ∷ write 1 0 2 ∷ release 1 0 ∷ []

locked-none : (summary_of (locked ++ by 1 End ∷ [])).alarmed ≡ false
unfolding computed
locked-none = refl

locked-forgotten : (summary_of locked).reached (ReadsOf (variable_cell 0)) 0 ≡ false
unfolding computed
locked-forgotten = refl

locked-second : (summary_of locked).reached (WritesOf (variable_cell 0)) 1 ≡ true
unfolding computed
locked-second = refl

-- all that it reaches is its own
locked-own : (summary_of locked).beyond (WritesOf (variable_cell 0)) 1 ≡ false
unfolding computed
locked-own = refl

-- ---- three threads in a ring: what reaches a thread passes on through it

abbrev ring_start : List Event
ring_start =
    fork 0 1 ∷ fork 0 2 ∷ begin 0 1 ∷ write 0 0 1 ∷ begin 0 2 ∷ read 1 0 1 ∷ write 1 1 1 ∷ read 2 1 1 ∷ write 2 2 2 ∷ []

ring-reached : (summary_of ring_start).reached (WritesOf (variable_cell 2)) 0 ≡ true
unfolding computed
ring-reached = refl

ring-closes : closes_cycle (summary_of ring_start) (read 0 2 2) ≡ true
unfolding computed
ring-closes = refl

-- ---- three blocks: thread 0's reaches thread 2's only once thread 1's has read, after thread 2 did

abbrev late_start : List Event
late_start =
    fork 0 1 ∷ fork 0 2 ∷ begin 0 1 ∷ begin 1 2 ∷ begin 2 3 ∷ write 1 1 1 ∷ read 2 1 1 ∷ write 0 0 1 ∷ []

late-before : (summary_of late_start).reached (ReadsOf (variable_cell 1)) 0 ≡ false
unfolding computed
late-before = refl

late-after : (summary_of (late_start ++ read 1 0 1 ∷ [])).reached (ReadsOf (variable_cell 1)) 0 ≡ true
unfolding computed
late-after = refl

-- ---- a block that shares a lock twice: another sharer between closes no cycle, a writer does

abbrev shared_start : List Event
shared_start = fork 0 1 ∷ begin 0 1 ∷ share 0 0 ∷ unshare 0 0 ∷ share 1 0 ∷ unshare 1 0 ∷ []

shared-none : closes_cycle (summary_of shared_start) (share 0 0) ≡ false
unfolding computed
shared-none = refl

shared-of_own : (summary_of shared_start).reached (ReadsOf (lock_cell 0)) 0 ≡ true
unfolding computed
shared-of_own = refl

abbrev written_start : List Event
written_start = fork 0 1 ∷ begin 0 1 ∷ share 0 0 ∷ unshare 0 0 ∷ acquire 1 0 ∷ release 1 0 ∷ []

written-closes : closes_cycle (summary_of written_start) (share 0 0) ≡ true
unfolding computed
written-closes = refl
