-- The definitions at logs that are written out, as a check that they say what is meant.
use Rattle.std.proofs.Common.{◌≡◌, ℕ, List, [], ◌∷◌, refl}
use Rattle.std.specs.Prelude.{true, false, ◌==◌}
use Rattle.velo_events.specs.declared.event.Event.{Event}
use Rattle.velo_events.specs.declared.event.Kind.{Kind}
use Rattle.velo_events.specs.declared.event.Kind.TheVariants.{Write, Acquire, Release, AcquireShared, ReleaseShared, Begin, End, Fork}
use Rattle.velo_events.specs.Heap.{times}
use Rattle.velo_events.specs.Block.{any_below, least_below, passes_at, is_balanced, is_open_at, is_in_block, owner}
use Rattle.velo_filter.specs.Left.{Omitted, nothing, is_listed, with_labels, is_dissolved, ends_at, is_left_out, places_of, rest_of, place_of}

computed : Unit {0}
unfolding times any_below least_below passes_at is_balanced is_open_at is_in_block owner is_listed is_dissolved ends_at is_left_out places_of rest_of place_of
computed = tt

abbrev by : ℕ → Kind → Event
by t k = record { thread = record { 0 = t }; kind = k }

abbrev write : ℕ → ℕ → ℕ → Event
write t x v = by t (Write (record { 0 = x }) v)

abbrev acquire : ℕ → ℕ → Event
acquire t m = by t (Acquire (record { 0 = m }))

abbrev release : ℕ → ℕ → Event
release t m = by t (Release (record { 0 = m }))

abbrev share : ℕ → ℕ → Event
share t m = by t (AcquireShared (record { 0 = m }))

abbrev unshare : ℕ → ℕ → Event
unshare t m = by t (ReleaseShared (record { 0 = m }))

abbrev begin : ℕ → ℕ → Event
begin t l = by t (Begin (record { 0 = l }))

abbrev close : ℕ → Event
close t = by t End

abbrev fork : ℕ → ℕ → Event
fork t u = by t (Fork (record { 0 = u }))

-- ---- two blocks in one another, and a block of another thread; the outer one's label is left out

abbrev nested : List Event
nested = fork 0 1 ∷ begin 0 7 ∷ begin 1 7 ∷ begin 0 8 ∷ write 0 0 1 ∷ close 0 ∷ close 1 ∷ write 0 0 2 ∷ close 0 ∷ []

abbrev outer : Omitted
outer = record { labels = λ l. l == 7; locks = λ m. false; variables = λ x. false }

nested-places : places_of outer nested ≡ 0 ∷ 3 ∷ 4 ∷ 5 ∷ 7 ∷ []
unfolding computed
nested-places = refl

nested-rest : rest_of outer nested ≡ fork 0 1 ∷ begin 0 8 ∷ write 0 0 1 ∷ close 0 ∷ write 0 0 2 ∷ []
unfolding computed
nested-rest = refl

nested-ends : ends_at nested 1 8 ≡ true
unfolding computed
nested-ends = refl

nested-ends_not : ends_at nested 1 5 ≡ false
unfolding computed
nested-ends_not = refl

nested-place : place_of outer nested 3 ≡ 5
unfolding computed
nested-place = refl

-- the inner one's label is left out
abbrev inner : Omitted
inner = record { labels = λ l. l == 8; locks = λ m. false; variables = λ x. false }

inner-rest : rest_of inner nested ≡ fork 0 1 ∷ begin 0 7 ∷ begin 1 7 ∷ write 0 0 1 ∷ close 1 ∷ write 0 0 2 ∷ close 0 ∷ []
unfolding computed
inner-rest = refl

-- ---- a lock and a variable are left out

abbrev guarded : List Event
guarded = begin 0 7 ∷ acquire 0 0 ∷ write 0 0 1 ∷ write 0 1 1 ∷ release 0 0 ∷ acquire 0 1 ∷ release 0 1 ∷ close 0 ∷ []

abbrev quiet : Omitted
quiet = record { labels = λ l. false; locks = λ m. m == 0; variables = λ x. x == 1 }

guarded-rest : rest_of quiet guarded ≡ begin 0 7 ∷ write 0 0 1 ∷ acquire 0 1 ∷ release 0 1 ∷ close 0 ∷ []
unfolding computed
guarded-rest = refl

-- ---- a lock that two threads share, and that one of them then takes alone, is left out; another shared lock stays

abbrev shared : List Event
shared = fork 0 1 ∷ share 0 0 ∷ begin 1 7 ∷ share 1 0 ∷ share 1 1 ∷ unshare 0 0 ∷ unshare 1 0 ∷ acquire 0 0 ∷ unshare 1 1 ∷ close 1 ∷ release 0 0 ∷ []

shared-places : places_of quiet shared ≡ 0 ∷ 2 ∷ 4 ∷ 8 ∷ 9 ∷ []
unfolding computed
shared-places = refl

shared-rest : rest_of quiet shared ≡ fork 0 1 ∷ begin 1 7 ∷ share 1 1 ∷ unshare 1 1 ∷ close 1 ∷ []
unfolding computed
shared-rest = refl

-- with the label as well
shared-rest_of_all : rest_of (with_labels quiet (7 ∷ [])) shared ≡ fork 0 1 ∷ share 1 1 ∷ unshare 1 1 ∷ []
unfolding computed
shared-rest_of_all = refl

-- nothing is left out: the whole log is the rest
shared-whole : rest_of nothing shared ≡ shared
unfolding computed
shared-whole = refl
