-- Other numbers for the variables and locks of operations.
use Rattle.std.specs.Prelude.{◌≡◌, ◌<◌, ℕ, List, map}
use Rattle.velo_events.specs.declared.config.Bounds.{Bounds}
use Rattle.velo_events.specs.declared.event.Event.{Event}
use Rattle.velo_events.specs.declared.event.Kind.{Kind}
use Rattle.velo_events.specs.declared.event.Kind.TheVariants.{Read, Write, Acquire, Release, AcquireShared, ReleaseShared}

-- the number that each variable and each lock is given
pub record Numbers : Type 0 where
  pub variable : ℕ → ℕ
  pub lock : ℕ → ℕ

-- the operation, with the numbers given
abbrev pub renamed_kind : Numbers → Kind → Kind
renamed_kind n (Read x v) = Read (record { 0 = n.variable x.0 }) v
renamed_kind n (Write x v) = Write (record { 0 = n.variable x.0 }) v
renamed_kind n (Acquire m) = Acquire (record { 0 = n.lock m.0 })
renamed_kind n (Release m) = Release (record { 0 = n.lock m.0 })
renamed_kind n (AcquireShared m) = AcquireShared (record { 0 = n.lock m.0 })
renamed_kind n (ReleaseShared m) = ReleaseShared (record { 0 = n.lock m.0 })
renamed_kind n kind = kind

abbrev pub renamed : Numbers → Event → Event
renamed n e = record { thread = e.thread; kind = renamed_kind n e.kind }

abbrev pub renamed_log : Numbers → List Event → List Event
renamed_log n log = map (renamed n) log

abbrev pub renamed_scripts : Numbers → List (List Kind) → List (List Kind)
renamed_scripts n scripts = map (map (renamed_kind n)) scripts

-- the second numbers lead back from the first
pub record LeadBack (n m : Numbers) : Type 0 where
  pub variable : (x : ℕ) → m.variable (n.variable x) ≡ x
  pub lock : (x : ℕ) → m.lock (n.lock x) ≡ x

-- what is there is given a number of what is there
pub record StayWithin (bounds : Bounds) (n : Numbers) : Type 0 where
  pub variable : (x : ℕ) → x < bounds.variables → n.variable x < bounds.variables
  pub lock : (x : ℕ) → x < bounds.locks → n.lock x < bounds.locks

-- each number is given once, and those of the bounds stay there
pub record AreExchanged (bounds : Bounds) (n m : Numbers) : Type 0 where
  pub back : LeadBack n m
  pub forth : LeadBack m n
  pub within : StayWithin bounds n
  pub within_back : StayWithin bounds m
