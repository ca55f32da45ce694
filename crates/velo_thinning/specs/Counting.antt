-- How many variables a log accesses.
use Rattle.std.specs.Prelude.{◌≡◌, ℕ, ◌<◌, true, Bool, Some, List, length, slice_set}
use Rattle.velo_events.specs.declared.event.Event.{Event}
use Rattle.velo_events.specs.declared.event.Kind.{Kind}
use Rattle.velo_events.specs.declared.event.Kind.TheVariants.{Read, Write}
use Rattle.velo_events.specs.Event.{are_same, variable_of}
use Rattle.velo_events.specs.Heap.{happened}
use Rattle.velo_filter.specs.Tables.{marked}
use Rattle.velo_laws.specs.Length.{counted}

abbrev pub is_access_to : ℕ → Event → Bool
is_access_to x e = are_same (variable_of e.kind) (Some x)

-- how many numbers of variables some event accesses
abbrev pub variables_in : List Event → ℕ
variables_in log = counted 65536 (λ x. happened (is_access_to x) log)

-- the variable that an operation accesses is marked
abbrev pub marked_after : List Bool → Kind → List Bool
marked_after marks (Read x v) = slice_set marks x.0 true
marked_after marks (Write x v) = slice_set marks x.0 true
marked_after marks _ = marks

-- of the numbers of variables those are marked that some event accesses
pub record AreMarked (log : List Event) (marks : List Bool) : Type 0 where
  pub count : length marks ≡ 65536
  pub each : (x : ℕ) → x < 65536 → marked marks x ≡ happened (is_access_to x) log
