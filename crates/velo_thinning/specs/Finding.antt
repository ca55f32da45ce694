-- What is kept of the events before a position. Private contracts cite these words.
use Rattle.std.specs.Prelude.{◌≡◌, ℕ, zero, suc, ◌≤◌, ◌<◌, Bool, not, ◌||◌, if◌then◌else◌, List, length, Some, filter, filter_map, slice_get, slice_index, slice_set, ⊤, IsTrue, ◌↔◌}
use Rattle.std.specs.List.{range_with_len}
use Rattle.velo_events.specs.declared.event.Event.{Event}
use Rattle.velo_events.specs.declared.event.Kind.{Kind}
use Rattle.velo_events.specs.declared.event.Kind.TheVariants.{Read, Write, Fork, Join}
use Rattle.velo_events.specs.Event.{are_same, thread_of, variable_of, thread_forked_or_joined, is_by, is_write_of}
use Rattle.velo_events.specs.Block.{passes_at}
use Rattle.velo_filter.specs.declared.thinned.Thinned.{Thinned}
use Rattle.velo_filter.specs.Tables.{marked}
use Rattle.velo_thinning.specs.Repeating.{IsRepeat}
use Rattle.velo_thinning.specs.declared.finder.Finder.{Finder}

-- one more than the last number below n that passes, or 0
unfoldable pub after_last : ℕ → (ℕ → Bool) → ℕ
after_last zero test = 0
after_last (suc n) test = if test n then suc n else after_last n test

-- the event is of the thread, or forks or joins it
abbrev pub is_near : ℕ → Event → Bool
is_near t e = is_by t e || are_same (thread_forked_or_joined e.kind) (Some t)

abbrev pub is_access_to : ℕ → Event → Bool
is_access_to x e = are_same (variable_of e.kind) (Some x)

-- this is kept of the events before position n
pub record IsFound (log : List Event) (n : ℕ) (f : Finder) : Type 0 where
  pub threads : length f.near.items ≡ 256
  pub written_count : length f.written.items ≡ 65536
  pub accessed_count : length f.accessed.items ≡ 65536
  pub near : (t : ℕ) → t < 256 → slice_index f.near.items t ≡ after_last n (passes_at log (is_near t))
  pub written : (x : ℕ) → x < 65536 → slice_index f.written.items x ≡ after_last n (passes_at log (is_write_of x))
  pub accessed : (x : ℕ) → x < 65536 → slice_index f.accessed.items x ≡ after_last n (passes_at log (is_access_to x))

-- the tables after an event, with which there are so many
abbrev pub handled_after : List ℕ → Kind → ℕ → List ℕ
handled_after xs (Fork u) count = slice_set xs u.0 count
handled_after xs (Join u) count = slice_set xs u.0 count
handled_after xs _ count = xs

abbrev pub near_after : List ℕ → Event → ℕ → List ℕ
near_after xs e count = handled_after (slice_set xs (thread_of e) count) e.kind count

abbrev pub written_after : List ℕ → Kind → ℕ → List ℕ
written_after xs (Write x v) count = slice_set xs x.0 count
written_after xs _ count = xs

abbrev pub accessed_after : List ℕ → Kind → ℕ → List ℕ
accessed_after xs (Read x v) count = slice_set xs x.0 count
accessed_after xs (Write x v) count = slice_set xs x.0 count
accessed_after xs _ count = xs

-- it is an access, and nothing that conflicts with it came after so many events
abbrev pub IsFresh : Finder → Kind → ℕ → Type 0
IsFresh f (Read x v) count = slice_index f.written.items x.0 ≤ count
IsFresh f (Write x v) count = slice_index f.accessed.items x.0 ≤ count
IsFresh f _ count = ⊥

-- a variable's number is that of a row
abbrev pub IsSmall : Kind → Type 0
IsSmall (Read x v) = x.0 < 65536
IsSmall (Write x v) = x.0 < 65536
IsSmall _ = ⊤

-- of the positions those below n are marked where they repeat one
pub record AreFound (log : List Event) (n : ℕ) (marks : List Bool) : Type 0 where
  pub count : length marks ≡ length log
  pub exact : (j : ℕ) → j < n → IsTrue (marked marks j) ↔ IsRepeat log j

-- the events before position n are left that do not go
pub record IsLeftTo (goes : ℕ → Bool) (log : List Event) (n : ℕ) (left : Thinned) : Type 0 where
  pub events : left.trace.events ≡ filter_map (slice_get log) (filter (λ i. not (goes i)) (range_with_len 0 n))
  pub places : left.places.items ≡ filter (λ i. not (goes i)) (range_with_len 0 n)
