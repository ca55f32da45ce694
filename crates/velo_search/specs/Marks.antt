-- The marks of the groups, as a state of the search has them, and the summary that they are.
use Rattle.std.specs.Prelude.{◌≡◌, ⊤, ℕ, ◌+◌, ◌*◌, ◌/◌, ◌%◌, ◌<◌, Bool, false, not, ◌&&◌, ◌||◌, ◌==◌, nat_lt, if◌then◌else◌, List, slice_index_or, IsTrue}
use Rattle.velo_events.specs.declared.config.Bounds.{Bounds}
use Rattle.velo_events.specs.declared.event.Access.{Access}
use Rattle.velo_events.specs.declared.event.Access.TheVariants.{Shared, Exclusive}
use Rattle.velo_search.specs.declared.group.Group.{Group}
use Rattle.velo_search.specs.declared.group.Group.TheVariants.{OfThread, WritesOf, ReadsOf}
use Rattle.velo_events.specs.declared.thread_set.ThreadSet.{ThreadSet}
use Rattle.velo_search.specs.declared.mark.Mark.{Mark}
use Rattle.velo_events.specs.ThreadSets.{has_thread, no_threads}
use Rattle.velo_search.specs.Summary.{Summary}

-- ---- one mark

abbrev pub blank_mark : Mark
blank_mark = record { reached = no_threads; beyond = no_threads }

-- the second mark is the first one after an event of thread t that leads to the group where t is in it
pub record IsMarkAfter (t : ℕ) (behind : ThreadSet) (inside : Bool) (before after : Mark) : Type 0 where
  pub reached : (u : ℕ) → has_thread after.reached u ≡
      ((inside || not (t == u)) && (has_thread before.reached u || (has_thread before.reached t && (t == u || has_thread behind u))))
  pub beyond : (u : ℕ) → has_thread after.beyond u ≡
      ((inside || not (t == u)) && (has_thread before.beyond u || (has_thread before.reached t && (not (t == u) && has_thread behind u))))

-- ---- all marks

-- Cells by number: the variables have the even ones, the locks the odd ones.

-- the variable or lock is there
abbrev pub is_cell : Bounds → ℕ → Bool
is_cell bounds c = if c % 2 == 0 then nat_lt (c / 2) bounds.variables else nat_lt (c / 2) bounds.locks

-- where it stands: the variables first, then the locks
abbrev pub cell_number : Bounds → ℕ → ℕ
cell_number bounds c = if c % 2 == 0 then c / 2 else bounds.variables + c / 2

abbrev pub cell_count : Bounds → ℕ
cell_count bounds = bounds.variables + bounds.locks

-- what the access names is there
abbrev pub AccessKnown : Bounds → Access → Type 0
AccessKnown bounds (Shared c) = IsTrue (is_cell bounds c.0)
AccessKnown bounds (Exclusive c) = IsTrue (is_cell bounds c.0)
AccessKnown bounds (Access.Fork u) = u.0 < bounds.threads
AccessKnown bounds (Access.Join u) = u.0 < bounds.threads
AccessKnown bounds _ = ⊤

-- the thread or cell is there
abbrev pub is_known : Bounds → Group → Bool
is_known bounds (OfThread t) = nat_lt t.0 bounds.threads
is_known bounds (WritesOf c) = is_cell bounds c.0
is_known bounds (ReadsOf c) = is_cell bounds c.0

-- how many groups there are
abbrev pub group_count : Bounds → ℕ
group_count bounds = bounds.threads + 2 * cell_count bounds

-- where the group stands: the threads first, then the writes, then the reads
abbrev pub number_of : Bounds → Group → ℕ
number_of bounds (OfThread t) = t.0
number_of bounds (WritesOf c) = bounds.threads + cell_number bounds c.0
number_of bounds (ReadsOf c) = bounds.threads + cell_count bounds + cell_number bounds c.0

-- a group that is not there is reached by nobody
abbrev pub mark_of : Bounds → List Mark → Group → Mark
mark_of bounds marks g = if is_known bounds g then slice_index_or marks (number_of bounds g) blank_mark else blank_mark

abbrev pub summary_by : Bounds → Bool → List Mark → Summary
summary_by bounds alarmed marks = record {
  alarmed = alarmed;
  reached = λ g u. has_thread (mark_of bounds marks g).reached u;
  beyond = λ g u. has_thread (mark_of bounds marks g).beyond u;
}

-- the same thread, or the writes or the reads of the same cell
abbrev pub same_group : Group → Group → Bool
same_group (OfThread t) (OfThread u) = t.0 == u.0
same_group (WritesOf c) (WritesOf d) = c.0 == d.0
same_group (ReadsOf c) (ReadsOf d) = c.0 == d.0
same_group _ _ = false
