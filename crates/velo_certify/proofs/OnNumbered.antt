-- Positions that get numbers one after another: before the first, and one more.
use Rattle.std.proofs.Common.{◌≡◌, ℕ, ◌+◌, ◌<◌, cond, List, length, Some, sym, ap, ◌∙◌, subst, arith}
use Rattle.std.specs.Prelude.{slice_get}
use Rattle.std.proofs.lemmas.Bool.{le-ltb, lt-leb}
use Rattle.std.proofs.lemmas.Option.{slice_get-get_or, same_Some}
use Rattle.velo_events.specs.declared.event.Event.{Event}
use Rattle.velo_events.specs.Event.{access_of}
use Rattle.velo_traces.proofs.Past.{past}
use Rattle.velo_traces.specs.Numbers.{Rows, HasNumbers, IsGreatest, AreBlank, IsLookedUp, IsChangeLookedUp, IsRecorded, strong_for}
use Rattle.velo_traces.proofs.OnRows.{HasNumbers-none}
use Rattle.velo_certify.specs.Owners.{event_at}
use Rattle.velo_certify.specs.Table.{numbers_before, numbers_from, TakesIn, TakesChanges}
use Rattle.velo_certify.proofs.OnGreatest.{IsNumbered-before, IsNumbered-from, IsGreatestBefore-by, IsGreatestAfter-by}

-- no position has a number yet
pub HasNumbers-first : (trace : List Event) (numbers : ℕ → ℕ) (table : Rows) → AreBlank table → HasNumbers trace (numbers_before numbers 0) table
HasNumbers-first trace numbers table blank = HasNumbers-none trace (numbers_before numbers 0) table (λ i l. ap (λ b. cond {A = ℕ} b (numbers i) 0) (le-ltb i 0 (omega arith))) blank

pub HasNumbers-last : (trace : List Event) (numbers : ℕ → ℕ) (table : Rows) → AreBlank table → HasNumbers trace (numbers_from numbers (length trace)) table
HasNumbers-last trace numbers table blank = HasNumbers-none trace (numbers_from numbers (length trace)) table (λ i l. ap (λ b. cond {A = ℕ} b (numbers i) 0) (lt-leb (length trace) i l)) blank

-- the position at hand gets its number
pub TakesIn-by : (trace : List Event) (n : ℕ) (e : Event) (number : ℕ) (old new : Rows) (m : ℕ) → slice_get trace n ≡ Some e → IsLookedUp old e m → IsRecorded old e number new → TakesIn trace n number old new m
TakesIn-by trace n e number old new m here looked noted = record {
  forward = λ numbers is has. (
    noted.each trace n (numbers_before numbers n) (numbers_before numbers (n + 1)) here (IsNumbered-before numbers n number is) has,
    IsGreatestBefore-by trace n e here numbers m (looked.each trace (numbers_before numbers n) has),
  );
  backward = λ numbers is has. (
    noted.each trace n (numbers_from numbers (n + 1)) (numbers_from numbers n) here (IsNumbered-from numbers n number is) has,
    IsGreatestAfter-by trace n e here numbers m (looked.each trace (numbers_from numbers (n + 1)) has),
  );
}

pub TakesChanges-by : (trace : List Event) (n : ℕ) (e : Event) (number : ℕ) (old new : Rows) (other : ℕ) → n < length trace → slice_get trace n ≡ Some e → IsChangeLookedUp old e other → IsRecorded old e number new → TakesChanges trace n number old new other
TakesChanges-by trace n e number old new other within here looked noted = record {
  forward = λ numbers is has. (
    noted.each trace n (numbers_before numbers n) (numbers_before numbers (n + 1)) here (IsNumbered-before numbers n number is) has,
    subst (λ (f : Event). IsGreatest trace (numbers_before numbers n) (strong_for (access_of f.kind)) other) there (looked.each trace (numbers_before numbers n) has),
  );
  backward = λ numbers is has. (
    noted.each trace n (numbers_from numbers (n + 1)) (numbers_from numbers n) here (IsNumbered-from numbers n number is) has,
    subst (λ (f : Event). IsGreatest trace (numbers_from numbers (n + 1)) (strong_for (access_of f.kind)) other) there (looked.each trace (numbers_from numbers (n + 1)) has),
  );
}
  where
    there : e ≡ event_at trace n
    there = same_Some e (event_at trace n) (sym here ∙ slice_get-get_or trace n past within)
