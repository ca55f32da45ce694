-- Events that stand one behind another, and the turns up to a place among them.
use Rattle.std.specs.Prelude.{◌≡◌, ◌+◌, ◌≤◌, ℕ, Bool, true, false, not, ◌&&◌, List, [], ◌∷◌, ◌++◌, Option, Some, is_some, IfSome, IsTrue, slice_get}
use Rattle.velo_events.specs.declared.event.ThreadId.{ThreadId}
use Rattle.velo_search.specs.declared.step.Step.{Step}

-- each event stands behind the one before it
abbrev pub AreEarlier : List Step → Type 0
AreEarlier steps = (i : ℕ) (s : Step) → slice_get steps i ≡ Some s → s.before ≤ i

-- the turns up to a place: none up to the first; behind an event, those up to the one before it and its own
pub data IsWay : List Step → ℕ → List ThreadId → Type 0 where
  none : (steps : List Step) (place : ℕ) (turns : List ThreadId) → place ≡ 0 → turns ≡ [] → IsWay steps place turns
  more : (steps : List Step) (place i : ℕ) (s : Step) (earlier turns : List ThreadId) → place ≡ i + 1 →
      slice_get steps i ≡ Some s → IsWay steps s.before earlier → turns ≡ earlier ++ s.thread ∷ [] → IsWay steps place turns

-- there are the same events, and maybe more behind them
pub record IsLonger (old new : List Step) : Type 0 where
  pub more : List Step
  pub is : new ≡ old ++ more

-- the turns to the place are noted where something is there after and was not before, and else what was noted stays
pub record Notes (steps : List Step) (place : ℕ) (before after : Bool) (was now : Option (List ThreadId)) : Type 0 where
  pub same : (after && not before) ≡ false → now ≡ was
  pub some : (after && not before) ≡ true → IsTrue (is_some now)
  pub way : (after && not before) ≡ true → IfSome now (IsWay steps place)
