-- Circles among threads of which each waits for some.
use Rattle.std.specs.Prelude.{◌≡◌, ◌⊎◌, ◌<◌, ℕ, Bool, false, List, [], ◌∷◌, ◌++◌, length, nat_eq, slice_get, IsTrue, IsFalse}
use Rattle.std.specs.List.{IsDistinct, list_any}
use Rattle.std.specs.Option.{option_map_or}
use Rattle.velo_events.specs.declared.thread_set.ThreadSet.{ThreadSet}
use Rattle.velo_events.specs.Graph.{Path}
use Rattle.velo_events.specs.ThreadSets.{has_thread}

-- from each to the next, and from the last to the first
abbrev pub IsRing : (ℕ → ℕ → Type 0) → List ℕ → Type 0
IsRing R [] = ⊥
IsRing R (a ∷ rest) = Path R a rest a

-- each is related to the next
abbrev pub IsChain : (ℕ → ℕ → Type 0) → List ℕ → Type 0
IsChain R [] = Unit {0}
IsChain R (a ∷ []) = Unit {0}
IsChain R (a ∷ b ∷ rest) = R a b × IsChain R (b ∷ rest)

abbrev pub IsAmong : ℕ → List ℕ → Type 0
IsAmong t [] = ⊥
IsAmong t (u ∷ rest) = (t ≡ u) ⊎ IsAmong t rest

-- by its row thread t waits for u
abbrev pub is_in_row : List ThreadSet → ℕ → ℕ → Bool
is_in_row rows t u = option_map_or (λ row. has_thread row u) (slice_get rows t) false

abbrev pub IsInRow : List ThreadSet → ℕ → ℕ → Type 0
IsInRow rows t u = IsTrue (is_in_row rows t u)

-- a path of threads that are not out, each one that the one before waits for, and the one that comes next
pub record IsWalk (rows : List ThreadSet) (out : ThreadSet) (path : List ℕ) (next : ℕ) : Type 0 where
  pub within : next < length rows
  pub left : IsFalse (has_thread out next)
  pub chain : IsChain (IsInRow rows) (path ++ next ∷ [])
  pub below : (t : ℕ) → IsTrue (list_any (nat_eq t) path) → t < length rows
  pub distinct : IsDistinct nat_eq path
