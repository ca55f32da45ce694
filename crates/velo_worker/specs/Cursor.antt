-- The place of a walk. Private contracts cite these words.
use Rattle.std.specs.Prelude.{◌≡◌, ◌≤◌, ◌<◌, ⊤, ℕ, zero, suc, ◌+◌, ◌-◌, List, [], ◌∷◌, ◌++◌, length, drop, IsTrue, slice_index_or}
use Rattle.velo_workload.specs.declared.statement.Statement.{Statement}
use Rattle.velo_workload.specs.declared.statement.Statement.TheVariants.{Repeat, Done}
use Rattle.velo_workload.specs.declared.limits.TheConstants.{MAX_OPEN_REPEATS}
use Rattle.velo_workload.specs.Bodies.{is_nested}
use Rattle.velo_worker.specs.declared.cursor.OpenRepeat.{OpenRepeat}
use Rattle.velo_worker.specs.Walk.{repeated, first, others, levels}

-- a position in a body, and the repeats that are open there, the innermost first
pub record Cursor : Type 0 where
  pub position : ℕ
  pub repeats : List OpenRepeat

-- the first n of the repeats, the last of them first
unfoldable pub innermost_first : List OpenRepeat → ℕ → List OpenRepeat
innermost_first repeats zero = []
innermost_first repeats (suc n) = slice_index_or repeats n (record { start = 0; again = 0 }) ∷ innermost_first repeats n

-- ---- where the next statement leads

abbrev pub moved_on : Cursor → Cursor
moved_on at = record at { position = at.position + 1 }

-- into a repeat, or past it where it is done no time
abbrev pub entered : Cursor → ℕ → ℕ → Cursor
entered at zero end = record at { position = end }
entered at (suc n) end = record { position = at.position + 1; repeats = record { start = at.position + 1; again = n } ∷ at.repeats }

-- back to the start of the innermost open repeat, or out of it
abbrev pub repeated_or_left_by : ℕ → ℕ → List OpenRepeat → ℕ → Cursor
repeated_or_left_by position start repeats zero = record { position = position + 1; repeats = repeats }
repeated_or_left_by position start repeats (suc n) = record { position = start; repeats = record { start = start; again = n } ∷ repeats }

abbrev pub repeated_or_left : ℕ → List OpenRepeat → Cursor
repeated_or_left position [] = record { position = position; repeats = [] }
repeated_or_left position (r ∷ repeats) = repeated_or_left_by position r.start repeats r.again

-- ---- what is left to do

-- with the levels from here on
unfoldable pub left_in_levels : List Statement → List OpenRepeat → List (List Statement) → List Statement
left_in_levels body [] ls = first ls
left_in_levels body (r ∷ repeats) ls = first ls ++ Done ∷ repeated r.again (first (levels (drop r.start body)) ++ Done ∷ []) ++ left_in_levels body repeats (others ls)

unfoldable pub left_at : List Statement → Cursor → List Statement
left_at body at = left_in_levels body at.repeats (levels (drop at.position body))

-- each open repeat starts where as many repeats are open around it, and after its end the same is
-- left as after the end that comes from here
unfoldable pub AreOpen : List Statement → List OpenRepeat → List (List Statement) → Type 0
AreOpen body [] ls = ⊤
AreOpen body (r ∷ repeats) ls =
    (others (levels (drop r.start body)) ≡ others ls) × IsTrue (is_nested (suc (length repeats)) (drop r.start body)) × (r.start ≤ length body) × AreOpen body repeats (others ls)

pub record StandsIn (body : List Statement) (at : Cursor) : Type 0 where
  pub within : at.position ≤ length body
  pub nested : IsTrue (is_nested (length at.repeats) (drop at.position body))
  pub are_open : AreOpen body at.repeats (levels (drop at.position body))

-- ---- the ends of repeats

-- the statements after the n-th end of a repeat that is open before them, counted from 0
unfoldable pub behind : ℕ → List Statement → List Statement
behind n [] = []
behind n (Repeat k ∷ rest) = behind (suc n) rest
behind zero (Done ∷ rest) = rest
behind (suc n) (Done ∷ rest) = behind n rest
behind n (statement ∷ rest) = behind n rest

-- the position after the end of the repeat that is open at position i; after the body where none is
pub record IsRepeatEnd (body : List Statement) (i end : ℕ) : Type 0 where
  pub within : end ≤ length body
  pub later : i ≤ end
  pub behind : drop end body ≡ behind 0 (drop i body)

-- of each statement, the end of the repeat that is open after it
pub record AreRepeatEnds (body : List Statement) (ends : List ℕ) : Type 0 where
  pub count : length ends ≡ length body
  pub each : (i : ℕ) → i < length body → IsRepeatEnd body (i + 1) (slice_index_or ends i 0)

-- the end of the repeat that is open before the statement at position i, by the end of the one that
-- is open after it
abbrev pub end_before : Statement → ℕ → List ℕ → ℕ → ℕ
end_before Done i ends end = i + 1
end_before (Repeat n) i ends end = slice_index_or ends (end - 1) 0
end_before statement i ends end = end

-- ---- a walk

-- past a statement, where the ends of the repeats are these
abbrev pub past : Statement → Cursor → List ℕ → Cursor
past (Repeat n) at ends = entered at n (slice_index_or ends at.position 0)
past Done at ends = repeated_or_left at.position at.repeats
past statement at ends = moved_on at

-- a repeat has room, and a `Done` its repeat
abbrev pub MayPass : Statement → Cursor → Type 0
MayPass (Repeat n) at = length at.repeats < MAX_OPEN_REPEATS
MayPass Done at = 0 < length at.repeats
MayPass statement at = ⊤

pub record IsWalk (body : List Statement) (ends : List ℕ) (at : Cursor) : Type 0 where
  pub are_ends : AreRepeatEnds body ends
  pub stands : StandsIn body at
