-- For each transaction, lists of those from which an edge leads to it: enough of them that chains
-- of links stand for all edges. Private contracts cite these words.
use Rattle.std.specs.Prelude.{◌≡◌, ◌≢◌, ℕ, ◌+◌, ◌*◌, ◌-◌, ◌<◌, ◌≤◌, ◌⊎◌, Bool, true, false, List, [], length, slice_index, IsTrue, IsFalse}
use Rattle.velo_events.specs.declared.event.Event.{Event}
use Rattle.velo_events.specs.declared.event.Access.{Access}
use Rattle.velo_events.specs.declared.event.Access.TheVariants.{Shared}
use Rattle.velo_events.specs.About.{is_about, thread_in}
use Rattle.velo_events.specs.Event.{thread_of, access_of}
use Rattle.velo_events.specs.Block.{owner, passes_at}
use Rattle.velo_events.specs.Graph.{Edge}
use Rattle.velo_certify.specs.Chains.{IsIn, IsChain}
use Rattle.velo_certify.specs.declared.chains.Links.{Links}
use Rattle.velo_certify.specs.Owners.{event_at}
use Rattle.velo_certify.specs.Serial.{has}
use Rattle.velo_traces.specs.Numbers.{strong_for}
use Rattle.velo_certify.specs.Threads.{thread_at}

-- ---- which positions are linked

-- the operation does not change what it is about
abbrev pub is_weak : Access → Bool
is_weak (Shared c) = true
is_weak (Access.Fork u) = true
is_weak (Access.Join u) = true
is_weak _ = false

-- i is the last position before j whose event passes the test
pub record IsLast (trace : List Event) (test : Event → Bool) (i j : ℕ) : Type 0 where
  pub before : i < j
  pub passes : IsTrue (passes_at trace test i)
  pub none : (k : ℕ) → i < k → k < j → IsFalse (passes_at trace test k)

-- j is the first one after i
pub record IsFirst (trace : List Event) (test : Event → Bool) (i j : ℕ) : Type 0 where
  pub after : i < j
  pub passes : IsTrue (passes_at trace test j)
  pub none : (k : ℕ) → i < k → k < j → IsFalse (passes_at trace test k)

-- the last event of j's thread, or the last strong one of what j is about
abbrev pub LinksBack : List Event → ℕ → ℕ → Type 0
LinksBack trace i j = IsLast trace (is_about thread_in (thread_of (event_at trace j))) i j ⊎ IsLast trace (strong_for (access_of (event_at trace j).kind)) i j

-- the first strong one after i of what i is weakly about
abbrev pub LinksOn : List Event → ℕ → ℕ → Type 0
LinksOn trace i j = IsTrue (is_weak (access_of (event_at trace i).kind)) × IsFirst trace (strong_for (access_of (event_at trace i).kind)) i j

-- the links into positions before n, and those from positions from m on
abbrev pub LinksSoFar : List Event → ℕ → ℕ → ℕ → ℕ → Type 0
LinksSoFar trace n m i j = ((j < n) × LinksBack trace i j) ⊎ ((m ≤ i) × LinksOn trace i j)

-- ---- the lists

abbrev pub list_of : Links → ℕ → List ℕ → Type 0
list_of l a xs = IsChain l.links.items (slice_index l.heads.items a) xs

-- the list of a has b
abbrev pub IsInList : Links → ℕ → ℕ → Type 0
IsInList l a b = (xs : List ℕ) × list_of l a xs × IsIn b xs

-- each list has what it had, and besides that edges alone
pub record IsGrown (trace : List Event) (old new : Links) : Type 0 where
  pub count : length new.heads.items ≡ length old.heads.items
  pub each : (a : ℕ) (xs : List ℕ) → list_of old a xs → (ys : List ℕ) × list_of new a ys × ((b : ℕ) → IsIn b xs → IsIn b ys) × ((b : ℕ) → IsIn b ys → IsIn b xs ⊎ Edge trace b a)

-- ---- what stands for a link

-- the list of some position at or before j, of j's thread, has some position at or after i, of i's
-- thread
pub record IsImplied (trace : List Event) (l : Links) (i j : ℕ) : Type 0 where
  pub from : ℕ
  pub to : ℕ
  pub from_there : from < length trace
  pub to_there : to < length trace
  pub later : i ≤ from
  pub of_from : thread_at trace from ≡ thread_at trace i
  pub earlier : to ≤ j
  pub of_to : thread_at trace to ≡ thread_at trace j
  pub edge : Edge trace (owner trace from) (owner trace to)
  pub listed : IsInList l (owner trace to) (owner trace from)

-- inside a thread no list is needed
abbrev pub IsKept : List Event → Links → ℕ → ℕ → Type 0
IsKept trace l i j = (thread_at trace i ≡ thread_at trace j) ⊎ IsImplied trace l i j

-- the place of the threads of two positions
abbrev pub pair_at : List Event → ℕ → ℕ → ℕ
pair_at trace i j = thread_at trace j * 256 + thread_at trace i

-- k counts i from 1, and j is before n
abbrev pub IsBefore : ℕ → ℕ → ℕ → ℕ → Type 0
IsBefore n k i j = (k ≡ i + 1) × (j < n)

-- k counts j from the end, and i is n or after it
abbrev pub IsBehind : List Event → ℕ → ℕ → ℕ → ℕ → Type 0
IsBehind trace n k i j = (k ≡ length trace - j) × (n ≤ i)

-- the lists have a link between two threads, with its number
pub record IsShown (trace : List Event) (bound : ℕ → ℕ → ℕ → Type 0) (l : Links) (p k : ℕ) : Type 0 where
  pub from : ℕ
  pub to : ℕ
  pub from_there : from < length trace
  pub to_there : to < length trace
  pub pair : pair_at trace from to ≡ p
  pub small : thread_at trace from < 256
  pub number : bound k from to
  pub edge : Edge trace (owner trace from) (owner trace to)
  pub listed : IsInList l (owner trace to) (owner trace from)

-- the lists have all links whose numbers are known
pub record AreShown (trace : List Event) (bound : ℕ → ℕ → ℕ → Type 0) (l : Links) (known : List ℕ) : Type 0 where
  pub count : length known ≡ 65536
  pub each : (p : ℕ) → 0 < slice_index known p → IsShown trace bound l p (slice_index known p)

-- a link is kept, or was
pub record IsLinked (trace : List Event) (from to number : ℕ) (known_before known_after : List ℕ) (old new : Links) : Type 0 where
  pub grown : IsGrown trace old new
  pub forward : number ≡ from + 1 → AreShown trace (IsBefore to) old known_before → AreShown trace (IsBefore (to + 1)) new known_after × IsKept trace new from to
  pub backward : number ≡ length trace - to → AreShown trace (IsBehind trace (from + 1)) old known_before → AreShown trace (IsBehind trace from) new known_after × IsKept trace new from to

-- positions counted from 1, and from the end
unfoldable pub counted : ℕ → ℕ
counted i = i + 1

unfoldable pub counted_back : List Event → ℕ → ℕ
counted_back trace i = length trace - i

-- a transaction has a list, of edges alone
pub record HasRow (trace : List Event) (l : Links) (a : ℕ) : Type 0 where
  pub xs : List ℕ
  pub list : list_of l a xs
  pub sound : (b : ℕ) → IsIn b xs → Edge trace b a

-- and so does each
pub record HasRows (trace : List Event) (l : Links) : Type 0 where
  pub count : length l.heads.items ≡ length trace
  pub each : (a : ℕ) → a < length trace → HasRow trace l a

-- all links so far are kept
pub record HasLinks (trace : List Event) (n m : ℕ) (l : Links) : Type 0 where
  pub rows : HasRows trace l
  pub linked : (i j : ℕ) → j < length trace → LinksSoFar trace n m i j → IsKept trace l i j

-- the same, but for those from listed transactions
pub record HasLinksLeft (trace : List Event) (listed : List Bool) (l : Links) : Type 0 where
  pub rows : HasRows trace l
  pub linked : (i j : ℕ) → j < length trace → LinksSoFar trace (length trace) 0 i j → IsTrue (has listed (owner trace i)) ⊎ IsKept trace l i j

-- what is left of a list after listed transactions
pub record IsLeft (listed : List Bool) (l : Links) (k : ℕ) (xs : List ℕ) : Type 0 where
  pub ys : List ℕ
  pub list : IsChain l.links.items k ys
  pub keeps : (b : ℕ) → IsIn b xs → IsTrue (has listed b) ⊎ IsIn b ys
  pub only : (b : ℕ) → IsIn b ys → IsIn b xs

-- the list of a transaction has lost listed ones at its front; it is empty, or begins with one that
-- is not listed
pub record DropsListed (listed : List Bool) (a : ℕ) (old new : Links) (answer : Bool) : Type 0 where
  pub count : length new.heads.items ≡ length old.heads.items
  pub others : (c : ℕ) (xs : List ℕ) → c ≢ a → list_of old c xs → list_of new c xs
  pub own : (xs : List ℕ) → list_of old a xs → (left : IsLeft listed new (slice_index new.heads.items a) xs) × (IsTrue answer → left.ys ≡ []) × (IsFalse answer → (b : ℕ) × IsIn b left.ys × IsFalse (has listed b))
