-- What the steps of the reader return. Private contracts cite these words.
use Rattle.std.specs.Prelude.{◌≡◌, ℕ, Bool, List, [], ◌++◌, map, Result, Ok, Err, if◌then◌else◌}
use Rattle.std.specs.Global.{Vec}
use Rattle.std.specs.Option.{option_map_or}
use Rattle.std.specs.Str.{bytes_eq}
use denote.Ref.{Bor}
use Rattle.indexmap.specs.IndexMap.{IndexMap, get}
use Rattle.velo_events.specs.Refusals.{GrowthRefused}
use Rattle.velo_names.specs.declared.fault.NamesFault.{NamesFault}
use Rattle.velo_names.specs.declared.fault.NamesFault.TheVariants.{TooManyBytes, NotText, Memory}
use Rattle.velo_names.specs.Names.{NameList, numbers_in}

-- an entry by its bytes
abbrev pub entry_of : ℕ × Bor (List ℕ) → ℕ × List ℕ
entry_of e = (e.0, e.1.now)

abbrev pub list_in : {S : Type 0} → IndexMap ℕ (Bor (List ℕ)) S → NameList
list_in m = map entry_of m.entries

-- ---- numbers by their names

abbrev pub same_bytes : Bor (List ℕ) → Bor (List ℕ) → Bool
same_bytes x y = bytes_eq x.now y.now

-- the numbers that the index has for a name
abbrev pub numbers_at : {S : Type 0} → IndexMap (Bor (List ℕ)) (Vec ℕ) S → Bor (List ℕ) → List ℕ
numbers_at index name = option_map_or (λ (numbers : Vec ℕ). numbers.items) (get same_bytes index name) []

-- the index has for each name the numbers of the list
pub record IsIndexOf {S : Type 0} (list : NameList) (index : IndexMap (Bor (List ℕ)) (Vec ℕ) S) : Type 0 where
  pub each : (name : Bor (List ℕ)) → numbers_at index name ≡ numbers_in list name.now

-- each name has the numbers that it had
pub record AreKept {S : Type 0} (old new : IndexMap (Bor (List ℕ)) (Vec ℕ) S) : Type 0 where
  pub each : (name : Bor (List ℕ)) → numbers_at new name ≡ numbers_at old name

-- this name has these numbers more, behind the others, and every other name those that it had
pub record AreNoted {S : Type 0} (old new : IndexMap (Bor (List ℕ)) (Vec ℕ) S) (name : Bor (List ℕ)) (numbers : List ℕ) : Type 0 where
  pub each : (other : Bor (List ℕ)) → numbers_at new other ≡ numbers_at old other ++ (if same_bytes other name then numbers else [])

-- ---- what is returned

-- the result is the expected one, with what is there then, unless an allocation failed
abbrev pub AnswersAs : {X : Type 0} → Result X NamesFault → X → Result (Unit {0}) NamesFault → Type 0
AnswersAs meaning after (Ok _) = meaning ≡ Ok after
AnswersAs meaning after (Err Memory) = GrowthRefused
AnswersAs meaning after (Err TooManyBytes) = ⊥
AnswersAs meaning after (Err NotText) = ⊥
AnswersAs meaning after (Err fault) = meaning ≡ Err fault
