-- What the steps of the reader return. Private contracts cite these words, and `entry` and `entries`.
use Rattle.std.specs.Prelude.{◌≡◌, ℕ, Bool, List, map, Result, Ok, Err}
use Rattle.velo_events.specs.Refusals.{GrowthRefused}
use Rattle.velo_filter.specs.Left.{is_listed}
use Rattle.velo_sidecars.specs.declared.list_fault.ListFault.{ListFault}
use Rattle.velo_sidecars.specs.declared.list_fault.ListFault.TheVariants.{TooManyBytes, NotText, Memory}
use Rattle.velo_sidecars.specs.declared.list_line.Entry.{Entry as Found}
use Rattle.velo_sidecars.specs.declared.list_line.Entry.TheVariants as found
use Rattle.velo_sidecars.specs.declared.list_line.Mention.{Mention as Mentioned}
use Rattle.velo_sidecars.specs.declared.list_line.Mention.TheVariants as mentioned
use Rattle.velo_sidecars.specs.ListLine.{Entry, Mention}
use Rattle.velo_sidecars.specs.ListLine.Entry.{Nothing, Of, AllLocks}
use Rattle.velo_sidecars.specs.ListLine.Mention.{Number, Name, Word, Told}

-- a mention by its bytes
abbrev pub mention : Mentioned → Mention
mention (mentioned.Number n) = Number n
mention (mentioned.Name name) = Name name.now
mention (mentioned.Word word) = Word word.now
mention (mentioned.Told n name) = Told n name.now

-- an entry by its bytes
abbrev pub entry : Found → Entry
entry found.Nothing = Nothing
entry (found.Of kind m) = Of kind (mention m)
entry found.AllLocks = AllLocks

abbrev pub entries : List Found → List Entry
entries found = map entry found

-- the result is the expected one, with what is there then, unless an allocation failed
abbrev pub AnswersAs : {X : Type 0} → Result X ListFault → X → Result (Unit {0}) ListFault → Type 0
AnswersAs meaning after (Ok _) = meaning ≡ Ok after
AnswersAs meaning after (Err Memory) = GrowthRefused
AnswersAs meaning after (Err TooManyBytes) = ⊥
AnswersAs meaning after (Err NotText) = ⊥
AnswersAs meaning after (Err fault) = meaning ≡ Err fault

-- the numbers of the list are those that pass the test
pub record AreSeen (seen : ℕ → Bool) (numbers : List ℕ) : Type 0 where
  pub each : (n : ℕ) → seen n ≡ is_listed numbers n
