-- What the steps of the reader return. Private contracts cite these words.
use Rattle.std.specs.Prelude.{◌≡◌, ℕ, List, map, Result, Ok, Err}
use Rattle.std.specs.Borrow.{Bor}
use Rattle.velo_events.specs.Refusals.{GrowthRefused}
use Rattle.velo_sidecars.specs.declared.site_fault.SitesFault.{SitesFault}
use Rattle.velo_sidecars.specs.declared.site_fault.SitesFault.TheVariants.{BadLine, EndsEarly, TooManyBytes, NotText, Memory}
use Rattle.velo_sidecars.specs.declared.site_line.Header.{Header as Found}
use Rattle.velo_sidecars.specs.SiteLine.{Header}

abbrev pub header : Found → Header
header found = record { sites = found.sites; events = found.events }

-- places by their bytes
abbrev pub places_of : List (Bor (List ℕ)) → List (List ℕ)
places_of places = map (λ (place : Bor (List ℕ)). place.now) places

-- the answer is what was to come, with what is there then, unless it was out of memory
abbrev pub AnswersAs : {X Y : Type 0} → Result X SitesFault → X → Result Y SitesFault → Type 0
AnswersAs meaning after (Ok _) = meaning ≡ Ok after
AnswersAs meaning after (Err Memory) = GrowthRefused
AnswersAs meaning after (Err TooManyBytes) = ⊥
AnswersAs meaning after (Err NotText) = ⊥
AnswersAs meaning after (Err (EndsEarly n)) = ⊥
AnswersAs meaning after (Err (BadLine n)) = meaning ≡ Err (BadLine n)
