-- What the pieces of a log say of a round. Private contracts cite these words.
use Rattle.std.specs.Prelude.{◌≡◌, ◌<◌, ⊤, ℕ, Bool, List, Option, Some, None}
use Rattle.velo_events.specs.declared.event.Event.{Event}
use Rattle.velo_filter.specs.Left.{Omitted}
use Rattle.velo_audit.specs.Audit.{RoundTells}
use Rattle.velo_audit.specs.Cut.{IsCut}
use Rattle.velo_audit.specs.declared.cut.Cut.{Cut}
use Rattle.velo_audit.specs.declared.pieces.PiecesVerdict.{PiecesVerdict}
use Rattle.velo_audit.specs.declared.pieces.PiecesVerdict.TheVariants.{Told, NoCycle, Unknown}

-- it is that of the round, if it is known
abbrev pub IsRoundVerdict : Bool → List Event → Omitted → PiecesVerdict → Type 0
IsRoundVerdict with_witness log omitted (Told told) = RoundTells with_witness log omitted (Some told)
IsRoundVerdict with_witness log omitted NoCycle = RoundTells with_witness log omitted None
IsRoundVerdict with_witness log omitted Unknown = ⊤

-- the cut is one of the log. Either this is the verdict, or the cut is behind the place
pub record Judges (with_witness : Bool) (log : List Event) (omitted : Omitted) (place : ℕ) (cut : Cut) (judged : Option PiecesVerdict) : Type 0 where
  pub is_cut : IsCut omitted log cut
  pub verdict : (v : PiecesVerdict) → judged ≡ Some v → IsRoundVerdict with_witness log omitted v
  pub moved : judged ≡ None → place < cut.place
