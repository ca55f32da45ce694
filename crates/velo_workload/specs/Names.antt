-- Names in the order in which they came. Private contracts cite these words.
use Rattle.std.specs.Prelude.{ℕ, List, map}
use denote.Ref.{Bor}
use Rattle.indexmap.specs.IndexSet.{IndexSet}
use Rattle.velo_workload.specs.Words.{Word}

abbrev pub names_of : {S : Type 0} → IndexSet (Bor (List ℕ)) S → List Word
names_of names = map (λ k. k.now) names.keys
