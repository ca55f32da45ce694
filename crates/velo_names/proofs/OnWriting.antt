-- The lines of names, one after another.
use Rattle.std.proofs.Common.{ℕ, List, [], drop, map, refl, ap, append-nil, arith}
use Rattle.std.specs.List.{enumerate_from}
use Rattle.velo_names.specs.declared.kind.NameKind.{NameKind}
use Rattle.velo_names.specs.Names.{list_text}

-- the lines of the names from the place i on
abbrev pub lines_from : {X : Type 0} → NameKind → (X → List ℕ) → ℕ → List X → List ℕ
lines_from kind text i xs = list_text kind (enumerate_from i (map text (drop i xs)))
