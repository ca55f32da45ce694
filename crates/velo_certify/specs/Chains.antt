-- Lists that are kept in one store, each link with the number of the next one. Private contracts
-- cite these words.
use Rattle.std.specs.Prelude.{◌≡◌, ℕ, suc, ◌≤◌, ◌⊎◌, List, [], ◌∷◌, Some, slice_get, slice_index}
use Rattle.velo_certify.specs.declared.chains.Link.{Link}

abbrev pub IsIn : ℕ → List ℕ → Type 0
IsIn b [] = ⊥
IsIn b (x ∷ xs) = (x ≡ b) ⊎ IsIn b xs

-- the list that begins at a number, which counts the links from 1
abbrev pub IsChain : List Link → ℕ → List ℕ → Type 0
IsChain links k [] = k ≡ 0
IsChain links k (x ∷ xs) = (j : ℕ) × (k ≡ suc j) × ((e : Link) × (slice_get links j ≡ Some e) × (e.before ≡ x) × IsChain links e.next xs)

-- each link goes on at an earlier one
pub record AreDescending (links : List Link) : Type 0 where
  pub each : (j : ℕ) (e : Link) → slice_get links j ≡ Some e → e.next ≤ j

-- each list begins at a link that is there, or is empty
pub record AreWithin (heads : List ℕ) (count : ℕ) : Type 0 where
  pub each : (a : ℕ) → slice_index heads a ≤ count
