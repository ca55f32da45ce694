-- What is read by a format, from the bytes that were read.
use Rattle.std.proofs.Common.{◌≡◌, ◌∙◌, inl, inr, sym, ◌≤◌, ◌++◌, ap, arith}
use Rattle.std.specs.Prelude.{ℕ, List, Option, None, [], length}
use Rattle.velo_check.specs.Disk.{Disk}
use Rattle.velo_check.specs.Reading.{IsReadOf}
use Rattle.velo_check.specs.declared.fate.Fate.{Fate}
use Rattle.velo_check.specs.declared.fate.Fate.TheVariants as fate
use Rattle.velo_check.specs.Failures.{failures_told}
use Rattle.velo_check.specs.Format.{Format, LacksAt, Reads, SaysNone, bytes_up_to}
use Rattle.std.proofs.lemmas.List.{append-nil, length-append}

-- ---- what its bytes mean

module _ {X : Type 0} (format : Format X) (disk : Disk) (path : List ℕ) (most : ℕ) where
  pub meant : (bytes : List ℕ) (x : X) → Reads (bytes_up_to most) disk path bytes → ((read : Option (List ℕ)) → IsReadOf most read bytes → format.says read x) → Reads format disk path x
  meant bytes x read says = record { read = read.read; given = read.given; said = says read.read.bytes read.said; no_failure = read.no_failure }

  pub unmeant : (bytes : List ℕ) (f : Fate) → Reads (bytes_up_to most) disk path bytes → ((n : ℕ) → failures_told f n ≡ n) → ((read : Option (List ℕ)) → IsReadOf most read bytes → SaysNone format read f)
      → LacksAt format disk path f
  unmeant bytes f read kept none =
      inr (record { read = read.read; given = read.given; unsaid = none read.read.bytes read.said; failures = read.no_failure ∙ sym (kept read.read.failures_before) })

  broken : (read : Option (List ℕ)) (f : Fate) → SaysNone (bytes_up_to most) read f → SaysNone format read f
  broken read fate.ReadFailed h = h
  broken read fate.Memory h = h
  broken read f h = absurd h

  -- bytes that are not read mean nothing
  pub unread : (f : Fate) → LacksAt (bytes_up_to most) disk path f → LacksAt format disk path f
  unread f (inl h) = inl h
  unread f (inr h) = inr (record { read = h.read; given = h.given; unsaid = broken h.read.bytes f h.unsaid; failures = h.failures })

-- ---- from the bytes that were read to those of the file

pub whole : (all bytes rest : List ℕ) → all ≡ bytes ++ rest → rest ≡ [] → bytes ≡ all
whole all bytes rest is none = sym (is ∙ ap (λ r. bytes ++ r) none ∙ append-nil bytes)

pub longer : (all bytes rest : List ℕ) → all ≡ bytes ++ rest → length bytes ≤ length all
longer all bytes rest is = let n = ap length is in omega (arith, n, length-append bytes rest)
