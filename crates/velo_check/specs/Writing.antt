-- What a command does to a sink: to standard output, to standard error, or to a file that it
-- writes.
use Rattle.std.specs.Prelude.{◌≡◌, ℕ, List, Option, Result, Ok, Err}
use Rattle.std.specs.Io.KnownBytes.{Appends}
use Rattle.velo_bytes.specs.Device.{AppendsBeginning, with_failure}

-- a sink before and after: its bytes, if they are known, and how often it has failed
pub record Writing : Type 0 where
  pub old : Option (List ℕ)
  pub new : Option (List ℕ)
  pub failures_before : ℕ
  pub failures_after : ℕ

abbrev pub writing : {S : Type 0} → (S → Option (List ℕ)) → (S → ℕ) → S → S → Writing
writing contents failures old new =
    record {
      old = contents old;
      new = contents new;
      failures_before = failures old;
      failures_after = failures new;
    }

-- the text went out
abbrev pub Writes : Writing → List ℕ → Type 0
Writes sink text = Appends sink.old sink.new text × (sink.failures_after ≡ sink.failures_before)

-- a beginning of it went out, up to the sink's failure
abbrev pub BreaksOff : Writing → List ℕ → Type 0
BreaksOff sink text =
    AppendsBeginning sink.old sink.new text × (sink.failures_after ≡ with_failure sink.failures_before)

abbrev pub WritesNothing : Writing → Type 0
WritesNothing sink = (sink.new ≡ sink.old) × (sink.failures_after ≡ sink.failures_before)

-- what a writer of a text answers
abbrev pub Delivers : {X F : Type 0} → Writing → List ℕ → Result X F → Type 0
Delivers sink text (Ok x) = Writes sink text
Delivers sink text (Err f) = BreaksOff sink text
