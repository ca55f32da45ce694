-- What the text of a report claims of a log.
use Rattle.std.specs.Prelude.{◌≡◌, ℕ, ◌+◌, ◌-◌, ◌<◌, ◌≤◌, Bool, true, false, IsTrue, List, [], ◌∷◌, codes, length, Option, Some, None, Result, Ok, Err, option_map, slice_get}
use Rattle.std.specs.Option.{option_map_or}
use Rattle.velo_bytes.specs.Parsing.{◌>>=◌, after_word, by_word}
use Rattle.velo_events.specs.Refusals.{GrowthRefused}
use Rattle.velo_names.specs.Line.{lines}
use Rattle.velo_claims.specs.declared.claim.ClaimedAlarm.{ClaimedAlarm}
use Rattle.velo_claims.specs.declared.claim.Part.{Part}
use Rattle.velo_claims.specs.declared.claim.Part.TheVariants.{Events, Threads, Transaction, Blames, Order, End}
use Rattle.velo_claims.specs.declared.fault.ReportFault.{ReportFault}
use Rattle.velo_claims.specs.declared.fault.ReportFault.TheVariants.{BadLine, EndsEarly, TooManyBytes, Memory}
use Rattle.velo_claims.specs.declared.limits.TheConstants.{MAX_REPORT_BYTES}
use Rattle.velo_claims.specs.Line.{number_after, numbers_onto, thread_or_verdict, words}

-- how many events the log has, an alarm or none, and the numbers of the certificate, line after
-- line
pub record Claimed : Type 0 where
  pub events : ℕ
  pub alarm : Option ClaimedAlarm
  pub certificate : List ℕ

abbrev pub no_claim : Claimed
no_claim = record { events = 0; alarm = None; certificate = [] }

-- ---- line by line

-- the numbers behind a word come behind those of the certificate, and what comes next is this part
abbrev pub with_list : List ℕ → Part → Claimed → List ℕ → Option (Part × Claimed)
with_list word next claim line =
    after_word word line >>= λ rest.
    option_map (λ list. (next, record claim { certificate = list }))
    (numbers_onto claim.certificate (words rest))

-- What comes next after a line, and what is claimed then; none where the line is not what comes at
-- its place. What is said of threads and of blocks to blame is passed over.
abbrev pub step : Part → Claimed → List ℕ → Option (Part × Claimed)
step Events claim line =
    option_map (λ n. (Threads, record claim { events = n })) (number_after (codes "events ") line)
step Threads claim line = option_map (λ part. (part, claim)) (thread_or_verdict line)
step (Transaction p) claim line =
    option_map
    (λ q. (Blames, record claim { alarm = Some (record { position = p; transaction = q }) }))
    (number_after (codes "transaction ") line)
step Blames claim line =
    by_word (after_word (codes "blame ") line) (λ rest. Some (Blames, claim))
    (with_list (codes "cycle ") End claim line)
step Order claim line = with_list (codes "serial ") Order claim line
step End claim line = None

-- what comes next after these lines, which come after so many, and what is claimed then; or the
-- first line that is not what comes at its place
abbrev pub claims_from : Part → Claimed → ℕ → List (List ℕ) → Result (Part × Claimed) ReportFault
claims_from part claim n [] = Ok (part, claim)
claims_from part claim n (line ∷ others) =
    option_map_or (λ (next : Part × Claimed). claims_from next.0 next.1 (n + 1) others)
    (step part claim line) (Err (BadLine (n + 1)))

abbrev pub claims_in : List ℕ → Result (Part × Claimed) ReportFault
claims_in bytes = claims_from Events no_claim 0 (lines bytes)

-- ---- the whole text

-- a report may end before this
abbrev pub is_last : Part → Bool
is_last Blames = true
is_last Order = true
is_last End = true
is_last _ = false

-- it ends there, and its last line has its newline
pub record IsWhole (bytes : List ℕ) (part : Part) : Type 0 where
  pub ended : IsTrue (is_last part)
  pub newline : slice_get bytes (length bytes - 1) ≡ Some 10

-- What the bytes of a text claim. Too many bytes come before what is wrong with a line, and this
-- before an early end. Want of memory is in none.
abbrev pub Claims : List ℕ → Result Claimed ReportFault → Type 0
Claims bytes (Err TooManyBytes) = MAX_REPORT_BYTES < length bytes
Claims bytes (Err Memory) = ⊥
Claims bytes (Err (BadLine n)) =
    (length bytes ≤ MAX_REPORT_BYTES) × (claims_in bytes ≡ Err (BadLine n))
Claims bytes (Err (EndsEarly n)) =
    (length bytes ≤ MAX_REPORT_BYTES) × (n ≡ length (lines bytes))
    × ((part : Part) × (claim : Claimed) × (claims_in bytes ≡ Ok (part, claim))
    × (¬ IsWhole bytes part))
Claims bytes (Ok claim) =
    (length bytes ≤ MAX_REPORT_BYTES)
    × ((part : Part) × (claims_in bytes ≡ Ok (part, claim)) × IsWhole bytes part)

-- what a reader of the bytes returns: what they claim, unless an allocation failed
abbrev pub ReadsAs : List ℕ → Result Claimed ReportFault → Type 0
ReadsAs bytes (Err Memory) = GrowthRefused
ReadsAs bytes (Ok claim) = Claims bytes (Ok claim)
ReadsAs bytes (Err fault) = Claims bytes (Err fault)

-- ---- words of the contracts within the crate

-- the answer is what was to come, with what is claimed then, unless an allocation failed
abbrev pub AnswersAs : Result (Part × Claimed) ReportFault → Claimed → Result (Part × ℕ) ReportFault
    → Type 0
AnswersAs meaning claim (Ok r) = meaning ≡ Ok (r.0, claim)
AnswersAs meaning claim (Err Memory) = GrowthRefused
AnswersAs meaning claim (Err (BadLine n)) = meaning ≡ Err (BadLine n)
AnswersAs meaning claim (Err fault) = ⊥
