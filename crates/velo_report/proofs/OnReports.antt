-- The lines of a report, one after another.
use Rattle.std.proofs.Common.{◌≡◌, ℕ, zero, suc, ◌+◌, ◌-◌, ◌<◌, List, [], ◌∷◌, ◌++◌, length, get_or, refl, sym, ap, ◌∙◌, subst, append_assoc, arith}
use Rattle.std.proofs.lemmas.Grind.{flat_map-append}
use Rattle.std.proofs.lemmas.List.{append-nil}
use Rattle.std.specs.Prelude.{Option, codes, decimal}
use Rattle.std.proofs.lemmas.Option.{get_or_from_slice_get}
use Rattle.std.specs.List.{flat_map, range_with_len}
use Rattle.std.specs.Option.{option_copied}
use Rattle.std.specs.Borrow.{Bor}
use Rattle.std.specs.Io.KnownBytes.{Appends}
use Rattle.velo_events.specs.declared.event.Event.{Event}
use Rattle.velo_events.specs.Tally.{events_of}
use Rattle.velo_traces.specs.declared.block.Block.{Block}
use Rattle.velo_bytes.specs.Device.{AppendsBeginning}
use Rattle.velo_world.specs.declared.analysis.Alarm.{Alarm}
use Rattle.velo_world.specs.World.{AlarmOf}
use Rattle.velo_report.specs.declared.names.Names.{Names}
use Rattle.velo_report.specs.Lines.{line_of}
use Rattle.velo_report.specs.Counted.{AreEventCountsOf}
use Rattle.velo_report.specs.Report.{blame_line, blame_lines, thread_lines, verdict_lines, IsReport, AppendsReport, AppendsPartOfReport}

-- what is read past the end of some blocks
abbrev pub no_block : Block
no_block = record { first = 0; label = record { 0 = 0 } }

-- where there are blocks, each has its line
pub blame_lines-some : (names : Names) (blocks : List Block) → 0 < length blocks → blame_lines names blocks ≡ flat_map (blame_line names) blocks
blame_lines-some names [] some = absurd (omega (arith, some))
blame_lines-some names (block ∷ blocks) some = refl

-- ---- a line for each thread

-- the numbers from a on, in two parts
range-split : (a n k : ℕ) → range_with_len a (n + k) ≡ range_with_len a n ++ range_with_len (a + n) k
range-split a zero k = let e : zero + k ≡ k = omega arith in let f : a + zero ≡ a = omega arith in rw (e, f) refl
range-split a (suc n) k =
    let e : suc n + k ≡ suc (n + k) = omega arith in
    let f : (a + 1) + n ≡ a + suc n = omega arith in
    ap (range_with_len a) e ∙ ap (λ (ks : List ℕ). a ∷ ks) (range-split (a + 1) n k ∙ ap (λ (m : ℕ). range_with_len (a + 1) n ++ range_with_len m k) f)

range-next : (n : ℕ) → range_with_len 0 (n + 1) ≡ range_with_len 0 n ++ n ∷ []
range-next n = range-split 0 n 1 ∙ ap (λ (m : ℕ). range_with_len 0 n ++ m ∷ []) (omega arith)

module _ (line : ℕ → List ℕ) (t : ℕ) where
  pub threads-more : flat_map line (range_with_len 0 t) ++ line t ≡ flat_map line (range_with_len 0 (t + 1))
  threads-more =
      ap (λ (u : List ℕ). flat_map line (range_with_len 0 t) ++ u) (sym (append-nil (line t)))
      ∙ sym (flat_map-append line (range_with_len 0 t) (t ∷ []))
      ∙ ap (flat_map line) (sym (range-next t))

  -- the lines of the later threads
  abbrev pub later : ℕ → List ℕ
  later n = flat_map line (range_with_len (0 + (t + 1)) (n - (t + 1)))

  pub threads-split : (n : ℕ) → t < n → flat_map line (range_with_len 0 n) ≡ flat_map line (range_with_len 0 t) ++ (line t ++ later n)
  threads-split n h =
      let e : n ≡ (t + 1) + (n - (t + 1)) = omega (arith, h) in
      ap (λ (m : ℕ). flat_map line (range_with_len 0 m)) e
      ∙ ap (flat_map line) (range-split 0 (t + 1) (n - (t + 1)))
      ∙ flat_map-append line (range_with_len 0 (t + 1)) (range_with_len (0 + (t + 1)) (n - (t + 1)))
      ∙ ap (λ (u : List ℕ). u ++ later n) (sym threads-more)
      ∙ append_assoc (flat_map line (range_with_len 0 t)) (line t) (later n)

-- a count at its place is that of the thread
pub counted_events : (log : List Event) (counts : List ℕ) (t : ℕ) → AreEventCountsOf log counts → t < length counts → get_or counts t 0 ≡ events_of log t
counted_events log counts t are within = get_or_from_slice_get counts t (events_of log t) 0 (are.each t within)

-- ---- the whole

abbrev pub total_line : ℕ → List ℕ
total_line total = line_of (codes "events") (decimal total ∷ [])

-- what is written of a log that has this alarm and this count of events, behind what was gathered before
module _ (names : Names) (threads : ℕ) (log : List Event) (told : Option (Bor Alarm)) (total : ℕ) (exact : AlarmOf log (option_copied told)) (count : total ≡ length log) where
  abbrev pub text_told : List ℕ
  text_told = total_line total ++ (thread_lines names log threads ++ verdict_lines names (option_copied told))

  is_report : IsReport names threads log text_told
  is_report = record {
    alarm = option_copied told;
    exact = exact;
    lines = ap (λ (n : ℕ). total_line n ++ (thread_lines names log threads ++ verdict_lines names (option_copied told))) count;
  }

  module _ (old new : Option (List ℕ)) (before : List ℕ) (nothing : before ≡ []) where
    pub whole_report : Appends old new (before ++ text_told) → AppendsReport old new names threads log
    whole_report p = record { text = text_told; is_report = is_report; appends = subst (λ (b : List ℕ). Appends old new (b ++ text_told)) nothing p }

    pub part_of_report : AppendsBeginning old new (before ++ text_told) → AppendsPartOfReport old new names threads log
    part_of_report p = record { text = text_told; is_report = is_report; appends = subst (λ (b : List ℕ). AppendsBeginning old new (b ++ text_told)) nothing p }
