-- A schedule in a file: how long its text is, and that it is one.
use Rattle.std.proofs.Common.{◌≡◌, ◌∙◌, ◌<◌, ◌≤◌, ◌+◌, ◌*◌, ℕ, Bool, true, false, cond, eqb, List, [], ◌∷◌, ◌++◌, All, length, replicate, ⊎_elim, sym, ap, subst, arith, inl, inr}
use Rattle.std.specs.Prelude.{decimal, codes}
use Rattle.std.specs.Str.{IsAscii, IsUtf8}
use Rattle.std.proofs.lemmas.Bool.{cases_lt}
use Rattle.std.proofs.lemmas.Bool.Decides.{eqb_tells}
use Rattle.std.proofs.lemmas.Fmt.{IsAscii-decimal, length-decimal-le}
use Rattle.std.proofs.lemmas.List.{append_cancel_right, length-append, length-replicate}
use Rattle.std.proofs.lemmas.List.Elements.{All-head, All-tail}
use Rattle.std.proofs.lemmas.Str.{IsAscii-append, IsUtf8-from_ascii}
use Rattle.std.proofs.lemmas.Str.Ascii.{IsAscii-cons, IsAscii-nil}
use Rattle.velo_events.specs.declared.event.ThreadId.{ThreadId}
use Rattle.velo_schedule_text.specs.declared.limits.TheConstants.{MAX_SCHEDULE_BYTES, MAX_TURNS}
use Rattle.velo_schedule_text.specs.declared.schedule.ScheduleFault.{ScheduleFault}
use Rattle.velo_schedule_text.specs.declared.schedule.ScheduleFault.TheVariants.{Bad, Memory}
use Rattle.velo_schedule_text.specs.declared.turns.Turns.{Turns}
use Rattle.velo_schedule_text.specs.File.{AreOfText, IsFaultOfBytes, IsScheduleIn}
use Rattle.velo_schedule_text.specs.Schedule.{AreTurns, IsFaultOfTurns, SaysTurns, in_order, spaced, turns_text, words_text}
use Rattle.velo_schedule_text.proofs.OnWords.{count_text}

-- ---- how long

-- what stands behind the thread's number is short beside its turns
count_length : (n : ℕ) → 1 ≤ n → n ≤ MAX_TURNS → length (count_text n) + 3 ≤ 3 * n
count_length n some few =
    ⊎_elim
    (λ one.
    let none : length (count_text n) ≡ 0 = ap (λ (b : Bool). length (cond b [] (42 ∷ decimal n))) one.0 in
    omega (arith, none, some))
    (λ more.
    let star : length (count_text n) ≡ length (42 ∷ decimal n) = ap (λ (b : Bool). length (cond b [] (42 ∷ decimal n))) more.0 in
    let two : 2 ≤ n = ⊎_elim (λ (lt : 1 < n). lt) (λ (le : n ≤ 1). absurd (more.1 (omega (arith, some, le)))) (cases_lt 1 n) in
    ⊎_elim
    (λ (large : 9 < n).
    let digits : length (decimal n) ≤ 7 = length-decimal-le 7 n (omega arith) (omega (arith, few)) (omega (arith, few)) in
    omega (arith, star, digits, large))
    (λ (small : n ≤ 9).
    let digits : length (decimal n) ≤ 1 = length-decimal-le 1 n (omega arith) (omega (arith, small)) (omega (arith, small)) in
    omega (arith, star, digits, two))
    (cases_lt 9 n))
    (eqb_tells n 1)

-- a word and the space before it
word_length : (x : Turns) → AreTurns x → length (turns_text x) + 1 ≤ 3 * x.count
word_length x is =
    let digits : length (decimal x.thread.0) ≤ 2 = length-decimal-le 2 x.thread.0 (omega arith) (omega (arith, is.thread)) (omega (arith, is.thread)) in
    omega (arith, digits, count_length x.count is.some is.few, length-append (decimal x.thread.0) (count_text x.count))

spaced_length : (words : List Turns) → All AreTurns words → length (spaced words) ≤ 3 * length (in_order words)
spaced_length [] each = omega arith
spaced_length (x ∷ rest) each =
    omega (
      arith,
      word_length x (All-head AreTurns x rest each),
      spaced_length rest (All-tail AreTurns x rest each),
      length-append (turns_text x) (spaced rest),
      length-append (replicate x.count x.thread) (in_order rest),
      length-replicate x.count x.thread,
    )

words_length : (words : List Turns) → All AreTurns words → length (in_order words) ≤ MAX_TURNS → length (words_text words) + 1 ≤ MAX_SCHEDULE_BYTES
words_length [] each few = omega arith
words_length (x ∷ rest) each few = omega (arith, spaced_length (x ∷ rest) each, few)

text_length : (text : List ℕ) (schedule : List ThreadId) → SaysTurns text schedule → length text + 1 ≤ MAX_SCHEDULE_BYTES
text_length text schedule is =
    omega (arith, ap length is.whole, words_length is.words is.each (omega (arith, ap length is.turns, is.few)))

-- bytes that say a schedule are few
pub schedule_bytes : (bytes : List ℕ) (schedule : List ThreadId) → IsScheduleIn bytes schedule → length bytes ≤ MAX_SCHEDULE_BYTES
schedule_bytes bytes schedule is = go is.are
  where
    few : length is.text + 1 ≤ MAX_SCHEDULE_BYTES
    few = text_length is.text schedule is.says

    go : AreOfText bytes is.text → length bytes ≤ MAX_SCHEDULE_BYTES
    go (inl line) = omega (arith, few, ap length line, length-append is.text (codes "\n"))
    go (inr alone) = omega (arith, few, ap length alone.0)

-- ---- a text

count_ascii : (n : ℕ) → n ≤ MAX_TURNS → IsAscii (count_text n)
count_ascii n few = go (eqb n 1)
  where
    go : (b : Bool) → IsAscii (cond b [] (42 ∷ decimal n))
    go true = IsAscii-nil
    go false = IsAscii-cons 42 (decimal n) (omega arith) (IsAscii-decimal n (omega (arith, few)))

word_ascii : (x : Turns) → AreTurns x → IsAscii (turns_text x)
word_ascii x is = IsAscii-append (decimal x.thread.0) (count_text x.count) (IsAscii-decimal x.thread.0 (omega (arith, is.thread))) (count_ascii x.count is.few)

spaced_ascii : (words : List Turns) → All AreTurns words → IsAscii (spaced words)
spaced_ascii [] each = IsAscii-nil
spaced_ascii (x ∷ rest) each =
    IsAscii-cons 32 (turns_text x ++ spaced rest) (omega arith)
    (IsAscii-append (turns_text x) (spaced rest) (word_ascii x (All-head AreTurns x rest each)) (spaced_ascii rest (All-tail AreTurns x rest each)))

words_ascii : (words : List Turns) → All AreTurns words → IsAscii (words_text words)
words_ascii [] each = IsAscii-nil
words_ascii (x ∷ rest) each =
    IsAscii-append (turns_text x) (spaced rest) (word_ascii x (All-head AreTurns x rest each)) (spaced_ascii rest (All-tail AreTurns x rest each))

-- bytes that say a schedule are a text
pub schedule_utf8 : (bytes : List ℕ) (schedule : List ThreadId) → IsScheduleIn bytes schedule → IsUtf8 bytes
schedule_utf8 bytes schedule is = IsUtf8-from_ascii bytes (go is.are)
  where
    ascii : IsAscii is.text
    ascii = subst IsAscii (sym is.says.whole) (words_ascii is.says.words is.says.each)

    go : AreOfText bytes is.text → IsAscii bytes
    go (inl line) = subst IsAscii (sym line) (IsAscii-append is.text (codes "\n") ascii (IsAscii-cons 10 [] (omega arith) IsAscii-nil))
    go (inr alone) = subst IsAscii (sym alone.0) ascii

-- ---- the text of the bytes is one

pub one_text : (bytes one other : List ℕ) → AreOfText bytes one → AreOfText bytes other → one ≡ other
one_text bytes one other (inl a) (inl b) = append_cancel_right one other (codes "\n") (sym a ∙ b)
one_text bytes one other (inl a) (inr b) = absurd (b.1 one a)
one_text bytes one other (inr a) (inl b) = absurd (a.1 other b)
one_text bytes one other (inr a) (inr b) = sym a.0 ∙ b.0

pub found_in : (bytes text part : List ℕ) (schedule : List ThreadId) → text ≡ bytes → AreOfText text part → SaysTurns part schedule → IsScheduleIn bytes schedule
found_in bytes text part schedule same are says = record { text = part; are = subst (λ (b : List ℕ). AreOfText b part) same are; says = says }

pub none_in : (bytes text part : List ℕ) (fault : ScheduleFault) → text ≡ bytes → AreOfText text part → IsFaultOfTurns part fault → IsFaultOfBytes bytes fault
none_in bytes text part Memory same are refused = refused
none_in bytes text part Bad same are none = λ schedule is.
    none schedule (subst (λ (t : List ℕ). SaysTurns t schedule) (one_text bytes is.text part is.are (subst (λ (b : List ℕ). AreOfText b part) same are)) is.says)
