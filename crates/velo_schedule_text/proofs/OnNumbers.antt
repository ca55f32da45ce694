-- Thread numbers alone are the words of turns without a star.
use Rattle.std.proofs.Common.{◌≡◌, ℕ, ◌<◌, Bool, false, cond, eqb, List, [], ◌∷◌, ◌++◌, All, length, get_or, map, replicate, true≢false, true, ⊎_elim, refl, sym, ap, ap₂, subst, ◌∙◌, append_assoc, append-nil, arith}
use Rattle.std.specs.Prelude.{decimal}
use Rattle.std.proofs.lemmas.Bool.Decides.{eqb_tells}
use Rattle.std.proofs.lemmas.List.Elements.{All-nil, All-cons, All-append, All-head, All-tail, All-map, All-from_get_or}
use Rattle.velo_events.specs.declared.event.ThreadId.{ThreadId}
use Rattle.velo_events.specs.declared.limits.TheConstants.{MAX_THREADS}
use Rattle.velo_schedule_text.specs.declared.turns.Turns.{Turns}
use Rattle.velo_schedule_text.specs.declared.schedule.ScheduleFault.{ScheduleFault}
use Rattle.velo_schedule_text.specs.declared.schedule.ScheduleFault.TheVariants.{Bad, Memory}
use Rattle.velo_schedule_text.specs.Schedule.{AreTurns, IsFaultOfSchedule, IsFaultOfTurns, IsSchedule, SaysTurns, in_order, numbers, numbers_text, spaced, turns_text, words_text}
use Rattle.velo_schedule_text.specs.Short.{one_turn}
use Rattle.velo_schedule_text.proofs.OnTexts.{Apart, digits_apart, threads_of_schedule}
use Rattle.velo_schedule_text.proofs.OnWords.{count_text}

abbrev Small : ThreadId → Type 0
Small t = t.0 < MAX_THREADS

-- ---- numbers say turns

each_one : (schedule : List ThreadId) → in_order (map one_turn schedule) ≡ schedule
each_one [] = refl
each_one (t ∷ rest) = ap (λ (turns : List ThreadId). t ∷ turns) (each_one rest)

words_of_numbers : (schedule : List ThreadId) → numbers schedule ≡ spaced (map one_turn schedule)
words_of_numbers [] = refl
words_of_numbers (t ∷ rest) =
    ap₂ (λ (word behind : List ℕ). 32 ∷ (word ++ behind)) (sym (append-nil (decimal t.0))) (words_of_numbers rest)

text_of_numbers : (schedule : List ThreadId) → numbers_text schedule ≡ words_text (map one_turn schedule)
text_of_numbers [] = refl
text_of_numbers (t ∷ rest) = ap₂ (λ (word behind : List ℕ). word ++ behind) (sym (append-nil (decimal t.0))) (words_of_numbers rest)

pub numbers_say_turns : (text : List ℕ) (schedule : List ThreadId) → IsSchedule text schedule → SaysTurns text schedule
numbers_say_turns text schedule is = record {
  words = map one_turn schedule;
  each = All-map AreTurns one_turn schedule (λ k d lt. record { thread = is.threads k d lt; some = omega arith; few = omega arith });
  whole = is.whole ∙ text_of_numbers schedule;
  turns = sym (each_one schedule);
  few = is.few;
}

-- ---- no star in them

abbrev pub NoStar : ℕ → Type 0
NoStar = Apart 42

starless_numbers : (schedule : List ThreadId) → All Small schedule → All NoStar (numbers schedule)
starless_numbers [] each = All-nil NoStar
starless_numbers (t ∷ rest) each =
    let small = All-head Small t rest each in
    All-cons NoStar 32 (decimal t.0 ++ numbers rest) refl
    (All-append NoStar (decimal t.0) (numbers rest) (digits_apart 42 (omega arith) t.0 (omega (arith, small))) (starless_numbers rest (All-tail Small t rest each)))

starless_text : (schedule : List ThreadId) → All Small schedule → All NoStar (numbers_text schedule)
starless_text [] each = All-nil NoStar
starless_text (t ∷ rest) each = All-tail NoStar 32 (numbers_text (t ∷ rest)) (starless_numbers (t ∷ rest) each)

pub none_with_star : (text : List ℕ) (k : ℕ) → k < length text → get_or text k 0 ≡ 42 → (schedule : List ThreadId) → IsSchedule text schedule → ⊥
none_with_star text k lt star schedule is =
    let apart : All NoStar text = subst (All NoStar) (sym is.whole) (starless_text schedule is.threads) in
    let other : eqb 42 42 ≡ false = subst NoStar star (apart k 0 lt) in
    absurd cc

-- ---- without a star each word is a number

-- the search for a star found none
pub starless : (text : List ℕ) (found : Bool) → ((k : ℕ) → k < length text → get_or text k 0 ≡ 42 → found ≡ true) → found ≡ false → All NoStar text
starless text found finds none = All-from_get_or NoStar text 0 (λ k lt.
    ⊎_elim (λ star. absurd (true≢false (sym (finds k lt star.1) ∙ none))) (λ other. other.0) (eqb_tells (get_or text k 0) 42))

behind : (xs ys : List ℕ) → All NoStar (xs ++ ys) → All NoStar ys
behind [] ys each = each
behind (x ∷ xs) ys each = behind xs ys (All-tail NoStar x (xs ++ ys) each)

record IsOneTurn (x : Turns) (rest : List ℕ) : Type 0 where
  one : x.count ≡ 1
  text : turns_text x ≡ decimal x.thread.0
  apart : All NoStar rest

one_alone : (x : Turns) (rest : List ℕ) → All NoStar (turns_text x ++ rest) → IsOneTurn x rest
one_alone x rest each =
    let counted : All NoStar (count_text x.count ++ rest) =
    behind (decimal x.thread.0) (count_text x.count ++ rest) (subst (All NoStar) (append_assoc (decimal x.thread.0) (count_text x.count) rest) each) in
    ⊎_elim
    (λ one.
    let none : count_text x.count ≡ [] = ap (λ (b : Bool). cond b [] (42 ∷ decimal x.count)) one.0 in
    record {
      one = one.1;
      text = ap (λ (count : List ℕ). decimal x.thread.0 ++ count) none ∙ append-nil (decimal x.thread.0);
      apart = subst (λ (count : List ℕ). All NoStar (count ++ rest)) none counted;
    })
    (λ more.
    let star : count_text x.count ≡ 42 ∷ decimal x.count = ap (λ (b : Bool). cond b [] (42 ∷ decimal x.count)) more.0 in
    let other : eqb 42 42 ≡ false = All-head NoStar 42 (decimal x.count ++ rest) (subst (λ (count : List ℕ). All NoStar (count ++ rest)) star counted) in
    absurd cc)
    (eqb_tells x.count 1)

abbrev first_turn : Turns → List Turns → ℕ → List ThreadId
first_turn x rest n = replicate n x.thread ++ in_order rest

number_of_word : (x : Turns) (rest : List Turns) → IsOneTurn x (spaced rest) → spaced rest ≡ numbers (in_order rest)
    → turns_text x ++ spaced rest ≡ numbers_text (in_order (x ∷ rest))
number_of_word x rest is so =
    ap₂ (λ (word behind : List ℕ). word ++ behind) is.text so ∙ sym (ap (λ (n : ℕ). numbers_text (first_turn x rest n)) is.one)

numbers_of_words : (words : List Turns) → All NoStar (spaced words) → spaced words ≡ numbers (in_order words)
numbers_of_words [] each = refl
numbers_of_words (x ∷ rest) each =
    let is = one_alone x (spaced rest) (All-tail NoStar 32 (turns_text x ++ spaced rest) each) in
    ap₂ (λ (word behind : List ℕ). 32 ∷ (word ++ behind)) is.text (numbers_of_words rest is.apart)
    ∙ sym (ap (λ (n : ℕ). numbers (first_turn x rest n)) is.one)

text_of_words : (words : List Turns) → All NoStar (words_text words) → words_text words ≡ numbers_text (in_order words)
text_of_words [] each = refl
text_of_words (x ∷ rest) each =
    let is = one_alone x (spaced rest) each in
    number_of_word x rest is (numbers_of_words rest is.apart)

pub starless_schedule : (text : List ℕ) (schedule : List ThreadId) → All NoStar text → SaysTurns text schedule → IsSchedule text schedule
starless_schedule text schedule apart says = record {
  whole = says.whole ∙ (text_of_words says.words (subst (All NoStar) says.whole apart) ∙ ap numbers_text (sym says.turns));
  threads = threads_of_schedule text schedule says;
  few = says.few;
}

pub starless_fault : (text : List ℕ) (fault : ScheduleFault) → IsFaultOfTurns text fault → IsFaultOfSchedule text fault
starless_fault text Bad none = λ schedule is. none schedule (numbers_say_turns text schedule is)
starless_fault text Memory refused = refused
