-- The words of a schedule's text, cut at its spaces.
use Rattle.std.proofs.Common.{◌≡◌, ℕ, ◌+◌, ◌%◌, ◌^◌, ◌<◌, ◌≤◌, Bool, false, cond, eqb, List, [], ◌∷◌, ◌++◌, All, length, get_or, take, drop, map, replicate, ⊎_elim, refl, sym, ap, ap₂, subst, ◌∙◌, Some, None, append_assoc, append-nil, arith}
use Rattle.std.specs.Prelude.{decimal}
use Rattle.std.specs.List.{slice_split, join_with_byte}
use Rattle.std.proofs.lemmas.Fmt.{decimal_by_steps, decimal_nonempty}
use Rattle.std.proofs.lemmas.Bool.Decides.{eqb_tells, nat_tests}
use Rattle.std.proofs.lemmas.List.{take_more, map_push, take-map, length-map, length-append, length-replicate, get_or-map, take-append-drop}
use Rattle.std.proofs.lemmas.List.Elements.{All-nil, All-cons, All-head, All-tail, All-append, All-push, All-replicate, All-take}
use Rattle.std.proofs.lemmas.List.Splits.{slice_split_none, slice_split_at, join_with_byte-slice_split}
use Rattle.velo_events.specs.Refusals.{GrowthRefused}
use Rattle.velo_events.specs.declared.event.ThreadId.{ThreadId}
use Rattle.velo_events.specs.declared.limits.TheConstants.{MAX_THREADS}
use Rattle.velo_bytes.proofs.Choices.{some_is}
use Rattle.velo_schedule_text.specs.declared.limits.TheConstants.{MAX_TURNS}
use Rattle.velo_schedule_text.specs.declared.turns.Turns.{Turns}
use Rattle.velo_schedule_text.specs.declared.schedule.ScheduleFault.{ScheduleFault}
use Rattle.velo_schedule_text.specs.declared.schedule.ScheduleFault.TheVariants.{Bad, Memory}
use Rattle.velo_schedule_text.specs.Schedule.{turns_text, AreTurns, spaced, words_text, in_order, SaysTurns, IsFaultOfTurns}
use Rattle.velo_schedule_text.specs.Words.{turns_in}
use Rattle.velo_schedule_text.proofs.OnWords.{count_text, turns_taken, turns_again}

-- ---- no space in a word

-- another byte than this one
abbrev pub Apart : ℕ → ℕ → Type 0
Apart c b = eqb b c ≡ false

abbrev NoSpace : ℕ → Type 0
NoSpace = Apart 32

digit_apart : (c d : ℕ) → c < 48 → d < 10 → eqb (48 + d) c ≡ false
digit_apart c d less lt = grind (less, lt, arith, nat_tests)

one_digit : (c : ℕ) → c < 48 → (n : ℕ) → n < 10 → All (Apart c) ((48 + n) ∷ [])
one_digit c less n lt = All-cons (Apart c) (48 + n) [] (digit_apart c n less lt) (All-nil (Apart c))

more_digits : (c : ℕ) → c < 48 → (n : ℕ) (ds : List ℕ) → 10 ≤ n → All (Apart c) ds → All (Apart c) (ds ++ ((48 + n % 10) ∷ []))
more_digits c less n ds ge h = All-append (Apart c) ds ((48 + n % 10) ∷ []) h (one_digit c less (n % 10) (omega arith))

-- what is no digit does not stand in a number
pub digits_apart : (c : ℕ) → c < 48 → (n : ℕ) → n < 2 ^ 64 → All (Apart c) (decimal n)
digits_apart c less n lt = decimal_by_steps (λ n ds. All (Apart c) ds) (one_digit c less) (more_digits c less) n lt

no_space : (n : ℕ) → n < 2 ^ 64 → All NoSpace (decimal n)
no_space n lt = digits_apart 32 (omega arith) n lt

count_apart : (n : ℕ) → n < 2 ^ 64 → All NoSpace (count_text n)
count_apart n lt =
    ⊎_elim
    (λ one. subst (All NoSpace) (sym (ap (λ (b : Bool). cond b [] (42 ∷ decimal n)) one.0)) (All-nil NoSpace))
    (λ more. subst (All NoSpace) (sym (ap (λ (b : Bool). cond b [] (42 ∷ decimal n)) more.0)) (All-cons NoSpace 42 (decimal n) refl (no_space n lt)))
    (eqb_tells n 1)

word_apart : (x : Turns) → AreTurns x → All NoSpace (turns_text x)
word_apart x h =
    All-append NoSpace (decimal x.thread.0) (count_text x.count) (no_space x.thread.0 (omega (arith, h.thread))) (count_apart x.count (omega (arith, h.few)))

-- ---- the words of a text

abbrev pub words_in : List ℕ → List (List ℕ)
words_in text = slice_split (λ b. eqb b 32) text

abbrev pub texts_of : List Turns → List (List ℕ)
texts_of words = map turns_text words

joined : (words : List Turns) → words_text words ≡ join_with_byte 32 (texts_of words)
joined [] = refl
joined (x ∷ []) = append-nil (turns_text x)
joined (x ∷ y ∷ rest) = ap (λ (text : List ℕ). turns_text x ++ 32 ∷ text) (joined (y ∷ rest))

words_of_text : (x : Turns) (rest : List Turns) → All AreTurns (x ∷ rest) → words_in (words_text (x ∷ rest)) ≡ texts_of (x ∷ rest)
words_of_text x [] each =
    ap words_in (append-nil (turns_text x)) ∙ slice_split_none (λ b. eqb b 32) (turns_text x) (word_apart x (All-head AreTurns x [] each))
words_of_text x (y ∷ rest) each =
    slice_split_at (λ b. eqb b 32) (turns_text x) 32 (words_text (y ∷ rest)) (word_apart x (All-head AreTurns x (y ∷ rest) each)) refl
    ∙ ap (λ (words : List (List ℕ)). turns_text x ∷ words) (words_of_text y rest (All-tail AreTurns x (y ∷ rest) each))

cut : (text : List ℕ) (words : List Turns) → 0 < length text → All AreTurns words → text ≡ words_text words → words_in text ≡ texts_of words
cut text [] some each whole = absurd (omega (arith, some, ap length whole))
cut text (x ∷ rest) some each whole = ap words_in whole ∙ words_of_text x rest each

-- each schedule of the text has its words
words_of_schedule : (text : List ℕ) (schedule : List ThreadId) → 0 < length text → (h : SaysTurns text schedule) → words_in text ≡ texts_of h.words
words_of_schedule text schedule some h = cut text h.words some h.each h.whole

-- the words are those of one list
same_words : (xs ys : List Turns) → All AreTurns xs → All AreTurns ys → texts_of xs ≡ texts_of ys → xs ≡ ys
same_words [] [] ex ey e = refl
same_words [] (y ∷ ys) ex ey e = absurd (omega (arith, ap length e))
same_words (x ∷ xs) [] ex ey e = absurd (omega (arith, ap length e))
same_words (x ∷ xs) (y ∷ ys) ex ey e =
    let head : turns_text x ≡ turns_text y = cc in
    let tail : texts_of xs ≡ texts_of ys = cc in
    let found : Some x ≡ Some y = sym (turns_again x (All-head AreTurns x xs ex)) ∙ (ap turns_in head ∙ turns_again y (All-head AreTurns y ys ey)) in
    ap₂ (λ (z : Turns) (zs : List Turns). z ∷ zs) (some_is x y found) (same_words xs ys (All-tail AreTurns x xs ex) (All-tail AreTurns y ys ey) tail)

-- ---- how far the text is read

pub record Reads (text : List ℕ) (k : ℕ) (schedule : List ThreadId) : Type 0 where
  pub words : List Turns
  pub each : All AreTurns words
  pub texts : texts_of words ≡ take k (words_in text)
  pub turns : schedule ≡ in_order words
  pub few : length schedule ≤ MAX_TURNS

in_order_push : (words : List Turns) (x : Turns) → in_order (words ++ x ∷ []) ≡ in_order words ++ replicate x.count x.thread
in_order_push [] x = append-nil (replicate x.count x.thread)
in_order_push (y ∷ rest) x =
    ap (λ (turns : List ThreadId). replicate y.count y.thread ++ turns) (in_order_push rest x)
    ∙ sym (append_assoc (replicate y.count y.thread) (in_order rest) (replicate x.count x.thread))

texts_push : (text : List ℕ) (k : ℕ) (word : List ℕ) (words : List Turns) (x : Turns) → texts_of words ≡ take k (words_in text) → k < length (words_in text) → word ≡ get_or (words_in text) k word → word ≡ turns_text x → texts_of (words ++ x ∷ []) ≡ take (k + 1) (words_in text)
texts_push text k word words x so_far more is says =
    map_push turns_text words x
    ∙ ap₂ (λ (front : List (List ℕ)) (last : List ℕ). front ++ last ∷ []) so_far (sym says ∙ is)
    ∙ sym (take_more (words_in text) k word more)

-- one word more
pub read_more : (text : List ℕ) (k : ℕ) (word : List ℕ) (before after : List ThreadId) (x : Turns) → Reads text k before → k < length (words_in text) → word ≡ get_or (words_in text) k word → Some x ≡ turns_in word → after ≡ before ++ replicate x.count x.thread → length after ≤ MAX_TURNS → Reads text (k + 1) after
read_more text k word before after x h more is says pushed few =
    let said = turns_taken word x (sym says) in
    record {
      words = h.words ++ x ∷ [];
      each = All-push AreTurns h.words x h.each said.fits;
      texts = texts_push text k word h.words x h.texts more is said.text;
      turns = pushed ∙ (ap (λ (turns : List ThreadId). turns ++ replicate x.count x.thread) h.turns ∙ sym (in_order_push h.words x));
      few = few;
    }

-- all words are read
pub all_read : (text : List ℕ) (k : ℕ) (schedule : List ThreadId) → Reads text k schedule → take k (words_in text) ≡ words_in text → SaysTurns text schedule
all_read text k schedule h all = record {
  words = h.words;
  each = h.each;
  whole = sym (join_with_byte-slice_split 32 text) ∙ (ap (join_with_byte 32) (sym (h.texts ∙ all)) ∙ sym (joined h.words));
  turns = h.turns;
  few = h.few;
}

-- ---- why there is none

-- a word of the text says no turns
pub none_with : (text : List ℕ) (k : ℕ) (word : List ℕ) → 0 < length text → k < length (words_in text) → word ≡ get_or (words_in text) k word → None ≡ turns_in word → (schedule : List ThreadId) → SaysTurns text schedule → ⊥
none_with text k word some more is none schedule h =
    let e = words_of_schedule text schedule some h in
    let d : Turns = record { thread = record { 0 = 0 }; count = 1 } in
    let lt : k < length h.words = omega (arith, more, ap length e, length-map h.words turns_text) in
    let x : Turns = get_or h.words k d in
    let w : word ≡ turns_text x = is ∙ (ap (λ (words : List (List ℕ)). get_or words k word) e ∙ get_or-map turns_text h.words k d word lt) in
    let found : None ≡ Some x = none ∙ (ap turns_in w ∙ turns_again x (h.each k d lt)) in
    absurd cc

length_in_order : (xs ys : List Turns) → length (in_order xs) ≤ length (in_order (xs ++ ys))
length_in_order [] ys = omega arith
length_in_order (x ∷ xs) ys =
    omega (arith, length_in_order xs ys, length-append (replicate x.count x.thread) (in_order xs), length-append (replicate x.count x.thread) (in_order (xs ++ ys)))

-- the words that are read, and one that has too many turns
pub none_beyond : (text : List ℕ) (k : ℕ) (word : List ℕ) (before : List ThreadId) (x : Turns) → 0 < length text → Reads text k before → k < length (words_in text) → word ≡ get_or (words_in text) k word → Some x ≡ turns_in word → MAX_TURNS < length before + x.count → (schedule : List ThreadId) → SaysTurns text schedule → ⊥
none_beyond text k word before x some r more is says many schedule h =
    let e = words_of_schedule text schedule some h in
    let said = turns_taken word x (sym says) in
    let read = r.words ++ x ∷ [] in
    let texts : texts_of read ≡ take (k + 1) (words_in text) = texts_push text k word r.words x r.texts more is said.text in
    let front : texts_of read ≡ texts_of (take (k + 1) h.words) = texts ∙ (ap (take (k + 1)) e ∙ take-map turns_text (k + 1) h.words) in
    let same : read ≡ take (k + 1) h.words =
    same_words read (take (k + 1) h.words) (All-push AreTurns r.words x r.each said.fits) (All-take AreTurns (k + 1) h.words h.each) front in
    let whole : read ++ drop (k + 1) h.words ≡ h.words = ap (λ (words : List Turns). words ++ drop (k + 1) h.words) same ∙ take-append-drop (k + 1) h.words in
    let longer = length_in_order read (drop (k + 1) h.words) in
    let turns : length (in_order read) ≡ length before + x.count =
    ap length (in_order_push r.words x)
    ∙ (length-append (in_order r.words) (replicate x.count x.thread)
    ∙ ap₂ (λ (a b : ℕ). a + b) (sym (ap length r.turns)) (length-replicate x.count x.thread)) in
    let all : length (in_order (read ++ drop (k + 1) h.words)) ≡ length schedule = ap (λ (words : List Turns). length (in_order words)) whole ∙ sym (ap length h.turns) in
    omega (arith, many, longer, turns, all, h.few)

-- a fault of the text, by its cases
pub fault_by_cases : (text : List ℕ) (fault : ScheduleFault) → (fault ≡ Bad → (schedule : List ThreadId) → SaysTurns text schedule → ⊥) → (fault ≡ Memory → GrowthRefused) → IsFaultOfTurns text fault
fault_by_cases text Bad bad memory = bad refl
fault_by_cases text Memory bad memory = memory refl

-- ---- a text is that of one schedule

no_words : (words : List Turns) → All AreTurns words → words_text words ≡ [] → words ≡ []
no_words [] each e = refl
no_words (x ∷ rest) each e =
    let h = All-head AreTurns x rest each in
    absurd (omega (arith, ap length e, length-append (turns_text x) (spaced rest), length-append (decimal x.thread.0) (count_text x.count), decimal_nonempty x.thread.0 (omega (arith, h.thread))))

pub one_of_text : (text : List ℕ) (one other : List ThreadId) → SaysTurns text one → SaysTurns text other → one ≡ other
one_of_text [] one other a b =
    let xs = no_words a.words a.each (sym a.whole) in
    let ys = no_words b.words b.each (sym b.whole) in
    a.turns ∙ (ap in_order (xs ∙ sym ys) ∙ sym b.turns)
one_of_text (c ∷ cs) one other a b =
    let x = words_of_schedule (c ∷ cs) one (omega arith) a in
    let y = words_of_schedule (c ∷ cs) other (omega arith) b in
    a.turns ∙ (ap in_order (same_words a.words b.words a.each b.each (sym x ∙ y)) ∙ sym b.turns)

-- ---- the threads of a schedule

threads_in_order : (words : List Turns) → All AreTurns words → All (λ (t : ThreadId). t.0 < MAX_THREADS) (in_order words)
threads_in_order [] each = All-nil (λ (t : ThreadId). t.0 < MAX_THREADS)
threads_in_order (x ∷ rest) each =
    let Small : ThreadId → Type 0 = λ t. t.0 < MAX_THREADS in
    let first = All-head AreTurns x rest each in
    All-append Small (replicate x.count x.thread) (in_order rest) (All-replicate Small x.count x.thread first.thread) (threads_in_order rest (All-tail AreTurns x rest each))

pub threads_of_schedule : (text : List ℕ) (schedule : List ThreadId) → SaysTurns text schedule → All (λ (t : ThreadId). t.0 < MAX_THREADS) schedule
threads_of_schedule text schedule h = subst (All (λ (t : ThreadId). t.0 < MAX_THREADS)) (sym h.turns) (threads_in_order h.words h.each)
