-- The longest stretches of turns of one thread.
use Rattle.std.proofs.Common.{◌≡◌, ℕ, zero, suc, ◌+◌, ◌<◌, ◌≤◌, Bool, cond, List, [], ◌∷◌, ◌++◌, All, length, get_or, drop, replicate, ⊎_elim, refl, sym, ap, subst, ◌∙◌, arith}
use Rattle.std.specs.Prelude.{⊤}
use Rattle.std.proofs.lemmas.Bool.Decides.{eqb_tells}
use Rattle.std.proofs.lemmas.List.{drop_more}
use Rattle.std.proofs.lemmas.List.Elements.{All-nil, All-cons, All-head, All-tail}
use Rattle.velo_events.specs.declared.event.ThreadId.{ThreadId}
use Rattle.velo_events.specs.declared.limits.TheConstants.{MAX_THREADS}
use Rattle.velo_schedule_text.specs.declared.limits.TheConstants.{MAX_TURNS}
use Rattle.velo_schedule_text.specs.declared.turns.Turns.{Turns}
use Rattle.velo_schedule_text.specs.Schedule.{in_order, SaysTurns}
use Rattle.velo_schedule_text.specs.Short.{one_turn, with_turn, stretches_of, short_text}

abbrev longer : ThreadId → ℕ → List Turns → List Turns
longer t n rest = record { thread = t; count = suc n } ∷ rest

pub same_thread : (t u : ThreadId) → t.0 ≡ u.0 → t ≡ u
same_thread t u e = ap (λ (n : ℕ). record { 0 = n }) e

joins : (t : ThreadId) (x : Turns) (rest : List Turns) → t.0 ≡ x.thread.0 → with_turn t (x ∷ rest) ≡ longer t x.count rest
joins t x rest e = ⊎_elim (λ yes. ap (λ (b : Bool). cond b (longer t x.count rest) (one_turn t ∷ (x ∷ rest))) yes.0) (λ no. absurd (no.1 e)) (eqb_tells t.0 x.thread.0)

parts : (t : ThreadId) (x : Turns) (rest : List Turns) → (t.0 ≡ x.thread.0 → ⊥) → with_turn t (x ∷ rest) ≡ one_turn t ∷ (x ∷ rest)
parts t x rest e = ⊎_elim (λ yes. absurd (e yes.1)) (λ no. ap (λ (b : Bool). cond b (longer t x.count rest) (one_turn t ∷ (x ∷ rest))) no.0) (eqb_tells t.0 x.thread.0)

-- ---- they are the turns

turn_first : (t : ThreadId) (words : List Turns) → in_order (with_turn t words) ≡ t ∷ in_order words
turn_first t [] = refl
turn_first t (x ∷ rest) =
    ⊎_elim
    (λ yes.
    let same = same_thread t x.thread yes.1 in
    ap in_order (joins t x rest yes.1) ∙ ap (λ (u : ThreadId). t ∷ (replicate x.count u ++ in_order rest)) same)
    (λ no. ap in_order (parts t x rest no.1))
    (eqb_tells t.0 x.thread.0)

pub in_order_stretches : (schedule : List ThreadId) → in_order (stretches_of schedule) ≡ schedule
in_order_stretches [] = refl
in_order_stretches (t ∷ rest) = turn_first t (stretches_of rest) ∙ ap (λ (turns : List ThreadId). t ∷ turns) (in_order_stretches rest)

pub record AreShort (most : ℕ) (turns : Turns) : Type 0 where
  pub thread : turns.thread.0 < MAX_THREADS
  pub some : 1 ≤ turns.count
  pub few : turns.count ≤ most

short_turn : (most : ℕ) (t : ThreadId) (words : List Turns) → t.0 < MAX_THREADS → All (AreShort most) words → All (AreShort (suc most)) (with_turn t words)
short_turn most t [] small each = All-cons (AreShort (suc most)) (one_turn t) [] (record { thread = small; some = omega arith; few = omega arith }) (All-nil (AreShort (suc most)))
short_turn most t (x ∷ rest) small each =
    let wider : (ys : List Turns) → All (AreShort most) ys → All (AreShort (suc most)) ys = λ ys h k d lt. (let y = h k d lt in record { thread = y.thread; some = y.some; few = omega (arith, y.few) }) in
    let first = All-head (AreShort most) x rest each in
    ⊎_elim
    (λ yes. subst (All (AreShort (suc most))) (sym (joins t x rest yes.1)) (All-cons (AreShort (suc most)) (record { thread = t; count = suc x.count }) rest (record { thread = small; some = omega arith; few = omega (arith, first.few) }) (wider rest (All-tail (AreShort most) x rest each))))
    (λ no. subst (All (AreShort (suc most))) (sym (parts t x rest no.1)) (All-cons (AreShort (suc most)) (one_turn t) (x ∷ rest) (record { thread = small; some = omega arith; few = omega arith }) (wider (x ∷ rest) each)))
    (eqb_tells t.0 x.thread.0)

abbrev Small : ThreadId → Type 0
Small t = t.0 < MAX_THREADS

short_words : (schedule : List ThreadId) → All Small schedule → All (AreShort (length schedule)) (stretches_of schedule)
short_words [] each = All-nil (AreShort 0)
short_words (t ∷ rest) each = short_turn (length rest) t (stretches_of rest) (All-head Small t rest each) (short_words rest (All-tail Small t rest each))

pub short_reads_back : (schedule : List ThreadId) → All Small schedule → length schedule ≤ MAX_TURNS → SaysTurns (short_text schedule) schedule
short_reads_back schedule each few =
    let short = short_words schedule each in
    record {
      words = stretches_of schedule;
      each = λ k d lt. (let x = short k d lt in record { thread = x.thread; some = x.some; few = omega (arith, x.few, few) });
      whole = refl;
      turns = sym (in_order_stretches schedule);
      few = few;
    }

-- ---- the first stretch

-- so many turns of a thread before these
abbrev pub with_turns : ThreadId → ℕ → List Turns → List Turns
with_turns t zero words = words
with_turns t (suc n) words = with_turn t (with_turns t n words)

-- the words, if there are any, begin with another thread
abbrev pub BeginsElsewhere : ThreadId → List Turns → Type 0
BeginsElsewhere t [] = ⊤
BeginsElsewhere t (x ∷ rest) = t.0 ≡ x.thread.0 → ⊥

one_before : (t : ThreadId) (words : List Turns) → BeginsElsewhere t words → with_turn t words ≡ one_turn t ∷ words
one_before t [] h = refl
one_before t (x ∷ rest) h = parts t x rest h

pub stretch : (t : ThreadId) (n : ℕ) (words : List Turns) → BeginsElsewhere t words → with_turns t (suc n) words ≡ longer t n words
stretch t zero words h = one_before t words h
stretch t (suc n) words h = ap (with_turn t) (stretch t n words h) ∙ joins t (record { thread = t; count = suc n }) words refl

begins : (t u : ThreadId) (words : List Turns) → (t.0 ≡ u.0 → ⊥) → BeginsElsewhere t (with_turn u words)
begins t u [] h = h
begins t u (x ∷ rest) h =
    ⊎_elim
    (λ yes. subst (BeginsElsewhere t) (sym (joins u x rest yes.1)) h)
    (λ no. subst (BeginsElsewhere t) (sym (parts u x rest no.1)) h)
    (eqb_tells u.0 x.thread.0)

-- one more turn before these is one more behind those that were before
later : (t : ThreadId) (n : ℕ) (words : List Turns) → with_turns t n (with_turn t words) ≡ with_turns t (suc n) words
later t zero words = refl
later t (suc n) words = ap (with_turn t) (later t n words)

-- what is known of the front of a schedule whose first so many turns are the thread's
pub record IsFront (schedule : List ThreadId) (t : ThreadId) (n : ℕ) : Type 0 where
  pub some : 1 ≤ n
  pub within : n ≤ length schedule
  pub words : stretches_of schedule ≡ with_turns t n (stretches_of (drop n schedule))

pub front_more : (schedule : List ThreadId) (t d : ThreadId) (n : ℕ) → IsFront schedule t n → n < length schedule → t ≡ get_or schedule n d → IsFront schedule t (n + 1)
front_more schedule t d n h lt e =
    let next : drop n schedule ≡ t ∷ drop (n + 1) schedule = drop_more schedule n d lt ∙ ap (λ (v : ThreadId). v ∷ drop (n + 1) schedule) (sym e) in
    let one : n + 1 ≡ suc n = omega arith in
    record {
      some = omega arith;
      within = omega (arith, lt);
      words = h.words ∙ (ap (λ (s : List ThreadId). with_turns t n (stretches_of s)) next ∙ (later t n (stretches_of (drop (n + 1) schedule)) ∙ ap (λ (k : ℕ). with_turns t k (stretches_of (drop (n + 1) schedule))) (sym one)));
    }

ends_here : (schedule : List ThreadId) (t d : ThreadId) (n : ℕ) → (n < length schedule → t.0 ≡ (get_or schedule n d).0 → ⊥) → BeginsElsewhere t (stretches_of (drop n schedule))
ends_here [] t d zero h = tt
ends_here [] t d (suc n) h = tt
ends_here (u ∷ rest) t d zero h = begins t u (stretches_of rest) (h (omega arith))
ends_here (u ∷ rest) t d (suc n) h = ends_here rest t d n (λ lt e. h (omega (arith, lt)) e)

pub first_stretch : (schedule : List ThreadId) (t d : ThreadId) (n : ℕ) → IsFront schedule t n → (n < length schedule → t.0 ≡ (get_or schedule n d).0 → ⊥) → stretches_of schedule ≡ record { thread = t; count = n } ∷ stretches_of (drop n schedule)
first_stretch schedule t d zero f h = absurd (omega (arith, f.some))
first_stretch schedule t d (suc n) f h = f.words ∙ stretch t n (stretches_of (drop (suc n) schedule)) (ends_here schedule t d (suc n) h)
