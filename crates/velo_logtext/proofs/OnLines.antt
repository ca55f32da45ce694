-- What `event_at` takes is the line of the event, and a line of an event is taken again.
use Rattle.std.proofs.Common.{◌≡◌, ℕ, Bool, true, ◌-◌, ◌^◌, ◌<◌, ◌≤◌, false, cond, eqb, List, ◌∷◌, ◌++◌, length, Some, None, ⊎_elim, refl, sym, ap, subst, ◌∙◌, append_assoc, length-append, arith}
use Rattle.std.specs.Prelude.{decimal, codes}
use Rattle.std.proofs.lemmas.Fmt.{length-decimal-le}
use Rattle.std.proofs.lemmas.Bool.Decides.{nat_tests}
use Rattle.velo_events.specs.declared.config.Bounds.{Bounds}
use Rattle.velo_events.specs.declared.event.Event.{Event}
use Rattle.velo_events.specs.declared.limits.TheConstants.{MAX_LOCKS, MAX_THREADS}
use Rattle.velo_events.specs.declared.event.Kind.{Kind}
use Rattle.velo_events.specs.declared.event.Kind.TheVariants.{Read, Write, Acquire, Release, AcquireShared, ReleaseShared, Begin, End, Fork, Join, Exit}
use Rattle.velo_logtext.specs.Text.{kind_text, event_line, Head, header_line, AreBounds, IsKind, has_kind, IsEvent, IsEventIn}
use Rattle.velo_bytes.specs.Parsing.{◌>>=◌, Taken, number_at, after_word, by_word, of_number, spaced_number_at}
use Rattle.velo_logtext.specs.Reading.{access_at, thread_kind_at, block_kind_at, share_kind_at, lock_kind_at, kind_at, event_at, event_in, bounds_at, header_at}
use Rattle.velo_bytes.proofs.Choices.{chosen, some_is, bind_some, by_word_is}
use Rattle.velo_bytes.proofs.OnNumbers.{number_taken, number_again, after_taken}

-- ---- what is taken

-- the bytes begin with the text of the operation, whose numbers are in their ranges
record TakesKind (bytes : List ℕ) (k : Kind) (rest : List ℕ) : Type 0 where
  text : bytes ≡ kind_text k ++ rest
  fits : IsKind k

-- a word and what it is followed by
word_then : (word bytes rest more left : List ℕ) → after_word word bytes ≡ Some rest → rest ≡ more ++ left → bytes ≡ (word ++ more) ++ left
word_then word bytes rest more left e more-is = after_taken word bytes rest e ∙ ap (λ (t : List ℕ). word ++ t) more-is ∙ sym (append_assoc word more left)

number_kind_taken : (most : ℕ) (f : ℕ → Kind) (word bytes rest : List ℕ) (k : Kind) (left : List ℕ) → 9 ≤ most → most < 2 ^ 64 → ((n : ℕ) → kind_text (f n) ≡ word ++ decimal n) → ((n : ℕ) → n ≤ most → IsKind (f n))
    → after_word word bytes ≡ Some rest → of_number most f rest ≡ Some (k, left) → TakesKind bytes k left
number_kind_taken most f word bytes rest k left low high is_text is_kind e taken =
    let b = bind_some (number_at most rest) (λ n. Some (f n.0, n.1)) (k, left) taken in
    let n = b.0.0 in
    let p = some_is (f n, b.0.1) (k, left) b.2 in
    let found = number_taken most rest n b.0.1 low high b.1 in
    let whole : TakesKind bytes (f n) b.0.1 = record { text = word_then word bytes rest (decimal n) b.0.1 e found.0 ∙ ap (λ (t : List ℕ). t ++ b.0.1) (sym (is_text n)); fits = is_kind n found.1 } in
    subst (λ (q : Kind × List ℕ). TakesKind bytes q.0 q.1) p whole

bare_kind_taken : (k : Kind) (word bytes rest : List ℕ) (j : Kind) (left : List ℕ) → kind_text k ≡ word → IsKind k → after_word word bytes ≡ Some rest → ◌≡◌ {A = Taken Kind} (Some (k, rest)) (Some (j, left)) → TakesKind bytes j left
bare_kind_taken k word bytes rest j left is_text is_kind e taken =
    let whole : TakesKind bytes k rest = record { text = after_taken word bytes rest e ∙ ap (λ (t : List ℕ). t ++ rest) (sym is_text); fits = is_kind } in
    subst (λ (q : Kind × List ℕ). TakesKind bytes q.0 q.1) (some_is (k, rest) (j, left) taken) whole

access_taken : (bytes : List ℕ) (a : ℕ × ℕ) (left : List ℕ) → access_at bytes ≡ Some (a, left) → (bytes ≡ (decimal a.0 ++ (codes " " ++ decimal a.1)) ++ left) × (a.0 ≤ 65535) × (a.1 < 2 ^ 64)
unfolding access_at
access_taken bytes a left e =
    let b = bind_some (number_at 65535 bytes) (λ x. after_word (codes " ") x.1 >>= λ rest. number_at (2 ^ 64 - 1) rest >>= λ v. Some ((x.0, v.0), v.1)) (a, left) e in
    let s = bind_some (after_word (codes " ") b.0.1) (λ rest. number_at (2 ^ 64 - 1) rest >>= λ v. Some ((b.0.0, v.0), v.1)) (a, left) b.2 in
    let v = bind_some (number_at (2 ^ 64 - 1) s.0) (λ v. Some ((b.0.0, v.0), v.1)) (a, left) s.2 in
    let p = some_is ((b.0.0, v.0.0), v.0.1) (a, left) v.2 in
    let x = number_taken 65535 bytes b.0.0 b.0.1 (omega arith) (omega arith) b.1 in
    let y = number_taken (2 ^ 64 - 1) s.0 v.0.0 v.0.1 (omega arith) (omega arith) v.1 in
    let tail = word_then (codes " ") b.0.1 s.0 (decimal v.0.0) v.0.1 s.1 y.0 in
    let text : bytes ≡ (decimal b.0.0 ++ (codes " " ++ decimal v.0.0)) ++ v.0.1 = x.0 ∙ ap (λ (t : List ℕ). decimal b.0.0 ++ t) tail ∙ sym (append_assoc (decimal b.0.0) (codes " " ++ decimal v.0.0) v.0.1) in
    subst (λ (q : (ℕ × ℕ) × List ℕ). (bytes ≡ (decimal q.0.0 ++ (codes " " ++ decimal q.0.1)) ++ q.1) × (q.0.0 ≤ 65535) × (q.0.1 < 2 ^ 64)) p (text, x.1, omega (arith, y.1))

access_kind_taken : (f : ℕ × ℕ → Kind) (word bytes rest : List ℕ) (k : Kind) (left : List ℕ) → ((a : ℕ × ℕ) → kind_text (f a) ≡ word ++ (decimal a.0 ++ (codes " " ++ decimal a.1))) → ((a : ℕ × ℕ) → a.0 ≤ 65535 → a.1 < 2 ^ 64 → IsKind (f a))
    → after_word word bytes ≡ Some rest → ◌>>=◌ {B = Kind × List ℕ} (access_at rest) (λ a. Some (f a.0, a.1)) ≡ Some (k, left) → TakesKind bytes k left
access_kind_taken f word bytes rest k left is_text is_kind e taken =
    let b = bind_some (access_at rest) (λ a. Some (f a.0, a.1)) (k, left) taken in
    let found = access_taken rest b.0.0 b.0.1 b.1 in
    let whole : TakesKind bytes (f b.0.0) b.0.1 = record { text = word_then word bytes rest (decimal b.0.0.0 ++ (codes " " ++ decimal b.0.0.1)) b.0.1 e found.0 ∙ ap (λ (t : List ℕ). t ++ b.0.1) (sym (is_text b.0.0)); fits = is_kind b.0.0 found.1 found.2 } in
    subst (λ (q : Kind × List ℕ). TakesKind bytes q.0 q.1) (some_is (f b.0.0, b.0.1) (k, left) b.2) whole

abbrev fork_of : ℕ → Kind
fork_of u = Fork (record { 0 = u })

abbrev join_of : ℕ → Kind
join_of u = Join (record { 0 = u })

abbrev begin_of : ℕ → Kind
begin_of l = Begin (record { 0 = l })

abbrev acquire_of : ℕ → Kind
acquire_of m = Acquire (record { 0 = m })

abbrev release_of : ℕ → Kind
release_of m = Release (record { 0 = m })

abbrev acquire_shared_of : ℕ → Kind
acquire_shared_of m = AcquireShared (record { 0 = m })

abbrev release_shared_of : ℕ → Kind
release_shared_of m = ReleaseShared (record { 0 = m })

abbrev read_of : ℕ × ℕ → Kind
read_of a = Read (record { 0 = a.0 }) a.1

abbrev write_of : ℕ × ℕ → Kind
write_of a = Write (record { 0 = a.0 }) a.1

thread_kind_taken : (bytes : List ℕ) (k : Kind) (left : List ℕ) → thread_kind_at bytes ≡ Some (k, left) → TakesKind bytes k left
unfolding thread_kind_at
thread_kind_taken bytes k left e =
    let exits : Taken Kind = by_word (after_word (codes "exit") bytes) (λ rest. Some (Exit, rest)) None in
    let joins : Taken Kind = by_word (after_word (codes "join ") bytes) (of_number 255 join_of) exits in
    ⊎_elim
    (λ h. number_kind_taken 255 fork_of (codes "fork ") bytes h.0 k left (omega arith) (omega arith) (λ n. refl) (λ n le. le) h.1 h.2)
    (λ other. ⊎_elim
    (λ h. number_kind_taken 255 join_of (codes "join ") bytes h.0 k left (omega arith) (omega arith) (λ n. refl) (λ n le. le) h.1 h.2)
    (λ more. ⊎_elim
    (λ h. bare_kind_taken Exit (codes "exit") bytes h.0 k left refl tt h.1 h.2)
    (λ none. absurd cc)
    (by_word_is (after_word (codes "exit") bytes) (λ rest. Some (Exit, rest)) None (k, left) more))
    (by_word_is (after_word (codes "join ") bytes) (of_number 255 join_of) exits (k, left) other))
    (by_word_is (after_word (codes "fork ") bytes) (of_number 255 fork_of) joins (k, left) e)

block_kind_taken : (bytes : List ℕ) (k : Kind) (left : List ℕ) → block_kind_at bytes ≡ Some (k, left) → TakesKind bytes k left
unfolding block_kind_at
block_kind_taken bytes k left e =
    let ends : Taken Kind = by_word (after_word (codes "end") bytes) (λ rest. Some (End, rest)) (thread_kind_at bytes) in
    ⊎_elim
    (λ h. number_kind_taken (2 ^ 32 - 1) begin_of (codes "begin ") bytes h.0 k left (omega arith) (omega arith) (λ n. refl) (λ n le. omega (arith, le)) h.1 h.2)
    (λ other. ⊎_elim
    (λ h. bare_kind_taken End (codes "end") bytes h.0 k left refl tt h.1 h.2)
    (λ more. thread_kind_taken bytes k left more)
    (by_word_is (after_word (codes "end") bytes) (λ rest. Some (End, rest)) (thread_kind_at bytes) (k, left) other))
    (by_word_is (after_word (codes "begin ") bytes) (of_number (2 ^ 32 - 1) begin_of) ends (k, left) e)

share_kind_taken : (bytes : List ℕ) (k : Kind) (left : List ℕ) → share_kind_at bytes ≡ Some (k, left) → TakesKind bytes k left
unfolding share_kind_at
share_kind_taken bytes k left e =
    let releases : Taken Kind = by_word (after_word (codes "rels ") bytes) (of_number 65535 release_shared_of) (block_kind_at bytes) in
    ⊎_elim
    (λ h. number_kind_taken 65535 acquire_shared_of (codes "acqs ") bytes h.0 k left (omega arith) (omega arith) (λ n. refl) (λ n le. le) h.1 h.2)
    (λ other. ⊎_elim
    (λ h. number_kind_taken 65535 release_shared_of (codes "rels ") bytes h.0 k left (omega arith) (omega arith) (λ n. refl) (λ n le. le) h.1 h.2)
    (λ more. block_kind_taken bytes k left more)
    (by_word_is (after_word (codes "rels ") bytes) (of_number 65535 release_shared_of) (block_kind_at bytes) (k, left) other))
    (by_word_is (after_word (codes "acqs ") bytes) (of_number 65535 acquire_shared_of) releases (k, left) e)

lock_kind_taken : (bytes : List ℕ) (k : Kind) (left : List ℕ) → lock_kind_at bytes ≡ Some (k, left) → TakesKind bytes k left
unfolding lock_kind_at
lock_kind_taken bytes k left e =
    let releases : Taken Kind = by_word (after_word (codes "rel ") bytes) (of_number 65535 release_of) (share_kind_at bytes) in
    ⊎_elim
    (λ h. number_kind_taken 65535 acquire_of (codes "acq ") bytes h.0 k left (omega arith) (omega arith) (λ n. refl) (λ n le. le) h.1 h.2)
    (λ other. ⊎_elim
    (λ h. number_kind_taken 65535 release_of (codes "rel ") bytes h.0 k left (omega arith) (omega arith) (λ n. refl) (λ n le. le) h.1 h.2)
    (λ more. share_kind_taken bytes k left more)
    (by_word_is (after_word (codes "rel ") bytes) (of_number 65535 release_of) (share_kind_at bytes) (k, left) other))
    (by_word_is (after_word (codes "acq ") bytes) (of_number 65535 acquire_of) releases (k, left) e)

kind_taken : (bytes : List ℕ) (k : Kind) (left : List ℕ) → kind_at bytes ≡ Some (k, left) → TakesKind bytes k left
unfolding kind_at
kind_taken bytes k left e =
    let writes : Taken Kind = by_word (after_word (codes "wr ") bytes) (λ rest. access_at rest >>= λ a. Some (write_of a.0, a.1)) (lock_kind_at bytes) in
    ⊎_elim
    (λ h. access_kind_taken read_of (codes "rd ") bytes h.0 k left (λ a. refl) (λ a p q. (p, q)) h.1 h.2)
    (λ other. ⊎_elim
    (λ h. access_kind_taken write_of (codes "wr ") bytes h.0 k left (λ a. refl) (λ a p q. (p, q)) h.1 h.2)
    (λ more. lock_kind_taken bytes k left more)
    (by_word_is (after_word (codes "wr ") bytes) (λ rest. access_at rest >>= λ a. Some (write_of a.0, a.1)) (lock_kind_at bytes) (k, left) other))
    (by_word_is (after_word (codes "rd ") bytes) (λ rest. access_at rest >>= λ a. Some (read_of a.0, a.1)) writes (k, left) e)

pub record TakesEvent (bytes : List ℕ) (e : Event) (rest : List ℕ) : Type 0 where
  pub text : bytes ≡ event_line e ++ rest
  pub fits : IsEvent e

regroup : (t kind rest : List ℕ) → (t ++ (codes " " ++ (kind ++ codes "\n"))) ++ rest ≡ t ++ (codes " " ++ (kind ++ (codes "\n" ++ rest)))
regroup t kind rest = simp append_assoc

pub event_taken : (bytes : List ℕ) (e : Event) (left : List ℕ) → event_at bytes ≡ Some (e, left) → TakesEvent bytes e left
unfolding event_at event_line
event_taken bytes e left taken =
    let made = λ (t : ℕ) (k : Kind). let made_of : Event = record { thread = record { 0 = t }; kind = k } in made_of in
    let a = bind_some (number_at 255 bytes) (λ t. after_word (codes " ") t.1 >>= λ words. kind_at words >>= λ kind. after_word (codes "\n") kind.1 >>= λ rest. Some (made t.0 kind.0, rest)) (e, left) taken in
    let b = bind_some (after_word (codes " ") a.0.1) (λ words. kind_at words >>= λ kind. after_word (codes "\n") kind.1 >>= λ rest. Some (made a.0.0 kind.0, rest)) (e, left) a.2 in
    let c = bind_some (kind_at b.0) (λ kind. after_word (codes "\n") kind.1 >>= λ rest. Some (made a.0.0 kind.0, rest)) (e, left) b.2 in
    let d = bind_some (after_word (codes "\n") c.0.1) (λ rest. Some (made a.0.0 c.0.0, rest)) (e, left) c.2 in
    let t = number_taken 255 bytes a.0.0 a.0.1 (omega arith) (omega arith) a.1 in
    let k = kind_taken b.0 c.0.0 c.0.1 c.1 in
    let end = after_taken (codes "\n") c.0.1 d.0 d.1 in
    let kind = kind_text c.0.0 in
    let words : b.0 ≡ kind ++ (codes "\n" ++ d.0) = k.text ∙ ap (λ (x : List ℕ). kind ++ x) end in
    let rest : a.0.1 ≡ codes " " ++ (kind ++ (codes "\n" ++ d.0)) = after_taken (codes " ") a.0.1 b.0 b.1 ∙ ap (λ (x : List ℕ). codes " " ++ x) words in
    let text : bytes ≡ event_line (made a.0.0 c.0.0) ++ d.0 = t.0 ∙ ap (λ (x : List ℕ). decimal a.0.0 ++ x) rest ∙ sym (regroup (decimal a.0.0) kind d.0) in
    let whole : TakesEvent bytes (made a.0.0 c.0.0) d.0 = record { text = text; fits = record { thread = t.1; kind = k.fits } } in
    subst (λ (q : Event × List ℕ). TakesEvent bytes q.0 q.1) (some_is (made a.0.0 c.0.0, d.0) (e, left) d.2) whole

-- ---- what is taken again

access_again : (x v : ℕ) (rest : List ℕ) → x ≤ 65535 → v < 2 ^ 64 → access_at ((decimal x ++ (codes " " ++ decimal v)) ++ 10 ∷ rest) ≡ Some ((x, v), 10 ∷ rest)
unfolding access_at
access_again x v rest low fits =
    let regrouped : (decimal x ++ (codes " " ++ decimal v)) ++ 10 ∷ rest ≡ decimal x ++ 32 ∷ (decimal v ++ 10 ∷ rest) = append_assoc (decimal x) (codes " " ++ decimal v) (10 ∷ rest) in
    ap access_at regrouped
    ∙ rw (number_again 65535 x 32 (decimal v ++ 10 ∷ rest) low (omega arith) refl, number_again (2 ^ 64 - 1) v 10 rest (omega arith) (omega arith) refl) refl

of_number_again : (most n : ℕ) (f : ℕ → Kind) (rest : List ℕ) → n ≤ most → most < 2 ^ 64 → of_number most f (decimal n ++ 10 ∷ rest) ≡ Some (f n, 10 ∷ rest)
of_number_again most n f rest low fits = rw (number_again most n 10 rest low fits refl) refl

kind_again : (k : Kind) (rest : List ℕ) → IsKind k → kind_at (kind_text k ++ 10 ∷ rest) ≡ Some (k, 10 ∷ rest)
unfolding kind_at lock_kind_at share_kind_at block_kind_at thread_kind_at
kind_again (Read x v) rest h = rw (access_again x.0 v rest h.0 h.1) refl
kind_again (Write x v) rest h = rw (access_again x.0 v rest h.0 h.1) refl
kind_again (Acquire m) rest h = of_number_again 65535 m.0 acquire_of rest h (omega arith)
kind_again (Release m) rest h = of_number_again 65535 m.0 release_of rest h (omega arith)
kind_again (AcquireShared m) rest h = of_number_again 65535 m.0 acquire_shared_of rest h (omega arith)
kind_again (ReleaseShared m) rest h = of_number_again 65535 m.0 release_shared_of rest h (omega arith)
kind_again (Begin l) rest h = of_number_again (2 ^ 32 - 1) l.0 begin_of rest (omega arith) (omega arith)
kind_again End rest h = refl
kind_again (Fork u) rest h = of_number_again 255 u.0 fork_of rest h (omega arith)
kind_again (Join u) rest h = of_number_again 255 u.0 join_of rest h (omega arith)
kind_again Exit rest h = refl

pub event_again : (e : Event) (rest : List ℕ) → IsEvent e → event_at (event_line e ++ rest) ≡ Some (e, rest)
unfolding event_at event_line
event_again e rest fits =
    ap event_at (regroup (decimal e.thread.0) (kind_text e.kind) rest)
    ∙ rw (number_again 255 e.thread.0 32 (kind_text e.kind ++ 10 ∷ rest) fits.thread (omega arith) refl, kind_again e.kind rest fits.kind) refl

-- ---- in a version

pub record TakesEventIn (shares : Bool) (bytes : List ℕ) (e : Event) (rest : List ℕ) : Type 0 where
  pub text : bytes ≡ event_line e ++ rest
  pub fits : IsEventIn shares e

pub event_in_taken : (shares : Bool) (bytes : List ℕ) (e : Event) (left : List ℕ) → event_in shares bytes ≡ Some (e, left) → TakesEventIn shares bytes e left
unfolding event_in
event_in_taken shares bytes e left taken =
    let a = bind_some (event_at bytes) (λ f. cond (has_kind shares f.0.kind) (Some f) None) (e, left) taken in
    ⊎_elim
    (λ known.
    let same = some_is a.0 (e, left) known.1 in
    let found = event_taken bytes a.0.0 a.0.1 a.1 in
    let whole : TakesEventIn shares bytes a.0.0 a.0.1 = record { text = found.text; fits = record { fits = found.fits; known = known.0 } } in
    subst (λ (q : Event × List ℕ). TakesEventIn shares bytes q.0 q.1) same whole)
    (λ none. absurd (let is = none.1 in cc))
    (chosen (has_kind shares a.0.0.kind) (Some a.0) None (Some (e, left)) a.2)

pub event_in_again : (shares : Bool) (e : Event) (rest : List ℕ) → IsEventIn shares e → event_in shares (event_line e ++ rest) ≡ Some (e, rest)
unfolding event_in
event_in_again shares e rest fits = rw (event_again e rest fits.fits, fits.known) refl

-- ---- how long a line is

kind_short : (k : Kind) → IsKind k → length (kind_text k) ≤ 29
kind_short (Read x v) h = simp length-append (omega (arith, length-decimal-le 5 x.0 (omega arith) (omega (arith, h.0)) (omega (arith, h.0)), length-decimal-le 20 v (omega arith) (omega (arith, h.1)) h.1))
kind_short (Write x v) h = simp length-append (omega (arith, length-decimal-le 5 x.0 (omega arith) (omega (arith, h.0)) (omega (arith, h.0)), length-decimal-le 20 v (omega arith) (omega (arith, h.1)) h.1))
kind_short (Acquire m) h = omega (arith, length-decimal-le 5 m.0 (omega arith) (omega (arith, h)) (omega (arith, h)))
kind_short (Release m) h = omega (arith, length-decimal-le 5 m.0 (omega arith) (omega (arith, h)) (omega (arith, h)))
kind_short (AcquireShared m) h = omega (arith, length-decimal-le 5 m.0 (omega arith) (omega (arith, h)) (omega (arith, h)))
kind_short (ReleaseShared m) h = omega (arith, length-decimal-le 5 m.0 (omega arith) (omega (arith, h)) (omega (arith, h)))
kind_short (Begin l) h = omega (arith, length-decimal-le 10 l.0 (omega arith) (omega (arith, h)) (omega (arith, h)))
kind_short End h = omega arith
kind_short (Fork u) h = omega (arith, length-decimal-le 3 u.0 (omega arith) (omega (arith, h)) (omega (arith, h)))
kind_short (Join u) h = omega (arith, length-decimal-le 3 u.0 (omega arith) (omega (arith, h)) (omega (arith, h)))
kind_short Exit h = omega arith

pub event_short : (e : Event) → IsEvent e → (0 < length (event_line e)) × (length (event_line e) ≤ 64)
unfolding event_line
event_short e fits =
    let t = length-decimal-le 3 e.thread.0 (omega arith) (omega (arith, fits.thread)) (omega (arith, fits.thread)) in
    let k = kind_short e.kind fits.kind in
    let whole = length-append (decimal e.thread.0) (codes " " ++ (kind_text e.kind ++ codes "\n")) in
    let tail = length-append (kind_text e.kind) (codes "\n") in
    (omega (arith, whole, tail), omega (arith, whole, tail, t, k))

-- ---- the header

pub record TakesBounds (bytes : List ℕ) (b : Head) (rest : List ℕ) : Type 0 where
  pub text : bytes ≡ header_line b ++ rest
  pub fits : AreBounds b.1

-- the words of a header behind its version
abbrev behind_version : Bounds → List ℕ
behind_version b = decimal b.threads ++ (codes " " ++ (decimal b.variables ++ (codes " " ++ (decimal b.locks ++ codes "\n"))))

record TakesRest (words : List ℕ) (shares : Bool) (b : Head) (rest : List ℕ) : Type 0 where
  text : words ≡ behind_version b.1 ++ rest
  version : b.0 ≡ shares
  fits : AreBounds b.1

spaced_taken : (most : ℕ) (bytes : List ℕ) (n : ℕ) (left : List ℕ) → 9 ≤ most → most < 2 ^ 64 → spaced_number_at most bytes ≡ Some (n, left) → (bytes ≡ decimal n ++ (codes " " ++ left)) × (n ≤ most)
spaced_taken most bytes n left low high e =
    let a = bind_some (number_at most bytes) (λ m. after_word (codes " ") m.1 >>= λ rest. Some (m.0, rest)) (n, left) e in
    let b = bind_some (after_word (codes " ") a.0.1) (λ rest. Some (a.0.0, rest)) (n, left) a.2 in
    let found = number_taken most bytes a.0.0 a.0.1 low high a.1 in
    let text : bytes ≡ decimal a.0.0 ++ (codes " " ++ b.0) = found.0 ∙ ap (λ (t : List ℕ). decimal a.0.0 ++ t) (after_taken (codes " ") a.0.1 b.0 b.1) in
    subst (λ (q : ℕ × List ℕ). (bytes ≡ decimal q.0 ++ (codes " " ++ q.1)) × (q.0 ≤ most)) (some_is (a.0.0, b.0) (n, left) b.2) (text, found.1)

spaced_again : (most n : ℕ) (rest : List ℕ) → n ≤ most → most < 2 ^ 64 → spaced_number_at most (decimal n ++ 32 ∷ rest) ≡ Some (n, rest)
spaced_again most n rest low fits = rw (number_again most n 32 rest low fits refl) refl

regroup_header : (t v m rest : List ℕ) → (t ++ (codes " " ++ (v ++ (codes " " ++ (m ++ codes "\n"))))) ++ rest ≡ t ++ (codes " " ++ (v ++ (codes " " ++ (m ++ (codes "\n" ++ rest)))))
regroup_header t v m rest = simp append_assoc

abbrev bounds_of : ℕ → ℕ → ℕ → Bounds
bounds_of t v m = record { threads = t; variables = v; locks = m }

rest_taken : (shares : Bool) (words : List ℕ) (b : Head) (left : List ℕ) → bounds_at shares words ≡ Some (b, left) → TakesRest words shares b left
unfolding bounds_at
rest_taken shares words b left e =
    let made = λ (t v m : ℕ). let head : Head = (shares, bounds_of t v m) in head in
    let t = bind_some (spaced_number_at MAX_THREADS words) (λ t. spaced_number_at 65535 t.1 >>= λ v. number_at MAX_LOCKS v.1 >>= λ m. after_word (codes "\n") m.1 >>= λ rest. cond (eqb t.0 0) None (Some (made t.0 v.0 m.0, rest))) (b, left) e in
    let v = bind_some (spaced_number_at 65535 t.0.1) (λ v. number_at MAX_LOCKS v.1 >>= λ m. after_word (codes "\n") m.1 >>= λ rest. cond (eqb t.0.0 0) None (Some (made t.0.0 v.0 m.0, rest))) (b, left) t.2 in
    let m = bind_some (number_at MAX_LOCKS v.0.1) (λ m. after_word (codes "\n") m.1 >>= λ rest. cond (eqb t.0.0 0) None (Some (made t.0.0 v.0.0 m.0, rest))) (b, left) v.2 in
    let r = bind_some (after_word (codes "\n") m.0.1) (λ rest. cond (eqb t.0.0 0) None (Some (made t.0.0 v.0.0 m.0.0, rest))) (b, left) m.2 in
    let threads = spaced_taken 64 words t.0.0 t.0.1 (omega arith) (omega arith) t.1 in
    let variables = spaced_taken 65535 t.0.1 v.0.0 v.0.1 (omega arith) (omega arith) v.1 in
    let locks = number_taken MAX_LOCKS v.0.1 m.0.0 m.0.1 (omega arith) (omega arith) m.1 in
    let end = after_taken (codes "\n") m.0.1 r.0 r.1 in
    let text : words ≡ behind_version (bounds_of t.0.0 v.0.0 m.0.0) ++ r.0 =
    threads.0 ∙ ap (λ (x : List ℕ). decimal t.0.0 ++ (codes " " ++ x)) (variables.0 ∙ ap (λ (x : List ℕ). decimal v.0.0 ++ (codes " " ++ x)) (locks.0 ∙ ap (λ (x : List ℕ). decimal m.0.0 ++ x) end))
    ∙ sym (regroup_header (decimal t.0.0) (decimal v.0.0) (decimal m.0.0) r.0) in
    ⊎_elim
    (λ zero. absurd (let none = zero.1 in cc))
    (λ some.
    let apart = some.0 in
    let fits : AreBounds (bounds_of t.0.0 v.0.0 m.0.0) = record { some_thread = grind (arith, nat_tests); few_threads = threads.1; few_variables = variables.1; few_locks = locks.1 } in
    let whole : TakesRest words shares (made t.0.0 v.0.0 m.0.0) r.0 = record { text = text; version = refl; fits = fits } in
    subst (λ (q : Head × List ℕ). TakesRest words shares q.0 q.1) (some_is (made t.0.0 v.0.0 m.0.0, r.0) (b, left) some.1) whole)
    (chosen (eqb t.0.0 0) None (Some (made t.0.0 v.0.0 m.0.0, r.0)) (Some (b, left)) r.2)

-- the word of a version, and what follows it
abbrev version_word : Bool → List ℕ
version_word shares = cond shares (codes "vlog 2 ") (codes "vlog 1 ")

version_taken : (shares : Bool) (bytes words : List ℕ) (b : Head) (left : List ℕ) → after_word (version_word shares) bytes ≡ Some words → bounds_at shares words ≡ Some (b, left) → TakesBounds bytes b left
unfolding header_line
version_taken shares bytes words b left e taken =
    let found = rest_taken shares words b left taken in
    record {
      text = after_taken (version_word shares) bytes words e
          ∙ (ap (λ (x : List ℕ). version_word shares ++ x) found.text
          ∙ (sym (append_assoc (version_word shares) (behind_version b.1) left)
          ∙ ap (λ (v : Bool). (version_word v ++ behind_version b.1) ++ left) (sym found.version)));
      fits = found.fits;
    }

pub header_taken : (bytes : List ℕ) (b : Head) (left : List ℕ) → header_at bytes ≡ Some (b, left) → TakesBounds bytes b left
unfolding header_at
header_taken bytes b left e =
    let ones : Taken Head = by_word (after_word (codes "vlog 1 ") bytes) (bounds_at false) None in
    ⊎_elim
    (λ h. version_taken true bytes h.0 b left h.1 h.2)
    (λ other. ⊎_elim
    (λ h. version_taken false bytes h.0 b left h.1 h.2)
    (λ none. absurd cc)
    (by_word_is (after_word (codes "vlog 1 ") bytes) (bounds_at false) None (b, left) other))
    (by_word_is (after_word (codes "vlog 2 ") bytes) (bounds_at true) ones (b, left) e)

rest_again : (shares : Bool) (b : Bounds) (rest : List ℕ) → AreBounds b → bounds_at shares (behind_version b ++ rest) ≡ Some ((shares, b), rest)
unfolding bounds_at
rest_again shares b rest fits =
    let some : eqb b.threads 0 ≡ false = let h = fits.some_thread in grind (arith, nat_tests) in
    ap (bounds_at shares) (regroup_header (decimal b.threads) (decimal b.variables) (decimal b.locks) rest)
    ∙ rw (spaced_again MAX_THREADS b.threads (decimal b.variables ++ 32 ∷ (decimal b.locks ++ 10 ∷ rest)) fits.few_threads (omega arith), spaced_again 65535 b.variables (decimal b.locks ++ 10 ∷ rest) fits.few_variables (omega arith), number_again MAX_LOCKS b.locks 10 rest fits.few_locks (omega arith) refl, some) refl

pub header_again : (b : Head) (rest : List ℕ) → AreBounds b.1 → header_at (header_line b ++ rest) ≡ Some (b, rest)
unfolding header_at header_line
header_again (true, b) rest fits = ap header_at (append_assoc (codes "vlog 2 ") (behind_version b) rest) ∙ rest_again true b rest fits
header_again (false, b) rest fits = ap header_at (append_assoc (codes "vlog 1 ") (behind_version b) rest) ∙ rest_again false b rest fits

words_short : (b : Bounds) (word : List ℕ) → length word ≤ 7 → AreBounds b → length (word ++ behind_version b) ≤ 64
words_short b word few fits =
    let t = length-decimal-le 2 b.threads (omega arith) (omega (arith, fits.few_threads)) (omega (arith, fits.few_threads)) in
    let v = length-decimal-le 5 b.variables (omega arith) (omega (arith, fits.few_variables)) (omega (arith, fits.few_variables)) in
    let m = length-decimal-le 4 b.locks (omega arith) (omega (arith, fits.few_locks)) (omega (arith, fits.few_locks)) in
    simp length-append (omega (arith, t, v, m, few))

pub header_short : (b : Head) → AreBounds b.1 → length (header_line b) ≤ 64
unfolding header_line
header_short (true, b) fits = words_short b (codes "vlog 2 ") (omega arith) fits
header_short (false, b) fits = words_short b (codes "vlog 1 ") (omega arith) fits
