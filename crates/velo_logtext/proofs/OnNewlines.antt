-- Only the end of a line is a newline, so that no line goes on behind one.
use Rattle.std.proofs.Common.{◌≡◌, ℕ, ◌+◌, ◌/◌, ◌%◌, ◌^◌, ◌<◌, ◌≤◌, Bool, true, false, ◌||◌, cond, eqb, ltb, List, [], ◌∷◌, ◌++◌, length, None, inl, inr, refl, sym, ap, ◌∙◌, append_assoc, length-append, arith}
use Rattle.std.specs.Prelude.{codes, decimal}
use Rattle.std.proofs.lemmas.Bool.{cases_lt}
use Rattle.std.proofs.lemmas.Bool.Decides.{nat_tests}
use Rattle.std.proofs.lemmas.Fmt.{decimal_by_steps}
use Rattle.velo_events.specs.declared.event.Event.{Event}
use Rattle.velo_events.specs.declared.event.Kind.{Kind}
use Rattle.velo_events.specs.declared.event.Kind.TheVariants.{Read, Write, Acquire, Release, AcquireShared, ReleaseShared, Begin, End, Fork, Join, Exit}
use Rattle.velo_logtext.specs.Text.{kind_text, event_line, header_line, Head, IsKind, IsEvent, AreBounds}
use Rattle.velo_logtext.specs.Finding.{HasNoHeader, HasNoEvent}
use Rattle.velo_logtext.specs.Front.{is_whole}
use Rattle.velo_logtext.specs.Reading.{event_in, header_at}
use Rattle.velo_bytes.proofs.Choices.{front_of}
use Rattle.velo_logtext.proofs.OnFindings.{has_newline}
use Rattle.velo_logtext.proofs.OnLines.{event_in_again, event_short, header_again, header_short}

-- ---- text without a newline

or_assoc : (a b c : Bool) → (a || (b || c)) ≡ ((a || b) || c)
or_assoc true b c = refl
or_assoc false b c = refl

or_false : (a b : Bool) → (a || b) ≡ false → a ≡ false
or_false true b e = e
or_false false b e = refl

has_newline-append : (xs ys : List ℕ) → has_newline (xs ++ ys) ≡ (has_newline xs || has_newline ys)
has_newline-append [] ys = refl
has_newline-append (x ∷ xs) ys = ap (λ (t : Bool). eqb x 10 || t) (has_newline-append xs ys) ∙ or_assoc (eqb x 10) (has_newline xs) (has_newline ys)

plain_then : (xs ys : List ℕ) → has_newline xs ≡ false → has_newline ys ≡ false → has_newline (xs ++ ys) ≡ false
plain_then xs ys p q = has_newline-append xs ys ∙ ap (λ (t : Bool). t || has_newline ys) p ∙ q

plain_front : (xs ys : List ℕ) → has_newline (xs ++ ys) ≡ false → has_newline xs ≡ false
plain_front xs ys e = or_false (has_newline xs) (has_newline ys) (sym (has_newline-append xs ys) ∙ e)

abbrev IsPlain : ℕ → List ℕ → Type 0
IsPlain n digits = has_newline digits ≡ false

one_plain : (n : ℕ) → n < 10 → IsPlain n ((48 + n) ∷ [])
one_plain n lt = let apart : eqb (48 + n) 10 ≡ false = grind (arith, nat_tests) in rw apart refl

more_plain : (n : ℕ) (ds : List ℕ) → 10 ≤ n → IsPlain (n / 10) ds → IsPlain n (ds ++ ((48 + n % 10) ∷ []))
more_plain n ds ge h = plain_then ds ((48 + n % 10) ∷ []) h (one_plain (n % 10) (omega arith))

number_plain : (n : ℕ) → n < 2 ^ 64 → has_newline (decimal n) ≡ false
number_plain n lt = decimal_by_steps IsPlain one_plain more_plain n lt

spaced_plain : (n : ℕ) (ys : List ℕ) → n < 2 ^ 64 → has_newline ys ≡ false → has_newline (decimal n ++ (codes " " ++ ys)) ≡ false
spaced_plain n ys lt p = plain_then (decimal n) (codes " " ++ ys) (number_plain n lt) (plain_then (codes " ") ys refl p)

kind_plain : (k : Kind) → IsKind k → has_newline (kind_text k) ≡ false
kind_plain (Read x v) h = plain_then (codes "rd ") (decimal x.0 ++ (codes " " ++ decimal v)) refl (spaced_plain x.0 (decimal v) (omega (arith, h.0)) (number_plain v h.1))
kind_plain (Write x v) h = plain_then (codes "wr ") (decimal x.0 ++ (codes " " ++ decimal v)) refl (spaced_plain x.0 (decimal v) (omega (arith, h.0)) (number_plain v h.1))
kind_plain (Acquire m) h = plain_then (codes "acq ") (decimal m.0) refl (number_plain m.0 (omega (arith, h)))
kind_plain (Release m) h = plain_then (codes "rel ") (decimal m.0) refl (number_plain m.0 (omega (arith, h)))
kind_plain (AcquireShared m) h = plain_then (codes "acqs ") (decimal m.0) refl (number_plain m.0 (omega (arith, h)))
kind_plain (ReleaseShared m) h = plain_then (codes "rels ") (decimal m.0) refl (number_plain m.0 (omega (arith, h)))
kind_plain (Begin l) h = plain_then (codes "begin ") (decimal l.0) refl (number_plain l.0 (omega (arith, h)))
kind_plain End h = refl
kind_plain (Fork u) h = plain_then (codes "fork ") (decimal u.0) refl (number_plain u.0 (omega (arith, h)))
kind_plain (Join u) h = plain_then (codes "join ") (decimal u.0) refl (number_plain u.0 (omega (arith, h)))
kind_plain Exit h = refl

-- ---- a line is text without a newline, and then one

-- the line but for its newline
record IsPlainLine (line : List ℕ) : Type 0 where
  words : List ℕ
  plain : has_newline words ≡ false
  is : line ≡ words ++ codes "\n"

event_plain : (e : Event) → IsEvent e → IsPlainLine (event_line e)
unfolding event_line
event_plain e fits =
    let t = decimal e.thread.0 in
    let k = kind_text e.kind in
    record {
      words = t ++ (codes " " ++ k);
      plain = spaced_plain e.thread.0 k (omega (arith, fits.thread)) (kind_plain e.kind fits.kind);
      is = ap (λ (s : List ℕ). t ++ s) (sym (append_assoc (codes " ") k (codes "\n"))) ∙ sym (append_assoc t (codes " " ++ k) (codes "\n"));
    }

version_plain : (b : Bool) → has_newline (cond b (codes "vlog 2 ") (codes "vlog 1 ")) ≡ false
version_plain true = refl
version_plain false = refl

header_plain : (h : Head) → AreBounds h.1 → IsPlainLine (header_line h)
unfolding header_line
header_plain h fits =
    let version = cond h.0 (codes "vlog 2 ") (codes "vlog 1 ") in
    let t = decimal h.1.threads in
    let v = decimal h.1.variables in
    let m = decimal h.1.locks in
    let end = codes "\n" in
    let space = codes " " in
    let locks : v ++ (space ++ (m ++ end)) ≡ (v ++ (space ++ m)) ++ end =
    ap (λ (s : List ℕ). v ++ s) (sym (append_assoc space m end)) ∙ sym (append_assoc v (space ++ m) end) in
    let numbers : t ++ (space ++ (v ++ (space ++ (m ++ end)))) ≡ (t ++ (space ++ (v ++ (space ++ m)))) ++ end =
    ap (λ (s : List ℕ). t ++ (space ++ s)) locks ∙ ap (λ (s : List ℕ). t ++ s) (sym (append_assoc space (v ++ (space ++ m)) end)) ∙ sym (append_assoc t (space ++ (v ++ (space ++ m))) end) in
    record {
      words = version ++ (t ++ (space ++ (v ++ (space ++ m))));
      plain = plain_then version (t ++ (space ++ (v ++ (space ++ m)))) (version_plain h.0) (spaced_plain h.1.threads (v ++ (space ++ m)) (omega (arith, fits.few_threads)) (spaced_plain h.1.variables m (omega (arith, fits.few_variables)) (number_plain h.1.locks (omega (arith, fits.few_locks)))));
      is = ap (λ (s : List ℕ). version ++ s) numbers ∙ sym (append_assoc version (t ++ (space ++ (v ++ (space ++ m)))) end);
    }

-- ---- a line at the front of enough bytes is whole there

whole_there : (held more line rest : List ℕ) → IsPlainLine line → length line ≤ 64 → is_whole held ≡ true → held ++ more ≡ line ++ rest → length line ≤ length held
whole_there held more line rest plain short whole same =
    elim (cases_lt (length held) (length line)) [
      | inl less ↦
          let words = plain.words in
          let len = ap length plain.is ∙ length-append words (codes "\n") in
          let text : words ++ (codes "\n" ++ rest) ≡ held ++ more = sym (append_assoc words (codes "\n") rest) ∙ ap (λ (s : List ℕ). s ++ rest) (sym plain.is) ∙ sym same in
          let front = front_of words (codes "\n" ++ rest) held more text (omega (arith, less, len)) in
          let none : has_newline held ≡ false = plain_front held front.0 (ap has_newline (sym front.1) ∙ plain.plain) in
          let few : ltb 64 (length held) ≡ false = grind (arith, nat_tests, less, short) in
          let open_line : is_whole held ≡ false = ap (λ (t : Bool). t || has_newline held) few ∙ none in
          absurd (let both = sym whole ∙ open_line in cc)
      | inr enough ↦ enough
    ]

pub no_event_there : (shares : Bool) (held more : List ℕ) → event_in shares held ≡ None → is_whole held ≡ true → HasNoEvent shares (held ++ more)
no_event_there shares held more none whole =
    record {
      none = λ e rest fits same.
          let short = event_short e fits.fits in
          let front = front_of held more (event_line e) rest same (whole_there held more (event_line e) rest (event_plain e fits.fits) short.1 whole same) in
          absurd (let again = sym none ∙ ap (event_in shares) front.1 ∙ event_in_again shares e front.0 fits in cc);
    }

pub no_header_there : (held more : List ℕ) → header_at held ≡ None → is_whole held ≡ true → HasNoHeader (held ++ more)
no_header_there held more none whole =
    record {
      none = λ b rest fits same.
          let front = front_of held more (header_line b) rest same (whole_there held more (header_line b) rest (header_plain b fits) (header_short b fits) whole same) in
          absurd (let again = sym none ∙ ap header_at front.1 ∙ header_again b front.0 fits in cc);
    }
