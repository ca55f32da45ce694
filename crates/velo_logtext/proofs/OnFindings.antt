-- What newlines and headers say of the bytes that a reader holds.
use Rattle.std.proofs.Common.{◌≡◌, ℕ, zero, suc, ◌+◌, ◌-◌, ◌<◌, ◌≤◌, Bool, true, false, ◌||◌, eqb, ltb, List, [], ◌∷◌, ◌++◌, length, get_or, drop, Some, None, ⊎_elim, inl, inr, refl, sym, ap, ◌∙◌, length-append, arith}
use Rattle.std.specs.Prelude.{Contains, decimal, codes, ◌⊎◌}
use Rattle.std.specs.List.{list_any}
use Rattle.std.proofs.lemmas.Bool.{cases_lt, eqb-true, eq-eqb}
use Rattle.std.proofs.lemmas.Bool.Decides.{nat_tests}
use Rattle.std.proofs.lemmas.List.{append-nil, get_or_append_left}
use Rattle.velo_events.specs.declared.event.Event.{Event}
use Rattle.velo_logtext.specs.Text.{kind_text, header_line, event_line, Head}
use Rattle.velo_logtext.specs.Finding.{HasNoHeader, IsCutLine}
use Rattle.velo_logtext.specs.Reading.{header_at}
use Rattle.velo_bytes.proofs.Choices.{front_of}
use Rattle.velo_logtext.proofs.OnWindows.{rest_is}
use Rattle.velo_logtext.proofs.OnLines.{header_taken, header_again, header_short}

cases_bool : (b : Bool) → (b ≡ true) ⊎ (b ≡ false)
cases_bool true = inl refl
cases_bool false = inr refl

-- ---- newlines

abbrev pub has_newline : List ℕ → Bool
has_newline bytes = list_any (λ b. eqb b 10) bytes

newline_there : (bytes : List ℕ) → has_newline bytes ≡ true → Contains bytes 10
newline_there [] e = absurd cc
newline_there (b ∷ bs) e =
    elim (cases_bool (eqb b 10)) [
      | inl here ↦ (0, omega arith, eqb-true b 10 here)
      | inr not_here ↦
          let later : has_newline bs ≡ true = ap (λ (t : Bool). t || has_newline bs) (sym not_here) ∙ e in
          let found = newline_there bs later in
          (suc found.0, omega (arith, found.1), found.2)
    ]

newline_found : (bytes : List ℕ) (k : ℕ) → k < length bytes → get_or bytes k 10 ≡ 10 → has_newline bytes ≡ true
newline_found [] k lt e = absurd (omega arith)
newline_found (b ∷ bs) zero lt e = rw (eq-eqb b 10 e) refl
newline_found (b ∷ bs) (suc k) lt e =
    let later = newline_found bs k (omega arith) e in
    elim (cases_bool (eqb b 10)) [
      | inl here ↦ rw here refl
      | inr not_here ↦ rw (not_here, later) refl
    ]

pub newline_more : (bytes more : List ℕ) → Contains bytes 10 → Contains (bytes ++ more) 10
newline_more bytes more h = (h.0, omega (arith, h.1, length-append bytes more), get_or_append_left bytes more 10 h.0 h.1 ∙ h.2)

newline_behind : (front bytes : List ℕ) → Contains bytes 10 → Contains (front ++ bytes) 10
newline_behind [] bytes h = h
newline_behind (x ∷ front) bytes h = let found = newline_behind front bytes h in (suc found.0, omega (arith, found.1), found.2)

pub newline_of_event : (e : Event) (rest : List ℕ) → Contains (event_line e ++ rest) 10
unfolding event_line
newline_of_event e rest =
    newline_more (event_line e) rest (newline_behind (decimal e.thread.0) (codes " " ++ (kind_text e.kind ++ codes "\n")) (newline_behind (codes " ") (kind_text e.kind ++ codes "\n") (newline_behind (kind_text e.kind) (codes "\n") (0, omega arith, refl))))

-- ---- no header

-- where no header is taken from enough bytes, none is there, however they go on
pub no_header : (bytes more : List ℕ) → header_at bytes ≡ None → (64 < length bytes) ⊎ (more ≡ []) → HasNoHeader (bytes ++ more)
no_header bytes more none enough =
    record {
      none = λ b rest fits same.
          ⊎_elim
          (λ long.
          let front = front_of bytes more (header_line b) rest same (omega (arith, long, header_short b fits)) in
          absurd (let again = sym none ∙ ap header_at front.1 ∙ header_again b front.0 fits in cc))
          (λ nothing.
          let whole : bytes ≡ header_line b ++ rest = sym (append-nil bytes) ∙ ap (λ (t : List ℕ). bytes ++ t) (sym nothing) ∙ same in
          absurd (let again = sym none ∙ ap header_at whole ∙ header_again b rest fits in cc))
          enough;
    }

-- ---- what a line at the front is

-- the test of a line at which no event stands
abbrev pub is_bad : List ℕ → Bool
is_bad rest = ltb 64 (length rest) || has_newline rest

pub bad_ended : (rest : List ℕ) → is_bad rest ≡ true → Contains rest 10 ⊎ (64 < length rest)
bad_ended rest e =
    elim (cases_lt 64 (length rest)) [
      | inl long ↦ inr long
      | inr short ↦
          let test : ltb 64 (length rest) ≡ false = grind (arith, nat_tests) in
          let later : has_newline rest ≡ true = ap (λ (t : Bool). t || has_newline rest) (sym test) ∙ e in
          inl (newline_there rest later)
    ]

or_true : (b : Bool) → (b || true) ≡ true
or_true true = refl
or_true false = refl

pub ended_bad : (rest : List ℕ) → Contains rest 10 ⊎ (64 < length rest) → is_bad rest ≡ true
ended_bad rest (inl h) = let found = newline_found rest h.0 h.1 h.2 in rw found (or_true (ltb 64 (length rest)))
ended_bad rest (inr long) = let test : ltb 64 (length rest) ≡ true = grind (arith, nat_tests) in rw test refl

-- neither long nor with a newline
pub not_bad : (rest : List ℕ) → is_bad rest ≡ false → (length rest ≤ 64) × (¬ Contains rest 10)
not_bad rest e = (
  elim (cases_lt 64 (length rest)) [
    | inl long ↦ absurd (let bad = ended_bad rest (inr long) in cc)
    | inr short ↦ short
  ],
  λ h. let bad = ended_bad rest (inl h) in absurd cc,
)

pub cut_not_bad : (rest : List ℕ) → IsCutLine rest → is_bad rest ≡ false
cut_not_bad rest cut =
    elim (cases_bool (is_bad rest)) [
      | inl bad ↦ absurd (⊎_elim cut.no_newline (λ long. omega (arith, long, cut.few)) (bad_ended rest bad))
      | inr fine ↦ fine
    ]

-- ---- the header in the bytes that are there

pub header_left : (bytes : List ℕ) (b : Head) (rest : List ℕ) → Some (b, rest) ≡ header_at bytes → length rest ≤ length bytes
header_left bytes b rest is = let found = header_taken bytes b rest (sym is) in omega (arith, ap length found.text, length-append (header_line b) rest)

pub header_moved : (bytes : List ℕ) (b : Head) (rest : List ℕ) (end : ℕ) → length bytes ≡ end → Some (b, rest) ≡ header_at bytes → drop (end - length rest) bytes ≡ rest
header_moved bytes b rest end len is =
    let found = header_taken bytes b rest (sym is) in
    let none : List ℕ = [] in
    ap (λ (k : ℕ). drop (k - length rest) bytes) (sym len) ∙ sym (rest_is (header_line b) rest none bytes (sym found.text) (header_left bytes b rest is))
