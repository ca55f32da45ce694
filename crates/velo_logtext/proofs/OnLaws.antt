-- One thing stands in bytes: what a reading of them from the front finds.
use Rattle.std.proofs.Common.{◌≡◌, ℕ, Bool, zero, suc, ◌+◌, ◌-◌, ◌<◌, false, cond, eqb, List, [], ◌∷◌, ◌++◌, length, Option, Some, None, Result, Ok, Err, ⊎_elim, refl, sym, ap, subst, ◌∙◌, append_assoc, length-append, arith}
use Rattle.std.specs.Prelude.{Contains, IfSome}
use Rattle.std.proofs.lemmas.Bool.Decides.{nat_tests}
use Rattle.std.proofs.lemmas.List.{append-nil}
use Rattle.velo_events.specs.declared.config.Bounds.{Bounds}
use Rattle.velo_events.specs.declared.event.Event.{Event}
use Rattle.velo_logtext.specs.declared.fault.LogFault.{LogFault}
use Rattle.velo_logtext.specs.declared.fault.LogFault.TheVariants.{BadHeader, BadLine, Truncated, TooLong, Read, Memory}
use Rattle.velo_logtext.specs.Text.{Head, header_line, event_line, event_lines, IsEventIn, AreEventsIn, Begins, IsTextIn, IsLogText}
use Rattle.velo_logtext.specs.Finding.{HasNoHeader, HasNoEvent, IsBadLine, IsCutLine, Finding, Stands, ReadsAs, IsFindingOrFailure}
use Rattle.velo_bytes.specs.Parsing.{Taken}
use Rattle.velo_logtext.specs.Reading.{event_in, header_at}
use Rattle.velo_logtext.proofs.OnLines.{event_in_taken, event_in_again, event_short, header_taken, header_again}
use Rattle.velo_logtext.proofs.OnFindings.{is_bad, ended_bad, cut_not_bad, newline_of_event}

-- ---- a reading from the front

abbrev Lines : Type 0
Lines = Result (List Event) LogFault

abbrev behind : List Event → Lines → Lines
behind events (Ok more) = Ok (events ++ more)
behind events (Err f) = Err f

abbrev go_on : Taken Event → (List ℕ → Lines) → Lines → Lines
go_on (Some e) f other = behind (e.0 ∷ []) (f e.1)
go_on None f other = other

-- the events of the lines, of which there may be so many, from line n on
pub scan : Bool → ℕ → ℕ → List ℕ → Lines
scan shares zero n bytes = cond (eqb (length bytes) 0) (Ok []) (Err TooLong)
scan shares (suc k) n bytes = cond (eqb (length bytes) 0) (Ok []) (go_on (event_in shares bytes) (scan shares k (n + 1)) (cond (is_bad bytes) (Err (BadLine n)) (Err (Truncated n))))

abbrev with_bounds : Bounds → Lines → Finding
with_bounds b (Ok events) = Ok (b, events)
with_bounds b (Err f) = Err f

abbrev with_header : Taken Head → (Bool → List ℕ → Lines) → Finding
with_header (Some h) f = with_bounds h.0.1 (f h.0.0 h.1)
with_header None f = Err BadHeader

abbrev reading : ℕ → List ℕ → Finding
reading limit bytes = with_header (header_at bytes) (λ shares. scan shares limit 2)

-- ---- lines that are right

some_there : (bytes : List ℕ) → 0 < length bytes → eqb (length bytes) 0 ≡ false
some_there bytes h = grind (arith, nat_tests)

behind_cons : (e : Event) (events : List Event) (read : Lines) → behind (e ∷ []) (behind events read) ≡ behind (e ∷ events) read
behind_cons e events (Ok more) = refl
behind_cons e events (Err f) = refl

behind_none : (read : Lines) → behind [] read ≡ read
behind_none (Ok more) = refl
behind_none (Err f) = refl

scan_one : (shares : Bool) (k n : ℕ) (e : Event) (rest : List ℕ) → IsEventIn shares e → scan shares (suc k) n (event_line e ++ rest) ≡ behind (e ∷ []) (scan shares k (n + 1) rest)
unfolding scan
scan_one shares k n e rest fits =
    let some = some_there (event_line e ++ rest) (omega (arith, (event_short e fits.fits).0, length-append (event_line e) rest)) in
    rw (some, event_in_again shares e rest fits) refl

pub scan_lines : (shares : Bool) (events : List Event) (j n : ℕ) (rest : List ℕ) → AreEventsIn shares events → scan shares (length events + j) n (event_lines events ++ rest) ≡ behind events (scan shares j (n + length events) rest)
scan_lines shares [] j n rest fits =
    let a : 0 + j ≡ j = omega arith in
    let b : n + 0 ≡ n = omega arith in
    rw (a, b) (sym (behind_none (scan shares j n rest)))
scan_lines shares (e ∷ events) j n rest fits =
    let k : length (e ∷ events) + j ≡ suc (length events + j) = omega arith in
    let m : n + 1 + length events ≡ n + length (e ∷ events) = omega arith in
    let more = scan_lines shares events j (n + 1) rest fits.1 in
    ap (λ (i : ℕ). scan shares i n (event_lines (e ∷ events) ++ rest)) k
    ∙ ap (scan shares (suc (length events + j)) n) (append_assoc (event_line e) (event_lines events) rest)
    ∙ scan_one shares (length events + j) n e (event_lines events ++ rest) fits.0
    ∙ ap (behind (e ∷ [])) more
    ∙ behind_cons e events (scan shares j (n + 1 + length events) rest)
    ∙ ap (λ (i : ℕ). behind (e ∷ events) (scan shares j i rest)) m

-- ---- the line that is wrong

scan_none : (shares : Bool) (j n : ℕ) → scan shares j n [] ≡ Ok []
unfolding scan
scan_none shares zero n = refl
scan_none shares (suc j) n = refl

scan_full : (shares : Bool) (n : ℕ) (rest : List ℕ) → 0 < length rest → scan shares 0 n rest ≡ Err TooLong
unfolding scan
scan_full shares n rest h = rw (some_there rest h) refl

is_none : {X : Type 0} (o : Option X) → ((x : X) → o ≡ Some x → ⊥) → o ≡ None
is_none (Some x) never = absurd (never x refl)
is_none None never = refl

no_event_taken : (shares : Bool) (rest : List ℕ) → HasNoEvent shares rest → event_in shares rest ≡ None
no_event_taken shares rest absent = is_none (event_in shares rest) (λ e same. let found = event_in_taken shares rest e.0 e.1 same in absent.none e.0 e.1 found.fits found.text)

no_header_taken : (bytes : List ℕ) → HasNoHeader bytes → header_at bytes ≡ None
no_header_taken bytes absent = is_none (header_at bytes) (λ b same. let found = header_taken bytes b.0 b.1 same in absent.none b.0 b.1 found.fits found.text)

cut_no_event : (shares : Bool) (rest : List ℕ) → IsCutLine rest → HasNoEvent shares rest
cut_no_event shares rest cut = record { none = λ e after fits same. cut.no_newline (subst (λ (t : List ℕ). Contains t 10) (sym same) (newline_of_event e after)) }

scan_bad : (shares : Bool) (j n : ℕ) (rest : List ℕ) → IsBadLine shares rest → scan shares (suc j) n rest ≡ Err (BadLine n)
unfolding scan
scan_bad shares j n rest bad =
    let some : 0 < length rest = ⊎_elim (λ h. omega (arith, h.1)) (λ long. omega (arith, long)) bad.ended in
    rw (some_there rest some, no_event_taken shares rest bad.no_event, ended_bad rest bad.ended) refl

scan_cut : (shares : Bool) (j n : ℕ) (rest : List ℕ) → IsCutLine rest → scan shares (suc j) n rest ≡ Err (Truncated n)
unfolding scan
scan_cut shares j n rest cut = rw (some_there rest cut.some, no_event_taken shares rest (cut_no_event shares rest cut), cut_not_bad rest cut) refl

-- ---- what stands is what the reading finds

read_begins : (limit j : ℕ) (bytes : List ℕ) (shares : Bool) (b : Bounds) (events : List Event) (rest : List ℕ) → Begins bytes shares b events rest → limit ≡ length events + j → reading limit bytes ≡ with_bounds b (behind events (scan shares j (2 + length events) rest))
read_begins limit j bytes shares b events rest begins is =
    let regrouped : bytes ≡ header_line (shares, b) ++ (event_lines events ++ rest) = begins.text ∙ append_assoc (header_line (shares, b)) (event_lines events) rest in
    ap (reading limit) regrouped
    ∙ ap (λ (o : Taken Head). with_header o (λ v. scan v limit 2)) (header_again (shares, b) (event_lines events ++ rest) begins.bounds_fit)
    ∙ ap (λ (k : ℕ). with_bounds b (scan shares k 2 (event_lines events ++ rest))) is
    ∙ ap (with_bounds b) (scan_lines shares events j 2 rest begins.events_fit)

-- how many events more there may be, and one at least
room_left : (limit count : ℕ) → count < limit → (j : ℕ) × (limit ≡ count + suc j)
room_left limit count lt = (limit - count - 1, omega arith)

log_begins : (bytes : List ℕ) (shares : Bool) (b : Bounds) (events : List Event) → IsTextIn bytes shares b events → Begins bytes shares b events []
log_begins bytes shares b events log = record { bounds_fit = log.bounds_fit; events_fit = log.events_fit; text = log.text ∙ sym (append-nil (header_line (shares, b) ++ event_lines events)) }

pub stands_read : (limit : ℕ) (bytes : List ℕ) (f : Finding) → Stands limit bytes f → reading limit bytes ≡ f
stands_read limit bytes (Ok log) h =
    let j = limit - length log.1 in
    let shares = h.0.shares in
    read_begins limit j bytes shares log.0 log.1 [] (log_begins bytes shares log.0 log.1 h.0.is_text) (omega (arith, h.1))
    ∙ ap (λ (l : Lines). with_bounds log.0 (behind log.1 l)) (scan_none shares j (2 + length log.1))
    ∙ ap (λ (es : List Event). Ok (log.0, es)) (append-nil log.1)
stands_read limit bytes (Err BadHeader) h = ap (λ (o : Taken Head). with_header o (λ v. scan v limit 2)) (no_header_taken bytes h)
stands_read limit bytes (Err (BadLine n)) h =
    let room = room_left limit (length h.events) h.room in
    let line : 2 + length h.events ≡ n = omega (arith, h.line) in
    read_begins limit (suc room.0) bytes h.shares h.bounds h.events h.rest h.begins room.1
    ∙ ap (λ (l : Lines). with_bounds h.bounds (behind h.events l)) (scan_bad h.shares room.0 (2 + length h.events) h.rest h.wrong)
    ∙ ap (λ (k : ℕ). Err (BadLine k)) line
stands_read limit bytes (Err (Truncated n)) h =
    let room = room_left limit (length h.events) h.room in
    let line : 2 + length h.events ≡ n = omega (arith, h.line) in
    read_begins limit (suc room.0) bytes h.shares h.bounds h.events h.rest h.begins room.1
    ∙ ap (λ (l : Lines). with_bounds h.bounds (behind h.events l)) (scan_cut h.shares room.0 (2 + length h.events) h.rest h.wrong)
    ∙ ap (λ (k : ℕ). Err (Truncated k)) line
stands_read limit bytes (Err TooLong) h =
    read_begins limit 0 bytes h.shares h.bounds h.events h.rest h.begins (omega (arith, h.full))
    ∙ ap (λ (l : Lines). with_bounds h.bounds (behind h.events l)) (scan_full h.shares (2 + length h.events) h.rest h.more)
stands_read limit bytes (Err Read) h = absurd h
stands_read limit bytes (Err Memory) h = absurd h

pub one_finding_is : (limit : ℕ) (bytes : List ℕ) (f g : Finding) → Stands limit bytes f → Stands limit bytes g → f ≡ g
one_finding_is limit bytes f g p q = sym (stands_read limit bytes f p) ∙ stands_read limit bytes g q

pub answers_one : (limit : ℕ) (bytes : List ℕ) (answer f : Finding) → ReadsAs limit bytes answer → Stands limit bytes f → IsFindingOrFailure f answer
answers_one limit bytes (Ok log) f a s = one_finding_is limit bytes f (Ok log) s a
answers_one limit bytes (Err Read) f a s = tt
answers_one limit bytes (Err Memory) f a s = a
answers_one limit bytes (Err BadHeader) f a s = one_finding_is limit bytes f (Err BadHeader) s a
answers_one limit bytes (Err (BadLine n)) f a s = one_finding_is limit bytes f (Err (BadLine n)) s a
answers_one limit bytes (Err (Truncated n)) f a s = one_finding_is limit bytes f (Err (Truncated n)) s a
answers_one limit bytes (Err TooLong) f a s = one_finding_is limit bytes f (Err TooLong) s a

-- the same where the bytes may be unknown
pub answers_found : (limit : ℕ) (known : Option (List ℕ)) (answer : Finding) → IfSome known (λ bytes. ReadsAs limit bytes answer) → IfSome known (λ bytes. (f : Finding) → Stands limit bytes f → IsFindingOrFailure f answer)
answers_found limit None answer a = tt
answers_found limit (Some bytes) answer a = λ f s. answers_one limit bytes answer f a s

-- a text is that of one pair
pub one_pair : (bytes : List ℕ) (b c : Bounds) (es fs : List Event) → IsLogText bytes b es → IsLogText bytes c fs → (b ≡ c) × (es ≡ fs)
one_pair bytes b c es fs p q =
    let limit = length es + length fs in
    let same = one_finding_is limit bytes (Ok (b, es)) (Ok (c, fs)) (p, omega arith) (q, omega arith) in
    let pair : (b, es) ≡ (c, fs) = cc in
    (ap (λ (x : Bounds × List Event). x.0) pair, ap (λ (x : Bounds × List Event). x.1) pair)
