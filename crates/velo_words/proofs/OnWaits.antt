-- Texts one after another.
use native.Mathlib.Numerals.{unary_clauses}
use Rattle.std.proofs.Common.{◌≡◌, ◌∙◌, ℕ, ◌+◌, ◌++◌, Bool, true, false, List, [], Some, Result, Ok, Err, refl, sym, ap, append_assoc, append-nil}
use Rattle.std.specs.Prelude.{OnOk, codes, if◌then◌else◌}
use Rattle.velo_events.specs.declared.event.Event.{Event}
use Rattle.velo_events.specs.Event.{are_same}
use Rattle.velo_events.specs.Heap.{holder_in, shares_in}
use Rattle.velo_workload.specs.Program.{Program}
use Rattle.velo_words.specs.Waits.{holder_text, name_or_number, texts_below}

texts-next : (text : ℕ → List ℕ) (n : ℕ) → texts_below text n ++ text n ≡ texts_below text (n + 1)
unfolding texts_below
texts-next text n = simp unary_clauses refl

-- one text more
pub texts-more : (text : ℕ → List ℕ) (n : ℕ) (start before after : List ℕ) → before ≡ start ++ texts_below text n → after ≡ before ++ text n → after ≡ start ++ texts_below text (n + 1)
texts-more text n start before after is more =
    more ∙ (ap (λ (l : List ℕ). l ++ text n) is ∙ (append_assoc start (texts_below text n) (text n) ∙ ap (λ (l : List ℕ). start ++ l) (texts-next text n)))

pub texts-first : (text : ℕ → List ℕ) (n : ℕ) (before after : List ℕ) → before ≡ texts_below text n → after ≡ before ++ text n → after ≡ texts_below text (n + 1)
texts-first text n before after is more = more ∙ (ap (λ (l : List ℕ). l ++ text n) is ∙ texts-next text n)

pub texts-none : (text : ℕ → List ℕ) (start : List ℕ) → start ≡ start ++ texts_below text 0
unfolding texts_below
texts-none text start = sym (append-nil start)

pub no-texts : (text : ℕ → List ℕ) (start : List ℕ) → start ≡ [] → start ≡ texts_below text 0
unfolding texts_below
no-texts text start none = none

-- a thread that shares the lock, and does not hold it alone
pub shared-text : (program : Program) (log : List Event) (m t : ℕ) (holds shares : Bool) → holds ≡ are_same (holder_in log m) (Some t) → holds ≡ false → shares ≡ shares_in log m t → shares ≡ true
    → codes ", shared by " ++ name_or_number program.thread_names t ≡ holder_text program log m t
shared-text program log m t holds shares is_held not_held is_shared shared =
    sym
    (ap (λ (held : Bool). if held then codes ", held by " ++ name_or_number program.thread_names t
    else (if shares_in log m t then codes ", shared by " ++ name_or_number program.thread_names t else [])) (sym is_held ∙ not_held)
    ∙ ap (λ (b : Bool). if b then codes ", shared by " ++ name_or_number program.thread_names t else []) (sym is_shared ∙ shared))

pub then-ok : {A E : Type 0} (old new words name other : List ℕ) (result : Result A E) → words ++ name ≡ other → OnOk result (new ≡ (old ++ words) ++ name) → OnOk result (new ≡ old ++ other)
then-ok old new words name other (Ok x) same h = h ∙ (append_assoc old words name ∙ ap (λ (l : List ℕ). old ++ l) same)
then-ok old new words name other (Err e) same h = tt
