-- Notes, and what is free, as they are made one operation and one thread after another.
use Rattle.std.proofs.Common.{◌≡◌, ◌≢◌, ℕ, ◌+◌, ◌<◌, ◌≤◌, ◌⊎◌, inl, inr, Bool, false, List, [], ◌∷◌, ◌++◌, length, length-append, take, map, Some, sym, ap, ◌∙◌, subst, arith, ⊎_elim, get_or-set_same, get_or-set_other}
use Rattle.std.specs.Prelude.{slice_get, slice_index_or, slice_set, unwrap_or, Contains}
use Rattle.std.proofs.lemmas.Bool.{cases_lt, cases_eq}
use Rattle.std.proofs.lemmas.List.{get_or-map, get_or_past, get_or_append_left, length-map, map-append, map-set, take_more}
use Rattle.std.proofs.lemmas.Option.{slice_get_within, slice_get-get_or, same_Some}
use Rattle.std.proofs.Math.Seq.{get_or-append_seam}
use Rattle.velo_events.proofs.OnTraces.{slice_get-push, slice_get-append}
use Rattle.velo_events.specs.declared.event.Kind.{Kind}
use Rattle.velo_events.specs.declared.event.Kind.TheVariants.{Read}
use Rattle.velo_search.specs.declared.hold.Hold.{Hold}
use Rattle.velo_search.specs.declared.note.Note.{Note}
use Rattle.velo_search.specs.declared.notes.Notes.{Notes}
use Rattle.velo_search.specs.Free.{is_marked, AreHeld}
use Rattle.velo_search.specs.Notes.{IsAmong, IsMarkOf, IsNoted, IsNoteOf, IsOfScript}
use Rattle.velo_search.specs.Runs.{script_of}

-- what a read past the end of a script would give
abbrev pub blank_kind : Kind
blank_kind = Read (record { 0 = 0 }) 0

-- ---- one list

pub noted-among : (list : List Note) (locks t : ℕ) (before : List Kind) (k : Kind) (held : List Hold) → AreHeld locks before held → IsAmong list t k held → IsNoted list locks t before k
noted-among list locks t before k held here w = record {
  note = w.note;
  there = w.there;
  thread = w.is.thread;
  kind = w.is.kind;
  held = subst (AreHeld locks before) (sym w.is.locks) here;
}

pub noted-before : (old now : List Note) (locks t : ℕ) (before : List Kind) (k : Kind) → ((note : Note) → Contains old note → Contains now note) → IsNoted old locks t before k → IsNoted now locks t before k
noted-before old now locks t before k kept w = record { note = w.note; there = kept w.note w.there; thread = w.thread; kind = w.kind; held = w.held }

-- a note of an operation of a script
pub of_script : (script : List Kind) (locks t i : ℕ) (k : Kind) (held : List Hold) (note : Note) → slice_get script i ≡ Some k → AreHeld locks (take i script) held → IsNoteOf t k held note → IsOfScript locks t script note
of_script script locks t i k held note due here is = record {
  thread = is.thread;
  place = i;
  due = due ∙ ap Some (sym is.kind);
  held = subst (AreHeld locks (take i script)) (sym is.locks) here;
}

-- ---- lists in a list

module _ {V X : Type 0} (items : V → List X) (lists : List V) where
  -- the one at a place
  pub list-here : (n : ℕ) (v : V) → n < length lists → v ≡ slice_index_or lists n v → slice_index_or (map items lists) n [] ≡ items v
  list-here n v within is = get_or-map items lists n v [] within ∙ ap items (sym is)

  -- one was changed
  pub list-set_same : (at : ℕ) (v : V) → at < length lists → slice_index_or (map items (slice_set lists at v)) at [] ≡ items v
  list-set_same at v within = ap (λ xs. slice_index_or xs at []) (map-set items lists at v) ∙ get_or-set_same (map items lists) at (items v) [] (let long = length-map lists items in omega (arith, within, long))

  pub list-set_other : (at n : ℕ) (v : V) → n ≢ at → slice_index_or (map items (slice_set lists at v)) n [] ≡ slice_index_or (map items lists) n []
  list-set_other at n v differ = ap (λ xs. slice_index_or xs n []) (map-set items lists at v) ∙ get_or-set_other (map items lists) at n (items v) [] differ

  -- what stood in a list stands there still, where the changed one has all that it had
  pub list-kept : (at : ℕ) (old new : V) → at < length lists → old ≡ slice_index_or lists at old → ((x : X) → Contains (items old) x → Contains (items new) x) →
      (n : ℕ) (x : X) → Contains (slice_index_or (map items lists) n []) x → Contains (slice_index_or (map items (slice_set lists at new)) n []) x
  list-kept at old new within is kept n x there = ⊎_elim
      (λ (same : n ≡ at).
      subst (λ m. Contains (slice_index_or (map items (slice_set lists at new)) m []) x) (sym same)
      (subst (λ xs. Contains xs x) (sym (list-set_same at new within))
      (kept x (subst (λ xs. Contains xs x) (list-here at old within is) (subst (λ m. Contains (slice_index_or (map items lists) m []) x) same there)))))
      (λ (differ : n ≢ at). subst (λ xs. Contains xs x) (sym (list-set_other at n new differ)) there)
      (cases_eq n at)

  -- and what stands in a list now stood there before, or has come to the changed one
  pub list-only : (P : X → Type 0) (at : ℕ) (old new : V) → at < length lists → old ≡ slice_index_or lists at old → ((x : X) → Contains (items new) x → Contains (items old) x ⊎ P x) →
      (n : ℕ) (x : X) → Contains (slice_index_or (map items (slice_set lists at new)) n []) x → Contains (slice_index_or (map items lists) n []) x ⊎ P x
  list-only P at old new within is only n x there = ⊎_elim
      (λ (same : n ≡ at).
      let here : slice_index_or (map items (slice_set lists at new)) n [] ≡ items new = ap (λ m. slice_index_or (map items (slice_set lists at new)) m []) same ∙ list-set_same at new within in
      let was : slice_index_or (map items lists) n [] ≡ items old = ap (λ m. slice_index_or (map items lists) m []) same ∙ list-here at old within is in
      ⊎_elim
      (λ before. inl (subst (λ xs. Contains xs x) (sym was) before))
      (λ is_new. inr is_new)
      (only x (subst (λ xs. Contains xs x) here there)))
      (λ (differ : n ≢ at). inl (subst (λ xs. Contains xs x) (list-set_other at n new differ) there))
      (cases_eq n at)

  -- one more
  pub list-pushed_before : (n : ℕ) (v : V) → n < length lists → slice_index_or (map items (lists ++ v ∷ [])) n [] ≡ slice_index_or (map items lists) n []
  list-pushed_before n v within =
      ap (λ xs. slice_index_or xs n []) (map-append items lists (v ∷ [])) ∙ get_or_append_left (map items lists) (items v ∷ []) [] n (let long = length-map lists items in omega (arith, within, long))

  pub list-pushed_here : (v : V) → slice_index_or (map items (lists ++ v ∷ [])) (length lists) [] ≡ items v
  list-pushed_here v =
      ap (λ xs. slice_index_or xs (length lists) []) (map-append items lists (v ∷ []))
      ∙ (ap (λ n. slice_index_or (map items lists ++ items v ∷ []) n []) (sym (length-map lists items)) ∙ get_or-append_seam (map items lists) (items v) [] [])

  pub list-pushed_past : (n : ℕ) (v : V) → length lists + 1 ≤ n → slice_index_or (map items (lists ++ v ∷ [])) n [] ≡ []
  list-pushed_past n v past =
      get_or_past (map items (lists ++ v ∷ [])) n [] (let long = length-map (lists ++ v ∷ []) items in let one = length-append lists (v ∷ []) in omega (arith, long, one, past))

  -- an empty one more
  pub list-pushed_empty : (v : V) → items v ≡ [] → ((n : ℕ) → slice_index_or (map items lists) n [] ≡ []) → (n : ℕ) → slice_index_or (map items (lists ++ v ∷ [])) n [] ≡ []
  list-pushed_empty v none before n = ⊎_elim
      (λ (earlier : n < length lists). list-pushed_before n v earlier ∙ before n)
      (λ (past : length lists ≤ n). ⊎_elim
      (λ (same : n ≡ length lists). ap (λ m. slice_index_or (map items (lists ++ v ∷ [])) m []) same ∙ (list-pushed_here v ∙ none))
      (λ (differ : n ≢ length lists). list-pushed_past n v (omega (arith, past, differ)))
      (cases_eq n (length lists)))
      (cases_lt n (length lists))

-- ---- one more operation of a thread

pub take-next_kind : (script : List Kind) (i : ℕ) (k : Kind) → i < length script → k ≡ slice_index_or script i k → take (i + 1) script ≡ take i script ++ k ∷ []
take-next_kind script i k within is = take_more script i k within ∙ ap (λ x. take i script ++ x ∷ []) (sym is)

-- an operation at a place before the next one
pub at_or_before : {P : ℕ → Kind → Type 0} (script : List Kind) (i : ℕ) (k : Kind) → i < length script → k ≡ slice_index_or script i k → ((j : ℕ) (l : Kind) → j < i → slice_get script j ≡ Some l → P j l) → P i k → (j : ℕ) (l : Kind) → j < i + 1 → slice_get script j ≡ Some l → P j l
at_or_before {P} script i k within is before here j l below there = ⊎_elim
    (λ (earlier : j < i). before j l earlier there)
    (λ (past : i ≤ j).
    let same : i ≡ j = omega (arith, past, below) in
    let kind : k ≡ l = same_Some k l (ap Some is ∙ (sym (slice_get-get_or script i k within) ∙ (ap (slice_get script) same ∙ there))) in
    subst (λ n. P n l) same (subst (P i) kind here))
    (cases_lt j i)

-- ---- one more thread

-- an operation of a thread before the next one
pub of_or_before : {P : ℕ → ℕ → Kind → Type 0} (scripts : List (List Kind)) (t : ℕ) → ((u j : ℕ) (l : Kind) → u < t → slice_get (script_of scripts u) j ≡ Some l → P u j l) →
    ((j : ℕ) (l : Kind) → slice_get (script_of scripts t) j ≡ Some l → P t j l) → (u j : ℕ) (l : Kind) → u < t + 1 → slice_get (script_of scripts u) j ≡ Some l → P u j l
of_or_before {P} scripts t before here u j l below there = ⊎_elim
    (λ (earlier : u < t). before u j l earlier there)
    (λ (past : t ≤ u).
    let same : t ≡ u = omega (arith, past, below) in
    subst (λ n. P n j l) same (here j l (ap (λ n. slice_get (script_of scripts n) j) same ∙ there)))
    (cases_lt u t)

-- ---- one more mark

pub mark-next : (notes : Notes) (locks t : ℕ) (script : List Kind) (clear : List Bool) (b : Bool) (k : Kind) → length clear < length script → k ≡ slice_index_or script (length clear) k →
    ((i : ℕ) (l : Kind) (mark : Bool) → slice_get script i ≡ Some l → slice_get clear i ≡ Some mark → IsMarkOf notes locks t (take i script) l mark) → IsMarkOf notes locks t (take (length clear) script) k b →
    (i : ℕ) (l : Kind) (mark : Bool) → slice_get script i ≡ Some l → slice_get (clear ++ b ∷ []) i ≡ Some mark → IsMarkOf notes locks t (take i script) l mark
mark-next notes locks t script clear b k within is before here i l mark there marked = ⊎_elim
    (λ (earlier : i < length clear). before i l mark there (sym (slice_get-append clear (b ∷ []) i earlier) ∙ marked))
    (λ (past : length clear ≤ i).
    let same : length clear ≡ i = let w = slice_get_within (clear ++ b ∷ []) i mark marked in let one = length-append clear (b ∷ []) in omega (arith, past, w, one) in
    let mine : b ≡ mark = same_Some b mark (sym (slice_get-push clear b) ∙ (ap (slice_get (clear ++ b ∷ [])) same ∙ marked)) in
    let kind : k ≡ l = same_Some k l (ap Some is ∙ (sym (slice_get-get_or script (length clear) k within) ∙ (ap (slice_get script) same ∙ there))) in
    subst (λ n. IsMarkOf notes locks t (take n script) l mark) same
    (subst (λ x. IsMarkOf notes locks t (take (length clear) script) x mark) kind
    (subst (IsMarkOf notes locks t (take (length clear) script) k) mine here)))
    (cases_lt i (length clear))

-- what holds of the mark of each operation of a thread, if there are as many
pub marks-each : {P : ℕ → Kind → Bool → Type 0} (script : List Kind) (marks : List Bool) → length marks ≡ length script → ((i : ℕ) (k : Kind) (mark : Bool) → slice_get script i ≡ Some k → slice_get marks i ≡ Some mark → P i k mark) →
    (i : ℕ) (k : Kind) → slice_get script i ≡ Some k → P i k (unwrap_or (slice_get marks i) false)
marks-each {P} script marks same each i k there =
    let within : i < length marks = let w = slice_get_within script i k there in omega (arith, w, same) in
    let at = slice_get-get_or marks i false within in
    subst (P i k) (sym (ap (λ o. unwrap_or o false) at)) (each i k (slice_index_or marks i false) there at)

-- one more thread's
module _ {V : Type 0} (items : V → List Bool) (scripts : List (List Kind)) (free : List V) (own : V) where
  pub marks-next : (P : ℕ → ℕ → Kind → Bool → Type 0) →
      ((t i : ℕ) (k : Kind) → t < length free → slice_get (script_of scripts t) i ≡ Some k → P t i k (is_marked (map items free) t i)) →
      ((i : ℕ) (k : Kind) → slice_get (script_of scripts (length free)) i ≡ Some k → P (length free) i k (unwrap_or (slice_get (items own) i) false)) →
      (t i : ℕ) (k : Kind) → t < length free + 1 → slice_get (script_of scripts t) i ≡ Some k → P t i k (is_marked (map items (free ++ own ∷ [])) t i)
  marks-next P before here t i k below there = ⊎_elim
      (λ (earlier : t < length free). subst (λ xs. P t i k (unwrap_or (slice_get xs i) false)) (sym (list-pushed_before items free t own earlier)) (before t i k earlier there))
      (λ (past : length free ≤ t).
      let same : length free ≡ t = omega (arith, past, below) in
      subst (λ u. P u i k (is_marked (map items (free ++ own ∷ [])) u i)) same
      (subst (λ xs. P (length free) i k (unwrap_or (slice_get xs i) false)) (sym (list-pushed_here items free own))
      (here i k (ap (λ u. slice_get (script_of scripts u) i) same ∙ there))))
      (cases_lt t (length free))

  pub counts-next : ((t : ℕ) → t < length free → length (slice_index_or (map items free) t []) ≡ length (script_of scripts t)) → length (items own) ≡ length (script_of scripts (length free)) →
      (t : ℕ) → t < length free + 1 → length (slice_index_or (map items (free ++ own ∷ [])) t []) ≡ length (script_of scripts t)
  counts-next before here t below = ⊎_elim
      (λ (earlier : t < length free). ap length (list-pushed_before items free t own earlier) ∙ before t earlier)
      (λ (past : length free ≤ t).
      let same : length free ≡ t = omega (arith, past, below) in
      subst (λ u. length (slice_index_or (map items (free ++ own ∷ [])) u []) ≡ length (script_of scripts u)) same
      (ap length (list-pushed_here items free own) ∙ here))
      (cases_lt t (length free))
