-- What is noted of all operations tells which are free.
use Rattle.std.proofs.Common.{◌≡◌, ◌≢◌, ℕ, ◌+◌, ◌*◌, ◌%◌, ◌<◌, Bool, true, false, not, List, [], ◌∷◌, ◌++◌, length, take, Option, Some, None, refl, sym, ap, ◌∙◌, subst, ⊎_elim}
use Rattle.std.specs.Prelude.{◌&&◌, ◌||◌, if◌then◌else◌, nat_le, slice_get, slice_index_or, Contains, IsTrue, IsFalse}
use Rattle.std.specs.Option.{option_map_or}
use Rattle.std.specs.Cmp.{both_ways as imply_each_other}
use Rattle.std.proofs.Math.Dec.{leb-zero}
use Rattle.std.proofs.lemmas.Bool.{cases_Bool, cases_eq, cases_lt, and_from, and_parts, or_cases, or_from, or_left, or_right, not_from_false, not_from_true, eqb-true, eq-eqb, ne_eqb, false≢true, false_from_ne_true, both_ways}
use Rattle.std.proofs.lemmas.List.{get_or_past}
use Rattle.std.proofs.lemmas.List.Elements.{All-contains, All-contains_itself}
use Rattle.std.proofs.lemmas.List.Sums.{AllPass-from_list_all, list_all-from_AllPass}
use Rattle.std.proofs.lemmas.Option.{none-some, slice_get_within}
use Rattle.velo_events.specs.declared.event.Access.{Access}
use Rattle.velo_events.specs.declared.event.Access.TheVariants.{Shared, Exclusive, Nothing}
use Rattle.velo_events.specs.declared.event.Kind.{Kind}
use Rattle.velo_events.specs.declared.event.Kind.TheVariants.{Release, ReleaseShared, Begin, End, Exit}
use Rattle.velo_events.specs.Event.{are_same, access_of, cell_of, forked_of, joined_of, thread_forked, thread_joined}
use Rattle.velo_events.specs.Block.{any_below}
use Rattle.velo_events.proofs.OnBlocks.{any_below-at, any_below-same, any_below-some}
use Rattle.velo_heap.proofs.OnTables.{get_or-tabulated}
use Rattle.velo_movers.specs.Free.{gives_up, do_clash, are_rivals, are_twins, is_private}
use Rattle.velo_movers.specs.Scripts.{has_after, has_from, has_lock, shares_after, shares_from, shares_lock, exclude, hinders, is_free}
use Rattle.velo_movers.proofs.OnFreeStatements.{private-no_rivals, private-no_twins}
use Rattle.velo_search.specs.declared.hold.Hold.{Hold}
use Rattle.velo_search.specs.declared.note.Note.{Note}
use Rattle.velo_search.specs.declared.notes.Notes.{Notes}
use Rattle.velo_search.specs.declared.listing.TheConstants.{LISTS}
use Rattle.velo_search.specs.Free.{done_by_one, excludes, hold_after, hold_next, is_free_at, no_hold, AreHeld}
use Rattle.velo_search.specs.Notes.{target_of, list_of, list_at, is_clear, is_harmless, note_hinders, AreNoted, IsOfScript}
use Rattle.velo_search.specs.Runs.{script_of}

-- ---- locks

has_from-push : (m : ℕ) (had : Bool) (ks : List Kind) (k : Kind) → has_from m had (ks ++ k ∷ []) ≡ has_after m (has_from m had ks) k
unfolding has_from
has_from-push m had [] k = refl
has_from-push m had (l ∷ ks) k = has_from-push m (has_after m had l) ks k

shares_from-push : (m : ℕ) (had : Bool) (ks : List Kind) (k : Kind) → shares_from m had (ks ++ k ∷ []) ≡ shares_after m (shares_from m had ks) k
unfolding shares_from
shares_from-push m had [] k = refl
shares_from-push m had (l ∷ ks) k = shares_from-push m (shares_after m had l) ks k

abbrev hold_of : Bool → Bool → Hold
hold_of alone shared = record { alone = alone; shared = shared }

-- 101. one more operation
pub hold_after-push : (ks : List Kind) (k : Kind) (m : ℕ) → hold_after (ks ++ k ∷ []) m ≡ hold_next m (hold_after ks m) k
hold_after-push ks k m =
    ap (λ b. hold_of b (shares_lock m (ks ++ k ∷ []))) (has_from-push m false ks k) ∙ ap (hold_of (has_after m (has_lock m ks) k)) (shares_from-push m false ks k)

pub hold_after-nil : (m : ℕ) → hold_after [] m ≡ no_hold
unfolding has_from shares_from
hold_after-nil m = refl

-- 102. a note hinders by the locks that both have
pub hinders-note : (locks : ℕ) (mine : List Hold) (ours theirs : List Kind) (k : Kind) (note : Note) → AreHeld locks ours mine → AreHeld locks theirs note.held.locks.items →
    hinders locks ours k theirs note.kind ≡ note_hinders mine k note
hinders-note locks mine ours theirs k note here there =
    let their = note.held.locks.items in
    let each : any_below locks (λ m. exclude m ours theirs) ≡ any_below locks (λ m. excludes (slice_index_or mine m no_hold) (slice_index_or their m no_hold)) =
    any_below-same locks _ _ (λ m below. sym
    (ap (λ (x : Hold). excludes x (slice_index_or their m no_hold)) (get_or-tabulated mine (hold_after ours) no_hold m here.table (subst (λ n. m < n) (sym here.count) below))
    ∙ ap (λ (y : Hold). excludes (hold_after ours m) y) (get_or-tabulated their (hold_after theirs) no_hold m there.table (subst (λ n. m < n) (sym there.count) below)))) in
    ap (λ b. (are_rivals k note.kind && not b) || are_twins k note.kind)
    (each ∙ ap (λ n. any_below n (λ m. excludes (slice_index_or mine m no_hold) (slice_index_or their m no_hold))) (sym here.count))

-- ---- who hinders is in one list with the other

same_cell : (a b : Access) → IsTrue (are_same (cell_of a) (cell_of b)) → target_of a ≡ target_of b
same_cell (Shared c) (Shared d) h = ap (λ n. 2 * n) (eqb-true c.0 d.0 h)
same_cell (Shared c) (Exclusive d) h = ap (λ n. 2 * n) (eqb-true c.0 d.0 h)
same_cell (Exclusive c) (Shared d) h = ap (λ n. 2 * n) (eqb-true c.0 d.0 h)
same_cell (Exclusive c) (Exclusive d) h = ap (λ n. 2 * n) (eqb-true c.0 d.0 h)
same_cell (Shared c) (Access.Fork u) h = absurd (false≢true h)
same_cell (Shared c) (Access.Join u) h = absurd (false≢true h)
same_cell (Shared c) Nothing h = absurd (false≢true h)
same_cell (Exclusive c) (Access.Fork u) h = absurd (false≢true h)
same_cell (Exclusive c) (Access.Join u) h = absurd (false≢true h)
same_cell (Exclusive c) Nothing h = absurd (false≢true h)
same_cell (Access.Fork u) b h = absurd (false≢true h)
same_cell (Access.Join u) b h = absurd (false≢true h)
same_cell Nothing b h = absurd (false≢true h)

same_thread : (a b : Access) → IsTrue (are_same (forked_of a) (forked_of b) || are_same (joined_of a) (joined_of b) || are_same (forked_of a) (joined_of b)) → target_of a ≡ target_of b
same_thread (Access.Fork u) (Access.Fork v) h = ap (λ n. 2 * n + 1) (eqb-true u.0 v.0 (⊎_elim (λ g. g) (λ g. absurd (false≢true g)) (or_cases _ _ (⊎_elim (λ g. g) (λ g. absurd (false≢true g)) (or_cases _ _ h)))))
same_thread (Access.Fork u) (Access.Join v) h = ap (λ n. 2 * n + 1) (eqb-true u.0 v.0 h)
same_thread (Access.Join u) (Access.Join v) h = ap (λ n. 2 * n + 1) (eqb-true u.0 v.0 (⊎_elim (λ g. g) (λ g. absurd (false≢true g)) (or_cases _ _ h)))
same_thread (Access.Join u) (Access.Fork v) h = absurd (false≢true h)
same_thread (Access.Fork u) (Shared c) h = absurd (false≢true h)
same_thread (Access.Fork u) (Exclusive c) h = absurd (false≢true h)
same_thread (Access.Fork u) Nothing h = absurd (false≢true h)
same_thread (Access.Join u) (Shared c) h = absurd (false≢true h)
same_thread (Access.Join u) (Exclusive c) h = absurd (false≢true h)
same_thread (Access.Join u) Nothing h = absurd (false≢true h)
same_thread (Shared c) b h = absurd (false≢true h)
same_thread (Exclusive c) b h = absurd (false≢true h)
same_thread Nothing b h = absurd (false≢true h)

-- 103. the list
hinders-list : (locks : ℕ) (ours : List Kind) (k : Kind) (theirs : List Kind) (l : Kind) → IsTrue (hinders locks ours k theirs l) → list_of l ≡ list_of k
hinders-list locks ours k theirs l h = ap (λ n. n % LISTS) (sym (⊎_elim
    (λ rivals. same_cell (access_of k) (access_of l) (and_parts _ _ (and_parts _ _ (and_parts _ _ rivals).0).0).0)
    (λ twins. same_thread (access_of k) (access_of l) twins)
    (or_cases _ _ h)))

-- ---- what hinders nothing

no_cell : (o : Option ℕ) → IsFalse (are_same o None)
no_cell (Some x) = refl
no_cell None = refl

-- 104. a begin, an end, a release or an exit hinders no other operation
private-hinders_none : (locks : ℕ) (ours : List Kind) (k : Kind) (theirs : List Kind) (l : Kind) → IsTrue (is_private l) → IsFalse (hinders locks ours k theirs l)
private-hinders_none locks ours k theirs l h = or_from _ _ (false_from_ne_true _ (λ g. both_ways _ (no_rival l h) (and_parts _ _ g).0)) (no_twin l h)
  where
    given_up : (b c : Bool) → IsTrue c → IsFalse (b && not c)
    given_up true c is = ap not is
    given_up false c is = refl

    no_rival : (l : Kind) → IsTrue (is_private l) → IsFalse (are_rivals k l)
    no_rival (Begin x) is = false_from_ne_true _ (λ g. both_ways _ (no_cell (cell_of (access_of k))) (and_parts _ _ (and_parts _ _ g).0).0)
    no_rival End is = false_from_ne_true _ (λ g. both_ways _ (no_cell (cell_of (access_of k))) (and_parts _ _ (and_parts _ _ g).0).0)
    no_rival (Release m) is = given_up (do_clash k (Release m)) (gives_up k || true) (⊎_elim (λ g. ap (λ b. b || true) g) (λ g. ap (λ b. b || true) g) (cases_Bool (gives_up k)))
    no_rival (ReleaseShared m) is = given_up (do_clash k (ReleaseShared m)) (gives_up k || true) (⊎_elim (λ g. ap (λ b. b || true) g) (λ g. ap (λ b. b || true) g) (cases_Bool (gives_up k)))
    no_rival Exit is = false_from_ne_true _ (λ g. both_ways _ (no_cell (cell_of (access_of k))) (and_parts _ _ (and_parts _ _ g).0).0)
    no_rival _ is = absurd (false≢true is)

    none : IsFalse (are_same (thread_forked k) None || are_same (thread_joined k) None || are_same (thread_forked k) None)
    none = or_from _ _ (or_from _ _ (no_cell (thread_forked k)) (no_cell (thread_joined k))) (no_cell (thread_forked k))

    no_twin : (l : Kind) → IsTrue (is_private l) → IsFalse (are_twins k l)
    no_twin (Begin x) is = none
    no_twin End is = none
    no_twin (Release m) is = none
    no_twin (ReleaseShared m) is = none
    no_twin Exit is = none
    no_twin _ is = absurd (false≢true is)

-- ---- all operations

-- an operation of a thread is one of those that are there
pub of_those : (scripts : List (List Kind)) (u j : ℕ) (l : Kind) → slice_get (script_of scripts u) j ≡ Some l → u < length scripts
of_those scripts u j l there = ⊎_elim
    (λ below. below)
    (λ past. absurd (none-some l (sym (ap (λ ks. slice_get ks j) (get_or_past scripts u [] past)) ∙ there)))
    (cases_lt u (length scripts))

module _ (notes : Notes) (scripts : List (List Kind)) (locks : ℕ) (noted : AreNoted notes scripts locks) (t i : ℕ) (k : Kind) (mine : List Hold) (held : AreHeld locks (take i (script_of scripts t)) mine) where
  abbrev before : List Kind
  before = take i (script_of scripts t)

  -- an operation of another thread, or what its note says
  abbrev hinders_at : ℕ → ℕ → Kind → Bool
  hinders_at u j l = hinders locks before k (take j (script_of scripts u)) l

  -- what is marked as clear is hindered by no operation of another thread
  no_hinderer : IsTrue (is_clear notes mine t k) → (u j : ℕ) (l : Kind) → u ≢ t → slice_get (script_of scripts u) j ≡ Some l → IsFalse (hinders_at u j l)
  no_hinderer clear u j l other here = ⊎_elim
      (λ free. or_from _ _ (false_from_ne_true _ (λ g. both_ways _ (private-no_rivals k l free) (and_parts _ _ g).0)) (private-no_twins k l free))
      (λ each. ⊎_elim
      (λ harmless. private-hinders_none locks before k (take j (script_of scripts u)) l harmless)
      (λ may. false_from_ne_true _ (λ h.
      let w = noted.each u j l here may in
      let same = hinders-list locks before k (take j (script_of scripts u)) l h in
      let there : Contains (list_at notes (list_of k)) w.note = subst (λ n. Contains (list_at notes n) w.note) same w.there in
      let harmless : IsTrue (is_harmless mine t k w.note) = All-contains (λ n. is_harmless mine t k n ≡ true) (list_at notes (list_of k)) w.note (AllPass-from_list_all (is_harmless mine t k) (list_at notes (list_of k)) each) there in
      let hindered : IsTrue (note_hinders mine k w.note) = sym (hinders-note locks mine before (take j (script_of scripts u)) k w.note held w.held) ∙ subst (λ x. IsTrue (hinders_at u j x)) (sym w.kind) h in
      ⊎_elim
      (λ own. other (sym w.thread ∙ eqb-true w.note.thread t own))
      (λ not_hindered. both_ways _ (not_from_true _ hindered) not_hindered)
      (or_cases _ _ harmless)))
      (cases_Bool (is_private l)))
      (or_cases _ _ clear)

  -- what is noted of another thread hinders where its operation does
  some_hinderer : (note : Note) → Contains (list_at notes (list_of k)) note → note.thread ≢ t → IsTrue (note_hinders mine k note) → IsFalse (is_free_at locks scripts t i k)
  unfolding is_free
  some_hinderer note there other hindered =
      let u = note.thread in
      let found = noted.only (list_of k) note there in
      let w : IsOfScript locks u (script_of scripts u) note = subst (λ n. IsOfScript locks n (script_of scripts n) note) (sym found.1.thread) found.1 in
      let j = w.place in
      let script = script_of scripts u in
      let ours : take (done_by_one t i t) (script_of scripts t) ≡ before = ap (λ b. take (if b then i else 0) (script_of scripts t)) (eq-eqb t t refl) in
      let differ = ne_eqb u t other in
      let reached : IsTrue (nat_le (done_by_one t i u) j) = ap (λ b. nat_le (if b then i else 0) j) differ ∙ leb-zero j in
      let hinder : IsTrue (hinders locks (take (done_by_one t i t) (script_of scripts t)) k (take j script) note.kind) =
      ap (λ ks. hinders locks ks k (take j script) note.kind) ours ∙ (hinders-note locks mine before (take j script) k note held w.held ∙ hindered) in
      let at : IsTrue (option_map_or (hinders locks (take (done_by_one t i t) (script_of scripts t)) k (take j script)) (slice_get script j) false) =
      ap (λ o. option_map_or (hinders locks (take (done_by_one t i t) (script_of scripts t)) k (take j script)) o false) w.due ∙ hinder in
      not_from_true _ (any_below-at (length scripts) _ u (of_those scripts u j note.kind w.due)
      (and_from _ _ (not_from_false _ differ)
      (any_below-at (length script) _ j (slice_get_within script j note.kind w.due)
      (and_from _ _ reached at))))

  -- 105. so the mark says whether the operation is free
  free-clear : IsTrue (is_clear notes mine t k) → IsTrue (is_free_at locks scripts t i k)
  unfolding is_free
  free-clear clear =
      not_from_false _ (false_from_ne_true _ (λ some.
      let u = any_below-some (length scripts) _ some in
      let differ = and_parts _ _ u.2 in
      let other : u.0 ≢ t = λ is. both_ways _ (ap not (eq-eqb u.0 t is)) differ.0 in
      let j = any_below-some (length (script_of scripts u.0)) _ differ.1 in
      at u.0 j.0 other (slice_get (script_of scripts u.0) j.0) refl (and_parts _ _ j.2).1))
    where
      at : (u j : ℕ) → u ≢ t → (o : Option Kind) → slice_get (script_of scripts u) j ≡ o →
          IsTrue (option_map_or (hinders locks (take (done_by_one t i t) (script_of scripts t)) k (take j (script_of scripts u))) o false) → ⊥
      at u j other None is h = false≢true h
      at u j other (Some l) is h =
          both_ways _ (no_hinderer clear u j l other is)
          (subst (λ n. IsTrue (hinders locks (take n (script_of scripts t)) k (take j (script_of scripts u)) l)) (ap (λ b. if b then i else 0) (eq-eqb t t refl)) h)

  clear-free : IsTrue (is_free_at locks scripts t i k) → IsTrue (is_clear notes mine t k)
  clear-free free = or_right _ _ (list_all-from_AllPass (is_harmless mine t k) (list_at notes (list_of k)) (λ n d within.
      let note = slice_index_or (list_at notes (list_of k)) n d in
      let there = All-contains_itself (list_at notes (list_of k)) n d within in
      ⊎_elim
      (λ own. or_left _ _ (eq-eqb note.thread t own))
      (λ other. or_right _ _ (not_from_false _ (false_from_ne_true _ (λ hindered. both_ways _ (some_hinderer note there other hindered) free))))
      (cases_eq note.thread t)))

  pub is_clear-free : is_clear notes mine t k ≡ is_free_at locks scripts t i k
  is_clear-free = imply_each_other _ _ free-clear clear-free
