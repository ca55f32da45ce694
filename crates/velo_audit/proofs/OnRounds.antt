-- What a round tells: at least one block, whose label was not left out before; and a block that is told as blamed is so in the
-- log as read. So the rounds come to an end.
use Rattle.std.proofs.Common.{◌≡◌, ℕ, zero, suc, ◌+◌, ◌<◌, ◌≤◌, Bool, true, false, not, cond, List, [], ◌∷◌, ◌++◌, length, take, drop, map, Option, Some, None, refl, sym, ap, ◌∙◌, subst, arith, ⊎_elim, inl, inr}
use Rattle.std.specs.Prelude.{◌⊎◌, ◌||◌, ◌==◌, filter, filter_map, count_by, slice_get, slice_index_or, IsTrue, IsFalse, Contains, flat_map}
use Rattle.std.specs.List.{cons_option}
use Rattle.std.specs.Option.{option_map_or}
use Rattle.std.proofs.lemmas.Bool.{cases_Bool, cases_eq, cases_lt, or_left, or_right, or_cases, or_parts, both_ways, false_from_ne_true, eq-eqb, eqb-true, ne_eqb, not-true, false≢true}
use Rattle.std.proofs.lemmas.List.{length-take-le, take-append-drop}
use Rattle.std.proofs.lemmas.List.Folds.{list_any-append}
use Rattle.std.proofs.lemmas.List.Sums.{sum_by-cons}
use Rattle.std.proofs.lemmas.Option.{none-some, same_Some}
use Rattle.velo_events.specs.declared.event.Event.{Event}
use Rattle.velo_events.specs.declared.event.Kind.{Kind}
use Rattle.velo_events.specs.declared.event.Kind.TheVariants.{Read, Write, Acquire, Release, AcquireShared, ReleaseShared, Begin, End, Fork, Join, Exit}
use Rattle.velo_events.specs.Event.{is_begin}
use Rattle.velo_events.specs.Block.{is_begin_at, owner}
use Rattle.velo_events.specs.Graph.{HasCycle, IsClosing}
use Rattle.velo_events.specs.Reordering.{IsSelfSerializable, IsSerializable}
use Rattle.velo_events.proofs.OnBlocks.{owner-le, owner-append, owner-in_block}
use Rattle.velo_events.proofs.OnGraphs.{newest}
use Rattle.velo_events.proofs.OnOwners.{is_in_block-parts, is_open_at-begins, passes_at-within}
use Rattle.velo_events.proofs.OnReaching.{HasCycle-push_alone}
use Rattle.velo_events.proofs.OnScans.{event_at, passes_at-event, take-next}
use Rattle.velo_events.proofs.OnSerializing.{serializable_law-none}
use Rattle.velo_events.proofs.OnTraces.{passes_at-append}
use Rattle.velo_events.proofs.OnUnfinished.{Contains-open_blocks}
use Rattle.velo_traces.specs.Blocks.{label_of}
use Rattle.velo_blame.specs.Blamed.{AreBlamedAt, thread_at}
use Rattle.velo_filter.specs.Left.{Omitted, is_among, label_begun, is_dissolved, rest_of, place_of, is_listed, with_labels}
use Rattle.velo_audit.specs.Rounds.{label_at, each_once, labels_in, labels_left, RoundNumbers, labels_told, told_of, is_some_blamed, IsRound, left_after, Rounds, labels_found, AreFound}
use Rattle.velo_certify.proofs.OnClosing.{no_cycle_before}
use Rattle.velo_filter.proofs.OnRanks.{events_staying}
use Rattle.velo_filter.proofs.OnLeft.{stays, rest_of-is, sub-passes, stands_for, is_left_out-begin, is_dissolved-is}
use Rattle.velo_filter.proofs.OnKept.{blame-rest}

-- ---- the closing transaction is a block

-- The event that closes the first cycle is not the first of its transaction: this is a block, which began before
pub closing-block : (trace : List Event) (p : ℕ) → IsClosing trace p → owner trace p < p
closing-block trace p w = ⊎_elim (λ l. l)
    (λ g. absurd (no_cycle_before trace p w (HasCycle-push_alone (take p trace) e.0 (alone g) (subst HasCycle split w.closes))))
    (cases_lt (owner trace p) p)
  where
    e : (e : Event) × (slice_get trace p ≡ Some e)
    e = event_at trace p w.in_trace

    short : length (take p trace) ≡ p
    short = length-take-le p trace (let l = w.in_trace in omega (arith, l))

    split : take (p + 1) trace ≡ take p trace ++ e.0 ∷ []
    split = take-next trace p e.0 e.1

    same : owner (take (p + 1) trace) p ≡ owner trace p
    same = sym (owner-append (take (p + 1) trace) (drop (p + 1) trace) p (let long = length-take-le (p + 1) trace (let l = w.in_trace in omega (arith, l)) in omega (arith, long))) ∙ ap (λ es. owner es p) (take-append-drop (p + 1) trace)

    alone : p ≤ owner trace p → newest (take p trace) e.0 ≡ length (take p trace)
    alone g =
        let most = owner-le trace p in
        ap (owner (take p trace ++ e.0 ∷ [])) short ∙ (ap (λ es. owner es p) (sym split) ∙ (same ∙ omega (arith, g, most, short)))

pub closing-begins : (trace : List Event) (p : ℕ) → IsClosing trace p → IsTrue (is_begin_at trace (owner trace p))
closing-begins trace p w =
    let inside = is_in_block-parts trace (owner trace p) p (owner-in_block trace p (closing-block trace p w)) in
    is_open_at-begins trace inside.1.0 (owner trace p) p inside.1.2

-- ---- the blocks to blame begin in what is left

pub blamed-begins : (trace : List Event) (p : ℕ) (blamed : List ℕ) → p < length trace → AreBlamedAt trace p blamed → (b : ℕ) → Contains blamed b → IsTrue (is_begin_at trace b)
blamed-begins trace p blamed l are b w =
    let opened = (Contains-open_blocks (take (p + 1) trace) (thread_at trace p) b).0 ((are.which b).0 w).0 in
    let begun = is_open_at-begins (take (p + 1) trace) (thread_at trace p) b (length (take (p + 1) trace)) opened in
    let within = passes_at-within (take (p + 1) trace) (λ e. is_begin e.kind) b begun in
    ap (λ es. is_begin_at es b) (sym (take-append-drop (p + 1) trace)) ∙ (passes_at-append (take (p + 1) trace) (drop (p + 1) trace) (λ e. is_begin e.kind) b within ∙ begun)

-- ---- lists of numbers

is_listed-here : (x : ℕ) (xs : List ℕ) → IsTrue (is_listed (x ∷ xs) x)
unfolding is_listed
is_listed-here x xs = or_left _ _ (eq-eqb x x refl)

is_listed-later : (x : ℕ) (xs : List ℕ) (n : ℕ) → IsTrue (is_listed xs n) → IsTrue (is_listed (x ∷ xs) n)
unfolding is_listed
is_listed-later x xs n h = or_right (n == x) _ h

pub is_listed-cases : (x : ℕ) (xs : List ℕ) (n : ℕ) → IsTrue (is_listed (x ∷ xs) n) → (x ≡ n) ⊎ IsTrue (is_listed xs n)
unfolding is_listed
is_listed-cases x xs n h = ⊎_elim (λ e. inl (sym (eqb-true n x e))) (λ e. inr e) (or_cases (n == x) _ h)

is_listed-nil : (n : ℕ) → IsFalse (is_listed [] n)
unfolding is_listed
is_listed-nil n = refl

is_listed-filter : (p : ℕ → Bool) (xs : List ℕ) (n : ℕ) → IsTrue (p n) → IsTrue (is_listed xs n) → IsTrue (is_listed (filter p xs) n)
is_listed-filter p [] n h w = absurd (false≢true (sym (is_listed-nil n) ∙ w))
is_listed-filter p (x ∷ xs) n h w = ⊎_elim
    (λ e. ap (λ b. is_listed (cond b (x ∷ filter p xs) (filter p xs)) n) (ap p e ∙ h) ∙ subst (λ m. is_listed (x ∷ filter p xs) m ≡ true) e (is_listed-here x (filter p xs)))
    (λ later. let rest = is_listed-filter p xs n h later in ⊎_elim
    (λ g. ap (λ b. is_listed (cond b (x ∷ filter p xs) (filter p xs)) n) g ∙ is_listed-later x (filter p xs) n rest)
    (λ g. ap (λ b. is_listed (cond b (x ∷ filter p xs) (filter p xs)) n) g ∙ rest)
    (cases_Bool (p x)))
    (is_listed-cases x xs n w)

-- each number is still there once
pub each_once-listed : (xs : List ℕ) (n : ℕ) → IsTrue (is_listed xs n) → IsTrue (is_listed (each_once xs) n)
unfolding each_once
each_once-listed [] n w = w
each_once-listed (x ∷ xs) n w = ⊎_elim
    (λ e. subst (λ m. is_listed (x ∷ filter (λ y. not (y == x)) (each_once xs)) m ≡ true) e (is_listed-here x _))
    (λ other. ⊎_elim
    (λ e. subst (λ m. is_listed (x ∷ filter (λ y. not (y == x)) (each_once xs)) m ≡ true) e (is_listed-here x _))
    (λ later. is_listed-later x _ n (is_listed-filter (λ y. not (y == x)) (each_once xs) n (ap not (ne_eqb n x (λ e. other (sym e)))) (each_once-listed xs n later)))
    (is_listed-cases x xs n w))
    (cases_eq x n)

contains_map : (f : ℕ → ℕ) (xs : List ℕ) (y : ℕ) → Contains (map f xs) y → (x : ℕ) × Contains xs x × (f x ≡ y)
contains_map f [] y w = absurd (let l = w.1 in omega (arith, l))
contains_map f (x ∷ xs) y w = at (λ v. contains_map f xs y v) w.0 w.1 w.2
  where
    at : (Contains (map f xs) y → (z : ℕ) × Contains xs z × (f z ≡ y)) → (k : ℕ) → k < length (f x ∷ map f xs) → slice_index_or (f x ∷ map f xs) k y ≡ y → (z : ℕ) × Contains (x ∷ xs) z × (f z ≡ y)
    at rest zero l is = (x, (0, omega arith, refl), is)
    at rest (suc k) l is = let w = rest (k, omega (arith, l), is) in (w.0, (suc w.1.0, let m = w.1.1 in omega (arith, m), w.1.2), w.2)

map_contains : (f : ℕ → ℕ) (xs : List ℕ) (x : ℕ) → Contains xs x → IsTrue (is_listed (map f xs) (f x))
map_contains f xs x w = at xs w.0 w.1 w.2
  where
    at : (xs : List ℕ) (k : ℕ) → k < length xs → slice_index_or xs k x ≡ x → IsTrue (is_listed (map f xs) (f x))
    at [] k l is = absurd (omega (arith, l))
    at (y ∷ xs) zero l is = subst (λ m. is_listed (f y ∷ map f xs) (f m) ≡ true) is (is_listed-here (f y) (map f xs))
    at (y ∷ xs) (suc k) l is = is_listed-later (f y) (map f xs) (f x) (at xs k (omega (arith, l)) is)

-- ---- labels

module _ (log : List Event) where
  -- the label of a begin
  pub label_at-begin : (b : ℕ) (e : Event) → slice_get log b ≡ Some e → IsTrue (is_begin e.kind) → label_begun e.kind ≡ Some (label_at log b)
  label_at-begin b e here h = by_kind e.kind h ∙ ap (λ o. Some (option_map_or (λ f. label_of f.kind) o (record { 0 = 0 })).0) (sym here)
    where
      by_kind : (k : Kind) → IsTrue (is_begin k) → label_begun k ≡ Some (label_of k).0
      by_kind (Begin l) h = refl
      by_kind (Read x v) h = absurd (false≢true h)
      by_kind (Write x v) h = absurd (false≢true h)
      by_kind (Acquire m) h = absurd (false≢true h)
      by_kind (Release m) h = absurd (false≢true h)
      by_kind (AcquireShared m) h = absurd (false≢true h)
      by_kind (ReleaseShared m) h = absurd (false≢true h)
      by_kind End h = absurd (false≢true h)
      by_kind (Fork u) h = absurd (false≢true h)
      by_kind (Join u) h = absurd (false≢true h)
      by_kind Exit h = absurd (false≢true h)

labels-listed : (log : List Event) (b : ℕ) (e : Event) (l : ℕ) → slice_get log b ≡ Some e → label_begun e.kind ≡ Some l → IsTrue (is_listed (filter_map (λ f. label_begun f.kind) log) l)
labels-listed [] b e l here label = absurd (none-some e here)
labels-listed (f ∷ log) zero e l here label =
    ap (λ o. is_listed (cons_option o (filter_map (λ g. label_begun g.kind) log)) l) (ap (λ g. label_begun g.kind) (same_Some f e here) ∙ label) ∙ is_listed-here l _
labels-listed (f ∷ log) (suc b) e l here label = deeper (label_begun f.kind) (labels-listed log b e l here label)
  where
    deeper : (o : Option ℕ) → IsTrue (is_listed (filter_map (λ g. label_begun g.kind) log) l) → IsTrue (is_listed (cons_option o (filter_map (λ g. label_begun g.kind) log)) l)
    deeper None h = h
    deeper (Some k) h = is_listed-later k _ l h

-- ---- what a round tells

module _ (log : List Event) (left : Omitted) (told : RoundNumbers) (r : IsRound log left told) where
  abbrev what : List Event
  what = rest_of left log

  -- a block that is told: it begins in the log, stays in what is left, and its label was not left out
  pub record IsToldBlock (b : ℕ) : Type 0 where
    pub begins : IsTrue (is_begin_at log b)
    pub here : IsTrue (stays left log b)
    pub is_label : IsTrue (is_listed (labels_in log) (label_at log b))
    pub new : IsFalse (left.labels (label_at log b))

  begin-stands : (x : ℕ) → IsTrue (is_begin_at what x) → IsToldBlock (place_of left log x)
  unfolding is_dissolved
  begin-stands x begun =
      let within = passes_at-within what (λ e. is_begin e.kind) x begun in
      let s = stands_for left log x (let long = ap length (rest_of-is left log) in omega (arith, within, long)) in
      let b = place_of left log x in
      let begins : is_begin_at log b ≡ true = sym (sub-passes left log (λ e. is_begin e.kind) b s.within s.here) ∙ (ap (λ k. is_begin_at (events_staying log (stays left log) (length log)) k) s.ranked ∙ (ap (λ es. is_begin_at es x) (sym (rest_of-is left log)) ∙ begun)) in
      let e = passes_at-event log (λ f. is_begin f.kind) b begins in
      let label = label_at-begin log b e.0 e.1 e.2 in
      record {
        begins = begins;
        here = s.here;
        is_label = each_once-listed _ _ (labels-listed log b e.0 (label_at log b) e.1 label);
        new = sym (ap (is_among left.labels) label) ∙ (sym (is_dissolved-is left log b e.0 e.1) ∙ (sym (is_left_out-begin left log b e.0 e.1 e.2) ∙ not-true _ s.here));
      }

  told-begins : (blamed : List ℕ) → AreBlamedAt what r.position blamed → (x : ℕ) → Contains (told_of blamed (owner what r.position)) x → IsTrue (is_begin_at what x)
  told-begins [] are x w = subst (λ k. is_begin_at what k ≡ true) (first w.0 w.1 w.2) (closing-begins what r.position r.closes)
    where
      first : (k : ℕ) → k < 1 → slice_index_or (owner what r.position ∷ []) k x ≡ x → owner what r.position ≡ x
      first zero l is = is
      first (suc k) l is = absurd (omega (arith, l))
  told-begins (b ∷ bs) are x w = blamed-begins what r.position (b ∷ bs) r.closes.in_trace are x w

  -- each block that is told is one
  pub told-block : (b : ℕ) → Contains told.blocks b → IsToldBlock b
  told-block b w =
      let v = contains_map (place_of left log) (told_of r.blamed (owner what r.position)) b (subst (λ bs. Contains bs b) r.blocks w) in
      subst IsToldBlock v.2 (begin-stands v.0 (told-begins r.blamed r.are_blamed v.0 v.1))

  -- there is one
  pub told-some : (b : ℕ) × Contains told.blocks b
  told-some = some r.blamed refl
    where
      some : (bs : List ℕ) → r.blamed ≡ bs → (b : ℕ) × Contains told.blocks b
      some [] is = (place_of left log (owner what r.position), subst (λ bs. Contains bs (place_of left log (owner what r.position))) (sym (r.blocks ∙ ap (λ bs. map (place_of left log) (told_of bs (owner what r.position))) is)) (0, omega arith, refl))
      some (b ∷ bs) is = (place_of left log b, subst (λ cs. Contains cs (place_of left log b)) (sym (r.blocks ∙ ap (λ cs. map (place_of left log) (told_of cs (owner what r.position))) is)) (0, omega arith, refl))

  -- a label that is told is left out in the next round
  pub told-left_out : (b : ℕ) → Contains told.blocks b → IsTrue ((with_labels left (labels_told log told)).labels (label_at log b))
  told-left_out b w = or_right (left.labels (label_at log b)) _ (map_contains (label_at log) told.blocks b w)

  -- Each block that is told as blamed is not self-serializable in the log as read, up to the closing event
  pub told-blamed : IsTrue told.to_blame → (b : ℕ) → Contains told.blocks b → ¬ IsSelfSerializable (take (told.closing + 1) log) b
  told-blamed some b w = by r.blamed refl r.are_blamed
    where
      by : (bs : List ℕ) → r.blamed ≡ bs → AreBlamedAt what r.position bs → ¬ IsSelfSerializable (take (told.closing + 1) log) b
      by [] is are = absurd (false≢true (ap is_some_blamed (sym is) ∙ (sym r.to_blame ∙ some)))
      by (c ∷ cs) is are =
          let v = contains_map (place_of left log) (c ∷ cs) b (subst (λ bs. Contains bs b) (r.blocks ∙ ap (λ bs. map (place_of left log) (told_of bs (owner what r.position))) is) w) in
          let blame = (are.which v.0).0 v.1 in
          let opened = (Contains-open_blocks (take (r.position + 1) what) (thread_at what r.position) v.0).0 blame.0 in
          let begun = is_open_at-begins (take (r.position + 1) what) (thread_at what r.position) v.0 (length (take (r.position + 1) what)) opened in
          let within = passes_at-within (take (r.position + 1) what) (λ e. is_begin e.kind) v.0 begun in
          let long = length-take-le (r.position + 1) what (let l = r.closes.in_trace in omega (arith, l)) in
          subst (λ p. ¬ IsSelfSerializable (take (p + 1) log) b) (sym r.closing)
          (subst (λ k. ¬ IsSelfSerializable (take (place_of left log r.position + 1) log) k) v.2
          (blame-rest left log r.position v.0 r.closes.in_trace (omega (arith, within, long)) blame.1))

-- ---- the rounds come to an end

count-le : (a b : ℕ → Bool) → ((l : ℕ) → IsTrue (a l) → IsTrue (b l)) → (ls : List ℕ) → count_by (λ l. not (b l)) ls ≤ count_by (λ l. not (a l)) ls
count-le a b up [] = omega arith
count-le a b up (l ∷ ls) =
    let rest = count-le a b up ls in
    let x = sum_by-cons (λ k. cond {A = ℕ} (not (a k)) 1 0) l ls in
    let y = sum_by-cons (λ k. cond {A = ℕ} (not (b k)) 1 0) l ls in
    let one : cond {A = ℕ} (not (b l)) 1 0 ≤ cond {A = ℕ} (not (a l)) 1 0 = less (a l) (b l) (up l) in
    omega (arith, rest, x, y, one)
  where
    less : (p q : Bool) → (IsTrue p → IsTrue q) → cond {A = ℕ} (not q) 1 0 ≤ cond {A = ℕ} (not p) 1 0
    less true q h = rw (h refl) (omega arith)
    less false true h = omega arith
    less false false h = omega arith

count-less : (a b : ℕ → Bool) → ((l : ℕ) → IsTrue (a l) → IsTrue (b l)) → (n : ℕ) → IsFalse (a n) → IsTrue (b n) → (ls : List ℕ) → IsTrue (is_listed ls n) → count_by (λ l. not (b l)) ls + 1 ≤ count_by (λ l. not (a l)) ls
count-less a b up n old new [] w = absurd (false≢true (sym (is_listed-nil n) ∙ w))
count-less a b up n old new (l ∷ ls) w =
    let x = sum_by-cons (λ k. cond {A = ℕ} (not (a k)) 1 0) l ls in
    let y = sum_by-cons (λ k. cond {A = ℕ} (not (b k)) 1 0) l ls in
    ⊎_elim
    (λ e.
    let rest = count-le a b up ls in
    let one : cond {A = ℕ} (not (a l)) 1 0 ≡ 1 = ap (λ k. cond {A = ℕ} (not k) 1 0) (ap a e ∙ old) in
    let none : cond {A = ℕ} (not (b l)) 1 0 ≡ 0 = ap (λ k. cond {A = ℕ} (not k) 1 0) (ap b e ∙ new) in
    omega (arith, rest, x, y, one, none))
    (λ later.
    let rest = count-less a b up n old new ls later in
    let here = count-le a b up (l ∷ []) in
    let p = sum_by-cons (λ k. cond {A = ℕ} (not (a k)) 1 0) l [] in
    let q = sum_by-cons (λ k. cond {A = ℕ} (not (b k)) 1 0) l [] in
    omega (arith, rest, x, y, here, p, q))
    (is_listed-cases l ls n w)

-- a round leaves out at least one more label of the log
pub round-fewer : (log : List Event) (left : Omitted) (told : RoundNumbers) → IsRound log left told → labels_left (with_labels left (labels_told log told)) log + 1 ≤ labels_left left log
round-fewer log left told r =
    let some = told-some log left told r in
    let block = told-block log left told r some.0 some.1 in
    count-less left.labels (with_labels left (labels_told log told)).labels (λ l h. or_left _ _ h) (label_at log some.0) block.new (told-left_out log left told r some.0 some.1) (labels_in log) block.is_label

-- The rounds with an alarm are at most the labels that were not left out; with those that stay to the end they are at most all
pub rounds-few : (log : List Event) (left : Omitted) (rounds : List RoundNumbers) → Rounds log left rounds → length rounds + labels_left (left_after log left rounds) log ≤ labels_left left log
unfolding Rounds left_after
rounds-few log left [] h = omega arith
rounds-few log left (told ∷ rest) h =
    let more = rounds-few log (with_labels left (labels_told log told)) rest h.1 in
    let one = round-fewer log left told h.0 in
    omega (arith, more, one)

-- and what is left after them is serializable
pub rounds-serializable : (log : List Event) (left : Omitted) (rounds : List RoundNumbers) → Rounds log left rounds → IsSerializable (rest_of (left_after log left rounds) log)
unfolding Rounds left_after
rounds-serializable log left [] h = (serializable_law-none (rest_of left log)).0 h
rounds-serializable log left (told ∷ rest) h = rounds-serializable log (with_labels left (labels_told log told)) rest h.1

-- ---- the labels that are found

is_listed-filter_back : (p : ℕ → Bool) (xs : List ℕ) (n : ℕ) → IsTrue (is_listed (filter p xs) n) → IsTrue (is_listed xs n)
is_listed-filter_back p [] n w = w
is_listed-filter_back p (x ∷ xs) n w = ⊎_elim
    (λ g. ⊎_elim
    (λ e. subst (λ m. is_listed (x ∷ xs) m ≡ true) e (is_listed-here x xs))
    (λ later. is_listed-later x xs n (is_listed-filter_back p xs n later))
    (is_listed-cases x (filter p xs) n (ap (λ b. is_listed (cond b (x ∷ filter p xs) (filter p xs)) n) (sym g) ∙ w)))
    (λ g. is_listed-later x xs n (is_listed-filter_back p xs n (ap (λ b. is_listed (cond b (x ∷ filter p xs) (filter p xs)) n) (sym g) ∙ w)))
    (cases_Bool (p x))

-- no other number is there
pub each_once-from : (xs : List ℕ) (n : ℕ) → IsTrue (is_listed (each_once xs) n) → IsTrue (is_listed xs n)
unfolding each_once
each_once-from [] n w = w
each_once-from (x ∷ xs) n w = ⊎_elim
    (λ e. subst (λ m. is_listed (x ∷ xs) m ≡ true) e (is_listed-here x xs))
    (λ later. is_listed-later x xs n (each_once-from xs n (is_listed-filter_back (λ y. not (y == x)) (each_once xs) n later)))
    (is_listed-cases x (filter (λ y. not (y == x)) (each_once xs)) n w)

pub each_once-same : (xs : List ℕ) (n : ℕ) → is_listed (each_once xs) n ≡ is_listed xs n
each_once-same xs n = ⊎_elim
    (λ e. each_once-listed xs n e ∙ sym e)
    (λ e. false_from_ne_true _ (λ there. both_ways _ e (each_once-from xs n there)) ∙ sym e)
    (cases_Bool (is_listed xs n))

listed_map : (f : ℕ → ℕ) (xs : List ℕ) (y : ℕ) → IsTrue (is_listed (map f xs) y) → (x : ℕ) × Contains xs x × (f x ≡ y)
listed_map f [] y w = absurd (false≢true (sym (is_listed-nil y) ∙ w))
listed_map f (x ∷ xs) y w = ⊎_elim
    (λ e. (x, (0, omega arith, refl), e))
    (λ later. let v = listed_map f xs y later in (v.0, (suc v.1.0, let m = v.1.1 in omega (arith, m), v.1.2), v.2))
    (is_listed-cases (f x) (map f xs) y w)

is_listed-append : (xs ys : List ℕ) (n : ℕ) → is_listed (xs ++ ys) n ≡ (is_listed xs n || is_listed ys n)
unfolding is_listed
is_listed-append xs ys n = list_any-append (λ x. n == x) xs ys

all-found : (log : List Event) (left : Omitted) (rounds : List RoundNumbers) → Rounds log left rounds → (l : ℕ) → IsTrue (is_listed (flat_map (labels_told log) rounds) l) → IsTrue (is_listed (labels_in log) l) × IsFalse (left.labels l)
unfolding Rounds
all-found log left [] h l w = absurd (false≢true (sym (is_listed-nil l) ∙ w))
all-found log left (told ∷ rest) h l w = ⊎_elim
    (λ here.
    let v = listed_map (label_at log) told.blocks l here in
    let block = told-block log left told h.0 v.0 v.1 in
    (ap (is_listed (labels_in log)) (sym v.2) ∙ block.is_label, ap left.labels (sym v.2) ∙ block.new))
    (λ later.
    let v = all-found log (with_labels left (labels_told log told)) rest h.1 l later in
    (v.0, (or_parts _ _ v.1).0))
    (or_cases _ _ (sym (is_listed-append (labels_told log told) (flat_map (labels_told log) rest) l) ∙ w))

-- Each label that is found is one of the log's blocks, and was not left out
pub rounds-found : (log : List Event) (left : Omitted) (rounds : List RoundNumbers) → Rounds log left rounds → AreFound log left (labels_found log rounds)
rounds-found log left rounds h = record { each = λ l w. all-found log left rounds h l (each_once-from (flat_map (labels_told log) rounds) l w) }

left-all : (log : List Event) (left : Omitted) (rounds : List RoundNumbers) (l : ℕ) → (left_after log left rounds).labels l ≡ (left.labels l || is_listed (flat_map (labels_told log) rounds) l)
unfolding left_after
left-all log left [] l = sym (ap (λ b. left.labels l || b) (is_listed-nil l) ∙ elim (left.labels l) as (λ b. (b || false) ≡ b) [ true ↦ refl | false ↦ refl ])
left-all log left (told ∷ rest) l =
    left-all log (with_labels left (labels_told log told)) rest l
    ∙ (elim (left.labels l) as (λ b. ((b || is_listed (labels_told log told) l) || is_listed (flat_map (labels_told log) rest) l) ≡ (b || (is_listed (labels_told log told) l || is_listed (flat_map (labels_told log) rest) l))) [ true ↦ refl | false ↦ refl ]
    ∙ ap (λ b. left.labels l || b) (sym (is_listed-append (labels_told log told) (flat_map (labels_told log) rest) l)))

left-locks : (log : List Event) (left : Omitted) (rounds : List RoundNumbers) → (left_after log left rounds).locks ≡ left.locks
unfolding left_after
left-locks log left [] = refl
left-locks log left (told ∷ rest) = left-locks log (with_labels left (labels_told log told)) rest

left-variables : (log : List Event) (left : Omitted) (rounds : List RoundNumbers) → (left_after log left rounds).variables ≡ left.variables
unfolding left_after
left-variables log left [] = refl
left-variables log left (told ∷ rest) = left-variables log (with_labels left (labels_told log told)) rest

-- Behind the rounds the labels that are found are left out, and what was before
pub rounds-left : (log : List Event) (left : Omitted) (rounds : List RoundNumbers) → left_after log left rounds ≡ with_labels left (labels_found log rounds)
rounds-left log left rounds = λ i. record {
  labels = λ l. (left-all log left rounds l ∙ ap (λ b. left.labels l || b) (sym (each_once-same (flat_map (labels_told log) rounds) l))) i;
  locks = left-locks log left rounds i;
  variables = left-variables log left rounds i;
}
