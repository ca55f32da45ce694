-- Cuts: at the start, behind a round, and behind a piece.
use Rattle.std.proofs.Common.{◌≡◌, ℕ, zero, suc, ◌+◌, ◌<◌, ◌≤◌, Bool, false, true, not, List, [], ◌∷◌, ◌++◌, length, map, take, drop, get_or, replicate, Option, Some, None, refl, sym, ap, ◌∙◌, subst, arith, ⊎_elim, append_assoc, append-nil, length-append}
use Rattle.std.specs.Prelude.{All, Contains, IsTrue, IsFalse, slice_get, slice_index, filter_map, ◌||◌, ◌&&◌, ◌==◌}
use Rattle.std.proofs.lemmas.Bool.{cases_Bool, cases_lt, both_ways, false_from_ne_true, or_left, or_right, eq-eqb}
use Rattle.std.proofs.lemmas.List.{take-append-drop, get_or_append_left, get_or-append-add, length-replicate}
use Rattle.std.proofs.lemmas.Option.{slice_get-get_or, none-some, same_Some}
use Rattle.velo_events.specs.declared.event.Event.{Event}
use Rattle.velo_events.specs.declared.event.Label.{Label}
use Rattle.velo_events.specs.declared.event.Kind.TheVariants.{Begin}
use Rattle.velo_events.specs.Event.{is_begin}
use Rattle.velo_events.specs.Block.{any_below, passes_at}
use Rattle.velo_events.specs.Graph.{HasCycle}
use Rattle.velo_events.proofs.OnBlocks.{any_below-same}
use Rattle.velo_events.proofs.OnOwners.{passes_at-within}
use Rattle.velo_events.proofs.OnScans.{event_at, passes_at-is}
use Rattle.velo_traces.proofs.Past.{past}
use Rattle.velo_traces.specs.declared.block.Block.{Block}
use Rattle.velo_filter.specs.Left.{Omitted, is_among, label_begun, begins_such, is_on_such, is_dissolved, ends_at, is_left_out, is_listed, with_labels, with_number, rest_of, places_of}
use Rattle.velo_filter.specs.Marks.{AreMarks, number_of}
use Rattle.velo_filter.specs.Stacks.{stack}
use Rattle.velo_filter.specs.Tables.{members}
use Rattle.velo_filter.specs.Thinned.{first_places, first_of_rest}
use Rattle.velo_filter.proofs.OnLeft.{stays, rest_of-is}
use Rattle.velo_filter.proofs.OnRanks.{rank, staying, staying-stays, staying-goes, take-staying, length-staying, take-events_staying, length-events_staying}
use Rattle.velo_filter.proofs.OnStacks.{IsStack-stack}
use Rattle.velo_filter.proofs.OnTables.{is_listed-nil}
use Rattle.velo_filter.proofs.OnThinned.{AreMarks-start, first_places-stays, first_of_rest-stays, first_places-goes, first_of_rest-goes, first_of_rest-all}
use Rattle.velo_laws.specs.Cut.{IsQuiet}
use Rattle.velo_laws.specs.Restart.{HasNoBegin}
use Rattle.velo_laws.proofs.OnRestart.{prologue_law}
use Rattle.velo_audit.specs.Audit.{CheckTells, RoundTells}
use Rattle.velo_audit.specs.Cut.{AreBegun, IsCut, GoesTo, EndsAt}
use Rattle.velo_audit.specs.declared.cut.Cut.{Cut}
use Rattle.velo_audit.specs.declared.told.Told.{Told}
use Rattle.velo_audit.proofs.OnAnswers.{RoundTells-check, map_same}
use Rattle.velo_audit.proofs.OnPieces.{no_cycle-behind, quiet-behind, IsToldOf-piece}
use Rattle.velo_audit.proofs.OnRounds.{is_listed-cases}

-- ---- at the start

no_begin-nil : HasNoBegin []
no_begin-nil i = false_from_ne_true _ (λ h. absurd (let l = passes_at-within [] (λ e. is_begin e.kind) i h in omega (arith, l)))

pub IsCut-start : (left : Omitted) (log : List Event) (cut : Cut) → cut.place ≡ 0 → cut.marks.items ≡ replicate 256 0 → cut.prologue.events ≡ [] → IsCut left log cut
IsCut-start left log cut place marks prologue =
    let law = prologue_law [] no_begin-nil in
    record {
      within = omega (arith, place);
      quiet = subst (λ n. IsQuiet (first_of_rest left log n)) (sym place) law.1;
      no_cycle = subst (λ n. ¬ HasCycle (first_of_rest left log n)) (sym place) law.2;
      as_many = ap length marks ∙ length-replicate {A = ℕ} 256 0;
      marks = subst (λ n. AreMarks left log n cut.marks.items) (sym place) (subst (AreMarks left log 0) (sym marks) (AreMarks-start left log 256));
      no_begin = subst HasNoBegin (sym prologue) no_begin-nil;
      begun = record { each = λ b e l below here label. absurd (omega (arith, below, place)) };
    }

-- ---- labels that are not begun before a place change nothing before it

not_listed : (begun : ℕ → Bool) (blocks : List Block) (l : ℕ) → All (λ (b : Block). IsFalse (begun b.label.0)) blocks → IsTrue (begun l) → IsFalse (is_listed (map (λ (b : Block). b.label.0) blocks) l)
not_listed begun [] l all h = is_listed-nil l
not_listed begun (b ∷ bs) l all h = false_from_ne_true _ (λ w. ⊎_elim
    (λ same. both_ways _ (all 0 b (omega arith)) (ap begun same ∙ h))
    (λ later. both_ways _ (not_listed begun bs l (λ k d m. all (suc k) d (omega (arith, m))) h) later)
    (is_listed-cases b.label.0 (map (λ (b : Block). b.label.0) bs) l w))

or_false : (a b : Bool) → IsFalse b → (a || b) ≡ a
or_false true b h = refl
or_false false b h = h

module _ (left : Omitted) (labels : List ℕ) (log : List Event) (n : ℕ) (most : n ≤ length log) (same : (b : ℕ) → b < n → is_dissolved (with_labels left labels) log b ≡ is_dissolved left log b) where
  abbrev left' : Omitted
  left' = with_labels left labels

  left_out-same : (i : ℕ) → i < n → is_left_out left' log i ≡ is_left_out left log i
  unfolding is_left_out
  left_out-same i l =
      ap (λ x. x || any_below i (λ b. is_dissolved left' log b && ends_at log b i) || passes_at log (is_on_such left) i) (same i l)
      ∙ ap (λ x. is_dissolved left log i || x || passes_at log (is_on_such left) i)
      (any_below-same i _ _ (λ b m. ap (λ x. x && ends_at log b i) (same b (omega (arith, l, m)))))

  stays-same : (i : ℕ) → i < n → stays left' log i ≡ stays left log i
  stays-same i l = ap not (left_out-same i l)

  staying-same : (m : ℕ) → m ≤ n → staying (stays left' log) m ≡ staying (stays left log) m
  staying-same zero l = refl
  staying-same (suc m) l =
      let before = staying-same m (omega (arith, l)) in
      let here = stays-same m (omega (arith, l)) in
      ⊎_elim
      (λ h. staying-stays (stays left' log) m (here ∙ h) ∙ (ap (λ xs. xs ++ m ∷ []) before ∙ sym (staying-stays (stays left log) m h)))
      (λ h. staying-goes (stays left' log) m (here ∙ h) ∙ (before ∙ sym (staying-goes (stays left log) m h)))
      (cases_Bool (stays left log m))

  first_of_rest-same : first_of_rest left' log n ≡ first_of_rest left log n
  first_of_rest-same = ap (λ xs. filter_map (slice_get log) xs) (staying-same n (omega arith))

  AreMarks-same_labels : (rows : List ℕ) → AreMarks left log n rows → AreMarks left' log n rows
  AreMarks-same_labels rows w = record {
    each = λ t l. w.each t l ∙ ap number_of (sym (map_same (is_dissolved left' log) (is_dissolved left log) (stack log t n)
        (λ b c. same b ((IsStack-stack log t n most).below c.0 b (slice_get-get_or (stack log t n) c.0 b c.1 ∙ ap Some c.2)))));
  }

module _ (left : Omitted) (log : List Event) (cut : Cut) (w : IsCut left log cut) (blocks : List Block) (new : All (λ (b : Block). IsFalse (members cut.begun b.label.0)) blocks) where
  abbrev labels : List ℕ
  labels = map (λ (b : Block). b.label.0) blocks

  dissolved-same : (b : ℕ) → b < cut.place → is_dissolved (with_labels left labels) log b ≡ is_dissolved left log b
  unfolding is_dissolved
  dissolved-same b l =
      let e = event_at log b (let m = w.within in omega (arith, l, m)) in
      passes_at-is log (begins_such (with_labels left labels)) b e.0 e.1
      ∙ (by_label (label_begun e.0.kind) (λ n label. w.begun.each b e.0 n l e.1 label)
      ∙ sym (passes_at-is log (begins_such left) b e.0 e.1))
    where
      by_label : (o : Option ℕ) → ((n : ℕ) → o ≡ Some n → IsTrue (members cut.begun n)) → is_among (with_labels left labels).labels o ≡ is_among left.labels o
      by_label None h = refl
      by_label (Some n) h = or_false (left.labels n) (is_listed labels n) (not_listed (members cut.begun) blocks n new (h n refl))

  pub IsCut-follow : IsCut (with_labels left labels) log cut
  IsCut-follow = record {
    within = w.within;
    quiet = subst IsQuiet (sym (first_of_rest-same left labels log cut.place w.within dissolved-same)) w.quiet;
    no_cycle = subst (λ es. ¬ HasCycle es) (sym (first_of_rest-same left labels log cut.place w.within dissolved-same)) w.no_cycle;
    as_many = w.as_many;
    marks = AreMarks-same_labels left labels log cut.place w.within dissolved-same cut.marks.items w.marks;
    no_begin = w.no_begin;
    begun = w.begun;
  }

-- ---- labels that are begun, one position more

AreBegun-more : (begun begun' : ℕ → Bool) (log : List Event) (n : ℕ) → n < length log → AreBegun begun log n → ((l : ℕ) → IsTrue (begun l) → IsTrue (begun' l))
    → ((l : ℕ) → label_begun (get_or log n past).kind ≡ Some l → IsTrue (begun' l)) → AreBegun begun' log (n + 1)
AreBegun-more begun begun' log n within w keeps last = record {
  each = λ b e l below here label. ⊎_elim
      (λ before. keeps l (w.each b e l before here label))
      (λ at.
      let same : b ≡ n = omega (arith, below, at) in
      let event = same_Some e (get_or log n past) (sym here ∙ (ap (slice_get log) same ∙ slice_get-get_or log n past within)) in
      last l (ap (λ (f : Event). label_begun f.kind) (sym event) ∙ label))
      (cases_lt b n);
}

pub AreBegun-none : (begun : ℕ → Bool) (log : List Event) (n : ℕ) → n < length log → AreBegun begun log n → label_begun (get_or log n past).kind ≡ None → AreBegun begun log (n + 1)
AreBegun-none begun log n within w none = AreBegun-more begun begun log n within w (λ l h. h) (λ l label. absurd (none-some l (sym none ∙ label)))

pub AreBegun-label : (begun begun' : ℕ → Bool) (log : List Event) (n : ℕ) → n < length log → AreBegun begun log n → (l : Label) → (get_or log n past).kind ≡ Begin l → begun' ≡ with_number begun l.0 → AreBegun begun' log (n + 1)
AreBegun-label begun begun' log n within w l is more = AreBegun-more begun begun' log n within w
    (λ k h. ap (λ (f : ℕ → Bool). f k) more ∙ or_left (begun k) _ h)
    (λ k label.
    let same : l.0 ≡ k = same_Some l.0 k (sym (ap label_begun is) ∙ label) in
    ap (λ (f : ℕ → Bool). f k) more ∙ or_right (begun k) _ (eq-eqb k l.0 (sym same)))

-- ---- pieces

pub GoesTo-none : (left : Omitted) (log : List Event) (place n : ℕ) (prologue trace : List Event) (places : List ℕ) → n ≡ place → trace ≡ prologue → length places ≡ length prologue → GoesTo left log place n prologue trace places
GoesTo-none left log place n prologue trace places at is many = record {
  blanks = places;
  events = [];
  own = [];
  as_many = many;
  trace_is = is ∙ sym (append-nil prologue);
  places_are = sym (append-nil places);
  events_are = ap (first_of_rest left log) at ∙ sym (append-nil (first_of_rest left log place));
  own_are = ap (first_places left log) at ∙ sym (append-nil (first_places left log place));
}

module _ (left : Omitted) (log : List Event) (place n : ℕ) (prologue trace : List Event) (places : List ℕ) (within : n < length log) (w : GoesTo left log place n prologue trace places) where
  pub GoesTo-stays : IsTrue (not (is_left_out left log n)) → (trace' : List Event) (places' : List ℕ) → trace' ≡ trace ++ get_or log n past ∷ [] → places' ≡ places ++ n ∷ [] → GoesTo left log place (n + 1) prologue trace' places'
  GoesTo-stays h trace' places' is are = record {
    blanks = w.blanks;
    events = w.events ++ get_or log n past ∷ [];
    own = w.own ++ n ∷ [];
    as_many = w.as_many;
    trace_is = is ∙ (ap (λ es. es ++ get_or log n past ∷ []) w.trace_is ∙ append_assoc prologue w.events (get_or log n past ∷ []));
    places_are = are ∙ (ap (λ xs. xs ++ n ∷ []) w.places_are ∙ append_assoc w.blanks w.own (n ∷ []));
    events_are = sym (first_of_rest-stays left log n within h) ∙ (ap (λ es. es ++ get_or log n past ∷ []) w.events_are ∙ append_assoc (first_of_rest left log place) w.events (get_or log n past ∷ []));
    own_are = sym (first_places-stays left log n within h) ∙ (ap (λ xs. xs ++ n ∷ []) w.own_are ∙ append_assoc (first_places left log place) w.own (n ∷ []));
  }

  pub GoesTo-goes : IsFalse (not (is_left_out left log n)) → (trace' : List Event) (places' : List ℕ) → trace' ≡ trace → places' ≡ places → GoesTo left log place (n + 1) prologue trace' places'
  GoesTo-goes h trace' places' is are = record {
    blanks = w.blanks;
    events = w.events;
    own = w.own;
    as_many = w.as_many;
    trace_is = is ∙ w.trace_is;
    places_are = are ∙ w.places_are;
    events_are = sym (first_of_rest-goes left log n within h) ∙ w.events_are;
    own_are = sym (first_places-goes left log n within h) ∙ w.own_are;
  }

pub GoesTo-as_many : (left : Omitted) (log : List Event) (place n : ℕ) (prologue trace : List Event) (places : List ℕ) → place ≤ length log → n ≤ length log → GoesTo left log place n prologue trace places → length places ≡ length trace
GoesTo-as_many left log place n prologue trace places most most' w =
    let a = ap length w.trace_is in
    let b = ap length w.places_are in
    let c = length-append prologue w.events in
    let d = length-append w.blanks w.own in
    let e = own_as_many in
    let f = w.as_many in
    omega (arith, a, b, c, d, e, f)
  where
    own_as_many : length w.own ≡ length w.events
    own_as_many =
        let a = ap length w.events_are in
        let b = ap length w.own_are in
        let c = length-append (first_of_rest left log place) w.events in
        let d = length-append (first_places left log place) w.own in
        let e = length-events_staying log (stays left log) place most in
        let f = length-staying (stays left log) place in
        let g = length-events_staying log (stays left log) n most' in
        let h = length-staying (stays left log) n in
        omega (arith, a, b, c, d, e, f, g, h)

-- ---- behind a piece

module _ (left : Omitted) (log : List Event) (cut : Cut) (w : IsCut left log cut) (end : ℕ) (marks : List ℕ) (trace : List Event) (places : List ℕ) (v : EndsAt left log cut end marks trace places) where
  abbrev prologue : List Event
  prologue = cut.prologue.events

  abbrev before : List Event
  before = first_of_rest left log cut.place

  abbrev events : List Event
  events = v.goes.events

  quiet : IsQuiet prologue
  quiet = (prologue_law prologue w.no_begin).1

  none : ¬ HasCycle prologue
  none = (prologue_law prologue w.no_begin).2

  no_cycle : ¬ HasCycle trace → ¬ HasCycle (first_of_rest left log end)
  no_cycle h = subst (λ es. ¬ HasCycle es) (sym v.goes.events_are) (no_cycle-behind prologue before events quiet w.quiet w.no_cycle (subst (λ es. ¬ HasCycle es) v.goes.trace_is h))

  -- the last one has no cycle
  pub RoundTells-none : (with_witness : Bool) → end ≡ length log → ¬ HasCycle trace → RoundTells with_witness log left None
  RoundTells-none with_witness last h = subst (λ es. ¬ HasCycle es) (ap (first_of_rest left log) last ∙ first_of_rest-all left log) (no_cycle h)

  -- another has none, and leaves no block open
  pub IsCut-moved : ¬ HasCycle trace → IsQuiet trace → (cut' : Cut) → cut'.place ≡ end → cut'.marks.items ≡ marks → HasNoBegin cut'.prologue.events → AreBegun (members cut'.begun) log end → IsCut left log cut'
  IsCut-moved h ended cut' at same no_begin begun = record {
    within = let m = v.within in omega (arith, at, m);
    quiet = subst (λ n. IsQuiet (first_of_rest left log n)) (sym at) (subst IsQuiet (sym v.goes.events_are)
        (quiet-behind prologue before events quiet w.quiet (subst IsQuiet v.goes.trace_is ended)));
    no_cycle = subst (λ n. ¬ HasCycle (first_of_rest left log n)) (sym at) (no_cycle h);
    as_many = ap length same ∙ v.as_many;
    marks = subst (λ n. AreMarks left log n cut'.marks.items) (sym at) (subst (AreMarks left log end) (sym same) v.marks_are);
    no_begin = no_begin;
    begun = subst (AreBegun (members cut'.begun) log) (sym at) begun;
  }

  -- what is left goes on behind it
  rest : (before ++ events) ++ drop (rank (stays left log) end) (rest_of left log) ≡ rest_of left log
  rest =
      ap (λ es. es ++ drop (rank (stays left log) end) (rest_of left log))
      (sym (ap (take (rank (stays left log) end)) (rest_of-is left log) ∙ (take-events_staying log (stays left log) end (length log) v.within (omega arith) ∙ v.goes.events_are)))
      ∙ take-append-drop (rank (stays left log) end) (rest_of left log)

  all_places : (first_places left log cut.place ++ v.goes.own) ++ drop (rank (stays left log) end) (places_of left log) ≡ places_of left log
  unfolding places_of
  all_places =
      ap (λ xs. xs ++ drop (rank (stays left log) end) (places_of left log))
      (sym (take-staying (stays left log) end (length log) v.within ∙ v.goes.own_are))
      ∙ take-append-drop (rank (stays left log) end) (places_of left log)

  same_place : (k : ℕ) → k < length events → slice_index (v.goes.blanks ++ v.goes.own) (length prologue + k) ≡ slice_index (places_of left log) (length before + k)
  same_place k l =
      ap (λ m. get_or (v.goes.blanks ++ v.goes.own) (m + k) 0) (sym v.goes.as_many)
      ∙ (get_or-append-add v.goes.blanks v.goes.own k 0
      ∙ (sym (get_or-append-add (first_places left log cut.place) v.goes.own k 0)
      ∙ (ap (λ m. get_or (first_places left log cut.place ++ v.goes.own) (m + k) 0) (sym firsts)
      ∙ (sym (get_or_append_left (first_places left log cut.place ++ v.goes.own) (drop (rank (stays left log) end) (places_of left log)) 0 (length before + k) inside)
      ∙ ap (λ xs. get_or xs (length before + k) 0) all_places))))
    where
      firsts : length before ≡ length (first_places left log cut.place)
      firsts = let a = length-events_staying log (stays left log) cut.place w.within in let b = length-staying (stays left log) cut.place in omega (arith, a, b)

      inside : length before + k < length (first_places left log cut.place ++ v.goes.own)
      inside =
          let a = ap length v.goes.events_are in
          let b = ap length v.goes.own_are in
          let c = length-append before events in
          let g = length-events_staying log (stays left log) end v.within in
          let h = length-staying (stays left log) end in
          omega (arith, a, b, c, g, h, l)

  -- an alarm of it is that of the round
  pub RoundTells-some : (with_witness : Bool) (told : Told) → CheckTells with_witness trace places (Some told) → RoundTells with_witness log left (Some told)
  RoundTells-some with_witness told h = RoundTells-check with_witness log left (rest_of left log) (places_of left log) refl refl (Some told)
      (subst (λ es. CheckTells with_witness es (places_of left log) (Some told)) rest
      (IsToldOf-piece with_witness prologue before events (drop (rank (stays left log) end) (rest_of left log)) quiet none w.quiet w.no_cycle v.goes.blanks v.goes.own (places_of left log) same_place told
      (subst (λ es. CheckTells with_witness es (v.goes.blanks ++ v.goes.own) (Some told)) v.goes.trace_is
      (subst (λ xs. CheckTells with_witness trace xs (Some told)) v.goes.places_are h))))
