-- The rows of a table: what is looked up in them, and what they have with one more number.
use Rattle.std.proofs.Common.{◌≡◌, ℕ, ◌+◌, ◌<◌, ◌≤◌, arith, max, Bool, List, length, get_or, set, Option, Some, None, refl, sym, ap, ◌∙◌, subst, ⊎_elim}
use Rattle.std.specs.Prelude.{⊤, ◌⊎◌, ◌||◌, slice_get}
use Rattle.std.proofs.lemmas.List.{get_or_default, length-set}
use Rattle.std.proofs.lemmas.Bool.{cases_lt, false≢true}
use Rattle.std.proofs.lemmas.Option.{same_Some, slice_get-get_or}
use Rattle.velo_events.specs.declared.event.Event.{Event}
use Rattle.velo_events.specs.declared.event.Cell.{Cell}
use Rattle.velo_events.specs.declared.event.ThreadId.{ThreadId}
use Rattle.velo_events.specs.declared.event.Access.{Access}
use Rattle.velo_events.specs.declared.event.Access.TheVariants.{Shared, Exclusive, Nothing}
use Rattle.velo_events.specs.About.{cell_written, cell_read, thread_in, forked_or_joined_in, written_in, read_in, is_about}
use Rattle.velo_events.specs.Event.{thread_of, access_of, forked_or_joined_of}
use Rattle.velo_events.specs.Conflict.{conflict}
use Rattle.velo_events.proofs.OnScans.{passes_at-event}
use Rattle.velo_events.proofs.OnConflicts.{is_near, conflict-read, conflict-write, conflict-fork, conflict-join, conflict-plain}
use Rattle.velo_traces.specs.Raised.{raised, recorded_in}
use Rattle.velo_traces.specs.Numbers.{Rows, IsGreatest, IsNumbered, IsRow, AreBlank, HasNumbers, IsLookedUp, IsChangeLookedUp, IsRecorded, strong_for}
use Rattle.velo_traces.specs.Places.{sizes, sizes_of, NamesPlaces, HasPlaces, AllHavePlaces}
use Rattle.velo_traces.proofs.OnGreatest.{IsGreatest-or, IsGreatest-same, IsRow-noted, IsRow-passed, IsRow-none}

-- a blank table, before there are numbers
pub HasNumbers-none : (trace : List Event) (numbers : ℕ → ℕ) (table : Rows) → ((i : ℕ) → i < length trace → numbers i ≡ 0) → AreBlank table → HasNumbers trace numbers table
HasNumbers-none trace numbers table none blank = record {
  threads = IsRow-none trace numbers none thread_in table.threads blank.threads;
  handles = IsRow-none trace numbers none forked_or_joined_in table.handles blank.handles;
  writes = IsRow-none trace numbers none written_in table.writes blank.writes;
  reads = IsRow-none trace numbers none read_in table.reads blank.reads;
}

-- ---- what is looked up

-- the number that was read in a row
pub IsRow-at : (trace : List Event) (numbers : ℕ → ℕ) (named : Event → Option ℕ) (row : List ℕ) (x a : ℕ) → x < length row → a ≡ get_or row x a → IsRow trace numbers named row → IsGreatest trace numbers (is_about named x) a
IsRow-at trace numbers named row x a within is w = subst (IsGreatest trace numbers (is_about named x)) (sym (is ∙ get_or_default row x a 0 within)) (w.each x within)

-- a and b are the numbers at the event's thread, and `near` the greater of them
module _ (table : Rows) (e : Event) (names : HasPlaces (sizes table) e) (a b near : ℕ) (first : a ≡ get_or table.threads (thread_of e) a) (second : b ≡ get_or table.handles (thread_of e) b) (both : near ≡ max a b) where
  IsGreatest-near : (trace : List Event) (numbers : ℕ → ℕ) → HasNumbers trace numbers table → IsGreatest trace numbers (is_near e) near
  IsGreatest-near trace numbers has =
      subst (IsGreatest trace numbers (is_near e)) (sym both)
      (IsGreatest-or trace numbers (is_about thread_in (thread_of e)) (is_about forked_or_joined_in (thread_of e)) a b
      (IsRow-at trace numbers thread_in table.threads (thread_of e) a names.thread first has.threads)
      (IsRow-at trace numbers forked_or_joined_in table.handles (thread_of e) b names.handle second has.handles))

  -- and with one number more
  look_up-with : (test : Event → Bool) (c result : ℕ) → ((f : Event) → (is_near e f || test f) ≡ conflict f e) → result ≡ max near c → ((trace : List Event) (numbers : ℕ → ℕ) → HasNumbers trace numbers table → IsGreatest trace numbers test c) → IsLookedUp table e result
  look_up-with test c result same is third = record {
    each = λ trace numbers has.
        IsGreatest-same trace numbers (λ f. is_near e f || test f) (λ f. conflict f e) result same
        (subst (IsGreatest trace numbers (λ f. is_near e f || test f)) (sym is) (IsGreatest-or trace numbers (is_near e) test near c (IsGreatest-near trace numbers has) (third trace numbers has)));
  }

  pub look_up-plain : access_of e.kind ≡ Nothing → IsLookedUp table e near
  look_up-plain plain = record {
    each = λ trace numbers has. IsGreatest-same trace numbers (is_near e) (λ f. conflict f e) near (λ f. conflict-plain f e plain) (IsGreatest-near trace numbers has);
  }

  pub look_up-read : (x : Cell) (c result : ℕ) → access_of e.kind ≡ Shared x → c ≡ get_or table.writes x.0 c → result ≡ max near c → IsLookedUp table e result
  look_up-read x c result kind there is =
      let places = subst (NamesPlaces (sizes table)) kind names.names in
      look_up-with (is_about written_in x.0) c result (λ f. conflict-read f e x kind) is (λ trace numbers has. IsRow-at trace numbers written_in table.writes x.0 c places.0 there has.writes)

  pub look_up-write : (x : Cell) (c some d result : ℕ) → access_of e.kind ≡ Exclusive x → c ≡ get_or table.writes x.0 c → some ≡ max near c → d ≡ get_or table.reads x.0 d → result ≡ max some d → IsLookedUp table e result
  look_up-write x c some d result kind there is also all_is = record {
    each = λ trace numbers has.
        let places = subst (NamesPlaces (sizes table)) kind names.names in
        let writes = subst (IsGreatest trace numbers (λ f. is_near e f || is_about written_in x.0 f)) (sym is)
        (IsGreatest-or trace numbers (is_near e) (is_about written_in x.0) near c (IsGreatest-near trace numbers has) (IsRow-at trace numbers written_in table.writes x.0 c places.0 there has.writes)) in
        IsGreatest-same trace numbers (λ f. (is_near e f || is_about written_in x.0 f) || is_about read_in x.0 f) (λ f. conflict f e) result (λ f. conflict-write f e x kind)
        (subst (IsGreatest trace numbers (λ f. (is_near e f || is_about written_in x.0 f) || is_about read_in x.0 f)) (sym all_is)
        (IsGreatest-or trace numbers (λ f. is_near e f || is_about written_in x.0 f) (is_about read_in x.0) some d writes (IsRow-at trace numbers read_in table.reads x.0 d places.1 also has.reads)));
  }

  pub look_up-handled : (u : ThreadId) (c result : ℕ) → (access_of e.kind ≡ Access.Fork u) ⊎ (access_of e.kind ≡ Access.Join u) → c ≡ get_or table.threads u.0 c → result ≡ max near c → IsLookedUp table e result
  look_up-handled u c result kind there is = ⊎_elim
      (λ k. let places = subst (NamesPlaces (sizes table)) k names.names in
      look_up-with (is_about thread_in u.0) c result (λ f. conflict-fork f e u k) is (λ trace numbers has. IsRow-at trace numbers thread_in table.threads u.0 c places.0 there has.threads))
      (λ k. let places = subst (NamesPlaces (sizes table)) k names.names in
      look_up-with (is_about thread_in u.0) c result (λ f. conflict-join f e u k) is (λ trace numbers has. IsRow-at trace numbers thread_in table.threads u.0 c places.0 there has.threads))
      kind

-- ---- what changes a thing

module _ (table : Rows) (e : Event) (places : HasPlaces (sizes table) e) (k : Access) (kind : access_of e.kind ≡ k) where
  looked_up_in : (named : Event → Option ℕ) (x a : ℕ) (row : List ℕ) → x < length row → a ≡ get_or row x a → ((f : Event) → is_about named x f ≡ strong_for k f) → ((trace : List Event) (numbers : ℕ → ℕ) → HasNumbers trace numbers table → IsRow trace numbers named row) → IsChangeLookedUp table e a
  looked_up_in named x a row within is same rows = record {
    each = λ trace numbers has.
        IsGreatest-same trace numbers (is_about named x) (strong_for (access_of e.kind)) a (λ f. same f ∙ ap (λ l. strong_for l f) (sym kind))
        (IsRow-at trace numbers named row x a within is (rows trace numbers has));
  }

-- the number that was read in a row, by what the event is about
pub change-written : (table : Rows) (e : Event) → HasPlaces (sizes table) e → (x : Cell) (a : ℕ) → (access_of e.kind ≡ Shared x) ⊎ (access_of e.kind ≡ Exclusive x) → a ≡ get_or table.writes x.0 a → IsChangeLookedUp table e a
change-written table e places x a kind is = ⊎_elim
    (λ k. looked_up_in table e places (Shared x) k written_in x.0 a table.writes (subst (NamesPlaces (sizes table)) k places.names).0 is (λ f. refl) (λ trace numbers has. has.writes))
    (λ k. looked_up_in table e places (Exclusive x) k written_in x.0 a table.writes (subst (NamesPlaces (sizes table)) k places.names).0 is (λ f. refl) (λ trace numbers has. has.writes))
    kind

pub change-handled : (table : Rows) (e : Event) → HasPlaces (sizes table) e → (u : ThreadId) (a : ℕ) → (access_of e.kind ≡ Access.Fork u) ⊎ (access_of e.kind ≡ Access.Join u) → a ≡ get_or table.threads u.0 a → IsChangeLookedUp table e a
change-handled table e places u a kind is = ⊎_elim
    (λ k. looked_up_in table e places (Access.Fork u) k thread_in u.0 a table.threads (subst (NamesPlaces (sizes table)) k places.names).0 is (λ f. refl) (λ trace numbers has. has.threads))
    (λ k. looked_up_in table e places (Access.Join u) k thread_in u.0 a table.threads (subst (NamesPlaces (sizes table)) k places.names).0 is (λ f. refl) (λ trace numbers has. has.threads))
    kind

-- a begin, an end or an exit is about nothing besides its thread
pub change-none : (table : Rows) (e : Event) → access_of e.kind ≡ Nothing → IsChangeLookedUp table e 0
change-none table e kind = record {
  each = λ trace numbers has. record {
    covers = λ i passes.
        let f = passes_at-event trace (strong_for (access_of e.kind)) i passes in
        absurd (false≢true (ap (λ k. strong_for k f.0) (sym kind) ∙ f.2));
    reached = λ some. absurd (omega (arith, some));
  };
}

-- ---- one more number

-- the thing is in the row
abbrev IsPlaced : List ℕ → Option ℕ → Type 0
IsPlaced row (Some x) = x < length row
IsPlaced row None = ⊤

IsRow-raised : (trace : List Event) (n : ℕ) (e : Event) → slice_get trace n ≡ Some e → (before after : ℕ → ℕ) (number : ℕ) → IsNumbered before after n number → (named : Event → Option ℕ) (o : Option ℕ) → named e ≡ o → (row : List ℕ) → IsPlaced row o → IsRow trace before named row → IsRow trace after named (raised row o number)
IsRow-raised trace n e here before after number step named (Some x) about row within w = IsRow-noted trace n e here before after number step named row x about within w
IsRow-raised trace n e here before after number step named None about row within w = IsRow-passed trace n e here before after number step named row about w

places-handled : (s : Rows) (k : Access) → NamesPlaces (sizes s) k → IsPlaced s.handles (forked_or_joined_of k)
places-handled s (Access.Fork u) h = h.1
places-handled s (Access.Join u) h = h.1
places-handled s _ h = tt

places-written : (s : Rows) (k : Access) → NamesPlaces (sizes s) k → IsPlaced s.writes (cell_written k)
places-written s (Exclusive x) h = h.0
places-written s _ h = tt

places-read : (s : Rows) (k : Access) → NamesPlaces (sizes s) k → IsPlaced s.reads (cell_read k)
places-read s (Shared x) h = h.1
places-read s _ h = tt

pub IsRecorded-in : (old : Rows) (e : Event) (number : ℕ) → HasPlaces (sizes old) e → IsRecorded old e number (recorded_in old e number)
IsRecorded-in old e number places = record {
  each = λ trace n before after here step has. record {
    threads = IsRow-raised trace n e here before after number step thread_in (thread_in e) refl old.threads places.thread has.threads;
    handles = IsRow-raised trace n e here before after number step forked_or_joined_in (forked_or_joined_in e) refl old.handles (places-handled old (access_of e.kind) places.names) has.handles;
    writes = IsRow-raised trace n e here before after number step written_in (written_in e) refl old.writes (places-written old (access_of e.kind) places.names) has.writes;
    reads = IsRow-raised trace n e here before after number step read_in (read_in e) refl old.reads (places-read old (access_of e.kind) places.names) has.reads;
  };
}

length-raised : (row : List ℕ) (o : Option ℕ) (number : ℕ) → length (raised row o number) ≡ length row
length-raised row (Some x) number = length-set row x (max (get_or row x 0) number)
length-raised row None number = refl

pub sizes-recorded_in : (old : Rows) (e : Event) (number : ℕ) → sizes (recorded_in old e number) ≡ sizes old
sizes-recorded_in old e number =
    let threads = length-raised old.threads (thread_in e) number in
    let handles = length-raised old.handles (forked_or_joined_in e) number in
    let writes = length-raised old.writes (written_in e) number in
    let reads = length-raised old.reads (read_in e) number in
    cc

-- ---- counts that grow

module _ (t c t' c' : ℕ) (threads : t ≤ t') (cells : c ≤ c') where
  names-more : (a : Access) → NamesPlaces (sizes_of t c) a → NamesPlaces (sizes_of t' c') a
  names-more (Shared d) h = (omega (arith, h.0, cells), omega (arith, h.1, cells))
  names-more (Exclusive d) h = (omega (arith, h.0, cells), omega (arith, h.1, cells))
  names-more (Access.Fork u) h = (omega (arith, h.0, threads), omega (arith, h.1, threads))
  names-more (Access.Join u) h = (omega (arith, h.0, threads), omega (arith, h.1, threads))
  names-more Nothing h = tt

  -- with one event more
  pub AllHavePlaces-next : (events : List Event) (i : ℕ) (d : Event) → i < length events → AllHavePlaces (sizes_of t c) events i → HasPlaces (sizes_of t' c') (get_or events i d) → AllHavePlaces (sizes_of t' c') events (i + 1)
  AllHavePlaces-next events i d within before fits = record {
    each = λ j e l here. ⊎_elim
        (λ under.
        let h = before.each j e under here in
        record { thread = omega (arith, h.thread, threads); handle = omega (arith, h.handle, threads); names = names-more (access_of e.kind) h.names })
        (λ above.
        let at : i ≡ j = omega (arith, above, l) in
        let same : get_or events i d ≡ e = same_Some _ e (sym (slice_get-get_or events i d within) ∙ subst (λ k. slice_get events k ≡ Some e) (sym at) here) in
        subst (HasPlaces (sizes_of t' c')) same fits)
        (cases_lt j i);
  }
