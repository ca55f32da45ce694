-- What a search finds out of scripts with other numbers, in smaller bounds, is so of the scripts.
use Rattle.std.proofs.Common.{◌≡◌, ℕ, ◌*◌, ◌<◌, ◌≤◌, Bool, List, [], ◌∷◌, length, map, Option, Some, None, refl, sym, ap, ◌∙◌, subst, arith, ⊎_elim, inl, inr}
use Rattle.std.specs.Prelude.{◌^◌, IfSome, option_map, slice_get}
use Rattle.std.proofs.lemmas.List.{length-map}
use Rattle.std.proofs.lemmas.Option.{slice_get-map, same_Some, none-some}
use Rattle.velo_events.specs.declared.config.Bounds.{Bounds}
use Rattle.velo_events.specs.declared.event.Event.{Event}
use Rattle.velo_events.specs.declared.event.Kind.{Kind}
use Rattle.velo_events.specs.declared.event.Kind.TheVariants.{Read, Write, Acquire, Release, AcquireShared, ReleaseShared, Begin, End, Fork, Join, Exit}
use Rattle.velo_events.specs.declared.event.ThreadId.{ThreadId}
use Rattle.velo_filter.specs.Left.{Omitted, rest_of}
use Rattle.velo_search.specs.declared.found.Found.{Found}
use Rattle.velo_search.specs.declared.naming.Naming.{Naming}
use Rattle.velo_search.specs.declared.schedules.Schedules.{Schedules}
use Rattle.velo_search.specs.Faults.{Fault, Cycle, IsFault}
use Rattle.velo_search.specs.Fitting.{AreAlike}
use Rattle.velo_search.specs.Names.{numbers_back, numbers_of, IsNamingOf}
use Rattle.velo_search.specs.Naming.{AreExchanged, LeadBack, Numbers, renamed, renamed_kind, renamed_log, renamed_scripts}
use Rattle.velo_search.specs.Parts.{Part, rest_by, AreParts, ArePartsOf}
use Rattle.velo_search.specs.Plain.{plain_kind}
use Rattle.velo_search.specs.Runs.{script_of, IsRunOf, Never, NeverWithin}
use Rattle.velo_search.specs.Search.{ArePlain, AreShort, IsSearchCut, IsTrueOf, ways}
use Rattle.velo_search.specs.Trail.{LeadToCycles, LeadsTo, turns_of}
use Rattle.velo_search.proofs.OnFitting.{AreAlike-back, IsFault-alike, IsRunOf-alike}
use Rattle.velo_search.proofs.OnPartsOf.{parts-of_runs, rest-same}
use Rattle.velo_search.proofs.OnRenamedParts.{omitted_back, rest_by-renamed, ArePartsOf-renamed}
use Rattle.velo_search.proofs.OnRenamedRuns.{IsFault-renamed, IsRunOf-renamed, script-renamed}

-- ---- the numbers of a naming

pub exchanged-of : (bounds : Bounds) (names : Naming) → IsNamingOf bounds names → AreExchanged bounds (numbers_of names) (numbers_back names)
exchanged-of bounds names count = record {
  back = record { variable = names.variables.paired.returns; lock = names.locks.paired.returns };
  forth = record { variable = names.variables.paired.gives; lock = names.locks.paired.gives };
  within = record {
    variable = λ x l. let below = names.variables.paired.within x (let n = count.variables in omega (arith, l, n)) in let n = count.variables in omega (arith, below, n);
    lock = λ x l. let below = names.locks.paired.within x (let n = count.locks in omega (arith, l, n)) in let n = count.locks in omega (arith, below, n);
  };
  within_back = record {
    variable = λ x l. let below = names.variables.paired.within_back x (let n = count.variables in omega (arith, l, n)) in let n = count.variables in omega (arith, below, n);
    lock = λ x l. let below = names.locks.paired.within_back x (let n = count.locks in omega (arith, l, n)) in let n = count.locks in omega (arith, below, n);
  };
}

-- ---- back to the scripts

module _ (ns back : Numbers) (undone : LeadBack ns back) where
  undone-kind : (k : Kind) → renamed_kind back (renamed_kind ns k) ≡ k
  undone-kind (Read x v) = ap (λ n. Read (record { 0 = n }) v) (undone.variable x.0)
  undone-kind (Write x v) = ap (λ n. Write (record { 0 = n }) v) (undone.variable x.0)
  undone-kind (Acquire m) = ap (λ n. Acquire (record { 0 = n })) (undone.lock m.0)
  undone-kind (Release m) = ap (λ n. Release (record { 0 = n })) (undone.lock m.0)
  undone-kind (AcquireShared m) = ap (λ n. AcquireShared (record { 0 = n })) (undone.lock m.0)
  undone-kind (ReleaseShared m) = ap (λ n. ReleaseShared (record { 0 = n })) (undone.lock m.0)
  undone-kind (Begin l) = refl
  undone-kind End = refl
  undone-kind (Fork u) = refl
  undone-kind (Join u) = refl
  undone-kind Exit = refl

  undone-script : (kinds : List Kind) → map (renamed_kind back) (map (renamed_kind ns) kinds) ≡ kinds
  undone-script [] = refl
  undone-script (k ∷ ks) = ap (λ l. l ∷ map (renamed_kind back) (map (renamed_kind ns) ks)) (undone-kind k) ∙ ap (λ ls. k ∷ ls) (undone-script ks)

  pub undone-scripts : (scripts : List (List Kind)) → renamed_scripts back (renamed_scripts ns scripts) ≡ scripts
  undone-scripts [] = refl
  undone-scripts (ks ∷ rest) = ap (λ ls. ls ∷ renamed_scripts back (renamed_scripts ns rest)) (undone-script ks) ∙ ap (λ lists. ks ∷ lists) (undone-scripts rest)

turns-renamed : (ns : Numbers) (log : List Event) → turns_of (renamed_log ns log) ≡ turns_of log
turns-renamed ns [] = refl
turns-renamed ns (e ∷ es) = ap (λ ts. e.thread ∷ ts) (turns-renamed ns es)

plain-renamed : (ns : Numbers) (k : Kind) → plain_kind k ≡ k → plain_kind (renamed_kind ns k) ≡ renamed_kind ns k
plain-renamed ns (Read x v) h = ap (renamed_kind ns) h
plain-renamed ns (Write x v) h = ap (renamed_kind ns) h
plain-renamed ns (Acquire m) h = refl
plain-renamed ns (Release m) h = refl
plain-renamed ns (AcquireShared m) h = refl
plain-renamed ns (ReleaseShared m) h = refl
plain-renamed ns (Begin l) h = refl
plain-renamed ns End h = refl
plain-renamed ns (Fork u) h = refl
plain-renamed ns (Join u) h = refl
plain-renamed ns Exit h = refl

-- ---- a search

-- those scripts are the scripts with other numbers, the bounds that are needed name as much for them, and the parts are those of
-- the scripts
pub record AreSearchedAs (bounds needed : Bounds) (ns back : Numbers) (scripts those : List (List Kind)) (left : Omitted) (parts : ℕ → ℕ → Part) : Type 0 where
  pub exchanged : AreExchanged bounds ns back
  pub same : those ≡ renamed_scripts ns scripts
  pub alike : AreAlike bounds needed those
  pub are_parts : ArePartsOf left scripts parts

module _ (bounds needed : Bounds) (ns back : Numbers) (scripts those : List (List Kind)) (left : Omitted) (parts : ℕ → ℕ → Part) (is : AreSearchedAs bounds needed ns back scripts those left parts) where
  exchanged_back : AreExchanged bounds back ns
  exchanged_back = record { back = is.exchanged.forth; forth = is.exchanged.back; within = is.exchanged.within_back; within_back = is.exchanged.within }

  alike_back : AreAlike needed bounds those
  alike_back = AreAlike-back bounds needed those is.alike

  undone : renamed_scripts back those ≡ scripts
  undone = ap (renamed_scripts back) is.same ∙ undone-scripts ns back is.exchanged.back scripts

  -- each run of the scripts is one of those, and each run of those is one of the scripts
  run-there : (log : List Event) → IsRunOf bounds scripts log → IsRunOf bounds those (renamed_log ns log)
  run-there log run = subst (λ s. IsRunOf bounds s (renamed_log ns log)) (sym is.same) (IsRunOf-renamed bounds ns back is.exchanged scripts log run)

  -- the same is left of both, but for the numbers
  rest-there : (log : List Event) → IsRunOf bounds scripts log → rest_by parts (renamed_log ns log) ≡ renamed_log ns (rest_of left log)
  rest-there log run = rest_by-renamed parts ns log ∙ ap (renamed_log ns) (rest-same left bounds scripts parts is.are_parts log run)

  fault-there : (fault : Fault) (log : List Event) → IsRunOf bounds scripts log → IsFault bounds scripts (rest_of left) fault log → IsFault needed those (rest_by parts) fault (renamed_log ns log)
  fault-there fault log run bad =
      IsFault-alike bounds needed those is.alike (rest_by parts) fault (renamed_log ns log) (run-there log run)
      (subst (λ s. IsFault bounds s (rest_by parts) fault (renamed_log ns log)) (sym is.same) (IsFault-renamed bounds ns back is.exchanged scripts (rest_of left) (rest_by parts) fault log run (rest-there log run) bad))

  run-here : (log : List Event) → IsRunOf needed those log → IsRunOf bounds scripts (renamed_log back log)
  run-here log run =
      subst (λ s. IsRunOf bounds s (renamed_log back log)) undone
      (IsRunOf-renamed bounds back ns exchanged_back those log (IsRunOf-alike needed bounds those alike_back log run))

  rest-here : (log : List Event) → IsRunOf needed those log → rest_of left (renamed_log back log) ≡ renamed_log back (rest_by parts log)
  rest-here log run = sym (rest-same left bounds scripts parts is.are_parts (renamed_log back log) (run-here log run)) ∙ rest_by-renamed parts back log

  fault-here : (fault : Fault) (log : List Event) → IsRunOf needed those log → IsFault needed those (rest_by parts) fault log → IsFault bounds scripts (rest_of left) fault (renamed_log back log)
  fault-here fault log run bad =
      subst (λ s. IsFault bounds s (rest_of left) fault (renamed_log back log)) undone
      (IsFault-renamed bounds back ns exchanged_back those (rest_by parts) (rest_of left) fault log (IsRunOf-alike needed bounds those alike_back log run) (rest-here log run)
      (IsFault-alike needed bounds those alike_back (rest_by parts) fault log run bad))

  -- ---- what is asked of those

  pub plain-those : ArePlain scripts → ArePlain those
  plain-those plain = subst ArePlain (sym is.same) there
    where
      there : ArePlain (renamed_scripts ns scripts)
      there t i k due = at (slice_get (script_of scripts t) i) refl
        where
          found : option_map (renamed_kind ns) (slice_get (script_of scripts t) i) ≡ Some k
          found = sym (slice_get-map (renamed_kind ns) (script_of scripts t) i) ∙ (ap (λ ks. slice_get ks i) (sym (script-renamed bounds ns back is.exchanged scripts t)) ∙ due)

          at : (o : Option Kind) → slice_get (script_of scripts t) i ≡ o → plain_kind k ≡ k
          at None is = absurd (none-some k (ap (option_map (renamed_kind ns)) (sym is) ∙ found))
          at (Some l) is = subst (λ j. plain_kind j ≡ j) (same_Some (renamed_kind ns l) k (ap (option_map (renamed_kind ns)) (sym is) ∙ found)) (plain-renamed ns l (plain t i l is))

  pub short-those : AreShort scripts → AreShort those
  short-those short = subst AreShort (sym is.same) (λ t.
      subst (λ n. n < 2 ^ 32) (sym (ap length (script-renamed bounds ns back is.exchanged scripts t) ∙ length-map (script_of scripts t) (renamed_kind ns))) (short t))

  -- what is left of them is found by the parts
  pub parts-those : AreParts needed those parts
  parts-those = parts-of_runs (omitted_back back left) needed those parts
      (subst (λ s. ArePartsOf (omitted_back back left) s parts) (sym is.same) (ArePartsOf-renamed left ns back is.exchanged.back scripts parts (script-renamed bounds ns back is.exchanged scripts) is.are_parts))

  -- ---- what is found out of those

  pub true-here : (found : Found) → IsTrueOf needed those (rest_by parts) found → IsTrueOf bounds scripts (rest_of left) found
  true-here found all = λ fault has.
      let some = all fault has in
      record { log = renamed_log back some.log; run = run-here some.log some.run; bad = fault-here fault some.log some.run some.bad }

  pub never-here : (fault : Fault) → Never (IsFault needed those (rest_by parts) fault) needed those [] → Never (IsFault bounds scripts (rest_of left) fault) bounds scripts []
  never-here fault never = λ more run bad.
      never (renamed_log ns more) (IsRunOf-alike bounds needed those is.alike (renamed_log ns more) (run-there more run)) (fault-there fault more run bad)

  never_within-here : (n : ℕ) (fault : Fault) → NeverWithin n (IsFault needed those (rest_by parts) fault) needed those [] → NeverWithin n (IsFault bounds scripts (rest_of left) fault) bounds scripts []
  never_within-here n fault never = λ more few run bad.
      never (renamed_log ns more) (let long = length-map more (renamed ns) in omega (arith, few, long)) (IsRunOf-alike bounds needed those is.alike (renamed_log ns more) (run-there more run)) (fault-there fault more run bad)

  leads-here : (fault : Fault) (turns : List ThreadId) → LeadsTo needed those (rest_by parts) fault turns → LeadsTo bounds scripts (rest_of left) fault turns
  leads-here fault turns leads = record {
    log = renamed_log back leads.log;
    run = run-here leads.log leads.run;
    by = turns-renamed back leads.log ∙ leads.by;
    bad = fault-here fault leads.log leads.run leads.bad;
  }

  pub shown-here : (fault : Fault) (turns : Option (List ThreadId)) → IfSome turns (LeadsTo needed those (rest_by parts) fault) → IfSome turns (LeadsTo bounds scripts (rest_of left) fault)
  shown-here fault None none = none
  shown-here fault (Some turns) leads = leads-here fault turns leads

  pub alarms-here : (first : Bool) (shown : Schedules) → LeadToCycles needed those (rest_by parts) first shown → LeadToCycles bounds scripts (rest_of left) first shown
  alarms-here first shown all = record {
    lead = λ i d l. leads-here Cycle _ (all.lead i d l);
    few = all.few;
    none = all.none;
    some = all.some;
  }

  pub cut-here : (most : ℕ) (first over : Bool) (found : Found) (states : ℕ) → IsSearchCut needed those (rest_by parts) most first over found states → IsSearchCut bounds scripts (rest_of left) most first over found states
  cut-here most first over found states cut = ⊎_elim
      (λ ended. inl ended)
      (λ rest. ⊎_elim (λ says. inr (inl says)) (λ spent. inr (inr (record {
        all = subst (λ n. most ≤ states * n) (sym is.alike.threads) spent.all;
        events = spent.events;
        tried = record {
          none = λ fault has. never_within-here spent.events fault (spent.tried.none fault has);
          few = subst (λ n. states ≤ ways n spent.events) (sym is.alike.threads) spent.tried.few;
        };
      }))) rest)
      cut
