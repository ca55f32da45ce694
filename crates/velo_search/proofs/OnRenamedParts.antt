-- With other numbers for variables and locks the operations have the same parts, and the same is left but for the numbers.
use Rattle.std.proofs.Common.{◌≡◌, ℕ, Bool, true, false, not, List, [], ◌∷◌, ◌++◌, take, map, Option, Some, None, refl, sym, ap, ◌∙◌, arith, ⊎_elim}
use Rattle.std.specs.Prelude.{◌||◌, if◌then◌else◌, option_map, slice_get}
use Rattle.std.specs.List.{list_any}
use Rattle.std.proofs.lemmas.Bool.{cases_Bool}
use Rattle.std.proofs.lemmas.List.{take-map}
use Rattle.std.proofs.lemmas.Option.{slice_get-map, same_Some, none-some}
use Rattle.velo_events.specs.declared.event.Event.{Event}
use Rattle.velo_events.specs.declared.event.Kind.{Kind}
use Rattle.velo_events.specs.declared.event.Kind.TheVariants.{Read, Write, Acquire, Release, AcquireShared, ReleaseShared, Begin, End, Fork, Join, Exit}
use Rattle.velo_events.specs.Event.{thread_of, is_by}
use Rattle.velo_events.specs.Tally.{events_of}
use Rattle.velo_events.proofs.OnTraces.{times-yes, times-no}
use Rattle.velo_filter.specs.Left.{Omitted}
use Rattle.velo_search.specs.Naming.{LeadBack, Numbers, renamed, renamed_kind, renamed_log, renamed_scripts}
use Rattle.velo_search.specs.Parts.{Part, LeftOut, Outside, Inside, does_stay, is_out, open_after, open_from, open_behind, part_of, rest_behind, rest_by, ArePartsOf}
use Rattle.velo_search.specs.Runs.{script_of}

-- ---- what is left

module _ (parts : ℕ → ℕ → Part) (ns : Numbers) where
  one-renamed : (e : Event) (b : Bool) (xs ys : List Event) → xs ≡ renamed_log ns ys → ((if b then renamed ns e ∷ [] else []) ++ xs) ≡ renamed_log ns ((if b then e ∷ [] else []) ++ ys)
  one-renamed e true xs ys same = ap (λ es. renamed ns e ∷ es) same
  one-renamed e false xs ys same = same

  more-renamed : (one earlier : List Event) (e : Event) → ((t : ℕ) → events_of one t ≡ events_of earlier t) → (t : ℕ) → events_of (one ++ renamed ns e ∷ []) t ≡ events_of (earlier ++ e ∷ []) t
  more-renamed one earlier e same t = ⊎_elim
      (λ h. omega (arith, times-yes (is_by t) one (renamed ns e) h, times-yes (is_by t) earlier e h, same t))
      (λ h. omega (arith, times-no (is_by t) one (renamed ns e) h, times-no (is_by t) earlier e h, same t))
      (cases_Bool (is_by t e))

  rest_behind-renamed : (one earlier es : List Event) → ((t : ℕ) → events_of one t ≡ events_of earlier t) → rest_behind parts one (renamed_log ns es) ≡ renamed_log ns (rest_behind parts earlier es)
  unfolding rest_behind
  rest_behind-renamed one earlier [] same = refl
  rest_behind-renamed one earlier (e ∷ es) same =
      ap (λ n. (if does_stay (parts (thread_of e) n) then renamed ns e ∷ [] else []) ++ rest_behind parts (one ++ renamed ns e ∷ []) (renamed_log ns es)) (same (thread_of e))
      ∙ one-renamed e (does_stay (parts (thread_of e) (events_of earlier (thread_of e)))) (rest_behind parts (one ++ renamed ns e ∷ []) (renamed_log ns es)) (rest_behind parts (earlier ++ e ∷ []) es)
      (rest_behind-renamed (one ++ renamed ns e ∷ []) (earlier ++ e ∷ []) es (more-renamed one earlier e same))

  pub rest_by-renamed : (log : List Event) → rest_by parts (renamed_log ns log) ≡ renamed_log ns (rest_by parts log)
  rest_by-renamed log = rest_behind-renamed [] [] log (λ t. refl)

-- ---- the parts

-- the same is left out, with the numbers that lead back
abbrev pub omitted_back : Numbers → Omitted → Omitted
omitted_back back left = record { labels = left.labels; locks = λ m. left.locks (back.lock m); variables = λ x. left.variables (back.variable x) }

module _ (left : Omitted) (ns back : Numbers) (undone : LeadBack ns back) where
  after-renamed : (outs : List Bool) (k : Kind) → open_after (omitted_back back left) outs (renamed_kind ns k) ≡ open_after left outs k
  after-renamed outs (Read x v) = refl
  after-renamed outs (Write x v) = refl
  after-renamed outs (Acquire m) = refl
  after-renamed outs (Release m) = refl
  after-renamed outs (AcquireShared m) = refl
  after-renamed outs (ReleaseShared m) = refl
  after-renamed outs (Begin l) = refl
  after-renamed outs End = refl
  after-renamed outs (Fork u) = refl
  after-renamed outs (Join u) = refl
  after-renamed outs Exit = refl

  open-renamed : (outs : List Bool) (ks : List Kind) → open_from (omitted_back back left) outs (map (renamed_kind ns) ks) ≡ open_from left outs ks
  unfolding open_from
  open-renamed outs [] = refl
  open-renamed outs (k ∷ ks) = ap (λ os. open_from (omitted_back back left) os (map (renamed_kind ns) ks)) (after-renamed outs k) ∙ open-renamed (open_after left outs k) ks

  out-renamed : (outs : List Bool) (k : Kind) → is_out (omitted_back back left) outs (renamed_kind ns k) ≡ is_out left outs k
  out-renamed outs (Read x v) = ap (λ n. false || left.variables n) (undone.variable x.0)
  out-renamed outs (Write x v) = ap (λ n. false || left.variables n) (undone.variable x.0)
  out-renamed outs (Acquire m) = ap (λ n. left.locks n || false) (undone.lock m.0)
  out-renamed outs (Release m) = ap (λ n. left.locks n || false) (undone.lock m.0)
  out-renamed outs (AcquireShared m) = ap (λ n. left.locks n || false) (undone.lock m.0)
  out-renamed outs (ReleaseShared m) = ap (λ n. left.locks n || false) (undone.lock m.0)
  out-renamed outs (Begin l) = refl
  out-renamed outs End = refl
  out-renamed outs (Fork u) = refl
  out-renamed outs (Join u) = refl
  out-renamed outs Exit = refl

  part-renamed : (outs : List Bool) (k : Kind) → part_of (omitted_back back left) outs (renamed_kind ns k) ≡ part_of left outs k
  part-renamed outs k =
      ap (λ b. if b then LeftOut else (if list_any not (open_after (omitted_back back left) outs (renamed_kind ns k)) then Inside else Outside)) (out-renamed outs k)
      ∙ ap (λ os. if is_out left outs k then LeftOut else (if list_any not os then Inside else Outside)) (after-renamed outs k)

  pub ArePartsOf-renamed : (scripts : List (List Kind)) (parts : ℕ → ℕ → Part) → ((t : ℕ) → script_of (renamed_scripts ns scripts) t ≡ map (renamed_kind ns) (script_of scripts t)) →
      ArePartsOf left scripts parts → ArePartsOf (omitted_back back left) (renamed_scripts ns scripts) parts
  ArePartsOf-renamed scripts parts own are = record { each = each }
    where
      each : (t i : ℕ) (k : Kind) → slice_get (script_of (renamed_scripts ns scripts) t) i ≡ Some k →
          parts t i ≡ part_of (omitted_back back left) (open_behind (omitted_back back left) (take i (script_of (renamed_scripts ns scripts) t))) k
      each t i k due = at (slice_get (script_of scripts t) i) refl
        where
          found : option_map (renamed_kind ns) (slice_get (script_of scripts t) i) ≡ Some k
          found = sym (slice_get-map (renamed_kind ns) (script_of scripts t) i) ∙ (ap (λ ks. slice_get ks i) (sym (own t)) ∙ due)

          before : open_behind left (take i (script_of scripts t)) ≡ open_behind (omitted_back back left) (take i (script_of (renamed_scripts ns scripts) t))
          before =
              sym (open-renamed [] (take i (script_of scripts t)))
              ∙ ap (open_behind (omitted_back back left)) (sym (take-map (renamed_kind ns) i (script_of scripts t)) ∙ ap (take i) (sym (own t)))

          at : (o : Option Kind) → slice_get (script_of scripts t) i ≡ o → parts t i ≡ part_of (omitted_back back left) (open_behind (omitted_back back left) (take i (script_of (renamed_scripts ns scripts) t))) k
          at None is = absurd (none-some k (ap (option_map (renamed_kind ns)) (sym is) ∙ found))
          at (Some l) is =
              are.each t i l is
              ∙ (sym (part-renamed (open_behind left (take i (script_of scripts t))) l)
              ∙ (ap (part_of (omitted_back back left) (open_behind left (take i (script_of scripts t)))) (same_Some (renamed_kind ns l) k (ap (option_map (renamed_kind ns)) (sym is) ∙ found))
              ∙ ap (λ os. part_of (omitted_back back left) os k) before))
