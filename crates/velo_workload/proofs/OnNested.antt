-- Where the first pass finds no fault, the bodies are well nested.
use Rattle.std.proofs.Common.{◌≡◌, ◌<◌, ◌≤◌, ℕ, zero, suc, ◌+◌, ◌-◌, List, [], ◌∷◌, ◌++◌, length, take, get_or, Some, None, refl, sym, ◌∙◌, ap, subst, arith, inl, inr, length-append, length-take, Bool, true, false}
use Rattle.std.specs.Prelude.{slice_get, IsTrue, ◌⊎◌, Option, nat_lt, nat_le, ◌==◌, option_map, if◌then◌else◌}
use Rattle.std.specs.Option.{option_to_list, option_map_or}
use Rattle.std.proofs.lemmas.Option.{slice_get_cases, slice_get_within}
use Rattle.std.proofs.lemmas.Bool.{and_from, lt-ltb, cases_lt}
use Rattle.std.proofs.lemmas.Bool.Decides.{nat_tests}
use Rattle.velo_workload.specs.declared.fault.WorkFault.{WorkFault}
use Rattle.velo_workload.specs.declared.fault.WorkFault.TheVariants.{Unmatched}
use Rattle.velo_workload.specs.declared.limits.TheConstants.{MAX_OPEN_REPEATS}
use Rattle.velo_workload.specs.declared.statement.Statement.{Statement}
use Rattle.velo_workload.specs.declared.statement.Statement.TheVariants as of_statement
use Rattle.velo_workload.specs.Bodies.{is_nested, IsBody, AreBodies}
use Rattle.velo_workload.specs.Phrase.{Spoken, Read, Write, Set, Add, Acquire, Release, Share, Unshare, Begin, End, Fork, Join, Repeat, Done, Phrase, Thread, Body}
use Rattle.velo_workload.specs.Outline.{Names, Reading, Known, new_body, known, reading, read_from, line_read, opened, end_fault, statement_fault, fault_of_line, fault_from, first_of_two, first_fault}
use Rattle.velo_workload.specs.Program.{statement_of, number_of, body_from, bodies}

-- ---- faults

neither : (f g : Option WorkFault) → first_of_two f g ≡ None → (f ≡ None) × (g ≡ None)
neither None g h = (refl, h)
neither (Some e) g h = cc

none_open : (repeats : List ℕ) (other : Option WorkFault)
    → option_map_or (λ n. Some (Unmatched n)) (slice_get repeats (length repeats - 1)) other ≡ None → length repeats ≡ 0
none_open repeats other h = at (slice_get_cases repeats (length repeats - 1))
  where
    at : (slice_get repeats (length repeats - 1) ≡ slice_get repeats (length repeats - 1)) × (((x : ℕ) × (length repeats - 1 < length repeats) × (slice_get repeats (length repeats - 1) ≡ Some x) × (get_or repeats (length repeats - 1) x ≡ x)) ⊎ ((length repeats ≤ length repeats - 1) × (slice_get repeats (length repeats - 1) ≡ None)))
        → length repeats ≡ 0
    at (same, inl (x, within, here, got)) =
        let is : Some (Unmatched x) ≡ None = sym (ap (λ o. option_map_or (λ n. Some (Unmatched n)) o other) here) ∙ h in
        cc
    at (same, inr (beyond, here)) = omega (arith, beyond)

pub none_open_at_end : (b : Reading) → end_fault b ≡ None → length b.open_repeats ≡ 0
none_open_at_end b h = none_open b.open_repeats _ h

-- ---- one more line

pub read_more : (b : Reading) (n : ℕ) (ps : List Phrase) (p : Phrase) → (m : ℕ) × (read_from b n (ps ++ p ∷ []) ≡ line_read (read_from b n ps) m p)
read_more b n [] p = (n + 1, refl)
read_more b n (q ∷ ps) p = read_more (line_read b (n + 1) q) (n + 1) ps p

-- ---- one statement

named : (d : ℕ) (rest : List Statement) (f : ℕ → Statement) (o : Option ℕ) → ((i : ℕ) → is_nested d (f i ∷ rest) ≡ is_nested d rest) → IsTrue (is_nested d rest)
    → IsTrue (is_nested d (option_to_list (option_map f o) ++ rest))
named d rest f None same h = h
named d rest f (Some i) same h = same i ∙ h

room_by : (d c : ℕ) (w : WorkFault) (other : Option WorkFault) → c ≡ d → (if nat_le MAX_OPEN_REPEATS c then Some w else other) ≡ None → IsTrue (nat_lt d MAX_OPEN_REPEATS)
room_by d c w other e f = by_case (cases_lt d MAX_OPEN_REPEATS)
  where
    by_case : (d < MAX_OPEN_REPEATS) ⊎ (MAX_OPEN_REPEATS ≤ d) → IsTrue (nat_lt d MAX_OPEN_REPEATS)
    by_case (inl l) = lt-ltb d MAX_OPEN_REPEATS l
    by_case (inr l) =
        let full : nat_le MAX_OPEN_REPEATS c ≡ true = rw e (grind (arith, nat_tests)) in
        let is : Some w ≡ None = sym (ap (λ b. if b then Some w else other) full) ∙ f in
        cc

none_missing : (c : ℕ) (w : WorkFault) (other : Option WorkFault) → c ≡ 0 → (if c == 0 then Some w else other) ≡ None → ⊥
none_missing c w other e f = let is : Some w ≡ None = sym (ap (λ k. if k == 0 then Some w else other) e) ∙ f in cc

other_branch : (b : Bool) (w : WorkFault) (other : Option WorkFault) → (if b then Some w else other) ≡ None → other ≡ None
other_branch true w other h = cc
other_branch false w other h = h

nested_end : (d : ℕ) → d ≡ 0 → IsTrue (is_nested d [])
unfolding is_nested
nested_end d e = rw e refl

pub nested_statement : (names : Names) (k : Known) (repeats : List ℕ) (s : Spoken) (m n : ℕ) (rest : List Statement) → k.depth ≡ length repeats → statement_fault k s n ≡ None
    → IsTrue (is_nested (length (opened repeats m s)) rest) → IsTrue (is_nested (length repeats) (option_to_list (statement_of names s) ++ rest))
unfolding is_nested
nested_statement names k repeats (Read x) m n rest e f h = named (length repeats) rest (λ i. of_statement.Read (record { 0 = i })) (number_of names.variables x) (λ i. refl) h
nested_statement names k repeats (Write x) m n rest e f h = named (length repeats) rest (λ i. of_statement.Write (record { 0 = i })) (number_of names.variables x) (λ i. refl) h
nested_statement names k repeats (Set x) m n rest e f h = h
nested_statement names k repeats (Add x) m n rest e f h = h
nested_statement names k repeats (Acquire x) m n rest e f h = named (length repeats) rest (λ i. of_statement.Acquire (record { 0 = i })) (number_of names.locks x) (λ i. refl) h
nested_statement names k repeats (Release x) m n rest e f h = named (length repeats) rest (λ i. of_statement.Release (record { 0 = i })) (number_of names.locks x) (λ i. refl) h
nested_statement names k repeats (Share x) m n rest e f h = named (length repeats) rest (λ i. of_statement.Share (record { 0 = i })) (number_of names.locks x) (λ i. refl) h
nested_statement names k repeats (Unshare x) m n rest e f h = named (length repeats) rest (λ i. of_statement.Unshare (record { 0 = i })) (number_of names.locks x) (λ i. refl) h
nested_statement names k repeats (Begin x) m n rest e f h = named (length repeats) rest (λ i. of_statement.Begin (record { 0 = i })) (number_of names.labels x) (λ i. refl) h
nested_statement names k repeats End m n rest e f h = h
nested_statement names k repeats (Fork x) m n rest e f h = named (length repeats) rest (λ i. of_statement.Fork (record { 0 = i })) (number_of names.threads x) (λ i. refl) h
nested_statement names k repeats (Join x) m n rest e f h = named (length repeats) rest (λ i. of_statement.Join (record { 0 = i })) (number_of names.threads x) (λ i. refl) h
nested_statement names k repeats (Repeat x) m n rest e f h =
    and_from (nat_lt (length repeats) MAX_OPEN_REPEATS) (is_nested (suc (length repeats)) rest)
    (room_by (length repeats) k.depth _ _ e f)
    (let longer : length (repeats ++ m ∷ []) ≡ suc (length repeats) = omega (arith, length-append repeats (m ∷ [])) in
    subst (λ d. IsTrue (is_nested d rest)) longer h)
nested_statement names k [] Done m n rest e f h = absurd (none_missing k.depth _ _ e f)
nested_statement names k (x ∷ xs) Done m n rest e f h =
    let shorter : length (take (length (x ∷ xs) - 1) (x ∷ xs)) ≡ length xs = omega (arith, length-take (length (x ∷ xs) - 1) (x ∷ xs)) in
    subst (λ d. IsTrue (is_nested d rest)) shorter h

-- ---- one line

pub nested_line : (names : Names) (before rest : List Phrase) (p : Phrase) (m n : ℕ) → fault_of_line (known before) p n ≡ None
    → IsTrue (is_nested (length (line_read (reading before) m p).open_repeats) (body_from names rest)) → AreBodies (bodies names rest)
    → IsTrue (is_nested (length (reading before).open_repeats) (body_from names (p ∷ rest))) × AreBodies (bodies names (p ∷ rest))
nested_line names before rest (Thread name) m n f h bs = (
  nested_end (length (reading before).open_repeats) (none_open_at_end (reading before) (neither _ _ f).0),
  record { each = each },
)
  where
    each : (t : ℕ) (body : List Statement) → slice_get (body_from names rest ∷ bodies names rest) t ≡ Some body → IsBody body
    each zero body here = let e : body_from names rest ≡ body = cc in record { nested = subst (λ b. IsTrue (is_nested 0 b)) e h }
    each (suc t) body here = bs.each t body here
nested_line names before rest (Body s) m n f h bs =
    (nested_statement names (known before) (reading before).open_repeats s m n (body_from names rest) refl (other_branch _ _ _ f) h, bs)
nested_line names before rest p m n f h bs = (h, bs)

-- ---- all lines

pub nested_from : (names : Names) (before rest : List Phrase) → fault_from before rest ≡ None
    → IsTrue (is_nested (length (reading before).open_repeats) (body_from names rest)) × AreBodies (bodies names rest)
nested_from names before [] h = (
  nested_end (length (reading before).open_repeats) (none_open_at_end (reading before) (neither _ _ h).0),
  record { each = λ t body here. absurd (omega (arith, slice_get_within [] t body here)) },
)
nested_from names before (p ∷ rest) h =
    let both = neither (fault_of_line (known before) p (length before + 1)) (fault_from (before ++ p ∷ []) rest) h in
    let behind = nested_from names (before ++ p ∷ []) rest both.1 in
    let next = read_more (new_body 0) 0 before p in
    nested_line names before rest p next.0 (length before + 1) both.0
    (subst (λ b. IsTrue (is_nested (length b.open_repeats) (body_from names rest))) next.1 behind.0) behind.1

-- the bodies of a text without a fault
pub AreBodies-parsed : (names : Names) (ps : List Phrase) → first_fault ps ≡ None → AreBodies (bodies names ps)
AreBodies-parsed names ps h = (nested_from names [] ps h).1
