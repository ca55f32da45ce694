-- What the first pass counts is what a body costs.
use Rattle.std.proofs.Common.{◌≡◌, ℕ, ◌+◌, ◌-◌, ◌*◌, ◌⊎◌, inl, inr, cond, ltb, List, [], ◌∷◌, ◌++◌, length, map, take, reverse, slice_get, Option, Some, None, refl, sym, ap, subst, ◌∙◌, ⊎_elim, append-nil, append_assoc, length-append, arith}
use Rattle.std.specs.Prelude.{option_map}
use Rattle.std.specs.Option.{option_map_or}
use Rattle.std.proofs.lemmas.List.{map-append, take-map, length-map, reverse-append}
use Rattle.std.proofs.lemmas.Option.{slice_get-map}
use Rattle.velo_workload.specs.declared.limits.TheConstants.{MAX_COST}
use Rattle.velo_workload.specs.declared.fault.WorkFault.{WorkFault}
use Rattle.velo_workload.specs.declared.fault.WorkFault.TheVariants.{Unmatched, TooMany}
use Rattle.velo_workload.specs.declared.nesting.Open.{Open}
use Rattle.velo_workload.specs.Phrase.{Spoken, Repeat, Done, Phrase, Blank, Bad, BadThread, Variable, Lock, Thread, Body}
use Rattle.velo_workload.specs.Outline.{costs, total, cost_of, repeated, one_statement, Reading, new_body, opened, line_read, read_from, reading, end_fault}
use Rattle.velo_workload.specs.Nesting.{NestingState, new_nesting, last_open, nesting_after, nesting_after_line, nesting_from, nesting_of_lines, nesting_fault}

-- ---- costs at each open level

-- how often the next statement is done, and so on outwards
abbrev rounds_of : NestingState → List ℕ
rounds_of t = t.rounds ∷ reverse (map (λ o. o.outside) t.open_repeats)

-- the costs at the levels, each as often as it is done
abbrev weigh : List ℕ → List ℕ → ℕ
weigh rs [] = 0
weigh [] (l ∷ ls) = l + weigh [] ls
weigh (r ∷ rs) (l ∷ ls) = r * l + weigh rs ls

weigh_none : (ls : List ℕ) → weigh [] ls ≡ total ls
weigh_none [] = refl
weigh_none (l ∷ ls) = ap (λ (n : ℕ). l + n) (weigh_none ls)

weigh_once : (ls : List ℕ) → weigh (1 ∷ []) ls ≡ total ls
weigh_once [] = refl
weigh_once (l ∷ ls) = let e = weigh_none ls in omega (arith, e)

weigh_one : (r : ℕ) (rs ls : List ℕ) → weigh (r ∷ rs) (one_statement ls) ≡ r + weigh (r ∷ rs) ls
weigh_one r rs [] = omega arith
weigh_one r rs (l ∷ ls) = omega arith

weigh_repeat : (r k : ℕ) (rs ls : List ℕ) → weigh (r ∷ rs) (repeated k ls) ≡ (r + r * k) + weigh (r * k ∷ r ∷ rs) ls
weigh_repeat r k rs [] = omega arith
weigh_repeat r k rs (l ∷ []) = omega arith
weigh_repeat r k rs (l ∷ m ∷ ls) = omega arith

-- ---- the last of a list

abbrev HasLast : List Open → Type 0
HasLast os = (front : List Open) × (o : Open) × (os ≡ front ++ o ∷ [])

last_or_none : (os : List Open) → (os ≡ []) ⊎ HasLast os
last_or_none [] = inl refl
last_or_none (o ∷ os) = ⊎_elim
    (λ none. inr ([], o, ap (λ (xs : List Open). o ∷ xs) none))
    (λ some. inr (o ∷ some.0, some.1, ap (λ (xs : List Open). o ∷ xs) some.2))
    (last_or_none os)

count_front : (front : List Open) (o : Open) → length (front ++ o ∷ []) - 1 ≡ length front
count_front front o = let e = length-append front (o ∷ []) in omega (arith, e)

get_end : (front : List Open) (o : Open) → slice_get (front ++ o ∷ []) (length front) ≡ Some o
get_end [] o = refl
get_end (x ∷ front) o = get_end front o

take_front : (front : List Open) (o : Open) → take (length front) (front ++ o ∷ []) ≡ front
take_front [] o = refl
take_front (x ∷ front) o = ap (λ (xs : List Open). x ∷ xs) (take_front front o)

outside_last : (front : List Open) (o : Open) → reverse (map (λ o. o.outside) (front ++ o ∷ [])) ≡ o.outside ∷ reverse (map (λ o. o.outside) front)
outside_last front o = ap reverse (map-append (λ o. o.outside) front (o ∷ [])) ∙ reverse-append (map (λ o. o.outside) front) (o.outside ∷ [])

-- ---- one more statement

abbrev left : NestingState → List ℕ → ℕ
left t ls = t.cost + weigh (rounds_of t) ls

simple_step : (t : NestingState) (ls : List ℕ) → left t (one_statement ls) ≡ left (record t { cost = t.cost + t.rounds }) ls
simple_step t ls = let e = weigh_one t.rounds (reverse (map (λ o. o.outside) t.open_repeats)) ls in omega (arith, e)

repeat_step : (t : NestingState) (n k : ℕ) (ls : List ℕ) → left t (repeated k ls) ≡ left (nesting_after t n (Repeat k)) ls
repeat_step t n k ls =
    let rs = reverse (map (λ o. o.outside) t.open_repeats) in
    let e = weigh_repeat t.rounds k rs ls in
    let one : t.cost + weigh (t.rounds ∷ rs) (repeated k ls) ≡ t.cost + (t.rounds + t.rounds * k) + weigh (t.rounds * k ∷ t.rounds ∷ rs) ls = omega (arith, e) in
    one ∙ ap (λ (xs : List ℕ). t.cost + (t.rounds + t.rounds * k) + weigh (t.rounds * k ∷ xs) ls) (sym (outside_last t.open_repeats (record { line = n; outside = t.rounds })))

abbrev DoneFits : ℕ → ℕ → List ℕ → List Open → Type 0
DoneFits c r ls os =
    c + weigh (r ∷ reverse (map (λ o. o.outside) os)) (0 ∷ ls)
    ≡ c + weigh (option_map_or (λ o. o.outside) (last_open os) 1 ∷ reverse (map (λ o. o.outside) (take (length os - 1) os))) ls

done_none : (c r : ℕ) (ls : List ℕ) → DoneFits c r ls []
done_none c r ls = let e = weigh_none ls in let f = weigh_once ls in omega (arith, e, f)

done_last : (c r : ℕ) (ls : List ℕ) (front : List Open) (o : Open) → DoneFits c r ls (front ++ o ∷ [])
done_last c r ls front o =
    let behind : List ℕ = reverse (map (λ o. o.outside) front) in
    let before : c + weigh (r ∷ o.outside ∷ behind) (0 ∷ ls) ≡ c + weigh (o.outside ∷ behind) ls = omega arith in
    let the_last : last_open (front ++ o ∷ []) ≡ Some o = ap (slice_get (front ++ o ∷ [])) (count_front front o) ∙ get_end front o in
    let the_front : take (length (front ++ o ∷ []) - 1) (front ++ o ∷ []) ≡ front = ap (λ (m : ℕ). take m (front ++ o ∷ [])) (count_front front o) ∙ take_front front o in
    ap (λ (xs : List ℕ). c + weigh (r ∷ xs) (0 ∷ ls)) (outside_last front o) ∙ before
    ∙ sym (λ i. c + weigh (option_map_or (λ o. o.outside) (the_last i) 1 ∷ reverse (map (λ o. o.outside) (the_front i))) ls)

done_at : (c r : ℕ) (os : List Open) (ls : List ℕ) → DoneFits c r ls os
done_at c r os ls = ⊎_elim
    (λ none. subst (DoneFits c r ls) (sym none) (done_none c r ls))
    (λ some. subst (DoneFits c r ls) (sym some.2) (done_last c r ls some.0 some.1))
    (last_or_none os)

cost_step : (t : NestingState) (n : ℕ) (s : Spoken) (ss : List Spoken) → left t (costs (s ∷ ss)) ≡ left (nesting_after t n s) (costs ss)
cost_step t n (Repeat k) ss = repeat_step t n k (costs ss)
cost_step t n Done ss = done_at t.cost t.rounds t.open_repeats (costs ss)
cost_step t n s ss = simple_step t (costs ss)

-- ---- the count agrees with the body

pub record Agrees (t : NestingState) (b : Reading) : Type 0 where
  pub thread_line : t.thread_line ≡ b.thread_line
  pub lines : map (λ o. o.line) t.open_repeats ≡ b.open_repeats
  pub cost : (ss : List Spoken) → cost_of (b.said ++ ss) ≡ left t (costs ss)

agrees_new : (n : ℕ) → Agrees (new_nesting n) (new_body n)
agrees_new n = record { thread_line = refl; lines = refl; cost = λ ss. let e = weigh_once (costs ss) in omega (arith, e) }

lines_step : (t : NestingState) (n : ℕ) (s : Spoken) → map (λ o. o.line) (nesting_after t n s).open_repeats ≡ opened (map (λ o. o.line) t.open_repeats) n s
lines_step t n (Repeat k) = map-append (λ o. o.line) t.open_repeats (record { line = n; outside = t.rounds } ∷ [])
lines_step t n Done = sym (take-map (λ o. o.line) (length t.open_repeats - 1) t.open_repeats) ∙ ap (λ (m : ℕ). take (m - 1) (map (λ o. o.line) t.open_repeats)) (sym (length-map t.open_repeats (λ o. o.line)))
lines_step t n s = refl

line_step : (t : NestingState) (n : ℕ) (s : Spoken) → (nesting_after t n s).thread_line ≡ t.thread_line
line_step t n (Repeat k) = refl
line_step t n Done = refl
line_step t n s = refl

agrees_said : (t : NestingState) (b : Reading) (n : ℕ) (s : Spoken) → Agrees t b → Agrees (nesting_after t n s) (line_read b n (Body s))
agrees_said t b n s h = record {
  thread_line = line_step t n s ∙ h.thread_line;
  lines = lines_step t n s ∙ ap (λ (ls : List ℕ). opened ls n s) h.lines;
  cost = λ ss. ap cost_of (append_assoc b.said (s ∷ []) ss) ∙ h.cost (s ∷ ss) ∙ cost_step t n s ss;
}

agrees_more : (t : NestingState) (b : Reading) (n : ℕ) (p : Phrase) → Agrees t b → Agrees (nesting_after_line t n p) (line_read b n p)
agrees_more t b n Blank h = h
agrees_more t b n Bad h = h
agrees_more t b n BadThread h = h
agrees_more t b n (Variable name) h = h
agrees_more t b n (Lock name) h = h
agrees_more t b n (Thread name) h = agrees_new n
agrees_more t b n (Body s) h = agrees_said t b n s h

agrees_from : (t : NestingState) (b : Reading) (n : ℕ) (ps : List Phrase) → Agrees t b → Agrees (nesting_from t n ps) (read_from b n ps)
agrees_from t b n [] h = h
agrees_from t b n (p ∷ ps) h = agrees_from (nesting_after_line t (n + 1) p) (line_read b (n + 1) p) (n + 1) ps (agrees_more t b (n + 1) p h)

pub agrees : (ps : List Phrase) → Agrees (nesting_of_lines ps) (reading ps)
agrees ps = agrees_from (new_nesting 0) (new_body 0) 0 ps (agrees_new 0)

-- ---- so do the faults

pub same_depth : (t : NestingState) (b : Reading) → Agrees t b → length t.open_repeats ≡ length b.open_repeats
same_depth t b h = sym (length-map t.open_repeats (λ o. o.line)) ∙ ap length h.lines

unmatched_line : (o : Option Open) (other : Option WorkFault) → option_map_or (λ o. Some (Unmatched o.line)) o other ≡ option_map_or (λ n. Some (Unmatched n)) (option_map (λ o. o.line) o) other
unmatched_line None other = refl
unmatched_line (Some o) other = refl

pub same_end : (t : NestingState) (b : Reading) → Agrees t b → nesting_fault t ≡ end_fault b
same_end t b h =
    let so_far : cost_of b.said ≡ t.cost = ap cost_of (sym (append-nil b.said)) ∙ h.cost [] ∙ omega arith in
    let costly : ℕ → ℕ → Option WorkFault = λ c n. cond (ltb MAX_COST c) (Some (TooMany n)) None in
    let last : option_map (λ o. o.line) (last_open t.open_repeats) ≡ slice_get b.open_repeats (length b.open_repeats - 1) =
    sym (slice_get-map (λ o. o.line) t.open_repeats (length t.open_repeats - 1)) ∙ (λ i. slice_get (h.lines i) (same_depth t b h i - 1)) in
    unmatched_line (last_open t.open_repeats) (costly t.cost t.thread_line)
    ∙ (λ i. option_map_or (λ n. Some (Unmatched n)) (last i) (costly (sym so_far i) (h.thread_line i)))
