-- Counts of labels, with one alarm more.
use Rattle.std.proofs.Common.{◌≡◌, ℕ, ◌+◌, ◌-◌, ◌^◌, ◌<◌, ◌≤◌, min, Bool, true, false, List, [], ◌∷◌, ◌++◌, map, refl, sym, ap, ◌∙◌, subst, arith, ⊎_elim}
use Rattle.std.specs.Prelude.{◌==◌, ◌||◌, All, IsTrue, IsFalse, cond, count_by, if◌then◌else◌}
use Rattle.std.proofs.lemmas.Bool.{cases_Bool, eq-eqb, eqb-true, false≢true}
use Rattle.std.proofs.lemmas.List.Elements.{All-map, All-push, All-weaker}
use Rattle.std.proofs.lemmas.List.Folds.{list_any-append}
use Rattle.std.proofs.lemmas.List.Sums.{sum_by-cons, sum_by_push}
use Rattle.velo_traces.specs.declared.block.Block.{Block}
use Rattle.velo_explore.specs.declared.tally.BlamedLabel.{BlamedLabel}
use Rattle.velo_explore.specs.Runs.{has_label}
use Rattle.velo_explore.specs.Tallies.{is_listed, AreCounts}
use Rattle.velo_explore.specs.Counting.{with_alarm, with_other, with_others}

-- the count of a label with one more alarm that blames these blocks
abbrev pub more : (ℕ → ℕ) → List Block → ℕ → ℕ
more count blocks label = count label + (if has_label label blocks then 1 else 0)

-- ---- the labels that are there

abbrev IsCount : (ℕ → ℕ) → BlamedLabel → Type 0
IsCount count b = b.alarms ≡ count b.label.0

label-with_alarm : (blocks : List Block) (b : BlamedLabel) → (with_alarm blocks b).label ≡ b.label
label-with_alarm blocks b = ⊎_elim
    (λ h. ap (λ (x : BlamedLabel). x.label) (ap (λ t. if t then record { label = b.label; alarms = min (b.alarms + 1) (2 ^ 64 - 1) } else b) h))
    (λ h. ap (λ (x : BlamedLabel). x.label) (ap (λ t. if t then record { label = b.label; alarms = min (b.alarms + 1) (2 ^ 64 - 1) } else b) h))
    (cases_Bool (has_label b.label.0 blocks))

listed-with_alarms : (label : ℕ) (blocks : List Block) (blamed : List BlamedLabel) → is_listed label (map (with_alarm blocks) blamed) ≡ is_listed label blamed
listed-with_alarms label blocks [] = refl
listed-with_alarms label blocks (b ∷ blamed) =
    ap (λ l. (l.0 == label) || is_listed label (map (with_alarm blocks) blamed)) (label-with_alarm blocks b)
    ∙ ap (λ t. (b.label.0 == label) || t) (listed-with_alarms label blocks blamed)

-- how often the label is listed
abbrev listing : ℕ → BlamedLabel → ℕ
listing label b = cond (b.label.0 == label) 1 0

abbrev listings : ℕ → List BlamedLabel → ℕ
listings label blamed = count_by (λ b. b.label.0 == label) blamed

listings-with_alarms : (label : ℕ) (blocks : List Block) (blamed : List BlamedLabel) → listings label (map (with_alarm blocks) blamed) ≡ listings label blamed
listings-with_alarms label blocks [] = refl
listings-with_alarms label blocks (b ∷ blamed) =
    let after = sum_by-cons (listing label) (with_alarm blocks b) (map (with_alarm blocks) blamed) in
    let here : listing label (with_alarm blocks b) ≡ listing label b = ap (λ l. cond (l.0 == label) 1 0) (label-with_alarm blocks b) in
    let rest = listings-with_alarms label blocks blamed in
    let before = sum_by-cons (listing label) b blamed in
    omega (arith, after, here, rest, before)

one_more : (alarms n : ℕ) → alarms ≡ n → n < 2 ^ 64 - 1 → min (alarms + 1) (2 ^ 64 - 1) ≡ n + 1
one_more alarms n is few = omega (arith, is, few)

as_before : (alarms n : ℕ) → alarms ≡ n → alarms ≡ n + 0
as_before alarms n is = omega (arith, is)

-- with one alarm more, or not
abbrev counted_if : BlamedLabel → Bool → BlamedLabel
counted_if b t = if t then record { label = b.label; alarms = min (b.alarms + 1) (2 ^ 64 - 1) } else b

-- it is the count of its label, where that is one more
abbrev IsCountIf : (ℕ → ℕ) → List Block → BlamedLabel → Bool → Type 0
IsCountIf count blocks b t = (counted_if b t).alarms ≡ more count blocks (counted_if b t).label.0

IsCount-with_alarm : (count : ℕ → ℕ) (blocks : List Block) → ((label : ℕ) → count label < 2 ^ 64 - 1) → (b : BlamedLabel) → IsCount count b → IsCount (more count blocks) (with_alarm blocks b)
IsCount-with_alarm count blocks few b is = ⊎_elim
    (λ h. subst (IsCountIf count blocks b) (sym h) (one_more b.alarms (count b.label.0) is (few b.label.0) ∙ sym (ap (λ t. count b.label.0 + (if t then 1 else 0)) h)))
    (λ h. subst (IsCountIf count blocks b) (sym h) (as_before b.alarms (count b.label.0) is ∙ sym (ap (λ t. count b.label.0 + (if t then 1 else 0)) h)))
    (cases_Bool (has_label b.label.0 blocks))

abbrev IsSome : BlamedLabel → Type 0
IsSome b = 1 ≤ b.alarms

capped-some : (n : ℕ) → 1 ≤ n → 1 ≤ min (n + 1) (2 ^ 64 - 1)
capped-some n some = omega (arith, some)

IsSome-with_alarm : (blocks : List Block) (b : BlamedLabel) → IsSome b → IsSome (with_alarm blocks b)
IsSome-with_alarm blocks b some = ⊎_elim
    (λ h. subst (λ t. IsSome (counted_if b t)) (sym h) (capped-some b.alarms some))
    (λ h. subst (λ t. IsSome (counted_if b t)) (sym h) some)
    (cases_Bool (has_label b.label.0 blocks))

-- ---- those that are added

or-left : (a b : Bool) → IsFalse (a || b) → IsFalse a
or-left false b h = refl
or-left true b h = absurd (false≢true (sym h))

or-right : (a b : Bool) → IsFalse (a || b) → IsFalse b
or-right false b h = h
or-right true b h = absurd (false≢true (sym h))

or-none : (a b : Bool) → IsFalse a → IsFalse b → IsFalse (a || b)
or-none false b no_a no_b = no_b
or-none true b no_a no_b = absurd (false≢true (sym no_a))

or-some : (a b : Bool) → IsTrue b → IsTrue (a || b)
or-some false b yes_b = yes_b
or-some true b yes_b = refl

or-first : (a b : Bool) → IsTrue a → IsTrue (a || b)
or-first false b yes_a = absurd (false≢true yes_a)
or-first true b yes_a = refl

-- a label that is not listed is listed no times
listings-none : (label : ℕ) (blamed : List BlamedLabel) → IsFalse (is_listed label blamed) → listings label blamed ≡ 0
listings-none label [] none = refl
listings-none label (b ∷ blamed) none =
    let all = sum_by-cons (listing label) b blamed in
    let here : listing label b ≡ 0 = ap (λ t. cond t 1 0) (or-left (b.label.0 == label) (is_listed label blamed) none) in
    let rest = listings-none label blamed (or-right (b.label.0 == label) (is_listed label blamed) none) in
    omega (arith, all, here, rest)

-- and once, where it is added
listings-added : (label : ℕ) (b : BlamedLabel) (blamed : List BlamedLabel) → IsFalse (is_listed b.label.0 blamed) → listings label blamed ≤ 1 → listings label (blamed ++ b ∷ []) ≤ 1
listings-added label b blamed none few = subst (λ n. n ≤ 1) (sym (sum_by_push (listing label) blamed b)) (⊎_elim
    (λ same. subst (λ t. listings label blamed + cond t 1 0 ≤ 1) (sym same)
    (let absent = listings-none label blamed (subst (λ l. IsFalse (is_listed l blamed)) (eqb-true b.label.0 label same) none) in omega (arith, absent)))
    (λ other. subst (λ t. listings label blamed + cond t 1 0 ≤ 1) (sym other) (omega (arith, few)))
    (cases_Bool (b.label.0 == label)))

-- what a list of labels has still to come to
record Lacks (count : ℕ → ℕ) (blocks : List Block) (blamed : List BlamedLabel) : Type 0 where
  pub each : All (IsCount count) blamed
  pub some : All IsSome blamed
  pub once : (label : ℕ) → listings label blamed ≤ 1
  pub ones : (label : ℕ) → IsTrue (has_label label blocks) → IsFalse (is_listed label blamed) → count label ≡ 1
  pub others : (label : ℕ) → IsFalse (has_label label blocks) → IsFalse (is_listed label blamed) → count label ≡ 0

abbrev one_of : Block → BlamedLabel
one_of block = record { label = block.label; alarms = 1 }

-- no label of a list is another's than those that are not this one
not-that : (b : Block) (label : ℕ) (blamed : List BlamedLabel) → IsTrue (is_listed b.label.0 blamed) → IsFalse (is_listed label blamed) → IsFalse (b.label.0 == label)
not-that b label blamed there none = ⊎_elim
    (λ h. absurd (false≢true (sym none ∙ subst (λ l. IsTrue (is_listed l blamed)) (eqb-true b.label.0 label h) there)))
    (λ h. h)
    (cases_Bool (b.label.0 == label))

Lacks-next : (count : ℕ → ℕ) (b : Block) (blocks : List Block) (blamed : List BlamedLabel) → Lacks count (b ∷ blocks) blamed → Lacks count blocks (with_other blamed b)
Lacks-next count b blocks blamed lacks = ⊎_elim
    (λ h. subst (λ t. Lacks count blocks (if t then blamed else blamed ++ one_of b ∷ [])) (sym h) (record {
      each = lacks.each;
      some = lacks.some;
      once = lacks.once;
      ones = λ label yes none. lacks.ones label (or-some (b.label.0 == label) (has_label label blocks) yes) none;
      others = λ label no none. lacks.others label (or-none (b.label.0 == label) (has_label label blocks) (not-that b label blamed h none) no) none;
    }))
    (λ h. subst (λ t. Lacks count blocks (if t then blamed else blamed ++ one_of b ∷ [])) (sym h) (record {
      each = All-push (IsCount count) blamed (one_of b) lacks.each (sym (lacks.ones b.label.0 (or-first (b.label.0 == b.label.0) (has_label b.label.0 blocks) (eq-eqb b.label.0 b.label.0 refl)) h));
      some = All-push IsSome blamed (one_of b) lacks.some (omega arith);
      once = λ label. listings-added label (one_of b) blamed h (lacks.once label);
      ones = λ label yes none. lacks.ones label (or-some (b.label.0 == label) (has_label label blocks) yes) (before label none);
      others = λ label no none. lacks.others label (or-none (b.label.0 == label) (has_label label blocks) (apart label none) no) (before label none);
    }))
    (cases_Bool (is_listed b.label.0 blamed))
  where
    both : (label : ℕ) → IsFalse (is_listed label (blamed ++ one_of b ∷ [])) → IsFalse (is_listed label blamed || ((b.label.0 == label) || false))
    both label none = sym (list_any-append (λ x. x.label.0 == label) blamed (one_of b ∷ [])) ∙ none

    before : (label : ℕ) → IsFalse (is_listed label (blamed ++ one_of b ∷ [])) → IsFalse (is_listed label blamed)
    before label none = or-left (is_listed label blamed) ((b.label.0 == label) || false) (both label none)

    apart : (label : ℕ) → IsFalse (is_listed label (blamed ++ one_of b ∷ [])) → IsFalse (b.label.0 == label)
    apart label none = or-left (b.label.0 == label) false (or-right (is_listed label blamed) ((b.label.0 == label) || false) (both label none))

AreCounts-added : (count : ℕ → ℕ) (blocks : List Block) (blamed : List BlamedLabel) → Lacks count blocks blamed → AreCounts count (with_others blocks blamed)
AreCounts-added count [] blamed lacks = record { each = lacks.each; some = lacks.some; once = lacks.once; others = λ label none. lacks.others label refl none }
AreCounts-added count (b ∷ blocks) blamed lacks = AreCounts-added count blocks (with_other blamed b) (Lacks-next count b blocks blamed lacks)

-- ---- both

pub AreCounts-alarm : (count : ℕ → ℕ) (blocks : List Block) (blamed : List BlamedLabel) → ((label : ℕ) → count label < 2 ^ 64 - 1) → AreCounts count blamed → AreCounts (more count blocks) (with_others blocks (map (with_alarm blocks) blamed))
AreCounts-alarm count blocks blamed few counts = AreCounts-added (more count blocks) blocks (map (with_alarm blocks) blamed) (record {
  each = All-map (IsCount (more count blocks)) (with_alarm blocks) blamed (All-weaker (IsCount count) (λ b. IsCount (more count blocks) (with_alarm blocks b)) (IsCount-with_alarm count blocks few) blamed counts.each);
  some = All-map IsSome (with_alarm blocks) blamed (All-weaker IsSome (λ b. IsSome (with_alarm blocks b)) (IsSome-with_alarm blocks) blamed counts.some);
  once = λ label. subst (λ n. n ≤ 1) (sym (listings-with_alarms label blocks blamed)) (counts.once label);
  ones = λ label yes none. ap (λ t. count label + (if t then 1 else 0)) yes ∙ ap (λ n. n + 1) (zero_of label none);
  others = λ label no none. ap (λ t. count label + (if t then 1 else 0)) no ∙ ap (λ n. n + 0) (zero_of label none);
})
  where
    zero_of : (label : ℕ) → IsFalse (is_listed label (map (with_alarm blocks) blamed)) → count label ≡ 0
    zero_of label none = counts.others label (sym (listed-with_alarms label blocks blamed) ∙ none)

-- without an alarm
pub AreCounts-same : (count other : ℕ → ℕ) (blamed : List BlamedLabel) → ((label : ℕ) → count label ≡ other label) → AreCounts count blamed → AreCounts other blamed
AreCounts-same count other blamed same counts = record {
  each = All-weaker (IsCount count) (IsCount other) (λ b is. is ∙ same b.label.0) blamed counts.each;
  some = counts.some;
  once = counts.once;
  others = λ label none. sym (same label) ∙ counts.others label none;
}

-- the table before, and with one alarm more
pub AreCounts-counted : (count : ℕ → ℕ) (blocks : List Block) (blamed before after : List BlamedLabel) → before ≡ map (with_alarm blocks) blamed → after ≡ with_others blocks before → ((label : ℕ) → count label < 2 ^ 64 - 1) → AreCounts count blamed → AreCounts (more count blocks) after
AreCounts-counted count blocks blamed before after first added few counts =
    subst (AreCounts (more count blocks)) (sym (added ∙ ap (with_others blocks) first)) (AreCounts-alarm count blocks blamed few counts)

-- and where there is no alarm
pub AreCounts-none : (count : ℕ → ℕ) (blamed : List BlamedLabel) → AreCounts count blamed → AreCounts (more count []) blamed
AreCounts-none count blamed counts = AreCounts-same count (more count []) blamed (λ label. plus_none (count label)) counts
  where
    plus_none : (n : ℕ) → n ≡ n + 0
    plus_none n = omega arith
