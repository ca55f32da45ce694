-- The names of a program are names.
use Rattle.std.proofs.Common.{◌≡◌, ℕ, ◌+◌, ◌-◌, ◌^◌, cond, Bool, true, false, List, [], ◌∷◌, ◌++◌, length, map, Option, Some, None, Ok, refl, sym, ap, subst, ◌∙◌, append_assoc, append-nil, lit≤, arith}
use Rattle.std.specs.Prelude.{IsTrue}
use Rattle.std.specs.List.{flat_map, list_any}
use Rattle.std.specs.Str.{bytes_eq}
use Rattle.indexmap.specs.IndexSet.{insert_all, insert_key}
use Rattle.velo_bytes.specs.Parsing.{whole_number}
use Rattle.velo_workload.specs.declared.fault.WorkFault.{WorkFault}
use Rattle.velo_workload.specs.declared.phrase.Verb.{Verb}
use Rattle.velo_workload.specs.declared.phrase.Verb.TheVariants as verb
use Rattle.velo_workload.specs.declared.phrase.Argument.{Argument}
use Rattle.velo_workload.specs.declared.phrase.Argument.TheVariants.{Nothing, Name, Number}
use Rattle.velo_workload.specs.Words.{Word, is_name, lines, words}
use Rattle.velo_workload.specs.Phrase.{Begin, Phrase, Variable, Lock, Thread, Body, argument_of, bad_phrase, phrase_of, phrase_of_one_word, phrase_of_words, phrase_with_argument, phrase_with_name, phrase_with_number_or_bad, phrases, verb_of}
use Rattle.velo_workload.specs.Outline.{AreFew, Known, first_fault, first_of_two, fault_from, fault_of_line, known, label_in, lock_in, thread_in, variable_in}
use Rattle.velo_workload.specs.Known.{known_by, whole}
use Rattle.velo_workload.specs.Program.{AreWellNamed, IsWellNamed, Program, fault_in, meaning_of, program, unless_fault}
use Rattle.velo_workload.proofs.OnReading.{few_more, known_whole, whole_more}

-- ---- what a line declares

-- what it declares, or begins a block with, is a name
abbrev NamesWell : Phrase → Type 0
NamesWell (Variable name) = IsTrue (is_name name)
NamesWell (Lock name) = IsTrue (is_name name)
NamesWell (Thread name) = IsTrue (is_name name)
NamesWell (Body (Begin name)) = IsTrue (is_name name)
NamesWell p = Unit {0}

bad : (v : Verb) → NamesWell (bad_phrase v)
bad verb.Thread = tt
bad v = tt

one_word : (v : Verb) → NamesWell (phrase_of_one_word v)
one_word verb.End = tt
one_word verb.Done = tt
one_word v = bad v

with_name : (v : Verb) (w : Word) → IsTrue (is_name w) → NamesWell (phrase_with_name v w)
with_name verb.Variable w h = h
with_name verb.Lock w h = h
with_name verb.Thread w h = h
with_name verb.Begin w h = h
with_name v w h = tt

with_number : (v : Verb) (n : Option ℕ) → NamesWell (phrase_with_number_or_bad v n)
with_number verb.Thread (Some n) = tt
with_number v (Some n) = tt
with_number v None = bad v

with_argument : (v : Verb) (a : Argument) (w : Word) → NamesWell (phrase_with_argument v a w)
with_argument v Nothing w = bad v
with_argument v Number w = with_number v (whole_number (2 ^ 64 - 1) w)
with_argument v Name w = by (is_name w) refl
  where
    by : (b : Bool) → is_name w ≡ b → NamesWell (cond b (phrase_with_name v w) (bad_phrase v))
    by true e = with_name v w e
    by false e = bad v

in_words : (ws : List Word) → NamesWell (phrase_of_words ws)
in_words [] = tt
in_words (w ∷ []) = one_word (verb_of w)
in_words (w ∷ x ∷ []) = with_argument (verb_of w) (argument_of (verb_of w)) x
in_words (w ∷ x ∷ y ∷ zs) = bad (verb_of w)

-- ---- what all lines declare

both : (xs ys : List Word) → AreWellNamed xs → AreWellNamed ys → AreWellNamed (xs ++ ys)
both [] ys p q = q
both (x ∷ xs) ys p q = (p.0, both xs ys p.1 q)

module _ (f : Phrase → List Word) (each : (p : Phrase) → NamesWell p → AreWellNamed (f p)) where
  in_lines : (ls : List (List ℕ)) → AreWellNamed (flat_map f (map phrase_of ls))
  in_lines [] = tt
  in_lines (l ∷ ls) = both (f (phrase_of l)) (flat_map f (map phrase_of ls)) (each (phrase_of l) (in_words (words l))) (in_lines ls)

variable_well : (p : Phrase) → NamesWell p → AreWellNamed (variable_in p)
variable_well (Variable name) h = (h, tt)
variable_well p h = tt

lock_well : (p : Phrase) → NamesWell p → AreWellNamed (lock_in p)
lock_well (Lock name) h = (h, tt)
lock_well p h = tt

thread_well : (p : Phrase) → NamesWell p → AreWellNamed (thread_in p)
thread_well (Thread name) h = (h, tt)
thread_well p h = tt

label_well : (p : Phrase) → NamesWell p → AreWellNamed (label_in p)
label_well (Body (Begin name)) h = (h, tt)
label_well (Body s) h = tt
label_well p h = tt

one_label : (ks : List Word) (k : Word) → AreWellNamed ks → IsTrue (is_name k) → AreWellNamed (insert_key bytes_eq ks k)
one_label ks k all one = by (list_any (bytes_eq k) ks)
  where
    by : (b : Bool) → AreWellNamed (cond b ks (ks ++ k ∷ []))
    by true = all
    by false = both ks (k ∷ []) all (one, tt)

each_label : (ks xs : List Word) → AreWellNamed ks → AreWellNamed xs → AreWellNamed (insert_all bytes_eq ks xs)
each_label ks [] all more = all
each_label ks (x ∷ xs) all more = each_label (insert_key bytes_eq ks x) xs (one_label ks x all more.0) more.1

-- ---- how many they are

first : (f g : Option WorkFault) → first_of_two f g ≡ None → f ≡ None
first None g e = refl
first (Some f) g e = absurd cc

second : (f g : Option WorkFault) → first_of_two f g ≡ None → g ≡ None
second None g e = e
second (Some f) g e = absurd cc

few_then : (before : List Phrase) (p : Phrase) → AreFew (known before) → fault_of_line (known before) p (length before + 1) ≡ None → AreFew (known (before ++ p ∷ []))
few_then before p few fine =
    subst AreFew (known_whole (before ++ p ∷ []))
    (subst (λ k. AreFew (known_by k)) (sym (whole_more before p))
    (few_more (whole before) p (length before + 1)
    (subst AreFew (sym (known_whole before)) few)
    (ap (λ (k : Known). fault_of_line k p (length before + 1)) (known_whole before) ∙ fine)))

few_from : (before rest : List Phrase) → AreFew (known before) → fault_from before rest ≡ None → AreFew (known (before ++ rest))
few_from before [] few e = subst (λ (ps : List Phrase). AreFew (known ps)) (sym (append-nil before)) few
few_from before (p ∷ rest) few e =
    subst (λ (ps : List Phrase). AreFew (known ps)) (append_assoc before (p ∷ []) rest)
    (few_from (before ++ p ∷ []) rest
    (few_then before p few (first (fault_of_line (known before) p (length before + 1)) _ e))
    (second (fault_of_line (known before) p (length before + 1)) _ e))

few_in : (ps : List Phrase) → first_fault ps ≡ None → AreFew (known ps)
few_in ps e = few_from [] ps (record { variables = lit≤ tt; locks = lit≤ tt; threads = lit≤ tt; labels = lit≤ tt; statements = lit≤ tt }) e

-- ---- the program

well : (ls : List (List ℕ)) → AreFew (known (map phrase_of ls)) → IsWellNamed (program (map phrase_of ls))
well ls few = record {
  threads = in_lines thread_in thread_well ls;
  variables = in_lines variable_in variable_well ls;
  locks = in_lines lock_in lock_well ls;
  labels = each_label [] (flat_map label_in (map phrase_of ls)) tt (in_lines label_in label_well ls);
  few_threads = few.threads;
  few_variables = few.variables;
  few_locks = few.locks;
  few_labels = omega (arith, few.labels, few.statements);
}

faultless : (fault : Option WorkFault) (w v : Program) → unless_fault fault w ≡ Ok v → (fault ≡ None) × (w ≡ v)
faultless None w v e = (refl, cc)
faultless (Some f) w v e = absurd cc

pub meant_names : (text : List ℕ) (w : Program) → meaning_of text ≡ Ok w → IsWellNamed w
unfolding meaning_of
meant_names text w e =
    let is = faultless (fault_in (phrases text)) (program (phrases text)) w e in
    subst IsWellNamed is.1 (well (lines text) (few_in (phrases text) (first (first_fault (phrases text)) _ is.0)))
