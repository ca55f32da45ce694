-- The second pass puts each statement in its place.
use Rattle.std.proofs.Common.{◌≡◌, ℕ, ◌+◌, ◌<◌, zero, suc, List, [], ◌∷◌, ◌++◌, length, map, drop, get_or, set, Option, Some, None, refl, sym, ap, subst, append_assoc, append-nil, arith, ◌∙◌}
use Rattle.std.specs.Prelude.{is_some, if◌then◌else◌}
use Rattle.std.proofs.lemmas.List.{length-map, length-drop, drop_all, drop-set-lt}
use Rattle.velo_workload.specs.declared.fault.WorkFault.{WorkFault}
use Rattle.velo_workload.specs.declared.fault.WorkFault.TheVariants.{Unknown}
use Rattle.velo_workload.specs.declared.statement.Statement.{Statement}
use Rattle.velo_workload.specs.declared.draft.Later.{Later}
use Rattle.velo_workload.specs.declared.draft.Draft.{Draft}
use Rattle.velo_workload.specs.Phrase.{Body}
use Rattle.velo_workload.specs.Outline.{Names, Judges, first_of_two}
use Rattle.velo_workload.specs.Program.{statement_of, unknown_in}
use Rattle.velo_workload.specs.Sketch.{Put, Sketch, put_of, sketch_of, unknown_later, put_at, completed, unknown_in_sketches, bodies_completed}
use Rattle.velo_workload.proofs.Building.{IsCompletedUpTo, AreCompletedUpTo}
use Rattle.velo_workload.proofs.OnReading.{wrong, judged_first, none_first}

-- ---- the loop over the statements of a body

put_next : (ls : List Later) (i : ℕ) (d : Later) → i < length ls → drop i (map put_of ls) ≡ put_of (get_or ls i d) ∷ drop (i + 1) (map put_of ls)
put_next [] i d lt = absurd (omega arith)
put_next (l ∷ ls) zero d lt = refl
put_next (l ∷ ls) (suc i) d lt = let e : suc i + 1 ≡ suc (i + 1) = omega arith in rw e (put_next ls i d (omega arith))

none_left : {X : Type 0} (xs : List X) (n : ℕ) → n ≡ length xs → drop n xs ≡ []
none_left xs n e = grind (arith, drop_all, e)

module _ (names : Names) where
  pub completed_first : (ls : List Later) (ss : List Statement) → IsCompletedUpTo names ls ss 0 ss
  completed_first ls ss = record { fault = refl; all = refl }

  module _ (ls : List Later) (old : List Statement) (i : ℕ) (d : Later) (lt : i < length ls) (ss : List Statement) (r : IsCompletedUpTo names ls old i ss) where
    abbrev here : Put
    here = put_of (get_or ls i d)

    left : first_of_two (unknown_in names (Body here.spoken) here.line) (unknown_later names (drop (i + 1) (map put_of ls))) ≡ unknown_later names (map put_of ls)
    left = ap (unknown_later names) (sym (put_next ls i d lt)) ∙ r.fault

    abbrev fault_by : Option Statement → Option WorkFault
    fault_by o = if is_some o then None else Some (Unknown here.line)

    pub completed_wrong : statement_of names here.spoken ≡ None → unknown_later names (map put_of ls) ≡ Some (Unknown here.line)
    completed_wrong e = sym left ∙ ap (λ (o : Option Statement). first_of_two (fault_by o) (unknown_later names (drop (i + 1) (map put_of ls)))) e

    pub completed_next : (x : Statement) → statement_of names here.spoken ≡ Some x → IsCompletedUpTo names ls old (i + 1) (set ss here.place x)
    completed_next x e = record {
      fault = sym (ap (λ (o : Option Statement). first_of_two (fault_by o) (unknown_later names (drop (i + 1) (map put_of ls)))) e) ∙ left;
      all =
          sym (ap (λ (o : Option Statement). completed names (put_at ss here.place o) (drop (i + 1) (map put_of ls))) e)
          ∙ ap (completed names ss) (sym (put_next ls i d lt)) ∙ r.all;
    }

  module _ (ls : List Later) (old : List Statement) (n : ℕ) (ss : List Statement) (end : n ≡ length ls) (r : IsCompletedUpTo names ls old n ss) where
    over : drop n (map put_of ls) ≡ []
    over = none_left (map put_of ls) n (end ∙ sym (length-map ls put_of))

    pub completed_fine : unknown_later names (map put_of ls) ≡ None
    completed_fine = sym r.fault ∙ ap (unknown_later names) over

    pub completed_all : ss ≡ completed names old (map put_of ls)
    completed_all = sym (ap (completed names ss) over) ∙ r.all

-- ---- the loop over the bodies

sketch_next : (ds : List Draft) (i : ℕ) (d : Draft) → i < length ds → drop i (map sketch_of ds) ≡ sketch_of (get_or ds i d) ∷ drop (i + 1) (map sketch_of ds)
sketch_next [] i d lt = absurd (omega arith)
sketch_next (x ∷ ds) zero d lt = refl
sketch_next (x ∷ ds) (suc i) d lt = let e : suc i + 1 ≡ suc (i + 1) = omega arith in rw e (sketch_next ds i d (omega arith))

module _ (names : Names) where
  pub bodies_first : (ds : List Draft) → AreCompletedUpTo names ds 0 []
  bodies_first ds = record { fault = refl; all = refl }

  module _ (ds : List Draft) (i : ℕ) (d : Draft) (lt : i < length ds) (found : List (List Statement)) (r : AreCompletedUpTo names ds i found) where
    abbrev this : Sketch
    this = sketch_of (get_or ds i d)

    those : first_of_two (unknown_later names this.later) (unknown_in_sketches names (drop (i + 1) (map sketch_of ds))) ≡ unknown_in_sketches names (map sketch_of ds)
    those = ap (unknown_in_sketches names) (sym (sketch_next ds i d lt)) ∙ r.fault

    pub bodies_wrong : (f : WorkFault) → Judges (unknown_later names this.later) (wrong f) → Judges (unknown_in_sketches names (map sketch_of ds)) (wrong f)
    bodies_wrong f h = subst (λ (g : Option WorkFault). Judges g (wrong f)) those (judged_first _ (unknown_in_sketches names (drop (i + 1) (map sketch_of ds))) f h)

    pub bodies_next : (body : List Statement) → unknown_later names this.later ≡ None → body ≡ completed names this.statements this.later → AreCompletedUpTo names ds (i + 1) (found ++ body ∷ [])
    bodies_next body fine is =
        let later = bodies_completed names (drop (i + 1) (map sketch_of ds)) in
        record {
          fault = sym (none_first _ (unknown_in_sketches names (drop (i + 1) (map sketch_of ds))) fine) ∙ those;
          all = append_assoc found (body ∷ []) later ∙ ap (λ (body : List Statement). found ++ body ∷ later) is ∙ ap (λ (ks : List Sketch). found ++ bodies_completed names ks) (sym (sketch_next ds i d lt)) ∙ r.all;
        }

  module _ (ds : List Draft) (n : ℕ) (found : List (List Statement)) (end : n ≡ length ds) (r : AreCompletedUpTo names ds n found) where
    gone : drop n (map sketch_of ds) ≡ []
    gone = none_left (map sketch_of ds) n (end ∙ sym (length-map ds sketch_of))

    pub bodies_fine : unknown_in_sketches names (map sketch_of ds) ≡ None
    bodies_fine = sym r.fault ∙ ap (unknown_in_sketches names) gone

    pub bodies_all : found ≡ bodies_completed names (map sketch_of ds)
    bodies_all = sym (append-nil found) ∙ sym (ap (λ (ks : List Sketch). found ++ bodies_completed names ks) gone) ∙ r.all

-- ---- the drafts that are left, where those before them were taken

abbrev head : Draft → List Draft → Draft
head d [] = d
head d (x ∷ xs) = x

here_head : (xs : List Draft) (i : ℕ) (d : Draft) → get_or xs i d ≡ head d (drop i xs)
here_head [] zero d = refl
here_head [] (suc i) d = refl
here_head (x ∷ xs) zero d = refl
here_head (x ∷ xs) (suc i) d = here_head xs i d

drop_one : (xs : List Draft) (i : ℕ) → drop (i + 1) xs ≡ drop 1 (drop i xs)
drop_one [] zero = refl
drop_one [] (suc i) = let e : suc i + 1 ≡ suc (i + 1) = omega arith in rw e refl
drop_one (x ∷ xs) zero = refl
drop_one (x ∷ xs) (suc i) = let e : suc i + 1 ≡ suc (i + 1) = omega arith in rw e (drop_one xs i)

pub left_next : (xs ds : List Draft) (i : ℕ) (x : Draft) → drop i xs ≡ drop i ds → drop (i + 1) (set xs i x) ≡ drop (i + 1) ds
left_next xs ds i x e = drop-set-lt (i + 1) xs i x (omega arith) ∙ drop_one xs i ∙ ap (drop 1) e ∙ sym (drop_one ds i)

module _ (names : Names) (xs ds : List Draft) (i : ℕ) (d draft : Draft) (lt : i < length xs) (left : drop i xs ≡ drop i ds) (is : draft ≡ get_or xs i d) (found : List (List Statement)) (r : AreCompletedUpTo names ds i found) where
  within : i < length ds
  within = omega (arith, lt, length-drop i xs, length-drop i ds, ap length left)

  same_draft : get_or ds i d ≡ draft
  same_draft = sym (is ∙ here_head xs i d ∙ ap (head d) left ∙ sym (here_head ds i d))

  pub draft_wrong : (f : WorkFault) → Judges (unknown_later names (sketch_of draft).later) (wrong f) → Judges (unknown_in_sketches names (map sketch_of ds)) (wrong f)
  draft_wrong f h = bodies_wrong names ds i d within found r f (subst (λ (x : Draft). Judges (unknown_later names (sketch_of x).later) (wrong f)) (sym same_draft) h)

  pub draft_next : (bodies : List (List Statement)) (body : List Statement) → unknown_later names (sketch_of draft).later ≡ None → body ≡ completed names (sketch_of draft).statements (sketch_of draft).later
      → bodies ≡ found ++ body ∷ [] → AreCompletedUpTo names ds (i + 1) bodies
  draft_next bodies body fine body-is bodies-is =
      subst (λ (found : List (List Statement)). AreCompletedUpTo names ds (i + 1) found) (sym bodies-is)
      (bodies_next names ds i d within found r body
      (ap (λ (x : Draft). unknown_later names (sketch_of x).later) same_draft ∙ fine)
      (body-is ∙ ap (λ (x : Draft). completed names (sketch_of x).statements (sketch_of x).later) (sym same_draft)))
