-- What the first pass puts down is what the second pass needs of all lines.
use Rattle.std.proofs.Common.{◌≡◌, ℕ, ◌+◌, ◌<◌, List, [], ◌∷◌, ◌++◌, length, Option, Some, None, refl, sym, ap, subst, append_assoc, append-nil, length-append, length-set, arith, ◌∙◌}
use Rattle.std.specs.Prelude.{is_some, if◌then◌else◌}
use Rattle.std.specs.Option.{option_to_list}
use Rattle.std.proofs.lemmas.List.{map-append, set-append_left, set_at}
use Rattle.velo_workload.specs.declared.fault.WorkFault.{WorkFault}
use Rattle.velo_workload.specs.declared.fault.WorkFault.TheVariants.{Unknown}
use Rattle.velo_workload.specs.declared.statement.Statement.{Statement}
use Rattle.velo_workload.specs.declared.statement.Statement.TheVariants as of_statement
use Rattle.velo_workload.specs.Phrase.{Spoken, Phrase, Blank, Bad, BadThread, Variable, Lock, Thread, Body}
use Rattle.velo_workload.specs.Outline.{Names, first_of_two}
use Rattle.velo_workload.specs.Program.{statement_of, unknown_in, first_unknown, body_from, bodies}
use Rattle.velo_workload.specs.Sketch.{Put, Sketch, Sketches, no_sketch, with_known, with_statement, drafted, with_phrase, unknown_later, put_at, completed, unknown_in_sketches, bodies_completed, AreSketches}
use Rattle.velo_workload.proofs.Building.{Built, built_by, with_line_built, bodies_with, AreBelow, IsSketchedUpTo}
use Rattle.velo_workload.proofs.OnLonger.{IsLonger, statement_longer}

-- ---- the first of faults

first_or_none : (f : Option WorkFault) → first_of_two f None ≡ f
first_or_none None = refl
first_or_none (Some f) = refl

first_of_three : (f g h : Option WorkFault) → first_of_two (first_of_two f g) h ≡ first_of_two f (first_of_two g h)
first_of_three None g h = refl
first_of_three (Some f) g h = refl

neither : (f g : Option WorkFault) → first_of_two f g ≡ None → (f ≡ None) × (g ≡ None)
neither None g h = (refl, h)
neither (Some e) g h = absurd cc

-- ---- one body

length_put : (ss : List Statement) (i : ℕ) (o : Option Statement) → length (put_at ss i o) ≡ length ss
length_put ss i (Some s) = length-set ss i s
length_put ss i None = refl

put_more : (ss more : List Statement) (i : ℕ) (o : Option Statement) → i < length ss → put_at (ss ++ more) i o ≡ put_at ss i o ++ more
put_more ss more i (Some s) lt = set-append_left ss more i s lt
put_more ss more i None lt = refl

put_last : (ss : List Statement) (n : ℕ) (x y : Statement) → n ≡ length ss → put_at (ss ++ x ∷ []) n (Some y) ≡ ss ++ y ∷ []
put_last ss n x y e = set_at ss x [] y n (sym e)

below_more : (n m : ℕ) (ls : List Put) → n < m → AreBelow n ls → AreBelow m ls
below_more n m [] lt h = tt
below_more n m (l ∷ ls) lt h = (omega (arith, h.0), below_more n m ls lt h.1)

below_one : (m : ℕ) (ls : List Put) (l : Put) → AreBelow m ls → l.place < m → AreBelow m (ls ++ l ∷ [])
below_one m [] l h lt = (lt, tt)
below_one m (k ∷ ls) l h lt = (h.0, below_one m ls l h.1 lt)

module _ (names : Names) where
  length_completed : (ss : List Statement) (ls : List Put) → length (completed names ss ls) ≡ length ss
  length_completed ss [] = refl
  length_completed ss (l ∷ ls) = length_completed (put_at ss l.place (statement_of names l.spoken)) ls ∙ length_put ss l.place (statement_of names l.spoken)

  completed_more : (ss more : List Statement) (ls : List Put) → AreBelow (length ss) ls → completed names (ss ++ more) ls ≡ completed names ss ls ++ more
  completed_more ss more [] h = refl
  completed_more ss more (l ∷ ls) h =
      let o = statement_of names l.spoken in
      ap (λ (ss : List Statement). completed names ss ls) (put_more ss more l.place o h.0)
      ∙ completed_more (put_at ss l.place o) more ls (subst (λ (n : ℕ). AreBelow n ls) (sym (length_put ss l.place o)) h.1)

  completed_one : (ss : List Statement) (ls : List Put) (l : Put) → completed names ss (ls ++ l ∷ []) ≡ put_at (completed names ss ls) l.place (statement_of names l.spoken)
  completed_one ss [] l = refl
  completed_one ss (k ∷ ls) l = completed_one (put_at ss k.place (statement_of names k.spoken)) ls l

  unknown_one : (ls : List Put) (l : Put) → unknown_later names (ls ++ l ∷ []) ≡ first_of_two (unknown_later names ls) (unknown_in names (Body l.spoken) l.line)
  unknown_one [] l = first_or_none (unknown_in names (Body l.spoken) l.line)
  unknown_one (k ∷ ls) l =
      ap (λ (f : Option WorkFault). first_of_two (unknown_in names (Body k.spoken) k.line) f) (unknown_one ls l)
      ∙ sym (first_of_three (unknown_in names (Body k.spoken) k.line) (unknown_later names ls) (unknown_in names (Body l.spoken) l.line))

  unknown_more : (ds : List Sketch) (d : Sketch) → unknown_in_sketches names (ds ++ d ∷ []) ≡ first_of_two (unknown_in_sketches names ds) (unknown_later names d.later)
  unknown_more [] d = first_or_none (unknown_later names d.later)
  unknown_more (k ∷ ds) d =
      ap (λ (f : Option WorkFault). first_of_two (unknown_later names k.later) f) (unknown_more ds d)
      ∙ sym (first_of_three (unknown_later names k.later) (unknown_in_sketches names ds) (unknown_later names d.later))

  none_unknown : (s : Spoken) (n : ℕ) (x : Statement) → statement_of names s ≡ Some x → unknown_in names (Body s) n ≡ None
  none_unknown s n x e = ap (λ (o : Option Statement). if is_some o then None else Some (Unknown n)) e

  known_then : (s : Spoken) (n : ℕ) → unknown_in names (Body s) n ≡ None → (x : Statement) × (statement_of names s ≡ Some x)
  known_then s n e = by (statement_of names s) refl
    where
      by : (o : Option Statement) → statement_of names s ≡ o → (x : Statement) × (statement_of names s ≡ Some x)
      by (Some x) is = (x, is)
      by None is = absurd (let some = sym (ap (λ (o : Option Statement). if is_some o then None else Some (Unknown n)) is) ∙ e in cc)

  -- one more statement
  pub record IsOneMore (d new : Sketch) (s : Spoken) (n : ℕ) : Type 0 where
    pub within : AreBelow (length new.statements) new.later
    pub unknown : unknown_later names new.later ≡ first_of_two (unknown_later names d.later) (unknown_in names (Body s) n)
    pub body : unknown_in names (Body s) n ≡ None → completed names new.statements new.later ≡ completed names d.statements d.later ++ option_to_list (statement_of names s)

  more_known : (d : Sketch) (s : Spoken) (n : ℕ) (x : Statement) → AreBelow (length d.statements) d.later → statement_of names s ≡ Some x → IsOneMore d (with_known d s n (Some x)) s n
  more_known d s n x h e = record {
    within = below_more (length d.statements) (length (d.statements ++ x ∷ [])) d.later (omega (arith, length-append d.statements (x ∷ []))) h;
    unknown = sym (ap (λ (f : Option WorkFault). first_of_two (unknown_later names d.later) f) (none_unknown s n x e) ∙ first_or_none (unknown_later names d.later));
    body = λ fine. completed_more d.statements (x ∷ []) d.later h ∙ ap (λ (o : Option Statement). completed names d.statements d.later ++ option_to_list o) (sym e);
  }

  more_later : (d : Sketch) (s : Spoken) (n : ℕ) → AreBelow (length d.statements) d.later → IsOneMore d (with_known d s n None) s n
  more_later d s n h =
      let place = length d.statements in
      let longer : place < length (d.statements ++ of_statement.Done ∷ []) = omega (arith, length-append d.statements (of_statement.Done ∷ [])) in
      let put : Put = record { spoken = s; line = n; place = place } in
      record {
        within = below_one (length (d.statements ++ of_statement.Done ∷ [])) d.later put (below_more place (length (d.statements ++ of_statement.Done ∷ [])) d.later longer h) longer;
        unknown = unknown_one d.later put;
        body = λ fine.
            let known = known_then s n fine in
            completed_one (d.statements ++ of_statement.Done ∷ []) d.later put
            ∙ ap (λ (ss : List Statement). put_at ss place (statement_of names s)) (completed_more d.statements (of_statement.Done ∷ []) d.later h)
            ∙ ap (λ (o : Option Statement). put_at (completed names d.statements d.later ++ of_statement.Done ∷ []) place o) known.1
            ∙ put_last (completed names d.statements d.later) place of_statement.Done known.0 (sym (length_completed d.statements d.later))
            ∙ ap (λ (o : Option Statement). completed names d.statements d.later ++ option_to_list o) (sym known.1);
      }

  one_more : (some : Names) (d : Sketch) (s : Spoken) (n : ℕ) → IsLonger some names → AreBelow (length d.statements) d.later → IsOneMore d (with_statement some d s n) s n
  one_more some d s n longer h = by (statement_of some s) refl
    where
      by : (o : Option Statement) → statement_of some s ≡ o → IsOneMore d (with_statement some d s n) s n
      by (Some x) e = subst (λ (o : Option Statement). IsOneMore d (with_known d s n o) s n) (sym e) (more_known d s n x h (statement_longer some names s x longer e))
      by None e = subst (λ (o : Option Statement). IsOneMore d (with_known d s n o) s n) (sym e) (more_later d s n h)

  -- ---- one more line

  with_step : (b : Built) (p : Phrase) (ps : List Phrase) → bodies_with names (with_line_built names b p) ps ≡ bodies_with names b (p ∷ ps)
  with_step b (Thread name) ps =
      append_assoc b.whole (b.current ∷ []) (body_from names ps ∷ bodies names ps) ∙ ap (λ (body : List Statement). b.whole ++ (body ∷ body_from names ps ∷ bodies names ps)) (sym (append-nil b.current))
  with_step b (Body s) ps = ap (λ (body : List Statement). b.whole ++ (body ∷ bodies names ps)) (append_assoc b.current (option_to_list (statement_of names s)) (body_from names ps))
  with_step b Blank ps = refl
  with_step b Bad ps = refl
  with_step b BadThread ps = refl
  with_step b (Variable name) ps = refl
  with_step b (Lock name) ps = refl

  -- what one more line makes of the bodies
  pub record IsNextLine (b new : Sketches) (p : Phrase) (n : ℕ) : Type 0 where
    pub within : AreBelow (length new.current.statements) new.current.later
    pub unknown : unknown_in_sketches names (drafted new) ≡ first_of_two (unknown_in_sketches names (drafted b)) (unknown_in names p n)
    pub built : unknown_in names p n ≡ None → built_by names new ≡ with_line_built names (built_by names b) p

  same_line : (b : Sketches) (p : Phrase) (n : ℕ) → AreBelow (length b.current.statements) b.current.later → unknown_in names p n ≡ None → with_line_built names (built_by names b) p ≡ built_by names b → IsNextLine b b p n
  same_line b p n h fine same = record {
    within = h;
    unknown = sym (ap (λ (f : Option WorkFault). first_of_two (unknown_in_sketches names (drafted b)) f) fine ∙ first_or_none (unknown_in_sketches names (drafted b)));
    built = λ fine. sym same;
  }

  next_line : (some : Names) (b : Sketches) (p : Phrase) (n : ℕ) → IsLonger some names → AreBelow (length b.current.statements) b.current.later → IsNextLine b (with_phrase some b p n) p n
  next_line some b (Thread name) n longer h = record {
    within = tt;
    unknown = unknown_more (drafted b) no_sketch;
    built = λ fine. ap (λ (whole : List (List Statement)). record { whole = whole; current = [] }) (map-append (λ (d : Sketch). completed names d.statements d.later) b.whole (b.current ∷ []));
  }
  next_line some b (Body s) n longer h =
      let more = one_more some b.current s n longer h in
      let new = with_statement some b.current s n in
      record {
        within = more.within;
        unknown =
            unknown_more b.whole new ∙ ap (λ (f : Option WorkFault). first_of_two (unknown_in_sketches names b.whole) f) more.unknown
            ∙ sym (first_of_three (unknown_in_sketches names b.whole) (unknown_later names b.current.later) (unknown_in names (Body s) n))
            ∙ ap (λ (f : Option WorkFault). first_of_two f (unknown_in names (Body s) n)) (sym (unknown_more b.whole b.current));
        built = λ fine. ap (λ (body : List Statement). record { whole = bodies_completed names b.whole; current = body }) (more.body fine);
      }
  next_line some b Blank n longer h = same_line b Blank n h refl refl
  next_line some b Bad n longer h = same_line b Bad n h refl refl
  next_line some b BadThread n longer h = same_line b BadThread n h refl refl
  next_line some b (Variable name) n longer h = same_line b (Variable name) n h refl refl
  next_line some b (Lock name) n longer h = same_line b (Lock name) n h refl refl

  -- ---- the loop over the lines

  pub sketched_none : (ps : List Phrase) (b : Sketches) → b ≡ record { whole = []; current = no_sketch } → IsSketchedUpTo names ps ps 0 b
  sketched_none ps b e = subst (λ (b : Sketches). IsSketchedUpTo names ps ps 0 b) (sym e) (record { within = tt; fault = refl; all = λ fine. refl })

  pub sketched_more : (some : Names) (ps rest : List Phrase) (p : Phrase) (n : ℕ) (b new : Sketches) → IsLonger some names → IsSketchedUpTo names ps (p ∷ rest) n b → new ≡ with_phrase some b p (n + 1)
      → IsSketchedUpTo names ps rest (n + 1) new
  sketched_more some ps rest p n b new longer r e =
      let next = next_line some b p (n + 1) longer r.within in
      subst (λ (b : Sketches). IsSketchedUpTo names ps rest (n + 1) b) (sym e)
      (record {
        within = next.within;
        fault = ap (λ (f : Option WorkFault). first_of_two f (first_unknown names (n + 1) rest)) next.unknown
            ∙ first_of_three (unknown_in_sketches names (drafted b)) (unknown_in names p (n + 1)) (first_unknown names (n + 1) rest) ∙ r.fault;
        all = λ fine.
            let both = neither (unknown_in_sketches names (drafted b)) (unknown_in names p (n + 1)) (sym next.unknown ∙ fine) in
            ap (λ (b : Built). bodies_with names b rest) (next.built both.1) ∙ with_step (built_by names b) p rest ∙ r.all both.0;
      })

  pub sketched_all : (ps : List Phrase) (n : ℕ) (b : Sketches) → IsSketchedUpTo names ps [] n b → AreSketches names ps b
  sketched_all ps n b r = record {
    fault = sym (first_or_none (unknown_in_sketches names (drafted b))) ∙ r.fault;
    bodies = λ fine.
        map-append (λ (d : Sketch). completed names d.statements d.later) b.whole (b.current ∷ [])
        ∙ ap (λ (body : List Statement). bodies_completed names b.whole ++ body ∷ []) (sym (append-nil (completed names b.current.statements b.current.later))) ∙ r.all fine;
  }
