-- Lists of names by their bytes.
use Rattle.std.proofs.Common.{◌≡◌, ℕ, Bool, true, false, cond, nat_eq, List, [], ◌∷◌, ◌++◌, Option, Some, None, is_some, map, filter, refl, sym, ap, ◌∙◌, Ok, Err, if◌then◌else◌, Result}
use Rattle.std.specs.Prelude.{OnErr, option_map}
use Rattle.std.specs.Global.{Vec}
use Rattle.std.specs.Option.{option_map_or}
use Rattle.std.specs.Map.{lookup}
use Rattle.std.specs.Str.{bytes_eq}
use Rattle.std.specs.Cmp.Lexicographic.{bytes_decides, nat_list_eq_equiv}
use Rattle.std.proofs.lemmas.List.{append-nil, map-append}
use Rattle.std.proofs.lemmas.List.Elements.{filter-append}
use denote.Ref.{Bor}
use Rattle.indexmap.specs.IndexMap.{IndexMap, get, insert_entry}
use Rattle.indexmap.proofs.CallerLemmas.{insert_entry-new}
use Rattle.velo_names.specs.declared.fault.NamesFault.{NamesFault}
use Rattle.velo_names.specs.declared.fault.NamesFault.TheVariants.{NamedTwice}
use Rattle.velo_names.specs.Names.{NameList, name_in, numbers_in, list_with}
use Rattle.velo_names.specs.Answers.{AreKept, AreNoted, IsIndexOf, entry_of, list_in, numbers_at, same_bytes}

abbrev pub Stored : Type 0
Stored = List (ℕ × Bor (List ℕ))

abbrev pub bytes_of : Bor (List ℕ) → List ℕ
bytes_of b = b.now

pub lookup_seen : (test : ℕ → Bool) (es : Stored) → lookup test (map entry_of es) ≡ option_map bytes_of (lookup test es)
lookup_seen test [] = refl
lookup_seen test (e ∷ es) = by (test e.0) (lookup_seen test es)
  where
    by : (v : Bool) → lookup test (map entry_of es) ≡ option_map bytes_of (lookup test es) → cond v (Some e.1.now) (lookup test (map entry_of es)) ≡ option_map bytes_of (cond v (Some e.1) (lookup test es))
    by true h = refl
    by false h = h

some_kept : (o : Option (Bor (List ℕ))) → is_some (option_map bytes_of o) ≡ is_some o
some_kept None = refl
some_kept (Some b) = refl

none_from : (o : Option (Bor (List ℕ))) → is_some o ≡ false → o ≡ None
none_from None e = refl
none_from (Some b) e = absurd cc

none_back : (o : Option (Bor (List ℕ))) → option_map bytes_of o ≡ None → o ≡ None
none_back None e = refl
none_back (Some b) e = absurd cc

is_some_seen : (n : ℕ) (es : Stored) → is_some (name_in (map entry_of es) n) ≡ is_some (lookup (nat_eq n) es)
is_some_seen n es = ap is_some (lookup_seen (nat_eq n) es) ∙ some_kept (lookup (nat_eq n) es)

pub none_stored : (n : ℕ) (es : Stored) → name_in (map entry_of es) n ≡ None → lookup (nat_eq n) es ≡ None
none_stored n es e = none_back (lookup (nat_eq n) es) (sym (lookup_seen (nat_eq n) es) ∙ e)

pub none_seen : (n : ℕ) (es : Stored) → is_some (lookup (nat_eq n) es) ≡ false → name_in (map entry_of es) n ≡ None
none_seen n es e = lookup_seen (nat_eq n) es ∙ ap (option_map bytes_of) (none_from (lookup (nat_eq n) es) e)

abbrev chosen : Bool → NameList → ℕ → List ℕ → ℕ → Result NameList NamesFault
chosen v list n name line = if v then Err (NamedTwice line) else Ok (list ++ (n, name) ∷ [])

pub named_twice : (es : Stored) (n : ℕ) (name : List ℕ) (line : ℕ) → is_some (lookup (nat_eq n) es) ≡ true → list_with (map entry_of es) n name line ≡ Err (NamedTwice line)
named_twice es n name line e = ap (λ (v : Bool). chosen v (map entry_of es) n name line) (is_some_seen n es ∙ e)

pub named_now : (es : Stored) (n : ℕ) (name : List ℕ) (line : ℕ) → is_some (lookup (nat_eq n) es) ≡ false → list_with (map entry_of es) n name line ≡ Ok (map entry_of es ++ (n, name) ∷ [])
named_now es n name line e = ap (λ (v : Bool). chosen v (map entry_of es) n name line) (is_some_seen n es ∙ e)

-- one more name is there
pub one_more : {S : Type 0} (names room new : IndexMap ℕ (Bor (List ℕ)) S) (n : ℕ) (name : Bor (List ℕ)) → list_in room ≡ list_in names → is_some (lookup (nat_eq n) names.entries) ≡ false
    → new.entries ≡ insert_entry nat_eq room.entries n name → list_in new ≡ list_in names ++ (n, name.now) ∷ []
one_more names room new n name same e is =
    let none = none_stored n room.entries (ap (λ (l : NameList). name_in l n) same ∙ none_seen n names.entries e) in
    ap (map entry_of) (is ∙ insert_entry-new nat_eq room n name none)
    ∙ (map-append entry_of room.entries ((n, name) ∷ []) ∙ ap (λ (l : NameList). l ++ (n, name.now) ∷ []) same)

pub on_either : {T E : Type 0} {P : Type 0} (r : Result T E) → P → OnErr r P
on_either (Ok x) p = tt
on_either (Err x) p = p

-- ---- numbers of a name

one_number : (v : Bool) (n : ℕ) (name : List ℕ) → map (λ (e : ℕ × List ℕ). e.0) (cond v ((n, name) ∷ []) []) ≡ cond v (n ∷ []) []
one_number true n name = refl
one_number false n name = refl

pub numbers_after : (list : NameList) (n : ℕ) (name other : List ℕ) → numbers_in (list ++ (n, name) ∷ []) other ≡ numbers_in list other ++ cond (bytes_eq other name) (n ∷ []) []
numbers_after list n name other =
    let test : ℕ × List ℕ → Bool = λ e. bytes_eq other e.1 in
    ap (map (λ (e : ℕ × List ℕ). e.0)) (filter-append test list ((n, name) ∷ []))
    ∙ (map-append (λ (e : ℕ × List ℕ). e.0) (filter test list) (filter test ((n, name) ∷ []))
    ∙ ap (λ (ns : List ℕ). numbers_in list other ++ ns) (one_number (bytes_eq other name) n name))

-- ---- numbers by their names

abbrev Index : Type 0 → Type 0
Index S = IndexMap (Bor (List ℕ)) (Vec ℕ) S

abbrev items_of : Option (Vec ℕ) → List ℕ
items_of found = option_map_or (λ (numbers : Vec ℕ). numbers.items) found []

module _ {S : Type 0} where
  -- with w at this name, all else as it was
  abbrev pub Puts : Index S → Index S → Bor (List ℕ) → Vec ℕ → Type 0
  Puts m n name w = (q : Bor (List ℕ)) → get same_bytes n q ≡ cond (same_bytes name q) (Some w) (get same_bytes m q)

  at_same : (m : Index S) (name q : Bor (List ℕ)) → same_bytes name q ≡ true → numbers_at m name ≡ numbers_at m q
  at_same m name q e = ap (λ (bs : List ℕ). items_of (lookup (λ (k : Bor (List ℕ)). bytes_eq bs k.now) m.entries)) ((bytes_decides name.now q.now).0 e)

  at_other : (m n : Index S) (name q : Bor (List ℕ)) (w : Vec ℕ) → Puts m n name w → same_bytes name q ≡ false → numbers_at n q ≡ numbers_at m q
  at_other m n name q w puts e = ap items_of (puts q ∙ ap (λ (b : Bool). cond b (Some w) (get same_bytes m q)) e)

  at_it : (m n : Index S) (name q : Bor (List ℕ)) (w : Vec ℕ) → Puts m n name w → same_bytes name q ≡ true → numbers_at n q ≡ w.items
  at_it m n name q w puts e = ap items_of (puts q ∙ ap (λ (b : Bool). cond b (Some w) (get same_bytes m q)) e)

  pub noted : (m n : Index S) (name : Bor (List ℕ)) (w : Vec ℕ) (more : List ℕ) → Puts m n name w → w.items ≡ numbers_at m name ++ more → AreNoted m n name more
  noted m n name w more puts is = record { each = λ q. by q (same_bytes name q) refl }
    where
      by : (q : Bor (List ℕ)) (b : Bool) → same_bytes name q ≡ b → numbers_at n q ≡ numbers_at m q ++ cond (same_bytes q name) more []
      by q true e =
          at_it m n name q w puts e
          ∙ (is
          ∙ (ap (λ (ns : List ℕ). ns ++ more) (at_same m name q e)
          ∙ ap (λ (b : Bool). numbers_at m q ++ cond b more []) (sym (nat_list_eq_equiv.symm q.now name.now ∙ e))))
      by q false e =
          at_other m n name q w puts e
          ∙ (sym (append-nil (numbers_at m q))
          ∙ ap (λ (b : Bool). numbers_at m q ++ cond b more []) (sym (nat_list_eq_equiv.symm q.now name.now ∙ e)))

  pub kept : (m n : Index S) (name : Bor (List ℕ)) (w : Vec ℕ) → Puts m n name w → w.items ≡ numbers_at m name → AreKept m n
  kept m n name w puts is = record { each = λ q. by q (same_bytes name q) refl }
    where
      by : (q : Bor (List ℕ)) (b : Bool) → same_bytes name q ≡ b → numbers_at n q ≡ numbers_at m q
      by q true e = at_it m n name q w puts e ∙ (is ∙ at_same m name q e)
      by q false e = at_other m n name q w puts e

  pub unchanged : (m n : Index S) → n.entries ≡ m.entries → AreKept m n
  unchanged m n is = record { each = λ q. ap (λ (es : List (Bor (List ℕ) × Vec ℕ)). items_of (lookup (same_bytes q) es)) is }

  pub none_at : (m : Index S) (name : Bor (List ℕ)) → get same_bytes m name ≡ None → numbers_at m name ≡ []
  none_at m name none = ap items_of none

  pub some_at : (m : Index S) (name : Bor (List ℕ)) (w : Vec ℕ) → get same_bytes m name ≡ Some w → numbers_at m name ≡ w.items
  some_at m name w some = ap items_of some

  -- ---- an index of a list

  pub still_index : (list : NameList) (m n : Index S) → IsIndexOf list m → AreKept m n → IsIndexOf list n
  still_index list m n is keeps = record { each = λ q. keeps.each q ∙ is.each q }

  pub index_of_more : (list : NameList) (m n : Index S) (number : ℕ) (name : Bor (List ℕ)) → IsIndexOf list m → AreNoted m n name (number ∷ []) → IsIndexOf (list ++ (number, name.now) ∷ []) n
  index_of_more list m n number name is notes = record {
    each = λ q.
        notes.each q
        ∙ (ap (λ (ns : List ℕ). ns ++ cond (same_bytes q name) (number ∷ []) []) (is.each q)
        ∙ sym (numbers_after list number name.now q.now));
  }
