-- Texts that are saved one after another.
use Rattle.std.proofs.Common.{◌≡◌, ◌∙◌, ◌+◌, ◌<◌, ◌≤◌, ◌∷◌, ℕ, [], List, ap, arith, drop, drop-cons, get_or, inl, inr, length, refl, subst, suc, sym, zero}
use Rattle.std.specs.Prelude.{⊤, Result, Ok, Err, IsErrAnd}
use Rattle.velo_check.specs.declared.answer.Save.{Save}
use Rattle.velo_check.specs.declared.failure.Failure.{Failure}
use Rattle.velo_check.specs.Answers.{AreSaved, IsSaved}
use Rattle.velo_check.specs.Disk.{Disk, store}

none_left : {A : Type 0} (xs : List A) (i : ℕ) → length xs ≤ i → drop i xs ≡ []
none_left [] zero h = refl
none_left [] (suc i) h = refl
none_left (x ∷ xs) zero h = absurd (omega (arith, h))
none_left (x ∷ xs) (suc i) h = none_left xs i (omega (arith, h))

module _ {T F : Type 0} (is_text : T → List ℕ → Type 0) (disk : F → Disk) where
  -- whatever is left in the end, and whatever it comes to: what the rest comes to behind a state, the
  -- whole comes to behind the first one
  pub record Leads (first now : F) (saves rest : List (Save T)) : Type 0 where
    pub leads : (left : F) (result : Result ⊤ Failure) → AreSaved is_text (store disk now left) rest result → AreSaved is_text (store disk first left) saves result

  ahead : (first now left : F) (save : Save T) (rest : List (Save T)) (result : Result ⊤ Failure) (x : ⊤) → IsSaved {X = ⊤} is_text (store disk first now) save (Ok x)
      → AreSaved is_text (store disk now left) rest result → AreSaved is_text (store disk first left) (save ∷ rest) result
  ahead first now left save rest (Ok y) x saved h = (now, saved, h)
  ahead first now left save rest (Err f) x saved h = inr (now, saved, h)

  module _ (first now : F) (saves : List (Save T)) (i : ℕ) (d one : Save T) (more : i < length saves) (is : one ≡ get_or saves i d) (so : Leads first now saves (drop i saves)) where
    next : drop i saves ≡ one ∷ drop (i + 1) saves
    next =
        let on : suc i ≡ i + 1 = omega arith in
        drop-cons saves i d more ∙ (ap (λ n. get_or saves i d ∷ drop n saves) on ∙ ap (λ (save : Save T). save ∷ drop (i + 1) saves) (sym is))

    pub saved_one : (after : F) (x : ⊤) → IsSaved {X = ⊤} is_text (store disk now after) one (Ok x) → Leads first after saves (drop (i + 1) saves)
    saved_one after x saved =
        record {
          leads = λ left result h. so.leads left result
              (subst (λ (rest : List (Save T)). AreSaved is_text (store disk now left) rest result) (sym next) (ahead now after left one (drop (i + 1) saves) result x saved h));
        }

    pub lost_one : (after : F) (f : Failure) → IsSaved {X = ⊤} is_text (store disk now after) one (Err f) → AreSaved {X = ⊤} is_text (store disk first after) saves (Err f)
    lost_one after f lost =
        so.leads after (Err f) (subst (λ (rest : List (Save T)). AreSaved {X = ⊤} is_text (store disk now after) rest (Err f)) (sym next) (inl lost))

  pub saved_all : (first now : F) (saves : List (Save T)) (i : ℕ) (x : ⊤) → length saves ≤ i → Leads first now saves (drop i saves) → AreSaved {X = ⊤} is_text (store disk first now) saves (Ok x)
  saved_all first now saves i x end so =
      so.leads now (Ok x) (subst (λ (rest : List (Save T)). AreSaved {X = ⊤} is_text (store disk now now) rest (Ok x)) (sym (none_left saves i end)) refl)

  pub handed_on : (first left : F) (saves : List (Save T)) (result : Result ⊤ Failure) (f : Failure) → IsErrAnd result (λ g. g ≡ f) → AreSaved {X = ⊤} is_text (store disk first left) saves (Err f)
      → AreSaved is_text (store disk first left) saves result
  handed_on first left saves (Ok x) f same h = absurd same
  handed_on first left saves (Err g) f same h = subst (λ (g : Failure). AreSaved {X = ⊤} is_text (store disk first left) saves (Err g)) (sym same) h
