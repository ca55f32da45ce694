-- What `naming_of` takes is the line of a name, and such a line is taken again.
use Rattle.std.proofs.Common.{◌≡◌, ℕ, ◌^◌, ◌<◌, ◌≤◌, Bool, true, false, cond, List, [], ◌∷◌, ◌++◌, Option, Some, None, ⊎_elim, refl, sym, ap, subst, ◌∙◌, append_assoc, arith}
use Rattle.std.specs.Prelude.{decimal, codes, IsTrue}
use Rattle.velo_bytes.specs.Parsing.{◌>>=◌, number_at, after_word, by_word}
use Rattle.velo_bytes.proofs.Choices.{chosen, some_is, bind_some, by_word_is}
use Rattle.velo_bytes.proofs.OnNumbers.{number_taken, number_again, after_taken, after_again}
use Rattle.velo_names.specs.declared.kind.NameKind.{NameKind}
use Rattle.velo_names.specs.declared.kind.NameKind.TheVariants.{Thread, Variable, Lock, Label}
use Rattle.velo_names.specs.Line.{Naming, IsNaming, is_name, kind_text, greatest, naming_text, name_at, number_and_name_at, naming_of}

large : (kind : NameKind) → (9 ≤ greatest kind) × (greatest kind < 2 ^ 64)
large Thread = (omega arith, omega arith)
large Variable = (omega arith, omega arith)
large Lock = (omega arith, omega arith)
large Label = (omega arith, omega arith)

-- ---- what is taken

pub record Takes (line : List ℕ) (x : Naming) : Type 0 where
  pub text : line ≡ naming_text x
  pub fits : IsNaming x

name_taken : (kind : NameKind) (n : ℕ) (bytes : List ℕ) (x : Naming) → name_at kind n bytes ≡ Some x → (IsTrue (is_name bytes)) × (record { kind = kind; number = n; name = bytes } ≡ x)
name_taken kind n bytes x e =
    let y : Naming = record { kind = kind; number = n; name = bytes } in
    ⊎_elim
    (λ yes. (yes.0, some_is y x yes.1))
    (λ no. absurd (let none = no.1 in cc))
    (chosen (is_name bytes) (Some y) None (Some x) e)

-- the front is the kind's word and a space
taken_behind : (kind : NameKind) (line rest : List ℕ) (x : Naming) → line ≡ kind_text kind ++ (codes " " ++ rest) → number_and_name_at kind rest ≡ Some x → Takes line x
taken_behind kind line rest x front e =
    let b = bind_some (number_at (greatest kind) rest) (λ n. after_word (codes " ") n.1 >>= λ name. name_at kind n.0 name) x e in
    let s = bind_some (after_word (codes " ") b.0.1) (λ name. name_at kind b.0.0 name) x b.2 in
    let w = name_taken kind b.0.0 s.0 x s.2 in
    let found = number_taken (greatest kind) rest b.0.0 b.0.1 (large kind).0 (large kind).1 b.1 in
    let name = after_taken (codes " ") b.0.1 s.0 s.1 in
    let y : Naming = record { kind = kind; number = b.0.0; name = s.0 } in
    let whole : Takes line y = record {
      text = front ∙ ap (λ (t : List ℕ). kind_text kind ++ (codes " " ++ t)) (found.0 ∙ ap (λ (t : List ℕ). decimal b.0.0 ++ t) name);
      fits = record { number = found.1; name = w.0 };
    } in
    subst (Takes line) w.1 whole

takes : (line : List ℕ) (x : Naming) → naming_of line ≡ Some x → Takes line x
unfolding naming_of
takes line x e =
    ⊎_elim
    (λ t. taken_behind Thread line t.0 x (after_taken (codes "thread ") line t.0 t.1) t.2)
    (λ e1. ⊎_elim
    (λ t. taken_behind Variable line t.0 x (after_taken (codes "variable ") line t.0 t.1) t.2)
    (λ e2. ⊎_elim
    (λ t. taken_behind Lock line t.0 x (after_taken (codes "lock ") line t.0 t.1) t.2)
    (λ e3. ⊎_elim
    (λ t. taken_behind Label line t.0 x (after_taken (codes "label ") line t.0 t.1) t.2)
    (λ none. absurd (let n = none in cc))
    (by_word_is (after_word (codes "label ") line) (number_and_name_at Label) None x e3))
    (by_word_is (after_word (codes "lock ") line) (number_and_name_at Lock) (by_word (after_word (codes "label ") line) (number_and_name_at Label) None) x e2))
    (by_word_is (after_word (codes "variable ") line) (number_and_name_at Variable) (by_word (after_word (codes "lock ") line) (number_and_name_at Lock) (by_word (after_word (codes "label ") line) (number_and_name_at Label) None)) x e1))
    (by_word_is (after_word (codes "thread ") line) (number_and_name_at Thread) (by_word (after_word (codes "variable ") line) (number_and_name_at Variable) (by_word (after_word (codes "lock ") line) (number_and_name_at Lock) (by_word (after_word (codes "label ") line) (number_and_name_at Label) None))) x e)

pub naming_taken : (line : List ℕ) (x : Naming) → naming_of line ≡ Some x → (line ≡ naming_text x) × IsNaming x
naming_taken line x e = ((takes line x e).text, (takes line x e).fits)

-- ---- what is taken again

behind_again : (kind : NameKind) (n : ℕ) (name : List ℕ) → n ≤ greatest kind → IsTrue (is_name name) → number_and_name_at kind (decimal n ++ (codes " " ++ name)) ≡ Some (record { kind = kind; number = n; name = name })
behind_again kind n name le ok =
    ap (λ (o : Option (ℕ × List ℕ)). o >>= λ n. after_word (codes " ") n.1 >>= λ name. name_at kind n.0 name) (number_again (greatest kind) n 32 name le (large kind).1 refl)
    ∙ ap (λ (o : Option (List ℕ)). o >>= λ name. name_at kind n name) (after_again (codes " ") name)
    ∙ ap (λ (b : Bool). cond b (Some (record { kind = kind; number = n; name = name })) None) ok

again : (kind : NameKind) (n : ℕ) (name : List ℕ) → n ≤ greatest kind → IsTrue (is_name name) → naming_of (kind_text kind ++ (codes " " ++ (decimal n ++ (codes " " ++ name)))) ≡ Some (record { kind = kind; number = n; name = name })
unfolding naming_of
again Thread n name le ok = behind_again Thread n name le ok
again Variable n name le ok = behind_again Variable n name le ok
again Lock n name le ok = behind_again Lock n name le ok
again Label n name le ok = behind_again Label n name le ok

pub naming_again : (x : Naming) → IsNaming x → naming_of (naming_text x) ≡ Some x
naming_again x h = again x.kind x.number x.name h.number h.name
