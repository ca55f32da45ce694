-- Names are text, and the words of a line say what its reader takes them to say.
use Rattle.std.proofs.Common.{◌≡◌, ℕ, ◌<◌, Bool, true, false, eqb, List, [], ◌∷◌, length, refl, ap, ◌∙◌, arith}
use Rattle.std.specs.List.{list_all}
use Rattle.std.specs.Str.{IsAscii, IsUtf8}
use Rattle.std.proofs.lemmas.Str.{IsUtf8-from_ascii}
use Rattle.std.proofs.lemmas.Str.Ascii.{IsAscii-nil, IsAscii-cons}
use Rattle.std.proofs.lemmas.Bool.{and_parts}
use Rattle.std.proofs.lemmas.Bool.Decides.{nat_tests}
use Rattle.velo_workload.specs.Words.{Word, AreWords, is_name, is_name_byte}
use Rattle.velo_workload.specs.Phrase.{verb_of, argument_of, bad_phrase, phrase_of_one_word, phrase_with_argument, phrase_by, phrase_of_words}

small : (b : ℕ) → is_name_byte b ≡ true → b < 128
small b e = grind (arith, nat_tests)

name_ascii : (w : List ℕ) → list_all is_name_byte w ≡ true → IsAscii w
name_ascii [] e = IsAscii-nil
name_ascii (b ∷ bs) e =
    let h = and_parts (is_name_byte b) (list_all is_name_byte bs) e in
    IsAscii-cons b bs (small b h.0) (name_ascii bs h.1)

pub name_text : (w : List ℕ) → is_name w ≡ true → IsUtf8 w
name_text [] e = absurd cc
name_text (c ∷ cs) e =
    let h = and_parts _ _ e in
    let k = and_parts _ _ h.1 in
    IsUtf8-from_ascii (c ∷ cs) (name_ascii (c ∷ cs) k.1)

some_bytes : (w : Word) → 0 < length w → eqb (length w) 0 ≡ false
some_bytes w some = grind (arith, nat_tests)

by_one : (w : Word) → 0 < length w → phrase_by w [] false ≡ phrase_of_one_word (verb_of w)
by_one w some = rw (some_bytes w some) refl

by_two : (w x : Word) → 0 < length w → 0 < length x → phrase_by w x false ≡ phrase_with_argument (verb_of w) (argument_of (verb_of w)) x
by_two w x some more = rw (some_bytes w some, some_bytes x more) refl

by_more : (w x : Word) → 0 < length w → phrase_by w x true ≡ bad_phrase (verb_of w)
by_more w x some = rw (some_bytes w some) refl

pub phrase_by_words : (f s : Word) (m : Bool) (ws : List Word) → AreWords f s m ws → phrase_by f s m ≡ phrase_of_words ws
phrase_by_words f s m [] are = ap (λ (v : Word). phrase_by v s m) are.0
phrase_by_words f s m (w ∷ []) are = (λ i. phrase_by (are.0 i) (are.1 i) (are.2 i)) ∙ by_one w are.3
phrase_by_words f s m (w ∷ x ∷ []) are = (λ i. phrase_by (are.0 i) (are.1 i) (are.2 i)) ∙ by_two w x are.3 are.4
phrase_by_words f s m (w ∷ x ∷ y ∷ zs) are = (λ i. phrase_by (are.0 i) (are.1 i) (are.2 i)) ∙ by_more w x are.3
