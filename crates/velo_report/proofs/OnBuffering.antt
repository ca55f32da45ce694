-- Bytes that pass through what is gathered to a sink.
use Rattle.std.proofs.Common.{◌≡◌, ℕ, List, [], ◌++◌, Option, sym, ap, ◌∙◌, subst, append_assoc}
use Rattle.std.proofs.lemmas.List.{append-nil}
use Rattle.std.specs.Io.KnownBytes.{Appends}
use Rattle.velo_bytes.specs.Device.{AppendsBeginning}
use Rattle.velo_bytes.proofs.OnDevices.{appends_then, appends_nothing, beginning_then}
use Rattle.velo_report.specs.Lines.{Buffers}

-- ---- steps that succeed

-- nothing is added
pub buffers-nothing : (a : Option (List ℕ)) (before : List ℕ) → Buffers a a before before []
buffers-nothing a before = record { out = []; appends = appends_nothing a; whole = append-nil before }

-- what was gathered goes out, and then the bytes
pub buffers-written : (a b c : Option (List ℕ)) (before after bytes : List ℕ) → Appends a b before → after ≡ [] → Appends b c bytes → Buffers a c before after bytes
buffers-written a b c before after bytes p none q =
    record { out = before ++ bytes; appends = appends_then a b c before bytes p q; whole = sym (append-nil (before ++ bytes)) ∙ ap (λ (t : List ℕ). (before ++ bytes) ++ t) (sym none) }

-- one after the other
pub buffers-then : (a b c : Option (List ℕ)) (before between after xs ys : List ℕ) → Buffers a b before between xs → Buffers b c between after ys → Buffers a c before after (xs ++ ys)
buffers-then a b c before between after xs ys p q =
    record {
      out = p.out ++ q.out;
      appends = appends_then a b c p.out q.out p.appends q.appends;
      whole = sym (append_assoc before xs ys)
          ∙ ap (λ (t : List ℕ). t ++ ys) p.whole
          ∙ append_assoc p.out between ys
          ∙ ap (λ (t : List ℕ). p.out ++ t) q.whole
          ∙ sym (append_assoc p.out q.out after);
    }

-- at the end all goes out
pub buffers-flushed : (a b c : Option (List ℕ)) (before after bytes : List ℕ) → Buffers a b before after bytes → Appends b c after → Appends a c (before ++ bytes)
buffers-flushed a b c before after bytes p q = subst (Appends a c) (sym p.whole) (appends_then a b c p.out after p.appends q)

-- ---- a step that fails

-- behind others that did not, with more to come
pub buffers-failed : (a b c : Option (List ℕ)) (before between xs ys zs all : List ℕ) → Buffers a b before between xs → AppendsBeginning b c (between ++ ys) → all ≡ xs ++ (ys ++ zs) → AppendsBeginning a c (before ++ all)
buffers-failed a b c before between xs ys zs all p q is =
    beginning_then a b c p.out (between ++ ys) zs (before ++ all) p.appends q
    (ap (λ (t : List ℕ). before ++ t) is
    ∙ sym (append_assoc before xs (ys ++ zs))
    ∙ ap (λ (t : List ℕ). t ++ (ys ++ zs)) p.whole
    ∙ append_assoc p.out between (ys ++ zs)
    ∙ ap (λ (t : List ℕ). p.out ++ t) (sym (append_assoc between ys zs))
    ∙ sym (append_assoc p.out (between ++ ys) zs))

-- the first
pub first-failed : (a c : Option (List ℕ)) (before ys zs all : List ℕ) → AppendsBeginning a c (before ++ ys) → all ≡ ys ++ zs → AppendsBeginning a c (before ++ all)
first-failed a c before ys zs all q is = buffers-failed a a c before before [] ys zs all (buffers-nothing a before) q is

-- the last
pub last-failed : (a b c : Option (List ℕ)) (before between xs ys : List ℕ) → Buffers a b before between xs → AppendsBeginning b c (between ++ ys) → AppendsBeginning a c (before ++ (xs ++ ys))
last-failed a b c before between xs ys p q = buffers-failed a b c before between xs ys [] (xs ++ ys) p q (ap (λ (t : List ℕ). xs ++ t) (sym (append-nil ys)))

-- what was gathered goes out, and a beginning of the bytes
pub written-failed : (a b c : Option (List ℕ)) (before bytes : List ℕ) → Appends a b before → AppendsBeginning b c bytes → AppendsBeginning a c (before ++ bytes)
written-failed a b c before bytes p q =
    beginning_then a b c before bytes [] (before ++ bytes) p q (sym (append-nil (before ++ bytes)))

-- at the end a beginning of what is left goes out
pub flush-failed : (a b c : Option (List ℕ)) (before after bytes : List ℕ) → Buffers a b before after bytes → AppendsBeginning b c after → AppendsBeginning a c (before ++ bytes)
flush-failed a b c before after bytes p q =
    beginning_then a b c p.out after [] (before ++ bytes) p.appends q (p.whole ∙ sym (append-nil (p.out ++ after)))
