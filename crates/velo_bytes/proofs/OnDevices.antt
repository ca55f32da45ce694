-- Known bytes through several calls of a device.
use Rattle.std.proofs.Common.{◌≡◌, ℕ, ◌+◌, List, [], ◌++◌, take, drop, Option, Some, None, sym, ap, subst, ◌∙◌, append_assoc}
use Rattle.std.proofs.Math.Seq.{take-add}
use Rattle.std.proofs.lemmas.List.{append-nil, take-append-drop}
use Rattle.std.specs.Io.KnownBytes.{Appends, Keeps, Consumes, prepend_known}
use Rattle.velo_bytes.specs.Device.{AppendsBeginning}

-- ---- a sink

pub appends_then : (a b c : Option (List ℕ)) (xs ys : List ℕ) → Appends a b xs → Appends b c ys → Appends a c (xs ++ ys)
appends_then None b c xs ys p q = tt
appends_then (Some x) None c xs ys p q = absurd p
appends_then (Some x) (Some y) None xs ys p q = absurd q
appends_then (Some x) (Some y) (Some z) xs ys p q = q ∙ ap (λ (t : List ℕ). t ++ ys) p ∙ append_assoc x xs ys

pub appends_nothing : (a : Option (List ℕ)) → Appends a a []
appends_nothing None = tt
appends_nothing (Some x) = sym (append-nil x)

pub appends_kept : (a b c : Option (List ℕ)) (xs : List ℕ) → Appends a b xs → Keeps b c → Appends a c xs
appends_kept None b c xs p q = tt
appends_kept (Some x) None c xs p q = absurd p
appends_kept (Some x) (Some y) None xs p q = absurd q
appends_kept (Some x) (Some y) (Some z) xs p q = q ∙ p

-- one write more
pub appends_more : (a b c : Option (List ℕ)) (bytes : List ℕ) (done taken : ℕ) → Appends a b (take done bytes) → Appends b c (take taken (drop done bytes)) → Appends a c (take (done + taken) bytes)
appends_more a b c bytes done taken p q = rw take-add (appends_then a b c (take done bytes) (take taken (drop done bytes)) p q)

-- a write that failed behind a beginning
pub appends_failed : (a b c : Option (List ℕ)) (bytes : List ℕ) (done : ℕ) → Appends a b (take done bytes) → Keeps b c → AppendsBeginning a c bytes
appends_failed a b c bytes done p q =
    record { beginning = take done bytes; rest = drop done bytes; split = sym (take-append-drop done bytes); appends = appends_kept a b c (take done bytes) p q }

-- a beginning behind what went out before
pub beginning_then : (a b c : Option (List ℕ)) (xs ys zs all : List ℕ) → Appends a b xs → AppendsBeginning b c ys → all ≡ (xs ++ ys) ++ zs → AppendsBeginning a c all
beginning_then a b c xs ys zs all p q e =
    record {
      beginning = xs ++ q.beginning;
      rest = q.rest ++ zs;
      split = e ∙ ap (λ (t : List ℕ). (xs ++ t) ++ zs) q.split ∙ ap (λ (t : List ℕ). t ++ zs) (sym (append_assoc xs q.beginning q.rest)) ∙ append_assoc (xs ++ q.beginning) q.rest zs;
      appends = appends_then a b c xs q.beginning p q.appends;
    }

-- ---- a source

pub keeps_then : (a b c : Option (List ℕ)) → Keeps a b → Keeps b c → Keeps a c
keeps_then None b c p q = tt
keeps_then (Some x) None c p q = absurd p
keeps_then (Some x) (Some y) None p q = absurd q
keeps_then (Some x) (Some y) (Some z) p q = q ∙ p

-- bytes that were read stand behind those that were there
pub keeps_read : (there read : List ℕ) (a b : Option (List ℕ)) → Consumes a b read → Keeps (prepend_known there a) (prepend_known (there ++ read) b)
keeps_read there read None b p = tt
keeps_read there read (Some x) None p = absurd p
keeps_read there read (Some x) (Some y) p = append_assoc there read y ∙ ap (λ (t : List ℕ). there ++ t) (sym p)

-- the same front before known bytes
pub keeps_front : (front xs ys : List ℕ) (a b : Option (List ℕ)) → Keeps (prepend_known xs a) (prepend_known ys b) → Keeps (prepend_known (front ++ xs) a) (prepend_known (front ++ ys) b)
keeps_front front xs ys None b p = tt
keeps_front front xs ys (Some x) None p = absurd p
keeps_front front xs ys (Some x) (Some y) p = append_assoc front ys y ∙ ap (λ (t : List ℕ). front ++ t) p ∙ sym (append_assoc front xs x)

-- ---- a sink behind a buffer

-- the text so far is what known bytes grew by, and then what is held
pub record WroteSome (old new : Option (List ℕ)) (held text : List ℕ) : Type 0 where
  pub out : List ℕ
  pub appends : Appends old new out
  pub whole : text ≡ out ++ held

-- more is held
pub wrote_held : (old new : Option (List ℕ)) (held text more : List ℕ) → WroteSome old new held text → WroteSome old new (held ++ more) (text ++ more)
wrote_held old new held text more w = record { out = w.out; appends = w.appends; whole = ap (λ (t : List ℕ). t ++ more) w.whole ∙ append_assoc w.out held more }

-- what was held went out
pub wrote_all : (old new after : Option (List ℕ)) (held text : List ℕ) → WroteSome old new held text → Appends new after held → Appends old after text
wrote_all old new after held text w p = subst (Appends old after) (sym w.whole) (appends_then old new after w.out held w.appends p)

pub wrote_out : (old new after : Option (List ℕ)) (held text : List ℕ) → WroteSome old new held text → Appends new after held → WroteSome old after [] text
wrote_out old new after held text w p = record { out = text; appends = wrote_all old new after held text w p; whole = sym (append-nil text) }

-- a beginning of what was held went out, and this is a beginning of all
pub wrote_part : (old new after : Option (List ℕ)) (held text more all : List ℕ) → WroteSome old new held text → AppendsBeginning new after held → all ≡ text ++ more → AppendsBeginning old after all
wrote_part old new after held text more all w p e = beginning_then old new after w.out held more all w.appends p (e ∙ ap (λ (t : List ℕ). t ++ more) w.whole)
