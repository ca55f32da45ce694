-- What holds of a result, from what holds at `Ok` and at `Err`.
use Rattle.std.proofs.Common.{Result, Ok, Err}
use Rattle.std.specs.Prelude.{OnOk, OnErr}

pub from_either : {A E : Type 0} (r : Result A E) (P Q R : Type 0) → OnOk r P → OnErr r Q → (P → R) → (Q → R) → R
from_either (Ok x) P Q R ok err p q = p ok
from_either (Err x) P Q R ok err p q = q err

pub OnOk-weaker : {A E : Type 0} (r : Result A E) (P Q : Type 0) → OnOk r P → (P → Q) → OnOk r Q
OnOk-weaker (Ok x) P Q ok p = p ok
OnOk-weaker (Err x) P Q ok p = tt

pub OnErr-from : {A E : Type 0} (r : Result A E) (P : Type 0) → P → OnErr r P
OnErr-from (Ok x) P p = tt
OnErr-from (Err e) P p = p

pub OnErr-weaker : {A E : Type 0} (r : Result A E) (P Q : Type 0) → OnErr r P → (P → Q) → OnErr r Q
OnErr-weaker (Ok x) P Q err q = tt
OnErr-weaker (Err x) P Q err q = q err
