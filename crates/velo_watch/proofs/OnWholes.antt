-- The counts of each thread's events, one event after another.
use Rattle.std.proofs.Common.{◌≡◌, ℕ, ◌+◌, ◌<◌, ◌≤◌, List, [], ◌∷◌, ◌++◌, length, set, replicate, get_or, Option, Some, None, refl, sym, ap, ◌∙◌, subst, arith, eq-eqb, length-append}
use Rattle.std.specs.Prelude.{slice_get, ◌==◌, if◌then◌else◌}
use Rattle.std.proofs.lemmas.Bool.{ne_eqb}
use Rattle.std.proofs.lemmas.List.Sums.{count_by-le-length}
use Rattle.velo_events.specs.declared.config.Bounds.{Bounds}
use Rattle.velo_events.specs.declared.event.Event.{Event}
use Rattle.velo_events.specs.Event.{thread_of, is_by}
use Rattle.velo_events.specs.Heap.{times}
use Rattle.velo_events.specs.Tally.{events_of}
use Rattle.velo_events.proofs.OnTraces.{times-nil, times-yes, times-no, times-push}
use Rattle.velo_events.proofs.OnWellFormed.{IsWellFormed-nil}
use Rattle.velo_heap.specs.Contents.{Tabulates}
use Rattle.velo_heap.proofs.OnTables.{Tabulates-replicate, Tabulates-set, get_or-tabulated}

pub none_counted : (n : ℕ) → Tabulates (replicate n 0) (events_of [])
none_counted n = Tabulates-replicate n 0 (events_of []) (λ t. times-nil (is_by t))

-- a thread has no more events than there are
pub few_of : (log : List Event) (t : ℕ) → events_of log t ≤ length log
unfolding times
few_of log t = count_by-le-length (is_by t) log

-- the same of what stands at the thread's place
pub few_counted : (counts : List ℕ) (log : List Event) (t x : ℕ) → Tabulates counts (events_of log) → t < length counts → x ≡ get_or counts t x → x ≤ length log
few_counted counts log t x table within is =
    let own : x ≡ events_of log t = is ∙ get_or-tabulated counts (events_of log) x t table within in
    let few = few_of log t in
    omega (arith, own, few)

pub counted_one : (counts : List ℕ) (log : List Event) (e : Event) (t x : ℕ) → Tabulates counts (events_of log) → t ≡ thread_of e → t < length counts → x ≡ get_or counts t x → Tabulates (set counts t (x + 1)) (events_of (log ++ e ∷ []))
counted_one counts log e t x table at within is =
    let own : x ≡ events_of log t = is ∙ get_or-tabulated counts (events_of log) x t table within in
    Tabulates-set counts (events_of log) (events_of (log ++ e ∷ [])) t (x + 1) table within
    (times-yes (is_by t) log e (eq-eqb (thread_of e) t (sym at)) ∙ ap (λ n. n + 1) (sym own))
    (λ u other. times-no (is_by u) log e (ne_eqb (thread_of e) u (λ same. other (sym (at ∙ same)))))
