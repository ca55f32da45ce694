-- Turns and rounds, as the code does them one after another.
use Rattle.std.proofs.Common.{◌≡◌, ◌<◌, ◌≤◌, ℕ, suc, ◌+◌, ◌-◌, List, [], ◌∷◌, ◌++◌, length, Some, None, refl, sym, ◌∙◌, ap, subst, arith, inl, inr, length-append, length-set, Bool}
use Rattle.std.specs.Prelude.{IsTrue, ◌↔◌, Option, ◌&&◌}
use Rattle.std.proofs.lemmas.Bool.{and_parts, and_from}
use Rattle.velo_events.specs.declared.event.Action.{Action}
use Rattle.velo_events.specs.declared.event.Event.{Event}
use Rattle.velo_events.specs.declared.event.ThreadId.{ThreadId}
use Rattle.velo_events.specs.Graph.{HasCycle}
use Rattle.velo_events.specs.Meaning.{event_for}
use Rattle.velo_ledger.specs.Views.{Holding}
use Rattle.velo_events.specs.Event.{value_read}
use Rattle.velo_world.specs.World.{WorldState, meaning, ActsAt}
use Rattle.velo_world.specs.declared.analysis.Reply.{Reply}
use Rattle.velo_worker.specs.declared.ending.Ending.{Ending}
use Rattle.velo_worker.specs.declared.ending.Ending.TheVariants.{Done, Stuck, Halted, Refused, Gated}
use Rattle.velo_worker.specs.declared.progress.Progress.{Progress}
use Rattle.velo_worker.specs.Schedule.{ReplayState, Happens, Tries, TurnOf, TurnsOf, RoundsOf, AllIdle, threads_from, all_threads}

-- ---- one event

-- what a step of the world did
pub record Happened (w : WorldState) (t : ThreadId) (action : Action) (reply : Reply) (w' : WorldState) : Type 0 where
  pub event : Event
  pub happens : Happens w t action event w'
  pub value : reply.value ≡ value_read event.kind

halted_by : (halted stop alarmed : Bool) (log log' : List Event) → halted ≡ (stop && alarmed) → log' ≡ log → IsTrue alarmed ↔ HasCycle log → IsTrue halted ↔ (IsTrue stop × HasCycle log')
halted_by halted stop alarmed log log' is same iff = (
  λ h. let both = and_parts stop alarmed (sym is ∙ h) in (both.0, subst HasCycle (sym same) (iff.0 both.1)),
  λ p. is ∙ and_from stop alarmed p.0 (iff.1 (subst HasCycle same p.1)),
)

pub Happened-step : (w : WorldState) (places : List (Option Holding)) (t : ThreadId) (action : Action) (reply : Reply) (w' : WorldState) (places' : List (Option Holding))
    → ActsAt w places t action reply w' places' → Happened w t action reply w'
Happened-step w places t action reply w' places' did =
    let adds = did.acts.1 in record {
      event = event_for w.log did.share.thread action;
      happens = record {
        due = ap (λ u. meaning w u action) (sym did.own) ∙ did.acts.0;
        config = adds.config;
        log = adds.log;
        halted = halted_by w'.halted w.config.stop reply.alarmed (w.log ++ event_for w.log did.share.thread action ∷ []) w'.log adds.halted adds.log adds.replies.alarmed;
      };
      value = adds.replies.value;
    }

-- ---- what turns leave as it was

pub record Kept (c c' : ReplayState) : Type 0 where
  pub config : c'.world.config ≡ c.world.config
  pub log : length c.world.log ≤ length c'.world.log
  pub threads : length c'.threads ≡ length c.threads

Kept-same : (c c' : ReplayState) → c' ≡ c → Kept c c'
Kept-same c c' e = subst (Kept c) (sym e) (record { config = refl; log = omega arith; threads = refl })

world_kept : (w : WorldState) (t : ThreadId) (p : Progress) (stop : Option Ending) (w' : WorldState) (p' : Progress) → Tries w t p stop w' p' → (w'.config ≡ w.config) × (length w.log ≤ length w'.log)
world_kept w t p None w' p' (inl (e, did, after)) = (did.config, omega (arith, ap length did.log, length-append w.log (e ∷ [])))
world_kept w t p None w' p' (inr (r, waits, due, same, after)) = (ap (λ v. v.config) same, omega (arith, ap (λ v. length v.log) same))
world_kept w t p (Some Halted) w' p' (due, same, after) = (ap (λ v. v.config) same, omega (arith, ap (λ v. length v.log) same))
world_kept w t p (Some (Refused u r)) w' p' (own, not_halted, ends, same, after) = (ap (λ v. v.config) same, omega (arith, ap (λ v. length v.log) same))
world_kept w t p (Some Done) w' p' never = absurd never
world_kept w t p (Some Stuck) w' p' never = absurd never
world_kept w t p (Some Gated) w' p' never = absurd never

pub Kept-turn : (c : ReplayState) (t : ThreadId) (stop : Option Ending) (c' : ReplayState) → TurnOf c t stop c' → Kept c c'
Kept-turn c t stop c' (inl (idle, none, same)) = Kept-same c c' same
Kept-turn c t stop c' (inr turn) =
    let kept = world_kept c.world t turn.before stop c'.world turn.after turn.tries in
    record { config = kept.0; log = kept.1; threads = ap length turn.threads ∙ length-set c.threads t.0 turn.after }

Kept-trans : (a b c : ReplayState) → Kept a b → Kept b c → Kept a c
Kept-trans a b c p q = record { config = q.config ∙ p.config; log = omega (arith, p.log, q.log); threads = q.threads ∙ p.threads }

pub Kept-turns : (ts : List ThreadId) (c : ReplayState) (stop : Option Ending) (c' : ReplayState) → TurnsOf c ts stop c' → Kept c c'
unfolding TurnsOf
Kept-turns [] c stop c' (none, same) = Kept-same c c' same
Kept-turns (t ∷ ts) c stop c' (inl (ending, is, turn)) = Kept-turn c t stop c' turn
Kept-turns (t ∷ ts) c stop c' (inr (mid, turn, rest)) = Kept-trans c mid c' (Kept-turn c t None mid turn) (Kept-turns ts mid stop c' rest)

-- ---- turns one after another

-- what the turns from here on lead to, all turns lead to from the start
pub record LeadsOn (c0 : ReplayState) (ts0 : List ThreadId) (c : ReplayState) (ts : List ThreadId) : Type 0 where
  pub lead : (stop : Option Ending) (c' : ReplayState) → TurnsOf c ts stop c' → TurnsOf c0 ts0 stop c'
  pub kept : Kept c0 c

pub LeadsOn-next : (c0 : ReplayState) (ts0 : List ThreadId) (c : ReplayState) (t : ThreadId) (ts : List ThreadId) (mid : ReplayState) → LeadsOn c0 ts0 c (t ∷ ts) → TurnOf c t None mid → LeadsOn c0 ts0 mid ts
unfolding TurnsOf
LeadsOn-next c0 ts0 c t ts mid leads turn = record {
  lead = λ stop c' h. leads.lead stop c' (inr (mid, turn, h));
  kept = Kept-trans c0 c mid leads.kept (Kept-turn c t None mid turn);
}

pub LeadsOn-ended : (c0 : ReplayState) (ts0 : List ThreadId) (c : ReplayState) (t : ThreadId) (ts : List ThreadId) (ending : Ending) (c' : ReplayState) → LeadsOn c0 ts0 c (t ∷ ts) → TurnOf c t (Some ending) c'
    → TurnsOf c0 ts0 (Some ending) c'
unfolding TurnsOf
LeadsOn-ended c0 ts0 c t ts ending c' leads turn = leads.lead (Some ending) c' (inl (ending, refl, turn))

pub LeadsOn-all : (c0 : ReplayState) (ts0 : List ThreadId) (c : ReplayState) → LeadsOn c0 ts0 c [] → TurnsOf c0 ts0 None c
unfolding TurnsOf
LeadsOn-all c0 ts0 c leads = leads.lead None c (refl, refl)

pub threads_from-next : (n t : ℕ) → t < n → threads_from t (n - t) ≡ record { 0 = t } ∷ threads_from (t + 1) (n - (t + 1))
unfolding threads_from
threads_from-next n t h = let e : n - t ≡ suc (n - (t + 1)) = omega arith in rw e refl

pub threads_from-none : (n t : ℕ) → n ≤ t → threads_from t (n - t) ≡ []
unfolding threads_from
threads_from-none n t h = let e : n - t ≡ 0 = omega arith in rw e refl

-- ---- rounds one after another

pub record LeadsRounds (c0 c : ReplayState) : Type 0 where
  pub lead : (ending : Ending) (c' : ReplayState) → RoundsOf c ending c' → RoundsOf c0 ending c'

pub LeadsRounds-next : (c0 c mid : ReplayState) → LeadsRounds c0 c → ¬ AllIdle c → TurnsOf c (all_threads c) None mid → length c.world.log < length mid.world.log → LeadsRounds c0 mid
LeadsRounds-next c0 c mid leads some turns more = record {
  lead = λ ending c' h. leads.lead ending c' (RoundsOf.goes_on c mid c' ending (record { some = some; turns = turns }) more h);
}

pub rounds-idle : (c0 c : ReplayState) → LeadsRounds c0 c → AllIdle c → RoundsOf c0 Done c
rounds-idle c0 c leads idle = leads.lead Done c (RoundsOf.all_idle c idle)

pub rounds-ended : (c0 c c' : ReplayState) (ending : Ending) → LeadsRounds c0 c → ¬ AllIdle c → TurnsOf c (all_threads c) (Some ending) c' → RoundsOf c0 ending c'
rounds-ended c0 c c' ending leads some turns = leads.lead ending c' (RoundsOf.ended c c' ending (record { some = some; turns = turns }))

pub rounds-stuck : (c0 c c' : ReplayState) → LeadsRounds c0 c → ¬ AllIdle c → TurnsOf c (all_threads c) None c' → length c'.world.log ≡ length c.world.log → RoundsOf c0 Stuck c'
rounds-stuck c0 c c' leads some turns same = leads.lead Stuck c' (RoundsOf.no_event c c' (record { some = some; turns = turns }) same)
