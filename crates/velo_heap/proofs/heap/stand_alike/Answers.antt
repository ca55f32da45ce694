use Rattle.std.proofs.Common.{refl, sym, ◌∙◌}
use Rattle.std.proofs.lemmas.Bool.{and_from, and_parts, eq-eqb, eqb-true, false≢true}
use Rattle.velo_events.specs.declared.event.Status.TheVariants.{Unborn, Live, Exited, Joined}
use Rattle.velo_events.specs.contracts.event.StatusPartialEq.TheImpl as of_status
use Rattle.velo_heap.specs.contracts.thread_state.ThreadStatePartialEq.TheImpl as of_thread_state
use Rattle.velo_heap.proofs.OnSameness.{Tells, Tells-lists, TellsOwn, same-lists}
use Rattle.velo_heap.proofs.OnThreadStates.{same_thread_state}
use Rattle.velo_heap.proofs.heap.stand_alike.Goals as goal

same_status : Tells (of_status.eq-value).it
same_status Unborn Unborn h = refl
same_status Live Live h = refl
same_status Exited Exited h = refl
same_status Joined Joined h = refl
same_status _ _ h = absurd (false≢true h)

same : Tells (of_thread_state.eq-value).it
same a b h =
    let first = and_parts _ _ h in
    let second = and_parts _ _ first.1 in
    same_thread_state a.status b.status a.depth b.depth a.locks b.locks (same_status a.status b.status first.0) (eqb-true a.depth b.depth second.0) (eqb-true a.locks b.locks second.1)

own_status : TellsOwn (of_status.eq-value).it
own_status Unborn = refl
own_status Live = refl
own_status Exited = refl
own_status Joined = refl

own : TellsOwn (of_thread_state.eq-value).it
own a = and_from _ _ (own_status a.status) (and_from _ _ (eq-eqb a.depth a.depth refl) (eq-eqb a.locks a.locks refl))

pub returns : goal.returns
returns c = (
  λ h. Tells-lists (of_thread_state.eq-value).it same c.args.one.now c.args.other.now (sym c.eq.ensures ∙ h),
  λ is. c.eq.ensures ∙ same-lists (of_thread_state.eq-value).it own c.args.one.now c.args.other.now is,
)
