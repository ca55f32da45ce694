-- States that are the same stand for the same logs.
use Rattle.std.proofs.Common.{ℕ, ◌∙◌, List, sym, subst}
use Rattle.std.specs.Prelude.{slice_index_or}
use Rattle.std.proofs.lemmas.Option.{same_Some, slice_get-get_or, slice_get_within}
use Rattle.velo_events.specs.declared.event.Event.{Event}
use Rattle.velo_events.specs.Tally.{events_of}
use Rattle.velo_heap.specs.Contents.{Tabulates, IsHeapOf}
use Rattle.velo_search.specs.declared.state.State.{State}
use Rattle.velo_search.specs.Marks.{summary_by}
use Rattle.velo_search.specs.Search.{IsAt, StandsAmong}
use Rattle.velo_search.specs.States.{AreSameStates, IsStateOf}
use Rattle.velo_search.specs.Summary.{IsSummaryOf}

pub stands-same : (one other : State) → AreSameStates one other → (rest : List Event → List Event) (log : List Event) → IsStateOf rest log other → IsStateOf rest log one
stands-same one other same rest log stands = record {
  heap = subst (λ h. IsHeapOf h log) (sym same.heap) stands.heap;
  next = subst (λ xs. Tabulates xs (events_of log)) (sym same.next) stands.next;
  graph = subst (λ b. IsSummaryOf (rest log) (summary_by b one.marks.alarmed one.marks.marks.items)) (sym same.marks.bounds)
      (subst (λ a. IsSummaryOf (rest log) (summary_by other.marks.bounds a one.marks.marks.items)) (sym same.marks.alarmed)
      (subst (λ ms. IsSummaryOf (rest log) (summary_by other.marks.bounds other.marks.alarmed ms)) (sym same.marks.marks) stands.graph));
}

pub among-at : (states : List State) (place : ℕ) (state : State) → IsAt states place state → StandsAmong states state
among-at states place state w =
    let within = slice_get_within states place w.member w.there in
    record {
      member = w.member;
      there = (place, within, same_Some (slice_index_or states place w.member) w.member (sym (slice_get-get_or states place w.member within) ∙ w.there));
      logs = stands-same w.member state w.same;
    }
