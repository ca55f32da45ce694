use Rattle.std.proofs.Common.{◌∙◌, ◌∷◌, ◌++◌, List, [], ap, sym}
use Rattle.std.specs.Global.{Vec}
use Rattle.velo_events.specs.declared.event.ThreadId.{ThreadId}
use Rattle.velo_explore.specs.Drawing.{stream}
use Rattle.velo_explore.proofs.OnDrawing.{behind-none, drawn-none, drawn-over, drawn-some, rest-next}
use Rattle.velo_explore.proofs.drawing.draw.Goals as goal
use Rattle.velo_explore.proofs.drawing.draw.Goals.{in-Some+in_ok-reserve, in_default}

pub loop-init : goal.loop-init
loop-init c = record {
  turns = c.new-turns.ensures.items ∙ sym (drawn-none c.args.threads (stream c.args.random.now));
  rest = sym (behind-none (stream c.args.random.now));
}

pub loop-preserved : goal.loop-preserved
loop-preserved c =
    let s = stream c.args.random.now in
    let here = stream c.loop.random in
    record {
      turns = elim c.match-draw_thread.branch [
        | in-Some+in_ok-reserve w ↦
            ap (λ (v : Vec ThreadId). v.items) w.turns-is
            ∙ (w.push_reserved.ensures.items
            ∙ (ap (λ (l : List ThreadId). l ++ w.in-Some.thread ∷ []) w.reserve.ensures.items
            ∙ drawn-some c.args.threads c.loop.counter s here c.loop.turns.items c.draw_thread.result w.in-Some.thread c.loop.invariant.rest c.loop.invariant.turns c.draw_thread.ensures.thread w.in-Some.is))
        | in_default w ↦
            ap (λ (v : Vec ThreadId). v.items) w.turns-is
            ∙ drawn-over c.args.threads c.loop.counter s here c.loop.turns.items c.draw_thread.result c.loop.invariant.rest c.loop.invariant.turns c.draw_thread.ensures.thread w.in_default.is
      ];
      rest = rest-next c.loop.counter s here (stream c.draw_thread.new.random) c.loop.invariant.rest c.draw_thread.ensures.rest;
    }
