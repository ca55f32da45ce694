use Rattle.std.proofs.Common.{◌≡◌, ℕ, ◌+◌, ◌≤◌, List, length, ap, sym, subst, ◌∙◌, arith}
use Rattle.velo_events.specs.declared.config.Bounds.{Bounds}
use Rattle.velo_events.specs.declared.config.Config.{Config}
use Rattle.velo_events.specs.WellFormed.{IsWellFormed}
use Rattle.std.proofs.lemmas.Result.{on_ok_weaker, on_err_weaker}
use Rattle.velo_laws.specs.Renewal.{StandsInTheWay}
use Rattle.velo_world.specs.World.{WorldState}
use Rattle.velo_watch.specs.Kept.{IsKept, CannotBeCut, WasCutInTime}
use Rattle.velo_watch.specs.Piece.{BeginsWithPrologue}
use Rattle.velo_watch.proofs.OnPieces.{prologue_alone, kept_cut, cut_late, late_cut, late_still, never_late, not_cut}
use Rattle.velo_watch.proofs.piece.LogPiece.cut.Goals as goal

pub restart-requires-clause-heap : goal.restart-requires-clause-heap
restart-requires-clause-heap c = c.requires.heap

pub returns-in-Ok-clause-follows : goal.returns-in-Ok-clause-follows
returns-in-Ok-clause-follows c =
    let made = c.in-Ok.world.log in
    let long : c.len-self.result ≡ length made = c.len-self.ensures ∙ ap length c.log-in-Ok.ensures.events in
    record {
      live = ap (λ (w : WorldState). w.halted) c.in-Ok.ensures.world;
      goes_on = ap (λ (w : WorldState). w.config.stop) c.in-Ok.ensures.world ∙ (ap (λ (k : Config). k.stop) c.config-2.ensures ∙ c.requires.follows.goes_on);
      ready = c.in-Ok.ensures.ready;
      prologue = subst (BeginsWithPrologue made) (sym long) (prologue_alone made (c.in-Ok.ensures.stands c.requires.heap.0 c.requires.heap.1).prologue.no_begin);
      few = c.requires.few;
    }

pub returns-in-Ok-clause-cut : goal.returns-in-Ok-clause-cut
returns-in-Ok-clause-cut c = λ whole stands count none kept.
    let made = c.in-Ok.world.log in
    let long : c.len-self.result ≡ length made = c.len-self.ensures ∙ ap length c.log-in-Ok.ensures.events in
    let config : c.in-Ok.world.config ≡ c.config-2.result = ap (λ (w : WorldState). w.config) c.in-Ok.ensures.world in
    let same : c.config-2.result ≡ c.args.self.now.world.config = c.config-2.ensures in
    let well : IsWellFormed c.config-2.result.bounds whole = subst (λ (b : Bounds). IsWellFormed b whole) (c.requires.bounds ∙ sym (ap (λ (k : Config). k.bounds) same)) stands.well_formed in
    let kept_now : IsKept c.config-2.result.bounds whole made c.args.count (length made) = kept_cut c.config-2.result.bounds whole made c.args.count well none count (c.in-Ok.ensures.stands whole stands) in
    subst (λ (k : Config). IsKept k.bounds whole made c.args.count c.len-self.result) (sym config)
    (subst (λ (n : ℕ). IsKept c.config-2.result.bounds whole made c.args.count n) (sym long) kept_now)

pub returns-in-Ok-clause-in_time : goal.returns-in-Ok-clause-in_time
returns-in-Ok-clause-in_time c = λ whole stands log event is count k was.
    let made = c.in-Ok.world.log in
    let long : c.len-self.result ≡ length made = c.len-self.ensures ∙ ap length c.log-in-Ok.ensures.events in
    let config : c.in-Ok.world.config ≡ c.config-2.result = ap (λ (w : WorldState). w.config) c.in-Ok.ensures.world in
    subst (λ (k : Config). WasCutInTime k whole c.args.count c.len-self.result) (sym config)
    (late_cut c.config-2.result whole c.args.count c.len-self.result made count (sym long) (c.in-Ok.ensures.stands whole stands))

pub returns-in-Err-clause-in_time : goal.returns-in-Err-clause-in_time
returns-in-Err-clause-in_time c =
    on_ok_weaker c.unless_memory.result
    (λ other whole stands log event is count k was.
    let own = c.args.self.now in
    let none : CannotBeCut own.world.config whole = subst (λ (k : Config). CannotBeCut k whole) c.config-2.ensures (not_cut c.config-2.result whole c.in-Err.reason (c.in-Err.ensures.reason whole stands) other) in
    late_still own.world.config whole own.before own.prologue log event is was none)
    c.unless_memory.ensures.other

pub returns-in-Ok-clause-late : goal.returns-in-Ok-clause-late
returns-in-Ok-clause-late c = λ whole stands late.
    let made = c.in-Ok.world.log in
    let long : c.len-self.result ≡ length made = c.len-self.ensures ∙ ap length c.log-in-Ok.ensures.events in
    let config : c.in-Ok.world.config ≡ c.config-2.result = ap (λ (w : WorldState). w.config) c.in-Ok.ensures.world in
    let late_now : length made + c.config-2.result.events ≤ length made + length made =
    subst (λ (k : Config). length made + k.events ≤ length made + length made) config (subst (λ (n : ℕ). n + c.in-Ok.world.config.events ≤ length made + length made) long late) in
    subst (λ (k : Config). CannotBeCut k whole) (sym config) (cut_late c.config-2.result whole made (c.in-Ok.ensures.stands whole stands) late_now)

pub returns-in-Err-clause-late : goal.returns-in-Err-clause-late
returns-in-Err-clause-late c =
    on_ok_weaker c.unless_memory.result
    (λ other whole stands late. subst (λ (k : Config). CannotBeCut k whole) c.config-2.ensures (not_cut c.config-2.result whole c.in-Err.reason (c.in-Err.ensures.reason whole stands) other))
    c.unless_memory.ensures.other

pub returns-in-Err-clause-memory : goal.returns-in-Err-clause-memory
returns-in-Err-clause-memory c =
    on_err_weaker c.unless_memory.result
    (λ is. subst (StandsInTheWay c.config-2.result c.requires.heap.0) is (c.in-Err.ensures.reason c.requires.heap.0 c.requires.heap.1))
    c.unless_memory.ensures.memory
