use Rattle.std.proofs.Common.{inr, sym, ◌∙◌, subst}
use Rattle.velo_check.specs.Disk.{store}
use Rattle.velo_check.specs.Writing.{writing}
use Rattle.velo_thinning.specs.Texts.{IsMapFor, IsSent, saves_of}
use Rattle.velo_thinning.proofs.delivering.deliver_thinned.Goals as goal

pub returns : goal.returns
returns g c =
    let s = store g.F.Files.disk c.args.files.now c.send.new.files in
    let stdout = writing g.O.Sink.contents g.O.Sink.failures c.args.out.now c.send.new.out in
    inr (
      c.deref-2.result,
      subst (IsMapFor c.args.targets.now.map c.args.thinned.now.left.places.items) (sym c.deref-2.ensures.value)
          (subst (λ places. IsMapFor c.args.targets.now.map places c.in-Ok-map_for.map.items) c.deref.ensures.value c.in-Ok-map_for.ensures),
      subst (λ counts. IsSent (saves_of c.args.thinned c.args.targets.now c.deref-2.result) counts s stdout c.send.result) (c.deref-3.ensures.value ∙ c.in-Ok.ensures) c.send.ensures,
    )
