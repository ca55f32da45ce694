use Rattle.std.proofs.Common.{◌≡◌, [], List, ℕ, Option, ap, sym, subst, ◌∙◌, arith}
use Rattle.velo_events.specs.declared.config.Bounds.{Bounds}
use Rattle.velo_events.specs.declared.config.Config.{Config}
use Rattle.velo_bytes.proofs.OnDevices.{appends_nothing}
use Rattle.velo_watch.proofs.OnPieces.{nothing_closes, nothing_late}
use Rattle.velo_watch.proofs.endless.EndlessWatch.open.Goals as goal

pub returns-in-Ok-new-2-clause-ok : goal.returns-in-Ok-new-2-clause-ok
returns-in-Ok-new-2-clause-ok g c contents =
    let piece = c.in-Ok-new-2.piece in
    let config = c.in-Ok-new-2.ensures.config in
    let same : c.config_of-config.result.bounds ≡ c.in-Ok.reader.bounds = c.config_of-config.ensures.bounds ∙ c.bounds.ensures in
    record {
      given = c.in-Ok.ensures.ok;
      bounds = ap (λ (k : Config). k.bounds) config ∙ same;
      seen = record {
        judged = record {
          whole = c.in-Ok-new.ensures.none;
          bounds = c.in-Ok-new.ensures.bounds ∙ sym (ap (λ (k : Config). k.bounds) config);
          judged = (nothing_closes, c.in-Ok-new-2.ensures.none);
          in_time = λ is. nothing_late piece c.in-Ok-new-2.ensures.none c.in-Ok-new-2.ensures.empty;
        };
        count = c.in-Ok.ensures.ok.count;
      };
      told = appends_nothing contents;
    }
