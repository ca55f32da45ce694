use Rattle.std.proofs.Common.{nat_eq, ap, sym, ◌∙◌}
use Rattle.std.specs.Prelude.{option_map}
use Rattle.std.specs.Option.{option_copied}
use Rattle.velo_names.specs.Names.{name_in}
use Rattle.velo_names.proofs.OnLists.{lookup_seen, bytes_of}
use Rattle.velo_names.proofs.kind_names.KindNames.name_of.Goals as goal

pub returns : goal.returns
returns c =
    ap option_copied c.copied.ensures
    ∙ ap (option_map bytes_of) c.get.ensures.value
    ∙ sym (lookup_seen (nat_eq c.args.number) c.self.inside.names.entries)
    ∙ ap (λ list. name_in list c.args.number) c.self.view_is
