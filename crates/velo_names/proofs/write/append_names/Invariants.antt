use Rattle.std.proofs.Common.{◌≡◌, ◌++◌}
use Rattle.std.specs.Prelude.{map}
use Rattle.std.specs.String.{string_bytes}
use Rattle.velo_names.specs.Names.{list_text, by_place}
use Rattle.velo_names.proofs.OnWriting.{lines_from}
use Rattle.velo_names.proofs.write.append_names.Given as goal

abbrev pub invariant-loop-i : goal.invariant-loop-i
invariant-loop-i l = l.text.items ++ lines_from l.kind string_bytes l.i l.names ≡ l.fn.text.items ++ list_text l.kind (by_place (map string_bytes l.names))
