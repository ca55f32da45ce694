-- What a line says, by its bytes. Private contracts cite these words.
use Rattle.velo_names.specs.declared.line.Said.{Said}
use Rattle.velo_names.specs.Line.{Naming}

abbrev pub said : Said → Naming
said x = record { kind = x.kind; number = x.number; name = x.name.now }
