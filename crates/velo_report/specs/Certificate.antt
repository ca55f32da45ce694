-- The lines of a certificate.
use Rattle.std.specs.Prelude.{◌≡◌, ℕ, ◌==◌, ◌++◌, Bool, List, filter, codes, Option, ◌⊎◌}
use Rattle.std.specs.List.{flat_map}
use Rattle.std.specs.Io.KnownBytes.{Appends}
use Rattle.velo_events.specs.declared.event.Event.{Event}
use Rattle.velo_events.specs.Block.{owner}
use Rattle.velo_events.specs.Certificate.{positions_of}
use Rattle.velo_certify.specs.Shortest.{IsCycleAt}
use Rattle.velo_events.specs.Graph.{HasCycle, IsClosing}
use Rattle.velo_events.specs.Reordering.{IsReordering, IsSerial}
use Rattle.velo_bytes.specs.Device.{AppendsBeginning}
use Rattle.velo_report.specs.Lines.{numbers_line, Buffers}

-- the log has no cycle, and the list is a serial reordering of it
pub record CertifiesOrder (log : List Event) (list : List ℕ) : Type 0 where
  pub no_cycle : ¬ HasCycle log
  pub reorders : IsReordering log list
  pub serial : IsSerial log list

-- the log has one, and the list is a cycle at its first closing event
pub record CertifiesCycle (log : List Event) (list : List ℕ) : Type 0 where
  pub position : ℕ
  pub closing : IsClosing log position
  pub is_cycle : IsCycleAt log position list

-- the list shows what the verdict of the log is
abbrev pub Certifies : List Event → List ℕ → Type 0
Certifies log list = CertifiesOrder log list ⊎ CertifiesCycle log list

-- a position is the first one of its transaction
abbrev pub is_first : List Event → ℕ → Bool
is_first log i = owner log i == i

-- a transaction, by its first position, with all its positions, rising
abbrev pub serial_line : List Event → ℕ → List ℕ
serial_line log a = numbers_line (codes "serial") (positions_of log a)

-- a line for each transaction, in the order of the list
abbrev pub serial_lines : List Event → List ℕ → List ℕ
serial_lines log order = flat_map (serial_line log) (filter (is_first log) order)

-- the lines of an order where the log has no cycle, else the one of a cycle
pub record IsCertificate (log : List Event) (list text : List ℕ) : Type 0 where
  pub order : ¬ HasCycle log → text ≡ serial_lines log list
  pub cycle : HasCycle log → text ≡ numbers_line (codes "cycle") list

-- known bytes grow by the certificate
pub record AppendsCertificate (old new : Option (List ℕ)) (log : List Event) (list : List ℕ) : Type 0 where
  pub text : List ℕ
  pub is_certificate : IsCertificate log list text
  pub appends : Appends old new text

-- they grow by a beginning of it
pub record AppendsPartOfCertificate (old new : Option (List ℕ)) (log : List Event) (list : List ℕ) : Type 0 where
  pub text : List ℕ
  pub is_certificate : IsCertificate log list text
  pub appends : AppendsBeginning old new text

-- ---- on the way to a sink. Private contracts cite these words

-- the certificate behind what was gathered: some went out, and the rest is gathered then
pub record BuffersCertificate (old new : Option (List ℕ)) (before after : List ℕ) (log : List Event) (list : List ℕ) : Type 0 where
  pub text : List ℕ
  pub is_certificate : IsCertificate log list text
  pub buffers : Buffers old new before after text

-- a beginning went out
pub record FailsInCertificate (old new : Option (List ℕ)) (before : List ℕ) (log : List Event) (list : List ℕ) : Type 0 where
  pub text : List ℕ
  pub is_certificate : IsCertificate log list text
  pub appends : AppendsBeginning old new (before ++ text)
