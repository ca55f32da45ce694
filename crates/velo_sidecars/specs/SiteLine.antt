-- What a line of a file of sites says.
use Rattle.std.specs.Prelude.{ℕ, ◌&&◌, nat_lt, nat_le, not, Bool, List, codes, length, Option, Some, None, if◌then◌else◌}
use Rattle.velo_bytes.specs.Parsing.{◌>>=◌, after_word, spaced_number_at, whole_number}
use Rattle.velo_events.specs.declared.limits.TheConstants.{MAX_EVENTS}
use Rattle.velo_names.specs.Line.{has_control}
use Rattle.velo_sidecars.specs.declared.limits.TheConstants.{MAX_PLACE_BYTES, MAX_SITES}

-- how many sites the file has, and of how many events it gives the site
pub record Header : Type 0 where
  pub sites : ℕ
  pub events : ℕ

-- "vsites 1 SITES EVENTS"
abbrev pub header_of : List ℕ → Option Header
header_of line = do
  rest ← after_word (codes "vsites 1 ") line
  sites ← spaced_number_at MAX_SITES rest
  events ← whole_number MAX_EVENTS sites.1
  Some (record { sites = sites.0; events = events })

-- "FILE:LINE FUNCTION": some bytes without a control character, to be printed as they are
abbrev pub is_place : List ℕ → Bool
is_place line =
    nat_lt 0 (length line) && (nat_le (length line) MAX_PLACE_BYTES && not (has_control 0 line))

-- a number up to so many; 0 where the site is unknown
abbrev pub site_of : ℕ → List ℕ → Option ℕ
site_of sites line =
    whole_number MAX_SITES line >>= λ n. if nat_lt sites n then None else Some n
