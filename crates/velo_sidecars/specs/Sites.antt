-- The table of sites that the bytes of a file give.
use Rattle.std.specs.Prelude.{◌≡◌, ℕ, ◌+◌, ◌-◌, ◌<◌, ◌≤◌, ◌==◌, nat_lt, List, [], ◌∷◌, ◌++◌, length, map, Option, Some, None, option_map, Result, Ok, Err, if◌then◌else◌, slice_get, slice_index}
use Rattle.std.specs.Option.{option_map_or}
use Rattle.std.specs.Str.{IsUtf8}
use Rattle.velo_bytes.specs.Parsing.{◌>>=◌}
use Rattle.velo_events.specs.Refusals.{GrowthRefused}
use Rattle.velo_names.specs.Line.{lines}
use Rattle.velo_sidecars.specs.declared.limits.TheConstants.{MAX_SITES_BYTES}
use Rattle.velo_sidecars.specs.declared.site_fault.SitesFault.{SitesFault}
use Rattle.velo_sidecars.specs.declared.site_fault.SitesFault.TheVariants.{BadLine, EndsEarly, TooManyBytes, NotText, Memory}
use Rattle.velo_sidecars.specs.SiteLine.{Header, header_of, is_place, site_of}

-- the place of each site, from site 1 on; and the site of each event, 0 where it is unknown
pub record Table : Type 0 where
  pub places : List (List ℕ)
  pub events : List ℕ

abbrev pub no_sites : Table
no_sites = record { places = []; events = [] }

-- where the event at this position happened, if the table says it
abbrev pub place_of : Table → ℕ → Option (List ℕ)
place_of table i =
    slice_get table.events i >>= λ site.
    if site == 0 then None else slice_get table.places (site - 1)

-- the same, where there is a table
abbrev pub place_in : Option Table → ℕ → Option (List ℕ)
place_in None i = None
place_in (Some table) i = place_of table i

-- ---- the sites of another trace, by which of its events are events of the log

-- the site of an event that is the one at this position of the log, or is none of them; 0 where it is unknown
abbrev pub site_seen : Table → Option ℕ → ℕ
site_seen table None = 0
site_seen table (Some i) = slice_index table.events i

-- the table of the trace whose events are these of the log
abbrev pub table_seen_from : Table → List (Option ℕ) → Table
table_seen_from table sources = record { places = table.places; events = map (site_seen table) sources }

abbrev pub sites_seen_from : Option Table → List (Option ℕ) → Option Table
sites_seen_from sites sources = option_map (λ (table : Table). table_seen_from table sources) sites

-- ---- by its lines

-- The table after one more line, which has this number, or its fault. The sites come first.
unfoldable pub table_after : Header → Table → ℕ → List ℕ → Result Table SitesFault
table_after header table n line =
    if nat_lt (length table.places) header.sites
    then (if is_place line then Ok (record table { places = table.places ++ line ∷ [] })
    else Err (BadLine n))
    else (if nat_lt (length table.events) header.events
    then option_map_or (λ site. Ok (record table { events = table.events ++ site ∷ [] }))
    (site_of header.sites line) (Err (BadLine n))
    else Err (BadLine n))

abbrev pub and_then : {X : Type 0} → Result Table SitesFault → (Table → Result X SitesFault)
    → Result X SitesFault
and_then (Ok table) f = f table
and_then (Err fault) f = Err fault

-- the table after these lines, which come after so many, or the fault of the first that has one
abbrev pub table_from : Header → Table → ℕ → List (List ℕ) → Result Table SitesFault
table_from header table n [] = Ok table
table_from header table n (line ∷ others) =
    and_then (table_after header table (n + 1) line) (λ more. table_from header more (n + 1) others)

-- the header and the table of a text, by its lines
abbrev pub sites_in : List (List ℕ) → Result (Header × Table) SitesFault
sites_in [] = Err (BadLine 1)
sites_in (first ∷ others) =
    option_map_or (λ header. and_then (table_from header no_sites 1 others)
    (λ table. Ok (header, table))) (header_of first) (Err (BadLine 1))

-- ---- the bytes of a file

-- so few bytes, which are text
pub record IsText (bytes : List ℕ) : Type 0 where
  pub few : length bytes ≤ MAX_SITES_BYTES
  pub utf8 : IsUtf8 bytes

-- all that the header asks for is there, and the last line has its newline
pub record IsWhole (bytes : List ℕ) (header : Header) (table : Table) : Type 0 where
  pub places : length table.places ≡ header.sites
  pub events : length table.events ≡ header.events
  pub newline : slice_get bytes (length bytes - 1) ≡ Some 10

-- What the bytes give. What is wrong with the whole file comes before what is wrong with a line, and
-- this before an early end. Want of memory is given by none.
abbrev pub Gives : List ℕ → Result Table SitesFault → Type 0
Gives bytes (Err TooManyBytes) = MAX_SITES_BYTES < length bytes
Gives bytes (Err NotText) = (length bytes ≤ MAX_SITES_BYTES) × (¬ IsUtf8 bytes)
Gives bytes (Err Memory) = ⊥
Gives bytes (Err (BadLine n)) = IsText bytes × (sites_in (lines bytes) ≡ Err (BadLine n))
Gives bytes (Err (EndsEarly n)) =
    IsText bytes × (n ≡ length (lines bytes))
    × ((header : Header) × (table : Table) × (sites_in (lines bytes) ≡ Ok (header, table))
    × (¬ IsWhole bytes header table))
Gives bytes (Ok table) =
    IsText bytes
    × ((header : Header) × (sites_in (lines bytes) ≡ Ok (header, table))
    × IsWhole bytes header table)

-- what a reader of the bytes returns: what they give, unless it was out of memory
abbrev pub ReadsAs : List ℕ → Result Table SitesFault → Type 0
ReadsAs bytes (Err Memory) = GrowthRefused
ReadsAs bytes (Ok table) = Gives bytes (Ok table)
ReadsAs bytes (Err fault) = Gives bytes (Err fault)
