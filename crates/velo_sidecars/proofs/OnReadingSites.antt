-- What the lines that were read give.
use Rattle.std.proofs.Common.{◌≡◌, ℕ, ◌+◌, List, ◌∷◌, length, Option, Some, Result, Ok, Err, suc, sym, ap, ◌∙◌, arith}
use Rattle.std.specs.Option.{option_map_or}
use Rattle.velo_names.specs.Line.{lines}
use Rattle.velo_sidecars.specs.declared.site_fault.SitesFault.{SitesFault}
use Rattle.velo_sidecars.specs.declared.site_fault.SitesFault.TheVariants.{BadLine, EndsEarly}
use Rattle.velo_sidecars.specs.SiteLine.{Header, header_of}
use Rattle.velo_sidecars.specs.Sites.{Gives, IsText, IsWhole, Table, and_then, no_sites, sites_in, table_from}

-- all lines could be read, and something is not there
pub early : (bytes first others : List ℕ) (header : Header) (table : Table) (last : ℕ) → IsText bytes
    → lines bytes ≡ first ∷ lines others → header_of first ≡ Some header
    → table_from header no_sites 1 (lines others) ≡ Ok table → last ≡ 1 + length (lines others)
    → (¬ IsWhole bytes header table) → Gives bytes (Err (EndsEarly last))
early bytes first others header table last text are says gives is lacking =
    let rest = lines others in
    let read : sites_in (lines bytes) ≡ Ok (header, table) =
    ap sites_in are
    ∙ ap (λ (o : Option Header). option_map_or (λ h. and_then (table_from h no_sites 1 rest)
    (λ t. Ok (h, t))) o (Err (BadLine 1))) says
    ∙ ap (λ (r : Result Table SitesFault). and_then r (λ t. Ok (header, t))) gives in
    let on : 1 + length rest ≡ suc (length rest) = omega arith in
    (text, is ∙ (on ∙ sym (ap length are)), (header, table, read, lacking))
