-- The pieces of a log, put together.
use Rattle.std.proofs.Common.{◌≡◌, ◌∙◌, Bool, true, cond, ap, sym, subst, ℕ, ◌-◌, ◌<◌, ◌≤◌, List, [], ◌∷◌, ◌++◌, length, take, drop, append_assoc, length-drop, take_all, arith}
use Rattle.std.proofs.lemmas.Bool.{ne_eqb}
use Rattle.std.proofs.lemmas.Grind.{flat_map-append}
use Rattle.std.proofs.lemmas.List.{append-nil, drop-append-le, take-append-le}
use Rattle.std.proofs.lemmas.List.Folds.{drop_split}
use Rattle.velo_events.specs.declared.config.Bounds.{Bounds}
use Rattle.velo_events.specs.declared.event.Event.{Event}
use Rattle.velo_logtext.specs.Text.{event_line, event_lines, header_line}
use Rattle.velo_ffi.specs.Pieces.{LeadToEnd, head_at, joined, piece}

-- behind the first event there is no header
no_head : (bounds : Bounds) (next : ℕ) → 0 < next → head_at bounds next ≡ []
no_head bounds next some = ap (λ (is_first : Bool). cond is_first (header_line (true, bounds)) []) (ne_eqb next 0 (λ is. (omega (arith, is, some))))

-- the lines up to a place, and those from there on
lines_split : (log : List Event) (from next : ℕ) → from ≤ next → event_lines (take (next - from) (drop from log)) ++ event_lines (drop next log) ≡ event_lines (drop from log)
lines_split log from next le =
    sym (flat_map-append event_line (take (next - from) (drop from log)) (drop next log)) ∙ ap event_lines (sym (drop_split log from next le))

-- up to the end of the log all lines come
all_lines : (log : List Event) (from : ℕ) → take (length log - from) (drop from log) ≡ drop from log
all_lines log from = take_all (length log - from) (drop from log) (subst (λ (n : ℕ). n ≤ length log - from) (sym (length-drop from log)) (omega arith))

pub joined-is : (bounds : Bounds) (log : List Event) (from : ℕ) (ends : List ℕ) → LeadToEnd log from ends → joined bounds log from ends ≡ head_at bounds from ++ event_lines (drop from log)
joined-is bounds log from [] h = absurd h
joined-is bounds log from (next ∷ []) h =
    append-nil (piece bounds log from next)
    ∙ ap (λ (n : ℕ). piece bounds log from n) h
    ∙ ap (λ (es : List Event). head_at bounds from ++ event_lines es) (all_lines log from)
joined-is bounds log from (next ∷ after ∷ more) h =
    let lines : List ℕ = event_lines (take (next - from) (drop from log)) in
    let rest = joined-is bounds log next (after ∷ more) h.1 ∙ ap (λ (t : List ℕ). t ++ event_lines (drop next log)) (no_head bounds next (let goes_on = h.0 in omega (arith, goes_on))) in
    ap (λ (t : List ℕ). piece bounds log from next ++ t) rest
    ∙ append_assoc (head_at bounds from) lines (event_lines (drop next log))
    ∙ ap (λ (t : List ℕ). head_at bounds from ++ t) (lines_split log from next (let goes_on = h.0 in omega (arith, goes_on)))

-- a piece is the same in a longer log
pub piece-append : (bounds : Bounds) (log more : List Event) (from next : ℕ) → from ≤ next → next ≤ length log → piece bounds (log ++ more) from next ≡ piece bounds log from next
piece-append bounds log more from next le there =
    let behind = drop-append-le from log more (omega (arith, le, there)) in
    let room : next - from ≤ length (drop from log) = subst (λ (n : ℕ). next - from ≤ n) (sym (length-drop from log)) (omega (arith, there)) in
    ap (λ (es : List Event). head_at bounds from ++ event_lines (take (next - from) es)) behind
    ∙ ap (λ (es : List Event). head_at bounds from ++ event_lines es) (take-append-le (next - from) (drop from log) more room)
