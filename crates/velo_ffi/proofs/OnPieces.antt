-- A piece of a log by its parts.
use Rattle.std.proofs.Common.{◌≡◌, ◌∙◌, ap, subst, sym, ℕ, ◌+◌, ◌-◌, ◌<◌, ◌≤◌, List, ◌++◌, length, take, drop, append_assoc, length-append, length-drop, length-take-le, take_all, take-add, arith, rules}
use Rattle.std.proofs.lemmas.Grind.{flat_map-append}
use Rattle.velo_events.specs.declared.config.Bounds.{Bounds}
use Rattle.velo_events.specs.declared.event.Event.{Event}
use Rattle.velo_logtext.specs.Text.{event_line, event_lines}
use Rattle.velo_ffi.specs.Pieces.{LacksRoom, PutsPiece, head_at, piece}

-- what comes from a place on, as a slice has it
abbrev rest_of : List Event → ℕ → List Event
rest_of items from = take (length items - from) (drop from items)

rest_is : (items : List Event) (from : ℕ) → rest_of items from ≡ drop from items
rest_is items from = take_all (length items - from) (drop from items) (subst (λ (n : ℕ). n ≤ length items - from) (sym (length-drop from items)) (omega arith))

rest_long : (items : List Event) (from : ℕ) → length (rest_of items from) ≡ length items - from
rest_long items from = ap length (rest_is items from) ∙ length-drop from items

module _ (bounds : Bounds) (log items : List Event) (from : ℕ) (same : items ≡ log) where
  -- the header has its length
  header_long : (head : ℕ) (header : List ℕ) → take head header ≡ head_at bounds from → head ≤ length header → length (head_at bounds from) ≡ head
  header_long head header text inside = ap length (sym text) ∙ length-take-le head header inside

  -- not even the first line has room
  pub room_lacking : (head first : ℕ) (header buffer : List ℕ) → take head header ≡ head_at bounds from → head ≤ length header → head ≤ 90 → first ≤ 90
      → first ≡ length (event_lines (take 1 (rest_of items from))) → length buffer < head + first → LacksRoom bounds log from buffer (head + first)
  room_lacking head first header buffer text inside short_head short_first is short =
      let head_long = header_long head header text inside in
      let first_long : first ≡ length (event_lines (take 1 (drop from items))) = is ∙ ap (λ (es : List Event). length (event_lines (take 1 es))) (rest_is items from) in
      subst (λ (es : List Event). LacksRoom bounds es from buffer (head + first)) same (record {
        short = short;
        needed = omega (arith, length-append (head_at bounds from) (event_lines (take 1 (drop from items))), head_long, first_long);
        small = omega (arith, short_head, short_first);
      })

  -- as many lines as come from the place to where they end
  lines_from : (lines : ℕ) (text : List ℕ) → text ≡ head_at bounds from ++ event_lines (take lines (drop from items)) → text ≡ piece bounds items from (from + lines)
  lines_from lines text is = search rules

  -- a piece with one line more
  one_more : (lines : ℕ) → piece bounds items from (from + lines + 1) ≡ piece bounds items from (from + lines) ++ event_lines (take 1 (drop lines (drop from items)))
  one_more lines =
      let head = head_at bounds from in let rest = drop from items in let more = event_lines (take 1 (drop lines rest)) in
      let all : from + lines + 1 - from ≡ lines + 1 = omega arith in
      let before : from + lines - from ≡ lines = omega arith in
      ap (λ (n : ℕ). head ++ event_lines (take n rest)) all
      ∙ ap (λ (es : List Event). head ++ event_lines es) (take-add lines 1 rest)
      ∙ ap (λ (t : List ℕ). head ++ t) (flat_map-append event_line (take lines rest) (take 1 (drop lines rest)))
      ∙ sym (append_assoc head (event_lines (take lines rest)) more)
      ∙ ap (λ (n : ℕ). (head ++ event_lines (take n rest)) ++ more) (sym before)

  pub piece_put : (lines at used : ℕ) (before buffer : List ℕ) → take at before ≡ head_at bounds from
      → take used buffer ≡ take at before ++ event_lines (take lines (rest_of items from))
      → used ≤ length buffer → from ≤ length items → lines ≤ length (rest_of items from) → (0 < length (rest_of items from) → 0 < lines)
      → (lines < length (rest_of items from) → length buffer < used + length (event_lines (take 1 (drop lines (rest_of items from)))))
      → PutsPiece bounds log from buffer used (from + lines)
  piece_put lines at used before buffer head text within there few some most =
      let long = rest_long items from in
      let text' : take used buffer ≡ head_at bounds from ++ event_lines (take lines (drop from items)) =
      text ∙ ap (λ (t : List ℕ). t ++ event_lines (take lines (rest_of items from))) head
      ∙ ap (λ (es : List Event). head_at bounds from ++ event_lines (take lines es)) (rest_is items from) in
      subst (λ (es : List Event). PutsPiece bounds es from buffer used (from + lines)) same (record {
        from_there = omega arith;
        goes_on = λ before_end. (let more = some (omega (arith, long, before_end)) in omega (arith, more));
        there = omega (arith, there, few, long);
        within = within;
        text = lines_from lines _ text';
        most = λ before_end. (
            let short = most (omega (arith, long, before_end)) in
            let next : length (event_lines (take 1 (drop lines (rest_of items from)))) ≡ length (event_lines (take 1 (drop lines (drop from items)))) =
            ap (λ (es : List Event). length (event_lines (take 1 (drop lines es)))) (rest_is items from) in
            let put : length (piece bounds items from (from + lines)) ≡ used = ap length (sym (lines_from lines _ text')) ∙ length-take-le used buffer within in
            let longer = ap length (one_more lines) ∙ length-append (piece bounds items from (from + lines)) (event_lines (take 1 (drop lines (drop from items)))) in
            omega (arith, short, next, put, longer));
      })
