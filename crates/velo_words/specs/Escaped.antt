-- Text from elsewhere, as it is shown in a line or on a terminal.
use Rattle.std.specs.Prelude.{ℕ, ◌+◌, ◌/◌, ◌%◌, ◌==◌, ◌&&◌, ◌||◌, nat_le, nat_lt, Bool, false, List, [], ◌∷◌, ◌++◌, codes, if◌then◌else◌}

-- U+0080 to U+009F are two bytes in UTF-8: 194, and one of these
abbrev pub is_second : ℕ → Bool
is_second b = nat_le 128 b && nat_lt b 160

abbrev pub begins_with_second : List ℕ → Bool
begins_with_second [] = false
begins_with_second (b ∷ bs) = is_second b

-- a byte with these around it is one of a control character
abbrev pub is_control : ℕ → ℕ → List ℕ → Bool
is_control before b after =
    nat_lt b 32 || (b == 127 || ((before == 194 && is_second b) || (b == 194 && begins_with_second after)))

abbrev pub hex : ℕ → ℕ
hex digit = if nat_lt digit 10 then 48 + digit else 87 + digit

-- \x1b, and this for a newline
abbrev pub escape : List ℕ → ℕ → List ℕ
escape newline b = if b == 10 then newline else codes "\\x" ++ hex (b / 16) ∷ hex (b % 16) ∷ []

abbrev pub escaped_byte : List ℕ → ℕ → ℕ → List ℕ → List ℕ
escaped_byte newline before b after = if is_control before b after then escape newline b else b ∷ []

-- bytes after this byte, as they are shown with this for a newline
abbrev pub escaped_after : List ℕ → ℕ → List ℕ → List ℕ
escaped_after newline before [] = []
escaped_after newline before (b ∷ bs) = escaped_byte newline before b bs ++ escaped_after newline b bs

-- in a line
abbrev pub escaped : List ℕ → List ℕ
escaped bytes = escaped_after (codes "\\n") 0 bytes

-- in lines: newlines stay
abbrev pub escaped_lines : List ℕ → List ℕ
escaped_lines bytes = escaped_after (codes "\n") 0 bytes
