-- What a line says.
use Rattle.std.specs.Prelude.{ℕ, ◌-◌, ◌^◌, ◌==◌, Bool, List, [], ◌∷◌, codes, length, map, Option, Some, None, if◌then◌else◌}
use Rattle.std.specs.Str.{bytes_eq}
use Rattle.velo_bytes.specs.Parsing.{whole_number}
use Rattle.velo_workload.specs.Words.{Word, lines, words, is_name}
use Rattle.velo_workload.specs.declared.phrase.Verb.{Verb}
use Rattle.velo_workload.specs.declared.phrase.Verb.TheVariants as verb
use Rattle.velo_workload.specs.declared.phrase.Argument.{Argument}
use Rattle.velo_workload.specs.declared.phrase.Argument.TheVariants.{Nothing, Name, Number}
use Rattle.velo_workload.specs.declared.phrase.Spoken as declared_spoken
use Rattle.velo_workload.specs.declared.phrase.Spoken.TheVariants as of_spoken
use Rattle.velo_workload.specs.declared.phrase.Phrase as declared_phrase
use Rattle.velo_workload.specs.declared.phrase.Phrase.TheVariants as of_phrase

-- a statement of a body, with names where the program has numbers
pub data Spoken : Type 0 where
  Read : (name : Word) → Spoken
  Write : (name : Word) → Spoken
  Set : (n : ℕ) → Spoken
  Add : (n : ℕ) → Spoken
  Acquire : (name : Word) → Spoken
  Release : (name : Word) → Spoken
  Share : (name : Word) → Spoken
  Unshare : (name : Word) → Spoken
  Begin : (name : Word) → Spoken
  End : Spoken
  Fork : (name : Word) → Spoken
  Join : (name : Word) → Spoken
  Repeat : (n : ℕ) → Spoken
  Done : Spoken

-- what a line says
pub data Phrase : Type 0 where
  -- no word
  Blank : Phrase
  -- no statement, and its first word is not `thread`
  Bad : Phrase
  -- no statement, and its first word is `thread`
  BadThread : Phrase
  Variable : (name : Word) → Phrase
  Lock : (name : Word) → Phrase
  Thread : (name : Word) → Phrase
  Body : (s : Spoken) → Phrase

-- ---- what the first word of a line says

unfoldable pub declaring_verb : Word → Verb
declaring_verb w =
    if bytes_eq w (codes "var") then verb.Variable
    else (if bytes_eq w (codes "lock") then verb.Lock
    else (if bytes_eq w (codes "thread") then verb.Thread
    else verb.Unknown))

unfoldable pub sharing_verb : Word → Verb
sharing_verb w =
    if bytes_eq w (codes "share") then verb.Share
    else (if bytes_eq w (codes "unshare") then verb.Unshare
    else declaring_verb w)

unfoldable pub order_verb : Word → Verb
order_verb w =
    if bytes_eq w (codes "fork") then verb.Fork
    else (if bytes_eq w (codes "join") then verb.Join
    else (if bytes_eq w (codes "repeat") then verb.Repeat
    else (if bytes_eq w (codes "done") then verb.Done
    else sharing_verb w)))

unfoldable pub block_verb : Word → Verb
block_verb w =
    if bytes_eq w (codes "set") then verb.Set
    else (if bytes_eq w (codes "add") then verb.Add
    else (if bytes_eq w (codes "begin") then verb.Begin
    else (if bytes_eq w (codes "end") then verb.End
    else order_verb w)))

unfoldable pub verb_of : Word → Verb
verb_of w =
    if bytes_eq w (codes "read") then verb.Read
    else (if bytes_eq w (codes "write") then verb.Write
    else (if bytes_eq w (codes "acquire") then verb.Acquire
    else (if bytes_eq w (codes "release") then verb.Release
    else block_verb w)))

-- what has to follow it
abbrev pub argument_of : Verb → Argument
argument_of verb.Set = Number
argument_of verb.Add = Number
argument_of verb.Repeat = Number
argument_of verb.End = Nothing
argument_of verb.Done = Nothing
argument_of verb.Unknown = Nothing
argument_of v = Name

-- ---- what the words of a line say

-- a line that is no statement
abbrev pub bad_phrase : Verb → Phrase
bad_phrase verb.Thread = BadThread
bad_phrase v = Bad

abbrev pub phrase_of_one_word : Verb → Phrase
phrase_of_one_word verb.End = Body End
phrase_of_one_word verb.Done = Body Done
phrase_of_one_word v = bad_phrase v

abbrev pub phrase_with_name : Verb → Word → Phrase
phrase_with_name verb.Variable name = Variable name
phrase_with_name verb.Lock name = Lock name
phrase_with_name verb.Thread name = Thread name
phrase_with_name verb.Read name = Body (Read name)
phrase_with_name verb.Write name = Body (Write name)
phrase_with_name verb.Acquire name = Body (Acquire name)
phrase_with_name verb.Release name = Body (Release name)
phrase_with_name verb.Share name = Body (Share name)
phrase_with_name verb.Unshare name = Body (Unshare name)
phrase_with_name verb.Begin name = Body (Begin name)
phrase_with_name verb.Fork name = Body (Fork name)
phrase_with_name verb.Join name = Body (Join name)
phrase_with_name v name = Bad

abbrev pub phrase_with_number : Verb → ℕ → Phrase
phrase_with_number verb.Set n = Body (Set n)
phrase_with_number verb.Add n = Body (Add n)
phrase_with_number verb.Repeat n = Body (Repeat n)
phrase_with_number v n = Bad

abbrev pub phrase_with_number_or_bad : Verb → Option ℕ → Phrase
phrase_with_number_or_bad v (Some n) = phrase_with_number v n
phrase_with_number_or_bad v None = bad_phrase v

abbrev pub phrase_with_argument : Verb → Argument → Word → Phrase
phrase_with_argument v Nothing w = bad_phrase v
phrase_with_argument v Name w = if is_name w then phrase_with_name v w else bad_phrase v
phrase_with_argument v Number w = phrase_with_number_or_bad v (whole_number (2 ^ 64 - 1) w)

abbrev pub phrase_of_words : List Word → Phrase
phrase_of_words [] = Blank
phrase_of_words (w ∷ []) = phrase_of_one_word (verb_of w)
phrase_of_words (w ∷ x ∷ []) = phrase_with_argument (verb_of w) (argument_of (verb_of w)) x
phrase_of_words (w ∷ x ∷ y ∷ zs) = bad_phrase (verb_of w)

-- the same by the first two words, each empty where it is not there, and whether there are more
abbrev pub phrase_by : Word → Word → Bool → Phrase
phrase_by first second more =
    if length first == 0 then Blank
    else (if more then bad_phrase (verb_of first)
    else (if length second == 0 then phrase_of_one_word (verb_of first)
    else phrase_with_argument (verb_of first) (argument_of (verb_of first)) second))

abbrev pub phrase_of : List ℕ → Phrase
phrase_of line = phrase_of_words (words line)

-- what the lines of a text say
abbrev pub phrases : List ℕ → List Phrase
phrases text = map phrase_of (lines text)

-- ---- what a value of the program says

abbrev pub spoken : declared_spoken.Spoken → Spoken
spoken (of_spoken.Read name) = Read name.now
spoken (of_spoken.Write name) = Write name.now
spoken (of_spoken.Set n) = Set n
spoken (of_spoken.Add n) = Add n
spoken (of_spoken.Acquire name) = Acquire name.now
spoken (of_spoken.Release name) = Release name.now
spoken (of_spoken.Share name) = Share name.now
spoken (of_spoken.Unshare name) = Unshare name.now
spoken (of_spoken.Begin name) = Begin name.now
spoken of_spoken.End = End
spoken (of_spoken.Fork name) = Fork name.now
spoken (of_spoken.Join name) = Join name.now
spoken (of_spoken.Repeat n) = Repeat n
spoken of_spoken.Done = Done

abbrev pub said : declared_phrase.Phrase → Phrase
said of_phrase.Blank = Blank
said of_phrase.Bad = Bad
said of_phrase.BadThread = BadThread
said (of_phrase.Variable name) = Variable name.now
said (of_phrase.Lock name) = Lock name.now
said (of_phrase.Thread name) = Thread name.now
said (of_phrase.Body s) = Body (spoken s)
