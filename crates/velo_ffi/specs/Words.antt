-- The words of a status.
use Rattle.std.specs.Prelude.{◌≡◌, ◌<◌, ◌≤◌, ◌⊎◌, ◌==◌, ℕ, List, codes, if◌then◌else◌}
use Rattle.velo_events.specs.declared.refusal.Refusal.{Refusal}
use Rattle.velo_events.specs.declared.refusal.Refusal.TheVariants.{Halted, NotLive, NoSuchVariable, NoSuchLock, NoSuchThread, Busy, AlreadyHeld, NotHolder, NoOpenBlock, TooDeep, AlreadyForked, NotForked, NotExited, AlreadyJoined, BlockOpen, LockHeld, LogFull, GraphFull, Memory, WouldDeadlock, RuntimeMemory, Foreign}
use Rattle.velo_ffi.specs.declared.answers.TheConstants.{ALARMED, BAD_NAMES, BAD_NUMBER, BAD_SITES, CLOSED, DONE, IN_BLOCK, NO_MEMORY, OTHER_SITES, TOO_SHORT}
use Rattle.velo_ffi.specs.Answers.{number_of}
use Rattle.velo_ffi.specs.Texts.{TellsAll}

-- of a refusal
abbrev pub words_of : Refusal → List ℕ
words_of Halted = codes "halted"
words_of NotLive = codes "thread not live"
words_of NoSuchVariable = codes "no such variable"
words_of NoSuchLock = codes "no such lock"
words_of NoSuchThread = codes "no such thread"
words_of Busy = codes "lock busy"
words_of AlreadyHeld = codes "lock already held"
words_of NotHolder = codes "not the holder"
words_of NoOpenBlock = codes "no open block"
words_of TooDeep = codes "blocks too deep"
words_of AlreadyForked = codes "thread already forked"
words_of NotForked = codes "thread not forked"
words_of NotExited = codes "thread not exited"
words_of AlreadyJoined = codes "thread already joined"
words_of BlockOpen = codes "block open"
words_of LockHeld = codes "lock held"
words_of LogFull = codes "log full"
words_of GraphFull = codes "graph full"
words_of Memory = codes "out of memory"
words_of WouldDeadlock = codes "would deadlock"
words_of RuntimeMemory = codes "runtime out of memory"
words_of Foreign = codes "foreign seat"

-- of a status that is no refusal's number
abbrev pub own_words : ℕ → List ℕ
own_words status =
    if status == DONE then codes "done"
    else (if status == CLOSED then codes "the handle is null"
    else (if status == BAD_NUMBER then codes "a number is out of its range"
    else (if status == NO_MEMORY then codes "out of memory"
    else (if status == TOO_SHORT then codes "the buffer is too short"
    else (if status == BAD_NAMES then codes "the names have a fault"
    else (if status == IN_BLOCK then codes "a block is open"
    else (if status == ALARMED then codes "there is an alarm"
    else (if status == BAD_SITES then codes "the sites have a fault"
    else (if status == OTHER_SITES then codes "the sites are of another log"
    else codes "unknown status")))))))))

-- no refusal has the number
abbrev pub IsNoRefusal : ℕ → Type 0
IsNoRefusal status = 1 ≤ status → 22 < status

-- the words of the refusal that has the number, or else those of a status of the calls' own
abbrev pub AreWords : ℕ → List ℕ → Type 0
AreWords status text =
    ((refusal : Refusal) × (number_of refusal ≡ status) × (text ≡ words_of refusal))
    ⊎ (IsNoRefusal status × (text ≡ own_words status))

abbrev pub TellsWords : ℕ → ℕ → List ℕ → ℕ → Type 0
TellsWords status told buffer count = (text : List ℕ) × AreWords status text × TellsAll text told buffer count
