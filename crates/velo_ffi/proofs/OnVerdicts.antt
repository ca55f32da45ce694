-- A verdict by its alarm.
use Rattle.std.proofs.Common.{◌≡◌, ◌∙◌, ap, refl, sym, ℕ, ◌<◌, ◌≤◌, true, List, [], length, map, take, None, Some, inl, inr, arith}
use Rattle.std.proofs.lemmas.List.{length-map}
use Rattle.velo_events.specs.declared.event.Event.{Event}
use Rattle.velo_traces.specs.declared.block.Block.{Block}
use Rattle.velo_world.specs.declared.analysis.Alarm.{Alarm}
use Rattle.velo_world.specs.World.{IsAlarm}
use Rattle.velo_events.specs.Graph.{HasCycle}
use Rattle.velo_ffi.specs.Answers.{IsVerdict, TellsBlocks, blamed_of}
use Rattle.velo_ffi.specs.declared.answers.TheConstants.{DONE, TOO_SHORT}
use Rattle.velo_ffi.specs.declared.answers.Blamed.{Blamed}

pub verdict_of_alarm : (log : List Event) (alarm : Alarm) (events blamed : ℕ) → events ≡ length log → blamed ≡ length alarm.blamed.items → IsAlarm log alarm
    → IsVerdict log (record { events = events; position = alarm.position; transaction = alarm.transaction; blamed = blamed; alarmed = true })
verdict_of_alarm log alarm events blamed counts blames is = record {
  alarm = Some alarm;
  exact = is;
  told = λ j. record { events = counts j; position = alarm.position; transaction = alarm.transaction; blamed = blames j; alarmed = true };
}

-- ---- the blocks to blame: none, not enough room, or all

pub no_blocks : (log : List Event) (buffer : List Blamed) → ¬ HasCycle log → TellsBlocks log DONE buffer 0
no_blocks log buffer none = ([], record { alarm = None; exact = none; told = refl }, inl (refl, record { within = omega arith; front = refl }))

module _ (log : List Event) (alarm : Alarm) (is : IsAlarm log alarm) (blocks : List Block) (same : blocks ≡ alarm.blamed.items) where
  pub short_blocks : (count : ℕ) (buffer : List Blamed) → count ≡ length blocks → length buffer < count → TellsBlocks log TOO_SHORT buffer count
  short_blocks count buffer counts short = (
    map blamed_of blocks,
    record { alarm = Some alarm; exact = is; told = ap (λ (bs : List Block). map blamed_of bs) same },
    inr (refl, record { short = short; needed = counts ∙ sym (length-map blocks blamed_of) }),
  )

  pub blocks_of_alarm : (count : ℕ) (buffer : List Blamed) → count ≡ length blocks → count ≤ length buffer → take (length blocks) buffer ≡ map blamed_of blocks → TellsBlocks log DONE buffer count
  blocks_of_alarm count buffer counts within put = (
    map blamed_of blocks,
    record { alarm = Some alarm; exact = is; told = ap (λ (bs : List Block). map blamed_of bs) same },
    inl (refl, record { within = within; front = ap (λ (n : ℕ). take n buffer) counts ∙ put }),
  )
