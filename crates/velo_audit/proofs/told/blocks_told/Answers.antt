use Rattle.std.proofs.Common.{◌<◌, zero, suc, arith, ap, sym, subst, ◌∙◌, map, length, Result, Ok, Err}
use Rattle.std.specs.Prelude.{All, IfOk, slice_index}
use Rattle.std.proofs.lemmas.Bool.{false≢true, eq-eqb}
use Rattle.velo_traces.specs.declared.block.Block.{Block}
use Rattle.velo_audit.specs.Witness.{block_as_read}
use Rattle.velo_audit.proofs.OnTold.{transaction-within, blamed-within, told-blamed_blocks}
use Rattle.velo_audit.proofs.told.blocks_told.Goals as goal

pub first_block-requires : goal.first_block-requires
first_block-requires c = transaction-within c.args.events.now c.args.alarm.now c.requires.alarm

pub all_as_read-requires : goal.all_as_read-requires
all_as_read-requires c zero d l = omega (arith, transaction-within c.args.events.now c.args.alarm.now c.requires.alarm, ap (λ (b : Block). b.first) c.first_block.ensures, c.requires.as_many)
all_as_read-requires c (suc k) d l = absurd (omega (arith, l))

pub all_as_read-requires-2 : goal.all_as_read-requires-2
all_as_read-requires-2 c = subst (All (λ block. block.first < length c.args.places.now)) (sym c.as_slice-blamed.ensures)
    (λ k d l. let less = blamed-within c.args.events.now c.args.alarm.now c.requires.alarm k d l in let same = c.requires.as_many in omega (arith, less, same))

if_ok : {T E : Type 0} {P Q : T → Type 0} (r : Result T E) → ((x : T) → P x → Q x) → IfOk r P → IfOk r Q
if_ok (Ok x) f h = f x h
if_ok (Err e) f h = tt

pub returns : goal.returns
returns c = if_ok c.all_as_read-2.result
    (λ read h. h ∙ (ap (map (block_as_read (slice_index c.args.places.now))) c.as_slice-blamed.ensures
    ∙ told-blamed_blocks c.args.events.now c.args.alarm.now c.requires.alarm c.args.places.now
    (λ e. false≢true (c.if-is_empty.ensures ∙ eq-eqb _ 0 (ap length (c.as_slice-blamed.ensures ∙ e))))))
    c.all_as_read-2.ensures
