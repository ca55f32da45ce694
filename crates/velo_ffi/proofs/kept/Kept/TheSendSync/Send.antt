use Rattle.std.specs.Prelude.{Option, Some, None}
use base.Shift.{Keyless}
use mir.Raw.{raw}
use denote.RawPtr.{Ptr}
use Rattle.std.specs.Global.{Global}
use Rattle.velo_ffi.specs.Kept.{kept_owns}
use denote.Memory.{lone}
use denote.Struct.Struct.{exits_of}
use denote.Struct.Owning.{shape, fields, to}
use denote.Param.Send.{IsSend, AllSend, owning_send, struct_send, sendable}
use Rattle.std.proofs.Crossing as heap
use Rattle.std_alloc.proofs.SendSync.{quiet, lies}
use Rattle.std_heap.proofs.Global.TheSendSync as handle
use Rattle.velo_ffi.specs.contracts.watch.Watch as Watch
use Rattle.velo_ffi.proofs.watch.Watch.TheSendSync.{the_send as watch}
use Rattle.velo_ffi.specs.contracts.kept.Kept.{the_row, the_type}

keyless : (a : Global) (p : Ptr) (m : Option (Watch.the_row).Denot) → Keyless (kept_owns a p m)
keyless a p None = tt
keyless a p (Some x) = (lies Watch.the_row watch p x, heap.frees.frees a (raw (lone (Watch.the_row).mir)) p)

pub send : IsSend the_row
send =
    let all : AllSend (fields the_type) = (search sendable, (handle.the_field_send, tt)) in
    owning_send the_type all (λ d. keyless d.alloc d.address d.watch)
    (λ k. quiet (to the_type) (exits_of k (fields the_type)) ((struct_send (shape the_type) all).leaving k))
