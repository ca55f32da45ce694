use Rattle.std.proofs.Common.{inl, inr, refl, rules}
use Rattle.velo_ffi.proofs.OnPieces.{piece_put, room_lacking}
use Rattle.velo_ffi.proofs.logs.put_piece.Goals as goal

pub returns-then-from-log-clause-told : goal.returns-then-from-log-clause-told
returns-then-from-log-clause-told c = inr (inr (refl, search rules))

pub returns-then-needed-buffer-clause-told : goal.returns-then-needed-buffer-clause-told
returns-then-needed-buffer-clause-told c =
    inr (inl (refl, room_lacking _ _ c.as_slice-log.result.now c.args.from (search rules) c.put_head-head.result c.first_length.result c.put_head-head.new.buffer c.args.buffer.now (search rules) (search rules) (search rules) (search rules) (search rules) (search rules)))

pub returns-clause-told : goal.returns-clause-told
returns-clause-told c =
    inl (refl, piece_put _ _ c.as_slice-log.result.now c.args.from (search rules) c.put_lines-used.result.1 c.put_bytes-at.result c.put_lines-used.result.0 c.put_bytes-at.new.buffer c.put_lines-used.new.buffer (search rules) (search rules) (search rules) (search rules) (search rules) (search rules) (search rules))
