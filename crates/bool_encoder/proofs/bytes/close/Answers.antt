use Rattle.std.proofs.Common.{ℕ, ◌+◌, ◌/◌, ◌<◌, ◌++◌, take, get_or}
use Rattle.bool_encoder.proofs.Numbers.{all_small, closed}
use Rattle.bool_encoder.proofs.bytes.close.Goals as goal

pub returns : goal.returns
returns c =
    let e = c.in_ok-extend_from_slice.ensures.items in
    let all : (i : ℕ) → get_or (c.args.bytes.now.items ++ take ((c.args.held + 7) / 8) c.to_be_bytes-last.result) i 0 < 256 =
    rw e at (all_small c.extend_from_slice.new.self.items c.type_inv.bytes) in
    rw e (closed c.args.bytes.now.items c.to_be_bytes-last.result c.args.low c.args.held all c.to_be_bytes-last.ensures
    c.requires.low c.requires.least c.requires.most c.requires.fits)
