use Rattle.bool_encoder.proofs.Numbers.{all_small}
use Rattle.frame_writer.proofs.frame.end_frame.Goals as goal

pub returns-else-index-eq6-clause-bytes : goal.returns-else-index-eq6-clause-bytes
returns-else-index-eq6-clause-bytes c = all_small c.args.bytes.now.items c.type_inv.bytes

pub returns-in_ok-extend_from_slice-clause-bytes : goal.returns-in_ok-extend_from_slice-clause-bytes
returns-in_ok-extend_from_slice-clause-bytes c = all_small c.extend_from_slice.new.self.items c.type_inv.bytes
