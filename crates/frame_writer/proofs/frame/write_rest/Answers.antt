use Rattle.frame_writer.proofs.frame.write_rest.Goals as goal

pub returns : goal.returns
returns g c = (c.write_tiles.new.out.items, c.in_ok-end_frame.ensures.ends, c.in_ok-end_frame.ensures.bytes, c.in_ok-broken.ensures)
