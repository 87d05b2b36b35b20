use Rattle.compressed_writer.proofs.MapPlaces.{fine_place}
use Rattle.compressed_writer.proofs.differences.place_in_map.Goals as goal

pub returns-else-v-eq7-clause-is : goal.returns-else-v-eq7-clause-is
returns-else-v-eq7-clause-is c = rw c.from-v.ensures (fine_place c.args.v c.requires.least c.requires.most (rw c.from-v.ensures at c.if-v-eq7.false))
