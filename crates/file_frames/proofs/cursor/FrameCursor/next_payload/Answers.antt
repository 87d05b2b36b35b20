use Rattle.std.proofs.Common.{refl, subst, length, Some, None}
use Rattle.std.specs.Prelude.{Ok}
use Rattle.ivf_container.specs.Packets.{no_packets}
use Rattle.file_frames.specs.Code.{ahead, span_bytes}
use Rattle.file_frames.specs.Cursors.{IsNextPacket, packets_left}
use Rattle.file_frames.proofs.Aheads.{at_packets, at_sizes, at_payload, few_ahead}
use Rattle.file_frames.proofs.cursor.FrameCursor.next_payload.Goals as goal

pub returns-in-Ok-None-clause-moved : goal.returns-in-Ok-None-clause-moved
unfolding ahead
returns-in-Ok-None-clause-moved c =
    let s = c.args.self.now in
    let next = subst (λ o. IsNextPacket s.bytes.now s.packets (Ok o) c.next_packet.new.self) c.in-Ok-None.field-0-is c.in-Ok-None.ensures.next in
    (at_packets s.bytes.now s.packets s.payload.now s.parts.items s.taken s.number (no_packets None) c.requires next, refl)

pub returns-in-Err-clause-moved : goal.returns-in-Err-clause-moved
unfolding ahead
returns-in-Err-clause-moved c =
    let s = c.args.self.now in
    (at_packets s.bytes.now s.packets s.payload.now s.parts.items s.taken s.number (no_packets (Some c.in-Err.rule)) c.requires c.in-Err.ensures.next, refl)

pub returns-in-Err-split-clause-moved : goal.returns-in-Err-split-clause-moved
unfolding ahead
returns-in-Err-split-clause-moved c =
    let s = c.args.self.now in
    let p = c.in-Ok-Some.packet in
    let next = subst (λ o. IsNextPacket s.bytes.now s.packets (Ok o) c.next_packet.new.self) c.in-Ok-Some.field-0-is c.in-Ok-Some.ensures.next in
    (at_sizes s.bytes.now s.packets s.payload.now (span_bytes s.bytes.now p) s.parts.items s.taken s.number (packets_left s.bytes.now c.next_packet.new.self) c.in-Err-split.rule c.requires next.left c.in-Err-split.ensures, refl)

pub returns-clause-moved : goal.returns-clause-moved
unfolding ahead
returns-clause-moved c =
    let s = c.args.self.now in
    let p = c.in-Ok-Some.packet in
    let next = subst (λ o. IsNextPacket s.bytes.now s.packets (Ok o) c.next_packet.new.self) c.in-Ok-Some.field-0-is c.in-Ok-Some.ensures.next in
    at_payload s.bytes.now s.packets c.next_packet.new.self s.payload.now (span_bytes s.bytes.now p) s.parts.items c.in-Ok.parts.items s.taken s.number c.requires next.left c.in-Ok.ensures.0

pub invariant_of-self-2-clause-placed_in : goal.invariant_of-self-2-clause-placed_in
invariant_of-self-2-clause-placed_in c =
    let s = c.args.self.now in
    let next = subst (λ o. IsNextPacket s.bytes.now s.packets (Ok o) c.next_packet.new.self) c.in-Ok-Some.field-0-is c.in-Ok-Some.ensures.next in
    next.bounded

pub invariant_of-self-2-clause-few : goal.invariant_of-self-2-clause-few
invariant_of-self-2-clause-few c =
    let s = c.args.self.now in
    let p = c.in-Ok-Some.packet in
    let next = subst (λ o. IsNextPacket s.bytes.now s.packets (Ok o) c.next_packet.new.self) c.in-Ok-Some.field-0-is c.in-Ok-Some.ensures.next in
    few_ahead s.number (length s.parts.items) s.taken _ _ s.bytes.now p c.in-Ok.parts.items s.few c.requires next.nearer next.in_order next.within c.in-Ok.ensures.1.in_order
