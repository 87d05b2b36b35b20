use Rattle.std.proofs.Common.{◌∙◌, ℕ, subst, sym}
use Rattle.packet_reader.specs.TakenPackets.{source_of, stage_of}
use Rattle.frame_groups.specs.declared.group.Behind.{Behind}
use Rattle.frame_groups.specs.Code.{AddsGroup}
use Rattle.frame_groups.specs.Groups.{CountsGroup, StandsBehind}
use Rattle.frame_groups.proofs.GroupLemmas.{adds_more}
use Rattle.frame_groups.proofs.reader.take_payloads.Goals as goal

pub packets-preserved : goal.packets-preserved
packets-preserved g c =
    let rest = g.S.Source.rest in
    let faults = g.S.Source.faults in
    let fresh = c.args.reader.now in
    let old = c.packets.reader in
    let new = c.take_payload-behind-in-packets.new.reader in
    let behind = c.take_payload-behind-in-packets.result in
    let h = c.packets.invariant in
    let t = c.take_payload-behind-in-packets.ensures in
    let more = c.in-More.is in
    let group = subst (λ (b : Behind). AddsGroup fresh old rest c.args.payloads.now.items c.packets.payloads.items b) more h.group in
    let stands = subst (λ (b : Behind). StandsBehind b (stage_of old) (g.S.Source.can_fill (source_of old))) more h.stage in
    let counts = subst (λ (b : Behind). CountsGroup (faults (source_of fresh)) (faults (source_of old)) b) more h.faults in
    record {
      group = adds_more rest fresh old new c.args.payloads.now.items c.packets.payloads.items c.take_payload-behind-in-packets.new.payloads.items behind group stands.0 t.group;
      begun = t.begun;
      stage = t.stage;
      faults = subst (λ (n : ℕ). CountsGroup n (faults (source_of new)) behind) counts t.faults;
      again = λ same. t.again (same ∙ sym counts);
    }
