use Rattle.std.proofs.Common.{◌≤◌, length, arith, ◌≡◌, ◌∙◌, ℕ, [], ap, subst, sym}
use Rattle.std.specs.Prelude.{Option, Some, None, Ok, Err, Vec}
use Rattle.std.specs.declared.alloc.Global.{Global}
use Rattle.std.proofs.lemmas.List.{append-nil}
use Rattle.std.specs.List.{flat_map}
use Rattle.superframe_index.specs.PayloadFrames.{frames_of}
use Rattle.packet_reader.specs.TakenPackets.{GivesNext, TellsRate, ahead, begun_of, rate_told, source_of, stage_of}
use Rattle.packet_reader.specs.declared.reader.PacketRefusal.{PacketRefusal}
use Rattle.packet_reader.specs.declared.reader.PacketRefusal.TheVariants as refused
use Rattle.frame_groups.specs.declared.group.Behind.TheVariants as behind
use Rattle.frame_groups.specs.Groups.{payload_frames}
use Rattle.frame_groups.proofs.GroupLemmas.{adds_one, asked, at_end, at_fault, at_memory, at_payload, at_rule, at_sizes, no_room}
use Rattle.frame_groups.proofs.RateLemmas.{rate_at_fault, rate_at_memory, rate_at_rule, rate_behind, rate_stays}
use Rattle.frame_groups.proofs.reader.take_payload.Goals as goal

pub returns-then-is_err-clause-group : goal.returns-then-is_err-clause-group
returns-then-is_err-clause-group g c =
    let reader = c.args.reader.now in
    let few : length (begun_of reader) ≤ 4 = omega (arith, c.begun.ensures.few, ap length c.begun.ensures.bytes) in
    ([], c.reserve.ensures.items ∙ sym (append-nil c.args.payloads.now.items), no_room g.S.Source.rest reader few, rate_stays (stage_of reader) (ahead g.S.Source.rest reader) (rate_told reader))

pub returns-in-Ok-None-clause-group : goal.returns-in-Ok-None-clause-group
returns-in-Ok-None-clause-group g c =
    let old = c.args.reader.now in
    let before = ahead g.S.Source.rest old in
    let now = g.S.Source.rest (source_of c.next.new.self) in
    let gives = subst (λ (o : Option (Vec ℕ Global)). GivesNext (stage_of old) before now (Ok o)) c.in-Ok-None.field-0-is c.in-Ok-None.ensures.next in
    let takes = asked (stage_of old) (g.S.Source.can_fill (source_of old)) before now (Ok None) c.requires gives in
    ([], c.reserve.ensures.items ∙ sym (append-nil c.args.payloads.now.items), at_end (stage_of old) before now takes, rate_behind (stage_of old) before (rate_told old) (rate_told c.next.new.self) c.in-Ok-None.field-0 [] behind.End c.in-Ok-None.ensures.rate)

pub returns-in-Err-Rule-clause-group : goal.returns-in-Err-Rule-clause-group
returns-in-Err-Rule-clause-group g c =
    let old = c.args.reader.now in
    let before = ahead g.S.Source.rest old in
    let now = g.S.Source.rest (source_of c.next.new.self) in
    let rule = c.in-Err-Rule.rule in
    let gives = subst (λ (e : PacketRefusal). GivesNext (stage_of old) before now (Err e)) c.in-Err-Rule.field-0-is c.in-Err-Rule.ensures.next in
    let tells = subst (λ (e : PacketRefusal). TellsRate (stage_of old) before (rate_told old) (rate_told c.next.new.self) (Err e)) c.in-Err-Rule.field-0-is c.in-Err-Rule.ensures.rate in
    let takes = asked (stage_of old) (g.S.Source.can_fill (source_of old)) before now (Err (refused.Rule rule)) c.requires gives in
    ([], c.reserve.ensures.items ∙ sym (append-nil c.args.payloads.now.items), at_rule (stage_of old) before now rule takes, rate_at_rule (stage_of old) before (rate_told old) (rate_told c.next.new.self) rule tells)

pub returns-in-Err-Failed-clause-group : goal.returns-in-Err-Failed-clause-group
returns-in-Err-Failed-clause-group g c =
    let old = c.args.reader.now in
    let before = ahead g.S.Source.rest old in
    let now = g.S.Source.rest (source_of c.next.new.self) in
    let gives = subst (λ (e : PacketRefusal). GivesNext (stage_of old) before now (Err e)) c.in-Err-Failed.field-0-is c.in-Err-Failed.ensures.next in
    let tells = subst (λ (e : PacketRefusal). TellsRate (stage_of old) before (rate_told old) (rate_told c.next.new.self) (Err e)) c.in-Err-Failed.field-0-is c.in-Err-Failed.ensures.rate in
    let takes = asked (stage_of old) (g.S.Source.can_fill (source_of old)) before now (Err refused.Failed) c.requires gives in
    ([], c.reserve.ensures.items ∙ sym (append-nil c.args.payloads.now.items), at_fault (stage_of old) before now takes, rate_at_fault (stage_of old) before (rate_told old) (rate_told c.next.new.self) tells)

pub returns-in-Err-OutOfMemory-clause-group : goal.returns-in-Err-OutOfMemory-clause-group
returns-in-Err-OutOfMemory-clause-group g c =
    let old = c.args.reader.now in
    let before = ahead g.S.Source.rest old in
    let now = g.S.Source.rest (source_of c.next.new.self) in
    let gives = subst (λ (e : PacketRefusal). GivesNext (stage_of old) before now (Err e)) c.in-Err-OutOfMemory.field-0-is c.in-Err-OutOfMemory.ensures.next in
    let tells = subst (λ (e : PacketRefusal). TellsRate (stage_of old) before (rate_told old) (rate_told c.next.new.self) (Err e)) c.in-Err-OutOfMemory.field-0-is c.in-Err-OutOfMemory.ensures.rate in
    let takes = asked (stage_of old) (g.S.Source.can_fill (source_of old)) before now (Err refused.OutOfMemory) c.requires gives in
    ([], c.reserve.ensures.items ∙ sym (append-nil c.args.payloads.now.items), at_memory (stage_of old) before now takes, rate_at_memory (stage_of old) before (rate_told old) (rate_told c.next.new.self) tells)

pub returns-in-Err-clause-group : goal.returns-in-Err-clause-group
returns-in-Err-clause-group g c =
    let old = c.args.reader.now in
    let before = ahead g.S.Source.rest old in
    let now = g.S.Source.rest (source_of c.next.new.self) in
    let payload = c.in-Ok-Some.bytes in
    let gives = subst (λ (o : Option (Vec ℕ Global)). GivesNext (stage_of old) before now (Ok o)) c.in-Ok-Some.field-0-is c.in-Ok-Some.ensures.next in
    let takes = asked (stage_of old) (g.S.Source.can_fill (source_of old)) before now (Ok (Some payload)) c.requires gives in
    let sizes : frames_of payload.items ≡ Err c.in-Err.rule = ap frames_of (sym c.deref.ensures.value) ∙ c.in-Err.ensures in
    ([], c.reserve.ensures.items ∙ sym (append-nil c.args.payloads.now.items), at_sizes (stage_of old) before now payload c.in-Err.rule takes sizes, rate_behind (stage_of old) before (rate_told old) (rate_told c.next.new.self) c.in-Ok-Some.field-0 [] (behind.Broken c.in-Err.rule) c.in-Ok-Some.ensures.rate)

pub returns-clause-group : goal.returns-clause-group
returns-clause-group g c =
    let old = c.args.reader.now in
    let before = ahead g.S.Source.rest old in
    let now = g.S.Source.rest (source_of c.next.new.self) in
    let payload = c.in-Ok-Some.bytes in
    let gives = subst (λ (o : Option (Vec ℕ Global)). GivesNext (stage_of old) before now (Ok o)) c.in-Ok-Some.field-0-is c.in-Ok-Some.ensures.next in
    let takes = asked (stage_of old) (g.S.Source.can_fill (source_of old)) before now (Ok (Some payload)) c.requires gives in
    let parts : frames_of payload.items ≡ Ok c.in-Ok.parts.items = ap frames_of (sym c.deref.ensures.value) ∙ c.in-Ok.ensures.0 in
    let added = adds_one (stage_of old) before now c.args.payloads.now.items c.reserve.new.self.items c.push_reserved.new.self.items _ c.reserve.ensures.items c.push_reserved.ensures.items
    (at_payload (stage_of old) before now payload c.in-Ok.parts.items takes parts) in
    (added.0, added.1, added.2, rate_behind (stage_of old) before (rate_told old) (rate_told c.next.new.self) c.in-Ok-Some.field-0 (flat_map payload_frames added.0) behind.More c.in-Ok-Some.ensures.rate)
