use Rattle.std.proofs.Common.{ℕ, List, map, subst, sym}
use Rattle.frame_groups.specs.Groups.{ahead, group_frames, rate_told, source_of, stage_of}
use Rattle.job_decoder.specs.Pasts.{IsPast}
use Rattle.job_decoder.specs.Reaches.{HasReached}
use Rattle.job_decoder.specs.declared.group.Reached.TheVariants as reached
use Rattle.stream_decoder.specs.Code.{StopsInFrames}
use Rattle.stream_decoder.proofs.GroupEnds.{starved}
use Rattle.stream_decoder.proofs.TurnLemmas.{is_taken, may_have_starved, may_tell, turned_further, turned_stopped}
use Rattle.stream_decoder.proofs.steps.take_turn.Goals as goal

pub returns-in_default-clause-turns : goal.returns-in_default-clause-turns
returns-in_default-clause-turns g c = λ b isnt way.
    let rest = g.S.Source.rest in
    let faults = g.S.Source.faults in
    let old = c.args.way.reader in
    let new = c.next_group-group.new.self in
    let group = c.next_group-group.result in
    let h = c.next_group-group.ensures in
    let t = is_taken c.args.work.now.format b (stage_of old) (ahead rest old) (rest (source_of old)) (rate_told old) (faults (source_of old)) c.args.way.past (g.K.Sink.taken c.args.way.sink) (g.K.Sink.faults c.args.way.sink)
    (rest (source_of new)) (rate_told new) (group_frames group) group.behind isnt way h.group h.rate in
    let may = may_have_starved c.args.work.now.format b (rest (source_of new)) (rate_told new) (faults (source_of old)) (faults (source_of new)) c.args.way.past (g.K.Sink.taken c.args.way.sink) (group_frames group)
    group.behind t h.faults way.sound c.in_default.ensures.some in
    rw c.into_source.ensures (starved c.args.work.now.format b (stage_of old) (ahead rest old) (rest (source_of old)) (rate_told old) (faults (source_of old)) c.args.way.past (g.K.Sink.taken c.args.way.sink)
    (g.K.Sink.faults c.args.way.sink) (rest (source_of new)) (faults (source_of new)) isnt may c.requires.1 way)

pub decode_next-requires-clause-past : goal.decode_next-requires-clause-past
decode_next-requires-clause-past g c κs within =
    let old = c.args.way.reader in
    let new = c.next_group-group.new.self in
    let group = c.next_group-group.result in
    subst (λ (rate : ℕ × ℕ). IsPast c.args.work.now.format rate c.args.way.past) (sym c.rate.ensures)
    (c.requires.1 (rate_told new) (may_tell (stage_of old) (ahead g.S.Source.rest old) (rate_told old) (rate_told new) (group_frames group) group.behind c.next_group-group.ensures.rate))

pub returns-in-Further-clause-turns : goal.returns-in-Further-clause-turns
returns-in-Further-clause-turns g c = λ b isnt way.
    let format = c.args.work.now.format in
    let rest = g.S.Source.rest in
    let failed_of = g.S.Source.faults in
    let taken = g.K.Sink.taken in
    let faults_of = g.K.Sink.faults in
    let w = c.args.way in
    let new = c.next_group-group.new.self in
    let group = c.next_group-group.result in
    let h = c.next_group-group.ensures in
    let t = is_taken format b (stage_of w.reader) (ahead rest w.reader) (rest (source_of w.reader)) (rate_told w.reader) (failed_of (source_of w.reader)) w.past (taken w.sink) (faults_of w.sink)
    (rest (source_of new)) (rate_told new) (group_frames group) group.behind isnt way h.group h.rate in
    let there = subst (λ (rate : ℕ × ℕ). HasReached format rate w.past (map (λ frame. frame.now) c.in-Ok.frames.items) (taken w.sink) (faults_of w.sink) taken faults_of (reached.Further c.in-Further.past c.in-Further.sink))
    c.rate.ensures c.in-Further.ensures.reached in
    let here = subst (λ (frames : List (List ℕ)). HasReached format (rate_told new) w.past frames (taken w.sink) (faults_of w.sink) taken faults_of (reached.Further c.in-Further.past c.in-Further.sink))
    c.in-Ok.ensures.frames there in
    rw c.turn_behind.ensures (turned_further format b rest failed_of taken faults_of (g.S.Source.can_fill (source_of new)) group.behind (record { reader = new; past = c.in-Further.past; sink = c.in-Further.sink })
    w.past (group_frames group) (taken w.sink) (faults_of w.sink) (failed_of (source_of w.reader)) t h.begun h.stage h.faults way.sound way.quiet here)

pub returns-clause-turns : goal.returns-clause-turns
returns-clause-turns g c = λ b isnt way.
    let format = c.args.work.now.format in
    let rest = g.S.Source.rest in
    let failed_of = g.S.Source.faults in
    let taken = g.K.Sink.taken in
    let faults_of = g.K.Sink.faults in
    let w = c.args.way in
    let new = c.next_group-group.new.self in
    let group = c.next_group-group.result in
    let h = c.next_group-group.ensures in
    let decoded = c.in-Ended.decoded in
    let t = is_taken format b (stage_of w.reader) (ahead rest w.reader) (rest (source_of w.reader)) (rate_told w.reader) (failed_of (source_of w.reader)) w.past (taken w.sink) (faults_of w.sink)
    (rest (source_of new)) (rate_told new) (group_frames group) group.behind isnt way h.group h.rate in
    let there = subst (λ (rate : ℕ × ℕ). HasReached format rate w.past (map (λ frame. frame.now) c.in-Ok.frames.items) (taken w.sink) (faults_of w.sink) taken faults_of (reached.Ended decoded))
    c.rate.ensures c.in-Ended.ensures.reached in
    let here = subst (λ (frames : List (List ℕ)). HasReached format (rate_told new) w.past frames (taken w.sink) (faults_of w.sink) taken faults_of (reached.Ended decoded)) c.in-Ok.ensures.frames there in
    let some = subst (λ (frames : List (List ℕ)). StopsInFrames frames (reached.Ended decoded)) c.in-Ok.ensures.frames c.in-Ended.ensures.some in
    rw c.into_source-in-Ended.ensures (turned_stopped format b (rest (source_of new)) (rate_told new) (failed_of (source_of w.reader)) (failed_of (source_of new)) taken faults_of group.behind
    w.past (group_frames group) (taken w.sink) (faults_of w.sink) decoded t h.faults way.sound way.quiet here some)
