use Rattle.std.proofs.Common.{◌≡◌, ◌∙◌, ◌+◌, ◌++◌, Bor, map, ℕ, List, ap, sym, length, arith}
use Rattle.job_decoder.specs.Pasts.{numbers_of}
use Rattle.std.proofs.lemmas.List.{length-map}
use Rattle.job_decoder.proofs.Behind.{due_next, ends_behind, further_behind, kept_next, starved_behind}
use Rattle.job_decoder.proofs.group.decode_behind.Goals as goal

pub run_group-outcome-requires-clause-kept : goal.run_group-outcome-requires-clause-kept
run_group-outcome-requires-clause-kept g c κs within =
    let b = g.B.DecodeRun in
    let next = c.args.next in
    kept_next next.format next.rate c.args.past c.requires.past (map (λ frame. frame.now) next.frames.items) b.format b.film b.first c.requires.format c.requires.film c.requires.first

pub run_group-outcome-requires-clause-due : goal.run_group-outcome-requires-clause-due
run_group-outcome-requires-clause-due g c κs within =
    let b = g.B.DecodeRun in
    let next = c.args.next in
    due_next next.format next.rate c.args.past c.requires.past (map (λ frame. frame.now) next.frames.items) b.format b.film b.first c.requires.format c.requires.film c.requires.first

pub returns-then-not-is_done-clause-reached : goal.returns-then-not-is_done-clause-reached
returns-then-not-is_done-clause-reached g c =
    let b = g.B.DecodeRun in
    let k = g.K.Sink in
    let next = c.args.next in
    let ran = c.run_group-outcome.result in
    ends_behind next.format next.rate c.args.past c.requires.past (map (λ frame. frame.now) next.frames.items) b.format b.film b.first c.requires.format c.requires.film c.requires.first
    (k.taken c.args.sink) (k.taken ran.sink) (k.faults c.args.sink) (k.faults ran.sink) ran.outcome c.run_group-outcome.ensures.run (sym c.is_done.ensures ∙ c.if-not-is_done.true)

pub returns-in_default-clause-reached : goal.returns-in_default-clause-reached
returns-in_default-clause-reached g c =
    let b = g.B.DecodeRun in
    let k = g.K.Sink in
    let next = c.args.next in
    let frames = map (λ frame. frame.now) next.frames.items in
    let ran = c.run_group-outcome.result in
    rw c.without_memory.ensures
    (starved_behind next.format next.rate c.args.past c.requires.past frames b.format b.film b.first c.requires.format c.requires.film c.requires.first
    (k.taken c.args.sink) (k.taken ran.sink) (k.faults c.args.sink) (k.faults ran.sink) ran.outcome c.run_group-outcome.ensures.run (sym c.is_done.ensures ∙ c.if-not-is_done.false))

pub returns-clause-reached : goal.returns-clause-reached
returns-clause-reached g c =
    let b = g.B.DecodeRun in
    let k = g.K.Sink in
    let next = c.args.next in
    let frames = map (λ frame. frame.now) next.frames.items in
    let ran = c.run_group-outcome.result in
    let kept = rw c.in-Some.is at c.run_group-outcome.ensures.kept in
    let due = rw c.in-Some.is at c.run_group-outcome.ensures.due in
    let long : length frames ≡ length next.frames.items = length-map next.frames.items (λ frame. frame.now) in
    let counted : c.args.past.count + c.len.result ≡ c.args.past.count + length frames = omega (arith, c.len.ensures, long) in
    let numbers = c.of-after.ensures ∙ ap (λ (fs : List (Bor (List ℕ))). c.args.past.frames.numbers ++ numbers_of (map (λ frame. frame.now) fs)) c.deref.ensures.value in
    further_behind next.format next.rate c.args.past c.requires.past frames b.format b.film b.first c.requires.format c.requires.film c.requires.first
    (k.taken c.args.sink) (k.taken ran.sink) (k.faults c.args.sink) (k.faults ran.sink) ran.outcome (record { count = c.args.past.count + c.len.result; kept = c.in-Some.kept; frames = c.of-after.result })
    c.run_group-outcome.ensures.run (sym c.is_done.ensures ∙ c.if-not-is_done.false) numbers counted kept due
