use Rattle.std.proofs.Common.{arith, length, subst}
use Rattle.webm_container.proofs.Progress.{LiesWithin, lies}
use Rattle.webm_container.proofs.steps.step_at.Goals as goal

pub segment_step-requires : goal.segment_step-requires
segment_step-requires c =
    let within = subst (λ p. LiesWithin (length c.args.bytes.now) c.args.cursor.at c.args.cursor.segment p) c.in-Segment.is (lies (length c.args.bytes.now) c.args.cursor c.requires) in
    omega arith

pub tracks_step-requires : goal.tracks_step-requires
tracks_step-requires c =
    let within = subst (λ p. LiesWithin (length c.args.bytes.now) c.args.cursor.at c.args.cursor.segment p) c.in-Tracks.is (lies (length c.args.bytes.now) c.args.cursor c.requires) in
    omega arith

pub entry_step-requires : goal.entry_step-requires
entry_step-requires c =
    let within = subst (λ p. LiesWithin (length c.args.bytes.now) c.args.cursor.at c.args.cursor.segment p) c.in-Entry.is (lies (length c.args.bytes.now) c.args.cursor c.requires) in
    omega arith

pub cluster_step-requires : goal.cluster_step-requires
cluster_step-requires c =
    let within = subst (λ p. LiesWithin (length c.args.bytes.now) c.args.cursor.at c.args.cursor.segment p) c.in-Cluster.is (lies (length c.args.bytes.now) c.args.cursor c.requires) in
    omega arith

pub group_step-requires : goal.group_step-requires
group_step-requires c =
    let within = subst (λ p. LiesWithin (length c.args.bytes.now) c.args.cursor.at c.args.cursor.segment p) c.in-Group.is (lies (length c.args.bytes.now) c.args.cursor c.requires) in
    omega arith
