use Rattle.job_crew.proofs.Marked.{ticket_if}
use Rattle.job_crew.proofs.tickets.ticket_of.Goals as goal

pub returns : goal.returns
returns c =
    ticket_if c.args.segments.now c.args.starts.now c.in_ok-home.home c.in_ok-place.place _ _ c.checked_add.result c.args.job c.requires c.if-home-segments.false c.if-home-starts.false
    c.in_ok-place.ensures c.checked_add.ensures
