use Rattle.live_run.proofs.course.close_run.Goals as goal

-- all was written
pub returns-in-Ok : goal.returns-in-Ok
returns-in-Ok g c = let (text, so, put) = c.in-Ok.ensures in (text, so, put, c.has_refused-has_refused.ensures)
