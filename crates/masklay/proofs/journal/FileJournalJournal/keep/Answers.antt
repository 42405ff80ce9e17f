-- a file can't know what it has; each failure is counted
use Rattle.std.proofs.Common.{◌+◌, ◌∙◌, [], ap, refl}
use Rattle.byte_io.specs.declared.count.GhostCount.{GhostCount}
use Rattle.live_run.specs.Journal.{as_line}
use Rattle.masklay.proofs.journal.FileJournalJournal.keep.Goals as goal

pub returns-then-is_err-clause-fault : goal.returns-then-is_err-clause-fault
returns-then-is_err-clause-fault c = record {
  begun = ([], [], [], as_line c.args.line.now, c.args.is_flushed, refl, refl);
  failed = c.next-self.ensures ∙ ap (λ (count : GhostCount). count.total + 1) c.add.ensures;
}

pub returns-clause-ok : goal.returns-clause-ok
returns-clause-ok c = record {
  all = refl;
  unfailing = ap (λ (count : GhostCount). count.total) c.add.ensures;
}
