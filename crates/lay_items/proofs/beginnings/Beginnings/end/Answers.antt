use Rattle.std.proofs.Common.{subst, sym}
use Rattle.lay_items.specs.contracts.marks.MarkOrd.TheImpl.Laws.{matches_eq-law}
use Rattle.lay_items.specs.Runs.{AreRuns, MarkList}
use Rattle.lay_items.proofs.BeginLemmas.{rising_made, runs_made}
use Rattle.lay_items.proofs.beginnings.Beginnings.end.Goals as goal

pub paged-requires : goal.paged-requires
paged-requires c =
    rising_made matches_eq-law c.args.self.marks.items c.sort_unstable.new.self.items c.dedup.new.self.items c.sort_unstable.ensures.sorted
    c.dedup.ensures.filtered

pub returns : goal.returns
returns c = λ by es sorted are.
    subst (λ (ms : MarkList). AreRuns by es ms) (sym c.in_ok-marks.ensures)
    (runs_made matches_eq-law c.args.self.marks.items c.sort_unstable.new.self.items c.dedup.new.self.items by es sorted are
    c.sort_unstable.ensures.permutation c.sort_unstable.ensures.sorted c.dedup.ensures.filtered)
