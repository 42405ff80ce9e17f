use Rattle.std.proofs.Common.{◌≡◌, rules, subst, sym}
use Rattle.lay_layouts.specs.Sound.{IsSound}
use Rattle.txn_commands.specs.Records.{AreProper, Records, applied}
use Rattle.undo_book.specs.Books.{history_of}
use Rattle.undo_book.proofs.CommitLemmas.{committed_so}
use Rattle.undo_book.proofs.book.Book.prepare.Goals as goal

pub applied-requires-clause-proper : goal.applied-requires-clause-proper
applied-requires-clause-proper c =
    let same : c.in_ok-marks.marks.wrote ≡ c.args.work.now.writes = search rules in
    subst (λ (ws : Records). AreProper ws) (sym same)
    (committed_so (history_of c.self.inside) c.args.self.now c.self.view_is c.self.invariant.history c.args.work.now
    c.known.ensures.transaction (search rules) c.requires.own c.requires.fresh).proper

pub applied-requires-clause-sound : goal.applied-requires-clause-sound
applied-requires-clause-sound c =
    let same : c.in_ok-marks.marks.wrote ≡ c.args.work.now.writes = search rules in
    subst (λ (ws : Records). IsSound (applied c.self.inside.layout ws)) (sym same)
    (committed_so (history_of c.self.inside) c.args.self.now c.self.view_is c.self.invariant.history c.args.work.now
    c.known.ensures.transaction (search rules) c.requires.own c.requires.fresh).sound
