use Rattle.std.proofs.Common.{◌∙◌, ap, get_or, sym}
use Rattle.undo_rules.specs.Books.{History}
use Rattle.undo_rules.specs.Links.{Entry}
use Rattle.txn_commands.specs.Meets.{meets_touched}
use Rattle.undo_book.proofs.FoundLemmas.{wrote_none, wrote_placed}
use Rattle.undo_book.proofs.book.Book.wrote_at.Goals as goal

pub returns-in-Some : goal.returns-in-Some
returns-in-Some c =
    let touched = c.args.footprint.now in
    c.touch.ensures ∙ ap (λ (e : Entry). meets_touched e.writes touched) c.behind-self.view_is
    ∙ wrote_placed c.args.self.now.entries c.args.txn c.in-Some.place c.index.result.now touched (sym c.requires.at ∙ c.in-Some.is)
    (c.index.ensures ∙ ap (λ (h : History). get_or h.entries c.in-Some.place c.index.result.now) c.self.view_is)

pub returns-in-None : goal.returns-in-None
returns-in-None c = wrote_none c.args.self.now.entries c.args.txn c.args.footprint.now (sym c.requires.at ∙ c.in-None.is)
