use Rattle.std.proofs.Common.{◌∙◌, ap, sym}
use Rattle.lay_pages.specs.Written.{lent_entry}
use Rattle.lay_pages.proofs.BesideLemmas.{above_behind, above_first, above_none}
use Rattle.lay_pages.proofs.pages.Pages.above.Goals as goal

pub returns-in_err-first : goal.returns-in_err-first
returns-in_err-first g c =
    ap lent_entry c.from_residual.ensures
    ∙ sym (above_none g.met.K.Ord.total g.met.K.PageKey.exact c.args.key c.args.self.now c.from-entries.result
    c.from-entries.ensures.entries c.in_err-first.ensures.steps.0)

pub returns-then-eq : goal.returns-then-eq
returns-then-eq g c =
    above_behind g.met.K.Ord.total g.met.K.PageKey.exact c.args.key c.args.self.now c.from-entries.result c.next.new.self
    c.next-then-eq.new.self (c.in_ok-first.first, c.in_ok-first.value.now) c.next-then-eq.result c.from-entries.ensures.entries
    c.from-entries.ensures.sorted c.in_ok-first.ensures.steps
    (sym (g.met.K.Ord.matches_eq c.in_ok-first.first c.args.key) ∙ (sym c.eq.ensures ∙ c.if-eq.true)) c.next-then-eq.ensures.steps

pub returns : goal.returns
returns g c =
    above_first g.met.K.Ord.total g.met.K.PageKey.exact c.args.key c.args.self.now c.from-entries.result c.next.new.self
    (c.in_ok-first.first, c.in_ok-first.value.now) c.from-entries.ensures.entries c.in_ok-first.ensures.steps
    (sym (g.met.K.Ord.matches_eq c.in_ok-first.first c.args.key) ∙ (sym c.eq.ensures ∙ c.if-eq.false))
