use Rattle.std.proofs.Common.{rules, ◌≡◌, None, false, length, subst}
use Rattle.desk_rules.specs.Close.{missing_place}
use Rattle.desk_rules.specs.Guards.{Guard, IsGuard, has_last}
use Rattle.desk_rules.specs.Seats.{AreCallsRising, own_calls}
use Rattle.desk_rules.proofs.CloseLemmas.{own_shown}
use Rattle.desk_rules.proofs.GuardLemmas.{counted, looked}
use Rattle.locked_desk.proofs.RefusedLemmas.{shown_last}
use Rattle.locked_desk.proofs.guarded.Guarded.shared.Goals as goal

pub returns-clause-own : goal.returns-clause-own
returns-clause-own g c =
    let session = c.args.session in
    let own = c.args.own.now in
    let was : Guard = record {
      sessions = c.self.inside.sessions;
      book = c.self.inside.book;
      counts = c.self.inside.counts.items;
      total = c.self.inside.calls.total;
    } in
    let look = looked was session own (search rules) in
    let rising : AreCallsRising session 0 own = c.requires.rising in
    let none : missing_place was.book.log own ≡ None = search rules in
    let count : length (own_calls session was.book.log) ≡ length own = counted was session own c.self.invariant.0 look in
    let shown : own_calls session was.book.log ≡ own = own_shown session was.book.log own rising none count in
    search rules

pub returns-then-not-has_last-clause-refused : goal.returns-then-not-has_last-clause-refused
returns-then-not-has_last-clause-refused g c =
    let guard = c.args.self.now in
    let kept : IsGuard guard = subst (λ (h : Guard). IsGuard h) c.self.view_is c.self.invariant.0 in
    let looked : has_last guard c.args.session c.args.own.now ≡ false = search rules in
    shown_last c.args.origin.now guard c.args.session c.args.own.now c.last_place.result c.missed.result kept (search rules) looked
    c.requires.there c.last_place.ensures c.missed.ensures
