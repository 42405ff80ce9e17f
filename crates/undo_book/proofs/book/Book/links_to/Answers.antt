use Rattle.std.proofs.Common.{◌≡◌, ◌∙◌, ◌&&◌, ℕ, List, ap, length, rules, slice_get, subst}
use Rattle.std.specs.FinSet.{items}
use Rattle.std.specs.List.{filter_map, list_any}
use Rattle.std.specs.Prelude.{nat_lt}
use Rattle.txn_commands.specs.Lies.{passes}
use Rattle.undo_rules.specs.Books.{History}
use Rattle.undo_rules.specs.Links.{Entry, links_to}
use Rattle.undo_index.specs.First.{has_place}
use Rattle.undo_book.specs.Books.{history_of}
use Rattle.undo_book.specs.Indexed.{name_at, wrote}
use Rattle.undo_book.proofs.NameLemmas.{links_so}
use Rattle.undo_book.proofs.SoundLemmas.{kept_found}
use Rattle.undo_book.proofs.book.Book.links_to.Goals as goal

pub writers_among-requires-clause-found : goal.writers_among-requires-clause-found
writers_among-requires-clause-found c =
    kept_found (history_of c.self.inside) c.self.inside.places.entries c.deref.result.now c.self.invariant.history
    c.self.invariant.places c.deref.ensures.value

pub returns : goal.returns
returns c =
    let es = c.self.inside.entries.items in
    let keys = c.in_ok-found.found in
    let names : c.in_ok-names.names.items ≡ filter_map (name_at es) keys = search rules in
    let end : c.len-end.result ≡ length es = search rules in
    let all = subst (λ (xs : List Entry). (p : ℕ) → has_place keys p
    ≡ (nat_lt p c.len-end.result && list_any (λ e. passes (wrote e) (slice_get xs p)) (items c.args.footprint.now)))
    c.deref.ensures.value c.in_ok-found.ensures in
    names
    ∙ links_so c.args.footprint.now es keys c.len-end.result end c.as_slice.ensures.rising all
    ∙ ap (λ (h : History). links_to h.entries c.args.footprint.now) c.self.view_is
