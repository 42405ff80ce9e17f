use Rattle.std.proofs.Common.{◌≡◌, ◌∙◌, ℕ, ◌&&◌, Some, ap, length, refl, rules, slice_get}
use Rattle.std.proofs.lemmas.Option.{slice_get_read}
use Rattle.std.specs.Prelude.{nat_lt}
use Rattle.std.specs.FinSet.{items}
use Rattle.std.specs.List.{list_any}
use Rattle.txn_commands.specs.Lies.{passes}
use Rattle.undo_rules.specs.Links.{Entry}
use Rattle.undo_index.specs.First.{has_place}
use Rattle.undo_book.specs.Indexed.{wrote}
use Rattle.undo_book.specs.Places.{named_at, stands_at}
use Rattle.undo_book.proofs.MovedLemmas.{moved_here}
use Rattle.undo_book.proofs.links.first_moved.Goals as goal

pub returns : goal.returns
returns c =
    let es = c.args.entries.now in
    let place = c.args.place in
    let entry = c.index-entries-place.result in
    let at : slice_get es place ≡ Some entry =
    slice_get_read es (length es) place entry refl c.requires.place c.index-entries-place.is in
    let given : c.as_slice.result.now ≡ c.entry.inside.seen = search rules in
    let linked : (p : ℕ) → has_place c.in_ok-linked.linked p
    ≡ (nat_lt p place && list_any (λ e. passes (wrote e) (slice_get es p)) (items c.entry.inside.footprint)) =
    c.in_ok-linked.ensures in
    let seen : (p : ℕ) → has_place c.in_ok-seen.seen p
    ≡ (nat_lt p place && list_any (stands_at c.args.places.now.entries p) c.entry.inside.seen) =
    λ p. c.in_ok-seen.ensures p ∙ ap (λ names. nat_lt p place && list_any (stands_at c.args.places.now.entries p) names) given in
    let named : c.named_at.result ≡ named_at es c.first_apart.result = search rules in
    named ∙ moved_here es c.args.places.now.entries place entry c.entry.inside.footprint c.entry.inside.seen
    c.in_ok-linked.linked c.in_ok-seen.seen c.first_apart.result at (ap (λ (e : Entry). e.footprint) c.entry.view_is)
    (ap (λ (e : Entry). e.seen) c.entry.view_is) c.requires.found.places c.requires.found.named linked seen
    c.first_apart.ensures
