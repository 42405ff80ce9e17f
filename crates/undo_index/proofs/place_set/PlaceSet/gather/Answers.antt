use Rattle.std.proofs.Common.{◌≡◌, ◌==◌, ◌∙◌, ◌++◌, ◌||◌, ◌&&◌, [], ap, rules, sym}
use Rattle.std.specs.Prelude.{nat_lt}
use Rattle.std.proofs.lemmas.List.{append-nil}
use Rattle.std.proofs.lemmas.List.Folds.{list_any-append}
use Rattle.std.specs.BTreeSet.{keys_between}
use Rattle.std.specs.Ordering.{nat_cmp}
use Rattle.std.specs.declared.ops.Bound.TheVariants.{Excluded, Included}
use Rattle.undo_index.specs.First.{has_place}
use Rattle.undo_index.specs.PlaceSet.{places_of}
use Rattle.undo_index.proofs.TreeLemmas.{range_has}
use Rattle.undo_index.proofs.place_set.PlaceSet.gather.Goals as goal

pub returns-in-None : goal.returns-in-None
returns-in-None c p =
    let new = c.loop-place.found.items in
    let old = c.args.found.now.items in
    let range = keys_between nat_cmp (Included 0) (Excluded c.args.below) c.in-Many.places in
    let left : c.loop-place.place-iterator ≡ [] = search rules in
    let all : c.into_iter-place-iterator.result ≡ range = search rules in
    let more : new ≡ old ++ range =
    sym (append-nil new) ∙ ap (λ ps. new ++ ps) (sym left) ∙ c.loop-place.invariant ∙ ap (λ ps. old ++ ps) all in
    ap (λ ps. has_place ps p) more ∙ list_any-append (λ k. p == k) old range
    ∙ ap (λ b. has_place old p || b) (range_has c.in-Many.places c.args.below p)
    ∙ ap (λ kept. has_place old p || (nat_lt p c.args.below && has_place (places_of kept) p)) (sym c.in-Many.is)
