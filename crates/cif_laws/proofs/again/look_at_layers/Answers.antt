-- What is so of all entries is so of an item that is found.
use Rattle.std.proofs.Common.{◌≡◌, List, [], ◌∷◌, Bool, true, false, Some, cond, sym, ◌∙◌, subst, rules}
use Rattle.std.specs.FinMap.{entries, find, get-entries}
use Rattle.std.specs.List.{AllByRecursion}
use Rattle.std.specs.Ordering.{eq_by_cmp}
use Rattle.lay_layouts.specs.declared.id.ItemId.{ItemId}
use Rattle.lay_layouts.specs.declared.item.Item.{Item}
use Rattle.lay_layouts.specs.Ids.{id_cmp}
use Rattle.cif_laws.specs.Laws.{IsOnNamedLayer}
use Rattle.cif_laws.proofs.again.look_at_layers.Goals as goal

found_named : (es : List (ItemId × Item)) (id : ItemId) (item : Item) → AllByRecursion (λ e. IsOnNamedLayer e.1) es
    → find id_cmp id es ≡ Some item
    → IsOnNamedLayer item
found_named [] id item all at = absurd cc
found_named (e ∷ es) id item all at = by (eq_by_cmp id_cmp id e.0) at (found_named es id item all.1) where
  by : (b : Bool) → cond b (Some e.1) (find id_cmp id es) ≡ Some item → (find id_cmp id es ≡ Some item → IsOnNamedLayer item)
      → IsOnNamedLayer item
  by true at rest =
      let same : e.1 ≡ item = cc in
      subst IsOnNamedLayer same all.0
  by false at rest = rest at

pub returns-clause-named : goal.returns-clause-named
returns-clause-named c id item at =
    let left : c.loop-item.item-iterator ≡ [] = search rules in
    let all : AllByRecursion (λ e. IsOnNamedLayer e.1) c.into_iter-item-iterator.result =
    c.loop-item.invariant (subst (AllByRecursion (λ e. IsOnNamedLayer e.1)) (sym left) tt) in
    let whole : c.into_iter-item-iterator.result ≡ entries c.args.snapshot.now.items = search rules in
    found_named (entries c.args.snapshot.now.items) id item (subst (AllByRecursion (λ e. IsOnNamedLayer e.1)) whole all)
    (sym (get-entries c.args.snapshot.now.items id) ∙ at)

pub returns-clause-sound : goal.returns-clause-sound
returns-clause-sound c = c.version.ensures.sound
