use Rattle.std.proofs.Common.{◌≡◌, ◌∙◌, Option, None, Some, ap, refl}
use denote.Ref.{Bor}
use Rattle.std.specs.Prelude.{is_some, option_copied}
use Rattle.undo_book.proofs.MakerLemmas.{ids_sorted, written_so}
use Rattle.undo_book.proofs.by_element.is_written.Goals as goal

copied_some : {V : Type 0} (o : Option (Bor V)) → is_some o ≡ is_some (option_copied o)
copied_some None = refl
copied_some (Some b) = refl

pub find-requires : goal.find-requires
find-requires c = ids_sorted c.items.result.now c.args.records.now c.items.ensures c.requires

pub returns : goal.returns
returns c =
    c.is_some.ensures ∙ copied_some c.find.result ∙ ap is_some c.find.ensures
    ∙ written_so c.items.result.now c.args.records.now c.args.id c.items.ensures c.requires
