use Rattle.std.proofs.Common.{◌∙◌, ℕ, List, ap, sym}
use Rattle.cif_names.specs.Maps.{bytes_at}
use Rattle.cif_names.specs.Titles.{first_name}
use Rattle.cif_names.proofs.TitleLemmas.{name_before}
use Rattle.cif_names.proofs.titles.titles_of.Goals as goal

-- the last of the entries that are left
pub loop-entry-preserved : goal.loop-entry-preserved
loop-entry-preserved c n =
    let front = c.in-Some.front.now in
    let before = bytes_at c.loop-entry.names.entries n in
    ap (λ (name : List ℕ). first_name name n front) (c.in_ok-add_name.ensures n)
    ∙ sym (name_before before n front c.in-Some.entry.now)
    ∙ ap (first_name before n) (sym (c.in-Some.ensures.cases.0))
    ∙ c.loop-entry.invariant n
