use Rattle.std.proofs.Common.{◌∙◌, ◌++◌, List, [], ◌≡◌, ap, map, rules, subst, sym}
use Rattle.std.proofs.lemmas.List.{append-nil}
use Rattle.std.specs.List.Sorted.{IsStrictlySortedBy}
use Rattle.lay_items.specs.declared.marks.Mark.{Mark}
use Rattle.std.specs.Map.{keys_of}
use Rattle.lay_items.specs.Runs.{MarkList, mark_cmp, with_none}
use Rattle.lay_items.proofs.BeginLemmas.{keys}
use Rattle.lay_items.proofs.beginnings.paged.Goals as goal

pub build-requires : goal.build-requires
build-requires c =
    let none : c.loop-mark.mark-iterator ≡ [] = search rules in
    let all : c.loop-mark.pages ≡ map with_none c.args.marks.items =
    sym (append-nil c.loop-mark.pages) ∙ ap (λ (ms : List Mark). c.loop-mark.pages ++ map with_none ms) (sym none)
    ∙ c.loop-mark.invariant in
    subst (λ (es : MarkList). IsStrictlySortedBy mark_cmp (keys_of es)) (sym all)
    (subst (λ (ms : List Mark). IsStrictlySortedBy mark_cmp ms) (sym (keys c.args.marks.items)) c.requires)
