use Rattle.std.proofs.Common.{◌∙◌, sym}
use Rattle.std.specs.Cmp.Lexicographic.{pointwise}
use Rattle.lay_layouts.specs.SameMap.{keyed_value_eq}
use Rattle.lay_layouts.proofs.SameLemmas.{map_eq-of}
use Rattle.lay_layouts.proofs.trees.are_same_pages.Goals as goal

pub returns : goal.returns
returns g c =
    c.is_same.ensures
    ∙ (λ i. pointwise (λ (e : g.row.K.Denot × g.row.V.Denot). λ (f : g.row.K.Denot × g.row.V.Denot).
    keyed_value_eq g.K.PartialEq.eq g.V.PartialEq.eq e f) c.args.pages.now c.args.others.now)
    ∙ sym (map_eq-of _ g.met.K.Ord.total _ _ c.args.pages.now c.args.others.now c.requires.one c.requires.other)
