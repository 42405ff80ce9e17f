use Rattle.std.proofs.Common.{◌≡◌, ◌∙◌, Contains, Decides, rules}
use Rattle.std.specs.Prelude.{is_ok}
use Rattle.snap_pixels.proofs.OrderLemmas.{found-Decides}
use Rattle.snap_pixels.proofs.hot_set.HotSet.contains.Goals as goal

pub returns : goal.returns
returns c =
    let same : c.deref.result.now ≡ c.args.self.now = c.deref.ensures.value ∙ c.self.view_is in
    let found : Decides (is_ok c.binary_search.result) (Contains c.deref.result.now c.args.centre) =
    found-Decides c.deref.result.now c.args.centre c.binary_search.result (search rules)
    c.binary_search.ensures.bound c.binary_search.ensures.position in
    rw (c.is_ok.ensures.value, ← same) found
