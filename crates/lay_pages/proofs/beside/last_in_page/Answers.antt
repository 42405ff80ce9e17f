use Rattle.std.proofs.Common.{◌∙◌}
use Rattle.lay_pages.proofs.LastLemmas.{last_get}
use Rattle.lay_pages.proofs.beside.last_in_page.Goals as goal

pub returns : goal.returns
returns g c = c.in_ok-key.ensures.value ∙ last_get c.args.page.now
