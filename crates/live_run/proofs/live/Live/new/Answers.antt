use Rattle.std.proofs.Common.{◌≡◌, ◌∙◌, ◌+◌, ℕ, [], ap, replicate, rules}
use Rattle.session_core.specs.Machine.{start}
use Rattle.undo_book.specs.declared.book.TheConstants.{MAX_CALLS}
use Rattle.live_run.proofs.live.Live.new.Goals as goal

-- part by part
pub returns : goal.returns
returns c =
    let state : c.in_ok-new.field-0 ≡ start c.args.base 64 MAX_CALLS = search rules in
    let sessions : c.new-2.result.items ≡ [] = search rules in
    let replies : c.new-3.result.items ≡ [] = search rules in
    let made : c.in_ok-vec.field-0.items ≡ replicate (c.from.result + 1) 0 = search rules in
    let from : c.from.result ≡ 64 = search rules in
    let taken : c.in_ok-vec.field-0.items ≡ replicate 65 0 = made ∙ ap (λ (n : ℕ). replicate (n + 1) 0) from in
    λ i. record {
      state = state i;
      sessions = sessions i;
      replies = replies i;
      taken = taken i;
      lines = 0;
      view = c.args.view;
    }
