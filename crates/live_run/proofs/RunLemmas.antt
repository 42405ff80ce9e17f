-- A run from the first byte to its end.
use Rattle.std.proofs.Common.{◌≡◌, ℕ, List, [], ◌++◌, Option, inl, inr, refl, sym, subst, append-nil}
use Rattle.std.specs.Prelude.{⊤}
use Rattle.byte_io.specs.Input.{Counts}
use Rattle.live_run.specs.declared.showing.Showing.{Showing}
use Rattle.live_run.specs.declared.ending.LiveEnd.{LiveEnd}
use Rattle.live_run.specs.declared.ending.LiveEnd.TheVariants.{Cif, Device, Done, Job, Journal, Memory}
use Rattle.live_run.specs.Ending.{IsBroken, IsEnd, IsEnded, IsStop, Past, Tells, no_past}
use Rattle.live_run.specs.Journal.{KeptText}
use Rattle.live_run.specs.Course.{InHead, Phase}
use Rattle.live_run.specs.Feed.{Feeds, IsAt}
use Rattle.live_run.proofs.CutLemmas.{cut_none}
use Rattle.live_run.proofs.FeedLemmas.{all_answered}

tells_by : (past : Past) (a b : Type 0) (given : List ℕ) (told : List (List ℕ)) → (a → b) → Tells past given a told
    → Tells past given b told
tells_by past a b given told f (inl is) = inl is
tells_by past a b given told f (inr (ended, all)) = inr (f ended, all)

module _ {O J : Type 0} (showing : Showing) (written : O → Option (List ℕ)) (failures : O → ℕ) (kept : J → Option (List KeptText))
    (losses : J → ℕ) (past : Past)
  where
    -- a stop, where what is known of the input's end is less
    pub stop_by : (a b : Type 0) (base out : O × J) (given : List ℕ) (end : LiveEnd) → (a → b)
        → IsStop showing written failures kept losses past base out given a end → IsStop showing written failures kept losses past base
        out given b end
    stop_by a b base out given (Done refused notes) f (ended, said, is, have, did) = (f ended, said, is, have, did)
    stop_by a b base out given (Job n text) f (told, tells, is, same) = (told, tells_by past a b given told f tells, is, same)
    stop_by a b base out given (Cif fault text) f (told, tells, is, same) = (told, tells_by past a b given told f tells, is, same)
    stop_by a b base out given Device f stop = stop
    stop_by a b base out given Journal f stop = stop
    stop_by a b base out given Memory f stop = stop

    -- before the first byte
    pub feeds_none : (out : O × J) (phase : Phase) (line : List ℕ) → past ≡ no_past → phase ≡ InHead [] 0 → line ≡ []
        → Feeds showing written failures kept losses past out out [] phase line
    feeds_none out phase line fresh is none =
        subst (λ (p : Phase). Feeds showing written failures kept losses past out out [] p line) (sym is)
        (subst (λ (l : List ℕ). Feeds showing written failures kept losses past out out [] (InHead [] 0) l) (sym none) (
          [],
          cut_none,
          subst (λ (p : Past). IsAt showing written failures kept losses p out out (p.lines ++ []) (InHead [] 0)) (sym fresh)
              (refl, refl, refl, refl, refl),
        ))

    module _ {I : Type 0} (counts : I → Counts) where
      -- the input is broken
      pub run_broken : (input input' : I) (out out' : O × J) (given : List ℕ) (phase : Phase) (line : List ℕ)
          → Feeds showing written failures kept losses past out out' given phase line
          → IsBroken (counts input) (counts input')
          → IsEnd showing written failures kept losses past out out' given (counts input) (counts input') Device
      run_broken input input' out out' given phase line feeds broken =
          inr (refl, broken, all_answered showing written failures kept losses past out out' given phase line feeds)

      -- the run stopped in these bytes
      pub run_stopped : (input input' : I) (out out' : O × J) (given : List ℕ) (end : LiveEnd)
          → IsStop showing written failures kept losses past out out' (given ++ []) ⊥ end
          → IsEnd showing written failures kept losses past out out' given (counts input) (counts input') end
      run_stopped input input' out out' given end stop =
          inl (stop_by ⊥ (IsEnded (counts input) (counts input')) out out' given end (λ none. absurd none)
          (subst (λ (l : List ℕ). IsStop showing written failures kept losses past out out' l ⊥ end) (append-nil given) stop))

      -- the input ended
      pub run_ended : (input input' : I) (out out' : O × J) (given : List ℕ) (end : LiveEnd)
          → IsEnded (counts input) (counts input') → IsStop showing written failures kept losses past out out' given ⊤ end
          → IsEnd showing written failures kept losses past out out' given (counts input) (counts input') end
      run_ended input input' out out' given end ended stop =
          inl (stop_by ⊤ (IsEnded (counts input) (counts input')) out out' given end (λ _. ended) stop)
