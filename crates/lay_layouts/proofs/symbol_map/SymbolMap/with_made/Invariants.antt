use Rattle.std.proofs.Common.{drop}
use Rattle.lay_layouts.specs.Layout.{put_all}
use Rattle.lay_layouts.proofs.MadeLemmas.{IsGrown}
use Rattle.lay_layouts.proofs.symbol_map.SymbolMap.with_made.Given as goal

-- the writes so far made symbols behind all others
abbrev pub invariant-loop-number : goal.invariant-loop-number
invariant-loop-number l = IsGrown l.fn.self (drop l.number-index l.writes) (put_all l.fn.self l.writes) l.cells l.last
