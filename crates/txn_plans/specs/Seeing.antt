-- The layout as a transaction sees it: its snapshot with what it wrote.
use Rattle.std.specs.Prelude.{◌≡◌, IfSome, option_copied}
use Rattle.lay_layouts.specs.Layout.{Layout}
use Rattle.lay_layouts.specs.Sound.{IsSound}
use Rattle.txn_commands.specs.Records.{AreProper, Lead, Records, applied}
use Rattle.txn_plans.specs.declared.layout_view.LayoutView.TheInside.{Inside}

abbrev pub seen_layout : Inside → Layout
seen_layout s = applied s.snapshot.now s.writes.now

-- the records are in order and lead from the snapshot to it, and it is sound
pub record Overlays (snapshot : Layout) (writes : Records) : Type 0 where
  pub proper : AreProper writes
  pub leads : Lead writes snapshot (applied snapshot writes)
  pub sound : IsSound (applied snapshot writes)

-- the layout that is kept, if one is, is that of the writes over the snapshot
pub record IsSeen (s : Inside) : Type 0 where
  pub over : Overlays s.snapshot.now s.writes.now
  pub whole : IfSome (option_copied s.whole) (λ l. l ≡ seen_layout s)
