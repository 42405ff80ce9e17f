-- Writes of rising ids are in order.
use Rattle.std.proofs.Common.{◌≡◌, List, [], ◌∷◌}
use Rattle.std.specs.declared.cmp.Ordering.TheVariants.{Less}
use Rattle.std.specs.List.{AllByRecursion}
use Rattle.std.specs.List.Sorted.{IsStrictlySortedBy}
use Rattle.std.specs.Map.{keys_of}
use Rattle.lay_point.proofs.ListLaws.{all_weaker}
use Rattle.lay_layouts.specs.IdOrder.{ids_total}
use Rattle.lay_layouts.specs.Ids.{id_cmp}
use Rattle.lay_layouts.specs.Layout.{AreRising, Write}

-- the ids of later writes are behind that of the first
rising_all : (w : Write) (ws : List Write) → AreRising id_cmp (w ∷ ws) → AllByRecursion (λ y. id_cmp w.0 y ≡ Less) (keys_of ws)
rising_all w [] rising = tt
rising_all w (v ∷ ws) rising = (
  rising.0,
  all_weaker (λ y. id_cmp v.0 y ≡ Less) (λ y. id_cmp w.0 y ≡ Less) (λ y. ids_total.trans w.0 v.0 y rising.0) (keys_of ws)
      (rising_all v ws rising.1),
)

rising_tail : (w : Write) (ws : List Write) → AreRising id_cmp (w ∷ ws) → AreRising id_cmp ws
rising_tail w [] rising = tt
rising_tail w (v ∷ ws) rising = rising.1

-- so they are in order
pub rising_sorted : (ws : List Write) → AreRising id_cmp ws → IsStrictlySortedBy id_cmp (keys_of ws)
unfolding IsStrictlySortedBy
rising_sorted [] rising = tt
rising_sorted (w ∷ ws) rising = (rising_all w ws rising, rising_sorted ws (rising_tail w ws rising))
