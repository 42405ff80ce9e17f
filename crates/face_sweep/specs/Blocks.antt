-- Lists in blocks.
use Rattle.std.specs.Prelude.{◌≡◌, List, [], ◌∷◌, ◌++◌, length}
use Rattle.std.specs.declared.vec.Vec.{Vec}
use Rattle.face_sweep.specs.declared.blocks.Blocks.{Blocks}

-- the elements of blocks in order
abbrev pub all_before : {X Y : Type 0} → List (Vec X Y) → List X
all_before [] = []
all_before (b ∷ bs) = b.items ++ all_before bs

-- the elements of blocks of which the next one is last
abbrev pub all_after : {X Y : Type 0} → List (Vec X Y) → List X
all_after [] = []
all_after (b ∷ bs) = all_after bs ++ b.items

-- the elements of all blocks
abbrev pub list_in : {X : Type 0} → Blocks X → List X
list_in s = all_before s.before.items ++ (s.here.items ++ all_after s.after.items)

-- blocks know how many elements there are, before the current one and in all
pub record AreBlocks {X : Type 0} (s : Blocks X) : Type 0 where
  pub start : s.start ≡ length (all_before s.before.items)
  pub len : s.len ≡ length (list_in s)

-- other blocks of the same elements
pub record IsSame {X : Type 0} (old new : Blocks X) : Type 0 where
  pub list : list_in new ≡ list_in old
  pub blocks : AreBlocks new
