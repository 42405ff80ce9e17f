-- The list of the books, itself shared.
use Rattle.std.specs.Prelude.{List, []}
use Rattle.std.specs.declared.option.Option.{Option}
use Rattle.std.specs.declared.option.Option.TheVariants.{None, Some}
use Rattle.std.specs.declared.sync.Arc.{Arc}
use Rattle.std.specs.declared.vec.Vec.{Vec}
use Rattle.lay_pages.specs.Shared.{pages_in}

-- the pages of the books, where there is a list of them
abbrev pub books_in : {X Y Z V W S U : Type 0} → Option (Arc (Vec (Arc (Vec (Arc (Vec X Y) Z) V) W) S) U) → List (List (List X))
books_in None = []
books_in (Some books) = pages_in books.value.items
