-- What a reader of the code returned, seen without where its bytes lie.
use Rattle.std.specs.Prelude.{◌≡◌, Option, Some, None}

-- the answer, seen by view, is the one that is wanted
abbrev pub Gives : {X Y : Type 0} → (X → Y) → Option X → Option Y → Type 0
Gives view None wanted = wanted ≡ None
Gives view (Some x) wanted = wanted ≡ Some (view x)
