-- Lists: what holds of each element.
use Rattle.std.proofs.Common.{List, [], ◌∷◌, ◌++◌, map}
use Rattle.std.specs.List.{AllByRecursion}

-- what follows from two facts of each
pub all_both : {X : Type 0} (P Q S : X → Type 0) → ((x : X) → P x → Q x → S x) → (xs : List X) → AllByRecursion P xs →
    AllByRecursion Q xs →
    AllByRecursion S xs
all_both P Q S gives [] ps qs = tt
all_both P Q S gives (x ∷ xs) ps qs = (gives x ps.0 qs.0, all_both P Q S gives xs ps.1 qs.1)

-- of what is made of each
pub all_made : {X Y : Type 0} (P : X → Type 0) (Q : Y → Type 0) (f : X → Y) → ((x : X) → P x → Q (f x)) → (xs : List X) →
    AllByRecursion P xs →
    AllByRecursion Q (map f xs)
all_made P Q f makes [] all = tt
all_made P Q f makes (x ∷ xs) all = (makes x all.0, all_made P Q f makes xs all.1)

pub all_mapped : {X Y : Type 0} (P : Y → Type 0) (f : X → Y) (xs : List X) → AllByRecursion P (map f xs) →
    AllByRecursion (λ x. P (f x)) xs
all_mapped P f [] all = tt
all_mapped P f (x ∷ xs) all = (all.0, all_mapped P f xs all.1)

-- of two lists together, and of each of them
pub all_joined : {X : Type 0} (P : X → Type 0) (xs ys : List X) → AllByRecursion P xs → AllByRecursion P ys → AllByRecursion P (xs ++ ys)
all_joined P [] ys here there = there
all_joined P (x ∷ xs) ys here there = (here.0, all_joined P xs ys here.1 there)

pub all_parts : {X : Type 0} (P : X → Type 0) (xs ys : List X) → AllByRecursion P (xs ++ ys) → AllByRecursion P xs × AllByRecursion P ys
all_parts P [] ys all = (tt, all)
all_parts P (x ∷ xs) ys all = let rest = all_parts P xs ys all.1 in ((all.0, rest.0), rest.1)
