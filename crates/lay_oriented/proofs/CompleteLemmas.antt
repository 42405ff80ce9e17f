-- Writes and shapes that stay, found item by item.
use Rattle.std.proofs.Common.{◌≡◌, ◌∙◌, ◌++◌, ℕ, zero, suc, List, [], ◌∷◌, Some, inl, inr, refl, ap, sym, subst, append_assoc, take}
use Rattle.lay_cells.specs.declared.cell_id.CellId.{CellId}
use Rattle.lay_layouts.specs.declared.id.ItemId.{ItemId}
use Rattle.lay_layouts.specs.declared.item.Item.{Item}
use Rattle.lay_layouts.specs.Layout.{Write}
use Rattle.lay_oriented.specs.Directed.{IsTurned}
use Rattle.lay_oriented.specs.Steps.{AreWrites, IsShapeOf}

-- whatever is found for the items that are left completes what is found for all
abbrev pub Completes : List (ItemId × Item) → List (ItemId × Item) → List Write → List (CellId × ItemId) → Type 0
Completes all left done stays =
    (ws : List Write) (more : List (CellId × ItemId)) → AreWrites left ws more → AreWrites all (done ++ ws) (stays ++ more)

pub complete_none : (all left : List (ItemId × Item)) (done : List Write) → left ≡ all → done ≡ [] → Completes all left done []
complete_none all left done all_left none = λ ws more is.
    subst (λ (l : List Write). AreWrites all (l ++ ws) more) (sym none)
    (subst (λ (l : List (ItemId × Item)). AreWrites l ws more) all_left is)

pub complete_turned : (all es : List (ItemId × Item)) (e : ItemId × Item) (new : Item) (done longer : List Write)
    (stays : List (CellId × ItemId)) → IsTurned e.1 new
    → longer ≡ done ++ (e.0, Some new) ∷ [] → Completes all (e ∷ es) done stays → Completes all es longer stays
complete_turned all es e new done longer stays turned same so = λ ws more is.
    let split : longer ++ ws ≡ done ++ (e.0, Some new) ∷ ws =
    ap (λ l. l ++ ws) same ∙ append_assoc done ((e.0, Some new) ∷ []) ws in
    subst (λ (l : List Write). AreWrites all l (stays ++ more)) (sym split)
    (so ((e.0, Some new) ∷ ws) more (inr (inl (new, ws, refl, turned, is))))

pub complete_otherwise : (all es : List (ItemId × Item)) (e : ItemId × Item) (done : List Write) (stays : List (CellId × ItemId))
    (cell : CellId) → IsShapeOf cell e.1 → Completes all (e ∷ es) done stays → Completes all es done (stays ++ (cell, e.0) ∷ [])
complete_otherwise all es e done stays cell shape so = λ ws more is.
    subst (λ (l : List (CellId × ItemId)). AreWrites all (done ++ ws) l) (sym (append_assoc stays ((cell, e.0) ∷ []) more))
    (so ws ((cell, e.0) ∷ more) (inr (inr (cell, more, refl, shape, is))))

nothing_more : {A : Type 0} (xs : List A) → xs ++ [] ≡ xs
nothing_more [] = refl
nothing_more (x ∷ xs) = ap (λ l. x ∷ l) (nothing_more xs)

pub complete_all : (all left : List (ItemId × Item)) (done : List Write) (stays : List (CellId × ItemId)) → left ≡ []
    → Completes all left done stays → AreWrites all done stays
complete_all all left done stays none so =
    let last : AreWrites left [] [] = subst (λ (l : List (ItemId × Item)). AreWrites l [] []) (sym none) (refl, refl) in
    subst (λ (l : List (CellId × ItemId)). AreWrites all done l) (nothing_more stays)
    (subst (λ (l : List Write). AreWrites all l (stays ++ [])) (nothing_more done) (so [] [] last))

-- the first ones of more are those of the first ones and more
pub take_further : {A : Type 0} (n : ℕ) (xs ys : List A) → take n (take n xs ++ ys) ≡ take n (xs ++ ys)
take_further zero xs ys = refl
take_further (suc n) [] ys = refl
take_further (suc n) (x ∷ xs) ys = ap (λ l. x ∷ l) (take_further n xs ys)
