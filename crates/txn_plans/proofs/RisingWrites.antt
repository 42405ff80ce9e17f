-- Writes one behind the other: as many as rise, and then the others.
use Rattle.std.proofs.Common.{◌≡◌, ◌<◌, ◌+◌, ◌-◌, ℕ, zero, suc, List, [], ◌∷◌, ap, arith, drop, get_or, length, refl, subst, take}
use Rattle.std.specs.declared.cmp.Ordering.TheVariants.{Less}
use Rattle.std.specs.FinMap.{FinMap}
use Rattle.lay_layouts.specs.declared.item.Item.{Item}
use Rattle.lay_layouts.specs.Ids.{id_cmp}
use Rattle.lay_layouts.specs.Layout.{AreRising, Layout, Write, put, put_all}
use Rattle.txn_commands.specs.Writing.{rewritten}

put_parts : (m : FinMap id_cmp Item) (n : ℕ) (ws : List Write) → put_all (put_all m (take n ws)) (drop n ws) ≡ put_all m ws
put_parts m zero ws = refl
put_parts m (suc n) [] = refl
put_parts m (suc n) (w ∷ ws) = put_parts (put m w.0 w.1) n ws

-- the layout after some of the writes, and then the others
pub rewritten_parts : (l : Layout) (n : ℕ) (ws : List Write) → rewritten (rewritten l (take n ws) []) (drop n ws) [] ≡ rewritten l ws []
rewritten_parts l n ws =
    ap (λ (m : FinMap id_cmp Item). (let made : Layout = record { symbols = l.symbols; items = m } in made)) (put_parts l.items n ws)

-- one write alone rises
pub rising_one : (ws : List Write) → AreRising id_cmp (take 1 ws)
rising_one [] = tt
rising_one (w ∷ ws) = tt

-- and one more, where its id is above that of the one before it
pub rising_more : (ws : List Write) (n : ℕ) (d e : Write) → 0 < n → n < length ws → AreRising id_cmp (take n ws)
    → id_cmp (get_or ws (n - 1) d).0 (get_or ws n e).0 ≡ Less → AreRising id_cmp (take (n + 1) ws)
rising_more ws zero d e some lt rising less = absurd (omega arith)
rising_more ws (suc m) d e some lt rising less =
    let same : suc m - 1 ≡ m = omega arith in
    let here = subst (λ k. id_cmp (get_or ws k d).0 (get_or ws (suc m) e).0 ≡ Less) same less in
    subst (λ k. AreRising id_cmp (take k ws)) up (by ws m lt rising here) where
      up : suc (suc m) ≡ suc m + 1
      up = omega arith

      by : (ws : List Write) (m : ℕ) → suc m < length ws → AreRising id_cmp (take (suc m) ws)
          → id_cmp (get_or ws m d).0 (get_or ws (suc m) e).0 ≡ Less → AreRising id_cmp (take (suc (suc m)) ws)
      by [] m lt rising less = absurd (omega arith)
      by (w ∷ []) m lt rising less = absurd (omega arith)
      by (w ∷ v ∷ ws) zero lt rising less = (less, tt)
      by (w ∷ v ∷ ws) (suc m) lt rising less = (rising.0, by (v ∷ ws) m (omega arith) rising.1 less)
