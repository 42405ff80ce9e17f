use Rattle.std.proofs.Common.{◌≡◌, ◌∙◌, ◌<◌, ◌≤◌, ◌+ℤ◌, ◌++◌, ◌∷◌, [], sym, subst, pos, arith, ⊎_elim}
use Rattle.std.proofs.lemmas.Bool.{cases_lt}
use Rattle.std.proofs.lemmas.List.FromFn.{map-range_with_len_more}
use Rattle.snap_pixels.specs.Coordinates.{from_least}
use Rattle.snap_slabs.specs.Runs.{centre_at, row_key}
use Rattle.snap_slabs.proofs.rows.row_keys.Goals as goal

pub loop-number-preserved : goal.loop-number-preserved
loop-number-preserved c =
    let n = c.loop-number.number in
    let cs = c.args.centres.now in
    let key : c.key_of.result ≡ row_key cs n = c.key_of.ensures.value in
    record {
      keys = c.in_ok-push.ensures.items ∙ (λ t. c.loop-number.invariant.keys t ++ key t ∷ [])
          ∙ sym (map-range_with_len_more (row_key cs) 0 n n (omega arith));
      rows = λ i lt. ⊎_elim (λ (before : i < n). c.loop-number.invariant.rows i before)
          (λ (ge : n ≤ i).
          let same : n ≡ i = omega (arith, ge, lt) in
          subst (λ k. pos (from_least (centre_at cs k).y) ≡ (centre_at cs k).y +ℤ pos 2147483648) same c.key_of.ensures.row)
          (cases_lt i n);
    }
