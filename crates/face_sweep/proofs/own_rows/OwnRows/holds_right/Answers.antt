use Rattle.std.proofs.Common.{◌≡◌, ◌≢◌, ◌<◌, ℕ, get_or, length, subst, ◌∙◌, arith}
use Rattle.std.specs.Prelude.{MatchOption}
use Rattle.face_sweep.specs.Reaches.{key_of}
use Rattle.face_sweep.proofs.own_rows.OwnRows.holds_right.Goals as goal

pub holds_in-requires : goal.holds_in-requires
holds_in-requires c =
    let keys = c.args.reach.now.traced.items in
    let i = c.unwrap-index.result in
    let slice = c.as_slice.result.now in
    let found : (i < length slice) × (get_or slice i 0 ≡ key_of c.args.owner) =
    subst (λ z. MatchOption z ((k : ℕ) → k < length slice → get_or slice k 0 ≢ key_of c.args.owner)
    (λ k. (k < length slice) × (get_or slice k 0 ≡ key_of c.args.owner))) c.unwrap-index.ensures c.index_of.ensures in
    let within : i < length keys = subst (λ l. i < length l) c.as_slice.ensures.value found.0 in
    record {
      index = omega (arith, c.requires.room.count, within);
      given = c.requires.room.given i;
    }

pub returns : goal.returns
returns c = λ own right left h is cut.
    let keys = c.args.reach.now.traced.items in
    let i = c.unwrap-index.result in
    let slice = c.as_slice.result.now in
    let found : (i < length slice) × (get_or slice i 0 ≡ key_of c.args.owner) =
    subst (λ z. MatchOption z ((k : ℕ) → k < length slice → get_or slice k 0 ≢ key_of c.args.owner)
    (λ k. (k < length slice) × (get_or slice k 0 ≡ key_of c.args.owner))) c.unwrap-index.ensures c.index_of.ensures in
    let within : i < length keys = subst (λ l. i < length l) c.as_slice.ensures.value found.0 in
    let at : get_or keys i 0 ≡ key_of c.args.owner =
    subst (λ l. get_or l i 0 ≡ key_of c.args.owner) c.as_slice.ensures.value found.1 in
    c.holds_in.ensures right left (h i c.args.owner within at ∙ is) cut
