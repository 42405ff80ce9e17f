use Rattle.std.proofs.Common.{◌≡◌, ℕ, [], length, get_or, map}
use Rattle.std.specs.Global.{Vec}
use Rattle.face_sweep.proofs.own_rows.OwnRows.new.Given as goal

-- so many lists, all empty
abbrev pub invariant-loop-shape : goal.invariant-loop-shape
invariant-loop-shape l = record {
  count : length (map (λ (v : Vec ℕ). v.items) l.lists.items) ≡ l._shape;
  empty : (i : ℕ) → get_or (map (λ (v : Vec ℕ). v.items) l.lists.items) i [] ≡ [];
}
