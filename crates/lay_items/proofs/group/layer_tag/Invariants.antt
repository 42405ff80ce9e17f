use Rattle.std.proofs.Common.{◌≡◌, drop}
use Rattle.std.specs.Prelude.{fold}
use Rattle.lay_items.specs.Runs.{tag_with}
use Rattle.lay_items.proofs.group.layer_tag.Given as goal

-- the bytes that are left make of the tag what all of them make
abbrev pub invariant-loop-byte : goal.invariant-loop-byte
invariant-loop-byte l = fold tag_with l.tag (drop l.byte-index l.byte-items) ≡ fold tag_with 0 l.byte-items
