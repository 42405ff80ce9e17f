use Rattle.std.proofs.Common.{◌≡◌}
use Rattle.std.specs.Cmp.Lexicographic.{pointwise}
use Rattle.lay_pages.specs.Written.{are_equal}
use Rattle.lay_pages.proofs.entries.are_same.Given as goal

-- those that are left decide
abbrev pub invariant-loop-key : goal.invariant-loop-key
invariant-loop-key g l =
    pointwise (are_equal g.K.PartialEq.eq g.V.PartialEq.eq) l.key-iterator l.others
    ≡ pointwise (are_equal g.K.PartialEq.eq g.V.PartialEq.eq) l.fn.entries l.fn.others
