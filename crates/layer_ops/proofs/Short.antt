-- Whether rings and paths are short.
use Rattle.std.proofs.Common.{◌≡◌, ◌<◌, ◌≤◌, true, false, List, length, ap, ◌∙◌, arith}
use Rattle.std.specs.Prelude.{All, Any}
use Rattle.std.specs.List.{list_all}
use Rattle.std.proofs.lemmas.Bool.Decides.{nat_tests}
use Rattle.std.proofs.lemmas.List.Elements.{All-weaker}
use Rattle.std.proofs.lemmas.List.Folds.{list_all_at}
use Rattle.std.proofs.lemmas.List.Sums.{list_all-from_AllPass}
use Rattle.lay_point.specs.declared.point.Point.{Point}
use Rattle.lay_point.specs.declared.ring.TheConstants.{MAX_RING_POINTS}
use Rattle.bool_rules.specs.Shapes.{is_short}

short_by_length : (path : List Point) → length path ≤ MAX_RING_POINTS → is_short path ≡ true
short_by_length path h = grind (arith, nat_tests)

long_by_length : (path : List Point) → MAX_RING_POINTS < length path → is_short path ≡ false
long_by_length path h = grind (arith, nat_tests)

pub all_short : (rings : List (List Point)) → All (λ ring. length ring ≤ MAX_RING_POINTS) rings → list_all is_short rings ≡ true
all_short rings h =
    list_all-from_AllPass is_short rings
    (All-weaker (λ (ring : List Point). length ring ≤ MAX_RING_POINTS) (λ ring. is_short ring ≡ true) short_by_length rings h)

pub some_long : (rings : List (List Point)) → Any (λ ring. MAX_RING_POINTS < length ring) rings → list_all is_short rings ≡ false
some_long rings h = list_all_at is_short rings h.0 h.1 h.2 (ap is_short h.3 ∙ long_by_length h.1 h.4)
