-- What a journal has kept of lines, as they come.
use Rattle.std.proofs.Common.{◌≡◌, ℕ, ◌+◌, List, [], ◌∷◌, ◌++◌, Bool, true, false, cond, Option, None, Some, refl, sym, ap, ◌∙◌, subst}
use Rattle.std.proofs.Common.{append_assoc, append-nil}
use Rattle.std.specs.List.{concat}
use Rattle.live_run.specs.Cif.{before, behind, is_live}
use Rattle.live_run.specs.Journal.{KeptText, KeptMore, KeptAll, KeptPart, kept_since, kept_head, kept_in, kept_line, kept_lines, first_live}
use Rattle.live_run.proofs.CifLemmas.{before_at, behind_at, goes_on}

-- ---- entries

gains_none : (x : Option (List KeptText)) → KeptMore x x []
gains_none None = refl
gains_none (Some xs) = ap (λ (l : List KeptText). Some l) (sym (append-nil xs))

gains_then : (x y z : Option (List KeptText)) (es fs : List KeptText) → KeptMore x y es → KeptMore y z fs → KeptMore x z (es ++ fs)
gains_then None y z es fs p q = subst (λ (w : Option (List KeptText)). KeptMore w z fs) p q
gains_then (Some xs) y z es fs p q =
    let q' : z ≡ Some ((xs ++ es) ++ fs) = subst (λ (w : Option (List KeptText)). KeptMore w z fs) p q in
    q' ∙ ap (λ (l : List KeptText). Some l) (append_assoc xs es fs)

module _ {J : Type 0} (kept : J → Option (List KeptText)) (losses : J → ℕ) where
  pub kept_nothing : (a b : J) → b ≡ a → KeptAll kept losses a b []
  kept_nothing a b same =
      subst (λ (j : J). KeptAll kept losses a j []) (sym same) (record { all = gains_none (kept a); unfailing = refl })

  pub kept_then : (a b c : J) (es fs : List KeptText) → KeptAll kept losses a b es → KeptAll kept losses b c fs
      → KeptAll kept losses a c (es ++ fs)
  kept_then a b c es fs p q = record {
    all = gains_then (kept a) (kept b) (kept c) es fs p.all q.all;
    unfailing = q.unfailing ∙ p.unfailing;
  }

  pub kept_part_then : (a b c : J) (es fs : List KeptText) → KeptAll kept losses a b es → KeptPart kept losses b c fs
      → KeptPart kept losses a c (es ++ fs)
  kept_part_then a b c es fs p q =
      let (first, more, start, rest, flushed, whole, gained) = q.begun in
      record {
        begun = (
          es ++ first,
          more,
          start,
          rest,
          flushed,
          append_assoc es first ((start ++ rest, flushed) ∷ more) ∙ ap (λ (l : List KeptText). es ++ l) whole,
          subst (KeptMore (kept a) (kept c)) (sym (append_assoc es first ((start, false) ∷ [])))
              (gains_then (kept a) (kept b) (kept c) es (first ++ (start, false) ∷ []) p.all gained),
        );
        failed = q.failed ∙ ap (λ (n : ℕ). n + 1) p.unfailing;
      }

  -- what failed in some first entries failed in all
  pub kept_part_more : (a b : J) (es fs : List KeptText) → KeptPart kept losses a b es → KeptPart kept losses a b (es ++ fs)
  kept_part_more a b es fs q =
      let (first, more, start, rest, flushed, whole, gained) = q.begun in
      record {
        begun = (
          first,
          more ++ fs,
          start,
          rest,
          flushed,
          sym (append_assoc first ((start ++ rest, flushed) ∷ more) fs) ∙ ap (λ (l : List KeptText). l ++ fs) whole,
          gained,
        );
        failed = q.failed;
      }

-- ---- lines

live_by : (t : Bool) (line : List ℕ) (seen : List (List ℕ)) (more : List (List ℕ)) (fed : List (List ℕ))
    → (behind seen ≡ Some fed → first_live (seen ++ more) ≡ first_live seen) → cond t (Some seen) (behind seen) ≡ Some fed
    → cond t line (first_live (seen ++ more)) ≡ cond t line (first_live seen)
live_by true line seen more fed on h = refl
live_by false line seen more fed on h = on h

live_more : (seen fed more : List (List ℕ)) → behind seen ≡ Some fed → first_live (seen ++ more) ≡ first_live seen
live_more [] fed more h = absurd (let e = h in cc)
live_more (line ∷ seen) fed more h = live_by (is_live line) line seen more fed (live_more seen fed more) h

live_by_none : (t : Bool) (other line : List ℕ) (seen more : List (List ℕ))
    → (behind seen ≡ None → first_live (seen ++ line ∷ more) ≡ line) → cond t (Some seen) (behind seen) ≡ None
    → cond t other (first_live (seen ++ line ∷ more)) ≡ line
live_by_none true other line seen more on h = absurd (let e = h in cc)
live_by_none false other line seen more on h = on h

live_at : (seen : List (List ℕ)) (line : List ℕ) (more : List (List ℕ)) → behind seen ≡ None → is_live line ≡ true
    → first_live (seen ++ line ∷ more) ≡ line
live_at [] line more h is = ap (λ (t : Bool). cond t line (first_live more)) is
live_at (other ∷ seen) line more h is =
    live_by_none (is_live other) other line seen more (λ (none : behind seen ≡ None). live_at seen line more none is) h

lines_more : (fed : List (List ℕ)) (line : List ℕ) → kept_lines (fed ++ line ∷ []) ≡ kept_lines fed ++ kept_line line
lines_more [] line = append-nil (kept_line line)
lines_more (first ∷ fed) line =
    ap (λ (l : List KeptText). kept_line first ++ l) (lines_more fed line)
    ∙ sym (append_assoc (kept_line first) (kept_lines fed) (kept_line line))

-- before the live line nothing is kept
pub kept_none : (seen : List (List ℕ)) → behind seen ≡ None → kept_in seen ≡ []
kept_none seen none = ap (kept_since seen) none

-- at it, the head and the line are
pub kept_at : (seen : List (List ℕ)) (line : List ℕ) → behind seen ≡ None → is_live line ≡ true
    → kept_in (seen ++ line ∷ []) ≡ kept_head (concat seen) line
kept_at seen line none live =
    ap (kept_since (seen ++ line ∷ [])) (behind_at seen line [] none live)
    ∙ append-nil (kept_head (concat (before (seen ++ line ∷ []))) (first_live (seen ++ line ∷ [])))
    ∙ ap (λ (ls : List (List ℕ)). kept_head (concat ls) (first_live (seen ++ line ∷ []))) (before_at seen line [] none live)
    ∙ ap (kept_head (concat seen)) (live_at seen line [] none live)

-- behind it, a line more is kept as a line
pub kept_more : (seen fed : List (List ℕ)) (line : List ℕ) → behind seen ≡ Some fed
    → kept_in (seen ++ line ∷ []) ≡ kept_in seen ++ kept_line line
kept_more seen fed line h =
    let (front, back) = goes_on seen fed (line ∷ []) h in
    let head = kept_head (concat (before seen)) (first_live seen) in
    ap (kept_since (seen ++ line ∷ [])) back
    ∙ ap (λ (ls : List (List ℕ)). kept_head (concat ls) (first_live (seen ++ line ∷ [])) ++ kept_lines (fed ++ line ∷ [])) front
    ∙ ap (λ (l : List ℕ). kept_head (concat (before seen)) l ++ kept_lines (fed ++ line ∷ [])) (live_more seen fed (line ∷ []) h)
    ∙ ap (λ (l : List KeptText). head ++ l) (lines_more fed line)
    ∙ sym (append_assoc head (kept_lines fed) (kept_line line))
    ∙ ap (λ (l : List KeptText). l ++ kept_line line) (sym (ap (kept_since seen) h))
