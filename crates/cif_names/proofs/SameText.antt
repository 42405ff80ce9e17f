-- Lines that are taken out leave the text as it was.
use Rattle.std.proofs.Common.{◌≡◌, ◌⊎◌, ℕ, Bool, true, false, cond, List, [], ◌∷◌, ◌++◌, Option, Some, None, refl, sym, subst, ap, ◌∙◌, inl}
use Rattle.std.proofs.Common.{inr, append_assoc}
use Rattle.std.specs.Prelude.{⊤, ◌==◌, ◌||◌, flat_map, not}
use Rattle.std.specs.List.{AllByRecursion, list_all}
use Rattle.std.proofs.lemmas.Bool.{and_parts}
use Rattle.std.proofs.lemmas.List.{append-nil}
use Rattle.cif_names.specs.declared.names.Entry.{Entry}
use Rattle.cif_names.specs.declared.names.Names.{Names}
use Rattle.cif_names.specs.Laws.{HasNoNames, IsKeptLine, is_empty, is_kept_line, is_line, unless_kept, without_names}
use Rattle.byte_io.specs.Lines.{in_front, lines}
use Rattle.byte_io.proofs.LineLemmas.{lines-other}
use Rattle.cif_names.specs.Woven.{has_newline, heading, heading_of, is_kept_in, last_call, lines_in, started, with_names, woven, woven_line}

-- ---- the lines of a text

none_left : (bs : List ℕ) → is_empty bs ≡ true → bs ≡ []
none_left [] e = refl
none_left (b ∷ bs) e = absurd cc

lines-newline : (b : ℕ) (bs : List ℕ) → (b == 10) ≡ true → lines (b ∷ bs) ≡ (b ∷ []) ∷ lines bs
lines-newline b bs e = ap (λ t. cond t ((b ∷ []) ∷ lines bs) (in_front b (lines bs))) e

pub is_line-other : (b : ℕ) (bs : List ℕ) → (b == 10) ≡ false → is_line (b ∷ bs) ≡ is_line bs
is_line-other b bs e = ap (λ t. cond t (is_empty bs) (is_line bs)) e

is_line-newline : (b : ℕ) (bs : List ℕ) → (b == 10) ≡ true → is_line (b ∷ bs) ≡ is_empty bs
is_line-newline b bs e = ap (λ t. cond t (is_empty bs) (is_line bs)) e

-- a line at the front is the first one
pub first_line : (line rest : List ℕ) → is_line line ≡ true → lines (line ++ rest) ≡ line ∷ lines rest
first_line [] rest one = absurd cc
first_line (b ∷ bs) rest one = by (first_line bs rest) (b == 10) refl where
  last : (ds : List ℕ) → ds ≡ [] → (b == 10) ≡ true → lines (b ∷ (ds ++ rest)) ≡ (b ∷ ds) ∷ lines rest
  last ds none e = rw none (lines-newline b rest e)

  by : (is_line bs ≡ true → lines (bs ++ rest) ≡ bs ∷ lines rest) → (t : Bool) → (b == 10) ≡ t
      → lines (b ∷ (bs ++ rest)) ≡ (b ∷ bs) ∷ lines rest
  by further true e = last bs (none_left bs (sym (is_line-newline b bs e) ∙ one)) e
  by further false e = lines-other b (bs ++ rest) e ∙ ap (in_front b) (further (sym (is_line-other b bs e) ∙ one))

-- the last line lacks its newline
record IsOpen (line : List ℕ) (behind : List (List ℕ)) : Type 0 where
  last : behind ≡ []
  open_line : has_newline line ≡ false
  alone : lines line ≡ line ∷ []

-- lines as a text has them
abbrev AreLines : List (List ℕ) → Type 0
AreLines [] = ⊤
AreLines (line ∷ behind) = ((is_line line ≡ true) × AreLines behind) ⊎ IsOpen line behind

with_front : (b : ℕ) (ls : List (List ℕ)) → (b == 10) ≡ false → AreLines ls → AreLines (in_front b ls)
with_front b [] e are =
    inr (record { last = refl; open_line = ap (λ t. t || false) e; alone = lines-other b [] e })
with_front b (line ∷ behind) e (inl are) = inl (is_line-other b line e ∙ are.0, are.1)
with_front b (line ∷ behind) e (inr is) = inr (record {
  last = is.last;
  open_line = ap (λ t. t || has_newline line) e ∙ is.open_line;
  alone = lines-other b line e ∙ ap (in_front b) is.alone;
})

lines_are : (bytes : List ℕ) → AreLines (lines bytes)
lines_are [] = tt
lines_are (b ∷ bs) = by (lines_are bs) (b == 10) refl where
  by : AreLines (lines bs) → (t : Bool) → (b == 10) ≡ t → AreLines (lines (b ∷ bs))
  by are true e = subst AreLines (sym (lines-newline b bs e)) (inl (is_line-newline b [] e, are))
  by are false e = subst AreLines (sym (lines-other b bs e)) (with_front b (lines bs) e are)

abbrev joined : List (List ℕ) → List ℕ
joined ls = flat_map (λ l. l) ls

joined-front : (b : ℕ) (ls : List (List ℕ)) → joined (in_front b ls) ≡ b ∷ joined ls
joined-front b [] = refl
joined-front b (line ∷ behind) = refl

joined-lines : (bytes : List ℕ) → joined (lines bytes) ≡ bytes
joined-lines [] = refl
joined-lines (b ∷ bs) = by (joined-lines bs) (b == 10) refl where
  by : joined (lines bs) ≡ bs → (t : Bool) → (b == 10) ≡ t → joined (lines (b ∷ bs)) ≡ b ∷ bs
  by further true e = ap joined (lines-newline b bs e) ∙ ap (λ l. b ∷ l) further
  by further false e = ap joined (lines-other b bs e) ∙ joined-front b (lines bs) ∙ ap (λ l. b ∷ l) further

-- ---- what vanishes

-- bytes before any others are taken out
abbrev Vanishes : List ℕ → Type 0
Vanishes bytes = (rest : List ℕ) → without_names (bytes ++ rest) ≡ without_names rest

both_vanish : (xs ys : List ℕ) → Vanishes xs → Vanishes ys → Vanishes (xs ++ ys)
both_vanish xs ys f g rest = ap without_names (append_assoc xs ys rest) ∙ f (ys ++ rest) ∙ g rest

kept_vanishes : (e : Entry) → IsKeptLine e → Vanishes e.line
kept_vanishes e is rest =
    ap (flat_map unless_kept) (first_line e.line rest is.one)
    ∙ ap (λ t. cond t [] e.line ++ without_names rest) is.kept

-- the lines of what passes
abbrev picked : (Entry → Bool) → Entry → List ℕ
picked test e = cond (test e) e.line []

picked_vanishes : (test : Entry → Bool) (e : Entry) → IsKeptLine e → Vanishes (picked test e)
picked_vanishes test e is = by (test e) where
  by : (t : Bool) → Vanishes (cond t e.line [])
  by true = kept_vanishes e is
  by false = λ rest. refl

all_vanish : (test : Entry → Bool) (es : List Entry) → AllByRecursion IsKeptLine es → Vanishes (flat_map (picked test) es)
all_vanish test [] are = λ rest. refl
all_vanish test (e ∷ es) are =
    both_vanish (picked test e) (flat_map (picked test) es) (picked_vanishes test e are.0) (all_vanish test es are.1)

-- ---- the text

heading_vanishes : (called : Option ℕ) (entries : List Entry) (n : ℕ) → AllByRecursion IsKeptLine entries
    → Vanishes (heading called entries n)
heading_vanishes called entries n are =
    both_vanish (lines_in false called n entries) (lines_in true called n entries)
    (all_vanish (is_kept_in false called n) entries are) (all_vanish (is_kept_in true called n) entries are)

-- what stands behind a line vanishes, where each heading does
heading_of-vanishes : (headings : ℕ → List ℕ) (o : Option ℕ) → ((n : ℕ) → Vanishes (headings n)) → Vanishes (heading_of headings o)
heading_of-vanishes headings None all = λ rest. refl
heading_of-vanishes headings (Some n) all = all n

unless_kept-other : (line : List ℕ) → not (is_kept_line line) ≡ true → unless_kept line ≡ line
unless_kept-other line h = by (is_kept_line line) h where
  by : (t : Bool) → not t ≡ true → cond t [] line ≡ line
  by true e = absurd cc
  by false e = refl

started-open : (line : List ℕ) → has_newline line ≡ false → started line ≡ None
unfolding started
started-open line e = rw e refl

same_lines : (headings : ℕ → List ℕ) (ls : List (List ℕ)) → ((n : ℕ) → Vanishes (headings n)) → AreLines ls
    → list_all (λ line. not (is_kept_line line)) ls ≡ true → without_names (woven headings ls) ≡ joined ls
same_lines headings [] all are plain = refl
same_lines headings (line ∷ behind) all (inl are) plain =
    let both = and_parts (not (is_kept_line line)) (list_all (λ line. not (is_kept_line line)) behind) plain in
    let head = heading_of headings (started line) in
    let more = woven headings behind in
    ap without_names (append_assoc line head more)
    ∙ ap (flat_map unless_kept) (first_line line (head ++ more) are.0)
    ∙ ap (λ l. l ++ without_names (head ++ more)) (unless_kept-other line both.0)
    ∙ ap (λ l. line ++ l) (heading_of-vanishes headings (started line) all more ∙ same_lines headings behind all are.1 both.1)
same_lines headings (line ∷ behind) all (inr is) plain =
    let both = and_parts (not (is_kept_line line)) (list_all (λ line. not (is_kept_line line)) behind) plain in
    rw is.last (
    ap without_names (append-nil (woven_line headings line)
    ∙ ap (λ o. line ++ heading_of headings o) (started-open line is.open_line) ∙ append-nil line)
    ∙ ap (flat_map unless_kept) is.alone
    ∙ ap (λ l. l ++ []) (unless_kept-other line both.0))

pub same_text : (kept : Names) (written : List ℕ) → AllByRecursion IsKeptLine kept.entries → HasNoNames written
    → without_names (with_names kept written) ≡ written
unfolding with_names
same_text kept written are plain =
    let called = last_call None (lines written) in
    same_lines (heading called kept.entries) (lines written) (λ n. heading_vanishes called kept.entries n are) (lines_are written) plain
    ∙ joined-lines written
