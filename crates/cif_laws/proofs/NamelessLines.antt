-- Each written line is one, and begins as none of a name or a label does.
use Rattle.std.proofs.Common.{◌≡◌, ℕ, ◌<◌, Bool, true, false, cond, List, [], ◌∷◌, ◌++◌, Option, None, Some, refl, arith, ap, ◌∙◌, ◌≤◌}
use Rattle.std.proofs.Common.{ℤ, pos, negsuc, suc, sym, subst}
use Rattle.std.specs.Prelude.{◌^◌, not, codes, filter}
use Rattle.std.specs.Fmt.{decimal, signed_decimal}
use Rattle.std.specs.List.{AllByRecursion, list_all}
use Rattle.std.proofs.lemmas.Bool.{and_parts}
use Rattle.lay_point.specs.declared.point.Point.{Point}
use Rattle.lay_point.specs.declared.turn.Quarter.{Quarter}
use Rattle.lay_point.specs.declared.turn.Quarter.TheVariants.{R0, R90, R180, R270}
use Rattle.lay_point.specs.declared.turn.Turn.{Turn}
use Rattle.lay_point.specs.Bridges.{bridged}
use Rattle.lay_point.specs.Points.{is_coordinate, is_in_range, point_eq}
use Rattle.lay_point.specs.Rings.{IsRing}
use Rattle.lay_point.specs.Turns.{unturned}
use Rattle.cif_grammar.specs.declared.number.TheConstants.{MAX_MAGNITUDE}
use Rattle.lay_layouts.specs.declared.item.Item.{Item}
use Rattle.lay_layouts.specs.declared.item.Item.TheVariants.{Placed, Shape}
use Rattle.lay_layouts.specs.Layout.{Layout}
use Rattle.cif_write.specs.declared.boxes.Rectangles.{Rectangles}
use Rattle.cif_write.specs.declared.boxes.Rectangles.TheVariants.{Boxes, Polygons}
use Rattle.cif_write.specs.declared.boxes.UprightBox.{UprightBox}
use Rattle.cif_write.specs.Boxes.{box_as, figure_text, line_text_as, lines_text_as, text_as}
use Rattle.cif_write.specs.Lines.{Line, Start, OnLayer, Path, Finish, Call, End, mirror_text, path_text, point_text}
use Rattle.cif_write.specs.Lines.{quarter_text, shift_text, turn_text}
use Rattle.cif_write.specs.Text.{definition_lines, definitions_lines, file_lines, is_set, item_lines, items_lines, layer_after}
use Rattle.cif_write.specs.Wrap.{Definition, written}
use Rattle.cif_write.proofs.BoxLemmas.{text_as_paths}
use Rattle.cif_names.specs.Laws.{IsKeptLine, is_kept_line, is_line}
use Rattle.cif_names.proofs.KeptLines.{IsPlain, decimal_plain, kept_lines, line-append, name_plain, plain-append}
use Rattle.cif_names.proofs.SameText.{first_line, same_text}
use Rattle.byte_io.specs.Lines.{lines}
use Rattle.cif_names.specs.Names.{is_of_symbols, names_of, within}
use Rattle.cif_laws.specs.Laws.{FitsText}
use Rattle.cif_laws.specs.Named.{NamesAreApart, NamesStandApart}
use Rattle.cif_laws.proofs.BoxLines.{box_as-box_of, box_text_is, spelling_of}
use Rattle.cif_laws.proofs.BoxesBack.{box_of_ring, centre_in}
use Rattle.cif_laws.proofs.LinesLead.{AreWritable, IsName, IsWritable, named}
use Rattle.cif_laws.proofs.WrittenNumbers.{coordinate_within, point_is}
use Rattle.cif_laws.proofs.WrittenSymbols.{written_well}

-- ---- numbers

signed_plain : (z : ℤ) → is_coordinate z ≡ true → IsPlain (signed_decimal z)
signed_plain (pos n) h = decimal_plain n (let k = coordinate_within (pos n) h in omega (arith, k))
signed_plain (negsuc n) h =
    plain-append (45 ∷ []) (decimal (suc n)) refl (decimal_plain (suc n) (let k = coordinate_within (negsuc n) h in omega (arith, k)))

point_plain : (p : Point) → is_in_range p ≡ true → IsPlain (point_text p)
point_plain p h =
    let both = and_parts (is_coordinate p.x) (is_coordinate p.y) h in
    subst IsPlain (sym (point_is p))
    (plain-append (signed_decimal p.x) (32 ∷ signed_decimal p.y) (signed_plain p.x both.0) (signed_plain p.y both.1))

path_plain : (ps : List Point) → list_all is_in_range ps ≡ true → IsPlain (path_text ps)
path_plain [] h = refl
path_plain (p ∷ ps) h =
    let both = and_parts (is_in_range p) (list_all is_in_range ps) h in
    plain-append (point_text p) (path_text ps) (point_plain p both.0) (path_plain ps both.1)

turn_plain : (turn : Turn) → is_in_range turn.shift ≡ true → IsPlain (turn_text turn)
turn_plain turn h =
    plain-append (mirror_text turn.mirror ++ quarter_text turn.quarter) (shift_text turn.shift)
    (plain-append (mirror_text turn.mirror) (quarter_text turn.quarter) (mirrored turn.mirror) (quartered turn.quarter))
    (shifted (point_eq turn.shift (record { x = pos 0; y = pos 0 }))) where
      mirrored : (m : Bool) → IsPlain (mirror_text m)
      mirrored true = refl
      mirrored false = refl

      quartered : (q : Quarter) → IsPlain (quarter_text q)
      quartered R0 = refl
      quartered R90 = refl
      quartered R180 = refl
      quartered R270 = refl

      shifted : (t : Bool) → IsPlain (cond t [] (codes " T" ++ point_text turn.shift))
      shifted true = refl
      shifted false = plain-append (codes " T") (point_text turn.shift) refl (point_plain turn.shift h)

-- a box is one line
box_plain : (n m : ℕ) (centre : Point) → n ≤ MAX_MAGNITUDE → m ≤ MAX_MAGNITUDE → is_in_range centre ≡ true
    → is_line (spelling_of n m centre ++ codes ";\n") ≡ true
box_plain n m centre long wide within =
    line-append (spelling_of n m centre) (codes ";\n")
    (plain-append (codes "B ") (decimal n ++ (32 ∷ (decimal m ++ point_text centre))) refl
    (plain-append (decimal n) (32 ∷ (decimal m ++ point_text centre)) (decimal_plain n (omega (arith, long)))
    (plain-append (codes " ") (decimal m ++ point_text centre) refl
    (plain-append (decimal m) (point_text centre) (decimal_plain m (omega (arith, wide))) (point_plain centre within))))) refl

module _ (way : Rectangles) where
  -- ---- lines

  pub record IsNameless (line : Line) : Type 0 where
    pub one : is_line (line_text_as way line) ≡ true
    pub other : is_kept_line (line_text_as way line) ≡ false

  start_nameless : (number : ℕ) → number < 2 ^ 64 → IsNameless (Start number)
  start_nameless number h = record {
    one = line-append (codes "DS " ++ decimal number) (codes " 1 2;\n")
        (plain-append (codes "DS ") (decimal number) refl (decimal_plain number h)) refl;
    other = refl;
  }

  layer_nameless : (name : List ℕ) → IsName name → IsNameless (OnLayer name)
  layer_nameless name is = record {
    one = line-append (codes "L " ++ name) (codes ";\n") (plain-append (codes "L ") name refl (name_plain name is.bytes)) refl;
    other = refl;
  }

  figure_nameless : (ps : List Point) → IsRing ps → (o : Option UprightBox) → box_as way ps ≡ o
      → (is_line (figure_text o ps) ≡ true) × (is_kept_line (figure_text o ps) ≡ false)
  figure_nameless ps ring None e =
      let plain = plain-append (codes "P") (path_text ps) refl (path_plain ps ring.in_range) in
      (line-append (codes "P" ++ path_text ps) (codes ";\n") plain refl, refl)
  figure_nameless ps ring (Some b) e =
      let is = box_of_ring ps b ring.in_range (box_as-box_of way ps b e) in
      (ap is_line (box_text_is ps b is) ∙ box_plain is.length is.width b.centre is.along.few is.across.few (centre_in ps b is), refl)

  path_nameless : (ps : List Point) → IsRing ps → IsNameless (Path ps)
  path_nameless ps ring = let is = figure_nameless ps ring (box_as way ps) refl in record { one = is.0; other = is.1 }

  call_nameless : (number : ℕ) (turn : Turn) → number < 2 ^ 64 → is_in_range turn.shift ≡ true → IsNameless (Call number turn)
  call_nameless number turn small h = record {
    one = line-append (codes "C " ++ decimal number ++ turn_text turn) (codes ";\n")
        (plain-append (codes "C " ++ decimal number) (turn_text turn)
        (plain-append (codes "C ") (decimal number) refl (decimal_plain number small)) (turn_plain turn h)) refl;
    other = refl;
  }

  abbrev pub AreNameless : List Line → Type 0
  AreNameless ls = AllByRecursion IsNameless ls

  nameless-append : (ls ms : List Line) → AreNameless ls → AreNameless ms → AreNameless (ls ++ ms)
  nameless-append [] ms p q = q
  nameless-append (l ∷ ls) ms p q = (p.0, nameless-append ls ms p.1 q)

  item_nameless : (set : Option (List ℕ)) (item : Item) → IsWritable item → AreNameless (item_lines set item)
  item_nameless set (Shape cell layer rings) may = by (is_set set layer) where
    drawn : IsNameless (Path (bridged rings))
    drawn = path_nameless (bridged rings) may.1

    by : (t : Bool) → AreNameless (cond t (Path (bridged rings) ∷ []) (OnLayer layer ∷ Path (bridged rings) ∷ []))
    by true = (drawn, tt)
    by false = (layer_nameless layer (named layer may.0), (drawn, tt))
  item_nameless set (Placed cell target turn) may = (call_nameless target turn (omega (arith, may.0)) may.1, tt)

  items_nameless : (set : Option (List ℕ)) (items : List Item) → AllByRecursion IsWritable items → AreNameless (items_lines set items)
  items_nameless set [] may = tt
  items_nameless set (item ∷ items) may =
      nameless-append (item_lines set item) (items_lines (layer_after set item) items) (item_nameless set item may.0)
      (items_nameless (layer_after set item) items may.1)

  finish_nameless : IsNameless Finish
  finish_nameless = record { one = refl; other = refl }

  definitions_nameless : (symbols : List ℕ) (ds : List Definition) → AreWritable symbols ds → AreNameless (definitions_lines ds)
  definitions_nameless symbols [] may = tt
  definitions_nameless symbols (d ∷ ds) may =
      nameless-append (definition_lines d) (definitions_lines ds) (
        start_nameless d.number (let h = may.0.small in omega (arith, h)),
        nameless-append (items_lines None d.items) (Finish ∷ []) (items_nameless None d.items may.1) (finish_nameless, tt),
      )
      (definitions_nameless (symbols ++ d.number ∷ []) ds may.2)

  pub file_nameless : (layout : Layout) → FitsText layout → AreNameless (file_lines (written layout))
  file_nameless layout may =
      let well = written_well layout may.sound may.named may.room in
      nameless-append (definitions_lines (written layout).definitions) (Call (written layout).called unturned ∷ End ∷ [])
      (definitions_nameless [] (written layout).definitions well.definitions) (
        call_nameless (written layout).called unturned (let h = well.small in omega (arith, h)) refl,
        (record { one = refl; other = refl }, tt),
      )

-- ---- the text

-- what is so of all is so of those that pass
pub all_filtered : {X : Type 0} (P : X → Type 0) (test : X → Bool) (xs : List X) → AllByRecursion P xs → AllByRecursion P (filter test xs)
all_filtered P test [] all = tt
all_filtered P test (x ∷ xs) all = by (test x) (all_filtered P test xs all.1) where
  by : (t : Bool) → AllByRecursion P (filter test xs) → AllByRecursion P (cond t (x ∷ filter test xs) (filter test xs))
  by true more = (all.0, more)
  by false more = more

lines_nameless : (way : Rectangles) (ls : List Line) → AreNameless way ls
    → list_all (λ line. not (is_kept_line line)) (lines (lines_text_as way ls)) ≡ true
lines_nameless way [] are = refl
lines_nameless way (l ∷ ls) are =
    rw (first_line (line_text_as way l) (lines_text_as way ls) are.0.one, are.0.other) (lines_nameless way ls are.1)

apart_as : (way : Rectangles) (layout : Layout) → FitsText layout → NamesAreApart (text_as way layout)
unfolding text_as
apart_as way layout may =
    let none = lines_nameless way (file_lines (written layout)) (file_nameless way layout may) in
    record {
      none = none;
      same = λ source symbols. same_text (within symbols (names_of source)) (lines_text_as way (file_lines (written layout)))
          (all_filtered IsKeptLine (is_of_symbols symbols) (names_of source).entries (kept_lines source)) none;
    }

pub names_apart : NamesStandApart
names_apart layout may = (subst NamesAreApart (text_as_paths layout) (apart_as Polygons layout may), apart_as Boxes layout may)
