-- A path that is read is spelled so, and what spells a path is read.
use Rattle.std.proofs.Common.{◌≡◌, ℕ, zero, suc, ◌+◌, ◌<◌, false, List, [], ◌∷◌, ◌++◌, length, Some, refl, sym, ap}
use Rattle.std.proofs.Common.{◌∙◌, subst, arith, inl, inr, append_assoc}
use Rattle.std.specs.List.{list_all}
use Rattle.std.proofs.lemmas.List.{append-nil, length-append}
use Rattle.std.proofs.lemmas.Option.{some_pair_parts, same_Some}
use Rattle.lay_point.specs.Names.{is_digit}
use Rattle.cif_grammar.specs.Bytes.{is_blank}
use Rattle.cif_grammar.specs.Numbers.{behind_separator, signed_at}
use Rattle.cif_grammar.proofs.ByteClasses.{blank_no_digit, separator_no_digit}
use Rattle.cif_grammar.proofs.NumberGrammar.{Takes, signed_again, signed_takes}
use Rattle.cif_grammar.proofs.Runs.{Stops}
use Rattle.byte_io.proofs.Steps.{after_some, bind_some, chosen_of}
use Rattle.cif_grammar.specs.declared.paths.Vertex.{Vertex}
use Rattle.cif_grammar.specs.Grammar.{AreVertices, IsPath, IsPolygon, IsVertex, NextVertex}
use Rattle.cif_grammar.specs.Paths.{next_vertex_at, path_of, vertex_at, vertices_from}
use Rattle.cif_grammar.proofs.Separators.{back_not_blank, front_not_blank, separator_again, separator_takes, signed_not_blank, stops_all}

-- ---- one vertex

pub vertex_takes : (bytes : List ℕ) (v : Vertex) (rest : List ℕ) → vertex_at bytes ≡ Some (v, rest)
    → Takes (λ text. IsVertex text v) bytes rest
unfolding vertex_at
vertex_takes bytes v rest e =
    after_some (signed_at bytes) _ (v, rest) e (λ x x_read after_x.
    after_some (behind_separator x.1) _ (v, rest) after_x (λ y_part separated after_separator.
    after_some (signed_at y_part) _ (v, rest) after_separator (λ y y_read last.
    let made : Vertex = record { x = x.0; y = y.0 } in
    let same = some_pair_parts made v y.1 rest last in
    let x_found = signed_takes bytes x.0 x.1 x_read in
    let before_y = separator_takes x.1 y_part separated in
    let y_found = signed_takes y_part y.0 y.1 y_read in
    let spelled : IsVertex (x_found.text ++ (before_y.0 ∷ y_found.text)) made = record {
      x_text = x_found.text;
      separator = before_y.0;
      y_text = y_found.text;
      parts = refl;
      x_is = x_found.spelled;
      separated = before_y.2;
      y_is = y_found.spelled;
    } in
    let parts : bytes ≡ (x_found.text ++ (before_y.0 ∷ y_found.text)) ++ y.1 =
    x_found.parts ∙ ap (λ t. x_found.text ++ t) (before_y.1 ∙ ap (λ t. before_y.0 ∷ t) y_found.parts)
    ∙ sym (append_assoc x_found.text (before_y.0 ∷ y_found.text) y.1) in
    record {
      text = x_found.text ++ (before_y.0 ∷ y_found.text);
      parts = parts ∙ ap (λ t. (x_found.text ++ (before_y.0 ∷ y_found.text)) ++ t) same.1;
      spelled = subst (λ (w : Vertex). IsVertex (x_found.text ++ (before_y.0 ∷ y_found.text)) w) same.0 spelled;
    })))

pub vertex_again : (text rest : List ℕ) (v : Vertex) → IsVertex text v → Stops is_digit rest → vertex_at (text ++ rest) ≡ Some (v, rest)
unfolding vertex_at
vertex_again text rest v h stops =
    let regrouped : text ++ rest ≡ h.x_text ++ (h.separator ∷ (h.y_text ++ rest)) =
    ap (λ t. t ++ rest) h.parts ∙ append_assoc h.x_text (h.separator ∷ h.y_text) rest in
    rw (
      regrouped,
      signed_again h.x_text (h.separator ∷ (h.y_text ++ rest)) v.x h.x_is (separator_no_digit h.separator h.separated),
      separator_again h.separator (h.y_text ++ rest) h.separated,
      signed_again h.y_text rest v.y h.y_is stops,
    ) refl

pub next_takes : (bytes : List ℕ) (v : Vertex) (rest : List ℕ) → next_vertex_at bytes ≡ Some (v, rest)
    → (next : NextVertex bytes v) × (next.rest ≡ rest)
unfolding next_vertex_at
next_takes bytes v rest e =
    let read = bind_some (behind_separator bytes) vertex_at (v, rest) e in
    let before = separator_takes bytes read.0 read.1 in
    let found = vertex_takes read.0 v rest read.2 in (
      record {
        separator = before.0;
        spelling = found.text;
        rest = rest;
        parts = before.1 ∙ ap (λ t. before.0 ∷ t) found.parts;
        separated = before.2;
        spelled = found.spelled;
      },
      refl,
    )

pub next_again : (text : List ℕ) (v : Vertex) (h : NextVertex text v) → Stops is_digit h.rest → next_vertex_at text ≡ Some (v, h.rest)
unfolding next_vertex_at
next_again text v h stops =
    rw (h.parts, separator_again h.separator (h.spelling ++ h.rest) h.separated) (vertex_again h.spelling h.rest v h.spelled stops)

vertex_not_blank : (text : List ℕ) (v : Vertex) → IsVertex text v → list_all is_blank text ≡ false
vertex_not_blank text v h = rw h.parts (front_not_blank h.x_text (h.separator ∷ h.y_text) (signed_not_blank h.x_text v.x h.x_is))

pub next_not_blank : (text : List ℕ) (v : Vertex) → NextVertex text v → list_all is_blank text ≡ false
next_not_blank text v h = rw h.parts (back_not_blank (h.separator ∷ []) (h.spelling ++ h.rest)
    (front_not_blank h.spelling h.rest (vertex_not_blank h.spelling v h.spelled)))

-- ---- paths

pub vertices_takes : (steps : ℕ) (found : List Vertex) (bytes : List ℕ) (all : List Vertex) → vertices_from steps found bytes ≡ Some all
    → (vs : List Vertex) × (all ≡ found ++ vs) × AreVertices bytes vs
unfolding vertices_from
vertices_takes zero found bytes all e = absurd cc
vertices_takes (suc steps) found bytes all e =
    elim (chosen_of (list_all is_blank bytes) _ _ (Some all) e) [
      | inl done ↦ ([], sym (same_Some found all done.1) ∙ sym (append-nil found), done.0)
      | inr on ↦
          let read = bind_some (next_vertex_at bytes) _ all on.1 in
          let next = next_takes bytes read.0.0 read.0.1 read.1 in
          let further = vertices_takes steps (found ++ read.0.0 ∷ []) read.0.1 all read.2 in (
            read.0.0 ∷ further.0,
            further.1 ∙ append_assoc found (read.0.0 ∷ []) further.0,
            (next.0, subst (λ (t : List ℕ). AreVertices t further.0) (sym next.1) further.2),
          )
    ]

pub vertices_stop : (text : List ℕ) (vs : List Vertex) → AreVertices text vs → Stops is_digit text
vertices_stop text [] h = stops_all is_blank is_digit text blank_no_digit h
vertices_stop text (v ∷ vs) h = rw h.0.parts (separator_no_digit h.0.separator h.0.separated)

pub next_length : (text : List ℕ) (v : Vertex) (h : NextVertex text v) → length h.rest < length text
next_length text v h =
    let whole : length text ≡ suc (length h.spelling + length h.rest) =
    ap length h.parts ∙ ap suc (length-append h.spelling h.rest) in
    omega arith

pub vertices_again : (vs : List Vertex) (steps : ℕ) (found : List Vertex) (text : List ℕ) → AreVertices text vs → length text < steps
    → vertices_from steps found text ≡ Some (found ++ vs)
unfolding vertices_from
vertices_again vs zero found text h enough = absurd (omega arith)
vertices_again [] (suc steps) found text h enough = rw h (ap (λ t. Some t) (sym (append-nil found)))
vertices_again (v ∷ vs) (suc steps) found text h enough =
    let shorter = next_length text v h.0 in
    rw (next_not_blank text v h.0, next_again text v h.0 (vertices_stop h.0.rest vs h.1))
    (vertices_again vs steps (found ++ v ∷ []) h.0.rest h.1 (omega arith) ∙ ap (λ t. Some t) (append_assoc found (v ∷ []) vs))

pub path_takes : (bytes : List ℕ) (vs : List Vertex) → path_of bytes ≡ Some vs → IsPolygon (80 ∷ bytes) vs
unfolding path_of
path_takes bytes vs e =
    let read = bind_some (vertex_at bytes) _ vs e in
    let first = vertex_takes bytes read.0.0 read.0.1 read.1 in
    let further = vertices_takes (length read.0.1 + 1) (read.0.0 ∷ []) read.0.1 vs read.2 in
    subst (λ (t : List Vertex). IsPolygon (80 ∷ bytes) t) (sym further.1) (record {
      spelling = first.text;
      rest = read.0.1;
      parts = ap (λ t. 80 ∷ t) first.parts;
      spelled = first.spelled;
      further = further.2;
    })

pub path_again : (text : List ℕ) (v : Vertex) (vs : List Vertex) (h : IsPath text v vs) → path_of (h.spelling ++ h.rest) ≡ Some (v ∷ vs)
unfolding path_of
path_again text v vs h =
    rw (vertex_again h.spelling h.rest v h.spelled (vertices_stop h.rest vs h.further))
    (vertices_again vs (length h.rest + 1) (v ∷ []) h.rest h.further (omega arith))
