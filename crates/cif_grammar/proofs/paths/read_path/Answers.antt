use Rattle.std.proofs.Common.{rules, ◌≡◌, ◌∙◌, sym, false, true, Some, None, [], ◌∷◌, ◌++◌}
use Rattle.std.specs.List.{list_all}
use Rattle.cif_grammar.specs.Bytes.{is_blank}
use Rattle.cif_grammar.specs.Paths.{next_vertex_at, vertex_at}
use Rattle.cif_grammar.proofs.PathSteps.{next_shorter, path_begun, path_none, vertices_done, vertices_none, vertices_step}
use Rattle.cif_grammar.proofs.paths.read_path.Goals as goal

pub returns-in_default : goal.returns-in_default
returns-in_default c =
    let none : vertex_at c.args.bytes.now ≡ None = search rules in
    sym (path_none c.args.bytes.now none)

pub loop-rest-init : goal.loop-rest-init
loop-rest-init c =
    let first : vertex_at c.args.bytes.now ≡ Some (c.in-Some.first, c.in-Some.rest.now) = search rules in
    let kept : c.push.new.self.items ≡ c.in-Some.first ∷ [] = search rules in
    rw kept (path_begun c.args.bytes.now c.in-Some.first c.in-Some.rest.now first)

pub returns-in_default-read_next_vertex : goal.returns-in_default-read_next_vertex
returns-in_default-read_next_vertex c =
    let rest = c.loop-rest.rest.now in
    let on : list_all is_blank rest ≡ false = search rules in
    let none : next_vertex_at rest ≡ None = search rules in
    sym (sym c.loop-rest.invariant ∙ vertices_none c.loop-rest.vertices.items rest on none)

pub loop-rest-smaller : goal.loop-rest-smaller
loop-rest-smaller c =
    let next : next_vertex_at c.loop-rest.rest.now ≡ Some (c.in-Some-read_next_vertex.next, c.in-Some-read_next_vertex.behind.now) =
    search rules in
    next_shorter c.loop-rest.rest.now c.in-Some-read_next_vertex.next c.in-Some-read_next_vertex.behind.now next

pub loop-rest-preserved : goal.loop-rest-preserved
loop-rest-preserved c =
    let rest = c.loop-rest.rest.now in
    let behind = c.in-Some-read_next_vertex.behind.now in
    let on : list_all is_blank rest ≡ false = search rules in
    let next : next_vertex_at rest ≡ Some (c.in-Some-read_next_vertex.next, behind) = search rules in
    let kept : c.push-in-loop-rest.new.self.items ≡ c.loop-rest.vertices.items ++ c.in-Some-read_next_vertex.next ∷ [] = search rules in
    rw kept (sym (vertices_step c.loop-rest.vertices.items rest c.in-Some-read_next_vertex.next behind on next) ∙ c.loop-rest.invariant)

pub returns : goal.returns
returns c =
    let rest = c.loop-rest.rest.now in
    let blank : list_all is_blank rest ≡ true = search rules in
    rw c.from_vec.ensures (sym (vertices_done c.loop-rest.vertices.items rest blank) ∙ c.loop-rest.invariant)
