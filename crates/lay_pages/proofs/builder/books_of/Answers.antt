use Rattle.std.proofs.Common.{◌≡◌, ◌∙◌, ◌++◌, [], ap, arith, sym}
use Rattle.std.proofs.lemmas.List.{append-nil, nil_from_length}
use Rattle.std.specs.Vec.Iter.{into_iter_items}
use Rattle.lay_pages.proofs.FillLemmas.{booked}
use Rattle.lay_pages.specs.Shared.{filled, items_of, joined}
use Rattle.lay_pages.proofs.builder.books_of.Goals as goal

pub returns-clause-entries : goal.returns-clause-entries
returns-clause-entries g c =
    let none : into_iter_items c.loop-page.page-iterator ≡ [] =
    nil_from_length (into_iter_items c.loop-page.page-iterator)
    (omega (arith, c.in-None.ensures.steps.0, c.loop-page.page-iterator.rest.ok)) in
    let pages = filled (items_of c.loop-page.lists.lists.items) c.loop-page.lists.last.items in
    let all : joined (items_of c.in_ok-books.books.items) ≡ c.args.pages.items =
    c.in_ok-books.ensures.elements ∙ sym (append-nil pages) ∙ ap (λ ps. pages ++ ps) (sym none) ∙ c.loop-page.invariant.pages in
    (booked c.args.pages.items c.in_ok-books.books.items all c.in_ok-books.ensures.sizes c.requires).entries

pub returns-clause-books : goal.returns-clause-books
returns-clause-books g c =
    let none : into_iter_items c.loop-page.page-iterator ≡ [] =
    nil_from_length (into_iter_items c.loop-page.page-iterator)
    (omega (arith, c.in-None.ensures.steps.0, c.loop-page.page-iterator.rest.ok)) in
    let pages = filled (items_of c.loop-page.lists.lists.items) c.loop-page.lists.last.items in
    let all : joined (items_of c.in_ok-books.books.items) ≡ c.args.pages.items =
    c.in_ok-books.ensures.elements ∙ sym (append-nil pages) ∙ ap (λ ps. pages ++ ps) (sym none) ∙ c.loop-page.invariant.pages in
    (booked c.args.pages.items c.in_ok-books.books.items all c.in_ok-books.ensures.sizes c.requires).books

pub returns-clause-pages : goal.returns-clause-pages
returns-clause-pages g c =
    let none : into_iter_items c.loop-page.page-iterator ≡ [] =
    nil_from_length (into_iter_items c.loop-page.page-iterator)
    (omega (arith, c.in-None.ensures.steps.0, c.loop-page.page-iterator.rest.ok)) in
    let pages = filled (items_of c.loop-page.lists.lists.items) c.loop-page.lists.last.items in
    let all : joined (items_of c.in_ok-books.books.items) ≡ c.args.pages.items =
    c.in_ok-books.ensures.elements ∙ sym (append-nil pages) ∙ ap (λ ps. pages ++ ps) (sym none) ∙ c.loop-page.invariant.pages in
    (booked c.args.pages.items c.in_ok-books.books.items all c.in_ok-books.ensures.sizes c.requires).sized
