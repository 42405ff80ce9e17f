-- How what is behind a lock, and a desk, is stored: as its parts.
use Rattle.std.specs.Prelude.{ℕ, List, refl}
use Rattle.std.specs.Coded.{Coded, code_by, coded×, coded_list, coded_ℕ}
use Rattle.lay_layouts.specs.Layout.{Layout, coded_layout}
use Rattle.undo_rules.specs.Books.{History}
use Rattle.undo_book.specs.Coded.{coded_history}
use Rattle.desk_rules.specs.Guards.{Guard}
use Rattle.desk_rules.specs.Legal.{Desk}

abbrev pub coded_guard : Coded Guard
coded_guard =
    code_by (ℕ × (History × (List ℕ × ℕ))) (coded× coded_ℕ (coded× coded_history (coded× (coded_list coded_ℕ) coded_ℕ)))
    (λ g. (g.sessions, (g.book, (g.counts, g.total))))
    (λ p. record { sessions = p.0; book = p.1.0; counts = p.1.1.0; total = p.1.1.1 }) (λ _. refl)

abbrev pub coded_desk : Coded Desk
coded_desk =
    code_by (Layout × (ℕ × ℕ)) (coded× coded_layout (coded× coded_ℕ coded_ℕ)) (λ d. (d.base, (d.sessions, d.limit)))
    (λ p. record { base = p.0; sessions = p.1.0; limit = p.1.1 }) (λ _. refl)
