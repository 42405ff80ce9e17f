-- What the rings are that edges are linked to. An edge is the pair of its ends, the lesser first.
-- Source: this project's own rule, so that edges have one list of rings.
-- Checked on: the eight sides of the squares from (0,0) to (2,2) and from (2,2) to (4,4) are two
-- rings, 0 0, 0 2, 2 2, 2 0 and 2 2, 2 4, 4 4, 4 2.
use Rattle.std.specs.Prelude.{◌≡◌, ◌≢◌, ◌⊎◌, Bool, true, List, [], ◌∷◌, Contains, IsTrue}
use Rattle.lay_point.specs.declared.point.Point.{Point}
use Rattle.lay_point.specs.Edges.{IsEdgeBefore, touches}
use Rattle.face_ring_laws.specs.Linking.{Ends, other_end}

-- the least of the edges that pass the test and aren't gone
pub record IsLeastLeft (edges gone : List Ends) (test : Ends → Bool) (e : Ends) : Type 0 where
  pub given : Contains edges e
  pub left : ¬ (Contains gone e)
  pub passes : IsTrue (test e)
  pub least : (f : Ends) → Contains edges f → ¬ (Contains gone f) → IsTrue (test f) → (e ≡ f) ⊎ IsEdgeBefore e f

-- where some edges are gone: the points from one on to the first return to the start, at each of them along the least
-- edge left there, and all edges gone by then
pub data IsWayBack (edges : List Ends) (start : Point) : List Ends → Point → List Point → List Ends → Type 0 where
  back : (gone : List Ends) → IsWayBack edges start gone start [] gone
  on : (gone gone' : List Ends) (at : Point) (e : Ends) (points : List Point) → at ≢ start → IsLeastLeft edges gone (touches at) e
      → IsWayBack edges start (e ∷ gone) (other_end at e) points gone' → IsWayBack edges start gone at (at ∷ points) gone'

-- where some edges are gone: each ring begins with the least edge left, walked from its lesser end, and the rings go all
-- edges that are left
pub data AreLinked (edges : List Ends) : List Ends → List (List Point) → Type 0 where
  done : (gone : List Ends) → ((e : Ends) → Contains edges e → Contains gone e) → AreLinked edges gone []
  ring : (gone gone' : List Ends) (e : Ends) (points : List Point) (rings : List (List Point))
      → IsLeastLeft edges gone (λ f. true) e → IsWayBack edges e.0 (e ∷ gone) e.1 points gone'
      → AreLinked edges gone' rings → AreLinked edges gone ((e.0 ∷ points) ∷ rings)

-- edges have one list of rings
abbrev pub HaveOneList : List Ends → Type 0
HaveOneList edges = (rings rings' : List (List Point)) → AreLinked edges [] rings → AreLinked edges [] rings' → rings ≡ rings'
