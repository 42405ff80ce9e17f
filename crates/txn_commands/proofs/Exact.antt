-- The derived test of two commands tells exactly.
use Rattle.std.proofs.Common.{◌≡◌, ◌&&◌, ◌==◌, true, false, ℕ, List, [], ◌∷◌, ap, refl, rules}
use Rattle.std.specs.Ordering.{int_eq}
use Rattle.std.proofs.lemmas.Bool.{and_parts, false≢true}
use Rattle.std.proofs.lemmas.Bool.Decides.{Decides-eqb, Decides-int_eq}
use Rattle.std.proofs.lemmas.Slice.Eq.{bytes_eq-Decides}
use Rattle.std.specs.Cmp.Lexicographic.{pointwise}
use Rattle.txn_commands.specs.contracts.command.CommandPartialEq.TheImpl as command
use Rattle.txn_commands.specs.contracts.command.TxnIdPartialEq.TheImpl as txn_id
use Rattle.face_rows.specs.contracts.op.OpPartialEq.TheImpl as op
use Rattle.face_rows.specs.declared.op.Op.{Op}
use Rattle.lay_cells.specs.contracts.cell_id.CellIdPartialEq.TheImpl as cell
use Rattle.lay_cells.specs.declared.cell_id.CellId.{CellId}
use Rattle.lay_cells.specs.declared.cell_id.CellId.TheVariants.{Symbol, Top}
use Rattle.lay_layouts.specs.contracts.id.ItemIdPartialEq.TheImpl as item_id
use Rattle.lay_layouts.specs.declared.id.ItemId.{ItemId}
use Rattle.lay_layouts.specs.SameLayout.{id_eq-Decides}
use Rattle.lay_point.specs.contracts.point.PointPartialEq.TheImpl as point
use Rattle.lay_point.specs.contracts.turn.TurnPartialEq.TheImpl as turn
use Rattle.lay_point.specs.declared.point.Point.{Point}
use Rattle.lay_point.specs.declared.turn.Turn.{Turn}
use Rattle.lay_point.specs.Same.{names_eq, point_eq-Decides, points_eq-Decides}
use Rattle.lay_point.specs.SameTurn.{turn_eq-Decides}
use Rattle.txn_commands.specs.declared.command.Command.{Command}
use Rattle.txn_commands.specs.declared.command.Command.TheVariants.{
  Bool,
  Box,
  Delete,
  DropCell,
  Look,
  MakeCell,
  Move,
  Place,
  Poly,
  SetLayer,
}
use Rattle.txn_commands.specs.declared.command.TxnId.{TxnId}

point_exact : (p q : Point) → (point.ghosts).eq p q ≡ true → p ≡ q
point_exact p q e = (point_eq-Decides p q).0 e

turn_exact : (p q : Turn) → (turn.ghosts).eq p q ≡ true → p ≡ q
turn_exact p q e = (turn_eq-Decides p q).0 e

id_exact : (p q : ItemId) → (item_id.ghosts).eq p q ≡ true → p ≡ q
id_exact p q e = (id_eq-Decides p q).0 e

pub txn_exact : (p q : TxnId) → (txn_id.ghosts).eq p q ≡ true → p ≡ q
txn_exact p q e = search rules

op_exact : (o p : Op) → (op.ghosts).eq o p ≡ true → o ≡ p
op_exact o p e = search rules

cell_exact : (p q : CellId) → (cell.ghosts).eq p q ≡ true → p ≡ q
cell_exact Top Top e = refl
cell_exact (Symbol m) (Symbol n) e = ap Symbol ((Decides-eqb m n).0 e)
cell_exact p q e = absurd cc

name_exact : (m n : List ℕ) → names_eq m n ≡ true → m ≡ n
name_exact m n e = (bytes_eq-Decides m n).0 e

points_exact : (ps qs : List Point) → pointwise (point.ghosts).eq ps qs ≡ true → ps ≡ qs
points_exact ps qs e = (points_eq-Decides ps qs).0 e

pub command_exact : (c d : Command) → (command.ghosts).eq c d ≡ true → c ≡ d
command_exact (Box c l a b) (Box d m p q) e =
    let one = and_parts ((cell.ghosts).eq c d) (names_eq l m && ((point.ghosts).eq a p && (point.ghosts).eq b q)) e in
    let two = and_parts (names_eq l m) ((point.ghosts).eq a p && (point.ghosts).eq b q) one.1 in
    let three = and_parts ((point.ghosts).eq a p) ((point.ghosts).eq b q) two.1 in
    λ i. Box (cell_exact c d one.0 i) (name_exact l m two.0 i) (point_exact a p three.0 i) (point_exact b q three.1 i)
command_exact (Poly c l ps) (Poly d m qs) e =
    let one = and_parts ((cell.ghosts).eq c d) (names_eq l m && pointwise (point.ghosts).eq ps qs) e in
    let two = and_parts (names_eq l m) (pointwise (point.ghosts).eq ps qs) one.1 in
    λ i. Poly (cell_exact c d one.0 i) (name_exact l m two.0 i) (points_exact ps qs two.1 i)
command_exact (Delete i) (Delete j) e = ap Delete (id_exact i j e)
command_exact (Move i x y) (Move j u v) e =
    let one = and_parts ((item_id.ghosts).eq i j) (int_eq x u && int_eq y v) e in
    let two = and_parts (int_eq x u) (int_eq y v) one.1 in
    λ k. Move (id_exact i j one.0 k) ((Decides-int_eq x u).0 two.0 k) ((Decides-int_eq y v).0 two.1 k)
command_exact (SetLayer i l) (SetLayer j m) e =
    let one = and_parts ((item_id.ghosts).eq i j) (names_eq l m) e in
    λ k. SetLayer (id_exact i j one.0 k) (name_exact l m one.1 k)
command_exact (Place c t v) (Place d u w) e =
    let one = and_parts ((cell.ghosts).eq c d) ((t == u) && (turn.ghosts).eq v w) e in
    let two = and_parts (t == u) ((turn.ghosts).eq v w) one.1 in
    λ i. Place (cell_exact c d one.0 i) ((Decides-eqb t u).0 two.0 i) (turn_exact v w two.1 i)
command_exact (Look i) (Look j) e = ap Look (id_exact i j e)
command_exact (Bool o c a b l) (Bool p d x y m) e =
    let one = and_parts ((op.ghosts).eq o p) ((cell.ghosts).eq c d && (names_eq a x && (names_eq b y && names_eq l m))) e in
    let two = and_parts ((cell.ghosts).eq c d) (names_eq a x && (names_eq b y && names_eq l m)) one.1 in
    let three = and_parts (names_eq a x) (names_eq b y && names_eq l m) two.1 in
    let four = and_parts (names_eq b y) (names_eq l m) three.1 in
    λ i. Bool (op_exact o p one.0 i) (cell_exact c d two.0 i) (name_exact a x three.0 i) (name_exact b y four.0 i)
    (name_exact l m four.1 i)
command_exact (MakeCell m) (MakeCell n) e = ap MakeCell ((Decides-eqb m n).0 e)
command_exact (DropCell m) (DropCell n) e = ap DropCell ((Decides-eqb m n).0 e)
command_exact c d e = absurd (false≢true e)

pub commands_exact : (cs ds : List Command) → pointwise (command.ghosts).eq cs ds ≡ true → cs ≡ ds
commands_exact [] [] e = refl
commands_exact [] (d ∷ ds) e = absurd cc
commands_exact (c ∷ cs) [] e = absurd cc
commands_exact (c ∷ cs) (d ∷ ds) e =
    let parts = and_parts ((command.ghosts).eq c d) (pointwise (command.ghosts).eq cs ds) e in
    λ i. command_exact c d parts.0 i ∷ commands_exact cs ds parts.1 i
