-- Words are read as a step exactly where they say it.
use Rattle.std.proofs.Common.{◌≡◌, ℕ, true, List, [], ◌∷◌, ◌++◌, refl, sym, ap, subst, ◌∙◌, append_assoc, append-nil}
use Rattle.std.specs.Prelude.{codes, if◌then◌else◌, Option, None, Some, option_map}
use Rattle.std.specs.Str.{bytes_eq}
use Rattle.std.proofs.lemmas.Slice.Eq.{bytes_eq-Decides}
use Rattle.std.proofs.NetLemmas.Options.{map_some}
use Rattle.std.proofs.lemmas.Option.{same_Some}
use Rattle.face_rows.specs.declared.op.Op.{Op}
use Rattle.face_rows.specs.declared.op.Op.TheVariants.{And, Not, Or, Xor}
use Rattle.lay_cells.specs.declared.cell_id.CellId.{CellId}
use Rattle.lay_cells.specs.declared.cells.TheConstants.{MAX_SYMBOL}
use Rattle.lay_layouts.specs.declared.id.ItemId.{ItemId}
use Rattle.lay_point.specs.declared.point.Point.{Point}
use Rattle.lay_point.specs.declared.turn.Turn.{Turn}
use Rattle.lay_point.specs.Names.{layer_name_of}
use Rattle.txn_commands.specs.declared.command.Command.{Command}
use Rattle.txn_commands.specs.declared.command.Command.TheVariants.{
  Bool as Combine,
  Box,
  Delete,
  DropCell,
  Look,
  MakeCell,
  Move,
  Place,
  Poly,
}
use Rattle.txn_commands.specs.declared.command.Command.TheVariants.{SetLayer}
use Rattle.txn_commands.specs.declared.command.TxnId.{TxnId}
use Rattle.session_steps.specs.declared.Step.{Step}
use Rattle.session_steps.specs.declared.Step.TheVariants.{Cancel, Commit, Do, Open, Redo, Undo}
use Rattle.job_text.specs.Steps.{Word, bool_command, box_command, command_named, first_as, if_ended, item_alone, leading_coordinate}
use Rattle.job_text.specs.Steps.{leading_layer}
use Rattle.job_text.specs.Steps.{layer_command, leading_point, move_command, op_of, parsed_points, place_command, point_of, poly_command}
use Rattle.job_text.specs.Steps.{short_command, step_named}
use Rattle.job_text.specs.Steps.{leading_symbol, leading_turning, step_of, symbol_alone, txn_alone}
use Rattle.byte_io.specs.Numbers.{parsed_number}
use Rattle.byte_io.specs.Steps.{◌>>=◌}
use Rattle.byte_io.proofs.Steps.{after_some}
use Rattle.job_text.specs.Words.{parsed_cell, parsed_coordinate, parsed_item, parsed_turning, parsed_txn}
use Rattle.job_laws.specs.Steps.{ArePoints, IsPointOf, Says, SaysCommand, boxes, cancels, combines, commits, deletes}
use Rattle.job_laws.specs.Steps.{does, drops, layers, looks, makes, moves, opens, places, polygons, redoes, undoes}
use Rattle.job_laws.specs.Written.{op_word}
use Rattle.job_laws.proofs.Choices.{choose}

-- ---- results by cases

pub no_value : {A P : Type 0} (a : A) → ◌≡◌ {A = Option A} None (Some a) → P
no_value a h = absurd (cc)

next_of : {A B P : Type 0} (o : Option A) (rest : List Word) (f : A × List Word → Option B) (b : B) →
    (option_map (λ a. (a, rest)) o >>= f) ≡ Some b → ((a : A) → o ≡ Some a → f (a, rest) ≡ Some b → P) → P
next_of None rest f b h more = no_value b h
next_of (Some a) rest f b h more = more a refl h

-- the first word, and what it means
next : {A B P : Type 0} (meaning : Word → Option A) (ws : List Word) (f : A × List Word → Option B) (b : B) →
    (first_as meaning ws >>= f) ≡ Some b →
    ((word : Word) (rest : List Word) (a : A) → ws ≡ word ∷ rest → meaning word ≡ Some a → f (a, rest) ≡ Some b → P) → P
next meaning [] f b h more = no_value b h
next meaning (word ∷ rest) f b h more = next_of (meaning word) rest f b h (λ a is left. more word rest a refl is left)

pub ended_is : {A P : Type 0} (ws : List Word) (a b : A) → if_ended ws a ≡ Some b → (ws ≡ [] → b ≡ a → P) → P
ended_is [] a b h more = more refl (sym (same_Some a b h))
ended_is (w ∷ ws) a b h more = no_value b h

point_made : (x y : Word) (p q : Point) → parsed_coordinate x ≡ Some q.x → parsed_coordinate y ≡ Some q.y → q ≡ p → IsPointOf x y p
point_made x y p q column row same =
    subst (IsPointOf x y) same (record { column = column; row = row })

-- the next two words are a point
next_point : {B P : Type 0} (ws : List Word) (f : Point × List Word → Option B) (b : B) → (leading_point ws >>= f) ≡ Some b →
    ((x y : Word) (rest : List Word) (p : Point) → ws ≡ x ∷ y ∷ rest → IsPointOf x y p → f (p, rest) ≡ Some b → P) → P
unfolding leading_point
next_point ws f b h more =
    after_some (leading_point ws) f b h (λ found is left.
    next parsed_coordinate ws (λ x. leading_coordinate x.1 >>= λ y. Some (record { x = x.0; y = y.0 }, y.1)) found is
    (λ x others c first column then_y.
    next parsed_coordinate others (λ y. Some (record { x = c; y = y.0 }, y.1)) found then_y (λ y rest d second row made.
    let parts : ws ≡ x ∷ y ∷ rest = cc in
    more x y rest (record { x = c; y = d }) parts (record { column = column; row = row })
    (ap f (same_Some (record { x = c; y = d }, rest) found made) ∙ left))))

pub one_word : {A P : Type 0} (meaning : Word → Option A) (ws : List Word) (b : A) → (first_as meaning ws >>= λ a. if_ended a.1 a.0)
    ≡ Some b →
    ((word : Word) → ws ≡ word ∷ [] → meaning word ≡ Some b → P) → P
one_word meaning ws b h more =
    next meaning ws (λ a. if_ended a.1 a.0) b h (λ word rest a first is left.
    ended_is rest a b left (λ none same.
    let parts : ws ≡ word ∷ [] = cc in
    more word parts (is ∙ ap Some (sym same))))

-- ---- what is read is said

box_sound : (ws : List Word) (command : Command) → box_command ws ≡ Some command → SaysCommand (codes "box" ∷ ws) command
unfolding box_command
box_sound ws command h =
    next parsed_cell ws (λ cell. leading_layer cell.1 >>= λ layer. leading_point layer.1 >>= λ a.
    leading_point a.1 >>= λ b. if_ended b.1 (Box cell.0 layer.0 a.0 b.0))
    command h (λ cell r1 c e1 is1 h1.
    next layer_name_of r1 (λ layer. leading_point layer.1 >>= λ a. leading_point a.1 >>= λ b. if_ended b.1 (Box c layer.0 a.0 b.0))
    command h1
    (λ layer r2 l e2 is2 h2.
    next_point r2 (λ a. leading_point a.1 >>= λ b. if_ended b.1 (Box c l a.0 b.0)) command h2 (λ x y r3 a e3 is3 h3.
    next_point r3 (λ b. if_ended b.1 (Box c l a b.0)) command h3 (λ u v r4 b e4 is4 h4.
    ended_is r4 (Box c l a b) command h4 (λ none same.
    let parts : codes "box" ∷ ws ≡ codes "box" ∷ cell ∷ layer ∷ x ∷ y ∷ u ∷ v ∷ [] = cc in
    boxes cell layer x y u v c l a b parts is1 is2 is3 is4 same)))))

point_is : (x y : Word) (p : Point) → point_of x y ≡ Some p → IsPointOf x y p
unfolding point_of
point_is x y p h =
    after_some (parsed_coordinate x) (λ c. parsed_coordinate y >>= λ d. Some (record { x = c; y = d })) p h (λ c column left.
    after_some (parsed_coordinate y) (λ d. Some (record { x = c; y = d })) p left (λ d row made.
    point_made x y p (record { x = c; y = d }) column row (same_Some (record { x = c; y = d }) p made)))

-- points that were there before, and those of the words
record AreMore (before : List Point) (ws : List Word) (all : List Point) : Type 0 where
  points : List Point
  parts : all ≡ before ++ points
  said : ArePoints ws points

points_sound : (before : List Point) (ws : List Word) (all : List Point) → parsed_points before ws ≡ Some all → AreMore before ws all
points_sound before [] all h =
    record { points = []; parts = sym (same_Some before all h) ∙ sym (append-nil before); said = refl }
points_sound before (x ∷ []) all h = no_value all h
points_sound before (x ∷ y ∷ ws) all h =
    after_some (point_of x y) (λ p. parsed_points (before ++ (p ∷ [])) ws) all h
    (λ p is left. one_more before x y ws all p (point_is x y p is) (points_sound (before ++ (p ∷ [])) ws all left)) where
      one_more : (before : List Point) (x y : Word) (ws : List Word) (all : List Point) (p : Point) → IsPointOf x y p →
          AreMore (before ++ (p ∷ [])) ws all → AreMore before (x ∷ y ∷ ws) all
      one_more before x y ws all p is more = record {
        points = p ∷ more.points;
        parts = more.parts ∙ append_assoc before (p ∷ []) more.points;
        said = (x, y, ws, refl, is, more.said);
      }

poly_sound : (ws : List Word) (command : Command) → poly_command ws ≡ Some command → SaysCommand (codes "poly" ∷ ws) command
unfolding poly_command
poly_sound ws command h =
    next parsed_cell ws (λ cell. leading_layer cell.1 >>= λ layer. parsed_points [] layer.1 >>= λ points. Some (Poly cell.0 layer.0 points))
    command h
    (λ cell r1 c e1 is1 h1.
    next layer_name_of r1 (λ layer. parsed_points [] layer.1 >>= λ points. Some (Poly c layer.0 points)) command h1
    (λ layer r2 l e2 is2 h2.
    after_some (parsed_points [] r2) (λ points. Some (Poly c l points)) command h2 (λ points is3 h3.
    let more = points_sound [] r2 points is3 in
    let parts : codes "poly" ∷ ws ≡ codes "poly" ∷ cell ∷ layer ∷ r2 = cc in
    polygons cell layer r2 c l points parts is1 is2 (subst (ArePoints r2) (sym more.parts) more.said)
    (sym (same_Some (Poly c l points) command h3)))))

move_sound : (ws : List Word) (command : Command) → move_command ws ≡ Some command → SaysCommand (codes "move" ∷ ws) command
unfolding move_command
move_sound ws command h =
    next parsed_item ws (λ id. leading_point id.1 >>= λ by. if_ended by.1 (Move id.0 by.0.x by.0.y)) command h (λ word r1 id e1 is1 h1.
    next_point r1 (λ by. if_ended by.1 (Move id by.0.x by.0.y)) command h1 (λ x y r2 by e2 is2 h2.
    ended_is r2 (Move id by.x by.y) command h2 (λ none same.
    let parts : codes "move" ∷ ws ≡ codes "move" ∷ word ∷ x ∷ y ∷ [] = cc in
    moves word x y id by parts is1 is2 same)))

layer_sound : (ws : List Word) (command : Command) → layer_command ws ≡ Some command → SaysCommand (codes "layer" ∷ ws) command
unfolding layer_command
layer_sound ws command h =
    next parsed_item ws (λ id. leading_layer id.1 >>= λ layer. if_ended layer.1 (SetLayer id.0 layer.0)) command h (λ word r1 id e1 is1 h1.
    next layer_name_of r1 (λ layer. if_ended layer.1 (SetLayer id layer.0)) command h1 (λ layer r2 l e2 is2 h2.
    ended_is r2 (SetLayer id l) command h2 (λ none same.
    let parts : codes "layer" ∷ ws ≡ codes "layer" ∷ word ∷ layer ∷ [] = cc in
    layers word layer id l parts is1 is2 same)))

place_sound : (ws : List Word) (command : Command) → place_command ws ≡ Some command → SaysCommand (codes "place" ∷ ws) command
unfolding place_command
place_sound ws command h =
    next parsed_cell ws (λ cell. leading_symbol cell.1 >>= λ target. leading_turning target.1 >>= λ turning.
    leading_point turning.1 >>= λ shift.
    if_ended shift.1 (Place cell.0 target.0 (record { mirror = turning.0.0; quarter = turning.0.1; shift = shift.0 }))) command h
    (λ cell r1 c e1 is1 h1.
    next (parsed_number MAX_SYMBOL) r1 (λ target. leading_turning target.1 >>= λ turning. leading_point turning.1 >>= λ shift.
    if_ended shift.1 (Place c target.0 (record { mirror = turning.0.0; quarter = turning.0.1; shift = shift.0 }))) command h1
    (λ target r2 n e2 is2 h2.
    next parsed_turning r2 (λ turning. leading_point turning.1 >>= λ shift.
    if_ended shift.1 (Place c n (record { mirror = turning.0.0; quarter = turning.0.1; shift = shift.0 }))) command h2
    (λ turning r3 t e3 is3 h3.
    next_point r3 (λ shift. if_ended shift.1 (Place c n (record { mirror = t.0; quarter = t.1; shift = shift.0 }))) command h3
    (λ x y r4 p e4 is4 h4.
    ended_is r4 (Place c n (record { mirror = t.0; quarter = t.1; shift = p })) command h4 (λ none same.
    let parts : codes "place" ∷ ws ≡ codes "place" ∷ cell ∷ target ∷ turning ∷ x ∷ y ∷ [] = cc in
    places cell target turning x y c n (record { mirror = t.0; quarter = t.1; shift = p }) parts is1 is2 is3 is4 same)))))

bool_sound : (op : Op) (ws : List Word) (command : Command) → bool_command op ws ≡ Some command → SaysCommand (op_word op ∷ ws) command
unfolding bool_command
bool_sound op ws command h =
    next parsed_cell ws (λ cell. leading_layer cell.1 >>= λ a. leading_layer a.1 >>= λ b.
    leading_layer b.1 >>= λ out. if_ended out.1 (Combine op cell.0 a.0 b.0 out.0))
    command h (λ cell r1 c e1 is1 h1.
    next layer_name_of r1 (λ a. leading_layer a.1 >>= λ b. leading_layer b.1 >>= λ out. if_ended out.1 (Combine op c a.0 b.0 out.0))
    command h1
    (λ first r2 a e2 is2 h2.
    next layer_name_of r2 (λ b. leading_layer b.1 >>= λ out. if_ended out.1 (Combine op c a b.0 out.0)) command h2
    (λ second r3 b e3 is3 h3.
    next layer_name_of r3 (λ out. if_ended out.1 (Combine op c a b out.0)) command h3 (λ last r4 out e4 is4 h4.
    ended_is r4 (Combine op c a b out) command h4 (λ none same.
    let parts : op_word op ∷ ws ≡ op_word op ∷ cell ∷ first ∷ second ∷ last ∷ [] = cc in
    combines op cell first second last c a b out parts is1 is2 is3 is4 same)))))

pub named : (name : Word) (text : Word) → bytes_eq name text ≡ true → text ≡ name
named name text e = sym ((bytes_eq-Decides name text).0 e)

op_is : (name : Word) (op : Op) → op_of name ≡ Some op → op_word op ≡ name
unfolding op_of
op_is name op h =
    let xor = if bytes_eq name (codes "xor") then Some Xor else None in
    let not_op = if bytes_eq name (codes "not") then Some Not else xor in
    let or_op = if bytes_eq name (codes "or") then Some Or else not_op in
    choose (bytes_eq name (codes "and")) (Some And) or_op (Some op) h (λ e is. found And op name (named name (codes "and") e) is) (λ e h1.
    choose (bytes_eq name (codes "or")) (Some Or) not_op (Some op) h1 (λ e is. found Or op name (named name (codes "or") e) is) (λ e h2.
    choose (bytes_eq name (codes "not")) (Some Not) xor (Some op) h2 (λ e is. found Not op name (named name (codes "not") e) is) (λ e h3.
    choose (bytes_eq name (codes "xor")) (Some Xor) None (Some op) h3 (λ e is. found Xor op name (named name (codes "xor") e) is)
    (λ e none. no_value op none)))) where
      found : (o op : Op) (name : Word) → op_word o ≡ name → Some o ≡ Some op → op_word op ≡ name
      found o op name is same = ap op_word (sym (same_Some o op same)) ∙ is

-- words of this first word are said where those of the name are
renamed : (text name : Word) (ws : List Word) (command : Command) → text ≡ name → SaysCommand (text ∷ ws) command →
    SaysCommand (name ∷ ws) command
renamed text name ws command is says = subst (λ n. SaysCommand (n ∷ ws) command) is says

item_sound : (text : Word) (meaning : ItemId → Command) (ws : List Word) (command : Command) →
    option_map meaning (item_alone ws) ≡ Some command →
    ((word : Word) (id : ItemId) → text ∷ ws ≡ text ∷ word ∷ [] → parsed_item word ≡ Some id → command ≡ meaning id →
    SaysCommand (text ∷ ws) command) →
    SaysCommand (text ∷ ws) command
unfolding item_alone
item_sound text meaning ws command h says =
    map_some meaning (item_alone ws) command h (λ id is same.
    one_word parsed_item ws id is (λ word first read. says word id (ap (λ l. text ∷ l) first) read (sym same)))

symbol_sound : (text : Word) (meaning : ℕ → Command) (ws : List Word) (command : Command) →
    option_map meaning (symbol_alone ws) ≡ Some command →
    ((word : Word) (n : ℕ) → text ∷ ws ≡ text ∷ word ∷ [] → parsed_number MAX_SYMBOL word ≡ Some n → command ≡ meaning n →
    SaysCommand (text ∷ ws) command) →
    SaysCommand (text ∷ ws) command
unfolding symbol_alone
symbol_sound text meaning ws command h says =
    map_some meaning (symbol_alone ws) command h (λ n is same.
    one_word (parsed_number MAX_SYMBOL) ws n is (λ word first read. says word n (ap (λ l. text ∷ l) first) read (sym same)))

op_sound : (name : Word) (ws : List Word) (command : Command) → (op_of name >>= λ op. bool_command op ws) ≡ Some command →
    SaysCommand (name ∷ ws) command
op_sound name ws command h =
    after_some (op_of name) (λ op. bool_command op ws) command h (λ op is left.
    renamed (op_word op) name ws command (op_is name op is) (bool_sound op ws command left))

short_sound : (name : Word) (ws : List Word) (command : Command) → short_command name ws ≡ Some command → SaysCommand (name ∷ ws) command
unfolding short_command
short_sound name ws command h =
    let op = (op_of name >>= λ op. bool_command op ws) in
    let rmcell = if bytes_eq name (codes "rmcell") then option_map DropCell (symbol_alone ws) else op in
    let mkcell = if bytes_eq name (codes "mkcell") then option_map MakeCell (symbol_alone ws) else rmcell in
    let place = if bytes_eq name (codes "place") then place_command ws else mkcell in
    let layer = if bytes_eq name (codes "layer") then layer_command ws else place in
    let move = if bytes_eq name (codes "move") then move_command ws else layer in
    let look = if bytes_eq name (codes "look") then option_map Look (item_alone ws) else move in
    choose (bytes_eq name (codes "delete")) (option_map Delete (item_alone ws)) look (Some command) h
    (λ e is.
    renamed (codes "delete") name ws command (named name (codes "delete") e)
    (item_sound (codes "delete") Delete ws command is (λ word id first read same. deletes word id first read same))) (λ e h1.
    choose (bytes_eq name (codes "look")) (option_map Look (item_alone ws)) move (Some command) h1
    (λ e is.
    renamed (codes "look") name ws command (named name (codes "look") e)
    (item_sound (codes "look") Look ws command is (λ word id first read same. looks word id first read same))) (λ e h2.
    choose (bytes_eq name (codes "move")) (move_command ws) layer (Some command) h2
    (λ e is. renamed (codes "move") name ws command (named name (codes "move") e) (move_sound ws command is)) (λ e h3.
    choose (bytes_eq name (codes "layer")) (layer_command ws) place (Some command) h3
    (λ e is. renamed (codes "layer") name ws command (named name (codes "layer") e) (layer_sound ws command is)) (λ e h4.
    choose (bytes_eq name (codes "place")) (place_command ws) mkcell (Some command) h4
    (λ e is. renamed (codes "place") name ws command (named name (codes "place") e) (place_sound ws command is)) (λ e h5.
    choose (bytes_eq name (codes "mkcell")) (option_map MakeCell (symbol_alone ws)) rmcell (Some command) h5
    (λ e is.
    renamed (codes "mkcell") name ws command (named name (codes "mkcell") e)
    (symbol_sound (codes "mkcell") MakeCell ws command is (λ word n first read same. makes word n first read same))) (λ e h6.
    choose (bytes_eq name (codes "rmcell")) (option_map DropCell (symbol_alone ws)) op (Some command) h6
    (λ e is.
    renamed (codes "rmcell") name ws command (named name (codes "rmcell") e)
    (symbol_sound (codes "rmcell") DropCell ws command is (λ word n first read same. drops word n first read same)))
    (λ e is. op_sound name ws command is)))))))

command_sound : (name : Word) (ws : List Word) (command : Command) → command_named name ws ≡ Some command → SaysCommand (name ∷ ws) command
unfolding command_named
command_sound name ws command h =
    let short = short_command name ws in
    let poly = if bytes_eq name (codes "poly") then poly_command ws else short in
    choose (bytes_eq name (codes "box")) (box_command ws) poly (Some command) h
    (λ e is. renamed (codes "box") name ws command (named name (codes "box") e) (box_sound ws command is)) (λ e h1.
    choose (bytes_eq name (codes "poly")) (poly_command ws) short (Some command) h1
    (λ e is. renamed (codes "poly") name ws command (named name (codes "poly") e) (poly_sound ws command is))
    (λ e is. short_sound name ws command is))

pub alone : (name text : Word) (ws : List Word) → text ≡ name → ws ≡ [] → name ∷ ws ≡ text ∷ []
alone name text ws is none = cc

pub with_one : (name text word : Word) (ws : List Word) → text ≡ name → ws ≡ word ∷ [] → name ∷ ws ≡ text ∷ word ∷ []
with_one name text word ws is one = cc

txn_sound : {P : Type 0} (meaning : TxnId → Step) (ws : List Word) (step : Step) → option_map meaning (txn_alone ws) ≡ Some step →
    ((word : Word) (txn : TxnId) → ws ≡ word ∷ [] → parsed_txn word ≡ Some txn → step ≡ meaning txn → P) → P
unfolding txn_alone
txn_sound meaning ws step h says =
    map_some meaning (txn_alone ws) step h
    (λ txn is same. one_word parsed_txn ws txn is (λ word first read. says word txn first read (sym same)))

named_sound : (name : Word) (ws : List Word) (step : Step) → step_named name ws ≡ Some step → Says (name ∷ ws) step
unfolding step_named
named_sound name ws step h =
    let command = option_map Do (command_named name ws) in
    let redo = if bytes_eq name (codes "redo") then option_map Redo (txn_alone ws) else command in
    let undo = if bytes_eq name (codes "undo") then option_map Undo (txn_alone ws) else redo in
    let cancel = if bytes_eq name (codes "cancel") then if_ended ws Cancel else undo in
    let commit = if bytes_eq name (codes "commit") then if_ended ws Commit else cancel in
    choose (bytes_eq name (codes "open")) (if_ended ws Open) commit (Some step) h
    (λ e is. ended_is ws Open step is (λ none same. opens (alone name (codes "open") ws (named name (codes "open") e) none) same)) (λ e h1.
    choose (bytes_eq name (codes "commit")) (if_ended ws Commit) cancel (Some step) h1
    (λ e is.
    ended_is ws Commit step is (λ none same. commits (alone name (codes "commit") ws (named name (codes "commit") e) none) same)) (λ e h2.
    choose (bytes_eq name (codes "cancel")) (if_ended ws Cancel) undo (Some step) h2
    (λ e is.
    ended_is ws Cancel step is (λ none same. cancels (alone name (codes "cancel") ws (named name (codes "cancel") e) none) same)) (λ e h3.
    choose (bytes_eq name (codes "undo")) (option_map Undo (txn_alone ws)) redo (Some step) h3
    (λ e is.
    txn_sound Undo ws step is (λ word txn one read same.
    undoes word txn (with_one name (codes "undo") word ws (named name (codes "undo") e) one) read same)) (λ e h4.
    choose (bytes_eq name (codes "redo")) (option_map Redo (txn_alone ws)) command (Some step) h4
    (λ e is.
    txn_sound Redo ws step is (λ word txn one read same.
    redoes word txn (with_one name (codes "redo") word ws (named name (codes "redo") e) one) read same))
    (λ e is.
    map_some Do (command_named name ws) step is (λ command read same. does command (command_sound name ws command read) (sym same)))))))

pub steps_said : (ws : List Word) (step : Step) → step_of ws ≡ Some step → Says ws step
unfolding step_of
steps_said [] step h = no_value step h
steps_said (name ∷ ws) step h = named_sound name ws step h

-- ---- what is said is read

point_first : (x y : Word) (rest : List Word) (p : Point) → IsPointOf x y p → leading_point (x ∷ y ∷ rest) ≡ Some (p, rest)
unfolding leading_point
point_first x y rest p is = rw (is.column, is.row) refl

points_read : (before : List Point) (ws : List Word) (points : List Point) → ArePoints ws points →
    parsed_points before ws ≡ Some (before ++ points)
unfolding point_of
points_read before ws [] are = ap (parsed_points before) are ∙ ap Some (sym (append-nil before))
points_read before ws (p ∷ points) are =
    let x = are.0 in
    let y = are.1 in
    let more = are.2 in
    let made : point_of x y ≡ Some p = rw (are.4.column, are.4.row) refl in
    ap (parsed_points before) are.3
    ∙ ap (λ o. o >>= λ q. parsed_points (before ++ (q ∷ [])) more) made
    ∙ points_read (before ++ (p ∷ [])) more points are.5
    ∙ ap Some (append_assoc before (p ∷ []) points)

pub item_one : (word : Word) (id : ItemId) → parsed_item word ≡ Some id → item_alone (word ∷ []) ≡ Some id
unfolding item_alone
item_one word id is = rw is refl

symbol_one : (word : Word) (n : ℕ) → parsed_number MAX_SYMBOL word ≡ Some n → symbol_alone (word ∷ []) ≡ Some n
unfolding symbol_alone
symbol_one word n is = rw is refl

pub txn_one : (word : Word) (txn : TxnId) → parsed_txn word ≡ Some txn → txn_alone (word ∷ []) ≡ Some txn
unfolding txn_alone
txn_one word txn is = rw is refl

box_read : (cell layer x y u v : Word) (c : CellId) (l : Word) (a b : Point) → parsed_cell cell ≡ Some c → layer_name_of layer ≡ Some l →
    IsPointOf x y a → IsPointOf u v b → box_command (cell ∷ layer ∷ x ∷ y ∷ u ∷ v ∷ []) ≡ Some (Box c l a b)
unfolding box_command
box_read cell layer x y u v c l a b is1 is2 is3 is4 =
    rw (is1, is2, point_first x y (u ∷ v ∷ []) a is3, point_first u v [] b is4) refl

poly_read : (cell layer : Word) (more : List Word) (c : CellId) (l : Word) (points : List Point) → parsed_cell cell ≡ Some c →
    layer_name_of layer ≡ Some l → ArePoints more points → poly_command (cell ∷ layer ∷ more) ≡ Some (Poly c l points)
unfolding poly_command
poly_read cell layer more c l points is1 is2 are = rw (is1, is2, points_read [] more points are) refl

move_read : (word x y : Word) (id : ItemId) (by : Point) → parsed_item word ≡ Some id → IsPointOf x y by →
    move_command (word ∷ x ∷ y ∷ []) ≡ Some (Move id by.x by.y)
unfolding move_command
move_read word x y id by is1 is2 = rw (is1, point_first x y [] by is2) refl

layer_read : (word layer : Word) (id : ItemId) (l : Word) → parsed_item word ≡ Some id → layer_name_of layer ≡ Some l →
    layer_command (word ∷ layer ∷ []) ≡ Some (SetLayer id l)
unfolding layer_command
layer_read word layer id l is1 is2 = rw (is1, is2) refl

place_read : (cell target turning x y : Word) (c : CellId) (n : ℕ) (turn : Turn) → parsed_cell cell ≡ Some c →
    parsed_number MAX_SYMBOL target ≡ Some n → parsed_turning turning ≡ Some (turn.mirror, turn.quarter) → IsPointOf x y turn.shift →
    place_command (cell ∷ target ∷ turning ∷ x ∷ y ∷ []) ≡ Some (Place c n turn)
unfolding place_command
place_read cell target turning x y c n turn is1 is2 is3 is4 = rw (is1, is2, is3, point_first x y [] turn.shift is4) refl

bool_read : (op : Op) (cell first second last : Word) (c : CellId) (a b out : Word) → parsed_cell cell ≡ Some c →
    layer_name_of first ≡ Some a → layer_name_of second ≡ Some b → layer_name_of last ≡ Some out →
    bool_command op (cell ∷ first ∷ second ∷ last ∷ []) ≡ Some (Combine op c a b out)
unfolding bool_command
bool_read op cell first second last c a b out is1 is2 is3 is4 = rw (is1, is2, is3, is4) refl

op_read : (op : Op) (ws : List Word) → step_of (op_word op ∷ ws) ≡ option_map Do (bool_command op ws)
unfolding step_of step_named command_named short_command op_of
op_read And ws = refl
op_read Or ws = refl
op_read Not ws = refl
op_read Xor ws = refl

-- the words are these, which are read as this command, which is the one
read_as : (ws others : List Word) (command other : Command) → ws ≡ others → step_of others ≡ Some (Do other) → command ≡ other →
    step_of ws ≡ Some (Do command)
read_as ws others command other parts read same = ap step_of parts ∙ read ∙ ap (λ d. Some (Do d)) (sym same)

command_read : (ws : List Word) (command : Command) → SaysCommand ws command → step_of ws ≡ Some (Do command)
unfolding step_of step_named command_named short_command op_of
command_read ws command (boxes cell layer x y u v c l a b parts is1 is2 is3 is4 same) =
    read_as ws (codes "box" ∷ cell ∷ layer ∷ x ∷ y ∷ u ∷ v ∷ []) command (Box c l a b) parts
    (ap (option_map Do) (box_read cell layer x y u v c l a b is1 is2 is3 is4)) same
command_read ws command (polygons cell layer more c l points parts is1 is2 are same) =
    read_as ws (codes "poly" ∷ cell ∷ layer ∷ more) command (Poly c l points) parts
    (ap (option_map Do) (poly_read cell layer more c l points is1 is2 are)) same
command_read ws command (deletes word id parts is1 same) =
    read_as ws (codes "delete" ∷ word ∷ []) command (Delete id) parts
    (ap (λ o. option_map Do (option_map Delete o)) (item_one word id is1)) same
command_read ws command (looks word id parts is1 same) =
    read_as ws (codes "look" ∷ word ∷ []) command (Look id) parts
    (ap (λ o. option_map Do (option_map Look o)) (item_one word id is1)) same
command_read ws command (moves word x y id by parts is1 is2 same) =
    read_as ws (codes "move" ∷ word ∷ x ∷ y ∷ []) command (Move id by.x by.y) parts
    (ap (option_map Do) (move_read word x y id by is1 is2)) same
command_read ws command (layers word layer id l parts is1 is2 same) =
    read_as ws (codes "layer" ∷ word ∷ layer ∷ []) command (SetLayer id l) parts
    (ap (option_map Do) (layer_read word layer id l is1 is2)) same
command_read ws command (places cell target turning x y c n turn parts is1 is2 is3 is4 same) =
    read_as ws (codes "place" ∷ cell ∷ target ∷ turning ∷ x ∷ y ∷ []) command (Place c n turn) parts
    (ap (option_map Do) (place_read cell target turning x y c n turn is1 is2 is3 is4)) same
command_read ws command (makes word n parts is1 same) =
    read_as ws (codes "mkcell" ∷ word ∷ []) command (MakeCell n) parts
    (ap (λ o. option_map Do (option_map MakeCell o)) (symbol_one word n is1)) same
command_read ws command (drops word n parts is1 same) =
    read_as ws (codes "rmcell" ∷ word ∷ []) command (DropCell n) parts
    (ap (λ o. option_map Do (option_map DropCell o)) (symbol_one word n is1)) same
command_read ws command (combines op cell first second last c a b out parts is1 is2 is3 is4 same) =
    read_as ws (op_word op ∷ cell ∷ first ∷ second ∷ last ∷ []) command (Combine op c a b out) parts
    (op_read op (cell ∷ first ∷ second ∷ last ∷ []) ∙ ap (option_map Do) (bool_read op cell first second last c a b out is1 is2 is3 is4))
    same

pub says_read : (ws : List Word) (step : Step) → Says ws step → step_of ws ≡ Some step
unfolding step_of step_named
says_read ws step (opens parts same) = ap step_of parts ∙ ap Some (sym same)
says_read ws step (commits parts same) = ap step_of parts ∙ ap Some (sym same)
says_read ws step (cancels parts same) = ap step_of parts ∙ ap Some (sym same)
says_read ws step (undoes word txn parts is same) =
    ap step_of parts ∙ ap (option_map Undo) (txn_one word txn is) ∙ ap Some (sym same)
says_read ws step (redoes word txn parts is same) =
    ap step_of parts ∙ ap (option_map Redo) (txn_one word txn is) ∙ ap Some (sym same)
says_read ws step (does command says same) = command_read ws command says ∙ ap Some (sym same)
