-- The answer in words is these words with a space between two, and each of them is a word.
use Rattle.std.proofs.Common.{◌≡◌, ℕ, ◌+◌, ◌-◌, ◌≤◌, Bool, true, false, List, [], ◌∷◌, ◌++◌, refl, sym, ap, ◌∙◌, arith}
use Rattle.std.proofs.Common.{append_assoc, append-nil}
use Rattle.std.specs.Prelude.{codes, flat_map, if◌then◌else◌}
use Rattle.std.specs.Fmt.{decimal, signed_decimal}
use Rattle.std.specs.List.{AllByRecursion}
use Rattle.lay_cells.specs.declared.cell_id.CellId.{CellId}
use Rattle.lay_cells.specs.declared.cell_id.CellId.TheVariants.{Symbol, Top}
use Rattle.lay_cells.specs.declared.cells.TheConstants.{MAX_SYMBOL}
use Rattle.lay_layouts.specs.declared.id.ItemId.{ItemId}
use Rattle.lay_layouts.specs.IdText.{item_text}
use Rattle.lay_layouts.specs.declared.item.Item.{Item}
use Rattle.lay_layouts.specs.declared.item.Item.TheVariants.{Placed, Shape}
use Rattle.lay_point.specs.declared.point.Point.{Point}
use Rattle.lay_point.specs.declared.turn.Quarter.{Quarter}
use Rattle.lay_point.specs.declared.turn.Quarter.TheVariants.{R0, R90, R180, R270}
use Rattle.lay_point.specs.declared.turn.Turn.{Turn}
use Rattle.txn_commands.specs.declared.command.Done.{Done}
use Rattle.txn_commands.specs.declared.command.Done.TheVariants.{Made, Several, Empty, Plain, Found}
use Rattle.txn_commands.specs.declared.command.TxnId.{TxnId}
use Rattle.txn_commands.specs.declared.fault.CmdFault.TheVariants.{
  CellThere,
  CellUsed,
  Cycle,
  FewPoints,
  NoCell,
  NoItem,
  NoMemory,
  NotShape,
}
use Rattle.txn_commands.specs.declared.fault.CmdFault.TheVariants.{OutOfRange, TooDeep, TooMany, TxnFull}
use Rattle.txn_commands.specs.Own.{id_from}
use Rattle.txn_commands.specs.Refusals.{txn_text}
use Rattle.undo_rules.specs.declared.log.BookFault.TheVariants.{Depends, Foreign, LogFull, Moved, NoMemory as BookMemory, NoTxn, NotLive}
use Rattle.undo_rules.specs.declared.log.BookFault.TheVariants.{SessionFull, Stale, StillLive}
use Rattle.session_steps.specs.declared.Reply.{Reply}
use Rattle.session_steps.specs.declared.Reply.TheVariants.{Opened, Done as CommandDone, Committed, Cancelled, Undone, Redone, Fault}
use Rattle.session_steps.specs.declared.StepFault.{StepFault}
use Rattle.session_steps.specs.declared.StepFault.TheVariants.{AlreadyOpen, Book, Command, NoSession, NotOpen}
use Rattle.session_steps.specs.Refusals.{step_code}
use Rattle.job_text.specs.Replies.{answer_text, bar_text, cell_text, done_text, fault_text, found_text, named_text, spaced_point}
use Rattle.job_text.specs.Replies.{degrees_text, points_text, rings_text, several_text, turning_text}
use Rattle.job_text.specs.Steps.{Word}
use Rattle.job_laws.specs.Written.{IsItem, cell_word, degrees, item_word, point_words, spaced_words, turning_word, txn_word}
use Rattle.job_laws.proofs.Joined.{IsWord}
use Rattle.job_laws.proofs.Plain.{cell_is_word, decimal_word, dotted, item_is_word, last_two, layer_word, points_are_words}
use Rattle.job_laws.proofs.Plain.{turning_is_word, txn_is_word}
use Rattle.job_laws.specs.Told.{CanAnswer, CanRefuse, CanShow, CanTell, HasPoints}

-- ---- the words

-- what is between two rings
abbrev pub bar_words : List (List Point) → List Word
bar_words [] = []
bar_words (ring ∷ rings) = codes "/" ∷ []

abbrev pub ring_words : List (List Point) → List Word
ring_words [] = []
ring_words (ring ∷ rings) = flat_map point_words ring ++ (bar_words rings ++ ring_words rings)

abbrev pub found_words : Item → List Word
found_words (Shape cell layer rings) = codes "shape" ∷ cell_word cell ∷ layer ∷ ring_words rings
found_words (Placed cell target turn) =
    codes "placed" ∷ cell_word cell ∷ decimal target ∷ turning_word turn ∷ point_words turn.shift

abbrev pub done_words : Done → List Word
done_words (Made id) = codes "made" ∷ item_word id ∷ []
done_words (Several first count) = codes "made" ∷ item_word first ∷ codes "to" ∷ item_word (id_from first (count - 1)) ∷ []
done_words Empty = codes "empty" ∷ []
done_words Plain = codes "done" ∷ []
done_words (Found item) = found_words item

abbrev pub named_words : StepFault → List Word
named_words (Book (Depends txn)) = txn_word txn ∷ []
named_words (Book (Moved txn)) = txn_word txn ∷ []
named_words (Book (Stale txn)) = txn_word txn ∷ []
named_words fault = []

abbrev pub fault_words : StepFault → List Word
fault_words fault = decimal (step_code fault).0 ∷ (step_code fault).1 ∷ named_words fault

abbrev pub answer_words : Reply → List Word
answer_words (Opened txn) = codes "opened" ∷ decimal txn ∷ []
answer_words (CommandDone done) = done_words done
answer_words (Committed txn) = codes "committed" ∷ []
answer_words Cancelled = codes "cancelled" ∷ []
answer_words Undone = codes "undone" ∷ []
answer_words Redone = codes "redone" ∷ []
answer_words (Fault fault) = codes "fault" ∷ fault_words fault

-- ---- the text is these words with spaces

-- two texts with a byte between them, and three
between : (a b : List ℕ) (x : ℕ) → (a ++ x ∷ []) ++ b ≡ a ++ x ∷ b
between a b x = append_assoc a (x ∷ []) b

pub three : (a b c : List ℕ) (x y : ℕ) → (((a ++ x ∷ []) ++ b) ++ y ∷ []) ++ c ≡ a ++ x ∷ (b ++ y ∷ c)
three a b c x y =
    append_assoc ((a ++ x ∷ []) ++ b) (y ∷ []) c
    ∙ append_assoc (a ++ x ∷ []) b (y ∷ c)
    ∙ append_assoc a (x ∷ []) (b ++ y ∷ c)

-- two with a space between them, and three, before what comes after
two_then : (a b c : List ℕ) → ((a ++ 32 ∷ []) ++ b) ++ c ≡ a ++ 32 ∷ (b ++ c)
two_then a b c = append_assoc (a ++ 32 ∷ []) b c ∙ append_assoc a (32 ∷ []) (b ++ c)

three_then : (a b c d : List ℕ) → ((((a ++ 32 ∷ []) ++ b) ++ 32 ∷ []) ++ c) ++ d ≡ a ++ 32 ∷ (b ++ 32 ∷ (c ++ d))
three_then a b c d = append_assoc (((a ++ 32 ∷ []) ++ b) ++ 32 ∷ []) c d ∙ three a b (c ++ d) 32 32

-- the words, each after a space
abbrev after : List Word → List ℕ
after [] = []
after (word ∷ words) = 32 ∷ (word ++ after words)

after-append : (ws vs : List Word) → after (ws ++ vs) ≡ after ws ++ after vs
after-append [] vs = refl
after-append (w ∷ ws) vs =
    ap (λ t. 32 ∷ (w ++ t)) (after-append ws vs) ∙ ap (λ t. 32 ∷ t) (sym (append_assoc w (after ws) (after vs)))

spaced_words-after : (w : Word) (ws : List Word) → spaced_words (w ∷ ws) ≡ w ++ after ws
spaced_words-after w [] = sym (append-nil w)
spaced_words-after w (v ∷ ws) = ap (λ t. w ++ 32 ∷ t) (spaced_words-after v ws)

points_after : (ring : List Point) → points_text ring ≡ after (flat_map point_words ring)
unfolding spaced_point
points_after [] = refl
points_after (p ∷ ring) =
    ap (λ t. 32 ∷ t) (two_then (signed_decimal p.x) (signed_decimal p.y) (points_text ring))
    ∙ ap (λ t. 32 ∷ (signed_decimal p.x ++ 32 ∷ (signed_decimal p.y ++ t))) (points_after ring)

bar_after : (rings : List (List Point)) → bar_text rings ≡ after (bar_words rings)
bar_after [] = refl
bar_after (ring ∷ rings) = refl

rings_after : (rings : List (List Point)) → rings_text rings ≡ after (ring_words rings)
rings_after [] = refl
rings_after (ring ∷ rings) =
    append_assoc (points_text ring) (bar_text rings) (rings_text rings)
    ∙ ap (λ t. t ++ (bar_text rings ++ rings_text rings)) (points_after ring)
    ∙ ap (λ t. after (flat_map point_words ring) ++ (t ++ rings_text rings)) (bar_after rings)
    ∙ ap (λ t. after (flat_map point_words ring) ++ (after (bar_words rings) ++ t)) (rings_after rings)
    ∙ ap (λ t. after (flat_map point_words ring) ++ t) (sym (after-append (bar_words rings) (ring_words rings)))
    ∙ sym (after-append (flat_map point_words ring) (bar_words rings ++ ring_words rings))

cell_same : (cell : CellId) → cell_text cell ≡ cell_word cell
cell_same Top = refl
cell_same (Symbol number) = refl

quarter_same : (q : Quarter) → degrees_text q ≡ degrees q
quarter_same R0 = refl
quarter_same R90 = refl
quarter_same R180 = refl
quarter_same R270 = refl

letter_same : (mirror : Bool) (text : List ℕ) →
    (if mirror then codes "m" else codes "r") ++ text ≡ (if mirror then 109 else 114) ∷ text
letter_same true text = refl
letter_same false text = refl

turning_same : (turn : Turn) → turning_text turn ≡ turning_word turn
unfolding turning_text
turning_same turn =
    letter_same turn.mirror (degrees_text turn.quarter)
    ∙ ap (λ t. (if turn.mirror then 109 else 114) ∷ t) (quarter_same turn.quarter)

txn_same : (txn : TxnId) → txn_text txn ≡ txn_word txn
txn_same txn = between (decimal txn.session) (decimal txn.txn) 46

item_same : (id : ItemId) → item_text id ≡ item_word id
item_same id = three (decimal id.session) (decimal id.txn) (decimal id.seq) 46 46

placed_joined : (cell turning : Word) (target : ℕ) (shift : Point) →
    codes "placed " ++ cell ++ codes " " ++ decimal target ++ codes " " ++ turning ++ spaced_point shift
    ≡ spaced_words (codes "placed" ∷ cell ∷ decimal target ∷ turning ∷ point_words shift)
unfolding spaced_point
placed_joined cell turning target shift =
    ap (λ t. codes "placed " ++ t)
    (three_then cell (decimal target) turning (32 ∷ ((signed_decimal shift.x ++ 32 ∷ []) ++ signed_decimal shift.y)))
    ∙ ap (λ t. codes "placed " ++ (cell ++ 32 ∷ (decimal target ++ 32 ∷ (turning ++ 32 ∷ t))))
    (between (signed_decimal shift.x) (signed_decimal shift.y) 32)

shape_joined : (cell layer : Word) (rings : List (List Point)) →
    codes "shape " ++ cell ++ codes " " ++ layer ++ rings_text rings ≡ spaced_words (codes "shape" ∷ cell ∷ layer ∷ ring_words rings)
shape_joined cell layer rings =
    ap (λ t. codes "shape " ++ t) (two_then cell layer (rings_text rings))
    ∙ ap (λ t. codes "shape " ++ (cell ++ 32 ∷ (layer ++ t))) (rings_after rings)
    ∙ ap (λ t. codes "shape " ++ (cell ++ 32 ∷ t)) (sym (spaced_words-after layer (ring_words rings)))

found_joined : (item : Item) → found_text item ≡ spaced_words (found_words item)
unfolding found_text
found_joined (Shape cell layer rings) =
    ap (λ t. codes "shape " ++ t ++ codes " " ++ layer ++ rings_text rings) (cell_same cell)
    ∙ shape_joined (cell_word cell) layer rings
found_joined (Placed cell target turn) =
    ap (λ t. codes "placed " ++ t ++ codes " " ++ decimal target ++ codes " " ++ turning_text turn ++ spaced_point turn.shift)
    (cell_same cell)
    ∙ ap (λ t. codes "placed " ++ cell_word cell ++ codes " " ++ decimal target ++ codes " " ++ t ++ spaced_point turn.shift)
    (turning_same turn)
    ∙ placed_joined (cell_word cell) (turning_word turn) target turn.shift

several_joined : (first : ItemId) (count : ℕ) → several_text first count ≡ spaced_words (done_words (Several first count))
unfolding several_text
several_joined first count =
    ap (λ t. codes "made " ++ t ++ codes " to " ++ item_text (id_from first (count - 1))) (item_same first)
    ∙ ap (λ t. codes "made " ++ item_word first ++ codes " to " ++ t) (item_same (id_from first (count - 1)))
    ∙ ap (λ t. codes "made " ++ t) (append_assoc (item_word first) (codes " to ") (item_word (id_from first (count - 1))))

done_joined : (done : Done) → done_text done ≡ spaced_words (done_words done)
done_joined (Made id) = ap (λ t. codes "made " ++ t) (item_same id)
done_joined (Several first count) = several_joined first count
done_joined Empty = refl
done_joined Plain = refl
done_joined (Found item) = found_joined item

named_one : (txn : TxnId) → codes " " ++ txn_text txn ≡ after (txn_word txn ∷ [])
named_one txn = ap (λ t. 32 ∷ t) (txn_same txn ∙ sym (append-nil (txn_word txn)))

named_after : (fault : StepFault) → named_text fault ≡ after (named_words fault)
named_after (Command fault) = refl
named_after (Book NoTxn) = refl
named_after (Book NotLive) = refl
named_after (Book StillLive) = refl
named_after (Book (Depends txn)) = named_one txn
named_after (Book (Moved txn)) = named_one txn
named_after (Book (Stale txn)) = named_one txn
named_after (Book LogFull) = refl
named_after (Book BookMemory) = refl
named_after (Book Foreign) = refl
named_after (Book SessionFull) = refl
named_after NoSession = refl
named_after AlreadyOpen = refl
named_after NotOpen = refl

refusal_joined : (number : ℕ) (name named : List ℕ) (ws : List Word) → named ≡ after ws →
    codes "fault " ++ decimal number ++ codes " " ++ name ++ named ≡ spaced_words (codes "fault" ∷ decimal number ∷ name ∷ ws)
refusal_joined number name named ws is =
    ap (λ t. codes "fault " ++ t) (two_then (decimal number) name named)
    ∙ ap (λ t. codes "fault " ++ (decimal number ++ 32 ∷ (name ++ t))) is
    ∙ ap (λ t. codes "fault " ++ (decimal number ++ 32 ∷ t)) (sym (spaced_words-after name ws))

fault_joined : (fault : StepFault) → fault_text fault ≡ spaced_words (codes "fault" ∷ fault_words fault)
unfolding fault_text
fault_joined fault =
    refusal_joined (step_code fault).0 (step_code fault).1 (named_text fault) (named_words fault) (named_after fault)

pub answer_joined : (reply : Reply) → answer_text reply ≡ spaced_words (answer_words reply)
unfolding answer_text
answer_joined (Opened txn) = refl
answer_joined (CommandDone done) = done_joined done
answer_joined (Committed txn) = refl
answer_joined Cancelled = refl
answer_joined Undone = refl
answer_joined Redone = refl
answer_joined (Fault fault) = fault_joined fault

-- ---- they are words

words-append : (ws vs : List Word) → AllByRecursion IsWord ws → AllByRecursion IsWord vs → AllByRecursion IsWord (ws ++ vs)
words-append [] vs first second = second
words-append (w ∷ ws) vs first second = (first.0, words-append ws vs first.1 second)

bar_is_word : (rings : List (List Point)) → AllByRecursion IsWord (bar_words rings)
bar_is_word [] = tt
bar_is_word (ring ∷ rings) = (record { some = omega arith; plain = refl }, tt)

rings_are_words : (rings : List (List Point)) → AllByRecursion HasPoints rings → AllByRecursion IsWord (ring_words rings)
rings_are_words [] all = tt
rings_are_words (ring ∷ rings) all =
    words-append (flat_map point_words ring) (bar_words rings ++ ring_words rings) (points_are_words ring all.0.points)
    (words-append (bar_words rings) (ring_words rings) (bar_is_word rings) (rings_are_words rings all.1))

found_is_words : (item : Item) → CanShow item → AllByRecursion IsWord (found_words item)
found_is_words (Shape cell layer rings) is = (
  record { some = omega arith; plain = refl },
  (cell_is_word cell is.0, (layer_word layer is.1, rings_are_words rings is.2)),
)
found_is_words (Placed cell target turn) is =
    let few : target ≤ MAX_SYMBOL = is.1 in
    let number = decimal_word target (omega (arith, few)) in
    let rest = last_two turn.shift is.2 in (
      record { some = omega arith; plain = refl },
      (cell_is_word cell is.0, (number, (turning_is_word turn.mirror turn.quarter, rest))),
    )

last_is_word : (first : ItemId) (count : ℕ) → IsItem first → count ≤ 4294967295 → IsWord (item_word (id_from first (count - 1)))
last_is_word first count is most =
    let session = is.session in
    let txn = is.txn in
    let seq = is.seq in
    let last : first.seq + (count - 1) ≤ 8589934590 = omega (arith, seq, most) in
    dotted (decimal first.session) (decimal first.txn ++ 46 ∷ decimal (first.seq + (count - 1)))
    (decimal_word first.session (omega (arith, session)))
    (dotted (decimal first.txn) (decimal (first.seq + (count - 1))) (decimal_word first.txn (omega (arith, txn)))
    (decimal_word (first.seq + (count - 1)) (omega (arith, last))))

done_is_words : (done : Done) → CanAnswer done → AllByRecursion IsWord (done_words done)
done_is_words (Made id) is = (record { some = omega arith; plain = refl }, (item_is_word id is, tt))
done_is_words (Several first count) is = (
  record { some = omega arith; plain = refl },
  (item_is_word first is.0, (record { some = omega arith; plain = refl }, (last_is_word first count is.0 is.2, tt))),
)
done_is_words Empty is = (record { some = omega arith; plain = refl }, tt)
done_is_words Plain is = (record { some = omega arith; plain = refl }, tt)
done_is_words (Found item) is = found_is_words item is

-- a number of a refusal, and its name
code_words : (number : ℕ) (name : Word) (more : List Word) → number ≤ 255 → IsWord name → AllByRecursion IsWord more →
    AllByRecursion IsWord (codes "fault" ∷ decimal number ∷ name ∷ more)
code_words number name more few is rest =
    (record { some = omega arith; plain = refl }, (decimal_word number (omega (arith, few)), (is, rest)))

fault_is_words : (fault : StepFault) → CanRefuse fault → AllByRecursion IsWord (codes "fault" ∷ fault_words fault)
fault_is_words (Command NoCell) is = code_words 1 (codes "NoCell") [] (omega arith) (record { some = omega arith; plain = refl }) tt
fault_is_words (Command NoItem) is = code_words 2 (codes "NoItem") [] (omega arith) (record { some = omega arith; plain = refl }) tt
fault_is_words (Command NotShape) is = code_words 3 (codes "NotShape") [] (omega arith) (record { some = omega arith; plain = refl }) tt
fault_is_words (Command FewPoints) is = code_words 4 (codes "FewPoints") [] (omega arith) (record { some = omega arith; plain = refl }) tt
fault_is_words (Command OutOfRange) is = code_words 5 (codes "OutOfRange") [] (omega arith) (record { some = omega arith; plain = refl }) tt
fault_is_words (Command Cycle) is = code_words 6 (codes "Cycle") [] (omega arith) (record { some = omega arith; plain = refl }) tt
fault_is_words (Command TooDeep) is = code_words 7 (codes "TooDeep") [] (omega arith) (record { some = omega arith; plain = refl }) tt
fault_is_words (Command TooMany) is = code_words 8 (codes "TooMany") [] (omega arith) (record { some = omega arith; plain = refl }) tt
fault_is_words (Command TxnFull) is = code_words 10 (codes "TxnFull") [] (omega arith) (record { some = omega arith; plain = refl }) tt
fault_is_words (Command NoMemory) is = code_words 11 (codes "NoMemory") [] (omega arith) (record { some = omega arith; plain = refl }) tt
fault_is_words (Command CellThere) is = code_words 12 (codes "CellThere") [] (omega arith) (record { some = omega arith; plain = refl }) tt
fault_is_words (Command CellUsed) is = code_words 13 (codes "CellUsed") [] (omega arith) (record { some = omega arith; plain = refl }) tt
fault_is_words (Book NoTxn) is = code_words 20 (codes "NoTxn") [] (omega arith) (record { some = omega arith; plain = refl }) tt
fault_is_words (Book NotLive) is = code_words 21 (codes "NotLive") [] (omega arith) (record { some = omega arith; plain = refl }) tt
fault_is_words (Book StillLive) is = code_words 22 (codes "StillLive") [] (omega arith) (record { some = omega arith; plain = refl }) tt
fault_is_words (Book LogFull) is = code_words 26 (codes "LogFull") [] (omega arith) (record { some = omega arith; plain = refl }) tt
fault_is_words (Book BookMemory) is = code_words 27 (codes "NoMemory") [] (omega arith) (record { some = omega arith; plain = refl }) tt
fault_is_words (Book Foreign) is = code_words 28 (codes "Foreign") [] (omega arith) (record { some = omega arith; plain = refl }) tt
fault_is_words (Book SessionFull) is = code_words 33 (codes "SessionFull") [] (omega arith) (record { some = omega arith; plain = refl }) tt
fault_is_words (Book (Depends txn)) is =
    code_words 23 (codes "Depends") (txn_word txn ∷ []) (omega arith) (record { some = omega arith; plain = refl }) (txn_is_word txn is, tt)
fault_is_words (Book (Moved txn)) is =
    code_words 24 (codes "Moved") (txn_word txn ∷ []) (omega arith) (record { some = omega arith; plain = refl }) (txn_is_word txn is, tt)
fault_is_words (Book (Stale txn)) is =
    code_words 25 (codes "Stale") (txn_word txn ∷ []) (omega arith) (record { some = omega arith; plain = refl }) (txn_is_word txn is, tt)
fault_is_words NoSession is = code_words 30 (codes "NoSession") [] (omega arith) (record { some = omega arith; plain = refl }) tt
fault_is_words AlreadyOpen is = code_words 31 (codes "AlreadyOpen") [] (omega arith) (record { some = omega arith; plain = refl }) tt
fault_is_words NotOpen is = code_words 32 (codes "NotOpen") [] (omega arith) (record { some = omega arith; plain = refl }) tt

pub answer_is_words : (reply : Reply) → CanTell reply → AllByRecursion IsWord (answer_words reply)
answer_is_words (Opened txn) is = (record { some = omega arith; plain = refl }, (decimal_word txn (omega (arith, is)), tt))
answer_is_words (CommandDone done) is = done_is_words done is
answer_is_words (Committed txn) is = (record { some = omega arith; plain = refl }, tt)
answer_is_words Cancelled is = (record { some = omega arith; plain = refl }, tt)
answer_is_words Undone is = (record { some = omega arith; plain = refl }, tt)
answer_is_words Redone is = (record { some = omega arith; plain = refl }, tt)
answer_is_words (Fault fault) is = fault_is_words fault is
