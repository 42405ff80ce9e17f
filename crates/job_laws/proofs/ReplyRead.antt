-- The words of a reply, and so its line, are read as the reply.
use Rattle.std.proofs.Common.{◌≡◌, ◌⊎◌, ℕ, ◌+◌, ◌-◌, ◌≤◌, true, false, List, [], ◌∷◌, ◌++◌, refl, sym, ap, ◌∙◌, arith}
use Rattle.std.proofs.Common.{append_assoc, append-nil, inl, inr, negsuc}
use Rattle.std.specs.Prelude.{◌==◌, codes, flat_map, if◌then◌else◌, Option, None, Some, option_map, ℤ, pos, ◌≤ℤ◌}
use Rattle.std.specs.Fmt.{decimal, signed_decimal}
use Rattle.std.specs.List.{AllByRecursion, list_all}
use Rattle.std.specs.Str.{bytes_eq}
use Rattle.std.proofs.lemmas.Bool.{and_parts}
use Rattle.std.proofs.lemmas.Bool.Decides.{nat_tests}
use Rattle.std.proofs.lemmas.Fmt.{decimal_injective}
use Rattle.std.proofs.lemmas.Int.{ints}
use Rattle.std.proofs.lemmas.List.{append_cancel_right}
use Rattle.lay_cells.specs.declared.cells.TheConstants.{MAX_SYMBOL}
use Rattle.lay_layouts.specs.declared.id.ItemId.{ItemId}
use Rattle.lay_layouts.specs.declared.item.Item.{Item}
use Rattle.lay_layouts.specs.declared.item.Item.TheVariants.{Placed, Shape}
use Rattle.lay_point.specs.declared.point.Point.{Point}
use Rattle.lay_point.specs.Names.{is_digit, layer_name_of}
use Rattle.txn_commands.specs.declared.command.Done.{Done}
use Rattle.txn_commands.specs.declared.command.Done.TheVariants.{Made, Several, Empty, Plain, Found}
use Rattle.txn_commands.specs.declared.command.TxnId.{TxnId}
use Rattle.txn_commands.specs.declared.fault.CmdFault.TheVariants.{
  CellThere,
  CellUsed,
  Cycle,
  FewPoints,
  NoCell,
  NoItem,
  NoMemory,
  NotShape,
}
use Rattle.txn_commands.specs.declared.fault.CmdFault.TheVariants.{OutOfRange, TooDeep, TooMany, TxnFull}
use Rattle.undo_rules.specs.declared.log.BookFault.{BookFault}
use Rattle.undo_rules.specs.declared.log.BookFault.TheVariants.{Depends, Foreign, LogFull, Moved, NoMemory as BookMemory, NoTxn, NotLive}
use Rattle.undo_rules.specs.declared.log.BookFault.TheVariants.{SessionFull, Stale, StillLive}
use Rattle.session_steps.specs.declared.Reply.{Reply}
use Rattle.session_steps.specs.declared.Reply.TheVariants.{Opened, Done as CommandDone, Committed, Cancelled, Undone, Redone, Fault}
use Rattle.session_steps.specs.declared.StepFault.{StepFault}
use Rattle.session_steps.specs.declared.StepFault.TheVariants.{AlreadyOpen, Book, Command, NoSession, NotOpen}
use Rattle.job_text.specs.Replies.{answer_text, reply_text}
use Rattle.job_text.specs.Steps.{Word, leading_point, point_of}
use Rattle.byte_io.specs.Numbers.{parsed_number}
use Rattle.byte_io.specs.Steps.{◌>>=◌}
use Rattle.job_text.specs.Words.{before_dot, parsed_cell, parsed_item, parsed_turning, parsed_txn, words}
use Rattle.job_laws.specs.Written.{IsCoordinate, IsItem, IsPoint, IsTxn, item_word, point_words, spaced_words, txn_word}
use Rattle.byte_io.proofs.DigitLemmas.{decimal_is, number_read}
use Rattle.job_laws.proofs.Fields.{cell_read, coordinate_read, dot_read, item_read, turning_read, txn_read}
use Rattle.job_laws.proofs.Joined.{words-spaced_words}
use Rattle.job_laws.proofs.Plain.{decimal_word}
use Rattle.job_laws.specs.ReplyLaws.{IsCount, TellTheSame}
use Rattle.job_laws.specs.Told.{CanAnswer, CanRefuse, CanShow, CanTell, HasPoints, IsCommitted}
use Rattle.job_laws.proofs.AnswerWords.{answer_is_words, answer_joined, answer_words, done_words, fault_words, found_words}
use Rattle.job_laws.proofs.AnswerWords.{ring_words, three}
use Rattle.job_laws.proofs.Said.{point_said}

-- ---- a reader of replies

-- rings, of which the first has these points so far; a bar ends a ring
abbrev rings_from : List Point → List Word → Option (List (List Point))
rings_from ring [] = Some (ring ∷ [])
rings_from ring (x ∷ []) = None
rings_from ring (x ∷ y ∷ words) =
    if bytes_eq x (codes "/") then option_map (λ rings. ring ∷ rings) (rings_from [] (y ∷ words))
    else (point_of x y >>= λ point. rings_from (ring ++ point ∷ []) words)

abbrev rings_of : List Word → Option (List (List Point))
rings_of [] = Some []
rings_of (word ∷ words) = rings_from [] (word ∷ words)

shape_of : List Word → Option Item
shape_of [] = None
shape_of (cell ∷ []) = None
shape_of (cell ∷ layer ∷ words) = do
  cell ← parsed_cell cell
  layer ← layer_name_of layer
  rings ← rings_of words
  Some (Shape cell layer rings)

placed_of : List Word → Option Item
placed_of [] = None
placed_of (cell ∷ []) = None
placed_of (cell ∷ target ∷ []) = None
placed_of (cell ∷ target ∷ turning ∷ words) = do
  cell ← parsed_cell cell
  target ← parsed_number MAX_SYMBOL target
  turning ← parsed_turning turning
  shift ← leading_point words
  Some (Placed cell target (record { mirror = turning.0; quarter = turning.1; shift = shift.0 }))

-- the number of an item, of any session and transaction
last_of : Word → Option ℕ
last_of bytes = do
  session ← before_dot 64 bytes
  txn ← before_dot 65535 session.1
  parsed_number 8589934590 txn.1

made_of : List Word → Option Done
made_of [] = None
made_of (first ∷ []) = option_map Made (parsed_item first)
made_of (first ∷ to ∷ []) = None
made_of (first ∷ to ∷ last ∷ words) = do
  first ← parsed_item first
  last ← last_of last
  Some (Several first (last - first.seq + 1))

named_of : (TxnId → BookFault) → List Word → Option StepFault
named_of meaning [] = None
named_of meaning (name ∷ []) = None
named_of meaning (name ∷ txn ∷ words) = option_map (λ t. Book (meaning t)) (parsed_txn txn)

abbrev fault_numbered : ℕ → List Word → Option StepFault
fault_numbered n words =
    if n == 1 then Some (Command NoCell)
    else if n == 2 then Some (Command NoItem)
    else if n == 3 then Some (Command NotShape)
    else if n == 4 then Some (Command FewPoints)
    else if n == 5 then Some (Command OutOfRange)
    else if n == 6 then Some (Command Cycle)
    else if n == 7 then Some (Command TooDeep)
    else if n == 8 then Some (Command TooMany)
    else if n == 10 then Some (Command TxnFull)
    else if n == 11 then Some (Command NoMemory)
    else if n == 12 then Some (Command CellThere)
    else if n == 13 then Some (Command CellUsed)
    else if n == 20 then Some (Book NoTxn)
    else if n == 21 then Some (Book NotLive)
    else if n == 22 then Some (Book StillLive)
    else if n == 23 then named_of Depends words
    else if n == 24 then named_of Moved words
    else if n == 25 then named_of Stale words
    else if n == 26 then Some (Book LogFull)
    else if n == 27 then Some (Book BookMemory)
    else if n == 28 then Some (Book Foreign)
    else if n == 30 then Some NoSession
    else if n == 31 then Some AlreadyOpen
    else if n == 32 then Some NotOpen
    else if n == 33 then Some (Book SessionFull)
    else None

fault_of : List Word → Option StepFault
fault_of [] = None
fault_of (number ∷ words) = parsed_number 255 number >>= λ n. fault_numbered n words

opened_of : List Word → Option Reply
opened_of [] = None
opened_of (txn ∷ words) = option_map Opened (parsed_number 65535 txn)

answer_named : Word → List Word → Option Reply
answer_named name words =
    if bytes_eq name (codes "opened") then opened_of words
    else if bytes_eq name (codes "made") then option_map CommandDone (made_of words)
    else if bytes_eq name (codes "empty") then Some (CommandDone Empty)
    else if bytes_eq name (codes "done") then Some (CommandDone Plain)
    else if bytes_eq name (codes "shape") then option_map (λ item. CommandDone (Found item)) (shape_of words)
    else if bytes_eq name (codes "placed") then option_map (λ item. CommandDone (Found item)) (placed_of words)
    else if bytes_eq name (codes "committed") then Some (Committed (record { session = 0; txn = 0 }))
    else if bytes_eq name (codes "cancelled") then Some Cancelled
    else if bytes_eq name (codes "undone") then Some Undone
    else if bytes_eq name (codes "redone") then Some Redone
    else if bytes_eq name (codes "fault") then option_map Fault (fault_of words)
    else None

answer_of : List Word → Option Reply
answer_of [] = None
answer_of (name ∷ words) = answer_named name words

-- ---- what is written is read

digits_no_bar : (text : List ℕ) → list_all is_digit text ≡ true → bytes_eq text (codes "/") ≡ false
digits_no_bar [] h = refl
digits_no_bar (b ∷ text) h =
    let first = (and_parts (is_digit b) (list_all is_digit text) h).0 in
    let other : (b == 47) ≡ false = grind (arith, nat_tests, first) in
    rw other refl

sign_no_bar : (z : ℤ) → IsCoordinate z → bytes_eq (signed_decimal z) (codes "/") ≡ false
sign_no_bar (pos n) is =
    let high : pos n ≤ℤ pos 2147483647 = is.high in
    digits_no_bar (decimal n) (decimal_is n (omega (arith, ints, high))).digits
sign_no_bar (negsuc n) is = refl

signed_no_bar : (p : Point) → IsPoint p → bytes_eq (signed_decimal p.x) (codes "/") ≡ false
signed_no_bar p is = sign_no_bar p.x is.column

points_read : (front ring : List Point) (more : List Word) → AllByRecursion IsPoint ring →
    rings_from front (flat_map point_words ring ++ more) ≡ rings_from (front ++ ring) more
points_read front [] more all = ap (λ f. rings_from f more) (sym (append-nil front))
points_read front (p ∷ ring) more all =
    let rest = flat_map point_words ring ++ more in
    ap (λ t. if t then option_map (λ rings. front ∷ rings) (rings_from [] (signed_decimal p.y ∷ rest))
    else (point_of (signed_decimal p.x) (signed_decimal p.y) >>= λ q. rings_from (front ++ q ∷ []) rest)) (signed_no_bar p all.0)
    ∙ ap (λ o. o >>= λ q. rings_from (front ++ q ∷ []) rest) (point_said p all.0)
    ∙ points_read (front ++ p ∷ []) ring more all.1
    ∙ ap (λ f. rings_from f more) (append_assoc front (p ∷ []) ring)

rings_read : (front ring : List Point) (rings : List (List Point)) → AllByRecursion IsPoint ring → AllByRecursion HasPoints rings →
    rings_from front (ring_words (ring ∷ rings)) ≡ Some ((front ++ ring) ∷ rings)
rings_read front ring [] first all = points_read front ring [] first
rings_read front ring ([] ∷ rings) first all = absurd (omega (arith, all.0.some))
rings_read front ring ((p ∷ next) ∷ rings) first all =
    points_read front ring (codes "/" ∷ ring_words ((p ∷ next) ∷ rings)) first
    ∙ ap (λ o. option_map (λ rs. (front ++ ring) ∷ rs) o) (rings_read [] (p ∷ next) rings all.0.points all.1)

all_rings_read : (rings : List (List Point)) → AllByRecursion HasPoints rings → rings_of (ring_words rings) ≡ Some rings
all_rings_read [] all = refl
all_rings_read ([] ∷ rings) all = absurd (omega (arith, all.0.some))
all_rings_read ((p ∷ ring) ∷ rings) all = rings_read [] (p ∷ ring) rings all.0.points all.1

point_first : (p : Point) → IsPoint p → leading_point (point_words p) ≡ Some (p, [])
unfolding leading_point
point_first p is = rw (coordinate_read p.x is.column, coordinate_read p.y is.row) refl

found_read : (item : Item) → CanShow item → answer_of (found_words item) ≡ Some (CommandDone (Found item))
unfolding answer_of answer_named shape_of placed_of
found_read (Shape cell layer rings) is = rw (cell_read cell is.0, is.1, all_rings_read rings is.2) refl
found_read (Placed cell target turn) is =
    rw (cell_read cell is.0, number_read MAX_SYMBOL target (omega arith) is.1, turning_read turn, point_first turn.shift is.2) refl

last_read : (id : ItemId) (n : ℕ) → IsItem id → n ≤ 8589934590 →
    last_of (item_word (record { session = id.session; txn = id.txn; seq = n })) ≡ Some n
unfolding last_of
last_read id n is most =
    rw (
      dot_read 64 id.session (decimal id.txn ++ 46 ∷ decimal n) (omega arith) is.session,
      dot_read 65535 id.txn (decimal n) (omega arith) is.txn,
      number_read 8589934590 n (omega arith) most,
    ) refl

several_read : (first : ItemId) (count : ℕ) → CanAnswer (Several first count) →
    answer_of (done_words (Several first count)) ≡ Some (CommandDone (Several first count))
unfolding answer_of answer_named made_of
several_read first count is =
    let seq = is.0.seq in
    let one : 1 ≤ count = is.1 in
    let most : count ≤ 4294967295 = is.2 in
    let within : first.seq + (count - 1) ≤ 8589934590 = omega (arith, seq, most) in
    let back : first.seq + (count - 1) - first.seq + 1 ≡ count = omega (arith, one) in
    rw (item_read first is.0, last_read first (first.seq + (count - 1)) is.0 within, back) refl

done_read : (done : Done) → CanAnswer done → answer_of (done_words done) ≡ Some (CommandDone done)
unfolding answer_of answer_named made_of
done_read (Made id) is = ap (λ o. option_map CommandDone (option_map Made o)) (item_read id is)
done_read (Several first count) is = several_read first count is
done_read Empty is = refl
done_read Plain is = refl
done_read (Found item) is = found_read item is

numbered : (n : ℕ) (more : List Word) → n ≤ 255 → fault_of (decimal n ∷ more) ≡ fault_numbered n more
unfolding fault_of
numbered n more few = ap (λ o. o >>= λ m. fault_numbered m more) (number_read 255 n (omega arith) few)

named_read : (meaning : TxnId → BookFault) (name : Word) (txn : TxnId) → IsTxn txn →
    named_of meaning (name ∷ txn_word txn ∷ []) ≡ Some (Book (meaning txn))
unfolding named_of
named_read meaning name txn is = ap (λ o. option_map (λ t. Book (meaning t)) o) (txn_read txn is)

fault_read : (fault : StepFault) → CanRefuse fault → fault_of (fault_words fault) ≡ Some fault
fault_read (Command NoCell) is = numbered 1 (codes "NoCell" ∷ []) (omega arith)
fault_read (Command NoItem) is = numbered 2 (codes "NoItem" ∷ []) (omega arith)
fault_read (Command NotShape) is = numbered 3 (codes "NotShape" ∷ []) (omega arith)
fault_read (Command FewPoints) is = numbered 4 (codes "FewPoints" ∷ []) (omega arith)
fault_read (Command OutOfRange) is = numbered 5 (codes "OutOfRange" ∷ []) (omega arith)
fault_read (Command Cycle) is = numbered 6 (codes "Cycle" ∷ []) (omega arith)
fault_read (Command TooDeep) is = numbered 7 (codes "TooDeep" ∷ []) (omega arith)
fault_read (Command TooMany) is = numbered 8 (codes "TooMany" ∷ []) (omega arith)
fault_read (Command TxnFull) is = numbered 10 (codes "TxnFull" ∷ []) (omega arith)
fault_read (Command NoMemory) is = numbered 11 (codes "NoMemory" ∷ []) (omega arith)
fault_read (Command CellThere) is = numbered 12 (codes "CellThere" ∷ []) (omega arith)
fault_read (Command CellUsed) is = numbered 13 (codes "CellUsed" ∷ []) (omega arith)
fault_read (Book NoTxn) is = numbered 20 (codes "NoTxn" ∷ []) (omega arith)
fault_read (Book NotLive) is = numbered 21 (codes "NotLive" ∷ []) (omega arith)
fault_read (Book StillLive) is = numbered 22 (codes "StillLive" ∷ []) (omega arith)
fault_read (Book LogFull) is = numbered 26 (codes "LogFull" ∷ []) (omega arith)
fault_read (Book BookMemory) is = numbered 27 (codes "NoMemory" ∷ []) (omega arith)
fault_read (Book Foreign) is = numbered 28 (codes "Foreign" ∷ []) (omega arith)
fault_read (Book SessionFull) is = numbered 33 (codes "SessionFull" ∷ []) (omega arith)
fault_read NoSession is = numbered 30 (codes "NoSession" ∷ []) (omega arith)
fault_read AlreadyOpen is = numbered 31 (codes "AlreadyOpen" ∷ []) (omega arith)
fault_read NotOpen is = numbered 32 (codes "NotOpen" ∷ []) (omega arith)
fault_read (Book (Depends txn)) is =
    numbered 23 (codes "Depends" ∷ txn_word txn ∷ []) (omega arith) ∙ named_read Depends (codes "Depends") txn is
fault_read (Book (Moved txn)) is =
    numbered 24 (codes "Moved" ∷ txn_word txn ∷ []) (omega arith) ∙ named_read Moved (codes "Moved") txn is
fault_read (Book (Stale txn)) is =
    numbered 25 (codes "Stale" ∷ txn_word txn ∷ []) (omega arith) ∙ named_read Stale (codes "Stale") txn is

-- a line doesn't say which transaction was committed
abbrev as_said : Reply → Reply
as_said (Opened txn) = Opened txn
as_said (CommandDone done) = CommandDone done
as_said (Committed txn) = Committed (record { session = 0; txn = 0 })
as_said Cancelled = Cancelled
as_said Undone = Undone
as_said Redone = Redone
as_said (Fault fault) = Fault fault

answer_read : (reply : Reply) → CanTell reply → answer_of (answer_words reply) ≡ Some (as_said reply)
unfolding answer_of answer_named opened_of
answer_read (Opened txn) is = ap (option_map Opened) (number_read 65535 txn (omega arith) is)
answer_read (CommandDone done) is = done_read done is
answer_read (Committed txn) is = refl
answer_read Cancelled is = refl
answer_read Undone is = refl
answer_read Redone is = refl
answer_read (Fault fault) is = ap (option_map Fault) (fault_read fault is)

-- ---- lines

abbrev line_words : ℕ → ℕ → Reply → List Word
line_words session step reply = decimal session ∷ decimal step ∷ answer_words reply

words_first : (reply : Reply) → (w : Word) × (ws : List Word) × (answer_words reply ≡ w ∷ ws)
words_first (Opened txn) = (codes "opened", decimal txn ∷ [], refl)
words_first (CommandDone (Made id)) = (codes "made", item_word id ∷ [], refl)
words_first (CommandDone (Several first count)) = (codes "made", _, refl)
words_first (CommandDone Empty) = (codes "empty", [], refl)
words_first (CommandDone Plain) = (codes "done", [], refl)
words_first (CommandDone (Found (Shape cell layer rings))) = (codes "shape", _, refl)
words_first (CommandDone (Found (Placed cell target turn))) = (codes "placed", _, refl)
words_first (Committed txn) = (codes "committed", [], refl)
words_first Cancelled = (codes "cancelled", [], refl)
words_first Undone = (codes "undone", [], refl)
words_first Redone = (codes "redone", [], refl)
words_first (Fault fault) = (codes "fault", fault_words fault, refl)

-- words in front of others
joined_front : (a b : Word) (ws : List Word) (w : Word) (vs : List Word) → ws ≡ w ∷ vs →
    spaced_words (a ∷ b ∷ ws) ≡ a ++ 32 ∷ (b ++ 32 ∷ spaced_words ws)
joined_front a b ws w vs is = rw is refl

line_joined : (session step : ℕ) (reply : Reply) →
    reply_text session step reply ≡ 40 ∷ (spaced_words (line_words session step reply) ++ codes ");\n")
unfolding reply_text
line_joined session step reply =
    let first = words_first reply in
    ap (λ t. 40 ∷ (t ++ codes ");\n")) (three (decimal session) (decimal step) (answer_text reply) 32 32)
    ∙ ap (λ t. 40 ∷ ((decimal session ++ 32 ∷ (decimal step ++ 32 ∷ t)) ++ codes ");\n")) (answer_joined reply)
    ∙ ap (λ t. 40 ∷ (t ++ codes ");\n"))
    (sym (joined_front (decimal session) (decimal step) (answer_words reply) first.0 first.1 first.2))

line_read : (session step : ℕ) (reply : Reply) → IsCount session → IsCount step → CanTell reply →
    words (spaced_words (line_words session step reply)) ≡ line_words session step reply
line_read session step reply first second is =
    words-spaced_words (line_words session step reply)
    (decimal_word session first, (decimal_word step second, answer_is_words reply is))

no_front : (a b : List ℕ) → 40 ∷ a ≡ 40 ∷ b → a ≡ b
no_front a b h = cc

words_same : (s k : Word) (ws : List Word) (t j : Word) (vs : List Word) → s ∷ k ∷ ws ≡ t ∷ j ∷ vs → (s ≡ t) × (k ≡ j) × (ws ≡ vs)
words_same s k ws t j vs h = (cc, cc, cc)

some_same : (a b : Reply) → Some a ≡ Some b → a ≡ b
some_same a b h = cc

-- replies that say the same are the same, or both are commits
alike : (a b : Reply) → as_said a ≡ as_said b → (a ≡ b) ⊎ (IsCommitted a × IsCommitted b)
alike (Opened x) (Opened y) h = inl h
alike (Opened x) (CommandDone y) h = absurd (cc)
alike (Opened x) (Committed y) h = absurd (cc)
alike (Opened x) Cancelled h = absurd (cc)
alike (Opened x) Undone h = absurd (cc)
alike (Opened x) Redone h = absurd (cc)
alike (Opened x) (Fault y) h = absurd (cc)
alike (CommandDone x) (Opened y) h = absurd (cc)
alike (CommandDone x) (CommandDone y) h = inl h
alike (CommandDone x) (Committed y) h = absurd (cc)
alike (CommandDone x) Cancelled h = absurd (cc)
alike (CommandDone x) Undone h = absurd (cc)
alike (CommandDone x) Redone h = absurd (cc)
alike (CommandDone x) (Fault y) h = absurd (cc)
alike (Committed x) (Opened y) h = absurd (cc)
alike (Committed x) (CommandDone y) h = absurd (cc)
alike (Committed x) (Committed y) h = inr (tt, tt)
alike (Committed x) Cancelled h = absurd (cc)
alike (Committed x) Undone h = absurd (cc)
alike (Committed x) Redone h = absurd (cc)
alike (Committed x) (Fault y) h = absurd (cc)
alike Cancelled (Opened y) h = absurd (cc)
alike Cancelled (CommandDone y) h = absurd (cc)
alike Cancelled (Committed y) h = absurd (cc)
alike Cancelled Cancelled h = inl h
alike Cancelled Undone h = absurd (cc)
alike Cancelled Redone h = absurd (cc)
alike Cancelled (Fault y) h = absurd (cc)
alike Undone (Opened y) h = absurd (cc)
alike Undone (CommandDone y) h = absurd (cc)
alike Undone (Committed y) h = absurd (cc)
alike Undone Cancelled h = absurd (cc)
alike Undone Undone h = inl h
alike Undone Redone h = absurd (cc)
alike Undone (Fault y) h = absurd (cc)
alike Redone (Opened y) h = absurd (cc)
alike Redone (CommandDone y) h = absurd (cc)
alike Redone (Committed y) h = absurd (cc)
alike Redone Cancelled h = absurd (cc)
alike Redone Undone h = absurd (cc)
alike Redone Redone h = inl h
alike Redone (Fault y) h = absurd (cc)
alike (Fault x) (Opened y) h = absurd (cc)
alike (Fault x) (CommandDone y) h = absurd (cc)
alike (Fault x) (Committed y) h = absurd (cc)
alike (Fault x) Cancelled h = absurd (cc)
alike (Fault x) Undone h = absurd (cc)
alike (Fault x) Redone h = absurd (cc)
alike (Fault x) (Fault y) h = inl h

pub lines_tell : (session step : ℕ) (a : Reply) (other turn : ℕ) (b : Reply) → IsCount session → IsCount step → CanTell a →
    IsCount other → IsCount turn → CanTell b → reply_text session step a ≡ reply_text other turn b →
    TellTheSame session step a other turn b
lines_tell session step a other turn b c1 c2 is c3 c4 too same =
    let texts = no_front (spaced_words (line_words session step a) ++ codes ");\n") (spaced_words (line_words other turn b) ++ codes ");\n")
    (sym (line_joined session step a) ∙ same ∙ line_joined other turn b) in
    let joint = append_cancel_right (spaced_words (line_words session step a)) (spaced_words (line_words other turn b)) (codes ");\n")
    texts in
    let equal : line_words session step a ≡ line_words other turn b =
    sym (line_read session step a c1 c2 is) ∙ ap words joint ∙ line_read other turn b c3 c4 too in
    let parts = words_same (decimal session) (decimal step) (answer_words a) (decimal other) (decimal turn) (answer_words b) equal in
    let said = some_same (as_said a) (as_said b) (sym (answer_read a is) ∙ ap answer_of parts.2 ∙ answer_read b too) in
    record {
      sessions = decimal_injective session other c1 c3 parts.0;
      steps = decimal_injective step turn c2 c4 parts.1;
      replies = alike a b said;
    }
